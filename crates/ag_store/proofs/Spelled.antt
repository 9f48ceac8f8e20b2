-- The records of a log that stands on a disk have spellings.
use Rattle.std.proofs.Common.{◌≡◌, ℕ, zero, suc, ◌-◌, Bool, true, List, [], ◌∷◌, ◌++◌, drop, leb, refl, sym, ap, ◌∙◌, subst}
use Rattle.std.specs.Prelude.{replicate, ◌&&◌}
use Rattle.std.specs.List.{fold}
use Rattle.std.proofs.lemmas.Bool.{le-leb}
use Rattle.ag_model.specs.declared.record.Log.{Log}
use Rattle.ag_model.specs.declared.record.Record.{Record}
use Rattle.ag_model.specs.declared.record.Record.TheVariants.{Put, Del, Commit, Abort, Trim, Term}
use Rattle.ag_model.specs.declared.value.Value.{Value}
use Rattle.ag_model.specs.declared.value.Change.TheVariants.{Put as PutChange}
use Rattle.ag_model.specs.Blocks.{with_block}
use Rattle.ag_outside.specs.Disks.{Image}
use Rattle.ag_page.specs.Spelling.{are_zero, has_spelling}
use Rattle.ag_record.specs.Spelling.{IsValue, HasSpelling, HaveSpelling}
use Rattle.ag_logstore.specs.Stored.{Stored, Place, AreStored, after_block, first_place, no_log}
use Rattle.ag_logstore.specs.LogOf.{IsLogOf}
use Rattle.ag_stripe.specs.Spelled.{IsSpelled, AreSpelled}

zeros-are : (n : ℕ) → are_zero (replicate n 0) ≡ true
zeros-are zero = refl
zeros-are (suc n) = zeros-are n

both : (a b : Bool) → a ≡ true → b ≡ true → (a && b) ≡ true
both a b p q = rw (p, q) refl

value-spelled : (v : Value) → IsValue v → has_spelling (PutChange v) ≡ true
value-spelled v is = both (leb v.len 64) (are_zero (drop v.len v.bytes)) (le-leb v.len 64 is.most) (ap are_zero is.zeros ∙ zeros-are (64 - v.len))

record-spelled : (r : Record) → HasSpelling r → IsSpelled r
record-spelled (Put txn key value) h = value-spelled value h.2
record-spelled (Del txn key) h = tt
record-spelled (Commit txn listed) h = tt
record-spelled (Abort txn listed) h = tt
record-spelled (Trim page horizon) h = tt
record-spelled (Term term) h = tt

pub records-spelled : (rs : List Record) → HaveSpelling rs → AreSpelled rs
records-spelled [] h = tt
records-spelled (r ∷ rs) h = (record-spelled r h.0, records-spelled rs h.1)

records-more : (first rs : List Record) → HaveSpelling first → HaveSpelling rs → HaveSpelling (first ++ rs)
records-more [] rs p h = h
records-more (x ∷ xs) rs p h = (p.0, records-more xs rs p.1 h)

blocks-fit : (image : Image) (cut incarnation : ℕ) (p : Place) (bs : List Stored) (log : Log) → HaveSpelling log.records → AreStored image cut incarnation p bs → HaveSpelling (fold (λ l b. with_block l b.records) log bs).records
blocks-fit image cut incarnation p [] log s stand = s
blocks-fit image cut incarnation p (b ∷ bs) log s stand =
    blocks-fit image cut incarnation (after_block p b) bs (with_block log b.records) (records-more log.records b.records s stand.0.stored.fits.fit) stand.1

pub log-fits : (image : Image) (cut incarnation : ℕ) (log : Log) → IsLogOf image cut incarnation log → HaveSpelling log.records
log-fits image cut incarnation log is =
    subst (λ (l : Log). HaveSpelling l.records) (sym is.is) (blocks-fit image cut incarnation first_place is.blocks no_log tt is.stand)
