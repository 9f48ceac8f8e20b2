-- What the records of whole transactions use on the pages.
use Rattle.std.proofs.Common.{◌≡◌, ℕ, ◌+◌, ◌-◌, ◌<◌, ◌≤◌, List, [], ◌∷◌, ◌++◌, length, replicate, get_or, Bool, true, false, refl, ap, ◌∙◌, arith, length-set, zero-add}
use Rattle.std.specs.Prelude.{if◌then◌else◌, ◌==◌, ◌||◌}
use Rattle.std.specs.List.{AllByRecursion, flat_map, fold, list_any, enumerate_from}
use Rattle.std.proofs.lemmas.Bool.{false≢true, ne_eqb}
use Rattle.std.proofs.lemmas.List.{get_or-replicate, length-replicate}
use Rattle.std.proofs.lemmas.List.Sums.{sum_by-append}
use Rattle.std.proofs.lemmas.List.Folds.{list_any-append}
use Rattle.ag_model.specs.declared.value.Change.TheVariants.{Put as PutChange}
use Rattle.ag_model.specs.declared.value.Value.{Value}
use Rattle.ag_model.specs.declared.value.Version.{Version}
use Rattle.ag_model.specs.declared.record.Record.{Record}
use Rattle.ag_model.specs.declared.record.Record.TheVariants.{Put, Del, Commit, Abort, Trim, Term}
use Rattle.ag_model.specs.declared.event.Pair.{Pair}
use Rattle.ag_model.specs.Rows.{page_of}
use Rattle.ag_model.specs.Page.{commit_of, is_abort_of, version_here, version_by, all_versions}
use Rattle.ag_model.specs.Sizes.{change_size, versions_size}
use Rattle.ag_model.specs.Txns.{last_txn}
use Rattle.ag_rules.specs.SetEvent.{pair_size}
use Rattle.ag_built.specs.Whole.{is_commit_of, IsWholeRecord, IsWhole}
use Rattle.ag_node.specs.Room.{IsSetLog, spent, used_by, used_in}
use Rattle.ag_node.proofs.RoomUsed.{bytes_on, spent_on}
use Rattle.ag_node.proofs.RoomLog.{eqb_turn, is_uncommitted, one_committed, one_size}
use Rattle.ag_node.proofs.Whole.{whole_untrimmed, whole_known}

some_commit : (here later : Bool) (n commit : ℕ) → 0 < n → (later ≡ true → (commit == 0) ≡ false) → (here || later) ≡ true → ((if here then n else commit) == 0) ≡ false
some_commit true later n commit low f e = ne_eqb n 0 (λ z. omega (arith, low, z))
some_commit false later n commit low f e = f e

-- a transaction that has its Commit has the LSN of one
has_commit : (txn n : ℕ) (rs : List Record) → 0 < n → list_any (is_commit_of txn) rs ≡ true → (commit_of txn (enumerate_from n rs) == 0) ≡ false
has_commit txn n [] low e = absurd (false≢true e)
has_commit txn n (Put t key value ∷ rs) low e = has_commit txn (n + 1) rs (omega arith) e
has_commit txn n (Del t key ∷ rs) low e = has_commit txn (n + 1) rs (omega arith) e
has_commit txn n (Commit t listed ∷ rs) low e = some_commit (txn == t) (list_any (is_commit_of txn) rs) n _ low (has_commit txn (n + 1) rs (omega arith)) e
has_commit txn n (Abort t listed ∷ rs) low e = has_commit txn (n + 1) rs (omega arith) e
has_commit txn n (Trim page horizon ∷ rs) low e = has_commit txn (n + 1) rs (omega arith) e
has_commit txn n (Term term ∷ rs) low e = has_commit txn (n + 1) rs (omega arith) e

-- the versions that these records of a log add to a page
abbrev versions_by : ℕ → ℕ → List Record → ℕ → List Record → List Version
versions_by pages page all n rs = flat_map (version_by pages page all) (enumerate_from n rs)

all_committed : (pages page n : ℕ) (all rs : List Record) → AllByRecursion (IsWholeRecord all) rs → list_any is_uncommitted (versions_by pages page all n rs) ≡ false
all_committed pages page n all [] h = refl
all_committed pages page n all (Put txn key value ∷ rs) h =
    list_any-append is_uncommitted (version_here pages page all n (Put txn key value)) (versions_by pages page all (n + 1) rs)
    ∙ ap (λ b. b || list_any is_uncommitted (versions_by pages page all (n + 1) rs))
    (one_committed (page == page_of pages key) (list_any (is_abort_of txn) all) _ n txn key (PutChange value) (has_commit txn 1 all (omega arith) h.0))
    ∙ all_committed pages page (n + 1) all rs h.1
all_committed pages page n all (Del txn key ∷ rs) h = absurd h.0
all_committed pages page n all (Commit txn listed ∷ rs) h = all_committed pages page (n + 1) all rs h.1
all_committed pages page n all (Abort txn listed ∷ rs) h = absurd h.0
all_committed pages page n all (Trim trimmed horizon ∷ rs) h = absurd h.0
all_committed pages page n all (Term term ∷ rs) h = all_committed pages page (n + 1) all rs h.1

-- every version is committed
pub whole_committed : (pages page : ℕ) (rs : List Record) → IsWhole rs → list_any (λ v. v.commit == 0) (all_versions pages page rs) ≡ false
whole_committed pages page rs h = all_committed pages page 1 rs rs h

-- no transaction is aborted
none_aborted : (txn : ℕ) (all rs : List Record) → AllByRecursion (IsWholeRecord all) rs → list_any (is_abort_of txn) rs ≡ false
none_aborted txn all [] h = refl
none_aborted txn all (Put t key value ∷ rs) h = none_aborted txn all rs h.1
none_aborted txn all (Del t key ∷ rs) h = absurd h.0
none_aborted txn all (Commit t listed ∷ rs) h = none_aborted txn all rs h.1
none_aborted txn all (Abort t listed ∷ rs) h = absurd h.0
none_aborted txn all (Trim page horizon ∷ rs) h = absurd h.0
none_aborted txn all (Term term ∷ rs) h = none_aborted txn all rs h.1

-- no page comes or goes
used_by_length : (pages : ℕ) (used : List ℕ) (rs : List Record) → length (fold (used_by pages) used rs) ≡ length used
used_by_length pages used [] = refl
used_by_length pages used (Put txn key value ∷ rs) = used_by_length pages (spent pages used (record { key = key; value = value })) rs ∙ length-set used _ _
used_by_length pages used (Del txn key ∷ rs) = used_by_length pages used rs
used_by_length pages used (Commit txn listed ∷ rs) = used_by_length pages used rs
used_by_length pages used (Abort txn listed ∷ rs) = used_by_length pages used rs
used_by_length pages used (Trim page horizon ∷ rs) = used_by_length pages used rs
used_by_length pages used (Term term ∷ rs) = used_by_length pages used rs

pub used_in_length : (pages : ℕ) (rs : List Record) → length (used_in pages rs) ≡ pages
used_in_length pages rs = used_by_length pages (replicate pages 0) rs ∙ length-replicate pages 0

-- the bytes of what one Put adds to a page
put_size : (pages page n txn key : ℕ) (value : Value) (all : List Record) → list_any (is_abort_of txn) all ≡ false
    → versions_size (version_here pages page all n (Put txn key value)) ≡ bytes_on pages page (record { key = key; value = value })
put_size pages page n txn key value all quiet =
    let pair : Pair = record { key = key; value = value } in
    one_size (page == page_of pages key) (list_any (is_abort_of txn) all) _ n txn key pair quiet
    ∙ ap (λ b. if b then pair_size pair else 0) (eqb_turn page (page_of pages key))

-- the bytes used on a page grow by the versions that are added
used_more : (pages page n : ℕ) (used : List ℕ) (all rs : List Record) → 0 < pages → 16 ≤ page → length used ≡ pages → ((txn : ℕ) → list_any (is_abort_of txn) all ≡ false) → AllByRecursion (IsWholeRecord all) rs
    → get_or (fold (used_by pages) used rs) (page - 16) 0 ≡ get_or used (page - 16) 0 + versions_size (versions_by pages page all n rs)
used_more pages page n used all [] some low few quiet h = omega arith
used_more pages page n used all (Put txn key value ∷ rs) some low few quiet h =
    let pair : Pair = record { key = key; value = value } in
    let rest : List Version = versions_by pages page all (n + 1) rs in
    let more : get_or (fold (used_by pages) (spent pages used pair) rs) (page - 16) 0 ≡ get_or (spent pages used pair) (page - 16) 0 + versions_size rest = used_more pages page (n + 1) (spent pages used pair) all rs some low (length-set used _ _ ∙ few) quiet h.1 in
    let first : get_or (spent pages used pair) (page - 16) 0 ≡ get_or used (page - 16) 0 + bytes_on pages page pair = spent_on pages used pair page some few low in
    let both : versions_size (version_here pages page all n (Put txn key value) ++ rest) ≡ bytes_on pages page pair + versions_size rest
    = sum_by-append (λ (v : Version). change_size v.change) (version_here pages page all n (Put txn key value)) rest ∙ ap (λ x. x + versions_size rest) (put_size pages page n txn key value all (quiet txn)) in
    omega (arith, more, first, both)
used_more pages page n used all (Del txn key ∷ rs) some low few quiet h = absurd h.0
used_more pages page n used all (Commit txn listed ∷ rs) some low few quiet h = used_more pages page (n + 1) used all rs some low few quiet h.1
used_more pages page n used all (Abort txn listed ∷ rs) some low few quiet h = absurd h.0
used_more pages page n used all (Trim trimmed horizon ∷ rs) some low few quiet h = absurd h.0
used_more pages page n used all (Term term ∷ rs) some low few quiet h = used_more pages page (n + 1) used all rs some low few quiet h.1

-- what the Puts use on a page are the bytes of its versions
pub whole_used : (pages page : ℕ) (rs : List Record) → 0 < pages → IsWhole rs → 16 ≤ page → page < 16 + pages → get_or (used_in pages rs) (page - 16) 0 ≡ versions_size (all_versions pages page rs)
whole_used pages page rs some h low high =
    used_more pages page 1 (replicate pages 0) rs rs some low (length-replicate pages 0) (λ txn. none_aborted txn rs rs h) h
    ∙ ap (λ x. x + versions_size (all_versions pages page rs)) (get_or-replicate pages (page - 16) 0 0 (omega (arith, low, high)))
    ∙ zero-add _

-- whole transactions are a log that `set` can go on with
pub whole_set_log : (pages : ℕ) (rs : List Record) → 0 < pages → IsWhole rs → IsSetLog pages (last_txn rs) rs (used_in pages rs)
whole_set_log pages rs some h = record {
  known = whole_known rs;
  untrimmed = whole_untrimmed rs h;
  committed = λ page. whole_committed pages page rs h;
  room = λ page low high. whole_used pages page rs some h low high;
  few = used_in_length pages rs;
}
