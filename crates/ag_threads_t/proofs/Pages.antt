-- The pages of the stripes of one page.
use Rattle.std.proofs.Common.{◌≡◌, ℕ, ◌+◌, ◌-◌, ◌^◌, ◌<◌, ◌≤◌, Bool, true, false, cond, ◌&&◌, eqb, List, [], ◌∷◌, ◌++◌, length, get_or, take, refl, sym, ap, subst, ◌∙◌, inl, inr, arith}
use Rattle.std.specs.Prelude.{Some, None, slice_get, Result, Ok, Err, MatchResult}
use mathlib.Core.Logic.{dite}
use native.Mathlib.Decide.{dec_le}
use Rattle.ag_model.specs.declared.value.Row.{Row}
use Rattle.ag_model.specs.declared.value.TooOld.{TooOld}
use Rattle.std.proofs.lemmas.Bool.{or_cases, eqb-true}
use Rattle.std.proofs.lemmas.Option.{slice_get-get_or}
use Rattle.std.proofs.lemmas.List.{length-append, length-take, get_or-append-add, get_or-take}
use Rattle.ag_model.specs.declared.message.Block.{Block}
use Rattle.ag_model.specs.declared.record.Log.{Log}
use Rattle.ag_model.specs.declared.record.Record.{Record}
use Rattle.ag_model.specs.declared.value.Change.{Change}
use Rattle.ag_model.specs.declared.value.Change.TheVariants.{Put as PutChange, Del as DelChange}
use Rattle.ag_model.specs.declared.value.PageValue.{PageValue}
use Rattle.ag_model.specs.declared.value.Version.{Version}
use Rattle.ag_model.specs.Blocks.{with_block}
use Rattle.ag_model.specs.Page.{value, pick, greatest}
use Rattle.ag_model.specs.Prefixes.{end_of, IsBlockEnd}
use Rattle.ag_model.specs.Rows.{page_of, touches, contains}
use Rattle.ag_model.specs.Stripes.{Standing, StandsFor, IsPageOf, IsNextBlock}
use Rattle.ag_model.proofs.Prefixes.{end_positive, end_low}
use Rattle.ag_version.specs.Picking.{row_for, row_or, own_versions}
use Rattle.ag_version.specs.Steps.{AreProper, IsAt, record_of}
use Rattle.ag_version.proofs.Untouched.{untouched-value}

-- a record that doesn't touch a page leaves its value
pub stays : (page lsn : ℕ) (log : List Record) (r : Record) (v : PageValue) → AreProper 16 log → 16 ≤ page → page < 32 → IsAt log lsn r → touches 16 page r ≡ false → v ≡ value 16 log (lsn - 1) page → v ≡ value 16 log lsn page
stays page lsn log r v proper low high at off is = is ∙ sym (untouched-value 16 page lsn log r low high proper at off)

pub touches_change : (page txn key : ℕ) (change : Change) → touches 16 page (record_of txn key change) ≡ eqb page (page_of 16 key)
touches_change page txn key (PutChange v) = refl
touches_change page txn key DelChange = refl

-- a reader with no transaction of its own picks
kept_none : (b : Bool) (w : Version) (ws : List Version) → ws ≡ [] → cond (b && false) (w ∷ ws) ws ≡ []
kept_none true w ws e = e
kept_none false w ws e = e

no_own : (key : ℕ) (vs : List Version) → own_versions None key vs ≡ []
no_own key [] = refl
no_own key (w ∷ ws) = kept_none (eqb w.key key) w (own_versions None key ws) (no_own key ws)

pub row_for_pick : (v : PageValue) (key snapshot : ℕ) → row_for v key snapshot None ≡ pick v key snapshot
row_for_pick v key snapshot = ap (λ (vs : List Version). row_or (greatest vs) (pick v key snapshot)) (no_own key v.versions)

-- the records of the next block, by their LSNs
pub record_there : (s : Standing) (log : Log) (block : Block) → IsNextBlock s log block → (i : ℕ) (d : Record) → i < length block.records → IsAt log.records (s.applied + i + 1) (get_or block.records i d)
record_there s log block h i d lt =
    let b = h.stands_in in
    let n : ℕ = length b.before.records in
    let at : n ≡ s.applied = (let f = b.first in let g = h.next in omega arith) in
    let whole : b.before.records ++ block.records ≡ take (length (b.before.records ++ block.records)) log.records = ap (λ (l : Log). l.records) b.with_it.cut in
    let size = length-append b.before.records block.records in
    let long = ap length whole in
    let inside : n + i < length log.records = omega (arith, length-take (length (b.before.records ++ block.records)) log.records) in
    let is : get_or log.records (n + i) d ≡ get_or block.records i d =
    sym (get_or-take (length (b.before.records ++ block.records)) log.records (n + i) d (omega arith)) ∙ ap (λ (rs : List Record). get_or rs (n + i) d) (sym whole) ∙ get_or-append-add b.before.records block.records i d in
    let place : n + i ≡ s.applied + i + 1 - 1 = omega arith in
    (omega arith, ap (slice_get log.records) (sym place) ∙ slice_get-get_or log.records (n + i) d inside ∙ ap Some is)

-- where the next block ends
pub next_end : (s : Standing) (log : Log) (block : Block) → IsNextBlock s log block → IsBlockEnd log (s.applied + length block.records)
next_end s log block h =
    let b = h.stands_in in
    let at : end_of b.before ≡ s.applied = (let f = b.first in let g = h.next in omega arith) in
    let size : end_of (with_block b.before block.records) ≡ s.applied + length block.records = length-append b.before.records block.records ∙ ap (λ (n : ℕ). n + length block.records) at in
    let some = end_positive s.pages log s.applied h.proper h.stands.applied in
    elim (or_cases (eqb (end_of (with_block b.before block.records)) 0) (contains (end_of (with_block b.before block.records)) log.ends) b.with_it.end) [
      | inl z ↦ (let e = eqb-true (end_of (with_block b.before block.records)) 0 z in absurd (omega arith))
      | inr c ↦ subst (IsBlockEnd log) size c
    ]

-- the one page of a stripe
pub one_page : (s : Standing) (page : ℕ) → s.pages ≡ 16 → s.number < 16 → IsPageOf s page → page ≡ 16 + s.number
one_page s page sixteen small h = let a = h.low in let b = h.high in let c = h.stripe in omega arith

-- what `row_at` of a page answers, by cases
pub read_so : (v : PageValue) (key snapshot : ℕ) (r : Result Row TooOld) → (v.horizon ≤ snapshot → r ≡ Ok (row_for v key snapshot None)) → (snapshot < v.horizon → r ≡ Err (record { snapshot = snapshot; horizon = v.horizon }))
    → MatchResult r (λ row. (v.horizon ≤ snapshot) × (row ≡ pick v key snapshot)) (λ e. (snapshot < v.horizon) × (e ≡ record { snapshot = snapshot; horizon = v.horizon }))
read_so v key snapshot r row old =
    let P : Result Row TooOld → Type 0 = λ x. MatchResult x (λ w. (v.horizon ≤ snapshot) × (w ≡ pick v key snapshot)) (λ e. (snapshot < v.horizon) × (e ≡ record { snapshot = snapshot; horizon = v.horizon })) in
    dite (dec_le v.horizon snapshot)
    (λ le. subst P (sym (row le)) (le, row_for_pick v key snapshot))
    (λ not. let lt : snapshot < v.horizon = omega arith in subst P (sym (old lt)) (lt, refl))

-- a stripe of one page
abbrev pub standing_of : ℕ → ℕ → ℕ → PageValue → Standing
standing_of number opening applied v = record { number = number; pages = 16; opening = opening; applied = applied; value = λ page. v; is_bad = λ page. false; is_pending = λ page. false }

-- once its page is redone, it stands for what the block adds
pub stands_then : (number opening applied n : ℕ) (v v' : PageValue) (block : Block) (records : List Record) → number < 16 → v.page ≡ 16 + number → records ≡ block.records
    → ((log : List Record) → AreProper 16 log → 16 ≤ v.page → v.page < 32 → ((i : ℕ) (d : Record) → i < length records → IsAt log (applied + i + 1) (get_or records i d)) → v ≡ value 16 log applied v.page → v' ≡ value 16 log (applied + length records) v.page)
    → n ≡ applied + length records → (log : Log) → IsNextBlock (standing_of number opening applied v) log block → StandsFor (standing_of number opening n v') log
stands_then number opening applied n v v' block records small own_page same redone end log h =
    let s = standing_of number opening applied v in
    let n_is : applied + length block.records ≡ n = ap (λ (rs : List Record). applied + length rs) (sym same) ∙ sym end in
    record {
      applied = subst (IsBlockEnd log) n_is (next_end s log block h);
      values = λ page own sound.
          let is : page ≡ v.page = one_page s page refl small (record { low = own.low; high = own.high; stripe = own.stripe }) ∙ sym own_page in
          let before : v ≡ value 16 log.records applied v.page = h.stands.values page (record { low = own.low; high = own.high; stripe = own.stripe }) refl ∙ ap (value 16 log.records applied) is in
          redone log.records h.proper.each (omega arith) (omega arith)
          (subst (λ (rs : List Record). (i : ℕ) (d : Record) → i < length rs → IsAt log.records (applied + i + 1) (get_or rs i d)) (sym same) (record_there s log block h)) before
          ∙ (λ k. value 16 log.records (sym end k) (sym is k));
    }

-- a log has room for the next block
pub next_room : (s : Standing) (log : Log) (block : Block) → IsNextBlock s log block → s.applied + length block.records ≤ 2 ^ 63
next_room s log block h = let most = h.proper.most in omega (arith, end_low s.pages log (s.applied + length block.records) h.proper (next_end s log block h))
