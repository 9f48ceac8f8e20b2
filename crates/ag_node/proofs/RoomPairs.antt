-- That `set` is answered by the room of its pages.
use Rattle.std.proofs.Common.{◌≡◌, ℕ, ◌+◌, ◌-◌, ◌%◌, ◌<◌, ◌≤◌, List, [], ◌∷◌, ◌++◌, length, get_or, Bool, true, false, refl, sym, ap, ◌∙◌, subst, arith, length-append}
use Rattle.std.specs.Prelude.{if◌then◌else◌, ◌==◌, ◌&&◌, ◌||◌, not, nat_lt, Option, Some}
use Rattle.std.specs.List.{filter, list_any}
use Rattle.std.proofs.lemmas.Bool.{false≢true}
use Rattle.std.proofs.Math.Bool.{and-false}
use Rattle.std.proofs.lemmas.List.{take_all}
use Rattle.ag_model.specs.declared.value.Version.{Version}
use Rattle.ag_model.specs.declared.value.PageValue.{PageValue}
use Rattle.ag_model.specs.declared.record.Record.{Record}
use Rattle.ag_model.specs.declared.record.Record.TheVariants.{Put, Del, Commit, Abort, Trim, Term}
use Rattle.ag_model.specs.declared.event.Pair.{Pair}
use Rattle.ag_model.specs.declared.answer.Refusal.{Refusal}
use Rattle.ag_model.specs.declared.answer.Refusal.TheVariants.{Locked, PageFull}
use Rattle.ag_model.specs.Rows.{page_of}
use Rattle.ag_model.specs.Page.{value, all_versions, horizons, untrimmed}
use Rattle.ag_model.specs.Sizes.{versions_size, free_bytes}
use Rattle.ag_rules.specs.Replica.{Replica, records, full_log, full_end, effective}
use Rattle.ag_rules.specs.Plan.{Here, Part, unless, refused}
use Rattle.ag_rules.specs.Access.{access}
use Rattle.ag_rules.specs.PutEvent.{holders, first_txn}
use Rattle.ag_rules.specs.SetEvent.{pair_size, taken_on, checks_of_pair, pairs_pass}
use Rattle.ag_node.specs.Room.{is_trim, IsSetLog, room_left, first_full, unless_some}

none_of_both : (a b : Bool) → (a || b) ≡ false → (a ≡ false) × (b ≡ false)
none_of_both true b e = absurd (false≢true (sym e))
none_of_both false b e = (refl, e)

-- a log with no Trim has no horizons
no_horizons : (page : ℕ) (log : List Record) → list_any is_trim log ≡ false → horizons page log ≡ []
no_horizons page [] e = refl
no_horizons page (Put t key value ∷ log) e = no_horizons page log e
no_horizons page (Del t key ∷ log) e = no_horizons page log e
no_horizons page (Commit t listed ∷ log) e = no_horizons page log e
no_horizons page (Abort t listed ∷ log) e = no_horizons page log e
no_horizons page (Trim trimmed horizon ∷ log) e = absurd (false≢true (sym e))
no_horizons page (Term term ∷ log) e = no_horizons page log e

-- where there is no horizon, no version is left out
all_stay : (vs : List Version) → filter (λ (v : Version). true) vs ≡ vs
all_stay [] = refl
all_stay (v ∷ vs) = ap (λ ws. v ∷ ws) (all_stay vs)

-- the versions of a page whose log has no Trim
untrimmed_versions : (pages page n : ℕ) (log : List Record) → list_any is_trim log ≡ false → length log ≤ n → (value pages log n page).versions ≡ all_versions pages page log
unfolding value
untrimmed_versions pages page n log e h =
    ap (λ rs. untrimmed (horizons page rs) (all_versions pages page rs)) (take_all n log h)
    ∙ ap (λ hs. untrimmed hs (all_versions pages page log)) (no_horizons page log e)
    ∙ all_stay (all_versions pages page log)

-- committed versions lock no key
no_holders : (txn key : ℕ) (vs : List Version) → list_any (λ v. v.commit == 0) vs ≡ false → holders txn key vs ≡ []
no_holders txn key [] e = refl
no_holders txn key (v ∷ vs) e =
    let parts : ((v.commit == 0) ≡ false) × (list_any (λ v. v.commit == 0) vs ≡ false) = none_of_both _ _ e in
    ap (λ b. if (v.key == key) && (b && not (v.txn == txn)) then v ∷ holders txn key vs else holders txn key vs) parts.0
    ∙ ap (λ b. if b then v ∷ holders txn key vs else holders txn key vs) (and-false (v.key == key))
    ∙ no_holders txn key vs parts.1

one_by_room : (full : Bool) (why : Refusal) (others : Option Refusal) (r : Replica) (rest part : Part) → rest ≡ unless_some others r part → (if full then refused why r else rest) ≡ unless_some (if full then Some why else others) r part
one_by_room true why others r rest part e = refl
one_by_room false why others r rest part e = e

-- the bytes that a page of such a log has free
free_by_room : (h : Here) (r : Replica) (last : ℕ) (used : List ℕ) (pair : Pair) → 0 < h.pages → IsSetLog h.pages last (full_log r) used → (effective h.pages r (page_of h.pages pair.key)).versions ≡ all_versions h.pages (page_of h.pages pair.key) (full_log r) → free_bytes (effective h.pages r (page_of h.pages pair.key)) ≡ 8144 - get_or used (pair.key % h.pages) 0
free_by_room h r last used pair some is e =
    let page : ℕ = page_of h.pages pair.key in
    let slot : page - 16 ≡ pair.key % h.pages = omega arith in
    let room : get_or used (page - 16) 0 ≡ versions_size (all_versions h.pages page (full_log r)) = is.room page (omega arith) (omega arith) in
    let at : get_or used (pair.key % h.pages) 0 ≡ versions_size (all_versions h.pages page (full_log r)) = (let P : ℕ → Type 0 = λ s. get_or used s 0 ≡ versions_size (all_versions h.pages page (full_log r)) in subst P slot room) in
    ap (λ vs. 8144 - versions_size vs) e ∙ ap (λ x. 8144 - x) (sym at)

-- where every page can be accessed, pairs pass or are refused by the room of their pages alone
pub pairs_pass_by_room : (h : Here) (r : Replica) (used : List ℕ) (earlier pairs : List Pair) (part : Part) → 0 < h.pages → IsSetLog h.pages r.leading.last_txn (full_log r) used → ((p : ℕ) (part : Part) → 16 ≤ p → p < 16 + h.pages → access r p part ≡ part) → pairs_pass h r (r.leading.last_txn + 1) earlier pairs part ≡ unless_some (first_full h.pages used earlier pairs) r part
pairs_pass_by_room h r used earlier [] part some is accessed = refl
pairs_pass_by_room h r used earlier (pair ∷ pairs) part some is accessed =
    let txn : ℕ = r.leading.last_txn + 1 in
    let page : ℕ = page_of h.pages pair.key in
    let need : ℕ = pair_size pair in
    let v : PageValue = effective h.pages r page in
    let rest : Part = pairs_pass h r txn (earlier ++ pair ∷ []) pairs part in
    let e : v.versions ≡ all_versions h.pages page (full_log r) = untrimmed_versions h.pages page (full_end r) (full_log r) is.untrimmed (omega (arith, length-append (records r) r.leading.buffer)) in
    let none : holders txn pair.key v.versions ≡ [] = ap (holders txn pair.key) e ∙ no_holders txn pair.key (all_versions h.pages page (full_log r)) (is.committed page) in
    let free : free_bytes v ≡ 8144 - get_or used (pair.key % h.pages) 0 = free_by_room h r r.leading.last_txn used pair some is e in
    accessed page (unless (checks_of_pair h.pages txn earlier pair v) r rest) (omega arith) (omega arith)
    ∙ ap (λ hs. if nat_lt 0 (length hs) then refused (Locked (first_txn hs)) r else if nat_lt (free_bytes v - taken_on h.pages page earlier) need then refused (PageFull need (free_bytes v - taken_on h.pages page earlier)) r else rest) none
    ∙ ap (λ left. if nat_lt (left - taken_on h.pages page earlier) need then refused (PageFull need (left - taken_on h.pages page earlier)) r else rest) free
    ∙ one_by_room (nat_lt (room_left h.pages used earlier pair) need) (PageFull need (room_left h.pages used earlier pair)) (first_full h.pages used (earlier ++ pair ∷ []) pairs) r rest part
    (pairs_pass_by_room h r used (earlier ++ pair ∷ []) pairs part some is accessed)
