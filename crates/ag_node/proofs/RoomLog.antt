-- How a log of `set` grows, and what its pages use.
use Rattle.std.proofs.Common.{◌≡◌, ◌≢◌, ℕ, ◌+◌, ◌-◌, ◌<◌, ◌≤◌, List, [], ◌∷◌, ◌++◌, length, map, replicate, get_or, Bool, true, false, refl, sym, ap, ◌∙◌, arith, zero-add}
use Rattle.std.specs.Prelude.{if◌then◌else◌, ◌==◌, ◌||◌}
use Rattle.std.specs.List.{AllByRecursion, flat_map, list_any, enumerate_from}
use Rattle.std.proofs.lemmas.Bool.{false≢true, ne_eqb}
use Rattle.std.proofs.lemmas.Bool.Decides.{nat_tests}
use Rattle.std.proofs.lemmas.List.{get_or-replicate, length-replicate}
use Rattle.std.proofs.lemmas.List.Sums.{sum_by-append}
use Rattle.std.proofs.Math.Bool.{or-false}
use Rattle.std.proofs.lemmas.List.Concat.{flat_map-append}
use Rattle.std.proofs.lemmas.List.Folds.{list_any-append}
use Rattle.ag_model.specs.declared.value.Change.{Change}
use Rattle.ag_model.specs.declared.value.Change.TheVariants.{Put as PutChange, Del as DelChange}
use Rattle.ag_model.specs.declared.value.Version.{Version}
use Rattle.ag_model.specs.declared.record.Record.{Record}
use Rattle.ag_model.specs.declared.record.Record.TheVariants.{Put, Del, Commit, Abort, Trim, Term}
use Rattle.ag_model.specs.declared.event.Pair.{Pair}
use Rattle.ag_model.specs.Rows.{page_of}
use Rattle.ag_model.specs.Page.{numbered, commit_here, commit_of, is_abort_of, version_of, version_here, version_by, all_versions}
use Rattle.ag_model.specs.Sizes.{change_size, versions_size}
use Rattle.ag_model.specs.Txns.{txn_of}
use Rattle.ag_rules.specs.SetEvent.{pair_size, taken_on, pages_of_pairs, records_of_set}
use Rattle.ag_node.specs.Room.{is_trim, IsSetLog, used_after}
use Rattle.ag_node.proofs.RoomUsed.{bytes_on, taken_on_cons, used_on, used_length}

-- the transactions of these records go up to `last`
abbrev pub KnownTo : ℕ → List Record → Type 0
KnownTo last log = AllByRecursion (λ (r : Record). AllByRecursion (λ t. t ≤ last) (txn_of r)) log

pub eqb_turn : (a b : ℕ) → (a == b) ≡ (b == a)
eqb_turn a b = grind (arith, nat_tests)

pub eqb_self : (a : ℕ) → (a == a) ≡ true
eqb_self a = grind (arith, nat_tests)

numbers_append : (n : ℕ) (xs ys : List Record) → enumerate_from n (xs ++ ys) ≡ enumerate_from n xs ++ enumerate_from (n + length xs) ys
numbers_append n [] ys = ap (λ k. enumerate_from k ys) (omega arith)
numbers_append n (x ∷ xs) ys = ap (λ zs. (n, x) ∷ zs) (numbers_append (n + 1) xs ys ∙ ap (λ k. enumerate_from (n + 1) xs ++ enumerate_from k ys) (omega arith))

-- the Puts of the pairs
abbrev pub puts_of : ℕ → List Pair → List Record
puts_of txn pairs = map (λ (pair : Pair). Put txn pair.key pair.value) pairs

-- the records of a `set` that lists these pages
abbrev pub new_of : ℕ → List Pair → List ℕ → List Record
new_of txn pairs listed = puts_of txn pairs ++ Commit txn listed ∷ []

-- no record of a `set` is an Abort
no_abort_in_new : (t txn : ℕ) (pairs : List Pair) (listed : List ℕ) → list_any (is_abort_of t) (new_of txn pairs listed) ≡ false
no_abort_in_new t txn [] listed = refl
no_abort_in_new t txn (pair ∷ pairs) listed = no_abort_in_new t txn pairs listed

-- nor a Trim
no_trim_in_new : (txn : ℕ) (pairs : List Pair) (listed : List ℕ) → list_any is_trim (new_of txn pairs listed) ≡ false
no_trim_in_new txn [] listed = refl
no_trim_in_new txn (pair ∷ pairs) listed = no_trim_in_new txn pairs listed

-- a log has no Abort of a later transaction
no_abort_in_old : (t last : ℕ) (log : List Record) → KnownTo last log → last < t → list_any (is_abort_of t) log ≡ false
no_abort_in_old t last [] k h = refl
no_abort_in_old t last (Put u key value ∷ log) k h = no_abort_in_old t last log k.1 h
no_abort_in_old t last (Del u key ∷ log) k h = no_abort_in_old t last log k.1 h
no_abort_in_old t last (Commit u listed ∷ log) k h = no_abort_in_old t last log k.1 h
no_abort_in_old t last (Abort u listed ∷ log) k h = let low : u ≤ last = k.0.0 in ap (λ b. b || list_any (is_abort_of t) log) (ne_eqb t u (λ e. omega arith)) ∙ no_abort_in_old t last log k.1 h
no_abort_in_old t last (Trim page horizon ∷ log) k h = no_abort_in_old t last log k.1 h
no_abort_in_old t last (Term term ∷ log) k h = no_abort_in_old t last log k.1 h

-- records with no Commit of the transaction change no commit
commit_stays : (t n : ℕ) (log new : List Record) → ((m : ℕ) → commit_of t (enumerate_from m new) ≡ 0) → commit_of t (enumerate_from n (log ++ new)) ≡ commit_of t (enumerate_from n log)
commit_stays t n [] new none = none n
commit_stays t n (r ∷ log) new none = ap (commit_here t r n) (commit_stays t (n + 1) log new none)

-- a `set` commits no other transaction
commit_of_other : (t txn n : ℕ) (pairs : List Pair) (listed : List ℕ) → t ≢ txn → commit_of t (enumerate_from n (new_of txn pairs listed)) ≡ 0
commit_of_other t txn n [] listed apart = ap (λ b. if b then n else 0) (ne_eqb t txn apart)
commit_of_other t txn n (pair ∷ pairs) listed apart = commit_of_other t txn (n + 1) pairs listed apart

-- it commits its own
commit_of_own : (txn n : ℕ) (pairs : List Pair) (listed : List ℕ) → 0 < n → (commit_of txn (enumerate_from n (new_of txn pairs listed)) == 0) ≡ false
commit_of_own txn n [] listed h = ap (λ b. (if b then n else 0) == 0) (eqb_self txn) ∙ ne_eqb n 0 (λ e. omega arith)
commit_of_own txn n (pair ∷ pairs) listed h = commit_of_own txn (n + 1) pairs listed (omega arith)

-- also after a log that has no Commit of it
commit_after : (t last n : ℕ) (log new : List Record) → KnownTo last log → last < t → ((m : ℕ) → 0 < m → (commit_of t (enumerate_from m new) == 0) ≡ false) → 0 < n → (commit_of t (enumerate_from n (log ++ new)) == 0) ≡ false
commit_after t last n [] new k h some low = some n low
commit_after t last n (Put u key value ∷ log) new k h some low = commit_after t last (n + 1) log new k.1 h some (omega arith)
commit_after t last n (Del u key ∷ log) new k h some low = commit_after t last (n + 1) log new k.1 h some (omega arith)
commit_after t last n (Commit u listed ∷ log) new k h some low =
    let up : u ≤ last = k.0.0 in
    ap (λ b. (if b then n else commit_of t (enumerate_from (n + 1) (log ++ new))) == 0) (ne_eqb t u (λ e. omega arith)) ∙ commit_after t last (n + 1) log new k.1 h some (omega arith)
commit_after t last n (Abort u listed ∷ log) new k h some low = commit_after t last (n + 1) log new k.1 h some (omega arith)
commit_after t last n (Trim page horizon ∷ log) new k h some low = commit_after t last (n + 1) log new k.1 h some (omega arith)
commit_after t last n (Term term ∷ log) new k h some low = commit_after t last (n + 1) log new k.1 h some (omega arith)

-- the version that a change makes with this commit, unless it is aborted
abbrev pub made : Bool → ℕ → ℕ → ℕ → ℕ → Change → List Version
made aborted commit lsn txn key change = if aborted then [] else record { lsn = lsn; txn = txn; commit = commit; key = key; change = change } ∷ []

-- what a log makes of the transactions that it knew stays
version_stays : (log new : List Record) (lsn t key : ℕ) (change : Change) → list_any (is_abort_of t) new ≡ false → ((m : ℕ) → commit_of t (enumerate_from m new) ≡ 0) → version_of (log ++ new) lsn t key change ≡ version_of log lsn t key change
version_stays log new lsn t key change quiet none =
    let aborts : list_any (is_abort_of t) (log ++ new) ≡ list_any (is_abort_of t) log = list_any-append (is_abort_of t) log new ∙ ap (λ b. list_any (is_abort_of t) log || b) quiet ∙ or-false _ in
    ap (λ b. made b (commit_of t (numbered (log ++ new))) lsn t key change) aborts
    ∙ ap (λ c. made (list_any (is_abort_of t) log) c lsn t key change) (commit_stays t 1 log new none)

-- what these records add to a page, in the sight of two logs that make the same of their transactions
versions_stay : (pages page last n : ℕ) (log all rs : List Record) → KnownTo last rs → ((lsn t key : ℕ) (change : Change) → t ≤ last → version_of all lsn t key change ≡ version_of log lsn t key change) → flat_map (version_by pages page all) (enumerate_from n rs) ≡ flat_map (version_by pages page log) (enumerate_from n rs)
versions_stay pages page last n log all [] k same = refl
versions_stay pages page last n log all (Put t key value ∷ rs) k same =
    ap (λ vs. (if page == page_of pages key then vs else []) ++ flat_map (version_by pages page all) (enumerate_from (n + 1) rs)) (same n t key (PutChange value) k.0.0)
    ∙ ap (λ ws. (if page == page_of pages key then version_of log n t key (PutChange value) else []) ++ ws) (versions_stay pages page last (n + 1) log all rs k.1 same)
versions_stay pages page last n log all (Del t key ∷ rs) k same =
    ap (λ vs. (if page == page_of pages key then vs else []) ++ flat_map (version_by pages page all) (enumerate_from (n + 1) rs)) (same n t key DelChange k.0.0)
    ∙ ap (λ ws. (if page == page_of pages key then version_of log n t key DelChange else []) ++ ws) (versions_stay pages page last (n + 1) log all rs k.1 same)
versions_stay pages page last n log all (Commit t listed ∷ rs) k same = versions_stay pages page last (n + 1) log all rs k.1 same
versions_stay pages page last n log all (Abort t listed ∷ rs) k same = versions_stay pages page last (n + 1) log all rs k.1 same
versions_stay pages page last n log all (Trim trimmed horizon ∷ rs) k same = versions_stay pages page last (n + 1) log all rs k.1 same
versions_stay pages page last n log all (Term term ∷ rs) k same = versions_stay pages page last (n + 1) log all rs k.1 same

-- what a `set` adds to a page at the end of a log
abbrev pub added : ℕ → ℕ → ℕ → List Record → ℕ → List Pair → List ℕ → List Version
added pages page n all txn pairs listed = flat_map (version_by pages page all) (enumerate_from n (new_of txn pairs listed))

-- the versions of a page after a `set`
versions_after : (pages page last txn : ℕ) (log : List Record) (pairs : List Pair) (listed : List ℕ) → KnownTo last log → last < txn → all_versions pages page (log ++ new_of txn pairs listed) ≡ all_versions pages page log ++ added pages page (1 + length log) (log ++ new_of txn pairs listed) txn pairs listed
versions_after pages page last txn log pairs listed k h =
    let new : List Record = new_of txn pairs listed in
    let f : ℕ × Record → List Version = version_by pages page (log ++ new) in
    ap (flat_map f) (numbers_append 1 log new)
    ∙ flat_map-append f (enumerate_from 1 log) (enumerate_from (1 + length log) new)
    ∙ ap (λ vs. vs ++ flat_map f (enumerate_from (1 + length log) new))
    (versions_stay pages page last 1 log (log ++ new) log k
    (λ lsn t key change low. version_stays log new lsn t key change (no_abort_in_new t txn pairs listed) (λ m. commit_of_other t txn m pairs listed (λ e. omega arith))))

abbrev pub is_uncommitted : Version → Bool
is_uncommitted v = v.commit == 0

pub one_committed : (here aborted : Bool) (commit lsn txn key : ℕ) (change : Change) → (commit == 0) ≡ false → list_any is_uncommitted (if here then made aborted commit lsn txn key change else []) ≡ false
one_committed false aborted commit lsn txn key change c = refl
one_committed true true commit lsn txn key change c = refl
one_committed true false commit lsn txn key change c = or-false _ ∙ c

-- what a `set` adds is committed
added_committed : (pages page n txn : ℕ) (all : List Record) (pairs : List Pair) (listed : List ℕ) → (commit_of txn (numbered all) == 0) ≡ false → list_any is_uncommitted (added pages page n all txn pairs listed) ≡ false
added_committed pages page n txn all [] listed c = refl
added_committed pages page n txn all (pair ∷ pairs) listed c =
    list_any-append is_uncommitted (version_here pages page all n (Put txn pair.key pair.value)) (added pages page (n + 1) all txn pairs listed)
    ∙ ap (λ b. b || list_any is_uncommitted (added pages page (n + 1) all txn pairs listed)) (one_committed (page == page_of pages pair.key) (list_any (is_abort_of txn) all) _ n txn pair.key (PutChange pair.value) c)
    ∙ added_committed pages page (n + 1) txn all pairs listed c

pub one_size : (here aborted : Bool) (commit lsn txn key : ℕ) (pair : Pair) → aborted ≡ false → versions_size (if here then made aborted commit lsn txn key (PutChange pair.value) else []) ≡ (if here then pair_size pair else 0)
one_size false aborted commit lsn txn key pair a = refl
one_size true true commit lsn txn key pair a = absurd (false≢true (sym a))
one_size true false commit lsn txn key pair a = zero-add _

-- the bytes that a `set` adds
added_size : (pages page n txn : ℕ) (all : List Record) (pairs : List Pair) (listed : List ℕ) → list_any (is_abort_of txn) all ≡ false → versions_size (added pages page n all txn pairs listed) ≡ taken_on pages page pairs
added_size pages page n txn all [] listed a = refl
added_size pages page n txn all (pair ∷ pairs) listed a =
    sum_by-append (λ (v : Version). change_size v.change) (version_here pages page all n (Put txn pair.key pair.value)) (added pages page (n + 1) all txn pairs listed)
    ∙ ap (λ x. x + versions_size (added pages page (n + 1) all txn pairs listed)) (one_size (page == page_of pages pair.key) (list_any (is_abort_of txn) all) _ n txn pair.key pair a)
    ∙ ap (λ b. (if b then pair_size pair else 0) + versions_size (added pages page (n + 1) all txn pairs listed)) (eqb_turn page (page_of pages pair.key))
    ∙ ap (λ x. bytes_on pages page pair + x) (added_size pages page (n + 1) txn all pairs listed a)
    ∙ sym (taken_on_cons pages page pair pairs)

pub all_map : {X : Type 0} (P Q : X → Type 0) → ((x : X) → P x → Q x) → (xs : List X) → AllByRecursion P xs → AllByRecursion Q xs
all_map P Q f [] p = tt
all_map P Q f (x ∷ xs) p = (f x p.0, all_map P Q f xs p.1)

pub all_append : {X : Type 0} (P : X → Type 0) (xs ys : List X) → AllByRecursion P xs → AllByRecursion P ys → AllByRecursion P (xs ++ ys)
all_append P [] ys p q = q
all_append P (x ∷ xs) ys p q = (p.0, all_append P xs ys p.1 q)

known_new : (txn : ℕ) (pairs : List Pair) (listed : List ℕ) → KnownTo txn (new_of txn pairs listed)
known_new txn [] listed = ((omega arith, tt), tt)
known_new txn (pair ∷ pairs) listed = ((omega arith, tt), known_new txn pairs listed)

-- the transactions go up by one
known_after : (last : ℕ) (log : List Record) (pairs : List Pair) (listed : List ℕ) → KnownTo last log → KnownTo (last + 1) (log ++ new_of (last + 1) pairs listed)
known_after last log pairs listed k =
    all_append (λ (r : Record). AllByRecursion (λ t. t ≤ last + 1) (txn_of r)) log (new_of (last + 1) pairs listed)
    (all_map _ (λ (r : Record). AllByRecursion (λ t. t ≤ last + 1) (txn_of r)) (λ r p. all_map (λ t. t ≤ last) (λ t. t ≤ last + 1) (λ t q. omega arith) (txn_of r) p) log k)
    (known_new (last + 1) pairs listed)

-- the log of an opened database
pub opening_is_set_log : (pages : ℕ) → 0 < pages → IsSetLog pages 0 (Term 1 ∷ []) (replicate pages 0)
opening_is_set_log pages some = record {
  known = (tt, tt);
  untrimmed = refl;
  committed = λ page. refl;
  room = λ page low high. get_or-replicate pages (page - 16) 0 0 (omega arith);
  few = length-replicate pages 0;
}

-- it stays such a log when pairs are set
pub set_log_grows : (pages last : ℕ) (log : List Record) (used : List ℕ) (pairs : List Pair) → 0 < pages → IsSetLog pages last log used → IsSetLog pages (last + 1) (log ++ records_of_set pages (last + 1) pairs) (used_after pages pairs used)
set_log_grows pages last log used pairs some is =
    let txn : ℕ = last + 1 in
    let listed : List ℕ = pages_of_pairs pages pairs in
    let new : List Record = new_of txn pairs listed in
    let all : List Record = log ++ new in
    let later : last < txn = omega arith in
    let more : (page : ℕ) → all_versions pages page all ≡ all_versions pages page log ++ added pages page (1 + length log) all txn pairs listed = λ page. versions_after pages page last txn log pairs listed is.known later in
    let quiet : list_any (is_abort_of txn) all ≡ false = list_any-append (is_abort_of txn) log new ∙ ap (λ b. b || list_any (is_abort_of txn) new) (no_abort_in_old txn last log is.known later) ∙ no_abort_in_new txn txn pairs listed in
    let ends : (commit_of txn (numbered all) == 0) ≡ false = commit_after txn last 1 log new is.known later (λ m h. commit_of_own txn m pairs listed h) (omega arith) in
    record {
      known = known_after last log pairs listed is.known;
      untrimmed = list_any-append is_trim log new ∙ ap (λ b. b || list_any is_trim new) is.untrimmed ∙ no_trim_in_new txn pairs listed;
      committed = λ page.
          ap (list_any is_uncommitted) (more page)
          ∙ list_any-append is_uncommitted (all_versions pages page log) (added pages page (1 + length log) all txn pairs listed)
          ∙ ap (λ b. b || list_any is_uncommitted (added pages page (1 + length log) all txn pairs listed)) (is.committed page)
          ∙ added_committed pages page (1 + length log) txn all pairs listed ends;
      room = λ page low high.
          let old : get_or used (page - 16) 0 ≡ versions_size (all_versions pages page log) = is.room page low high in
          let grown : versions_size (added pages page (1 + length log) all txn pairs listed) ≡ taken_on pages page pairs = added_size pages page (1 + length log) txn all pairs listed quiet in
          used_on pages pairs used page some is.few low
          ∙ ap (λ x. x + taken_on pages page pairs) old
          ∙ ap (λ x. versions_size (all_versions pages page log) + x) (sym grown)
          ∙ sym (sum_by-append (λ (v : Version). change_size v.change) (all_versions pages page log) (added pages page (1 + length log) all txn pairs listed))
          ∙ ap versions_size (sym (more page));
      few = used_length pages pairs used ∙ is.few;
    }
