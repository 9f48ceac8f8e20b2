-- What a chain of safe failovers keeps: up to a Commit to keep, the logs of its terms are the same.
use Rattle.std.specs.Prelude.{◌==◌, Option, Some, None, ◌&&◌, slice_get, nat_lt, nat_le}
use Rattle.std.proofs.Common.{◌≡◌, ℕ, zero, suc, ◌+◌, ◌-◌, ◌<◌, ◌≤◌, max, List, [], ◌∷◌, ◌++◌, length, take, Bool, true, false, refl, sym, ap, ◌∙◌, subst, arith, length-take-le}
use Rattle.std.specs.List.{AllByRecursion, filter, fold, list_any}
use Rattle.std.proofs.lemmas.Bool.{false≢true, eqb-true, leb-true, leb-false, ltb-true, lt-ltb, eq-eqb, and_parts}
use Rattle.ag_model.specs.declared.record.Record.{Record}
use Rattle.ag_model.specs.declared.record.Record.TheVariants.{Put, Del, Commit, Abort, Trim, Term}
use Rattle.ag_model.specs.declared.config.TermStart.{TermStart}
use Rattle.ag_rules.specs.Group.{Group, replica}
use Rattle.ag_rules.specs.Run.{Moment}
use Rattle.ag_rules.specs.KeptLaw.{Confirmed, confirmed_in, is_safe_into, to_keep, is_same_commit, last_confirmed}
use Rattle.ag_lists.proofs.Tests.{by_bool, if_has, and_three}
use Rattle.ag_lists.proofs.Each.{all_map, all_append, all_both}
use Rattle.ag_lists.proofs.Filters.{all_passing}
use Rattle.ag_ends.proofs.Records.{same_record}
use Rattle.ag_ends.specs.Starts.{starts_after}
use Rattle.ag_laws.specs.Prefix.{IsPrefixOf}
use Rattle.ag_laws.specs.Logs.{Logs}
use Rattle.ag_laws.proofs.Prefix.{prefix_refl, prefix_length}
use Rattle.ag_law_kept.specs.Known.{IsKnown}
use Rattle.ag_law_kept.specs.Past.{Past}
use Rattle.ag_law_kept.specs.Holds.{HasBegun, IsTaken, IsConfirmed, Holds}
use Rattle.ag_law_kept.proofs.Known.{known_less, same_beginning, get_within}

-- a Commit that is at this place of what was confirmed
abbrev pub Found : List Confirmed → Confirmed → Type 0
Found xs c = (i : ℕ) × (slice_get xs i ≡ Some c)

all_found : (xs : List Confirmed) → AllByRecursion (Found xs) xs
all_found [] = tt
all_found (x ∷ xs) = ((0, refl), all_map (Found xs) (Found (x ∷ xs)) (λ c f. (suc f.0, f.1)) xs (all_found xs))

-- what the log of term t has of a Commit
pub record KeptTo (logs : Logs) (t : ℕ) (c : Confirmed) : Type 0 where
  pub long : c.lsn ≤ length (logs t)
  pub same : (v : ℕ) → c.term ≤ v → v ≤ t → take c.lsn (logs v) ≡ take c.lsn (logs t)
  pub before : (i : ℕ) → slice_get (logs t) i ≡ Some (Term t) → c.lsn ≤ i

-- a Commit that a failover into term t has to keep
pub record InChain (past : Past) (logs : Logs) (g : Group) (all : List Confirmed) (t : ℕ) (c : Confirmed) : Type 0 where
  pub is : IsConfirmed past logs g.register c
  pub found : Found all c
  pub below : c.term < t
  pub reached : t ≤ g.register.term
  pub kept : 0 < length (logs t) → KeptTo logs t c

module _ (past : Past) (cs : List Confirmed) (ms : List Moment) (logs : Logs) (g : Group) (h : Holds past cs logs g) (safe : (t : ℕ) → past.safe t ≡ list_any (is_safe_into t) ms) (ahead : (t : ℕ) → g.register.term < t → past.safe t ≡ false) where
  -- what is known of the target is in its log, before the term's own record
  goes_over : (t f : ℕ) → t + 1 ≤ g.register.term → past.safe (t + 1) ≡ true → IsKnown (past.told (past.target (t + 1)) t) (logs t) f → 0 < length (logs (t + 1)) → (f ≤ length (logs (t + 1))) × (take f (logs t) ≡ take f (logs (t + 1))) × ((i : ℕ) → slice_get (logs (t + 1)) i ≡ Some (Term (t + 1)) → f ≤ i)
  goes_over t f low is_safe k some =
      let told : List Record = past.told (past.target (t + 1)) t in
      let i : IsTaken past logs t (replica g (past.target (t + 1))) = h.takens t (omega (arith, low)) is_safe in
      let over : IsPrefixOf (take f told) (logs (t + 1)) × ((j : ℕ) → slice_get (logs (t + 1)) j ≡ Some (Term (t + 1)) → f ≤ j) = i.kept some (logs t) (prefix_refl (logs t)) f k in
      let size : length (take f told) ≡ f = length-take-le f told k.0 in
      let long : f ≤ length (logs t) = omega (arith, size, prefix_length (take f told) (logs t) k.1) in
      let long2 : f ≤ length (logs (t + 1)) = omega (arith, size, prefix_length (take f told) (logs (t + 1)) over.0) in (
        long2,
        sym (same_beginning f told (logs t) (logs t) k.0 long k.1 (prefix_refl (logs t))) ∙ same_beginning f told (logs (t + 1)) (logs (t + 1)) k.0 long2 over.0 (prefix_refl (logs (t + 1))),
        over.1,
      )

  -- the same of a term's Commit, old or new, one term on
  one_on : (t : ℕ) (c : Confirmed) → t + 1 ≤ g.register.term → past.safe (t + 1) ≡ true → c.term ≤ t → IsKnown (past.told (past.target (t + 1)) t) (logs t) c.lsn → ((v : ℕ) → c.term ≤ v → v ≤ t → take c.lsn (logs v) ≡ take c.lsn (logs t)) → 0 < length (logs (t + 1)) → KeptTo logs (t + 1) c
  one_on t c low is_safe old k same some =
      let o : (c.lsn ≤ length (logs (t + 1))) × (take c.lsn (logs t) ≡ take c.lsn (logs (t + 1))) × ((i : ℕ) → slice_get (logs (t + 1)) i ≡ Some (Term (t + 1)) → c.lsn ≤ i) = goes_over t c.lsn low is_safe k some in
      record {
        long = o.0;
        same = λ v high up.
            by_bool (nat_le v t) (λ x. nat_le v t ≡ x → take c.lsn (logs v) ≡ take c.lsn (logs (t + 1)))
            (λ _ e. same v high (leb-true v t e) ∙ o.1)
            (λ _ e. let at : v ≡ t + 1 = omega (arith, up, leb-false v t e) in ap (λ u. take c.lsn (logs u)) at)
            refl;
        before = o.2;
      }

  old_on : (t : ℕ) → t + 1 ≤ g.register.term → past.safe (t + 1) ≡ true → (c : Confirmed) → InChain past logs g cs t c → InChain past logs g cs (t + 1) c
  old_on t low is_safe c p =
      let begun : HasBegun past logs t (past.target (t + 1)) = (h.takens t (omega (arith, low)) is_safe).begun in
      let within : begun.place < length (logs t) = get_within begun.place (logs t) (Term t) begun.is in
      let kept : KeptTo logs t c = p.kept (omega (arith, within)) in
      let k : IsKnown (past.told (past.target (t + 1)) t) (logs t) c.lsn = known_less (past.told (past.target (t + 1)) t) (logs t) c.lsn (begun.place + 1) (omega (arith, kept.before begun.place begun.is)) begun.known in
      record { is = p.is; found = p.found; below = omega (arith, p.below); reached = low; kept = one_on t c low is_safe (omega (arith, p.below)) k kept.same }

  new_on : (t : ℕ) → t + 1 ≤ g.register.term → past.safe (t + 1) ≡ true → (c : Confirmed) → Found cs c × IsConfirmed past logs g.register c → (c.term == t) ≡ true → InChain past logs g cs (t + 1) c
  new_on t low is_safe c p e =
      let at : c.term ≡ t = eqb-true c.term t e in
      let k : IsKnown (past.told (past.target (t + 1)) t) (logs t) c.lsn = subst (λ (u : ℕ). IsKnown (past.told (past.target (u + 1)) u) (logs u) c.lsn) at (p.1.took (omega (arith, at, low)) (ap (λ u. past.safe (u + 1)) at ∙ is_safe)) in
      record {
        is = p.1;
        found = p.0;
        below = omega (arith, at);
        reached = low;
        kept = one_on t c low is_safe (omega (arith, at)) k (λ v high up. let same : v ≡ t = omega (arith, high, up, at) in ap (λ u. take c.lsn (logs u)) same);
      }

  low_term : (t : ℕ) → past.safe t ≡ true → t ≤ g.register.term
  low_term t is_safe =
      by_bool (nat_le t g.register.term) (λ v. nat_le t g.register.term ≡ v → t ≤ g.register.term) (λ _ y. leb-true t g.register.term y)
      (λ _ y. absurd (false≢true (sym (ahead t (omega (arith, leb-false t g.register.term y))) ∙ is_safe))) refl

  -- over safe failovers alone
  pub chain_from : (c : Confirmed) → Found cs c × IsConfirmed past logs g.register c → (k : ℕ) → ((t : ℕ) → c.term < t → t ≤ c.term + 1 + k → list_any (is_safe_into t) ms ≡ true) → InChain past logs g cs (c.term + 1 + k) c
  chain_from c p zero all =
      let at : c.term + 1 + 0 ≡ c.term + 1 = omega arith in
      let is_safe : past.safe (c.term + 1) ≡ true = safe (c.term + 1) ∙ all (c.term + 1) (omega arith) (omega arith) in
      subst (λ (t : ℕ). InChain past logs g cs t c) (sym at) (new_on c.term (low_term (c.term + 1) is_safe) is_safe c p (eq-eqb c.term c.term refl))
  chain_from c p (suc k) all =
      let one : c.term + 1 + k + 1 ≡ c.term + 1 + suc k = omega arith in
      let is_safe : past.safe (c.term + 1 + k + 1) ≡ true = safe (c.term + 1 + k + 1) ∙ all (c.term + 1 + k + 1) (omega arith) (omega arith) in
      subst (λ (t : ℕ). InChain past logs g cs t c) one (old_on (c.term + 1 + k) (low_term (c.term + 1 + k + 1) is_safe) is_safe c (chain_from c p k (λ t high up. all t high (omega (arith, up)))))

  pub all_chained : AllByRecursion (λ c. Found cs c × IsConfirmed past logs g.register c) cs
  all_chained = all_both (Found cs) (IsConfirmed past logs g.register) cs (all_found cs) h.commits

module _ (past : Past) (ms : List Moment) (logs : Logs) (g : Group) (h : Holds past (confirmed_in ms) logs g) (safe : (t : ℕ) → past.safe t ≡ list_any (is_safe_into t) ms) (ahead : (t : ℕ) → g.register.term < t → past.safe t ≡ false) where
  pub chain : (t : ℕ) → AllByRecursion (InChain past logs g (confirmed_in ms) t) (to_keep ms t)
  chain zero = tt
  chain (suc t) =
      let one : t + 1 ≡ suc t = omega arith in
      if_has (AllByRecursion (InChain past logs g (confirmed_in ms) (suc t))) (list_any (is_safe_into (suc t)) ms) (to_keep ms t ++ filter (λ c. c.term == t) (confirmed_in ms)) []
      (λ e.
      let is_safe : past.safe (t + 1) ≡ true = ap past.safe one ∙ safe (suc t) ∙ e in
      let low : t + 1 ≤ g.register.term = low_term past (confirmed_in ms) ms logs g h safe ahead (t + 1) is_safe in
      subst (λ (u : ℕ). AllByRecursion (InChain past logs g (confirmed_in ms) u) (to_keep ms t ++ filter (λ c. c.term == t) (confirmed_in ms))) one
      (all_append (InChain past logs g (confirmed_in ms) (t + 1)) (to_keep ms t) (filter (λ c. c.term == t) (confirmed_in ms))
      (all_map (InChain past logs g (confirmed_in ms) t) (InChain past logs g (confirmed_in ms) (t + 1)) (old_on past (confirmed_in ms) ms logs g h safe ahead t low is_safe) (to_keep ms t) (chain t))
      (all_passing (λ c. Found (confirmed_in ms) c × IsConfirmed past logs g.register c) (InChain past logs g (confirmed_in ms) (t + 1)) (λ c. c.term == t) (new_on past (confirmed_in ms) ms logs g h safe ahead t low is_safe) (confirmed_in ms) (all_chained past (confirmed_in ms) ms logs g h safe ahead))))
      (λ _. tt)

-- the greatest term of those that pass
max_low : (q : Confirmed → Bool) (t d : ℕ) (xs : List Confirmed) → d < t → ((c : Confirmed) → q c ≡ true → c.term < t) → fold (λ last c. max last c.term) d (filter q xs) < t
max_low q t d [] h f = h
max_low q t d (x ∷ xs) h f =
    if_has (λ (ys : List Confirmed). fold (λ last c. max last c.term) d ys < t) (q x) (x ∷ filter q xs) (filter q xs)
    (λ e. max_low q t (max d x.term) xs (omega (arith, h, f x e)) f)
    (λ _. max_low q t d xs h f)

max_from : (q : Confirmed → Bool) (d : ℕ) (xs : List Confirmed) → d ≤ fold (λ last c. max last c.term) d (filter q xs)
max_from q d [] = omega arith
max_from q d (x ∷ xs) =
    if_has (λ (ys : List Confirmed). d ≤ fold (λ last c. max last c.term) d ys) (q x) (x ∷ filter q xs) (filter q xs)
    (λ _. omega (arith, max_from q (max d x.term) xs))
    (λ _. max_from q d xs)

max_high : (q : Confirmed → Bool) (d i : ℕ) (xs : List Confirmed) (c : Confirmed) → slice_get xs i ≡ Some c → q c ≡ true → c.term ≤ fold (λ last c. max last c.term) d (filter q xs)
max_high q d i [] c e t = absurd (cc)
max_high q d zero (x ∷ xs) c e t =
    let same : x ≡ c = cc in
    if_has (λ (ys : List Confirmed). c.term ≤ fold (λ last c. max last c.term) d ys) (q x) (x ∷ filter q xs) (filter q xs)
    (λ _. omega (arith, max_from q (max d x.term) xs, ap (λ (y : Confirmed). y.term) same))
    (λ f. absurd (false≢true (sym f ∙ ap q same ∙ t)))
max_high q d (suc i) (x ∷ xs) c e t =
    if_has (λ (ys : List Confirmed). c.term ≤ fold (λ last c. max last c.term) d ys) (q x) (x ∷ filter q xs) (filter q xs)
    (λ _. max_high q (max d x.term) i xs c e t)
    (λ _. max_high q d i xs c e t)

-- the same commit
same_commit : (o : Option Record) (r : Record) → o ≡ Some r → is_same_commit o o ≡ true
same_commit None r e = absurd (cc)
same_commit (Some x) r e = same_record x

get_some : (i : ℕ) (l : List Record) → i < length l → (x : Record) × (slice_get l i ≡ Some x)
get_some i [] h = absurd (omega (arith, h))
get_some zero (x ∷ l) h = (x, refl)
get_some (suc i) (x ∷ l) h = get_some i l (omega (arith, h))

-- where a Commit was confirmed last: not before it, and below the term
pub record LastIn (ms : List Moment) (t : ℕ) (c : Confirmed) : Type 0 where
  pub low : c.term ≤ last_confirmed ms t c
  pub high : last_confirmed ms t c < t

pub last_in : (ms : List Moment) (t : ℕ) (c : Confirmed) (r : Record) → Found (confirmed_in ms) c → c.term < t → c.commit ≡ Some r → LastIn ms t c
last_in ms t c r found below commit =
    let q : Confirmed → Bool = λ d. nat_lt d.term t && ((d.lsn == c.lsn) && is_same_commit d.commit c.commit) in
    record {
      low = max_high q 0 found.0 (confirmed_in ms) c found.1 (and_three (nat_lt c.term t) (c.lsn == c.lsn) (is_same_commit c.commit c.commit) (lt-ltb c.term t below) (eq-eqb c.lsn c.lsn refl) (same_commit c.commit r commit));
      high = max_low q t 0 (confirmed_in ms) (omega (arith, below)) (λ d e. ltb-true d.term t (and_parts _ _ e).0);
    }

-- a Commit that was confirmed is a record
pub commit_some : (logs : Logs) (c : Confirmed) → 0 < c.lsn → c.lsn ≤ length (logs c.term) → slice_get (logs c.term) (c.lsn - 1) ≡ c.commit → (r : Record) × (c.commit ≡ Some r)
commit_some logs c some within is = let g : (x : Record) × (slice_get (logs c.term) (c.lsn - 1) ≡ Some x) = get_some (c.lsn - 1) (logs c.term) (omega (arith, some, within)) in (g.0, sym is ∙ g.1)

later : (k : ℕ) (x : Record) (log : List Record) → AllByRecursion (λ (s : TermStart). (k + 1 < s.lsn) × (slice_get log (s.lsn - (k + 1 + 1)) ≡ Some (Term s.term))) (starts_after (k + 1) log) → AllByRecursion (λ (s : TermStart). (k < s.lsn) × (slice_get (x ∷ log) (s.lsn - (k + 1)) ≡ Some (Term s.term))) (starts_after (k + 1) log)
later k x log all =
    all_map (λ (s : TermStart). (k + 1 < s.lsn) × (slice_get log (s.lsn - (k + 1 + 1)) ≡ Some (Term s.term))) (λ (s : TermStart). (k < s.lsn) × (slice_get (x ∷ log) (s.lsn - (k + 1)) ≡ Some (Term s.term)))
    (λ s p. (omega (arith, p.0), (let one : s.lsn - (k + 1) ≡ suc (s.lsn - (k + 1 + 1)) = omega (arith, p.0) in ap (λ i. slice_get (x ∷ log) i) one ∙ p.1))) (starts_after (k + 1) log) all

-- where the starts of a log are
pub starts_are : (k : ℕ) (log : List Record) → AllByRecursion (λ (s : TermStart). (k < s.lsn) × (slice_get log (s.lsn - (k + 1)) ≡ Some (Term s.term))) (starts_after k log)
starts_are k [] = tt
starts_are k (Term t ∷ log) = ((omega arith, (let zero_is : k + 1 - (k + 1) ≡ 0 = omega arith in ap (λ i. slice_get (Term t ∷ log) i) zero_is)), later k (Term t) log (starts_are (k + 1) log))
starts_are k (Put t key v ∷ log) = later k (Put t key v) log (starts_are (k + 1) log)
starts_are k (Del t key ∷ log) = later k (Del t key) log (starts_are (k + 1) log)
starts_are k (Commit t ps ∷ log) = later k (Commit t ps) log (starts_are (k + 1) log)
starts_are k (Abort t ps ∷ log) = later k (Abort t ps) log (starts_are (k + 1) log)
starts_are k (Trim p h ∷ log) = later k (Trim p h) log (starts_are (k + 1) log)
