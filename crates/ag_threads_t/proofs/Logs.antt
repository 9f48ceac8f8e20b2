-- The logs here are proper, and their stripes stand for the opening one.
use Rattle.std.proofs.Common.{◌≡◌, ℕ, zero, suc, ◌+◌, ◌<◌, ◌≤◌, Bool, true, false, cond, not, eqb, List, [], ◌∷◌, ◌++◌, length, take, get_or, refl, sym, ap, subst, ◌∙◌, arith, ◌⊎◌, inl, inr, ⊎_elim}
use Rattle.std.specs.List.{filter, flat_map, list_any, sum_by, enumerate_from}
use mathlib.Core.Option.{some, some-ne-none, some-injective}
use lib.ListN.{get_elem?}
use Rattle.std.proofs.lemmas.List.Sums.{sum_by-append, sum_by-cons}
use Rattle.std.proofs.lemmas.List.{length-append}
use Rattle.ag_model.specs.declared.record.Record.{Record}
use Rattle.ag_model.specs.declared.record.Record.TheVariants.{Put, Del, Commit, Abort, Trim, Term}
use Rattle.ag_model.specs.declared.value.PageValue.{PageValue}
use Rattle.ag_model.specs.declared.value.Value.{Value}
use Rattle.ag_model.specs.declared.value.Version.{Version}
use Rattle.ag_model.specs.Blocks.{with_block}
use Rattle.ag_model.specs.declared.value.Change.TheVariants.{Put as PutChange, Del as DelChange}
use Rattle.ag_model.specs.Page.{value, commit_of, version_by, is_abort_of, all_versions, numbered, horizons, is_trimmed_at}
use Rattle.ag_model.specs.Prefixes.{IsBlockEnd}
use Rattle.ag_model.specs.Proper.{IsProper}
use Rattle.ag_model.specs.Rows.{page_of}
use Rattle.ag_model.specs.Sizes.{change_size, versions_size}
use Rattle.ag_model.specs.Stripes.{Standing, StandsFor, opening_log}
use Rattle.ag_front.specs.Opens.{AreStripes, pages_of}
use Rattle.ag_threads_t.specs.Script.{most_added}
use Rattle.ag_threads_t.proofs.Pages.{standing_of, one_page}

size_kept : (p : Version → Bool) (vs : List Version) → versions_size (filter p vs) ≤ versions_size vs
size_kept p [] = omega arith
size_kept p (v ∷ vs) = go (p v) (size_kept p vs)
  where
    go : (b : Bool) → versions_size (filter p vs) ≤ versions_size vs → versions_size (cond b (v ∷ filter p vs) (filter p vs)) ≤ versions_size (v ∷ vs)
    go true h = omega (arith, sum_by-cons (λ (w : Version). change_size w.change) v (filter p vs), sum_by-cons (λ (w : Version). change_size w.change) v vs)
    go false h = omega (arith, sum_by-cons (λ (w : Version). change_size w.change) v vs)

one_version : (b a : Bool) (v : Version) → versions_size (cond b (cond a [] (v ∷ [])) []) ≤ change_size v.change
one_version true true v = omega arith
one_version true false v = omega arith
one_version false a v = omega arith

version_small : (pages page lsn : ℕ) (log : List Record) (r : Record) → versions_size (version_by pages page log (lsn, r)) ≤ most_added r
version_small pages page lsn log (Put t key v) = omega (arith, one_version (eqb page (page_of pages key)) (list_any (is_abort_of t) log) (record { lsn = lsn; txn = t; commit = commit_of t (numbered log); key = key; change = PutChange v }))
version_small pages page lsn log (Del t key) = omega (arith, one_version (eqb page (page_of pages key)) (list_any (is_abort_of t) log) (record { lsn = lsn; txn = t; commit = commit_of t (numbered log); key = key; change = DelChange }))
version_small pages page lsn log (Commit t listed) = omega arith
version_small pages page lsn log (Abort t listed) = omega arith
version_small pages page lsn log (Trim p h) = omega arith
version_small pages page lsn log (Term t) = omega arith

versions_small : (pages page k : ℕ) (log rs : List Record) → versions_size (flat_map (version_by pages page log) (enumerate_from k rs)) ≤ sum_by most_added rs
versions_small pages page k log [] = omega arith
versions_small pages page k log (r ∷ rs) =
    omega (
      arith,
      versions_small pages page (k + 1) log rs,
      version_small pages page k log r,
      sum_by-append (λ (w : Version). change_size w.change) (version_by pages page log (k, r)) (flat_map (version_by pages page log) (enumerate_from (k + 1) rs)),
      sum_by-cons most_added r rs,
    )

taken_small : (n : ℕ) (rs : List Record) → sum_by most_added (take n rs) ≤ sum_by most_added rs
taken_small zero rs = omega arith
taken_small (suc n) [] = omega arith
taken_small (suc n) (r ∷ rs) = omega (arith, taken_small n rs, sum_by-cons most_added r rs, sum_by-cons most_added r (take n rs))

-- a log of few changes has room on each page
pub room : (log : List Record) → sum_by most_added log ≤ 8144 → (n page : ℕ) → versions_size (value 16 log n page).versions ≤ 8144
unfolding value
room log small n page =
    omega (
      arith,
      taken_small n log,
      versions_small 16 page 1 (take n log) (take n log),
      size_kept (λ v. not (list_any (is_trimmed_at (all_versions 16 page (take n log)) v) (horizons page (take n log)))) (all_versions 16 page (take n log)),
    )

pub opening_proper : IsProper 16 opening_log
opening_proper = record {
  first = refl;
  terms = (omega arith, tt);
  each = (tt, tt);
  room = room opening_log.records (omega arith);
  ends = (omega arith, tt);
  last = refl;
  most = omega arith;
}

-- a transaction that puts key 5, and a Trim of the key's page
pub trim_proper : (v : Value) → v.len ≡ 2 → IsProper 16 (with_block opening_log (Put 1 5 v ∷ Commit 1 (21 ∷ []) ∷ Trim 21 3 ∷ []))
trim_proper v short = record {
  first = refl;
  terms = (omega arith, tt);
  each = (tt, (tt, ((refl, refl), (omega arith, tt))));
  room = room (Term 1 ∷ Put 1 5 v ∷ Commit 1 (21 ∷ []) ∷ Trim 21 3 ∷ []) (omega arith);
  ends = (omega arith, (omega arith, tt));
  last = refl;
  most = omega arith;
}

-- a page on which nothing was put
abbrev pub empty_page : ℕ → PageValue
empty_page page = record { page = page; lsn = 0; horizon = 0; versions = [] }

-- a list read at an index that is there
there : {A : Type 0} (l : List A) (i : ℕ) (a : A) → get_elem? l i ≡ some a → (i < length l) × ((d : A) → get_or l i d ≡ a)
there [] i a e = absurd (some-ne-none a (sym e))
there (x ∷ xs) zero a e = (omega arith, λ d. some-injective x a e)
there (x ∷ xs) (suc i) a e = let t = there xs i a e in (omega arith, t.1)

-- the place of the last is the length
snoc_at : {A : Type 0} (l : List A) (a b : A) (j n : ℕ) → length l ≡ n → get_elem? (l ++ a ∷ []) j ≡ some b → (get_elem? l j ≡ some b) ⊎ ((j ≡ n) × (a ≡ b))
snoc_at [] a b zero n len e = inr (len, some-injective a b e)
snoc_at [] a b (suc j) n len e = absurd (some-ne-none b (sym e))
snoc_at (x ∷ xs) a b zero n len e = inl e
snoc_at (x ∷ xs) a b (suc j) zero len e = absurd (omega arith)
snoc_at (x ∷ xs) a b (suc j) (suc n) len e = ⊎_elim inl (λ q. inr (ap suc q.0, q.1)) (snoc_at xs a b j n (omega arith) e)

-- so many new stripes, in order
abbrev pub AreNew : {T : Type 0} → (T → Standing) → List T → ℕ → Type 0
AreNew {T} standing ts n = (length ts ≡ n) × ((k : ℕ) (t : T) → get_elem? ts k ≡ some t → standing t ≡ standing_of k 1 1 (empty_page (16 + k)))

module _ {T : Type 0} (standing : T → Standing) where
  pub none_new : AreNew standing [] 0
  none_new = (refl, λ k t e. absurd (some-ne-none t (sym e)))

  pub next_new : (ts : List T) (n : ℕ) (t : T) → AreNew standing ts n → standing t ≡ standing_of n 1 1 (empty_page (16 + n)) → AreNew standing (ts ++ t ∷ []) (n + 1)
  next_new ts n t h is = (
    length-append ts (t ∷ []) ∙ (let a = h.0 in omega arith),
    λ k u e. ⊎_elim (h.1 k u) (λ (q : (k ≡ n) × (t ≡ u)). ap standing (sym q.1) ∙ is ∙ ap (λ (j : ℕ). standing_of j 1 1 (empty_page (16 + j))) (sym q.0)) (snoc_at ts t u k n h.0 e),
  )

  stands_new : (k : ℕ) → k < 16 → StandsFor (standing_of k 1 1 (empty_page (16 + k))) opening_log
  unfolding value
  stands_new k small = record {
    applied = refl;
    values = λ page own sound. ap empty_page (sym (one_page (standing_of k 1 1 (empty_page (16 + k))) page refl small own));
  }

  pub are_stripes : (ts : List T) → AreNew standing ts 16 → AreStripes standing opening_log ts 16
  are_stripes ts h = record {
    many = h.0;
    each = λ k t e. let is = h.1 k t e in record {
      numbered = ap (λ (s : Standing). s.number) is;
      paged = ap (λ (s : Standing). s.pages) is;
      at = refl;
      stands = subst (λ (s : Standing). StandsFor s opening_log) (sym is) (stands_new k (let a = (there ts k t e).0 in let b = h.0 in omega arith));
    };
    ends = λ k t e. let is = h.1 k t e in subst (λ (s : Standing). IsBlockEnd opening_log s.opening) (sym is) refl;
  }

  pub sixteen_pages : (ts : List T) → AreNew standing ts 16 → pages_of standing ts ≡ 16
  sixteen_pages [] h = (let a = h.0 in absurd (omega arith))
  sixteen_pages (t ∷ ts) h = ap (λ (s : Standing). s.pages) (h.1 0 t refl)
