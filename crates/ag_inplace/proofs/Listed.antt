-- The directory of a page, place by place.
use Rattle.std.proofs.Common.{◌≡◌, ℕ, zero, suc, ◌+◌, ◌<◌, ◌≤◌, List, length, get_or, set, take, slice_index, refl, sym, ap, subst, ◌∙◌, inl, inr, arith}
use Rattle.std.proofs.lemmas.Bool.{cases_lt}
use Rattle.std.proofs.lemmas.List.{length-set, get_or-set_same, get_or-set_other, take_all, length-take}
use Rattle.std.proofs.lemmas.List.Sums.{sum_by_more, sum_by-take-le}
use Rattle.ag_model.specs.declared.value.Version.{Version}
use Rattle.ag_model.specs.declared.value.Change.TheVariants.{Del}
use Rattle.ag_model.specs.Sizes.{change_size, versions_size}
use Rattle.ag_page.proofs.Pages.{size-least}
use Rattle.ag_inplace.specs.declared.directory.Directory.{Directory}
use Rattle.ag_inplace.specs.Entries.{place_of, StandsAt}
use Rattle.ag_inplace.specs.Listing.{Lists}
use Rattle.ag_inplace.proofs.Fields.{change-least, change-most}

-- some version
abbrev pub no_version : Version
no_version = record { lsn = 0; txn = 0; commit = 0; key = 0; change = Del }

-- the places of the first versions are there
pub record IsFilledTo (ws : List Version) (k at : ℕ) (places : List ℕ) : Type 0 where
  pub place : at ≡ place_of ws k
  pub each : (j : ℕ) → j ≤ k → slice_index places j ≡ place_of ws j
  pub whole : length places ≡ 272

pub place-next : (ws : List Version) (k : ℕ) (d : Version) → k < length ws → place_of ws (k + 1) ≡ place_of ws k + change_size (get_or ws k d).change
place-next ws k d lt = omega (arith, sum_by_more (λ (v : Version). change_size v.change) ws k d lt)

pub place-most : (ws : List Version) (k : ℕ) → place_of ws k ≤ 32 + versions_size ws
place-most ws k = omega (arith, sum_by-take-le (λ (v : Version). change_size v.change) ws k)

pub place-last : (ws : List Version) → place_of ws (length ws) ≡ 32 + versions_size ws
place-last ws = ap (λ (z : List Version). 32 + versions_size z) (take_all (length ws) ws (omega arith))

pub filled-none : (ws : List Version) (places : List ℕ) → slice_index places 0 ≡ 32 → length places ≡ 272 → IsFilledTo ws 0 32 places
filled-none ws places e whole = record {
  place = refl;
  each = λ j le. (let z : j ≡ 0 = omega arith in ap (λ (n : ℕ). slice_index places n) z ∙ e ∙ ap (place_of ws) (sym z));
  whole = whole;
}

pub filled-more : (ws : List Version) (k at next : ℕ) (places : List ℕ) (d : Version) → k < length ws → k + 1 < 272 → next ≡ at + change_size (get_or ws k d).change → IsFilledTo ws k at places → IsFilledTo ws (k + 1) next (set places (k + 1) next)
filled-more ws k at next places d lt room e h =
    let many = h.whole in
    let here : next ≡ place_of ws (k + 1) = omega (arith, place-next ws k d lt, h.place) in
    record {
      place = here;
      each = λ j le. elim (cases_lt j (k + 1)) [
        | inl below ↦ get_or-set_other places (k + 1) j next 0 (λ z. absurd (omega arith)) ∙ h.each j (omega arith)
        | inr last ↦ (let z : j ≡ k + 1 = omega arith in ap (λ (n : ℕ). get_or (set places (k + 1) next) n 0) z ∙ get_or-set_same places (k + 1) next 0 (omega arith) ∙ here ∙ ap (place_of ws) (sym z))
      ];
      whole = length-set places (k + 1) next ∙ h.whole;
    }

-- ---- what a directory says

-- a directory lists at most 271 versions
pub lists-few : (bytes : List ℕ) (d : Directory) (ws : List Version) → Lists bytes d ws → length ws ≤ 271
lists-few bytes d ws h = few (length ws) refl
  where
    few : (n : ℕ) → length ws ≡ n → n ≤ 271
    few zero e = omega arith
    few (suc n) e =
        let last = h.stands n no_version (omega arith) in
        let room : place_of ws n + change_size (get_or ws n no_version).change ≤ 8176 = last.room in
        omega (arith, size-least (take n ws), length-take n ws, change-least (get_or ws n no_version).change)

-- the version of an index stands where the directory has it
pub listed-at : (bytes : List ℕ) (d : Directory) (ws : List Version) (k at : ℕ) → Lists bytes d ws → k < length ws → at ≡ slice_index d.places k → StandsAt bytes at (get_or ws k no_version)
listed-at bytes d ws k at h lt e = subst (λ (n : ℕ). StandsAt bytes n (get_or ws k no_version)) (sym (e ∙ h.places k (omega arith))) (h.stands k no_version lt)

-- what the directory says of one version
pub record ListsOne (d : Directory) (ws : List Version) (k : ℕ) : Type 0 where
  pub here : slice_index d.places k ≡ place_of ws k
  pub next : slice_index d.places (k + 1) ≡ place_of ws (k + 1)
  pub size : slice_index d.places (k + 1) ≡ slice_index d.places k + change_size (get_or ws k no_version).change
  pub short : change_size (get_or ws k no_version).change ≤ 94
  pub room : slice_index d.places (k + 1) ≤ 8176
  pub few : k < 271

pub lists-one : (bytes : List ℕ) (d : Directory) (ws : List Version) (k : ℕ) → Lists bytes d ws → k < length ws → ListsOne d ws k
lists-one bytes d ws k h lt =
    let w = get_or ws k no_version in
    let own = h.stands k no_version lt in
    let here = h.places k (omega arith) in
    let next = h.places (k + 1) (omega arith) in
    let after = place-next ws k no_version lt in
    let room : place_of ws k + change_size w.change ≤ 8176 = own.room in
    record {
      here = here;
      next = next;
      size = next ∙ after ∙ ap (λ (n : ℕ). n + change_size w.change) (sym here);
      short = change-most w.change own.spelled;
      room = omega (arith, next, after);
      few = omega (arith, lists-few bytes d ws h);
    }
