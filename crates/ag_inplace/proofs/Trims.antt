-- The heads of versions, and what a Trim leaves by them.
use Rattle.std.proofs.Common.{◌≡◌, ℕ, ◌+◌, ◌<◌, ◌≤◌, Bool, false, ◌||◌, List, length, get_or, map, take, sym, ap, ◌∙◌, arith}
use Rattle.std.specs.List.{list_any}
use Rattle.std.proofs.lemmas.List.{length-map, get_or-map, take_all}
use Rattle.std.proofs.lemmas.List.Folds.{list_any_more}
use Rattle.ag_model.specs.declared.value.Version.{Version}
use Rattle.ag_inplace.specs.declared.trimming.Head.{Head}
use Rattle.ag_inplace.specs.Heads.{head_of}
use Rattle.ag_inplace.proofs.Listed.{no_version}

-- the head of an index is that of the version of that index
pub head-at : (heads : List Head) (ws : List Version) (i : ℕ) (d : Head) → heads ≡ map head_of ws → i < length heads → get_or heads i d ≡ head_of (get_or ws i no_version)
head-at heads ws i d is lt =
    let many : length heads ≡ length ws = ap (λ (z : List Head). length z) is ∙ length-map ws head_of in
    ap (λ (z : List Head). get_or z i d) is ∙ get_or-map head_of ws i no_version d (omega arith)

pub many-heads : (heads : List Head) (ws : List Version) → heads ≡ map head_of ws → length heads ≡ length ws
many-heads heads ws is = ap (λ (z : List Head). length z) is ∙ length-map ws head_of

pub none-more : (p : Version → Bool) (ws : List Version) (i : ℕ) → i < length ws → p (get_or ws i no_version) ≡ false → list_any p (take i ws) ≡ false → list_any p (take (i + 1) ws) ≡ false
none-more p ws i lt here before = list_any_more p ws i no_version lt ∙ ap (λ (b : Bool). b || p (get_or ws i no_version)) before ∙ here

pub none-all : (p : Version → Bool) (ws : List Version) (i : ℕ) → length ws ≤ i → list_any p (take i ws) ≡ false → list_any p ws ≡ false
none-all p ws i le before = ap (list_any p) (sym (take_all i ws le)) ∙ before
