-- The modes of some values, value by value.
use Rattle.std.specs.Prelude.{if◌then◌else◌}
use Rattle.std.proofs.Common.{◌≡◌, ℕ, List, [], ◌∷◌, ◌++◌, Bool, true, false, Option, Some, None, option_map, is_some, map, ◌+◌}
use Rattle.std.proofs.Common.{◌<◌, ◌≤◌, length, get_or, drop, refl, sym, ap, ◌∙◌, append_assoc, append-nil, arith, nat_le, ◌⊎◌, inl, inr}
use Rattle.std.proofs.lemmas.Bool.{le-leb, lt-leb}
use Rattle.std.proofs.lemmas.List.{drop_more, drop_all, length-map}
use Rattle.std.specs.List.{list_all, filter_map}
use Rattle.ag_model.specs.declared.config.Mode.{Mode}
use Rattle.toml.specs.Data.{Data}
use Rattle.toml.specs.View.{view, items_view}
use Rattle.toml.specs.declared.value.Value.{Value}
use Rattle.ag_config.specs.Head.{mode_in, each_mode, modes_of, values_of}

-- the values that an array is seen as
pub values_seen : (vs : List Value) → values_of (items_view vs) ≡ map view vs
values_seen [] = refl
values_seen (v ∷ vs) = ap (λ ds. view v ∷ ds) (values_seen vs)

-- the modes found so far, before those of the values that are left
abbrev pub modes_with : List Mode → List Data → Option (List Mode)
modes_with modes ds = option_map (λ more. modes ++ more) (each_mode ds)

-- a value that is no mode's word
pub none_with : (modes : List Mode) (d : Data) (ds : List Data) → mode_in d ≡ None → modes_with modes (d ∷ ds) ≡ None
none_with modes d ds e = rw e

joined : (b : Bool) (modes more : List Mode) (m : Mode) →
    option_map (λ rest. modes ++ rest) (if b then Some (m ∷ more) else None) ≡ option_map (λ rest. (modes ++ m ∷ []) ++ rest) (if b then Some more else None)
joined true modes more m = ap Some (rw append_assoc)
joined false modes more m = refl

-- a value that is
pub some_with : (modes : List Mode) (d : Data) (ds : List Data) (m : Mode) → mode_in d ≡ Some m → modes_with modes (d ∷ ds) ≡ modes_with (modes ++ m ∷ []) ds
some_with modes d ds m e = rw e (joined (list_all (λ x. is_some (mode_in x)) ds) modes (filter_map mode_in ds) m)

-- one more value of an array was the word of a mode
pub goes_on : (vs : List Value) (i : ℕ) (v : Value) (modes : List Mode) (m : Mode) → i < length vs → v ≡ get_or vs i v → mode_in (view v) ≡ Some m
    → each_mode (map view vs) ≡ modes_with modes (map view (drop i vs)) → each_mode (map view vs) ≡ modes_with (modes ++ m ∷ []) (map view (drop (i + 1) vs))
goes_on vs i v modes m h is found so_far =
    let split : drop i vs ≡ v ∷ drop (i + 1) vs = drop_more vs i v h ∙ ap (λ x. x ∷ drop (i + 1) vs) (sym is) in
    so_far ∙ (ap (λ rest. modes_with modes (map view rest)) split ∙ some_with modes (view v) (map view (drop (i + 1) vs)) m found)

-- one was no mode's word
pub stops : (vs : List Value) (i : ℕ) (v : Value) (modes : List Mode) → i < length vs → v ≡ get_or vs i v → mode_in (view v) ≡ None
    → each_mode (map view vs) ≡ modes_with modes (map view (drop i vs)) → None ≡ each_mode (values_of (items_view vs))
stops vs i v modes h is found so_far =
    let split : drop i vs ≡ v ∷ drop (i + 1) vs = drop_more vs i v h ∙ ap (λ x. x ∷ drop (i + 1) vs) (sym is) in
    sym (ap each_mode (values_seen vs) ∙ (so_far ∙ (ap (λ rest. modes_with modes (map view rest)) split ∙ none_with modes (view v) (map view (drop (i + 1) vs)) found)))

-- all were
pub ends : (vs : List Value) (i : ℕ) (modes : List Mode) → length vs ≤ i → each_mode (map view vs) ≡ modes_with modes (map view (drop i vs)) → Some modes ≡ each_mode (values_of (items_view vs))
ends vs i modes h so_far =
    let all : modes_with modes (map view (drop i vs)) ≡ Some modes = rw (drop_all i vs h) (ap Some (append-nil modes)) in
    sym (ap each_mode (values_seen vs) ∙ (so_far ∙ all))

-- an array is seen as many values as it has
pub count_seen : (vs : List Value) → length (values_of (items_view vs)) ≡ length vs
count_seen vs = ap length (values_seen vs) ∙ length-map vs view

-- none or more than five
pub not_few : (ds : List Data) → (length ds ≡ 0) ⊎ (5 < length ds) → None ≡ modes_of ds
not_few ds (inl e) = rw e
not_few ds (inr h) = let past : nat_le (length ds) 5 ≡ false = lt-leb (length ds) 5 h in let some : nat_le 1 (length ds) ≡ true = le-leb 1 (length ds) (omega arith) in rw (some, past)

-- one to five
pub few : (ds : List Data) → 1 ≤ length ds → length ds ≤ 5 → modes_of ds ≡ each_mode ds
few ds h k = let within : nat_le (length ds) 5 ≡ true = le-leb (length ds) 5 k in let some : nat_le 1 (length ds) ≡ true = le-leb 1 (length ds) h in rw (some, within)
