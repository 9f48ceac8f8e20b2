-- The loop that stamps.
use Rattle.std.proofs.Common.{◌≡◌, ℕ, ◌+◌, ◌<◌, List, ◌++◌, length, get_or, set, map, take, drop, refl, sym, ap, ◌∙◌, arith}
use Rattle.std.proofs.lemmas.Bool.{eq-eqb, ne_eqb}
use Rattle.std.proofs.lemmas.List.{get_or_default, length-take, length-drop, length-append, length-map}
use Rattle.std.proofs.lemmas.List.Edits.{map_over_more}
use Rattle.ag_model.specs.declared.value.Version.{Version}
use Rattle.ag_version.specs.Edits.{stamped}

-- the versions before the place i are stamped
abbrev pub Stamps : ℕ → ℕ → List Version → List Version → ℕ → Type 0
Stamps lsn txn old now i = now ≡ map (stamped lsn txn) (take i old) ++ drop i old

long : (lsn txn : ℕ) (old now : List Version) (i : ℕ) → i < length now → Stamps lsn txn old now i → i < length old
long lsn txn old now i lt h = omega (arith, ap length h, length-append (map (stamped lsn txn) (take i old)) (drop i old), length-map (take i old) (stamped lsn txn), length-take i old, length-drop i old)

one_more : (lsn txn : ℕ) (old now new : List Version) (i : ℕ) (d : Version) → i < length now → Stamps lsn txn old now i → new ≡ set now i (stamped lsn txn (get_or now i d)) → Stamps lsn txn old new (i + 1)
one_more lsn txn old now new i d lt h e =
    e ∙ map_over_more (stamped lsn txn) old now i (get_or now i d) (long lsn txn old now i lt h) h (get_or_default now i d (get_or now i d) lt)

-- a version of the transaction
pub stamps_own : (lsn txn : ℕ) (old now new : List Version) (i : ℕ) (d : Version) → i < length now → Stamps lsn txn old now i → (get_or now i d).txn ≡ txn
    → new ≡ set now i (record { lsn = (get_or now i d).lsn; txn = (get_or now i d).txn; commit = lsn; key = (get_or now i d).key; change = (get_or now i d).change }) → Stamps lsn txn old new (i + 1)
stamps_own lsn txn old now new i d lt h own e =
    let w = get_or now i d in
    let t : stamped lsn txn w ≡ record { lsn = w.lsn; txn = w.txn; commit = lsn; key = w.key; change = w.change } = rw (eq-eqb w.txn txn own) refl in
    one_more lsn txn old now new i d lt h (e ∙ ap (set now i) (sym t))

-- a version of another one
pub stamps_other : (lsn txn : ℕ) (old now new : List Version) (i : ℕ) (d : Version) → i < length now → Stamps lsn txn old now i → ((get_or now i d).txn ≡ txn → ⊥) → new ≡ set now i (get_or now i d) → Stamps lsn txn old new (i + 1)
stamps_other lsn txn old now new i d lt h other e =
    let w = get_or now i d in
    let t : stamped lsn txn w ≡ w = rw (ne_eqb w.txn txn other) refl in
    one_more lsn txn old now new i d lt h (e ∙ ap (set now i) (sym t))
