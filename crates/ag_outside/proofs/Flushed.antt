-- What handing sectors down does to what is shown of a disk, and to what a crash may leave of it.
use Rattle.std.proofs.Common.{◌≡◌, ℕ, zero, suc, ◌+◌, ◌<◌, ◌≤◌, ◌⊎◌, length, List, [], ◌∷◌, ◌++◌, None, Bool, true, false, IsTrue, is_some, nat_eq, if◌then◌else◌, sym, ap, subst, ◌∙◌, arith, inl, inr}
use Rattle.std.specs.Bool.{MatchBool}
use Rattle.std.specs.Map.{lookup}
use Rattle.ag_outside.specs.declared.disk.SectorWrite.{SectorWrite}
use Rattle.ag_outside.specs.Disks.{Content, Image, writes, put_all, WroteSo, MayAdd, Only}
use Rattle.ag_outside.specs.Scripts.{is_lost, overlay, shown, may_show, kept, is_kept, unless_written, InRange, LostAsWritten, fillers}
use Rattle.ag_outside.proofs.Puts.{either, Written, Unwritten, wrote-split}

-- the lost sectors but those that these write
abbrev pub Found : List SectorWrite → List (ℕ × ℕ) → List (ℕ × ℕ) → Type 0
Found ws lost next = (at : ℕ) → lookup (nat_eq at) next ≡ unless_written ws at (lookup (nat_eq at) lost)

below_only : (b : Bool) (c : Content) (image : Content) (hold : Content → Type 0) → ((x : Content) → hold x → x ≡ image) → MatchBool b (c ≡ None) (hold c) → c ≡ (if b then None else image)
below_only true c image hold only is = is
below_only false c image hold only is = only c is

below_adds : (b : Bool) (c : Content) (old new : Content → Type 0) (W : Type 0) → (new c → old c ⊎ W) → MatchBool b (c ≡ None) (new c) → MatchBool b (c ≡ None) (old c) ⊎ W
below_adds true c old new W adds is = inl is
below_adds false c old new W adds is = adds is

module _ (keeps : Bool) (old new : Image) (hold then_hold : ℕ → Content → Type 0) (ws : List SectorWrite) (lost next : List (ℕ × ℕ)) where
  module _ (found : Found ws lost next) where
    still_lost : (at : ℕ) → Unwritten ws at → is_lost next at ≡ is_lost lost at
    still_lost at not_ = ap is_some (found at ∙ not_.mark (lookup (nat_eq at) lost))

    not_lost : (at : ℕ) → Written ws at → is_lost next at ≡ false
    not_lost at is = ap is_some (found at ∙ is.mark (lookup (nat_eq at) lost))

    -- what is shown stays
    pub shown-stays : (IsTrue keeps → new ≡ put_all old ws) → IsTrue keeps → shown new next [] ≡ shown old lost ws
    shown-stays written k =
        let same : (at : ℕ) → shown new next [] at ≡ shown old lost ws at = λ at. elim (either ws at) [
          | inl un ↦ ap (λ (b : Bool). if b then None else new at) (still_lost at un) ∙ ap (λ (c : Content). if is_lost lost at then None else c) (ap (λ (im : Image). im at) (written k) ∙ un.reads old) ∙ sym (un.reads (overlay lost old))
          | inr is ↦ ap (λ (b : Bool). if b then None else new at) (not_lost at is) ∙ ap (λ (im : Image). im at) (written k) ∙ is.same old (overlay lost old)
        ] in
        λ i at. same at i

    pub shown-only : Only new then_hold → Only (shown new next []) (may_show keeps then_hold next [])
    shown-only only at content (k, inl below) = below_only (is_lost next at) content (new at) (then_hold at) (only at) below
    shown-only only at content (k, inr none) = absurd none

    pub shown-adds : (IsTrue keeps → new ≡ put_all old ws) → Only new then_hold → MayAdd ws hold then_hold → MayAdd [] (may_show keeps hold lost ws) (may_show keeps then_hold next [])
    shown-adds written only adds at content (k, inr none) = absurd none
    shown-adds written only adds at content (k, inl below) = inl (
      k,
      elim (either ws at) [
        | inl un ↦ below_adds (is_lost lost at) content (hold at) (then_hold at) (WroteSo ws at content) (adds at content) (subst (λ (b : Bool). MatchBool b (content ≡ None) (then_hold at content)) (still_lost at un) below)
        | inr is ↦ inr (subst (WroteSo ws at) (sym (only at content (subst (λ (b : Bool). MatchBool b (content ≡ None) (then_hold at content)) (not_lost at is) below) ∙ ap (λ (im : Image). im at) (written k))) (is.wrote old))
      ],
    )

    pub lost-stays : IsTrue keeps → (IsTrue keeps → new ≡ put_all old ws) → LostAsWritten old lost → LostAsWritten new next
    lost-stays k written was at mark is = elim (either ws at) [
      | inl un ↦ ap (λ (im : Image). im at) (written k) ∙ un.reads old ∙ was at mark (sym (un.mark (lookup (nat_eq at) lost)) ∙ sym (found at) ∙ is)
      | inr w ↦ absurd (cc (sym is ∙ found at ∙ w.mark (lookup (nat_eq at) lost)))
    ]

  -- part of it
  pub part-adds : MayAdd ws hold then_hold → MayAdd [] (may_show keeps hold lost ws) (may_show keeps then_hold lost ws)
  part-adds adds at content (k, inl below) = inl (k, below_adds (is_lost lost at) content (hold at) (then_hold at) (WroteSo ws at content) (adds at content) below)
  part-adds adds at content (k, inr wrote) = inl (k, inr wrote)

-- lost sectors in another order
module _ (lost next : List (ℕ × ℕ)) (same : (at : ℕ) → lookup (nat_eq at) next ≡ lookup (nat_eq at) lost) where
  pub reordered-shown : (image : Image) (ws : List SectorWrite) → shown image next ws ≡ shown image lost ws
  reordered-shown image ws =
      let over : overlay next image ≡ overlay lost image = λ i at. if is_some (same at i) then None else image at in
      ap (λ (im : Image). put_all im ws) over

  pub reordered-adds : (keeps : Bool) (hold : ℕ → Content → Type 0) (ws : List SectorWrite) → MayAdd [] (may_show keeps hold lost ws) (may_show keeps hold next ws)
  reordered-adds keeps hold ws at content (k, inl below) = inl (k, inl (subst (λ (b : Bool). MatchBool b (content ≡ None) (hold at content)) (ap is_some (same at)) below))
  reordered-adds keeps hold ws at content (k, inr wrote) = inl (k, inr wrote)

  pub reordered-lost : (image : Image) → LostAsWritten image lost → LostAsWritten image next
  reordered-lost image was at mark is = was at mark (sym (same at) ∙ is)

-- more is kept back
pub kept-adds : (keeps : Bool) (hold : ℕ → Content → Type 0) (lost : List (ℕ × ℕ)) (xs ys : List SectorWrite) → MayAdd ys (may_show keeps hold lost xs) (may_show keeps hold lost (xs ++ ys))
kept-adds keeps hold lost xs ys at content (k, inl below) = inl (k, inl below)
kept-adds keeps hold lost xs ys at content (k, inr wrote) = elim (wrote-split xs ys at content wrote) [ inl left ↦ inl (k, inr left) | inr right ↦ inr right ]

-- less is
among-case : (b : Bool) (w : SectorWrite) (ws later : List SectorWrite) (at : ℕ) (content : Content) → (WroteSo later at content → WroteSo ws at content) → WroteSo (if b then w ∷ later else later) at content → WroteSo (w ∷ ws) at content
among-case true w ws later at content among (inl here) = inl here
among-case true w ws later at content among (inr wrote) = inr (among wrote)
among-case false w ws later at content among wrote = inr (among wrote)

kept-among : (mask number : ℕ) (ws : List SectorWrite) (at : ℕ) (content : Content) → WroteSo (kept mask number ws) at content → WroteSo ws at content
kept-among mask number [] at content wrote = wrote
kept-among mask number (w ∷ ws) at content wrote = among-case (is_kept mask number) w ws (kept mask (suc number) ws) at content (kept-among mask (suc number) ws at content) wrote

pub kept-fewer : (mask : ℕ) (keeps : Bool) (hold : ℕ → Content → Type 0) (lost : List (ℕ × ℕ)) (ws : List SectorWrite) → MayAdd [] (may_show keeps hold lost ws) (may_show keeps hold lost (kept mask 0 ws))
kept-fewer mask keeps hold lost ws at content (k, inl below) = inl (k, inl below)
kept-fewer mask keeps hold lost ws at content (k, inr wrote) = inl (k, inr (kept-among mask 0 ws at content wrote))

pub dropped : (keeps : Bool) (hold : ℕ → Content → Type 0) (lost : List (ℕ × ℕ)) (ws : List SectorWrite) → MayAdd [] (may_show keeps hold lost ws) (may_show keeps hold lost [])
dropped keeps hold lost ws at content (k, inl below) = inl (k, inl below)
dropped keeps hold lost ws at content (k, inr none) = absurd none

pub only-adds : (ws : List SectorWrite) (a b c : ℕ → Content → Type 0) → MayAdd ws a b → MayAdd [] b c → MayAdd ws a c
only-adds ws a b c first next at content is = elim (next at content is) [ inl mid ↦ first at content mid | inr none ↦ absurd none ]

pub adds-only : (ws : List SectorWrite) (a b c : ℕ → Content → Type 0) → MayAdd [] a b → MayAdd ws b c → MayAdd ws a c
adds-only ws a b c first next at content is = elim (next at content is) [ inl mid ↦ elim (first at content mid) [ inl old ↦ inl old | inr none ↦ absurd none ] | inr wrote ↦ inr wrote ]

-- places in range
pub in_range-append : (size : ℕ) (xs ys : List SectorWrite) → InRange size xs → InRange size ys → InRange size (xs ++ ys)
in_range-append size [] ys p q = q
in_range-append size (x ∷ xs) ys p q = (p.0, in_range-append size xs ys p.1 q)

pub in_range-writes : (size at : ℕ) (from : List (List ℕ)) → at + length from ≤ size → InRange size (writes at from)
in_range-writes size at [] le = tt
in_range-writes size at (s ∷ ss) le = (omega arith, in_range-writes size (suc at) ss (omega arith))

pub in_range-fillers : (size at mark n : ℕ) → at + n ≤ size → InRange size (fillers at mark n)
in_range-fillers size at mark zero le = tt
in_range-fillers size at mark (suc n) le = (omega arith, in_range-fillers size (suc at) (suc mark) n (omega arith))

range-case : (b : Bool) (size : ℕ) (w : SectorWrite) (later : List SectorWrite) → w.at < size → InRange size later → InRange size (if b then w ∷ later else later)
range-case true size w later here rest = (here, rest)
range-case false size w later here rest = rest

pub in_range-kept : (size mask number : ℕ) (ws : List SectorWrite) → InRange size ws → InRange size (kept mask number ws)
in_range-kept size mask number [] p = tt
in_range-kept size mask number (w ∷ ws) p = range-case (is_kept mask number) size w (kept mask (suc number) ws) p.0 (in_range-kept size mask (suc number) ws p.1)
