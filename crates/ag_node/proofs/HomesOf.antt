-- A home, by what its store shows.
use Rattle.std.proofs.Common.{◌≡◌, ℕ, List, Bool, true, false, refl, sym, ap, ◌∙◌}
use Rattle.std.specs.Prelude.{if◌then◌else◌}
use Rattle.ag_kept.specs.declared.reach.Reach.{Reach}
use Rattle.ag_kept.specs.declared.reach.Reach.TheVariants.{End, Stop, Fault}
use Rattle.ag_store.specs.Views.{StoreView, started_store}
use Rattle.ag_node.specs.Homes.{Home, but_faults, home_of, home_with, lost_home, started_home}

-- where no fault came
known : (l f : Bool) (pages : ℕ) (s : StoreView) → s.sound ≡ true → home_of l f pages s ≡ home_with l f s
known l f pages s sound = ap (λ (b : Bool). if b then home_with l f s else lost_home pages s.faults) sound

-- none came to a node that is up
pub up_sound : (l f : Bool) (pages : ℕ) (s : StoreView) → (home_of l f pages s).activity.up ≡ true → s.sound ≡ true
up_sound l f pages s up = by_sound s.sound refl
  where
    by_sound : (b : Bool) → s.sound ≡ b → s.sound ≡ true
    by_sound true e = e
    by_sound false e = absurd (let x : false ≡ true = sym (ap (λ (b : Bool). (if b then home_with l f s else lost_home pages s.faults).activity.up) e) ∙ up in cc)

-- what the store does the home does
pub home_does : (l f : Bool) (pages : ℕ) (s s' : StoreView) (h : Home) (F : Home → Home) → home_of l f pages s ≡ h → s.sound ≡ true → s'.sound ≡ true → home_with l f s' ≡ but_faults (F (home_with l f s)) s'.faults
    → home_of l f pages s' ≡ but_faults (F h) (home_of l f pages s').faults
home_does l f pages s s' h F is sound sound' e =
    let now : home_of l f pages s' ≡ home_with l f s' = known l f pages s' sound' in
    now ∙ e ∙ ap (λ (x : Home). but_faults (F x) s'.faults) (sym (known l f pages s sound) ∙ is)
    ∙ ap (λ (n : ℕ). but_faults (F h) n) (sym (ap (λ (x : Home). x.faults) now))

-- a start leaves no fault
pub started_sound : (s s' : StoreView) (r : Reach) → s' ≡ record (started_store s r) { faults = s'.faults } → s.sound ≡ true → s'.sound ≡ true
started_sound s s' End e sound = ap (λ (x : StoreView). x.sound) e ∙ sound
started_sound s s' (Stop true) e sound = ap (λ (x : StoreView). x.sound) e ∙ sound
started_sound s s' (Stop false) e sound = ap (λ (x : StoreView). x.sound) e ∙ sound
started_sound s s' Fault e sound = ap (λ (x : StoreView). x.sound) e ∙ sound

pub started_with : (l f : Bool) (s s' : StoreView) (r : Reach) → s' ≡ record (started_store s r) { faults = s'.faults } → home_with l f s' ≡ but_faults (started_home (home_with l f s) r) s'.faults
started_with l f s s' End e = ap (home_with l f) e
started_with l f s s' (Stop true) e = ap (home_with l f) e
started_with l f s s' (Stop false) e = ap (home_with l f) e
started_with l f s s' Fault e = ap (home_with l f) e
