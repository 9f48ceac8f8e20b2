-- What writings do to a disk.
use Rattle.std.proofs.Common.{◌≡◌, ℕ, List, [], ◌∷◌, Bool, false, IsTrue, sym, ap, ◌∙◌, subst}
use Rattle.std.specs.List.{AllByRecursion}
use Rattle.ag_outside.specs.Calls.{Call}
use Rattle.ag_outside.specs.Disks.{Content, Image, SameImages, Only}
use Rattle.ag_page.specs.Home.{PutBack}
use Rattle.ag_pagestore.specs.Places.{IsOutside}
use Rattle.ag_pagestore.specs.Homes.{Held, Leaves, LastMayBeRefused}

only_on : (a b : Image) (hold next : ℕ → Content → Type 0) → b ≡ a → SameImages hold next → Only a hold → Only b next
only_on a b hold next is same only at content may = only at content ((same at content).0 may) ∙ ap (λ (im : Image). im at) (sym is)

module _ {D : Type 0} (size : D → ℕ) (keeps : D → Bool) (reads : D → Image) (may_hold : D → ℕ → Content → Type 0) (did : D → Call → D → Type 0) (moment : D → ℕ) (left_since : D → ℕ → Image → Type 0) where
  pub all_same : (ws : List PutBack) (old new : Held D) → Leaves size keeps reads may_hold did moment left_since old ws new → (keeps new.disk ≡ keeps old.disk) × (size new.disk ≡ size old.disk)
  all_same [] old new u = (u.keeping, u.sectors)
  all_same (w ∷ ws) old new (before, after, u, took, rest) =
      let later = all_same ws after new rest in
      (later.0 ∙ took.keeping ∙ u.keeping, later.1 ∙ took.sectors ∙ u.sectors)

  pub all_synced : (ws : List PutBack) (old new : Held D) → Leaves size keeps reads may_hold did moment left_since old ws new → IsTrue (keeps old.disk) → Only (reads old.disk) (may_hold old.disk) → AllByRecursion (λ w. w.refused ≡ false) ws → Only (reads new.disk) (may_hold new.disk)
  all_synced [] old new u k only went = only_on (reads old.disk) (reads new.disk) (may_hold old.disk) (may_hold new.disk) u.content u.images only
  all_synced (w ∷ ws) old new (before, after, u, took, rest) k only went =
      let kept = subst IsTrue (sym u.keeping) k in
      all_synced ws after new rest (subst IsTrue (sym took.keeping) kept) (took.durable went.0 kept) went.1

  pub all_outside : (ws : List PutBack) (old new : Held D) (at : ℕ) → Leaves size keeps reads may_hold did moment left_since old ws new → IsTrue (keeps old.disk) → Only (reads old.disk) (may_hold old.disk) → LastMayBeRefused ws → AllByRecursion (λ w. IsOutside w.page at) ws → reads new.disk at ≡ reads old.disk at
  all_outside [] old new at u k only went out = ap (λ (im : Image). im at) u.content
  all_outside (w ∷ []) old new at (before, after, u, took, rest) k only went out =
      let kept = subst IsTrue (sym u.keeping) k in
      let synced = only_on (reads old.disk) (reads before.disk) (may_hold old.disk) (may_hold before.disk) u.content u.images only in
      ap (λ (im : Image). im at) rest.content ∙ (took.content kept synced).others at (out.0, tt) ∙ ap (λ (im : Image). im at) u.content
  all_outside (w ∷ x ∷ ws) old new at (before, after, u, took, rest) k only went out =
      let kept = subst IsTrue (sym u.keeping) k in
      let synced = only_on (reads old.disk) (reads before.disk) (may_hold old.disk) (may_hold before.disk) u.content u.images only in
      all_outside (x ∷ ws) after new at rest (subst IsTrue (sym took.keeping) kept) (took.durable went.0 kept) went.1 out.1 ∙ (took.content kept synced).others at (out.0, tt) ∙ ap (λ (im : Image). im at) u.content
