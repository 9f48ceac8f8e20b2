-- What a batch of one step leaves.
use Rattle.std.proofs.Common.{◌≡◌, ℕ, zero, suc, ◌+◌, List, [], ◌∷◌, ◌++◌, if◌then◌else◌, Ok, Err, refl, sym, ap, ◌∙◌, arith}
use Rattle.std.proofs.lemmas.List.{append-nil}
use Rattle.ag_model.specs.Cells.{keeps_all}
use Rattle.ag_outside.specs.Calls.{Piece}
use Rattle.ag_outside.specs.Disks.{Image, put_all, writes}
use Rattle.ag_pieces.specs.Pieces.{sectors_in}
use Rattle.ag_rules.specs.Plan.{Write}
use Rattle.ag_rules.specs.Cut.{sectors_of, page_named, step_of, steps_of, steps_kept}
use Rattle.ag_writes.specs.declared.order.Order.{Order}
use Rattle.ag_writes.specs.declared.order.Order.TheVariants.{Free, StopAt, FailAt}
use Rattle.ag_writes.specs.Performing.{nearer, pages_named}
use Rattle.ag_durable.specs.declared.progress.Came.TheVariants.{Stopped}
use Rattle.ag_durable.specs.declared.progress.Progress.{Progress}
use Rattle.ag_durable.specs.Coming.{passed, broken_by, step_passed, step_broken, WasOrdered}
use Rattle.std.specs.Prelude.{Result, OnOk, IsErrOf}
use Rattle.ag_outside.specs.declared.order.Why.{Why}
use Rattle.ag_durable.specs.declared.fault.DurableFault.{DurableFault}
use Rattle.ag_durable.specs.declared.fault.DurableFault.TheVariants.{DiskFault}
use Rattle.ag_durable.proofs.Batches.{IsWithin}

-- a write that is a step of so many sectors
pub record IsStep (w : Write) (sectors : ℕ) : Type 0 where
  pub step : step_of w ≡ 1
  pub sectors_are : sectors_of w ≡ sectors
  pub no_page : page_named w ≡ []

-- an image that one piece was written on
pub one_whole : (image now : Image) (piece : Piece) → now ≡ put_all image (writes piece.first piece.sectors) → now ≡ put_all image (sectors_in (piece ∷ []))
one_whole image now piece is = is ∙ ap (put_all image) (sym (append-nil (writes piece.first piece.sectors)))

module _ (w : Write) (sectors : ℕ) (is : IsStep w sectors) where
  steps_one : steps_of (w ∷ []) ≡ 1
  steps_one = omega (arith, is.step)

  none_named : pages_named (w ∷ []) ≡ []
  none_named = ap (λ (ps : List ℕ). ps ++ []) is.no_page

  -- a batch of one step, as a step
  pub passed_is : (p : Progress) → step_passed p ≡ passed p (w ∷ [])
  passed_is p = ap (λ (n : ℕ). record p { order = nearer 1 p.order; steps = p.steps + n; writes = p.writes + 1 }) (sym steps_one)
      ∙ ap (λ (ps : List ℕ). record p { order = nearer 1 p.order; steps = p.steps + steps_of (w ∷ []); writes = p.writes + 1; named = ps }) (sym (append-nil p.named) ∙ ap (λ (ps : List ℕ). p.named ++ ps) (sym none_named))

  kept_one : (mask : ℕ) → (if keeps_all mask 0 sectors then 1 else 0) ≡ steps_kept mask 0 (w ∷ [])
  kept_one mask =
      let here : (if keeps_all mask 0 (sectors_of w) then step_of w else 0) ≡ (if keeps_all mask 0 sectors then 1 else 0) =
      ap (λ (n : ℕ). if keeps_all mask 0 n then step_of w else 0) is.sectors_are ∙ ap (λ (n : ℕ). if keeps_all mask 0 sectors then n else 0) is.step in
      omega (arith, here)

  pub broken_is : (o : Order) (p : Progress) → IsWithin o 1 → step_broken o p sectors ≡ broken_by o p (w ∷ [])
  broken_is Free p first = refl
  broken_is (FailAt c) p first = refl
  broken_is (StopAt zero mask) p first =
      ap (λ (n : ℕ). record p { steps = p.steps + n; writes = p.writes + 1; came = Stopped }) (kept_one mask)
      ∙ ap (λ (ps : List ℕ). record p { steps = p.steps + steps_kept mask 0 (w ∷ []); writes = p.writes + 1; named = ps; came = Stopped }) (sym (append-nil p.named) ∙ ap (λ (ps : List ℕ). p.named ++ ps) (sym none_named))
  broken_is (StopAt (suc v) mask) p first = absurd (omega (arith, first (suc v) mask refl))

  -- what a step tells of its batch
  pub step_passes : (p q : Progress) (went done : Result (Unit {0}) DurableFault) → OnOk done (OnOk went (q ≡ step_passed p)) → OnOk done (OnOk went (q ≡ passed p (w ∷ [])))
  step_passes p q (Ok u) (Ok v) is = is ∙ passed_is p
  step_passes p q (Err e) (Ok v) is = tt
  step_passes p q went (Err e) is = tt

  pub step_breaks : (p q : Progress) (went done : Result (Unit {0}) DurableFault) (why : Why) → OnOk done (IsErrOf went DiskFault → WasOrdered why × (q ≡ step_broken p.order p sectors))
      → OnOk done (IsErrOf went DiskFault → WasOrdered why × (IsWithin p.order 1 → q ≡ broken_by p.order p (w ∷ [])))
  step_breaks p q went (Ok v) why is = λ failed. ((is failed).0, λ within. (is failed).1 ∙ broken_is p.order p within)
  step_breaks p q went (Err e) why is = tt
