-- A batch that went through.
use Rattle.std.proofs.Common.{◌≡◌, ℕ, ◌+◌, ◌-◌, ◌^◌, min, length, List, [], ◌∷◌, Bool, Ok, sym, ap, ◌∙◌, subst, arith}
use Rattle.ag_outside.specs.declared.order.Arm.{Arm}
use Rattle.ag_outside.specs.Disks.{Content, Image}
use Rattle.ag_outside.specs.Calls.{Call, Write_call, Sync_call, Leads, changing, Piece, all_went, TakesAll}
use Rattle.ag_outside.specs.Scripts.{ScriptedView}
use Rattle.ag_outside.specs.Shown.{IsReached, DidWrite, DidSync, did_of}
use Rattle.ag_pieces.specs.Pieces.{order_left, IsAhead, further_by, BatchPasses}
use Rattle.ag_pieces.proofs.Ahead.{further, still_ahead, sync_ahead, further_once}
use Rattle.ag_outside.proofs.Quiet.{first_change, quiet_calls, quiet_unsynced, quiet_order, quiet_writes, quiet_count}

module _ {D : Type 0} (keeps : D → Bool) (reads : D → Image) (may_hold : D → ℕ → Content → Type 0) (faults : D → ℕ) where
  rest_passes : (a new : ScriptedView D) (pieces : List Piece) (calls : List Call) → IsAhead a.order a.writes a.calls → changing calls ≡ all_went pieces → Leads (did_of keeps reads may_hold faults) a calls new → BatchPasses keeps faults a (length pieces) new
  rest_passes a new [] calls ahead all leads =
      let s = first_change keeps reads may_hold faults a new calls (Sync_call (Ok (record {}))) [] all leads in
      let q = quiet_calls keeps reads may_hold faults s.to new s.calls s.rest s.leads in
      let d : DidSync keeps reads may_hold faults s.from (Ok (record {})) s.to = s.does in
      let same : s.from.order ≡ a.order = quiet_order keeps reads may_hold faults a s.from s.before in
      let order : new.order ≡ a.order = quiet_order keeps reads may_hold faults s.to new q ∙ d.order ∙ same in
      let written : new.writes ≡ a.writes = quiet_writes keeps reads may_hold faults s.to new q ∙ d.writes_counted ∙ quiet_writes keeps reads may_hold faults a s.from s.before in
      let called : new.calls ≡ s.to.calls = quiet_count keeps reads may_hold faults s.to new q in
      let step = sync_ahead a.order a.writes a.calls s.to.calls (d.calls_counted ∙ ap (λ x. min (x + 1) (2 ^ 64 - 1)) (quiet_count keeps reads may_hold faults a s.from s.before)) ahead (λ e. d.reached (same ∙ e)) in
      record {
        settled = record { unsynced = quiet_unsynced keeps reads may_hold faults s.to new q ∙ d.handed_down; keeps_same = q.keeps_same ∙ d.keeps_same ∙ s.before.keeps_same };
        order = order;
        ahead = subst (λ (o : Arm). IsAhead o new.writes new.calls) (sym order) (subst (λ w. IsAhead a.order w new.calls) (sym written) (subst (IsAhead a.order a.writes) (sym called) step.0));
        left = step.1 ∙ (λ i. further_by 0 (order_left (sym order i) (sym written i) (sym called i)));
        later = omega (arith, s.before.later, d.later, q.later);
      }
  rest_passes a new (piece ∷ pieces) calls ahead all leads =
      let c = first_change keeps reads may_hold faults a new calls (Write_call piece.first piece.sectors (Ok (record {}))) (all_went pieces) all leads in
      let d : DidWrite keeps reads may_hold faults c.from piece.first piece.sectors (Ok (record {})) c.to = c.does in
      let same : c.from.order ≡ a.order = quiet_order keeps reads may_hold faults a c.from c.before in
      let order : c.to.order ≡ a.order = d.order ∙ same in
      let step = still_ahead a.order a.writes a.calls c.to.writes c.to.calls
      (d.writes_counted ∙ ap (λ x. min (x + 1) (2 ^ 64 - 1)) (quiet_writes keeps reads may_hold faults a c.from c.before))
      (d.calls_counted ∙ ap (λ x. min (x + 1) (2 ^ 64 - 1)) (quiet_count keeps reads may_hold faults a c.from c.before))
      ahead (λ r. d.reached (subst (λ (o : Arm). IsReached o c.to.writes c.to.calls) (sym same) r)) in
      let rest = rest_passes c.to new pieces c.calls (subst (λ (o : Arm). IsAhead o c.to.writes c.to.calls) (sym order) step.0) c.rest c.leads in
      let more : length pieces + 1 ≡ length (piece ∷ pieces) = omega arith in
      record {
        settled = record { unsynced = rest.settled.unsynced; keeps_same = rest.settled.keeps_same ∙ d.keeps_same ∙ c.before.keeps_same };
        order = rest.order ∙ order;
        ahead = rest.ahead;
        left = step.1 ∙ ap (λ o. further (order_left o c.to.writes c.to.calls)) (sym order) ∙ ap further rest.left ∙ further_once (length pieces) (order_left new.order new.writes new.calls) ∙ ap (λ n. further_by n (order_left new.order new.writes new.calls)) more;
        later = omega (arith, c.before.later, d.later, rest.later);
      }

  -- a whole batch that went through
  pub batch_passed : (old new : ScriptedView D) (pieces : List Piece) → IsAhead old.order old.writes old.calls → TakesAll (did_of keeps reads may_hold faults) old pieces new → BatchPasses keeps faults old (length pieces) new
  batch_passed old new pieces ahead t = rest_passes old new pieces t.calls ahead t.all t.leads
