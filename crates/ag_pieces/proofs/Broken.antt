-- A batch that failed.
use Rattle.std.proofs.Common.{◌≡◌, ℕ, ◌+◌, ◌-◌, ◌^◌, min, take, List, [], ◌∷◌, ◌++◌, IsTrue, Bool, Ok, Err, refl, sym, ap, ◌∙◌, subst, arith, inl, inr, add-one}
use Rattle.std.proofs.lemmas.List.{append_assoc, append-nil}
use Rattle.ag_outside.specs.declared.disk.SectorWrite.{SectorWrite}
use Rattle.ag_outside.specs.declared.disk.DiskError.TheVariants.{Failed}
use Rattle.ag_outside.specs.declared.order.Arm.{Arm}
use Rattle.ag_outside.specs.declared.order.Why.{Why}
use Rattle.ag_outside.specs.declared.order.Why.TheVariants.{Nothing, Stopped, Device, Inner}
use Rattle.ag_outside.specs.Disks.{Content, Image, writes, put_all}
use Rattle.ag_outside.specs.Calls.{Call, Write_call, Sync_call, Leads, changing, Piece, BreaksOff, FailsOnTheWay}
use Rattle.ag_outside.specs.Scripts.{ScriptedView, kept}
use Rattle.ag_outside.specs.Shown.{synced_of, IsReached, Told, ToldAtSync, DidWrite, DidSync, did_of}
use Rattle.ag_pieces.specs.Pieces.{order_left, IsAhead, sectors_in, RestEnds, BatchEnds}
use Rattle.ag_pieces.proofs.Ahead.{further, still_ahead, stops_now, fails_now}
use Rattle.ag_outside.proofs.Quiet.{Quiet, first_change, quiet_calls, quiet_reads, quiet_synced, quiet_unsynced, quiet_order, quiet_writes, quiet_count, risen_before, risen_after, failed_read}

next_take : (n : ℕ) (p : Piece) (ps : List Piece) → take (n + 1) (p ∷ ps) ≡ p ∷ take n ps
next_take n p ps = ap (λ m. take m (p ∷ ps)) (add-one n)

module _ {D : Type 0} (keeps : D → Bool) (reads : D → Image) (may_hold : D → ℕ → Content → Type 0) (faults : D → ℕ) where
  -- a sync that failed after these sectors
  module _ (a m n new : ScriptedView D) (before : List SectorWrite) (ahead : IsAhead a.order a.writes a.calls) (p : Quiet keeps reads may_hold faults a m) (q : Quiet keeps reads may_hold faults n new) (d : DidSync keeps reads may_hold faults m (Err Failed) n) where
    sync_told : (w : Why) → ToldAtSync keeps reads may_hold faults m n w → RestEnds keeps reads faults a before [] new w
    sync_told Nothing t = absurd t
    sync_told (Stopped write count) t = absurd t
    sync_told Device t = (
      0,
      fails_now a.order a.writes a.calls n.calls (sym (quiet_order keeps reads may_hold faults a m p) ∙ t.0) (d.calls_counted ∙ ap (λ x. min (x + 1) (2 ^ 64 - 1)) (quiet_count keeps reads may_hold faults a m p)) ahead,
      omega arith,
      record { unsynced = quiet_unsynced keeps reads may_hold faults n new q ∙ t.1; keeps_same = q.keeps_same ∙ d.keeps_same ∙ p.keeps_same },
      λ k. quiet_reads keeps reads may_hold faults n new q ∙ t.3 (subst IsTrue (sym p.keeps_same) k) ∙ quiet_synced keeps reads may_hold faults a m p,
    )
    sync_told Inner t = risen_before (faults a.disk) (faults m.disk) (faults new.disk) p.later (risen_after (faults m.disk) (faults n.disk) (faults new.disk) d.later t q.later)

    sync_broke : RestEnds keeps reads faults a before [] new new.why
    sync_broke = elim q.why [
      | inl same ↦ subst (λ w. RestEnds keeps reads faults a before [] new w) (sym same) (sync_told n.why (d.told refl))
      | inr inner ↦ subst (λ w. RestEnds keeps reads faults a before [] new w) (sym inner.0) (risen_before (faults a.disk) (faults n.disk) (faults new.disk) (omega (arith, p.later, d.later)) inner.1)
    ]

  -- a write that failed after these sectors
  module _ (a m n new : ScriptedView D) (before : List SectorWrite) (piece : Piece) (pieces : List Piece) (ahead : IsAhead a.order a.writes a.calls) (none : a.unsynced ≡ before) (p : Quiet keeps reads may_hold faults a m) (q : Quiet keeps reads may_hold faults n new) (d : DidWrite keeps reads may_hold faults m piece.first piece.sectors (Err Failed) n) where
    all_is : m.unsynced ++ writes piece.first piece.sectors ≡ before ++ sectors_in (take (0 + 1) (piece ∷ pieces))
    all_is = ap (λ ws. ws ++ writes piece.first piece.sectors) (quiet_unsynced keeps reads may_hold faults a m p ∙ none) ∙ ap (λ ws. before ++ ws) (sym (append-nil (writes piece.first piece.sectors)))

    write_told : (w : Why) → Told keeps reads may_hold faults m n (m.unsynced ++ writes piece.first piece.sectors) w → RestEnds keeps reads faults a before (piece ∷ pieces) new w
    write_told Nothing t = absurd t
    write_told (Stopped write count) t =
        let mask = t.0 in (
          0,
          mask,
          stops_now a.order a.writes a.calls write mask (sym (quiet_order keeps reads may_hold faults a m p) ∙ t.1) (sym t.2 ∙ d.writes_counted ∙ ap (λ x. min (x + 1) (2 ^ 64 - 1)) (quiet_writes keeps reads may_hold faults a m p)) ahead,
          omega arith,
          record { unsynced = quiet_unsynced keeps reads may_hold faults n new q ∙ t.4; keeps_same = q.keeps_same ∙ d.keeps_same ∙ p.keeps_same },
          λ k. quiet_reads keeps reads may_hold faults n new q ∙ t.6 (subst IsTrue (sym p.keeps_same) k)
              ∙ ap (λ ws. put_all (synced_of reads m) (kept mask 0 ws)) all_is
              ∙ ap (λ image. put_all image (kept mask 0 (before ++ sectors_in (take (0 + 1) (piece ∷ pieces))))) (quiet_synced keeps reads may_hold faults a m p),
        )
    write_told Device t = (
      0,
      fails_now a.order a.writes a.calls n.calls (sym (quiet_order keeps reads may_hold faults a m p) ∙ t.0) (d.calls_counted ∙ ap (λ x. min (x + 1) (2 ^ 64 - 1)) (quiet_count keeps reads may_hold faults a m p)) ahead,
      omega arith,
      record { unsynced = quiet_unsynced keeps reads may_hold faults n new q ∙ t.1; keeps_same = q.keeps_same ∙ d.keeps_same ∙ p.keeps_same },
      λ k. quiet_reads keeps reads may_hold faults n new q ∙ t.3 (subst IsTrue (sym p.keeps_same) k) ∙ quiet_synced keeps reads may_hold faults a m p,
    )
    write_told Inner t = risen_before (faults a.disk) (faults m.disk) (faults new.disk) p.later (risen_after (faults m.disk) (faults n.disk) (faults new.disk) d.later t q.later)

    write_broke : RestEnds keeps reads faults a before (piece ∷ pieces) new new.why
    write_broke = elim q.why [
      | inl same ↦ subst (λ w. RestEnds keeps reads faults a before (piece ∷ pieces) new w) (sym same) (write_told n.why (d.told refl))
      | inr inner ↦ subst (λ w. RestEnds keeps reads faults a before (piece ∷ pieces) new w) (sym inner.0) (risen_before (faults a.disk) (faults n.disk) (faults new.disk) (omega (arith, p.later, d.later)) inner.1)
    ]

  -- a write that was kept back, and a batch that failed after it
  module _ (a m n new : ScriptedView D) (before : List SectorWrite) (piece : Piece) (pieces : List Piece) (left : order_left a.order a.writes a.calls ≡ further (order_left n.order n.writes n.calls)) (p : Quiet keeps reads may_hold faults a m) (d : DidWrite keeps reads may_hold faults m piece.first piece.sectors (Ok (record {})) n) where
    synced_same : synced_of reads n ≡ synced_of reads a
    synced_same = ap (λ (v : ScriptedView D). synced_of reads v) d.kept_back ∙ quiet_synced keeps reads may_hold faults a m p

    regroup : (w : ℕ) → (before ++ writes piece.first piece.sectors) ++ sectors_in (take (w + 1) pieces) ≡ before ++ sectors_in (take (w + 1 + 1) (piece ∷ pieces))
    regroup w = append_assoc before (writes piece.first piece.sectors) (sectors_in (take (w + 1) pieces)) ∙ ap (λ ps. before ++ sectors_in ps) (sym (next_take (w + 1) piece pieces))

    later_ends : (w : Why) → RestEnds keeps reads faults n (before ++ writes piece.first piece.sectors) pieces new w → RestEnds keeps reads faults a before (piece ∷ pieces) new w
    later_ends Nothing t = absurd t
    later_ends (Stopped write count) t =
        let w = t.0 in
        let mask = t.1 in (
          w + 1,
          mask,
          left ∙ ap further t.2,
          omega (arith, t.3),
          record { unsynced = t.4.unsynced; keeps_same = t.4.keeps_same ∙ d.keeps_same ∙ p.keeps_same },
          λ k. t.5 (subst IsTrue (sym (d.keeps_same ∙ p.keeps_same)) k)
              ∙ ap (λ ws. put_all (synced_of reads n) (kept mask 0 ws)) (regroup w)
              ∙ ap (λ image. put_all image (kept mask 0 (before ++ sectors_in (take (w + 1 + 1) (piece ∷ pieces))))) synced_same,
        )
    later_ends Device t = (
      t.0 + 1,
      left ∙ ap further t.1,
      omega (arith, t.2),
      record { unsynced = t.3.unsynced; keeps_same = t.3.keeps_same ∙ d.keeps_same ∙ p.keeps_same },
      λ k. t.4 (subst IsTrue (sym (d.keeps_same ∙ p.keeps_same)) k) ∙ synced_same,
    )
    later_ends Inner t = risen_before (faults a.disk) (faults n.disk) (faults new.disk) (omega (arith, p.later, d.later)) t

  -- what is left of a batch, and fails
  rest_ends : (a new : ScriptedView D) (before : List SectorWrite) (pieces : List Piece) (calls : List Call) → a.unsynced ≡ before → IsAhead a.order a.writes a.calls → BreaksOff pieces (changing calls) → Leads (did_of keeps reads may_hold faults) a calls new → RestEnds keeps reads faults a before pieces new new.why
  rest_ends a new before [] calls none ahead breaks leads =
      let s = first_change keeps reads may_hold faults a new calls (Sync_call (Err Failed)) [] breaks leads in
      sync_broke a s.from s.to new before ahead s.before (quiet_calls keeps reads may_hold faults s.to new s.calls s.rest s.leads) s.does
  rest_ends a new before (piece ∷ pieces) calls none ahead breaks leads = elim breaks [
    | inl failed ↦
        let c = first_change keeps reads may_hold faults a new calls (Write_call piece.first piece.sectors (Err Failed)) [] failed leads in
        write_broke a c.from c.to new before piece pieces ahead none c.before (quiet_calls keeps reads may_hold faults c.to new c.calls c.rest c.leads) c.does
    | inr went ↦
        let c = first_change keeps reads may_hold faults a new calls (Write_call piece.first piece.sectors (Ok (record {}))) went.0 went.1 leads in
        let d : DidWrite keeps reads may_hold faults c.from piece.first piece.sectors (Ok (record {})) c.to = c.does in
        let same : c.from.order ≡ a.order = quiet_order keeps reads may_hold faults a c.from c.before in
        let order : c.to.order ≡ a.order = d.order ∙ same in
        let step = still_ahead a.order a.writes a.calls c.to.writes c.to.calls
        (d.writes_counted ∙ ap (λ x. min (x + 1) (2 ^ 64 - 1)) (quiet_writes keeps reads may_hold faults a c.from c.before))
        (d.calls_counted ∙ ap (λ x. min (x + 1) (2 ^ 64 - 1)) (quiet_count keeps reads may_hold faults a c.from c.before))
        ahead (λ r. d.reached (subst (λ (o : Arm). IsReached o c.to.writes c.to.calls) (sym same) r)) in
        let held : c.to.unsynced ≡ before ++ writes piece.first piece.sectors = ap (λ (v : ScriptedView D). v.unsynced) d.kept_back ∙ ap (λ ws. ws ++ writes piece.first piece.sectors) (quiet_unsynced keeps reads may_hold faults a c.from c.before ∙ none) in
        let rest = rest_ends c.to new (before ++ writes piece.first piece.sectors) pieces c.calls held (subst (λ (o : Arm). IsAhead o c.to.writes c.to.calls) (sym order) step.0) (subst (BreaksOff pieces) (sym c.rest) went.2) c.leads in
        later_ends a c.from c.to new before piece pieces (step.1 ∙ ap (λ o. further (order_left o c.to.writes c.to.calls)) (sym order)) c.before d new.why rest
  ]

  -- a whole batch that fails
  pub batch_broke : (old new : ScriptedView D) (pieces : List Piece) → old.unsynced ≡ [] → IsAhead old.order old.writes old.calls → FailsOnTheWay (did_of keeps reads may_hold faults) old pieces new → BatchEnds keeps reads faults old pieces new new.why
  batch_broke old new pieces none ahead f = elim f.last [
    | inl breaks ↦ rest_ends old new [] pieces f.calls none ahead breaks f.leads
    | inr read ↦
        let r = failed_read keeps reads may_hold faults old new f.calls read f.leads in
        subst (λ w. BatchEnds keeps reads faults old pieces new w) (sym r.0) r.1
  ]
