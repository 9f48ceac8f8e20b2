-- What the calls of a scripted disk leave.
use Rattle.std.proofs.Common.{◌≡◌, ℕ, ◌-◌, ◌^◌, ◌≤◌, min, length, [], ◌∷◌, ◌++◌, Bool, IsTrue, Ok, Err, refl, sym, ap, ◌∙◌, subst, arith, inl, inr}
use Rattle.ag_outside.specs.declared.disk.DiskError.TheVariants.{Failed}
use Rattle.ag_outside.specs.declared.order.Arm.{Arm}
use Rattle.ag_outside.specs.declared.order.Arm.TheVariants.{Free, Stop, Fail}
use Rattle.ag_outside.specs.declared.order.Why.{Why}
use Rattle.ag_outside.specs.declared.order.Why.TheVariants.{Nothing, Stopped, Device, Inner}
use Rattle.ag_outside.specs.Counts.{HasRisen}
use Rattle.ag_outside.specs.Disks.{Content, Image, writes, put_all}
use Rattle.ag_outside.specs.Calls.{Write_call, Sync_call, Piece, TakesAll, FailsOnTheWay, IsReadOnly}
use Rattle.ag_outside.specs.Scripts.{ScriptedView, kept}
use Rattle.ag_outside.specs.Shown.{reads_of, synced_of, Told, ToldAtSync, DidWrite, DidSync, did_of}
use Rattle.ag_outside.proofs.Quiet.{Quiet, quiet_calls, first_change, failed_read, quiet_reads, quiet_synced, quiet_unsynced, quiet_order, quiet_writes, quiet_count, synced_is, risen_before, risen_after}
use Rattle.ag_kept.specs.Ending.{next, IsSettled, EndsBy, EndsSync, WentThrough, WasSynced}

-- a disk with a new order
abbrev pub ordered : {D : Type 0} → ScriptedView D → Arm → ScriptedView D
ordered v order = record v { order = order; writes = 0; calls = 0; why = Nothing }

module _ {D : Type 0} (keeps : D → Bool) (reads : D → Image) (may_hold : D → ℕ → Content → Type 0) (faults : D → ℕ) where
  -- a write that failed, and reads before and after it
  module _ (old m n new : ScriptedView D) (piece : Piece) (none : old.unsynced ≡ []) (p : Quiet keeps reads may_hold faults old m) (q : Quiet keeps reads may_hold faults n new) (d : DidWrite keeps reads may_hold faults m piece.first piece.sectors (Err Failed) n) where
    settles : n.unsynced ≡ [] → IsSettled keeps old new
    settles unsynced = record { unsynced = quiet_unsynced keeps reads may_hold faults n new q ∙ unsynced; keeps_same = q.keeps_same ∙ d.keeps_same ∙ p.keeps_same }

    all_is : m.unsynced ++ writes piece.first piece.sectors ≡ writes piece.first piece.sectors
    all_is = ap (λ ws. ws ++ writes piece.first piece.sectors) (quiet_unsynced keeps reads may_hold faults old m p ∙ none)

    write_told : (w : Why) → Told keeps reads may_hold faults m n (m.unsynced ++ writes piece.first piece.sectors) w → EndsBy keeps reads may_hold faults old piece new w
    write_told Nothing t = absurd t
    write_told (Stopped write count) t =
        let mask = t.0 in (
          mask,
          sym (quiet_order keeps reads may_hold faults old m p) ∙ t.1,
          sym t.2 ∙ d.writes_counted ∙ ap next (quiet_writes keeps reads may_hold faults old m p),
          t.3 ∙ ap (λ ws. min (length (kept mask 0 ws)) (2 ^ 32 - 1)) all_is,
          settles t.4,
          λ k. quiet_reads keeps reads may_hold faults n new q ∙ t.6 (subst IsTrue (sym p.keeps_same) k)
              ∙ ap (λ ws. put_all (synced_of reads m) (kept mask 0 ws)) all_is
              ∙ ap (λ image. put_all image (kept mask 0 (writes piece.first piece.sectors))) (quiet_synced keeps reads may_hold faults old m p ∙ sym (synced_is keeps reads may_hold faults old none)),
        )
    write_told Device t = (
      inl (sym (quiet_order keeps reads may_hold faults old m p) ∙ t.0 ∙ ap Fail (d.calls_counted ∙ ap next (quiet_count keeps reads may_hold faults old m p))),
      settles t.1,
      λ k. quiet_reads keeps reads may_hold faults n new q ∙ t.3 (subst IsTrue (sym p.keeps_same) k) ∙ quiet_synced keeps reads may_hold faults old m p ∙ sym (synced_is keeps reads may_hold faults old none),
    )
    write_told Inner t = risen_before (faults old.disk) (faults m.disk) (faults new.disk) p.later (risen_after (faults m.disk) (faults n.disk) (faults new.disk) d.later t q.later)

    write_failed : EndsBy keeps reads may_hold faults old piece new new.why
    write_failed = elim q.why [
      | inl same ↦ subst (λ w. EndsBy keeps reads may_hold faults old piece new w) (sym same) (write_told n.why (d.told refl))
      | inr inner ↦ subst (λ w. EndsBy keeps reads may_hold faults old piece new w) (sym inner.0) (risen_before (faults old.disk) (faults n.disk) (faults new.disk) (omega (arith, p.later, d.later)) inner.1)
    ]

  -- why a sync failed, where something may be kept back
  abbrev SyncTold : ScriptedView D → ScriptedView D → Why → Type 0
  SyncTold a new Nothing = ⊥
  SyncTold a new (Stopped write count) = ⊥
  SyncTold a new Device = (a.order ≡ Fail (next a.calls)) × IsSettled keeps a new × (IsTrue (keeps a.disk) → reads_of reads new ≡ synced_of reads a)
  SyncTold a new Inner = HasRisen (faults a.disk) (faults new.disk)

  -- a sync that failed, and reads before and after it
  module _ (a m n new : ScriptedView D) (p : Quiet keeps reads may_hold faults a m) (q : Quiet keeps reads may_hold faults n new) (d : DidSync keeps reads may_hold faults m (Err Failed) n) where
    sync_told : (w : Why) → ToldAtSync keeps reads may_hold faults m n w → SyncTold a new w
    sync_told Nothing t = absurd t
    sync_told (Stopped write count) t = absurd t
    sync_told Device t = (
      sym (quiet_order keeps reads may_hold faults a m p) ∙ t.0 ∙ ap Fail (d.calls_counted ∙ ap next (quiet_count keeps reads may_hold faults a m p)),
      record { unsynced = quiet_unsynced keeps reads may_hold faults n new q ∙ t.1; keeps_same = q.keeps_same ∙ d.keeps_same ∙ p.keeps_same },
      λ k. quiet_reads keeps reads may_hold faults n new q ∙ t.3 (subst IsTrue (sym p.keeps_same) k) ∙ quiet_synced keeps reads may_hold faults a m p,
    )
    sync_told Inner t = risen_before (faults a.disk) (faults m.disk) (faults new.disk) p.later (risen_after (faults m.disk) (faults n.disk) (faults new.disk) d.later t q.later)

    sync_failed : SyncTold a new new.why
    sync_failed = elim q.why [
      | inl same ↦ subst (λ w. SyncTold a new w) (sym same) (sync_told n.why (d.told refl))
      | inr inner ↦ subst (λ w. SyncTold a new w) (sym inner.0) (risen_before (faults a.disk) (faults n.disk) (faults new.disk) (omega (arith, p.later, d.later)) inner.1)
    ]

  ends_sync : (old new : ScriptedView D) → old.unsynced ≡ [] → (w : Why) → SyncTold old new w → EndsSync keeps reads may_hold faults old new w
  ends_sync old new none Nothing t = absurd t
  ends_sync old new none (Stopped write count) t = absurd t
  ends_sync old new none Device t = (t.0, t.1, λ k. t.2 k ∙ sym (synced_is keeps reads may_hold faults old none))
  ends_sync old new none Inner t = t

  -- a piece that was kept back, and a sync that failed
  module _ (old m n new : ScriptedView D) (piece : Piece) (none : old.unsynced ≡ []) (p : Quiet keeps reads may_hold faults old m) (d : DidWrite keeps reads may_hold faults m piece.first piece.sectors (Ok (record {})) n) where
    back : n ≡ record m { unsynced = m.unsynced ++ writes piece.first piece.sectors; writes = n.writes; calls = n.calls }
    back = d.kept_back

    order_is : n.order ≡ old.order
    order_is = d.order ∙ quiet_order keeps reads may_hold faults old m p

    synced_same : synced_of reads n ≡ reads_of reads old
    synced_same = ap (λ (v : ScriptedView D). synced_of reads v) back ∙ quiet_synced keeps reads may_hold faults old m p ∙ sym (synced_is keeps reads may_hold faults old none)

    ends_write : (w : Why) → SyncTold n new w → EndsBy keeps reads may_hold faults old piece new w
    ends_write Nothing t = absurd t
    ends_write (Stopped write count) t = absurd t
    ends_write Device t = (
      inr (sym order_is ∙ t.0 ∙ ap (λ c. Fail (next c)) (d.calls_counted ∙ ap next (quiet_count keeps reads may_hold faults old m p))),
      record { unsynced = t.1.unsynced; keeps_same = t.1.keeps_same ∙ d.keeps_same ∙ p.keeps_same },
      λ k. t.2 (subst IsTrue (sym (d.keeps_same ∙ p.keeps_same)) k) ∙ synced_same,
    )
    ends_write Inner t = risen_before (faults old.disk) (faults n.disk) (faults new.disk) (omega (arith, p.later, d.later)) t

  -- ---- what was promised of the calls, in these words

  pub write_ends : (old new : ScriptedView D) (piece : Piece) → old.unsynced ≡ [] → FailsOnTheWay (did_of keeps reads may_hold faults) old (piece ∷ []) new → EndsBy keeps reads may_hold faults old piece new new.why
  write_ends old new piece none f = elim f.last [
    | inr read ↦
        let r = failed_read keeps reads may_hold faults old new f.calls read f.leads in
        subst (λ w. EndsBy keeps reads may_hold faults old piece new w) (sym r.0) r.1
    | inl breaks ↦ elim breaks [
      | inl written ↦
          let c = first_change keeps reads may_hold faults old new f.calls (Write_call piece.first piece.sectors (Err Failed)) [] written f.leads in
          write_failed old c.from c.to new piece none c.before (quiet_calls keeps reads may_hold faults c.to new c.calls c.rest c.leads) c.does
      | inr synced ↦
          let c = first_change keeps reads may_hold faults old new f.calls (Write_call piece.first piece.sectors (Ok (record {}))) synced.0 synced.1 f.leads in
          let s = first_change keeps reads may_hold faults c.to new c.calls (Sync_call (Err Failed)) [] (c.rest ∙ synced.2) c.leads in
          ends_write old c.from c.to new piece none c.before c.does new.why (sync_failed c.to s.from s.to new s.before (quiet_calls keeps reads may_hold faults s.to new s.calls s.rest s.leads) s.does)
    ]
  ]

  pub sync_ends : (old new : ScriptedView D) → old.unsynced ≡ [] → FailsOnTheWay (did_of keeps reads may_hold faults) old [] new → EndsSync keeps reads may_hold faults old new new.why
  sync_ends old new none f = elim f.last [
    | inr read ↦
        let r = failed_read keeps reads may_hold faults old new f.calls read f.leads in
        subst (λ w. EndsSync keeps reads may_hold faults old new w) (sym r.0) r.1
    | inl breaks ↦
        let s = first_change keeps reads may_hold faults old new f.calls (Sync_call (Err Failed)) [] breaks f.leads in
        ends_sync old new none new.why (sync_failed old s.from s.to new s.before (quiet_calls keeps reads may_hold faults s.to new s.calls s.rest s.leads) s.does)
  ]

  pub read_only : (old new : ScriptedView D) → IsReadOnly (did_of keeps reads may_hold faults) old new → Quiet keeps reads may_hold faults old new
  read_only old new r = quiet_calls keeps reads may_hold faults old new r.calls r.reads r.leads

  pub was_synced : (old new : ScriptedView D) → TakesAll (did_of keeps reads may_hold faults) old [] new → WasSynced keeps faults old new
  was_synced old new t =
      let s = first_change keeps reads may_hold faults old new t.calls (Sync_call (Ok (record {}))) [] t.all t.leads in
      let q = quiet_calls keeps reads may_hold faults s.to new s.calls s.rest s.leads in
      let d : DidSync keeps reads may_hold faults s.from (Ok (record {})) s.to = s.does in
      record {
        settled = record { unsynced = quiet_unsynced keeps reads may_hold faults s.to new q ∙ d.handed_down; keeps_same = q.keeps_same ∙ d.keeps_same ∙ s.before.keeps_same };
        later = omega (arith, s.before.later, d.later, q.later);
        order = quiet_order keeps reads may_hold faults s.to new q ∙ d.order ∙ quiet_order keeps reads may_hold faults old s.from s.before;
        writes_same = quiet_writes keeps reads may_hold faults s.to new q ∙ d.writes_counted ∙ quiet_writes keeps reads may_hold faults old s.from s.before;
        calls_counted = quiet_count keeps reads may_hold faults s.to new q ∙ d.calls_counted ∙ ap next (quiet_count keeps reads may_hold faults old s.from s.before);
        no_fail = λ e. d.reached (quiet_order keeps reads may_hold faults old s.from s.before ∙ e ∙ ap Fail (sym (d.calls_counted ∙ ap next (quiet_count keeps reads may_hold faults old s.from s.before))));
      }

  pub went_through : (old new : ScriptedView D) (piece : Piece) → TakesAll (did_of keeps reads may_hold faults) old (piece ∷ []) new → WentThrough keeps faults old new
  went_through old new piece t =
      let c = first_change keeps reads may_hold faults old new t.calls (Write_call piece.first piece.sectors (Ok (record {}))) (Sync_call (Ok (record {})) ∷ []) t.all t.leads in
      let s = first_change keeps reads may_hold faults c.to new c.calls (Sync_call (Ok (record {}))) [] c.rest c.leads in
      let q = quiet_calls keeps reads may_hold faults s.to new s.calls s.rest s.leads in
      let w : DidWrite keeps reads may_hold faults c.from piece.first piece.sectors (Ok (record {})) c.to = c.does in
      let d : DidSync keeps reads may_hold faults s.from (Ok (record {})) s.to = s.does in
      let order : c.from.order ≡ old.order = quiet_order keeps reads may_hold faults old c.from c.before in
      let writes : c.to.writes ≡ next old.writes = w.writes_counted ∙ ap next (quiet_writes keeps reads may_hold faults old c.from c.before) in
      let count : c.to.calls ≡ next old.calls = w.calls_counted ∙ ap next (quiet_count keeps reads may_hold faults old c.from c.before) in
      let again : s.to.calls ≡ next (next old.calls) = d.calls_counted ∙ ap next (quiet_count keeps reads may_hold faults c.to s.from s.before ∙ count) in
      let order_then : s.from.order ≡ old.order = quiet_order keeps reads may_hold faults c.to s.from s.before ∙ w.order ∙ order in
      record {
        settled = record { unsynced = quiet_unsynced keeps reads may_hold faults s.to new q ∙ d.handed_down; keeps_same = q.keeps_same ∙ d.keeps_same ∙ s.before.keeps_same ∙ w.keeps_same ∙ c.before.keeps_same };
        later = omega (arith, c.before.later, w.later, s.before.later, d.later, q.later);
        order = quiet_order keeps reads may_hold faults s.to new q ∙ d.order ∙ order_then;
        no_stop = λ mask e. w.reached (inl (mask, order ∙ e ∙ ap (λ n. Stop n mask) (sym writes)));
        no_fail = λ e. w.reached (inr (order ∙ e ∙ ap Fail (sym count)));
        no_fail_at_sync = λ e. d.reached (order_then ∙ e ∙ ap Fail (sym again));
      }

  -- reads after a new order
  pub read_settles : (old armed new : ScriptedView D) (order : Arm) → armed ≡ ordered old order → old.unsynced ≡ [] → IsReadOnly (did_of keeps reads may_hold faults) armed new → IsSettled keeps old new × (faults old.disk ≤ faults new.disk)
  read_settles old armed new order is none r =
      let q = read_only (ordered old order) new (subst (λ v. IsReadOnly (did_of keeps reads may_hold faults) v new) is r) in
      (record { unsynced = quiet_unsynced keeps reads may_hold faults (ordered old order) new q ∙ none; keeps_same = q.keeps_same }, q.later)

  -- without an order only the disk below fails
  pub free_fails : (old armed new : ScriptedView D) → armed ≡ ordered old Free → old.unsynced ≡ [] → FailsOnTheWay (did_of keeps reads may_hold faults) armed [] new → HasRisen (faults old.disk) (faults new.disk)
  free_fails old armed new is none f = below new.why (sync_ends (ordered old Free) new none (subst (λ v. FailsOnTheWay (did_of keeps reads may_hold faults) v [] new) is f))
    where
      below : (w : Why) → EndsSync keeps reads may_hold faults (ordered old Free) new w → HasRisen (faults old.disk) (faults new.disk)
      below Nothing e = absurd e
      below (Stopped write count) e = absurd e
      below Device e = absurd (cc e.0)
      below Inner e = e

  -- a sync that failed, but not by its order
  pub sync_below : (old new : ScriptedView D) (w : Why) → EndsSync keeps reads may_hold faults old new w → (w ≡ Device → ⊥) → HasRisen (faults old.disk) (faults new.disk)
  sync_below old new Nothing e other = absurd e
  sync_below old new (Stopped write count) e other = absurd e
  sync_below old new Device e other = absurd (other refl)
  sync_below old new Inner e other = e
