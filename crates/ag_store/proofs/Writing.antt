-- What batches leave of a scripted disk.
use Rattle.std.proofs.Common.{◌≡◌, ◌⊎◌, ◌≤◌, ℕ, List, [], ◌∷◌, Bool, Ok, Err, refl, sym, ap, ◌∙◌, subst, arith, inl, inr}
use Rattle.std.specs.Prelude.{Result, IsErrOf}
use Rattle.std.specs.List.{AllByRecursion}
use Rattle.ag_outside.specs.declared.disk.DiskError.{DiskError}
use Rattle.ag_outside.specs.declared.disk.DiskError.TheVariants.{Failed, NoMemory}
use Rattle.ag_outside.specs.declared.disk.SectorWrite.{SectorWrite}
use Rattle.ag_outside.specs.declared.order.Arm.TheVariants.{Free}
use Rattle.ag_outside.specs.declared.order.Why.{Why}
use Rattle.ag_outside.specs.declared.order.Why.TheVariants.{Nothing, Stopped, Device, Inner}
use Rattle.ag_outside.specs.Calls.{Call, Write_call, Read_call, Sync_call, Leads, changing, Piece, all_went, BreaksOff as PiecesBreakOff}
use Rattle.ag_outside.specs.Counts.{HasRisen}
use Rattle.ag_outside.specs.Disks.{Content, Image}
use Rattle.ag_outside.specs.Scripts.{ScriptedView}
use Rattle.ag_outside.specs.Shown.{reads_of, holds_of, did_of, Told, ToldAtSync, DidSync}
use Rattle.ag_kept.specs.Ending.{IsSettled, EndsSync}
use Rattle.ag_outside.proofs.Quiet.{risen_before, risen_after}
use Rattle.ag_kept.proofs.Calls.{ordered, read_only, sync_ends}
use Rattle.ag_pagestore.specs.declared.batch.PageWrite.{PageWrite}
use Rattle.ag_pagestore.specs.Batches.{pieces}
use Rattle.ag_pages.specs.Reading.{WasOnlyRead}
use Rattle.ag_pages.specs.Flush.{TakesBatches, BreaksOff}

-- memory wasn't refused for this call, or it is a read
abbrev Plain : Call → Type 0
Plain (Read_call at result) = Unit {0}
Plain (Write_call first sectors (Ok done)) = Unit {0}
Plain (Write_call first sectors (Err Failed)) = Unit {0}
Plain (Write_call first sectors (Err NoMemory)) = ⊥
Plain (Sync_call (Ok done)) = Unit {0}
Plain (Sync_call (Err Failed)) = Unit {0}
Plain (Sync_call (Err NoMemory)) = ⊥

plain_is : (x y : Call) → x ≡ y → Plain y → Plain x
plain_is x y e p = subst Plain (sym e) p

head_is : (x y : Call) (xs ys : List Call) → x ∷ xs ≡ y ∷ ys → x ≡ y
head_is x y xs ys e = cc e

tail_is : (x y : Call) (xs ys : List Call) → x ∷ xs ≡ y ∷ ys → xs ≡ ys
tail_is x y xs ys e = cc e

synced_is : (x y : Result (Unit {0}) DiskError) → Sync_call x ≡ Sync_call y → x ≡ y
synced_is x y e = cc e

-- reads, all pieces, and all pieces up to the first call that failed
plain_reads : (calls : List Call) → changing calls ≡ [] → AllByRecursion Plain calls
plain_reads [] none = tt
plain_reads (Read_call at result ∷ calls) none = (tt, plain_reads calls none)
plain_reads (Write_call first sectors result ∷ calls) none = absurd (cc none)
plain_reads (Sync_call result ∷ calls) none = absurd (cc none)

plain_went : (ps : List Piece) (calls : List Call) → changing calls ≡ all_went ps → AllByRecursion Plain calls
plain_went [] [] e = absurd (cc e)
plain_went (p ∷ ps) [] e = absurd (cc e)
plain_went ps (Read_call at result ∷ calls) e = (tt, plain_went ps calls e)
plain_went [] (Write_call first sectors result ∷ calls) e = absurd (cc e)
plain_went (p ∷ ps) (Write_call first sectors result ∷ calls) e = (
  plain_is (Write_call first sectors result) (Write_call p.first p.sectors (Ok (record {}))) (head_is (Write_call first sectors result) (Write_call p.first p.sectors (Ok (record {}))) (changing calls) (all_went ps) e) tt,
  plain_went ps calls (tail_is (Write_call first sectors result) (Write_call p.first p.sectors (Ok (record {}))) (changing calls) (all_went ps) e),
)
plain_went [] (Sync_call result ∷ calls) e = (
  plain_is (Sync_call result) (Sync_call (Ok (record {}))) (head_is (Sync_call result) (Sync_call (Ok (record {}))) (changing calls) [] e) tt,
  plain_reads calls (tail_is (Sync_call result) (Sync_call (Ok (record {}))) (changing calls) [] e),
)
plain_went (p ∷ ps) (Sync_call result ∷ calls) e = absurd (cc e)

-- the changing calls are one call, and then these
plain_cons : (calls : List Call) (call : Call) (others : List Call) → changing calls ≡ call ∷ others → Plain call → ((rest : List Call) → changing rest ≡ others → AllByRecursion Plain rest) → AllByRecursion Plain calls
plain_cons [] call others e p then = absurd (cc e)
plain_cons (Read_call at result ∷ calls) call others e p then = (tt, plain_cons calls call others e p then)
plain_cons (Write_call first sectors result ∷ calls) call others e p then = (
  plain_is (Write_call first sectors result) call (head_is (Write_call first sectors result) call (changing calls) others e) p,
  then calls (tail_is (Write_call first sectors result) call (changing calls) others e),
)
plain_cons (Sync_call result ∷ calls) call others e p then = (
  plain_is (Sync_call result) call (head_is (Sync_call result) call (changing calls) others e) p,
  then calls (tail_is (Sync_call result) call (changing calls) others e),
)

plain_broken : (ps : List Piece) (calls : List Call) → PiecesBreakOff ps (changing calls) → AllByRecursion Plain calls
plain_broken [] calls e = plain_cons calls (Sync_call (Err Failed)) [] e tt plain_reads
plain_broken (p ∷ ps) calls b = elim b [
  | inl failed ↦ plain_cons calls (Write_call p.first p.sectors (Err Failed)) [] failed tt plain_reads
  | inr on ↦ plain_cons calls (Write_call p.first p.sectors (Ok (record {}))) on.0 on.1 tt (λ rest e. plain_broken ps rest (subst (λ (cs : List Call). PiecesBreakOff ps cs) (sym e) on.2))
]

module _ {D : Type 0} (size : D → ℕ) (keeps : D → Bool) (reads : D → Image) (may_hold : D → ℕ → Content → Type 0) (faults : D → ℕ) where
  abbrev did : ScriptedView D → Call → ScriptedView D → Type 0
  did = did_of keeps reads may_hold faults

  -- with no order, a disk says that it failed where the one below did
  record Says (a b : ScriptedView D) : Type 0 where
    free : b.order ≡ Free
    why : (b.why ≡ a.why) ⊎ ((b.why ≡ Inner) × HasRisen (faults a.disk) (faults b.disk))
    later : faults a.disk ≤ faults b.disk

  says_then : (a b c : ScriptedView D) → Says a b → Says b c → Says a c
  says_then a b c p q = record {
    free = q.free;
    why = elim q.why [
      | inl same ↦ elim p.why [
        | inl first ↦ inl (same ∙ first)
        | inr risen ↦ inr (same ∙ risen.0, risen_after (faults a.disk) (faults b.disk) (faults c.disk) p.later risen.1 q.later)
      ]
      | inr risen ↦ inr (risen.0, risen_before (faults a.disk) (faults b.disk) (faults c.disk) p.later risen.1)
    ];
    later = omega (arith, p.later, q.later);
  }

  told_free : (a b : ScriptedView D) (all : List SectorWrite) (w : Why) → a.order ≡ Free → Told keeps reads may_hold faults a b all w → b.why ≡ w → (b.why ≡ a.why) ⊎ ((b.why ≡ Inner) × HasRisen (faults a.disk) (faults b.disk))
  told_free a b all Nothing free t e = absurd t
  told_free a b all (Stopped write count) free t e = (let order = t.1 in absurd (cc (free, order)))
  told_free a b all Device free t e = (let order = t.0 in absurd (cc (free, order)))
  told_free a b all Inner free t e = inr (e, t)

  told_sync : (a b : ScriptedView D) (w : Why) → a.order ≡ Free → ToldAtSync keeps reads may_hold faults a b w → b.why ≡ w → (b.why ≡ a.why) ⊎ ((b.why ≡ Inner) × HasRisen (faults a.disk) (faults b.disk))
  told_sync a b Nothing free t e = absurd t
  told_sync a b (Stopped write count) free t e = absurd t
  told_sync a b Device free t e = (let order = t.0 in absurd (cc (free, order)))
  told_sync a b Inner free t e = inr (e, t)

  says_call : (a b : ScriptedView D) (call : Call) → a.order ≡ Free → Plain call → did a call b → Says a b
  says_call a b (Read_call at result) free p d = record {
    free = ap (λ (v : ScriptedView D). v.order) d.same ∙ free;
    why = elim d.why [
      | inl same ↦ inl same
      | inr inner ↦ inr (inner.0, (d.inner (subst (λ r. IsErrOf r Failed) (sym inner.1) refl)).1)
    ];
    later = d.later;
  }
  says_call a b (Write_call first sectors (Ok done)) free p d = record { free = d.order ∙ free; why = inl (ap (λ (v : ScriptedView D). v.why) d.kept_back); later = d.later }
  says_call a b (Write_call first sectors (Err Failed)) free p d = record { free = d.order ∙ free; why = told_free a b _ b.why free (d.told refl) refl; later = d.later }
  says_call a b (Write_call first sectors (Err NoMemory)) free p d = absurd p
  says_call a b (Sync_call (Ok done)) free p d = record { free = d.order ∙ free; why = inl d.stays.0; later = d.later }
  says_call a b (Sync_call (Err Failed)) free p d = record { free = d.order ∙ free; why = told_sync a b b.why free (d.told refl) refl; later = d.later }
  says_call a b (Sync_call (Err NoMemory)) free p d = absurd p

  says_calls : (a b : ScriptedView D) (calls : List Call) → a.order ≡ Free → AllByRecursion Plain calls → Leads did a calls b → Says a b
  says_calls a b [] free p leads = record { free = ap (λ (v : ScriptedView D). v.order) leads ∙ free; why = inl (ap (λ (v : ScriptedView D). v.why) leads); later = subst (λ (v : ScriptedView D). faults a.disk ≤ faults v.disk) (sym leads) (omega arith) }
  says_calls a b (call ∷ calls) free p leads =
      let first = says_call a leads.0 call free p.0 leads.1 in
      says_then a leads.0 b first (says_calls leads.0 b calls first.free p.1 leads.2)

  -- pieces that were written and synced
  settled_calls : (a b : ScriptedView D) (ps : List Piece) (calls : List Call) → changing calls ≡ all_went ps → Leads did a calls b → IsSettled keeps a b
  settled_calls a b [] [] e leads = absurd (cc e)
  settled_calls a b (p ∷ ps) [] e leads = absurd (cc e)
  settled_calls a b ps (Read_call at result ∷ calls) e leads =
      let rest = settled_calls leads.0 b ps calls e leads.2 in
      record { unsynced = rest.unsynced; keeps_same = rest.keeps_same ∙ leads.1.keeps_same }
  settled_calls a b [] (Write_call first sectors result ∷ calls) e leads = absurd (cc e)
  settled_calls a b (p ∷ ps) (Write_call first sectors result ∷ calls) e leads =
      let rest = settled_calls leads.0 b ps calls (tail_is (Write_call first sectors result) (Write_call p.first p.sectors (Ok (record {}))) (changing calls) (all_went ps) e) leads.2 in
      record { unsynced = rest.unsynced; keeps_same = rest.keeps_same ∙ leads.1.keeps_same }
  settled_calls a b [] (Sync_call result ∷ calls) e leads =
      let ok : result ≡ Ok (record {}) = synced_is result (Ok (record {})) (head_is (Sync_call result) (Sync_call (Ok (record {}))) (changing calls) [] e) in
      let done : DidSync keeps reads may_hold faults a (Ok (record {})) leads.0 = subst (λ (r : Result (Unit {0}) DiskError). DidSync keeps reads may_hold faults a r leads.0) ok leads.1 in
      let q = read_only keeps reads may_hold faults leads.0 b (record { calls = calls; leads = leads.2; reads = tail_is (Sync_call result) (Sync_call (Ok (record {}))) (changing calls) [] e }) in
      record { unsynced = ap (λ (v : ScriptedView D). v.unsynced) q.same ∙ done.handed_down; keeps_same = q.keeps_same ∙ done.keeps_same }
  settled_calls a b (p ∷ ps) (Sync_call result ∷ calls) e leads = absurd (cc e)

  abbrev Takes : ScriptedView D → List (List PageWrite) → ScriptedView D → Type 0
  Takes = TakesBatches (λ s. size s.disk) (λ s. keeps s.disk) (reads_of reads) (holds_of keeps may_hold) (did_of keeps reads may_hold faults)

  -- a disk with no order that took batches
  record Wrote (a b : ScriptedView D) : Type 0 where
    settled : IsSettled keeps a b
    says : Says a b

  wrote_reads : (a b : ScriptedView D) → a.unsynced ≡ [] → a.order ≡ Free → WasOnlyRead (λ s. size s.disk) (λ s. keeps s.disk) (reads_of reads) (holds_of keeps may_hold) (did_of keeps reads may_hold faults) a b → Wrote a b
  wrote_reads a b none free r =
      let q = read_only keeps reads may_hold faults a b r.calls in
      record {
        settled = record { unsynced = ap (λ (v : ScriptedView D). v.unsynced) q.same ∙ none; keeps_same = q.keeps_same };
        says = record { free = ap (λ (v : ScriptedView D). v.order) q.same ∙ free; why = q.why; later = q.later };
      }

  wrote_batches : (batches : List (List PageWrite)) (a b : ScriptedView D) → a.unsynced ≡ [] → a.order ≡ Free → Takes a batches b → Wrote a b
  wrote_batches [] a b none free t = wrote_reads a b none free t
  wrote_batches (batch ∷ batches) a b none free t =
      let first = wrote_reads a t.0 none free t.2 in
      let calls = t.3.calls in
      let settled = settled_calls t.0 t.1 (pieces (reads_of reads t.0) batch) calls.calls calls.all calls.leads in
      let said = says_calls t.0 t.1 calls.calls first.says.free (plain_went (pieces (reads_of reads t.0) batch) calls.calls calls.all) calls.leads in
      let rest = wrote_batches batches t.1 b settled.unsynced said.free t.4 in
      record {
        settled = record { unsynced = rest.settled.unsynced; keeps_same = rest.settled.keeps_same ∙ settled.keeps_same ∙ first.settled.keeps_same };
        says = says_then a t.0 b first.says (says_then t.0 t.1 b said rest.says);
      }

  pub batches_settle : (batches : List (List PageWrite)) (a b : ScriptedView D) → a.unsynced ≡ [] → a.order ≡ Free → Takes a batches b → IsSettled keeps a b
  batches_settle batches a b none free t = (wrote_batches batches a b none free t).settled

  pub batches_later : (batches : List (List PageWrite)) (a b : ScriptedView D) → a.unsynced ≡ [] → a.order ≡ Free → Takes a batches b → faults a.disk ≤ faults b.disk
  batches_later batches a b none free t = (wrote_batches batches a b none free t).says.later

  -- a disk with no order that failed on the way
  risen_by : (a b : ScriptedView D) → Says a b → a.why ≡ Nothing → b.why ≡ Inner → HasRisen (faults a.disk) (faults b.disk)
  risen_by a b s nothing inner = elim s.why [
    | inl same ↦ absurd (cc (same, nothing, inner))
    | inr risen ↦ risen.1
  ]

  ends_inner : (a b : ScriptedView D) (w : Why) → EndsSync keeps reads may_hold faults a b w → w ≡ Inner → HasRisen (faults a.disk) (faults b.disk)
  ends_inner a b w ends inner = subst (λ (x : Why). EndsSync keeps reads may_hold faults a b x) inner ends

  pub breaks_risen : (batches : List (List PageWrite)) (a b : ScriptedView D) → a.unsynced ≡ [] → a.order ≡ Free → a.why ≡ Nothing
      → BreaksOff (λ s. size s.disk) (λ s. keeps s.disk) (reads_of reads) (holds_of keeps may_hold) (did_of keeps reads may_hold faults) a batches b → b.why ≡ Inner → HasRisen (faults a.disk) (faults b.disk)
  breaks_risen batches a b none free nothing h inner =
      let first = wrote_batches h.before a h.mid none free h.took in
      elim h.failed [
        | inr read ↦ risen_by a b (says_then a h.mid b first.says (wrote_reads h.mid b first.settled.unsynced first.says.free read).says) nothing inner
        | inl fails ↦ elim fails.last [
          | inl broke ↦ risen_by a b (says_then a h.mid b first.says (says_calls h.mid b fails.calls first.says.free (plain_broken (pieces (reads_of reads h.mid) h.at) fails.calls broke) fails.leads)) nothing inner
          | inr at_read ↦ risen_before (faults a.disk) (faults h.mid.disk) (faults b.disk) first.says.later
              (ends_inner h.mid b b.why (sync_ends keeps reads may_hold faults h.mid b first.settled.unsynced (record { calls = fails.calls; leads = fails.leads; last = inr at_read })) inner)
        ]
      ]

  -- the same of a disk whose order was taken back
  module _ (old armed new : ScriptedView D) (is : armed ≡ ordered old Free) (none : old.unsynced ≡ []) (batches : List (List PageWrite)) where
    pub armed_later : Takes armed batches new → faults old.disk ≤ faults new.disk
    armed_later t = batches_later batches (ordered old Free) new none refl (subst (λ (v : ScriptedView D). Takes v batches new) is t)

    pub armed_breaks : BreaksOff (λ s. size s.disk) (λ s. keeps s.disk) (reads_of reads) (holds_of keeps may_hold) (did_of keeps reads may_hold faults) armed batches new → new.why ≡ Inner → HasRisen (faults old.disk) (faults new.disk)
    armed_breaks h inner =
        breaks_risen batches (ordered old Free) new none refl refl
        (subst (λ (v : ScriptedView D). BreaksOff (λ s. size s.disk) (λ s. keeps s.disk) (reads_of reads) (holds_of keeps may_hold) (did_of keeps reads may_hold faults) v batches new) is h) inner
