-- What reads between the calls of a scripted disk leave.
use Rattle.std.proofs.Common.{◌≡◌, ◌⊎◌, ℕ, ◌≤◌, List, [], ◌∷◌, ◌++◌, Bool, Err, refl, sym, ap, ◌∙◌, subst, arith, inl, inr}
use Rattle.std.specs.Prelude.{IsErrOf}
use Rattle.std.proofs.lemmas.Bool.{cases_lt}
use Rattle.ag_outside.specs.declared.disk.DiskError.TheVariants.{Failed}
use Rattle.ag_outside.specs.declared.order.Why.TheVariants.{Inner}
use Rattle.ag_outside.specs.Counts.{HasRisen}
use Rattle.ag_outside.specs.Disks.{Content, Image}
use Rattle.ag_outside.specs.Calls.{Call, Write_call, Read_call, Sync_call, Leads, changing, FailsAtRead}
use Rattle.ag_outside.specs.Scripts.{ScriptedView, overlay, shown}
use Rattle.ag_outside.specs.Shown.{reads_of, synced_of, did_of}

-- a rise stays one, seen from before or after
pub risen_before : (a b c : ℕ) → a ≤ b → HasRisen b c → HasRisen a c
risen_before a b c le (inl lt) = inl (omega (arith, le, lt))
risen_before a b c le (inr most) = inr most

pub risen_after : (a b c : ℕ) → a ≤ b → HasRisen a b → b ≤ c → HasRisen a c
risen_after a b c le (inl lt) later = inl (omega (arith, lt, later))
risen_after a b c le (inr most) later = elim (cases_lt b c) [
  | inl up ↦ inl (omega (arith, le, up))
  | inr down ↦ inr (omega (arith, down, later, most))
]

module _ {D : Type 0} (keeps : D → Bool) (reads : D → Image) (may_hold : D → ℕ → Content → Type 0) (faults : D → ℕ) where
  abbrev pub did : ScriptedView D → Call → ScriptedView D → Type 0
  did = did_of keeps reads may_hold faults

  -- nothing but reads came between
  pub record Quiet (old new : ScriptedView D) : Type 0 where
    pub same : new ≡ record old { disk = new.disk; why = new.why; faults = new.faults }
    pub reads_same : reads new.disk ≡ reads old.disk
    pub keeps_same : keeps new.disk ≡ keeps old.disk
    pub later : faults old.disk ≤ faults new.disk
    pub why : (new.why ≡ old.why) ⊎ ((new.why ≡ Inner) × HasRisen (faults old.disk) (faults new.disk))

  pub quiet : (a : ScriptedView D) → Quiet a a
  quiet a = record { same = refl; reads_same = refl; keeps_same = refl; later = omega arith; why = inl refl }

  pub quiet_then : (a b c : ScriptedView D) → Quiet a b → Quiet b c → Quiet a c
  quiet_then a b c p q = record {
    same = q.same ∙ ap (λ (v : ScriptedView D). record v { disk = c.disk; why = c.why; faults = c.faults }) p.same;
    reads_same = q.reads_same ∙ p.reads_same;
    keeps_same = q.keeps_same ∙ p.keeps_same;
    later = omega (arith, p.later, q.later);
    why = elim q.why [
      | inl same ↦ elim p.why [
        | inl first ↦ inl (same ∙ first)
        | inr risen ↦ inr (same ∙ risen.0, risen_after (faults a.disk) (faults b.disk) (faults c.disk) p.later risen.1 q.later)
      ]
      | inr risen ↦ inr (risen.0, risen_before (faults a.disk) (faults b.disk) (faults c.disk) p.later risen.1)
    ];
  }

  pub quiet_call : (a b : ScriptedView D) (at : ℕ) (result : _) → did a (Read_call at result) b → Quiet a b
  quiet_call a b at result d = record {
    same = d.same;
    reads_same = d.reads_same;
    keeps_same = d.keeps_same;
    later = d.later;
    why = elim d.why [
      | inl same ↦ inl same
      | inr inner ↦ inr (inner.0, (d.inner (subst (λ r. IsErrOf r Failed) (sym inner.1) refl)).1)
    ];
  }

  -- no call lowers the count of faults
  pub later_of : (a b : ScriptedView D) (call : Call) → did a call b → faults a.disk ≤ faults b.disk
  later_of a b (Write_call first sectors result) d = d.later
  later_of a b (Read_call at result) d = d.later
  later_of a b (Sync_call result) d = d.later

  pub leads_later : (a b : ScriptedView D) (calls : List Call) → Leads did a calls b → faults a.disk ≤ faults b.disk
  leads_later a b [] leads = subst (λ (v : ScriptedView D). faults a.disk ≤ faults v.disk) (sym leads) (omega arith)
  leads_later a b (call ∷ calls) leads = omega (arith, later_of a leads.0 call leads.1, leads_later leads.0 b calls leads.2)

  pub quiet_calls : (a b : ScriptedView D) (calls : List Call) → changing calls ≡ [] → Leads did a calls b → Quiet a b
  quiet_calls a b [] none leads = subst (Quiet a) (sym leads) (quiet a)
  quiet_calls a b (Write_call first sectors result ∷ calls) none leads = absurd (cc none)
  quiet_calls a b (Read_call at result ∷ calls) none leads = quiet_then a leads.0 b (quiet_call a leads.0 at result leads.1) (quiet_calls leads.0 b calls none leads.2)
  quiet_calls a b (Sync_call result ∷ calls) none leads = absurd (cc none)

  -- the first call that isn't a read, and what comes after it
  pub record Change (a b : ScriptedView D) (call : Call) (others : List Call) : Type 0 where
    pub from : ScriptedView D
    pub to : ScriptedView D
    pub before : Quiet a from
    pub does : did from call to
    pub calls : List Call
    pub leads : Leads did to calls b
    pub rest : changing calls ≡ others

  pub head_is : (x y : Call) (xs ys : List Call) → x ∷ xs ≡ y ∷ ys → x ≡ y
  head_is x y xs ys e = cc e

  pub tail_is : (x y : Call) (xs ys : List Call) → x ∷ xs ≡ y ∷ ys → xs ≡ ys
  tail_is x y xs ys e = cc e

  pub first_change : (a b : ScriptedView D) (calls : List Call) (call : Call) (others : List Call) → changing calls ≡ call ∷ others → Leads did a calls b → Change a b call others
  first_change a b [] call others e leads = absurd (cc e)
  first_change a b (Write_call first sectors result ∷ calls) call others e leads = record {
    from = a;
    to = leads.0;
    before = quiet a;
    does = subst (λ c. did a c leads.0) (head_is (Write_call first sectors result) call (changing calls) others e) leads.1;
    calls = calls;
    leads = leads.2;
    rest = tail_is (Write_call first sectors result) call (changing calls) others e;
  }
  first_change a b (Read_call at result ∷ calls) call others e leads =
      let c = first_change leads.0 b calls call others e leads.2 in
      record { from = c.from; to = c.to; before = quiet_then a leads.0 c.from (quiet_call a leads.0 at result leads.1) c.before; does = c.does; calls = c.calls; leads = c.leads; rest = c.rest }
  first_change a b (Sync_call result ∷ calls) call others e leads = record {
    from = a;
    to = leads.0;
    before = quiet a;
    does = subst (λ c. did a c leads.0) (head_is (Sync_call result) call (changing calls) others e) leads.1;
    calls = calls;
    leads = leads.2;
    rest = tail_is (Sync_call result) call (changing calls) others e;
  }

  -- a read that failed came last
  pub read_fails : (a b : ScriptedView D) (before : List Call) (at : ℕ) → Leads did a (before ++ Read_call at (Err Failed) ∷ []) b → (b.why ≡ Inner) × HasRisen (faults a.disk) (faults b.disk)
  read_fails a b [] at leads = subst (λ (v : ScriptedView D). (v.why ≡ Inner) × HasRisen (faults a.disk) (faults v.disk)) (sym leads.2) (leads.1.inner refl)
  read_fails a b (call ∷ before) at leads =
      let r = read_fails leads.0 b before at leads.2 in
      (r.0, risen_before (faults a.disk) (faults leads.0.disk) (faults b.disk) (later_of a leads.0 call leads.1) r.1)

  pub failed_read : (a b : ScriptedView D) (calls : List Call) → FailsAtRead calls → Leads did a calls b → (b.why ≡ Inner) × HasRisen (faults a.disk) (faults b.disk)
  failed_read a b calls f leads = read_fails a b f.0 f.1 (subst (λ cs. Leads did a cs b) f.2 leads)

  -- what is read, before and after reads
  pub quiet_reads : (a b : ScriptedView D) → Quiet a b → reads_of reads b ≡ reads_of reads a
  quiet_reads a b q =
      ap (λ (v : ScriptedView D). shown (reads b.disk) v.lost v.unsynced) q.same ∙ ap (λ (image : Image). shown image a.lost a.unsynced) q.reads_same

  pub quiet_synced : (a b : ScriptedView D) → Quiet a b → synced_of reads b ≡ synced_of reads a
  quiet_synced a b q = ap (λ (v : ScriptedView D). overlay v.lost (reads b.disk)) q.same ∙ ap (λ (image : Image). overlay a.lost image) q.reads_same

  pub quiet_unsynced : (a b : ScriptedView D) → Quiet a b → b.unsynced ≡ a.unsynced
  quiet_unsynced a b q = ap (λ (v : ScriptedView D). v.unsynced) q.same

  pub quiet_order : (a b : ScriptedView D) → Quiet a b → b.order ≡ a.order
  quiet_order a b q = ap (λ (v : ScriptedView D). v.order) q.same

  pub quiet_writes : (a b : ScriptedView D) → Quiet a b → b.writes ≡ a.writes
  quiet_writes a b q = ap (λ (v : ScriptedView D). v.writes) q.same

  pub quiet_count : (a b : ScriptedView D) → Quiet a b → b.calls ≡ a.calls
  quiet_count a b q = ap (λ (v : ScriptedView D). v.calls) q.same

  -- where nothing is kept back, what is synced is what is read
  pub synced_is : (a : ScriptedView D) → a.unsynced ≡ [] → reads_of reads a ≡ synced_of reads a
  synced_is a none = ap (λ ws. shown (reads a.disk) a.lost ws) none
