-- What a new master makes of a replica's data.
use Rattle.std.proofs.Common.{◌≡◌, ◌⊎◌, ℕ, ◌<◌, ◌≤◌, List, [], ◌∷◌, Bool, false, IsTrue, if◌then◌else◌, Ok, Err, refl, sym, ap, ◌∙◌, subst, arith, inl, inr}
use Rattle.std.specs.Prelude.{Result, OnOk, OnErr, IsErr, IsErrOf, nat_lt}
use Rattle.std.proofs.lemmas.Bool.{lt-ltb, le-ltb, ltb-true, or_cases}
use Rattle.ag_model.specs.Blocks.{cut_at}
use Rattle.ag_outside.specs.declared.order.Why.{Why}
use Rattle.ag_outside.specs.Counts.{HasRisen}
use Rattle.ag_outside.specs.Calls.{Piece, TakesAll, FailsOnTheWay}
use Rattle.ag_outside.specs.Disks.{Content, Image, Only, put}
use Rattle.ag_outside.specs.Scripts.{ScriptedView}
use Rattle.ag_outside.specs.Shown.{reads_of, holds_of, did_of}
use Rattle.ag_master.specs.declared.master.Master.{Master as SectorMaster}
use Rattle.ag_master.specs.declared.store.MasterFault.{MasterFault}
use Rattle.ag_master.specs.declared.store.MasterFault.TheVariants.{DiskFault as MasterDiskFault}
use Rattle.ag_master.specs.Spelling.{spelling, HasSpelling}
use Rattle.ag_logstore.specs.Stored.{log_end}
use Rattle.ag_logstore.specs.Stores.{StoreView, IsCurrent}
use Rattle.ag_kept.specs.Kept.{master_on}
use Rattle.ag_kept.specs.Starting.{own_log, with_master}
use Rattle.ag_suspect.specs.Rows.{suspects_on}
use Rattle.ag_rules.specs.Replica.{Kept, Master}
use Rattle.ag_rules.specs.Plan.{Master_write}
use Rattle.ag_keeping.specs.Keeping.{IsKeeping, store_on}
use Rattle.ag_keeping.specs.Cutting.{sector_master, CanCut}
use Rattle.ag_keeping.specs.Meaning.{Mean}
use Rattle.ag_keeping.proofs.Meanings.{master_means}
use Rattle.ag_keeping.proofs.Masters.{master_says, master_now, master_current, store_same, store_cut}
use Rattle.ag_durable.specs.declared.fault.DurableFault.{DurableFault}
use Rattle.ag_durable.specs.declared.fault.DurableFault.TheVariants.{DiskFault, NoMemory}
use Rattle.ag_durable.specs.declared.progress.Came.TheVariants.{Underway, Unknown}
use Rattle.ag_durable.specs.declared.progress.Progress.{Progress}
use Rattle.ag_durable.specs.Views.{DurableView}
use Rattle.ag_durable.specs.Standing.{GoesOn, HoldsAt, Stands}
use Rattle.ag_durable.specs.Coming.{step_passed, step_broken, WasOrdered, Performs}
use Rattle.ag_durable.specs.Following.{log_after, Follows}
use Rattle.ag_durable.proofs.Touched.{apart_below}
use Rattle.ag_durable.proofs.Singles.{IsStep, one_whole, step_passes, step_breaks}
use Rattle.ag_pieces.specs.Pieces.{sectors_in}
use Rattle.ag_outside.specs.Disks.{put_all}
use Rattle.ag_durable.proofs.Settled.{Remembers, Did, on_taken, on_ok1, settled_performs, settled_stands, settled_risen}

-- what a master means that is written over this one, and what memory has then
pub record SaveMeans (pages replica : ℕ) (image : Image) (x : SectorMaster) (s : StoreView) (m : Master) (end : ℕ) : Type 0 where
  pub means : Mean pages replica image (record { first = 0; sectors = spelling (sector_master x m end) ∷ [] } ∷ []) (Master_write m end ∷ [])
  pub master : master_on (with_master image (sector_master x m end)) ≡ sector_master x m end
  pub suspects : suspects_on (with_master image (sector_master x m end)) ≡ suspects_on image
  pub log : store_on (with_master image (sector_master x m end)) ≡ log_after x s (sector_master x m end) end
  pub current : IsCurrent image s ⊎ (x.incarnation < m.incarnation) → IsCurrent (with_master image (sector_master x m end)) (log_after x s (sector_master x m end) end)

module _ (pages replica : ℕ) (image : Image) (h : IsKeeping pages replica image) (m : Master) (end : ℕ) where
  module _ (can : CanCut (master_on image) (own_log image) m end) (fits : HasSpelling (sector_master (master_on image) m end)) where
    abbrev now : Image
    now = with_master image (sector_master (master_on image) m end)

    abbrev cut_store : StoreView
    cut_store = record { log = cut_at end (own_log image); cut = end; incarnation = m.incarnation; is_closed = false }

    own_log_after : store_on now ≡ log_after (master_on image) (store_on image) (sector_master (master_on image) m end) end
    own_log_after = elim can [
      | inl same ↦ store_same pages replica image h m end (inl same) fits same.0
          ∙ sym (ap (λ (b : Bool). if b then cut_store else store_on image) (le-ltb (master_on image).incarnation m.incarnation (omega (arith, same.0))))
      | inr up ↦ store_cut pages replica image h m end (inr up) fits up.0
          ∙ sym (ap (λ (b : Bool). if b then cut_store else store_on image) (lt-ltb (master_on image).incarnation m.incarnation up.0))
    ]

    own_save : SaveMeans pages replica image (master_on image) (store_on image) m end
    own_save = record {
      means = master_means pages replica image h m end can fits;
      master = master_now pages replica image h m end can fits;
      suspects = ap (λ (k : Kept). k.suspects) (master_says pages replica image h m end can fits).kept;
      log = own_log_after;
      current = λ either. subst (IsCurrent now) own_log_after (master_current pages replica image h m end can fits either);
    }

  pub save_means : (x : SectorMaster) (s : StoreView) → master_on image ≡ x → store_on image ≡ s → CanCut x s.log m end → HasSpelling (sector_master x m end) → SaveMeans pages replica image x s m end
  save_means x s master log can fits =
      subst (λ (y : SectorMaster). SaveMeans pages replica image y s m end) master
      (subst (λ (t : StoreView). SaveMeans pages replica image (master_on image) t m end) log
      (own_save
      (subst (λ (y : SectorMaster). CanCut y (own_log image) m end) (sym master) (subst (λ (t : StoreView). CanCut x t.log m end) (sym log) can))
      (subst (λ (y : SectorMaster). HasSpelling (sector_master y m end)) (sym master) fits)))

module _ {D : Type 0} (size : D → ℕ) (keeps : D → Bool) (reads : D → Image) (may_hold : D → ℕ → Content → Type 0) (faults : D → ℕ) (old : DurableView D) (disk : ScriptedView D) (log : StoreView) (master : SectorMaster) (appends : Bool) (q : Progress) (m : Master) (end : ℕ) (next : SectorMaster)
    (under : old.progress.came ≡ Underway) (stands : Stands size keeps reads may_hold old) (can : CanCut old.master old.log.log m end) (next_is : next ≡ sector_master old.master m end) (next_fits : HasSpelling next) where
  abbrev new : DurableView D
  new = record { disk = disk; log = log; master = master; suspects = old.suspects; appends = appends; progress = q }

  abbrev piece : Piece
  piece = record { first = 0; sectors = spelling (sector_master old.master m end) ∷ [] }

  goes : GoesOn keeps reads may_hold old
  goes = subst (HoldsAt keeps reads may_hold old) under stands.holds

  facts : SaveMeans old.master.pages old.master.replica (reads_of reads old.disk) old.master old.log m end
  facts = save_means old.master.pages old.master.replica (reads_of reads old.disk) goes.rest.keeping m end old.master old.log goes.master goes.log can (subst HasSpelling next_is next_fits)

  is_step : IsStep (Master_write m end) 1
  is_step = record { step = refl; sectors_are = refl; no_page = refl }

  -- what is read then
  abbrev Wrote : Type 0
  Wrote = IsTrue (keeps old.disk.disk) → reads_of reads disk ≡ put (reads_of reads old.disk) (record { at = 0; sector = spelling next })

  abbrev Durably : Type 0
  Durably = IsTrue (keeps old.disk.disk) → Only (reads_of reads disk) (holds_of keeps may_hold disk)

  abbrev Followed : Type 0
  Followed = Follows old.master old.log old.appends next end master log appends

  is_now : Wrote → reads_of reads disk ≡ with_master (reads_of reads old.disk) (sector_master old.master m end)
  is_now wrote = wrote goes.rest.modelled ∙ ap (with_master (reads_of reads old.disk)) next_is

  remembers : Followed → Wrote → Durably → Remembers size keeps reads may_hold faults old new
  remembers f wrote durable =
      let now = is_now wrote in
      let store : store_on (reads_of reads disk) ≡ log = ap store_on now ∙ facts.log ∙ sym (ap (λ (x : SectorMaster). log_after old.master old.log x end) next_is) ∙ sym f.log_is in
      record {
        synced = durable goes.rest.modelled;
        master = ap master_on now ∙ facts.master ∙ sym next_is ∙ sym f.master_is;
        suspects = ap suspects_on now ∙ facts.suspects ∙ goes.suspects;
        log = store;
        current = λ yes.
            let either : IsCurrent (reads_of reads old.disk) old.log ⊎ (old.master.incarnation < m.incarnation) = elim (or_cases old.appends (nat_lt old.master.incarnation next.incarnation) (sym f.appends_is ∙ yes)) [
              | inl was ↦ inl (goes.current was)
              | inr up ↦ inr (subst (λ (x : SectorMaster). old.master.incarnation < x.incarnation) next_is (ltb-true old.master.incarnation next.incarnation up))
            ] in
            subst (IsCurrent (reads_of reads disk)) (sym (ap store_on now ∙ facts.log) ∙ store)
            (subst (λ (i : Image). IsCurrent i (log_after old.master old.log (sector_master old.master m end) end)) (sym now) (facts.current either));
      }

  module _ (r : Result (Unit {0}) MasterFault) (went done : Result (Unit {0}) DurableFault) (why : Why) (why_is : why ≡ disk.why) (refused : OnErr r (IsErr went)) (failed : IsErrOf went DiskFault → IsErrOf r MasterDiskFault)
      (follows : OnOk went Followed) (stays : OnErr went ((master ≡ old.master) × (log ≡ old.log) × (appends ≡ old.appends)))
      (written : OnOk r Wrote) (durable : OnOk r Durably)
      (calls : OnOk r (TakesAll (did_of keeps reads may_hold faults) old.disk (record { first = 0; sectors = spelling next ∷ [] } ∷ []) disk)) (broken : IsErrOf r MasterDiskFault → FailsOnTheWay (did_of keeps reads may_hold faults) old.disk (record { first = 0; sectors = spelling next ∷ [] } ∷ []) disk)
      (passes : OnOk done (OnOk went (q ≡ step_passed old.progress))) (breaks : OnOk done (IsErrOf went DiskFault → WasOrdered why × (q ≡ step_broken old.progress.order old.progress 1)))
      (known : OnOk done (went ≡ Err NoMemory → ⊥)) (fault : IsErrOf done DiskFault → (went ≡ Err DiskFault) × (WasOrdered why → ⊥)) (unknown : OnErr done (q.came ≡ Unknown)) where
    remembers_by : (t : Result (Unit {0}) DurableFault) → OnOk t Followed → OnOk t Wrote → OnOk t Durably → OnOk t (Remembers size keeps reads may_hold faults old new)
    remembers_by (Ok u) f w d = remembers f w d
    remembers_by (Err e) f w d = tt

    pages_by : (t : Result (Unit {0}) DurableFault) → OnOk t Followed → OnErr t ((master ≡ old.master) × (log ≡ old.log) × (appends ≡ old.appends)) → (master.pages ≡ old.master.pages) × (master.replica ≡ old.master.replica)
    pages_by (Ok u) f s = (ap (λ (x : SectorMaster). x.pages) (f.master_is ∙ next_is), ap (λ (x : SectorMaster). x.replica) (f.master_is ∙ next_is))
    pages_by (Err e) f s = (ap (λ (x : SectorMaster). x.pages) s.0, ap (λ (x : SectorMaster). x.replica) s.0)

    same_piece : ◌≡◌ {A = List Piece} (record { first = 0; sectors = spelling next ∷ [] } ∷ []) (piece ∷ [])
    same_piece = ap (λ (x : SectorMaster). record { first = 0; sectors = spelling x ∷ [] } ∷ []) next_is

    did : Did size keeps reads may_hold faults old new (piece ∷ []) (Master_write m end ∷ []) went done why
    did = record {
      why_is = why_is;
      took = on_taken (TakesAll (did_of keeps reads may_hold faults) old.disk (piece ∷ []) disk) r went refused
          (subst (λ (ps : List Piece). OnOk r (TakesAll (did_of keeps reads may_hold faults) old.disk ps disk)) same_piece calls);
      wrote = on_taken (reads_of reads disk ≡ put_all (reads_of reads old.disk) (sectors_in (piece ∷ []))) r went refused
          (on_ok1 Wrote (reads_of reads disk ≡ put_all (reads_of reads old.disk) (sectors_in (piece ∷ []))) r written (λ w. one_whole (reads_of reads old.disk) (reads_of reads disk) piece (is_now w)));
      memory = remembers_by went follows (on_taken Wrote r went refused written) (on_taken Durably r went refused durable);
      broke = λ is. subst (λ (ps : List Piece). FailsOnTheWay (did_of keeps reads may_hold faults) old.disk ps disk) same_piece (broken (failed is));
      passes = step_passes (Master_write m end) 1 is_step old.progress q went done passes;
      breaks = step_breaks (Master_write m end) 1 is_step old.progress q went done why breaks;
      known = known;
      fault = fault;
      unknown = unknown;
    }

    pub save_performs : OnOk done (Performs reads old (Master_write m end ∷ []) new)
    save_performs = settled_performs size keeps reads may_hold faults old new (piece ∷ []) (Master_write m end ∷ []) under goes facts.means (pages_by went follows stays).0 (pages_by went follows stays).1 (apart_below piece (Master_write m end ∷ []) (omega arith)) went done why did

    pub save_stands : log_end ≤ size disk.disk → Stands size keeps reads may_hold new
    save_stands room = settled_stands size keeps reads may_hold faults old new (piece ∷ []) (Master_write m end ∷ []) under goes facts.means (pages_by went follows stays).0 (pages_by went follows stays).1 (apart_below piece (Master_write m end ∷ []) (omega arith)) went done why did room

    pub save_risen : IsErrOf done DiskFault → HasRisen (faults old.disk.disk) (faults disk.disk)
    save_risen = settled_risen size keeps reads may_hold faults old new (piece ∷ []) (Master_write m end ∷ []) under goes facts.means (pages_by went follows stays).0 (pages_by went follows stays).1 (apart_below piece (Master_write m end ∷ []) (omega arith)) went done why did
