-- What a batch of images makes of a replica's data.
use Rattle.std.proofs.Common.{◌≡◌, ℕ, zero, suc, ◌+◌, ◌<◌, ◌≤◌, List, [], ◌∷◌, ◌++◌, length, take, map, Bool, true, false, IsTrue, if◌then◌else◌, Ok, Err, refl, sym, ap, ◌∙◌, subst, arith, ◌⊎◌}
use Rattle.std.specs.Prelude.{Result, OnOk, OnErr, IsErr, IsErrOf}
use Rattle.std.specs.List.{AllByRecursion}
use Rattle.std.proofs.lemmas.List.{length-map, append-nil}
use Rattle.ag_model.specs.Cells.{keeps_all}
use Rattle.ag_outside.specs.declared.order.Why.{Why}
use Rattle.ag_outside.specs.Counts.{HasRisen}
use Rattle.ag_outside.specs.Calls.{TakesAll, FailsOnTheWay}
use Rattle.ag_outside.specs.Disks.{Content, Image, Only, WroteSo, put_all}
use Rattle.ag_outside.specs.Scripts.{ScriptedView}
use Rattle.ag_outside.specs.Shown.{reads_of, holds_of, did_of}
use Rattle.ag_logstore.specs.Stored.{log_end}
use Rattle.ag_logstore.specs.Stores.{IsCurrent}
use Rattle.ag_kept.specs.Kept.{master_on}
use Rattle.ag_pagestore.specs.declared.batch.PageWrite.{PageWrite}
use Rattle.ag_pagestore.specs.declared.fault.PageWriteFault.{PageWriteFault}
use Rattle.ag_pagestore.specs.declared.fault.PageWriteFault.TheVariants.{DiskFault as PageDiskFault}
use Rattle.ag_pagestore.specs.Batches.{IsBatch, IsWhole, RisesFrom, written, pieces}
use Rattle.ag_pagestore.specs.Moments.{IsOldNewOrUnsound}
use Rattle.ag_pagestore.proofs.Pages.{disk_left, is_written}
use Rattle.ag_outside.specs.declared.disk.SectorWrite.{SectorWrite}
use Rattle.ag_pieces.specs.Pieces.{sectors_in}
use Rattle.ag_suspect.specs.Rows.{suspects_on}
use Rattle.ag_rules.specs.Cut.{steps_of, steps_kept}
use Rattle.ag_writes.specs.declared.order.Order.{Order}
use Rattle.ag_writes.specs.declared.order.Order.TheVariants.{Free, StopAt, FailAt}
use Rattle.ag_writes.specs.Performing.{nearer, pages_named}
use Rattle.ag_keeping.specs.Keeping.{store_on}
use Rattle.ag_keeping.specs.Meaning.{Mean}
use Rattle.ag_keeping.proofs.Pages.{page_writes, sectors_all, pages_mean, pages_keep}
use Rattle.ag_durable.specs.declared.fault.DurableFault.{DurableFault}
use Rattle.ag_durable.specs.declared.fault.DurableFault.TheVariants.{DiskFault, NoMemory}
use Rattle.ag_durable.specs.declared.progress.Came.TheVariants.{Underway, Stopped, Unknown}
use Rattle.ag_durable.specs.declared.progress.Progress.{Progress}
use Rattle.ag_durable.specs.Views.{DurableView}
use Rattle.ag_durable.specs.Imaging.{WritesImages}
use Rattle.ag_durable.specs.Standing.{GoesOn, HoldsAt, Stands}
use Rattle.ag_durable.specs.Coming.{passed, broken_by, pages_passed, pages_broken, WasOrdered, Performs}
use Rattle.ag_durable.proofs.Touched.{WasOrWrote, pages_apart}
use Rattle.ag_durable.proofs.Batches.{IsWithin}
use Rattle.ag_durable.proofs.Settled.{Remembers, Did, on_taken, on_ok1, settled_performs, settled_wrote, settled_all, settled_stands, settled_risen}

-- the pages of some writes
abbrev pub pages_of : List PageWrite → List ℕ
pages_of ws = map (λ (w : PageWrite). w.page) ws

pub first_pages : (n : ℕ) (ws : List PageWrite) → pages_of (take n ws) ≡ take n (pages_of ws)
first_pages zero ws = refl
first_pages (suc n) [] = refl
first_pages (suc n) (w ∷ ws) = ap (λ (ps : List ℕ). w.page ∷ ps) (first_pages n ws)

first_named : (n : ℕ) (ws : List PageWrite) → pages_named (take n (page_writes ws)) ≡ take n (pages_of ws)
first_named zero ws = refl
first_named (suc n) [] = refl
first_named (suc n) (w ∷ ws) = ap (λ (ps : List ℕ). w.page ∷ ps) (first_named n ws)

all_named : (ws : List PageWrite) → pages_named (page_writes ws) ≡ pages_of ws
all_named [] = refl
all_named (w ∷ ws) = ap (λ (ps : List ℕ). w.page ∷ ps) (all_named ws)

-- no page is a step
no_steps : (ws : List PageWrite) → steps_of (page_writes ws) ≡ 0
no_steps [] = refl
no_steps (w ∷ ws) = no_steps ws

if_none : (b : Bool) → ◌≡◌ {A = ℕ} (if b then 0 else 0) 0
if_none true = refl
if_none false = refl

none_kept : (mask from n : ℕ) (ws : List PageWrite) → steps_kept mask from (take n (page_writes ws)) ≡ 0
none_kept mask from zero ws = refl
none_kept mask from (suc n) [] = refl
none_kept mask from (suc n) (w ∷ ws) = omega (arith, if_none (keeps_all mask from 16), none_kept mask (from + 16) n ws)

long : (ws : List PageWrite) → length (page_writes ws) ≡ length (pages_of ws)
long ws = length-map ws _ ∙ sym (length-map ws _)

pages_passed_is : (p : Progress) (ws : List PageWrite) → pages_passed p (pages_of ws) ≡ passed p (page_writes ws)
pages_passed_is p ws =
    ap (λ (n : ℕ). record p { order = nearer n p.order; writes = p.writes + n; named = p.named ++ pages_of ws }) (sym (long ws))
    ∙ ap (λ (n : ℕ). record p { order = nearer (length (page_writes ws)) p.order; steps = n; writes = p.writes + length (page_writes ws); named = p.named ++ pages_of ws }) (let e : p.steps ≡ p.steps + steps_of (page_writes ws) = omega (arith, no_steps ws) in e)
    ∙ ap (λ (ps : List ℕ). record p { order = nearer (length (page_writes ws)) p.order; steps = p.steps + steps_of (page_writes ws); writes = p.writes + length (page_writes ws); named = p.named ++ ps }) (sym (all_named ws))

pages_broken_is : (o : Order) (p : Progress) (ws : List PageWrite) → pages_broken o p (pages_of ws) ≡ broken_by o p (page_writes ws)
pages_broken_is Free p ws = refl
pages_broken_is (FailAt c) p ws = refl
pages_broken_is (StopAt w mask) p ws =
    ap (λ (n : ℕ). record p { steps = n; writes = p.writes + (w + 1); named = p.named ++ take (w + 1) (pages_of ws); came = Stopped }) (let e : p.steps ≡ p.steps + steps_kept mask 0 (take (w + 1) (page_writes ws)) = omega (arith, none_kept mask 0 (w + 1) ws) in e)
    ∙ ap (λ (ps : List ℕ). record p { steps = p.steps + steps_kept mask 0 (take (w + 1) (page_writes ws)); writes = p.writes + (w + 1); named = p.named ++ ps; came = Stopped }) (sym (first_named (w + 1) ws))

pages_pass : (p q : Progress) (ws : List PageWrite) (went done : Result (Unit {0}) DurableFault) → OnOk done (OnOk went (q ≡ pages_passed p (pages_of ws))) → OnOk done (OnOk went (q ≡ passed p (page_writes ws)))
pages_pass p q ws (Ok u) (Ok v) is = is ∙ pages_passed_is p ws
pages_pass p q ws (Err e) (Ok v) is = tt
pages_pass p q ws went (Err e) is = tt

pages_break : (p q : Progress) (ws : List PageWrite) (went done : Result (Unit {0}) DurableFault) (why : Why) → OnOk done (IsErrOf went DiskFault → WasOrdered why × (q ≡ pages_broken p.order p (pages_of ws)))
    → OnOk done (IsErrOf went DiskFault → WasOrdered why × (IsWithin p.order (length (page_writes ws)) → q ≡ broken_by p.order p (page_writes ws)))
pages_break p q ws went (Ok v) why is = λ failed. ((is failed).0, λ within. (is failed).1 ∙ pages_broken_is p.order p ws)
pages_break p q ws went (Err e) why is = tt

module _ {D : Type 0} (size : D → ℕ) (keeps : D → Bool) (reads : D → Image) (may_hold : D → ℕ → Content → Type 0) (faults : D → ℕ) (old : DurableView D) (disk : ScriptedView D) (q : Progress) (ws : List PageWrite)
    (under : old.progress.came ≡ Underway) (stands : Stands size keeps reads may_hold old) (batch : IsBatch ws) (whole : AllByRecursion IsWhole ws) (within : AllByRecursion (λ w. w.page < 16 + old.master.pages) ws) where
  abbrev new : DurableView D
  new = record { disk = disk; log = old.log; master = old.master; suspects = old.suspects; appends = old.appends; progress = q }

  abbrev was : Image
  was = reads_of reads old.disk

  goes : GoesOn keeps reads may_hold old
  goes = subst (HoldsAt keeps reads may_hold old) under stands.holds

  means : Mean old.master.pages old.master.replica was (pieces was ws) (page_writes ws)
  means = pages_mean old.master.pages old.master.replica was goes.rest.keeping ws batch.rises whole within

  abbrev Wrote : Type 0
  Wrote = IsTrue (keeps old.disk.disk) → reads_of reads disk ≡ put_all (reads_of reads old.disk) (written (reads_of reads old.disk) ws)

  abbrev Durably : Type 0
  Durably = IsTrue (keeps old.disk.disk) → Only (reads_of reads disk) (holds_of keeps may_hold disk)

  remembers : Wrote → Durably → Remembers size keeps reads may_hold faults old new
  remembers wrote durable =
      let now = wrote goes.rest.modelled in
      let keep = pages_keep old.master.pages old.master.replica was goes.rest.keeping ws batch.rises whole in
      record {
        synced = durable goes.rest.modelled;
        master = ap master_on now ∙ keep.master ∙ goes.master;
        suspects = ap suspects_on now ∙ keep.suspects ∙ goes.suspects;
        log = ap store_on now ∙ keep.store ∙ goes.log;
        current = λ is. subst (λ (i : Image). IsCurrent i old.log) (sym now) (keep.current old.log (goes.current is));
      }

  both : {A : Type 0} (t : Result A PageWriteFault) → OnOk t Wrote → OnOk t Durably → OnOk t (Remembers size keeps reads may_hold faults old new)
  both (Ok u) w d = remembers w d
  both (Err e) w d = tt

  module _ (r : Result (Unit {0}) PageWriteFault) (went done : Result (Unit {0}) DurableFault) (why : Why) (why_is : why ≡ disk.why) (refused : OnErr r (IsErr went)) (failed : IsErrOf went DiskFault → IsErrOf r PageDiskFault)
      (wrote : OnOk r Wrote) (durable : OnOk r Durably)
      (calls : OnOk r (IsTrue (keeps old.disk.disk) → TakesAll (did_of keeps reads may_hold faults) old.disk (pieces (reads_of reads old.disk) ws) disk))
      (broken : IsErrOf r PageDiskFault → IsTrue (keeps old.disk.disk) → FailsOnTheWay (did_of keeps reads may_hold faults) old.disk (pieces (reads_of reads old.disk) ws) disk)
      (passes : OnOk done (OnOk went (q ≡ pages_passed old.progress (pages_of ws)))) (breaks : OnOk done (IsErrOf went DiskFault → WasOrdered why × (q ≡ pages_broken old.progress.order old.progress (pages_of ws))))
      (known : OnOk done (went ≡ Err NoMemory → ⊥)) (fault : IsErrOf done DiskFault → (went ≡ Err DiskFault) × (WasOrdered why → ⊥)) (unknown : OnErr done (q.came ≡ Unknown)) where
    did : Did size keeps reads may_hold faults old new (pieces was ws) (page_writes ws) went done why
    did = record {
      why_is = why_is;
      took = on_taken (TakesAll (did_of keeps reads may_hold faults) old.disk (pieces was ws) disk) r went refused
          (on_ok1 (IsTrue (keeps old.disk.disk) → TakesAll (did_of keeps reads may_hold faults) old.disk (pieces was ws) disk) (TakesAll (did_of keeps reads may_hold faults) old.disk (pieces was ws) disk) r calls (λ t. t goes.rest.modelled));
      wrote = on_taken (reads_of reads disk ≡ put_all was (sectors_in (pieces was ws))) r went refused
          (on_ok1 Wrote (reads_of reads disk ≡ put_all was (sectors_in (pieces was ws))) r wrote (λ w. w goes.rest.modelled ∙ ap (put_all was) (sym (sectors_all was ws))));
      memory = on_taken (Remembers size keeps reads may_hold faults old new) r went refused (both r wrote durable);
      broke = λ is. broken (failed is) goes.rest.modelled;
      passes = pages_pass old.progress q ws went done passes;
      breaks = pages_break old.progress q ws went done why breaks;
      known = known;
      fault = fault;
      unknown = unknown;
    }

    pub pages_perform : OnOk done (Performs reads old (page_writes ws) new)
    pages_perform = settled_performs size keeps reads may_hold faults old new (pieces was ws) (page_writes ws) under goes means refl refl (pages_apart was ws whole) went done why did

    images_from : (t : Result (Unit {0}) DurableFault) → OnOk t (WasOrWrote was (pieces was ws) (reads_of reads disk)) → OnOk t (q.came ≡ Underway → reads_of reads disk ≡ put_all was (sectors_in (pieces was ws))) → OnOk t (WritesImages reads old ws new)
    images_from (Ok u) wrote all = record {
      each = subst (λ (zs : List PageWrite). AllByRecursion (IsOldNewOrUnsound was (reads_of reads disk)) zs) (append-nil ws)
          (disk_left was (reads_of reads disk) ws [] (subst (RisesFrom 16) (sym (append-nil ws)) batch.rises) whole
          (λ at. subst (λ (zs : List SectorWrite). (reads_of reads disk at ≡ was at) ⊎ WroteSo zs at (reads_of reads disk at)) (sectors_all was ws) (wrote at))).pages;
      written = λ on. (is_written was (reads_of reads disk) ws batch.rises whole (all on ∙ ap (put_all was) (sectors_all was ws))).pages;
    }
    images_from (Err e) wrote all = tt

    pub pages_image : OnOk done (WritesImages reads old ws new)
    pages_image = images_from done
        (settled_wrote size keeps reads may_hold faults old new (pieces was ws) (page_writes ws) under goes means refl refl (pages_apart was ws whole) went done why did)
        (settled_all size keeps reads may_hold faults old new (pieces was ws) (page_writes ws) under goes means refl refl (pages_apart was ws whole) went done why did)

    pub pages_stand : log_end ≤ size disk.disk → Stands size keeps reads may_hold new
    pages_stand room = settled_stands size keeps reads may_hold faults old new (pieces was ws) (page_writes ws) under goes means refl refl (pages_apart was ws whole) went done why did room

    pub pages_rise : IsErrOf done DiskFault → HasRisen (faults old.disk.disk) (faults disk.disk)
    pages_rise = settled_risen size keeps reads may_hold faults old new (pieces was ws) (page_writes ws) under goes means refl refl (pages_apart was ws whole) went done why did
