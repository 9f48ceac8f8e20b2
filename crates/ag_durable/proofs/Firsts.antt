-- What the first master makes of a disk of zeros.
use Rattle.std.proofs.Common.{◌≡◌, ℕ, ◌≤◌, [], replicate, Some, Bool, true, false, if◌then◌else◌, refl, sym, ap, ◌∙◌, subst, arith}
use Rattle.std.proofs.lemmas.Bool.{ne_eqb}
use Rattle.ag_model.specs.declared.record.Log.{Log}
use Rattle.ag_outside.specs.Disks.{Content, Image, or_zeros}
use Rattle.ag_outside.specs.Shown.{reads_of}
use Rattle.ag_outside.specs.MemDisks.{image_of_zeros}
use Rattle.ag_master.specs.declared.master.Master.{Master}
use Rattle.ag_master.specs.Spelling.{spelling, HasSpelling}
use Rattle.ag_logblock.specs.Fitting.{header_of}
use Rattle.ag_logstore.specs.Stored.{IsLogSector, incarnation_at, no_log}
use Rattle.ag_logstore.specs.Stores.{StoreView, IsCurrent}
use Rattle.ag_logstore.proofs.Fresh.{no_blocks, begins}
use Rattle.ag_kept.specs.Kept.{master_on, master_of}
use Rattle.ag_kept.specs.Standing.{HasLog}
use Rattle.ag_kept.specs.Starting.{with_master}
use Rattle.ag_suspect.specs.Rows.{suspects_on, HasRows}
use Rattle.ag_suspect.proofs.Found.{same_had, are_read, blank}
use Rattle.ag_keeping.specs.Keeping.{IsKeeping, store_on}
use Rattle.ag_durable.specs.declared.progress.Came.TheVariants.{Underway}
use Rattle.ag_durable.specs.Views.{DurableView}
use Rattle.ag_durable.specs.Standing.{GoesOn, HoldsAt, Stands}
use Rattle.ag_keeping.proofs.Built.{keeping_is, master_is, log_is}

zeros_name : (header_of (replicate 512 0)).head.incarnation ≡ 0
zeros_name = refl

module _ (image : Image) (zeros : (at : ℕ) → or_zeros (image at) ≡ replicate 512 0) (m : Master) (m_is : m ≡ master_of 1 0 1 m.pages m.replica) (fits : HasSpelling m) (few : m.pages ≤ 2048) where
  abbrev now : Image
  now = with_master image m

  zeros_now : (at : ℕ) → 1 ≤ at → or_zeros (now at) ≡ replicate 512 0
  zeros_now at low = ap (λ (b : Bool). or_zeros (if b then Some (spelling m) else image at)) (ne_eqb at 0 (λ e. absurd (omega (arith, e, low)))) ∙ zeros at

  none : (at : ℕ) → IsLogSector at → incarnation_at now at ≡ 0
  none at is = ap (λ bytes. (header_of bytes).head.incarnation) (zeros_now at (omega (arith, is.0))) ∙ zeros_name

  one : m.incarnation ≡ 1
  one = ap (λ (x : Master). x.incarnation) m_is

  has : HasLog now m.cut m.incarnation no_log
  has = record { is = no_blocks now m.cut m.incarnation none; greatest = λ at is. omega (arith, none at is) }

  rows : HasRows now []
  rows = same_had image_of_zeros now [] (λ at low high. sym (zeros_now at low)) blank

  pub first_keeping : IsKeeping m.pages m.replica now
  first_keeping = keeping_is m.pages m.replica now m fits refl no_log has few refl refl (omega (arith, one)) [] (are_read now [] rows) rows

  pub first_master : master_on now ≡ m
  first_master = master_is m.pages m.replica now m fits refl

  pub first_own : IsKeeping (master_on now).pages (master_on now).replica now
  first_own = subst (λ (x : Master). IsKeeping x.pages x.replica now) (sym first_master) first_keeping

  pub first_rows : suspects_on now ≡ []
  first_rows = are_read now [] rows

  pub first_store : store_on now ≡ record { log = no_log; cut = 0; incarnation = 1; is_closed = false }
  first_store =
      let made : Log → ℕ → ℕ → StoreView = λ l c n. record { log = l; cut = c; incarnation = n; is_closed = false } in
      ap (λ (l : Log). made l (master_on now).cut (master_on now).incarnation) (log_is m.pages m.replica now m fits refl no_log has)
      ∙ ap (λ (x : Master). made no_log x.cut x.incarnation) (first_master ∙ m_is)

  pub first_current : IsCurrent now (store_on now)
  first_current = begins now (store_on now) none first_keeping.log.is first_keeping.least

-- a master that is the first names itself
pub itself : (m : Master) (pages replica : ℕ) → m ≡ master_of 1 0 1 pages replica → m ≡ master_of 1 0 1 m.pages m.replica
itself m pages replica is = is ∙ ap (λ (x : Master). master_of 1 0 1 x.pages x.replica) (sym is)

-- a block may follow where the store is current
module _ {D : Type 0} (size : D → ℕ) (keeps : D → Bool) (reads : D → Image) (may_hold : D → ℕ → Content → Type 0) (old : DurableView D) (under : old.progress.came ≡ Underway) (stands : Stands size keeps reads may_hold old) where
  goes : GoesOn keeps reads may_hold old
  goes = subst (HoldsAt keeps reads may_hold old) under stands.holds

  pub may_append : (read : Image) → reads_of reads old.disk ≡ read → IsCurrent read (store_on read) → Stands size keeps reads may_hold (record old { appends = true })
  may_append read is cur = record {
    room = stands.room;
    holds = subst (HoldsAt keeps reads may_hold (record old { appends = true })) (sym under) (record {
      rest = record { modelled = goes.rest.modelled; unsynced = goes.rest.unsynced; keeping = goes.rest.keeping };
      synced = goes.synced;
      master = goes.master;
      suspects = goes.suspects;
      log = goes.log;
      current = λ yes_. subst (IsCurrent (reads_of reads old.disk)) goes.log (subst (λ (i : Image). IsCurrent i (store_on i)) (sym is) cur);
      ahead = goes.ahead;
      ordered = goes.ordered;
    });
  }
