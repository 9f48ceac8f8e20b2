-- What an image says once its master has another redo start.
use Rattle.std.proofs.Common.{◌≡◌, ℕ, ◌^◌, ◌<◌, Some, Bool, IsTrue, if◌then◌else◌, refl, sym, ap, ◌∙◌, subst, arith}
use Rattle.std.proofs.lemmas.Bool.{ne_eqb}
use Rattle.ag_outside.specs.Disks.{Content, Image, Only, or_zeros}
use Rattle.ag_outside.specs.Scripts.{ScriptedView}
use Rattle.ag_outside.specs.Shown.{reads_of, holds_of}
use Rattle.ag_master.specs.declared.master.Master.{Master}
use Rattle.ag_master.specs.Spelling.{spelling, HasSpelling}
use Rattle.ag_master.proofs.Fields.{fields-spelling}
use Rattle.ag_logblock.specs.Fitting.{header_of}
use Rattle.ag_logstore.specs.Stored.{IsLogSector}
use Rattle.ag_logstore.specs.Stores.{StoreView, IsCurrent}
use Rattle.ag_logstore.proofs.Chains.{region_alone, current_alone}
use Rattle.ag_kept.specs.Ending.{IsSettled}
use Rattle.ag_kept.specs.Kept.{master_on, master_of, kept_on}
use Rattle.ag_kept.specs.Standing.{HasLog, IsHome, IsAtHome, IsMemory}
use Rattle.ag_kept.specs.Starting.{own_log, with_master}
use Rattle.ag_kept.proofs.Homes.{home_is, kept_is}

-- a master with another redo start
abbrev pub with_redo : Master → ℕ → Master
with_redo m redo = record m { redo = redo }

module _ (image : Image) (h : IsHome image) (redo : ℕ) (small : redo < 2 ^ 64) where
  abbrev m : Master
  m = master_on image

  abbrev next : Master
  next = with_redo (master_on image) redo

  abbrev now : Image
  now = with_master image (with_redo (master_on image) redo)

  other : (at : ℕ) → IsLogSector at → or_zeros (now at) ≡ or_zeros (image at)
  other at is = ap (λ (b : Bool). or_zeros (if b then Some (spelling next) else image at)) (ne_eqb at 0 (λ e. absurd (omega (arith, e, is.0))))

  pub next_fits : HasSpelling next
  next_fits = record { kept = record { format = h.fits.kept.format; state = h.fits.kept.state }; incarnation = h.fits.incarnation; term = h.fits.term; cut = h.fits.cut; undo = h.fits.undo; redo = small; pages = h.fits.pages; foreign = h.fits.foreign }

  next_plain : next ≡ master_of m.incarnation m.cut redo m.pages m.replica
  next_plain = ap (λ (x : Master). with_redo x redo) h.plain

  now_has : HasLog now m.cut m.incarnation (own_log image)
  now_has = record {
    is = region_alone image now m.cut m.incarnation (own_log image) h.log.is other;
    greatest = λ at is. omega (arith, h.log.greatest at is, ap (λ bytes. (header_of bytes).head.incarnation) (other at is));
  }

  pub redo_home : IsHome now
  redo_home = home_is now next (own_log image) (fields-spelling next next_fits) next_plain next_fits refl h.least now_has

  pub redo_kept : (loaded : Bool) → kept_on now loaded ≡ record (kept_on image loaded) { redo = redo }
  redo_kept loaded = kept_is now next (own_log image) (fields-spelling next next_fits) next_plain next_fits refl h.least now_has loaded

  pub redo_current : (s : StoreView) → IsCurrent image s → IsCurrent now s
  redo_current s cur = current_alone image now s cur other

  pub redo_master : master_on now ≡ next
  redo_master = fields-spelling next next_fits

-- the disk and memory, where the master was read on the way
module _ {D : Type 0} (keeps : D → Bool) (reads : D → Image) (old mid new : ScriptedView D) (m : Master) (redo : ℕ) (small : redo < 2 ^ 64) (home : IsAtHome keeps reads old)
    (m_is : m ≡ master_on (reads_of reads old)) (same : reads_of reads mid ≡ reads_of reads old) where
  pub saved_fits : HasSpelling (with_redo m redo)
  saved_fits = subst (λ (x : Master). HasSpelling (with_redo x redo)) (sym m_is) (next_fits (reads_of reads old) home.home redo small)

  module _ (written : reads_of reads new ≡ with_master (reads_of reads mid) (with_redo m redo)) where
    saved_reads : reads_of reads new ≡ with_master (reads_of reads old) (with_redo (master_on (reads_of reads old)) redo)
    saved_reads = written ∙ ap (λ (i : Image). with_master i (with_redo m redo)) same ∙ ap (λ (x : Master). with_master (reads_of reads old) (with_redo x redo)) m_is

    pub saved_home : IsSettled keeps old mid → IsSettled keeps mid new → IsAtHome keeps reads new
    saved_home first later = record {
      modelled = subst IsTrue (sym (later.keeps_same ∙ first.keeps_same)) home.modelled;
      unsynced = later.unsynced;
      home = subst IsHome (sym saved_reads) (redo_home (reads_of reads old) home.home redo small);
    }

    pub saved_kept : (loaded : Bool) → kept_on (reads_of reads new) loaded ≡ record (kept_on (reads_of reads old) loaded) { redo = redo }
    saved_kept loaded = ap (λ (i : Image). kept_on i loaded) saved_reads ∙ redo_kept (reads_of reads old) home.home redo small loaded

    pub saved_memory : (may_hold : D → ℕ → Content → Type 0) (s : StoreView) → Only (reads_of reads new) (holds_of keeps may_hold new) → IsMemory keeps reads may_hold old s → IsMemory keeps reads may_hold new s
    saved_memory may_hold s only is =
        let master : master_on (reads_of reads new) ≡ with_redo (master_on (reads_of reads old)) redo = ap master_on saved_reads ∙ redo_master (reads_of reads old) home.home redo small in
        record {
          cut = is.cut ∙ sym (ap (λ (x : Master). x.cut) master);
          incarnation = is.incarnation ∙ sym (ap (λ (x : Master). x.incarnation) master);
          is_open = is.is_open;
          ready = record {
            least = is.ready.least;
            most = is.ready.most;
            current = λ k. subst (λ (i : Image). IsCurrent i s) (sym saved_reads) (redo_current (reads_of reads old) home.home redo small s (is.ready.current home.modelled));
            synced = λ k. only;
          };
        }
