-- What an image says once its master or its log was written.
use Rattle.std.proofs.Common.{◌≡◌, ◌⊎◌, ℕ, ◌+◌, ◌^◌, ◌<◌, ◌≤◌, List, [], ◌∷◌, length, Some, Bool, true, false, leb, if◌then◌else◌, refl, sym, ap, ◌∙◌, subst, arith}
use Rattle.std.specs.Prelude.{Contains}
use Rattle.std.specs.List.{filter}
use Rattle.std.proofs.lemmas.Bool.{le-leb, ne_eqb}
use Rattle.std.proofs.lemmas.List.{take_all}
use Rattle.ag_model.specs.declared.record.Log.{Log}
use Rattle.ag_model.specs.Blocks.{cut_at}
use Rattle.ag_outside.specs.Disks.{Image, or_zeros}
use Rattle.ag_master.specs.declared.master.Master.{Master}
use Rattle.ag_master.specs.Spelling.{fields, spelling, HasSpelling}
use Rattle.ag_master.proofs.Fields.{fields-spelling}
use Rattle.ag_logstore.specs.LogKept.{RisesTo}
use Rattle.ag_logstore.specs.Stored.{IsLogSector}
use Rattle.ag_logstore.specs.Stores.{StoreView, IsCurrent}
use Rattle.ag_logstore.proofs.Chains.{ends_of, current_alone}
use Rattle.ag_logstore.proofs.LogEnds.{rises_le}
use Rattle.ag_logstore.proofs.Raising.{raises, last_end}
use Rattle.ag_kept.specs.declared.reach.Reach.{Reach}
use Rattle.ag_kept.specs.declared.reach.Reach.TheVariants.{End, Stop, Fault}
use Rattle.ag_kept.specs.Kept.{Kept, SamePages, master_on, master_of, kept_on, started}
use Rattle.ag_kept.specs.LogOn.{log_on}
use Rattle.ag_kept.specs.Standing.{HasLog, IsHome, LeavesLog}
use Rattle.ag_kept.specs.Starting.{own_log, raised_master, with_master, raised_so_far}
use Rattle.ag_kept.proofs.Finding.{log_on_is}

abbrev pub kept_so : Log → ℕ → ℕ → ℕ → ℕ → ℕ → Bool → Kept
kept_so log incarnation cut redo pages replica loaded = record { log = log; incarnation = incarnation; cut = cut; redo = redo; pages = pages; replica = replica; loaded = loaded }

-- an image with this master and this log
module _ (image : Image) (m : Master) (log : Log) (e : master_on image ≡ m) (plain : m ≡ master_of m.incarnation m.cut m.redo m.pages m.replica) (fits : HasSpelling m) (spelled : or_zeros (image 0) ≡ spelling m) (least : 1 ≤ m.incarnation) (has : HasLog image m.cut m.incarnation log) where
  mine : HasLog image (master_on image).cut (master_on image).incarnation log
  mine = subst (λ (x : Master). HasLog image x.cut x.incarnation log) (sym e) has

  found : log_on image (master_on image).cut (master_on image).incarnation ≡ log
  found = log_on_is image (master_on image).cut (master_on image).incarnation log mine.is

  pub home_is : IsHome image
  home_is = record {
    plain = subst (λ (x : Master). x ≡ master_of x.incarnation x.cut x.redo x.pages x.replica) (sym e) plain;
    fits = subst HasSpelling (sym e) fits;
    spelled = spelled ∙ ap spelling (sym e);
    least = subst (λ (x : Master). 1 ≤ x.incarnation) (sym e) least;
    log = subst (λ l. HasLog image (master_on image).cut (master_on image).incarnation l) (sym found) mine;
  }

  pub kept_is : (loaded : Bool) → kept_on image loaded ≡ kept_so log m.incarnation m.cut m.redo m.pages m.replica loaded
  kept_is loaded = ap (λ l. kept_so l (master_on image).incarnation (master_on image).cut (master_on image).redo (master_on image).pages (master_on image).replica loaded) found ∙ ap (λ (x : Master). kept_so log x.incarnation x.cut x.redo x.pages x.replica loaded) e

-- a write of the master leaves the images of the pages
pub master_leaves_pages : (image : Image) (m : Master) → SamePages image (with_master image m)
master_leaves_pages image m at is = ap (λ (b : Bool). if b then Some (spelling m) else image at) (ne_eqb at 0 (λ e. absurd (omega (arith, e, is.0))))

pub raise_leaves_pages : (image : Image) (m : Master) (r : Reach) → SamePages image (raised_so_far image m r)
raise_leaves_pages image m End at is = master_leaves_pages image m at is
raise_leaves_pages image m (Stop true) at is = master_leaves_pages image m at is
raise_leaves_pages image m (Stop false) at is = refl
raise_leaves_pages image m Fault at is = refl

-- and so does a write of the log
pub log_leaves_pages : (image after : Image) (cut incarnation : ℕ) (log : Log) → LeavesLog image cut incarnation log after → SamePages image after
log_leaves_pages image after cut incarnation log l at is = l.others at (λ in_log. absurd (omega (arith, is.1, in_log.0)))

-- images that read the same have the same pages
pub reads_leave_pages : (old new : Image) → new ≡ old → SamePages old new
reads_leave_pages old new e at is = ap (λ (i : Image). i at) e

pub pages_then : (old mid new : Image) → SamePages old mid → SamePages mid new → SamePages old new
pages_then old mid new first later at is = later at is ∙ first at is

-- the master stays where the log was written
module _ (image after : Image) (log : Log) (h : IsHome image) (l : LeavesLog image (master_on image).cut (master_on image).incarnation log after) where
  first_stays : after 0 ≡ image 0
  first_stays = l.others 0 (λ is. absurd (omega (arith, is.0)))

  pub same_master : master_on after ≡ master_on image
  same_master = ap (λ c. fields (or_zeros c)) first_stays

  pub home_stays : IsHome after
  home_stays = home_is after (master_on image) log same_master h.plain h.fits (ap or_zeros first_stays ∙ h.spelled) h.least l.has

  pub kept_stays : (loaded : Bool) → kept_on after loaded ≡ kept_so log (master_on image).incarnation (master_on image).cut (master_on image).redo (master_on image).pages (master_on image).replica loaded
  kept_stays loaded = kept_is after (master_on image) log same_master h.plain h.fits (ap or_zeros first_stays ∙ h.spelled) h.least l.has loaded

-- no end is above the last one
all_within : (low high top : ℕ) (es : List ℕ) → RisesTo low high es → high ≤ top → filter (λ e. leb e top) es ≡ es
all_within low high top [] p le = refl
all_within low high top (e ∷ es) p le =
    let within : leb e top ≡ true = le-leb e top (omega (arith, rises_le e high es p.1, le)) in
    ap (λ (b : Bool). if b then e ∷ filter (λ e. leb e top) es else filter (λ e. leb e top) es) within ∙ ap (λ others. e ∷ others) (all_within e high top es p.1 le)

-- a log that is cut at its end stays
pub cut_at_end : (log : Log) → RisesTo 0 (length log.records) log.ends → cut_at (length log.records) log ≡ log
cut_at_end log rises =
    ap (λ rs. let cut : Log = record { records = rs; ends = filter (λ e. leb e (length log.records)) log.ends } in cut) (take_all (length log.records) log.records (omega arith))
    ∙ ap (λ es. let cut : Log = record { records = log.records; ends = es } in cut) (all_within 0 (length log.records) (length log.records) log.ends rises (omega arith))

-- where the log of an image ends
pub rises_of : (image : Image) → IsHome image → RisesTo 0 (length (own_log image).records) (own_log image).ends
rises_of image h = (ends_of image (master_on image).cut (master_on image).incarnation (own_log image) h.log.is).rises

pub can_cut : (image : Image) → IsHome image → (length (own_log image).records ≡ 0) ⊎ Contains (own_log image).ends (length (own_log image).records)
can_cut image h = last_end 0 (length (own_log image).records) (own_log image).ends (rises_of image h)

-- what a start may raise
module _ (image : Image) (h : IsHome image) (small : (master_on image).incarnation + 1 < 2 ^ 64) (short : length (own_log image).records < 2 ^ 64) where
  abbrev m : Master
  m = master_on image

  abbrev log : Log
  log = own_log image

  abbrev next : Master
  next = raised_master (master_on image) (length (own_log image).records)

  abbrev now : Image
  now = with_master image (raised_master (master_on image) (length (own_log image).records))

  -- a store with the next incarnation
  abbrev store : Bool → StoreView
  store closed = record { log = log; cut = length log.records; incarnation = m.incarnation + 1; is_closed = closed }

  before_write : (closed : Bool) → IsCurrent image (store closed)
  before_write closed =
      let s : StoreView = record { log = log; cut = m.cut; incarnation = m.incarnation; is_closed = closed } in
      let raised = raises image s (length log.records) (m.incarnation + 1) h.log.is (can_cut image h) (omega arith) (λ at is. omega (arith, h.log.greatest at is)) in
      subst (λ (l : Log). IsCurrent image (record { log = l; cut = length log.records; incarnation = m.incarnation + 1; is_closed = closed })) (cut_at_end log (rises_of image h)) raised

  -- the master's sector is none of the log
  other_sector : (at : ℕ) → IsLogSector at → now at ≡ image at
  other_sector at is = ap (λ (b : Bool). if b then Some (spelling next) else image at) (ne_eqb at 0 (λ e. absurd (omega (arith, e, is.0))))

  pub raised_current : (closed : Bool) → IsCurrent now (store closed)
  raised_current closed = current_alone image now (store closed) (before_write closed) (λ at is. ap or_zeros (other_sector at is))

  pub next_fits : HasSpelling next
  next_fits = record { kept = record { format = h.fits.kept.format; state = h.fits.kept.state }; incarnation = small; term = h.fits.term; cut = short; undo = h.fits.undo; redo = h.fits.redo; pages = h.fits.pages; foreign = h.fits.foreign }

  next_plain : next ≡ master_of (m.incarnation + 1) (length log.records) m.redo m.pages m.replica
  next_plain = ap (λ (x : Master). raised_master x (length log.records)) h.plain

  now_has : HasLog now (length log.records) (m.incarnation + 1) log
  now_has = record { is = (raised_current false).log; greatest = (raised_current false).greatest }

  pub raised_home : IsHome now
  raised_home = home_is now next log (fields-spelling next next_fits) next_plain next_fits refl (omega arith) now_has

  pub raised_kept : (loaded : Bool) → kept_on now loaded ≡ kept_so log (m.incarnation + 1) (length log.records) m.redo m.pages m.replica loaded
  raised_kept loaded = kept_is now next log (fields-spelling next next_fits) next_plain next_fits refl (omega arith) now_has loaded

  -- the same once a start came so far
  pub so_far_home : (r : Reach) → IsHome (raised_so_far image next r)
  so_far_home End = raised_home
  so_far_home (Stop true) = raised_home
  so_far_home (Stop false) = h
  so_far_home Fault = h

  pub end_kept : kept_on (raised_so_far image next End) true ≡ started (kept_on image false) End
  end_kept = raised_kept true

  pub so_far_kept : (r : Reach) → (r ≡ End → ⊥) → kept_on (raised_so_far image next r) false ≡ started (kept_on image false) r
  so_far_kept End other = absurd (other refl)
  so_far_kept (Stop true) other = raised_kept false
  so_far_kept (Stop false) other = refl
  so_far_kept Fault other = refl
