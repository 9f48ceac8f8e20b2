-- A replica as its group opens.
use Rattle.std.proofs.Common.{◌≡◌, ◌≢◌, ℕ, zero, suc, ◌+◌, ◌-◌, ◌<◌, ◌≤◌, Bool, true, false, List, [], ◌∷◌, map, get_or, length, refl, sym, ap, subst, ◌∙◌, arith}
use Rattle.std.specs.Prelude.{Option, Some, None, replicate, if◌then◌else◌, ◌==◌}
use Rattle.std.specs.List.{range_with_len}
use Rattle.std.proofs.lemmas.List.{get_or-replicate, length-replicate}
use Rattle.std.proofs.lemmas.Bool.{ne_eqb}
use Rattle.ag_model.specs.declared.answer.Cell.{Cell}
use Rattle.ag_model.specs.declared.answer.Cell.TheVariants.{Mark}
use Rattle.ag_model.specs.declared.answer.SuspectRow.{SuspectRow}
use Rattle.ag_model.specs.declared.record.Log.{Log}
use Rattle.ag_model.specs.declared.record.Record.TheVariants.{Term}
use Rattle.ag_model.specs.declared.value.PageValue.{PageValue}
use Rattle.ag_model.specs.Page.{value}
use Rattle.ag_model.specs.Proper.{IsProper}
use Rattle.ag_model.specs.Rows.{contains, stripe_of}
use Rattle.ag_model.specs.Sizes.{versions_size}
use Rattle.ag_outside.specs.Disks.{Content, Image}
use Rattle.ag_outside.specs.Shown.{reads_of}
use Rattle.ag_page.specs.Home.{cells_of, found}
use Rattle.ag_page.specs.Image.{image}
use Rattle.ag_pagestore.specs.Places.{IsPage, place, image_of, page_cells}
use Rattle.ag_master.specs.declared.master.Master.{Master as SectorMaster}
use Rattle.ag_master.specs.Spelling.{spelling}
use Rattle.ag_kept.specs.Kept.{master_of}
use Rattle.ag_kept.specs.Starting.{with_master}
use Rattle.ag_keeping.specs.Keeping.{cells_on, kept_on}
use Rattle.ag_stripe.specs.Known.{Known, in_home, in_image, by_found, bytes_of, empty_page}
use Rattle.ag_stripe.specs.Known.Known.{Value}
use Rattle.ag_rules.specs.Replica.{Kept, Master, Stripe, Leading, all_at, no_stripe, is_reverting, no_following}
use Rattle.ag_rules.specs.Plan.{Block_write, batch_written}
use Rattle.ag_pool.specs.declared.frame.Frame.{Frame}
use Rattle.ag_pool.specs.Frames.{empty_frame, mark_of, marks_of}
use Rattle.ag_pool.specs.View.{PoolView, IsPool, stripe_at, frame}
use Rattle.ag_writes.specs.Performing.{Reached, after_batch}
use Rattle.ag_durable.specs.declared.progress.Came.{Came}
use Rattle.ag_durable.specs.declared.progress.Came.TheVariants.{Underway, Stopped, Failed, Unknown}
use Rattle.ag_durable.specs.declared.progress.Progress.{Progress}
use Rattle.ag_durable.specs.Views.{DurableView, kept_of, reached_of, came_so}
use Rattle.ag_durable.specs.Coming.{Performs}
use Rattle.ag_durable.specs.Opening.{at_first}
use Rattle.ag_law_pages.specs.Images.{IsDataPage, IsShown, IsHidden}
use Rattle.ag_law_pages.specs.Right.{IsRight, IsRightDisk, IsRightPage, is_shown}
use Rattle.ag_replica.specs.declared.up.Up.{Up}
use Rattle.ag_replica.specs.declared.up.Standing.{Standing}
use Rattle.ag_replica.specs.Ups.{IsUp, replica_of, said_of, said_on}
use Rattle.ag_replica.specs.Opening.{IsOpened, opened_disk, opened_pool, opened_replica}
use Rattle.ag_replica.proofs.Singles.{is_through, kept-through, same-said}

-- a function with one value on so many numbers
map-one : {A : Type 0} (f : ℕ → A) (a : A) (from n : ℕ) → ((k : ℕ) → from ≤ k → k < from + n → f k ≡ a) → map f (range_with_len from n) ≡ replicate n a
map-one f a from zero same = refl
map-one f a from (suc n) same =
    let others = map-one f a (from + 1) n (λ k low high. same k (omega arith) (omega arith)) in
    ap (λ x. x ∷ map f (range_with_len (from + 1) n)) (same from (omega arith) (omega arith)) ∙ ap (λ xs. a ∷ xs) others

-- the value of a page of the opening log is the empty page
opening-value : (pages n page : ℕ) → value pages (Term 1 ∷ []) n page ≡ empty_page page
unfolding value
opening-value pages zero page = refl
opening-value pages (suc zero) page = refl
opening-value pages (suc (suc n)) page = refl

-- the opening log is proper
opening-proper : (pages : ℕ) → IsProper pages (opened_disk pages).log
opening-proper pages = record {
  first = refl;
  terms = (omega arith, tt);
  each = (tt, tt);
  room = λ n page. subst (λ (v : PageValue). versions_size v.versions ≤ 8144) (sym (opening-value pages n page)) (omega arith);
  ends = (omega arith, tt);
  last = refl;
  most = omega arith;
}

module _ (blank : Image) (m : SectorMaster) (zeros : (at : ℕ) → blank at ≡ Some (replicate 512 0)) where
  -- the first master leaves the sectors of pages
  zero-at : (at : ℕ) → 1 ≤ at → with_master blank m at ≡ Some (replicate 512 0)
  zero-at at low = ap (λ (b : Bool). if b then Some (spelling m) else blank at) (ne_eqb at 0 (λ e. absurd (omega (arith, e, low)))) ∙ zeros at

  zero-sectors : (page : ℕ) → image_of (with_master blank m) page ≡ replicate 16 (Some (replicate 512 0))
  unfolding image_of
  zero-sectors page = map-one (with_master blank m) (Some (replicate 512 0)) (place page) 16 (λ k low high. zero-at k (omega arith))

  pub zero-cells : (pages : ℕ) → cells_on pages (with_master blank m) ≡ replicate pages (replicate 16 (Mark 0))
  zero-cells pages = map-one (page_cells (with_master blank m)) (replicate 16 (Mark 0)) 16 pages (λ k low high. ap cells_of (zero-sectors k))

  zero-image : map bytes_of (replicate 16 (Some (replicate 512 0))) ≡ image 0 (replicate 8176 0)
  unfolding image
  zero-image = refl

  pub zero-says : (page : ℕ) → in_image page (image 0 (replicate 8176 0)) ≡ Value (empty_page page) → said_on (with_master blank m) page ≡ Value (empty_page page)
  unfolding in_home
  zero-says page says =
      ap (λ (sectors : List Content). by_found (found sectors) (in_image page (map bytes_of sectors))) (zero-sectors page)
      ∙ ap (λ (i : List (List ℕ)). in_image page i) zero-image ∙ says

underway-so : (c : Came) (p : Progress) (k : Kept) → is_through (came_so c p k) ≡ true → c ≡ Underway
underway-so Underway p k e = refl
underway-so Stopped p k e = absurd (false_true e)
  where
    false_true : false ≡ true → ⊥
    false_true e = cc
underway-so Failed p k e = absurd (false_true e)
  where
    false_true : false ≡ true → ⊥
    false_true e = cc
underway-so Unknown p k e = absurd (false_true e)
  where
    false_true : false ≡ true → ⊥
    false_true e = cc

module _ {D : Type 0} (reads : D → Image) (pages : ℕ) (v now : DurableView D) (k : Kept) (m : SectorMaster) (blank : Image) where
  -- a disk that was formatted, with the block that starts the first term
  pub opened-is : 16 ≤ pages → pages ≤ 2048 → ((at : ℕ) → blank at ≡ Some (replicate 512 0)) → ((page : ℕ) → in_image page (image 0 (replicate 8176 0)) ≡ Value (empty_page page))
      → reached_of reads v ≡ at_first k → v.progress.came ≡ Underway → m ≡ master_of 1 0 1 pages m.replica → v.master ≡ m → reads_of reads v.disk ≡ with_master blank m
      → (kept_of reads v).log ≡ record { records = []; ends = [] } → (kept_of reads v).master ≡ record { term = 1; state = 0; incarnation = 1; redo_start = 1; undo = 0; foreign = [] } → (kept_of reads v).suspects ≡ []
      → Performs reads v (Block_write (Term 1 ∷ []) ∷ []) now → now.appends ≡ true → IsOpened reads pages now
  opened-is low high zeros says reached underway m_is named disk log master rows p appends =
      let some_pages : v.master.pages ≡ pages = ap (λ (x : SectorMaster). x.pages) (named ∙ m_is) in
      let came : is_through (came_so now.progress.came now.progress (kept_of reads now)) ≡ true = ap is_through (p.reached ∙ ap (λ (r : Reached). after_batch r (Block_write (Term 1 ∷ []) ∷ [])) reached) in
      let on = underway-so now.progress.came now.progress (kept_of reads now) came in
      let images : (kept_of reads v).images ≡ replicate pages (replicate 16 (Mark 0)) =
      (λ i. cells_on (some_pages i) (disk i)) ∙ zero-cells blank m zeros pages in
      let first : kept_of reads v ≡ record { log = record { records = []; ends = [] }; master = record { term = 1; state = 0; incarnation = 1; redo_start = 1; undo = 0; foreign = [] }; suspects = []; images = replicate pages (replicate 16 (Mark 0)) } =
      (λ i. record { log = log i; master = master i; suspects = rows i; images = images i }) in
      record {
        underway = on;
        kept = kept-through reads v now (Block_write (Term 1 ∷ []) ∷ []) p underway on ∙ ap (λ (x : Kept). batch_written x (Block_write (Term 1 ∷ []) ∷ [])) first;
        pages_are = p.pages ∙ some_pages;
        says = λ page is.
            same-said reads v now (Block_write (Term 1 ∷ []) ∷ []) p underway page (is.0, omega (arith, is.1)) refl
            ∙ ap (λ (d : Image). said_on d page) disk ∙ zero-says blank m zeros page (says page);
        appends = appends;
      }

module _ (pages : ℕ) (said : ℕ → Known) (low : 16 ≤ pages) (high : pages ≤ 2048) (says : (page : ℕ) → IsDataPage pages page → said page ≡ Value (empty_page page)) (state : ℕ) (steady : is_reverting state ≡ false) where
  opened-disk : IsRightDisk pages (opened_disk pages) said
  opened-disk = record {
    proper = opening-proper pages;
    spelled = (tt, tt);
    redo = omega arith;
    settled = λ e. refl;
    images = λ page is own. record { lsn = 1; high = omega arith; value = says page is ∙ ap Value (sym (opening-value pages 1 page)); rest = refl };
  }

  at-one : (x : ℕ) → x < 16 → (stripe_at (opened_pool pages) x).applied ≡ 1
  at-one x lt = ap (λ (s : Stripe). s.applied) (get_or-replicate 16 x (record { applied = 1; published = 1 }) no_stripe lt)

  opened-page : (page : ℕ) → IsDataPage pages page → IsRightPage false pages (opened_disk pages) said state 1 page empty_frame
  opened-page page is = record {
    shown = λ on. record {
      kept = λ v e. absurd (none_some v e);
      clean = λ e. record { lsn = 1; from = omega arith; to = omega arith; value = says page is ∙ ap Value (sym (opening-value pages 1 page)) };
      read = λ e. refl;
    };
    hidden = λ off. record { unread = refl; clean = refl };
    pending = λ e. absurd (false_true e);
    held = refl;
  }
    where
      none_some : (v : PageValue) → None ≡ Some v → ⊥
      none_some v e = cc

      false_true : false ≡ true → ⊥
      false_true e = cc

  pub opened-right : IsRight false pages (opened_disk pages) said state (opened_pool pages)
  opened-right = record {
    disk = opened-disk;
    whole = record { low = low; high = high; frames = length-replicate pages empty_frame; stripes = refl };
    count = refl;
    kept_state = steady;
    low = λ x lt. omega (arith, at-one x lt);
    high = λ x lt. omega (arith, at-one x lt);
    reverting = λ on. absurd (true_false (sym on ∙ steady));
    each = λ page is.
        subst (λ (f : Frame). IsRightPage false pages (opened_disk pages) said state (stripe_at (opened_pool pages) (stripe_of page)).applied page f) (sym (get_or-replicate pages (page - 16) empty_frame empty_frame (omega (arith, is.0, is.1))))
        (subst (λ (a : ℕ). IsRightPage false pages (opened_disk pages) said state a page empty_frame) (sym (at-one (stripe_of page) (omega arith))) (opened-page page is));
  }
    where
      true_false : true ≡ false → ⊥
      true_false e = cc

-- the pages of a pool with nothing in it, as the rules see them
marks-clean : (n : ℕ) → marks_of (replicate n empty_frame) ≡ replicate n (mark_of empty_frame)
marks-clean zero = refl
marks-clean (suc n) = ap (λ xs. mark_of empty_frame ∷ xs) (marks-clean n)

module _ {D : Type 0} (reads : D → Image) (pages : ℕ) (leads : Bool) (leading : Leading) (v : DurableView D) (pool : PoolView) (o : IsOpened reads pages v) (is : pool ≡ opened_pool pages) (state : ℕ) (state_is : state ≡ (if leads then 0 else 1)) where
  abbrev up : Up D
  up = record { durable = v; pool = pool; standing = record { cut_off = false; leads = leads; term = 1; state = state }; following = no_following; leading = leading }

  pub opened-replica : replica_of reads up ≡ opened_replica pages leads leading
  opened-replica = λ i. record {
    up = true;
    cut_off = false;
    leads = leads;
    term = 1;
    state = state_is i;
    kept = o.kept i;
    pages = (ap (λ (p : PoolView). marks_of p.frames) is ∙ marks-clean pages) i;
    stripes = (is i).stripes;
    following = no_following;
    leading = leading;
  }

  steady : (b : Bool) → is_reverting (if b then 0 else 1) ≡ false
  steady true = refl
  steady false = refl

  pub opened-up : 16 ≤ pages → pages ≤ 2048 → IsUp reads false up
  opened-up low high = record {
    underway = o.underway;
    right = subst (λ (n : ℕ). IsRight false n (kept_of reads v) (said_of reads v) state pool) (sym o.pages_are)
        (subst (λ (p : PoolView). IsRight false pages (kept_of reads v) (said_of reads v) state p) (sym is)
        (subst (λ (k : Kept). IsRight false pages k (said_of reads v) state (opened_pool pages)) (sym o.kept)
        (opened-right pages (said_of reads v) low high o.says state (ap is_reverting state_is ∙ steady leads))));
  }
