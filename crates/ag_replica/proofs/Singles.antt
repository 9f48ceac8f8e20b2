-- What one write leaves that names no page.
use Rattle.std.proofs.Common.{◌≡◌, ◌≢◌, ℕ, zero, suc, map, ◌+◌, ◌-◌, ◌<◌, ◌≤◌, Bool, true, false, List, [], ◌∷◌, ◌++◌, length, take, refl, sym, ap, subst, ◌∙◌, inl, inr, ◌⊎◌, arith}
use Rattle.std.proofs.lemmas.Bool.{le-ltb}
use Rattle.ag_model.specs.Rows.{contains}
use Rattle.ag_page.specs.Home.{found}
use Rattle.ag_replica.specs.Reading.{IsUpSo}
use Rattle.std.specs.Prelude.{Some, Option, nat_lt, if◌then◌else◌}
use Rattle.ag_lists.proofs.Tests.{by_bool}
use Rattle.ag_model.specs.Cells.{keeps_all}
use Rattle.ag_outside.specs.Disks.{Image}
use Rattle.ag_outside.specs.Shown.{reads_of}
use Rattle.ag_pagestore.specs.Places.{IsPage, image_of}
use Rattle.ag_rules.specs.Replica.{Kept}
use Rattle.ag_rules.specs.Plan.{Write, Block_write, Master_write, Note_write, Repaired_write, Page_write, written, batch_written}
use Rattle.ag_rules.specs.Cut.{page_named}
use Rattle.ag_stripe.specs.Known.{Known, in_home, in_image, by_found, bytes_of}
use Rattle.ag_writes.specs.Performing.{Progress, Reached, Through, StoppedIn, FailedAfter, after_batch, by_order, disk_of, stopped_in, passed, nearer, pages_named}
use Rattle.ag_writes.specs.declared.order.Order.{Order}
use Rattle.ag_writes.specs.declared.order.Order.TheVariants.{Free, StopAt, FailAt}
use Rattle.ag_durable.specs.Views.{DurableView, kept_of, reached_of, came_so}
use Rattle.ag_durable.specs.Coming.{Performs}
use Rattle.ag_durable.specs.declared.progress.Came.{Came}
use Rattle.ag_durable.specs.declared.progress.Came.TheVariants.{Underway, Stopped, Failed, Unknown}
use Rattle.ag_durable.specs.declared.progress.Progress.{Progress as Progressed}
use Rattle.ag_law_pages.specs.Images.{IsDataPage}
use Rattle.ag_law_pages.specs.Right.{IsRightDisk, IsRight}
use Rattle.ag_model.specs.declared.answer.SuspectRow.{SuspectRow}
use Rattle.ag_rules.specs.Replica.{Master}
use Rattle.ag_law_pages.proofs.Changed.{resaid, resaid-disk, IsSameOfPages, with_words, reworded, reworded-disk}
use Rattle.ag_replica.specs.declared.up.Up.{Up}
use Rattle.ag_replica.specs.Ups.{IsUp, said_of}
use Rattle.ag_replica.specs.Writing.{CanWrite, Wrote}

-- the disk once this came of the writes
reached-disk : (c : Came) (p : Progressed) (k : Kept) → disk_of (came_so c p k) ≡ k
reached-disk Underway p k = refl
reached-disk Stopped p k = refl
reached-disk Failed p k = refl
reached-disk Unknown p k = refl

partly : (b : Bool) (k new : Kept) → ((if b then new else k) ≡ new) ⊎ ((if b then new else k) ≡ k)
partly true k new = inl refl
partly false k new = inr refl

-- one write that names no page is written or not
one-written : (o : Order) (p : Progress) (w : Write) → page_named w ≡ [] → (disk_of (by_order o p (w ∷ [])) ≡ written p.kept w) ⊎ (disk_of (by_order o p (w ∷ [])) ≡ p.kept)
one-written o p (Page_write page) none = absurd (some_none page none)
  where
    some_none : (page : ℕ) → page ∷ [] ≡ [] → ⊥
    some_none page e = cc
one-written Free p w none = inl refl
one-written (StopAt zero mask) p (Block_write new) none = partly (keeps_all mask 0 _) p.kept (written p.kept (Block_write new))
one-written (StopAt zero mask) p (Master_write m end) none = partly (keeps_all mask 0 1) p.kept (written p.kept (Master_write m end))
one-written (StopAt zero mask) p (Note_write page kind) none = partly (keeps_all mask 0 1) p.kept (written p.kept (Note_write page kind))
one-written (StopAt zero mask) p (Repaired_write page) none = partly (keeps_all mask 0 1) p.kept (written p.kept (Repaired_write page))
one-written (StopAt (suc n) mask) p w none =
    inl (ap (λ (b : Bool). disk_of (if b then stopped_in (suc n) mask p (w ∷ []) else Through (passed (nearer 1 (StopAt (suc n) mask)) p (w ∷ [])))) (le-ltb (suc n) 1 (omega arith)))
one-written (FailAt c) p w none = by_bool (nat_lt c (length (w ∷ []) + 1))
    (λ b. (disk_of (if b then FailedAfter p.steps p.kept else Through (passed (nearer 1 (FailAt c)) p (w ∷ []))) ≡ written p.kept w) ⊎ (disk_of (if b then FailedAfter p.steps p.kept else Through (passed (nearer 1 (FailAt c)) p (w ∷ []))) ≡ p.kept))
    (λ _. inr refl) (λ _. inl refl)

-- whether more can be written
abbrev pub is_through : Reached → Bool
is_through (Through p) = true
is_through (StoppedIn write steps named k) = false
is_through (FailedAfter steps k) = false

through_so : (c : Came) (p : Progressed) (k : Kept) → c ≡ Underway → is_through (came_so c p k) ≡ true
through_so Underway p k e = refl
through_so Stopped p k e = absurd (apart e)
  where
    apart : Stopped ≡ Underway → ⊥
    apart e = cc
through_so Failed p k e = absurd (apart e)
  where
    apart : Failed ≡ Underway → ⊥
    apart e = cc
through_so Unknown p k e = absurd (apart e)
  where
    apart : Unknown ≡ Underway → ⊥
    apart e = cc

-- where more can be written after a batch all of it was
pub batch-through : (o : Order) (p : Progress) (b : List Write) → is_through (by_order o p b) ≡ true → disk_of (by_order o p b) ≡ batch_written p.kept b
batch-through Free p b on = refl
batch-through (StopAt w mask) p b on = by_bool (nat_lt w (length b))
    (λ t. is_through (if t then stopped_in w mask p b else Through (passed (nearer (length b) (StopAt w mask)) p b)) ≡ true → disk_of (if t then stopped_in w mask p b else Through (passed (nearer (length b) (StopAt w mask)) p b)) ≡ batch_written p.kept b)
    (λ _ e. absurd (false_true e)) (λ _ _. refl) on
  where
    false_true : false ≡ true → ⊥
    false_true e = cc
batch-through (FailAt c) p b on = by_bool (nat_lt c (length b + 1))
    (λ t. is_through (if t then FailedAfter p.steps p.kept else Through (passed (nearer (length b) (FailAt c)) p b)) ≡ true → disk_of (if t then FailedAfter p.steps p.kept else Through (passed (nearer (length b) (FailAt c)) p b)) ≡ batch_written p.kept b)
    (λ _ e. absurd (false_true e)) (λ _ _. refl) on
  where
    false_true : false ≡ true → ⊥
    false_true e = cc

-- an event that goes on, as the executor sees it
abbrev so_far : {D : Type 0} → (D → Image) → DurableView D → Progress
so_far reads v = record { order = v.progress.order; kept = kept_of reads v; steps = v.progress.steps; writes = v.progress.writes; named = v.progress.named }

module _ {D : Type 0} (reads : D → Image) (old new : DurableView D) (b : List Write) (p : Performs reads old b new) (on : old.progress.came ≡ Underway) where
  came : came_so new.progress.came new.progress (kept_of reads new) ≡ by_order old.progress.order (so_far reads old) b
  came = p.reached ∙ ap (λ (c : Came). after_batch (came_so c old.progress (kept_of reads old)) b) on

  -- what the disk keeps then
  pub kept-by-order : kept_of reads new ≡ disk_of (by_order old.progress.order (so_far reads old) b)
  kept-by-order = sym (reached-disk new.progress.came new.progress (kept_of reads new)) ∙ ap disk_of came

  pub kept-through : new.progress.came ≡ Underway → kept_of reads new ≡ batch_written (kept_of reads old) b
  kept-through e = kept-by-order ∙ batch-through old.progress.order (so_far reads old) b (sym (ap is_through came) ∙ through_so new.progress.came new.progress (kept_of reads new) e)

  -- a page that isn't named says what it did
  pub same-said : (page : ℕ) → IsPage page → contains page (pages_named b) ≡ false → said_of reads new page ≡ said_of reads old page
  unfolding in_home
  same-said page is off = ap (λ (sectors : List (Option (List ℕ))). by_found (found sectors) (in_image page (map bytes_of sectors))) (p.others page is off)

module _ {D : Type 0} (reads : D → Image) (u : Up D) (new : DurableView D) (w : Write) (p : Performs reads u.durable (w ∷ []) new) (h : IsUpSo reads u) (none : page_named w ≡ []) (can : CanWrite reads u w) where
  within : (page : ℕ) → IsDataPage u.durable.master.pages page → IsPage page
  within page is = let few = h.1.right.whole.high in let same = h.1.right.count in (is.0, omega (arith, is.1))

  told : (page : ℕ) → IsDataPage u.durable.master.pages page → said_of reads new page ≡ said_of reads u.durable page
  told page is = same-said reads u.durable new (w ∷ []) p h.1.underway page (within page is) (ap (contains page) (ap (λ (ps : List ℕ). ps ++ []) none))

  -- the replica wrote one write that names no page
  pub wrote-one : Wrote reads u (w ∷ []) (record { durable = new; pool = u.pool; standing = u.standing; following = u.following; leading = u.leading })
  wrote-one = record {
    reached = p.reached;
    pages = p.pages;
    pool = refl;
    standing = refl;
    following = refl;
    leading = refl;
    disk = λ _. resaid-disk u.durable.master.pages (kept_of reads new) (said_of reads u.durable) (said_of reads new) told
        (elim (one-written u.durable.progress.order (so_far reads u.durable) w none) [
          | inl wrote ↦ subst (λ (k : Kept). IsRightDisk u.durable.master.pages k (said_of reads u.durable)) (sym (kept-by-order reads u.durable new (w ∷ []) p h.1.underway ∙ wrote)) can.disk
          | inr kept ↦ subst (λ (k : Kept). IsRightDisk u.durable.master.pages k (said_of reads u.durable)) (sym (kept-by-order reads u.durable new (w ∷ []) p h.1.underway ∙ kept)) h.1.right.disk
        ]);
    kept = kept-through reads u.durable new (w ∷ []) p h.1.underway;
    up = λ ahead g on. record {
      underway = on;
      right = subst (λ (n : ℕ). IsRight ahead n (kept_of reads new) (said_of reads new) u.standing.state u.pool) (sym p.pages)
          (resaid ahead u.durable.master.pages (kept_of reads new) (said_of reads u.durable) (said_of reads new) u.standing.state u.pool told
          (subst (λ (k : Kept). IsRight ahead u.durable.master.pages k (said_of reads u.durable) u.standing.state u.pool) (sym (kept-through reads u.durable new (w ∷ []) p h.1.underway on)) (can.memory ahead g)));
    };
  }

same-words : (m : Master) → IsSameOfPages m m
same-words m = record { redo = refl; foreign = refl; reverting = refl }

-- a suspect row changes nothing of the pages
pub can-reword : {D : Type 0} (reads : D → Image) (u : Up D) (w : Write) (rows : List SuspectRow) → written (kept_of reads u.durable) w ≡ with_words (kept_of reads u.durable) (kept_of reads u.durable).master rows
    → IsUpSo reads u → CanWrite reads u w
can-reword reads u w rows is h = record {
  disk = subst (λ (k : Kept). IsRightDisk u.durable.master.pages k (said_of reads u.durable)) (sym is)
      (reworded-disk u.durable.master.pages (kept_of reads u.durable) (said_of reads u.durable) (kept_of reads u.durable).master rows (same-words (kept_of reads u.durable).master) h.1.right.disk);
  memory = λ ahead g. subst (λ (k : Kept). IsRight ahead u.durable.master.pages k (said_of reads u.durable) u.standing.state u.pool) (sym is)
      (reworded ahead u.durable.master.pages (kept_of reads u.durable) (said_of reads u.durable) u.standing.state u.pool (kept_of reads u.durable).master rows (same-words (kept_of reads u.durable).master) g.right);
}
