-- What stays right as the master and the suspect rows change, and as images are written.
use Rattle.std.proofs.Common.{◌≡◌, ℕ, ◌<◌, ◌≤◌, ◌⊎◌, Bool, true, false, List, refl, sym, ap, subst, ◌∙◌, inl, inr, arith}
use Rattle.std.specs.Prelude.{not, ◌&&◌}
use Rattle.ag_model.specs.declared.answer.Cell.{Cell}
use Rattle.ag_model.specs.declared.answer.SuspectRow.{SuspectRow}
use Rattle.ag_model.specs.Cells.{is_sound}
use Rattle.ag_model.specs.Prefixes.{end_of}
use Rattle.ag_model.specs.Rows.{stripe_of, contains}
use Rattle.ag_rules.specs.Replica.{Kept, Master, image, is_reverting}
use Rattle.ag_stripe.specs.Known.{Known}
use Rattle.ag_pool.specs.declared.frame.Frame.{Frame}
use Rattle.ag_pool.specs.View.{PoolView, stripe_at, frame}
use Rattle.ag_law_pages.specs.Images.{IsDataPage, IsValueIn, CanRedo}
use Rattle.ag_law_pages.specs.Right.{IsRightDisk, IsRightPage, IsRight, is_own, reach}
use Rattle.ag_law_pages.proofs.Values.{value-redo}

-- what is kept, with another master and other suspect rows
abbrev pub with_words : Kept → Master → List SuspectRow → Kept
with_words k m rows = record { log = k.log; master = m; suspects = rows; images = k.images }

-- a master that says the same of the pages
pub record IsSameOfPages (old new : Master) : Type 0 where
  pub redo : new.redo_start ≡ old.redo_start
  pub foreign : new.foreign ≡ old.foreign
  pub reverting : is_reverting new.state ≡ is_reverting old.state

same-own : (k : Kept) (m : Master) (rows : List SuspectRow) → m.foreign ≡ k.master.foreign → (page : ℕ) → is_own (with_words k m rows) page ≡ is_own k page
same-own k m rows e page = ap (λ (foreign : List ℕ). is_sound (image k page) && not (contains page foreign)) e

-- a disk with other words
pub reworded-disk : (pages : ℕ) (k : Kept) (said : ℕ → Known) (m : Master) (rows : List SuspectRow) → IsSameOfPages k.master m → IsRightDisk pages k said → IsRightDisk pages (with_words k m rows) said
reworded-disk pages k said m rows same d = record {
  proper = d.proper;
  spelled = d.spelled;
  redo = omega (arith, d.redo, same.redo);
  settled = λ e. same.foreign ∙ d.settled (sym same.reverting ∙ e);
  images = λ page is own. subst (λ (redo : ℕ). CanRedo pages k.log.records redo page (said page)) (sym same.redo) (d.images page is (sym (same-own k m rows same.foreign page) ∙ own));
}

-- what memory has of a page, with other words on the disk
reworded-page : (ahead : Bool) (pages : ℕ) (k : Kept) (said : ℕ → Known) (state applied page : ℕ) (f : Frame) (m : Master) (rows : List SuspectRow) → m.foreign ≡ k.master.foreign
    → IsRightPage ahead pages k said state applied page f → IsRightPage ahead pages (with_words k m rows) said state applied page f
reworded-page ahead pages k said state applied page f m rows e r =
    let own = ap (λ (b : Bool). b && not (is_reverting state)) (same-own k m rows e page) in
    record {
      shown = λ is. let s = r.shown (sym own ∙ is) in record { kept = s.kept; clean = s.clean; read = s.read };
      hidden = λ is. r.hidden (sym own ∙ is);
      pending = r.pending;
      held = r.held;
    }

-- a replica with other words on its disk
pub reworded : (ahead : Bool) (pages : ℕ) (k : Kept) (said : ℕ → Known) (state : ℕ) (pool : PoolView) (m : Master) (rows : List SuspectRow) → IsSameOfPages k.master m
    → IsRight ahead pages k said state pool → IsRight ahead pages (with_words k m rows) said state pool
reworded ahead pages k said state pool m rows same r = record {
  disk = reworded-disk pages k said m rows same r.disk;
  whole = r.whole;
  count = r.count;
  kept_state = r.kept_state ∙ sym same.reverting;
  low = λ x lt. omega (arith, r.low x lt, same.redo);
  high = r.high;
  reverting = λ on x lt. r.reverting on x lt ∙ sym same.redo;
  each = λ page is. reworded-page ahead pages k said state (stripe_at pool (stripe_of page)).applied page (frame pool page) m rows same.foreign (r.each page is);
}

-- what is kept, with other images
abbrev pub with_images : Kept → List (List Cell) → Kept
with_images k images = record { log = k.log; master = k.master; suspects = k.suspects; images = images }

-- a page of an image that was written over, or not: it's the replica's own as before and says the same, or says the value at an LSN that isn't below the redo start
abbrev pub IsRewritten : ℕ → Kept → (ℕ → Known) → Kept → (ℕ → Known) → ℕ → Type 0
IsRewritten pages old before new after page = is_own new page ≡ true
    → ((is_own old page ≡ true) × (after page ≡ before page)) ⊎ IsValueIn pages old.log.records old.master.redo_start (end_of old.log) page (after page)

-- a disk with other images
pub rewritten-disk : (pages : ℕ) (k : Kept) (before after : ℕ → Known) (images : List (List Cell)) → ((page : ℕ) → IsDataPage pages page → IsRewritten pages k before (with_images k images) after page)
    → IsRightDisk pages k before → IsRightDisk pages (with_images k images) after
rewritten-disk pages k before after images each d = record {
  proper = d.proper;
  spelled = d.spelled;
  redo = d.redo;
  settled = d.settled;
  images = λ page is own. elim (each page is own) [
    | inl same ↦ subst (λ (said : Known). CanRedo pages k.log.records k.master.redo_start page said) (sym same.1) (d.images page is same.0)
    | inr wrote ↦ value-redo pages k.master.redo_start (end_of k.log) k.master.redo_start page (after page) k.log (omega arith) (omega arith) wrote
  ];
}

-- a page that memory has, whose image was written over or not
pub record IsRewrittenUnder (ahead : Bool) (pages : ℕ) (old : Kept) (before : ℕ → Known) (new : Kept) (after : ℕ → Known) (applied page : ℕ) : Type 0 where
  pub own : is_own new page ≡ is_own old page
  pub sound : is_sound (image old page) ≡ false → is_sound (image new page) ≡ false
  pub says : is_own old page ≡ true → (after page ≡ before page) ⊎ IsValueIn pages old.log.records applied (reach ahead old applied) page (after page)

rewritten-page : (ahead : Bool) (pages : ℕ) (k : Kept) (before after : ℕ → Known) (images : List (List Cell)) (state applied page : ℕ) (f : Frame)
    → IsRewrittenUnder ahead pages k before (with_images k images) after applied page
    → IsRightPage ahead pages k before state applied page f → IsRightPage ahead pages (with_images k images) after state applied page f
rewritten-page ahead pages k before after images state applied page f w r =
    let own = ap (λ (b : Bool). b && not (is_reverting state)) w.own in
    record {
      shown = λ is.
          let was = sym own ∙ is in
          let s = r.shown was in
          record {
            kept = s.kept;
            clean = λ e. elim (w.says (and-left (is_own k page) (not (is_reverting state)) was)) [
              | inl same ↦ subst (λ (said : Known). IsValueIn pages k.log.records applied (reach ahead k applied) page said) (sym same) (s.clean e)
              | inr wrote ↦ wrote
            ];
            read = s.read;
          };
      hidden = λ is. r.hidden (sym own ∙ is);
      pending = λ on. w.sound (r.pending on);
      held = r.held;
    }
  where
    and-left : (a b : Bool) → (a && b) ≡ true → a ≡ true
    and-left true b e = refl
    and-left false b e = e

-- a replica with other images
pub rewritten : (ahead : Bool) (pages : ℕ) (k : Kept) (before after : ℕ → Known) (images : List (List Cell)) (state : ℕ) (pool : PoolView)
    → ((page : ℕ) → IsDataPage pages page → IsRewrittenUnder ahead pages k before (with_images k images) after (stripe_at pool (stripe_of page)).applied page)
    → IsRightDisk pages (with_images k images) after → IsRight ahead pages k before state pool → IsRight ahead pages (with_images k images) after state pool
rewritten ahead pages k before after images state pool each disk r = record {
  disk = disk;
  whole = r.whole;
  count = r.count;
  kept_state = r.kept_state;
  low = r.low;
  high = r.high;
  reverting = r.reverting;
  each = λ page is. rewritten-page ahead pages k before after images state (stripe_at pool (stripe_of page)).applied page (frame pool page) (each page is) (r.each page is);
}

-- what is kept, with another redo start
abbrev pub with_redo : Kept → ℕ → Kept
with_redo k redo = record { log = k.log; master = record k.master { redo_start = redo }; suspects = k.suspects; images = k.images }

-- where no page that is shown is dirty, redo can start from the least LSN up to which a stripe has redone
pub raised : (pages : ℕ) (k : Kept) (said : ℕ → Known) (state : ℕ) (pool : PoolView) (redo : ℕ) → is_reverting state ≡ false → ((x : ℕ) → x < 16 → redo ≤ (stripe_at pool x).applied)
    → ((page : ℕ) → IsDataPage pages page → (frame pool page).dirty ≡ false) → IsRight false pages k said state pool → IsRight false pages (with_redo k redo) said state pool
raised pages k said state pool redo steady least clean r = record {
  disk = record {
    proper = r.disk.proper;
    spelled = r.disk.spelled;
    redo = omega (arith, least 0 (omega arith), r.high 0 (omega arith));
    settled = r.disk.settled;
    images = λ page is own.
        let x : stripe_of page < 16 = omega arith in
        let here = (r.each page is).shown (shown-steady own steady) in
        value-redo pages (stripe_at pool (stripe_of page)).applied (stripe_at pool (stripe_of page)).applied redo page (said page) k.log (r.high (stripe_of page) x) (least (stripe_of page) x) (here.clean (clean page is));
  };
  whole = r.whole;
  count = r.count;
  kept_state = r.kept_state;
  low = least;
  high = r.high;
  reverting = λ on. absurd (true_false (sym on ∙ steady));
  each = λ page is. let p = r.each page is in record {
    shown = λ e. let s = p.shown e in record { kept = s.kept; clean = s.clean; read = s.read };
    hidden = p.hidden;
    pending = p.pending;
    held = p.held;
  };
}
  where
    true_false : true ≡ false → ⊥
    true_false e = cc

    shown-steady : {a b : Bool} → a ≡ true → b ≡ false → (a && not b) ≡ true
    shown-steady e f = λ i. e i && not (f i)

-- a disk whose images say the same of the data pages
pub resaid-disk : (pages : ℕ) (k : Kept) (said other : ℕ → Known) → ((page : ℕ) → IsDataPage pages page → other page ≡ said page) → IsRightDisk pages k said → IsRightDisk pages k other
resaid-disk pages k said other same d = record {
  proper = d.proper;
  spelled = d.spelled;
  redo = d.redo;
  settled = d.settled;
  images = λ page is own. subst (λ (x : Known). CanRedo pages k.log.records k.master.redo_start page x) (sym (same page is)) (d.images page is own);
}

resaid-page : (ahead : Bool) (pages : ℕ) (k : Kept) (said other : ℕ → Known) (state applied page : ℕ) (f : Frame) → other page ≡ said page → IsRightPage ahead pages k said state applied page f → IsRightPage ahead pages k other state applied page f
resaid-page ahead pages k said other state applied page f same r = record {
  shown = λ is. let s = r.shown is in record {
    kept = s.kept;
    clean = λ e. subst (λ (x : Known). IsValueIn pages k.log.records applied (reach ahead k applied) page x) (sym same) (s.clean e);
    read = s.read;
  };
  hidden = r.hidden;
  pending = r.pending;
  held = r.held;
}

-- a replica whose images say the same of the data pages
pub resaid : (ahead : Bool) (pages : ℕ) (k : Kept) (said other : ℕ → Known) (state : ℕ) (pool : PoolView) → ((page : ℕ) → IsDataPage pages page → other page ≡ said page) → IsRight ahead pages k said state pool → IsRight ahead pages k other state pool
resaid ahead pages k said other state pool same r = record {
  disk = resaid-disk pages k said other same r.disk;
  whole = r.whole;
  count = r.count;
  kept_state = r.kept_state;
  low = r.low;
  high = r.high;
  reverting = r.reverting;
  each = λ page is. resaid-page ahead pages k said other state (stripe_at pool (stripe_of page)).applied page (frame pool page) (same page is) (r.each page is);
}
