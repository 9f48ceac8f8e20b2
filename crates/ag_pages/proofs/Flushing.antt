-- Dirty pages that were written and are clean.
use Rattle.std.proofs.Common.{◌≡◌, ℕ, Bool, true, false, cond, IsTrue, ◌||◌, eqb, List, [], ◌∷◌, ◌++◌, map, refl, sym, ap, subst, ◌∙◌, inl, inr}
use Rattle.std.specs.Prelude.{Option, Some, None}
use Rattle.std.specs.List.{AllByRecursion, concat}
use Rattle.std.proofs.lemmas.Bool.{eq-eqb, or_left, or_right, or_cases, false_from_ne_true}
use Rattle.std.proofs.lemmas.List.{map-append}
use Rattle.ag_model.specs.declared.value.PageValue.{PageValue}
use Rattle.ag_model.specs.Rows.{contains}
use Rattle.ag_outside.specs.Calls.{Call}
use Rattle.ag_outside.specs.Disks.{Content, Image}
use Rattle.ag_page.specs.Image.{image}
use Rattle.ag_page.specs.Spelling.{has_image, page_bytes}
use Rattle.ag_pagestore.specs.declared.batch.PageWrite.{PageWrite}
use Rattle.ag_pagestore.specs.Places.{image_of}
use Rattle.ag_pagestore.specs.Batches.{IsWhole, IsWritten}
use Rattle.ag_pagestore.specs.Homes.{told_images}
use Rattle.ag_stripe.specs.declared.slot.Slot.{Slot}
use Rattle.ag_stripe.specs.Known.{Told, Says, in_home, known_by}
use Rattle.ag_stripe.specs.Known.Known.{Value}
use Rattle.ag_pages.specs.Reading.{WasOnlyRead}
use Rattle.ag_pages.specs.Flush.{HasItsImage, kept_or_empty, kept_value, page_write, page_writes, TookBatch, TakesBatches, Flushed, IsInMemory, StayKept}
use Rattle.ag_pages.proofs.Sets.{contains-append, all_in, in_at}
use Rattle.ag_pages.proofs.Batching.{concat-append, concat-one}
use Rattle.ag_pages.proofs.Batches.{read_itself, takes_both, written_none, written_both, other_stays, all_joined}
use Rattle.ag_pages.proofs.Imaging.{home_told, home_same, says_is}

-- each page of these has its value in memory
abbrev pub AreHeld : (ℕ → Slot) → List ℕ → Type 0
AreHeld slot ps = (p : ℕ) → contains p ps ≡ true → IsInMemory slot p

kept_is : (page : ℕ) (o : Option PageValue) (v : PageValue) → o ≡ Some v → kept_or_empty page o ≡ v
kept_is page (Some w) v is = cc
kept_is page None v is = cc

pub value_kept : (slot : ℕ → Slot) (page : ℕ) (v : PageValue) → (slot page).value ≡ Some v → kept_value slot page ≡ v
value_kept slot page v is = kept_is page (slot page).value v is

abbrev pub page_write_by : ℕ → PageValue → PageWrite
page_write_by page v = record { page = page; image = image 0 (page_bytes v) }

-- the same pages have the same images to write, where their values stay
pub write_same : (before after : ℕ → Slot) (page : ℕ) (v : PageValue) → (before page).value ≡ Some v → (after page).value ≡ Some v → kept_value after page ≡ kept_value before page
write_same before after page v is still = value_kept after page v still ∙ sym (value_kept before page v is)

writes_same : (before after : ℕ → Slot) → StayKept before after → (ps : List ℕ) → AreHeld before ps → page_writes after ps ≡ page_writes before ps
writes_same before after stay [] held = refl
writes_same before after stay (p ∷ ps) held =
    let own = held p (or_left (eqb p p) (contains p ps) (eq-eqb p p refl)) in
    ap (λ (v : PageValue). page_write_by p v ∷ page_writes after ps) (write_same before after p own.0 own.1 (stay p own.0 own.1))
    ∙ ap (λ (z : List PageWrite). page_write before p ∷ z) (writes_same before after stay ps (λ q here. held q (or_right (eqb q p) (contains q ps) here)))

pub batches_same : (before after : ℕ → Slot) → StayKept before after → (bs : List (List ℕ)) → AreHeld before (concat bs) → map (page_writes after) bs ≡ map (page_writes before) bs
batches_same before after stay [] held = refl
batches_same before after stay (b ∷ bs) held =
    ap (λ (z : List PageWrite). z ∷ map (page_writes after) bs) (writes_same before after stay b (λ q here. held q (contains-append q b (concat bs) ∙ or_left (contains q b) (contains q (concat bs)) here)))
    ∙ ap (λ (z : List (List PageWrite)). page_writes before b ∷ z) (batches_same before after stay bs (λ q here. held q (contains-append q b (concat bs) ∙ or_right (contains q b) (contains q (concat bs)) here)))

pub fit_same : (before after : ℕ → Slot) (p : ℕ) → StayKept before after → (v : PageValue) → (before p).value ≡ Some v → HasItsImage after p → HasItsImage before p
fit_same before after p stay v is fit =
    let same = write_same before after p v is (stay p v is) in
    (is ∙ ap (λ (w : PageValue). Some w) (sym (value_kept before p v is)), ap has_image (sym same) ∙ fit.1)

pub clean_both : (x y d : Bool) → cond y false (cond x false d) ≡ cond (x || y) false d
clean_both true true d = refl
clean_both true false d = refl
clean_both false y d = refl

pub told_is : (b : Bool) (disk : Image) → IsTrue b → told_images b disk ≡ Some (image_of disk)
told_is true disk holds = refl
told_is false disk holds = cc

-- what is known of a page whose value is nowhere in memory before
known_after : (page : ℕ) (old new : Image) (after : Option PageValue) → image_of new page ≡ image_of old page → Says (in_home (Some (image_of old)) page) (known_by (Some (image_of old)) page after) → known_by (Some (image_of new)) page after ≡ in_home (Some (image_of old)) page
known_after page old new None same says = home_same old new page same
known_after page old new (Some v) same says = says_is (in_home (Some (image_of old)) page) (Value v) (home_told old page) says

module _ {D : Type 0} (size : D → ℕ) (keeps : D → Bool) (reads : D → Image) (may_hold : D → ℕ → Content → Type 0) (did : D → Call → D → Type 0) where
  pub flushed_none : (a : D) (slot : ℕ → Slot) → Flushed size keeps reads may_hold did a slot [] a slot
  flushed_none a slot = record {
    calls = read_itself size keeps reads may_hold did a;
    written = written_none slot (reads a) (reads a) refl;
    whole = tt;
    fit = tt;
    dirty = λ page. refl;
    kept = λ page v is. is;
    known = λ page. refl;
  }

  -- batches, and then batches of other pages
  pub flushed_both : (a b c : D) (before then after : ℕ → Slot) (xs ys : List (List ℕ)) → Flushed size keeps reads may_hold did a before xs b then → Flushed size keeps reads may_hold did b then ys c after
      → ((q : ℕ) → contains q (concat xs) ≡ true → contains q (concat ys) ≡ true → ⊥) → AreHeld before (concat ys) → Flushed size keeps reads may_hold did a before (xs ++ ys) c after
  flushed_both a b c before then after xs ys first last apart held =
      let all = concat-append xs ys in
      let same = writes_same before then first.kept (concat ys) held in
      record {
        calls = subst (λ (bs : List (List PageWrite)). TakesBatches size keeps reads may_hold did a bs c) (sym (map-append (page_writes before) xs ys))
            (takes_both size keeps reads may_hold did (map (page_writes before) xs) (map (page_writes before) ys) a b c first.calls
            (subst (λ (bs : List (List PageWrite)). TakesBatches size keeps reads may_hold did b bs c) (batches_same before then first.kept ys held) last.calls));
        written = subst (λ (ps : List ℕ). IsWritten (reads a) (page_writes before ps) (reads c)) (sym all)
            (written_both before (reads a) (reads b) (reads c) (concat xs) (concat ys) apart first.written (subst (λ (ws : List PageWrite). IsWritten (reads b) ws (reads c)) same last.written));
        whole = subst (λ (ps : List ℕ). AllByRecursion IsWhole (page_writes before ps)) (sym all) (all_joined IsWhole before (concat xs) (concat ys) first.whole (subst (AllByRecursion IsWhole) same last.whole));
        fit = all_in (HasItsImage before) (concat (xs ++ ys)) (λ q here. elim (or_cases (contains q (concat xs)) (contains q (concat ys)) (sym (ap (contains q) all ∙ contains-append q (concat xs) (concat ys)) ∙ here)) [
          | inl one ↦ in_at (HasItsImage before) (concat xs) q first.fit one
          | inr other ↦ (let own = held q other in fit_same before then q first.kept own.0 own.1 (in_at (HasItsImage then) (concat ys) q last.fit other))
        ]);
        dirty = λ page. last.dirty page ∙ ap (cond (contains page (concat ys)) false) (first.dirty page) ∙ clean_both (contains page (concat xs)) (contains page (concat ys)) (before page).dirty
            ∙ ap (λ (t : Bool). cond t false (before page).dirty) (sym (ap (contains page) all ∙ contains-append page (concat xs) (concat ys)));
        kept = λ page v is. last.kept page v (first.kept page v is);
        known = λ page. last.known page ∙ first.known page;
      }

  -- a batch, after reads
  pub flushed_one : (a b c : D) (before then after : ℕ → Slot) (ps : List ℕ) → IsTrue (keeps a) → WasOnlyRead size keeps reads may_hold did a b → TookBatch size keeps reads may_hold did b (page_writes before ps) c
      → IsWritten (reads b) (page_writes before ps) (reads c) → AllByRecursion IsWhole (page_writes before ps) → AllByRecursion (HasItsImage before) ps
      → ((q : ℕ) → (then q).dirty ≡ (before q).dirty) → StayKept before then → ((q : ℕ) → Says (known_by (told_images (keeps a) (reads a)) q (before q).value) (known_by (told_images (keeps a) (reads a)) q (then q).value))
      → ((q : ℕ) → (after q).value ≡ (then q).value) → ((q : ℕ) → (after q).dirty ≡ cond (contains q ps) false (then q).dirty) → Flushed size keeps reads may_hold did a before (ps ∷ []) c after
  flushed_one a b c before then after ps holds read took written whole fit dirty kept known values clean =
      let one = concat-one ps in
      let old = told_is (keeps a) (reads a) holds in
      let new : told_images (keeps c) (reads c) ≡ Some (image_of (reads c)) = told_is (keeps c) (reads c) (subst IsTrue (sym (took.keeping ∙ read.keeping)) holds) in
      let from : IsWritten (reads a) (page_writes before ps) (reads c) = subst (λ (im : Image). IsWritten im (page_writes before ps) (reads c)) read.content written in
      record {
        calls = (b, c, read, took, read_itself size keeps reads may_hold did c);
        written = subst (λ (qs : List ℕ). IsWritten (reads a) (page_writes before qs) (reads c)) (sym one) from;
        whole = subst (λ (qs : List ℕ). AllByRecursion IsWhole (page_writes before qs)) (sym one) whole;
        fit = subst (AllByRecursion (HasItsImage before)) (sym one) fit;
        dirty = λ page. clean page ∙ ap (cond (contains page ps) false) (dirty page) ∙ ap (λ (qs : List ℕ). cond (contains page qs) false (before page).dirty) (sym one);
        kept = λ page v is. values page ∙ kept page v is;
        known = λ page. ap (λ (t : Told). known_by t page (after page).value) new ∙ by_value page (before page).value refl from ∙ sym (ap (λ (t : Told). known_by t page (before page).value) old);
      }
    where
      by_value : (page : ℕ) (o : Option PageValue) → (before page).value ≡ o → IsWritten (reads a) (page_writes before ps) (reads c) → known_by (Some (image_of (reads c))) page (after page).value ≡ known_by (Some (image_of (reads a))) page (before page).value
      by_value page (Some v) is from = ap (known_by (Some (image_of (reads c))) page) (values page ∙ kept page v is) ∙ sym (ap (known_by (Some (image_of (reads a))) page) is)
      by_value page None is from =
          let told = told_is (keeps a) (reads a) holds in
          let apart : contains page ps ≡ false = false_from_ne_true (contains page ps) (λ here. cc ((in_at (HasItsImage before) ps page fit here).0, is)) in
          let says : Says (in_home (Some (image_of (reads a))) page) (known_by (Some (image_of (reads a))) page (after page).value) =
          subst (λ (o : Option PageValue). Says (in_home (Some (image_of (reads a))) page) (known_by (Some (image_of (reads a))) page o)) (sym (values page))
          (subst (λ (o : Option PageValue). Says (known_by (Some (image_of (reads a))) page o) (known_by (Some (image_of (reads a))) page (then page).value)) is
          (subst (λ (t : Told). Says (known_by t page (before page).value) (known_by t page (then page).value)) told (known page))) in
          known_after page (reads a) (reads c) (after page).value (other_stays before (reads a) (reads c) page ps from apart) says
          ∙ sym (ap (known_by (Some (image_of (reads a))) page) is)
