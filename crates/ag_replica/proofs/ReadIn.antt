-- Pages that are read into memory.
use Rattle.std.proofs.Common.{◌≡◌, ℕ, ◌+◌, ◌-◌, ◌<◌, ◌≤◌, Bool, true, false, List, [], ◌∷◌, map, get_or, set, length, refl, sym, ap, subst, ◌∙◌, inl, inr, arith}
use Rattle.ag_lists.proofs.Results.{ok_is}
use Rattle.std.specs.Prelude.{Option, Some, None, Ok, Result, not, ◌&&◌, ◌==◌, is_some, cond}
use Rattle.std.proofs.lemmas.Bool.{and_parts, and_from, eqb-true}
use Rattle.std.proofs.lemmas.List.{get_or-set_same, get_or-set_other}
use Rattle.std.proofs.Math.Seq.{map-set_same}
use Rattle.ag_lists.proofs.Tests.{by_bool}
use Rattle.ag_model.specs.declared.value.PageValue.{PageValue}
use Rattle.ag_model.specs.declared.value.Version.{Version}
use Rattle.ag_model.specs.Cells.{is_sound}
use Rattle.ag_model.specs.Rows.{contains}
use Rattle.ag_outside.specs.Disks.{Image}
use Rattle.ag_outside.specs.Shown.{reads_of}
use Rattle.ag_rules.specs.Replica.{Kept, image, is_reverting}
use Rattle.ag_stripe.specs.Known.{Known, at_place, is_zero_page, is_bare, empty_page}
use Rattle.ag_stripe.specs.Known.Known.{Value, NotItsImage}
use Rattle.ag_pool.specs.declared.frame.Frame.{Frame}
use Rattle.ag_pool.specs.Frames.{mark_of, marks_of, empty_frame}
use Rattle.ag_pool.specs.View.{PoolView, IsPool, frame, with_frame}
use Rattle.ag_durable.specs.Views.{DurableView, kept_of}
use Rattle.ag_durable.specs.Fetched.{OnlyFetches}
use Rattle.ag_keeping.specs.Keeping.{kept_on}
use Rattle.ag_law_pages.specs.Images.{IsDataPage, CanRedo}
use Rattle.ag_law_pages.specs.Right.{IsRight, is_own, is_shown}
use Rattle.ag_law_pages.proofs.Framed.{read_in}
use Rattle.ag_replica.specs.declared.up.Up.{Up}
use Rattle.std.proofs.lemmas.Bool.Decides.{eqb_tells}
use Rattle.ag_master.specs.declared.master.Master.{Master}
use Rattle.ag_page.specs.declared.home.Got.TheVariants.{Sound}
use Rattle.ag_page.specs.Home.{found, readable}
use Rattle.ag_pagestore.specs.Places.{image_of, page_cells}
use Rattle.ag_stripe.specs.Known.{in_image}
use Rattle.ag_durable.specs.declared.progress.Progress.{Progress}
use Rattle.ag_replica.proofs.Cells.{kept-cells, found-sound, found-bad, read-says}
use Rattle.ag_replica.specs.Ups.{IsUp, said_of, said_on}
use Rattle.ag_replica.specs.Reading.{HasValue, OnlyReads, IsUpSo}

bare : (vs : List Version) → is_bare vs ≡ true → vs ≡ []
bare [] e = refl
bare (v ∷ vs) e = absurd (false_true e)
  where
    false_true : false ≡ true → ⊥
    false_true e = cc

pub none_value : (v : PageValue) → NotItsImage ≡ Value v → ⊥
none_value v e = cc

-- a page value at a place where it says something
pub placed : (page : ℕ) (v : PageValue) → HasValue (at_place page v) → at_place page v ≡ Value (record { page = page; lsn = v.lsn; horizon = v.horizon; versions = v.versions })
placed page v h =
    by_bool (v.page == page) (λ b. HasValue (cond b (Value v) (cond (is_zero_page v) (Value (empty_page page)) NotItsImage)) → cond b (Value v) (cond (is_zero_page v) (Value (empty_page page)) NotItsImage) ≡ Value (record { page = page; lsn = v.lsn; horizon = v.horizon; versions = v.versions }))
    (λ here _. ap (λ (n : ℕ). Value (record { page = n; lsn = v.lsn; horizon = v.horizon; versions = v.versions })) (eqb-true v.page page here))
    (λ _ says. by_bool (is_zero_page v) (λ b. HasValue (cond b (Value (empty_page page)) NotItsImage) → cond b (Value (empty_page page)) NotItsImage ≡ Value (record { page = page; lsn = v.lsn; horizon = v.horizon; versions = v.versions }))
    (λ zero _.
    let last = and_parts ((v.page == 0) && (v.lsn == 0) && (v.horizon == 0)) (is_bare v.versions) zero in
    let third = and_parts ((v.page == 0) && (v.lsn == 0)) (v.horizon == 0) last.0 in
    let second = and_parts (v.page == 0) (v.lsn == 0) third.0 in
    λ i. Value (record { page = page; lsn = sym (eqb-true v.lsn 0 second.1) i; horizon = sym (eqb-true v.horizon 0 third.1) i; versions = sym (bare v.versions last.1) i }))
    (λ _ none. absurd (none_value none.0 none.1))
    says)
    h

-- a page of which memory has nothing, and whose image is sound, has a value that its image says
pub says-value : (ahead : Bool) (pages : ℕ) (k : Kept) (said : ℕ → Known) (state : ℕ) (pool : PoolView) (page : ℕ) → IsRight ahead pages k said state pool → is_reverting state ≡ false → IsDataPage pages page
    → is_sound (image k page) ≡ true → HasValue (said page)
says-value ahead pages k said state pool page r steady is sound =
    let none = r.disk.settled (sym r.kept_state ∙ steady) in
    let own : is_own k page ≡ true = and_from (is_sound (image k page)) (not (contains page k.master.foreign)) sound (ap (λ (ps : List ℕ). not (contains page ps)) none) in
    let c = r.disk.images page is own in
    (_, c.value)

-- a page with a value has a sound image
pub value-sound : (ahead : Bool) (pages : ℕ) (k : Kept) (said : ℕ → Known) (state : ℕ) (pool : PoolView) (page : ℕ) → IsRight ahead pages k said state pool → IsDataPage pages page
    → is_some (frame pool page).value ≡ true → is_sound (image k page) ≡ true
value-sound ahead pages k said state pool page r is some = by_bool (is_sound (image k page)) (λ b. is_sound (image k page) ≡ b → b ≡ true) (λ on _. refl)
    (λ off _.
    let hidden = (r.each page is).hidden (ap (λ (b : Bool). (b && not (contains page k.master.foreign)) && not (is_reverting state)) off) in
    absurd (false_true (ap is_some (sym hidden.unread) ∙ some)))
    refl
  where
    false_true : false ≡ true → ⊥
    false_true e = cc

-- reading a page in changes how no page stands
pub marks-stay : (v : PoolView) (page : ℕ) (w : PageValue) → marks_of (with_frame v page (record (frame v page) { value = Some w })).frames ≡ marks_of v.frames
marks-stay v page w = map-set_same mark_of v.frames (page - 16) (record (frame v page) { value = Some w }) empty_frame refl

-- what holds of a disk that was only read
pub fetched-right : {D : Type 0} (reads : D → Image) (ahead : Bool) (a b : DurableView D) (state : ℕ) (pool : PoolView) → OnlyFetches reads a b → IsRight ahead a.master.pages (kept_of reads a) (said_of reads a) state pool
    → IsRight ahead b.master.pages (kept_of reads b) (said_of reads b) state pool
fetched-right reads ahead a b state pool f r =
    subst (λ (disk : Image). IsRight ahead b.master.pages (kept_on b.master.pages disk) (said_on disk) state pool) (sym f.content)
    (subst (λ (n : ℕ). IsRight ahead n (kept_on n (reads_of reads a.disk)) (said_on (reads_of reads a.disk)) state pool) (ap (λ (m : Master). m.pages) (sym f.master)) r)

no-value : (o : Option PageValue) → is_some o ≡ false → o ≡ None
no-value None e = refl
no-value (Some v) e = absurd (true_false e)
  where
    true_false : true ≡ false → ⊥
    true_false e = cc

-- values that are there stay as one more is read in
values-stay : (v : PoolView) (page : ℕ) (f : Frame) → (frame v page).value ≡ None → (q : ℕ) (w : PageValue) → (frame v q).value ≡ Some w → (frame (with_frame v page f) q).value ≡ Some w
values-stay v page f none q w some = elim (eqb_tells (q - 16) (page - 16)) [
  | inl here ↦ absurd (none_some w (sym none ∙ ap (λ (n : ℕ). (get_or v.frames n empty_frame).value) (sym here.1) ∙ some))
  | inr apart ↦ ap (λ (g : Frame). g.value) (get_or-set_other v.frames (page - 16) (q - 16) f empty_frame apart.1) ∙ some
]
  where
    none_some : (w : PageValue) → None ≡ Some w → ⊥
    none_some w e = cc

module _ {D : Type 0} (reads : D → Image) (u : Up D) (page : ℕ) (h : IsUpSo reads u) (steady : is_reverting u.standing.state ≡ false) (is : IsDataPage u.durable.master.pages page) (now : DurableView D) (f : OnlyFetches reads u.durable now) where
  -- the cells of the page's image
  pub cells-kept : image (kept_of reads u.durable) page ≡ page_cells (reads_of reads u.durable.disk) page
  cells-kept = kept-cells u.durable.master.pages page (reads_of reads u.durable.disk) is

  -- the page isn't bad
  pub is-sound : found (image_of (reads_of reads u.durable.disk) page) ≡ Sound → is_sound (image (kept_of reads u.durable) page) ≡ true
  is-sound e = ap is_sound cells-kept ∙ found-sound (reads_of reads u.durable.disk) page e

  pub is-bad : (found (image_of (reads_of reads u.durable.disk) page) ≡ Sound → ⊥) → is_sound (image (kept_of reads u.durable) page) ≡ false
  is-bad off = ap is_sound cells-kept ∙ found-bad (reads_of reads u.durable.disk) page off

  -- its image says a value
  pub has-value : found (image_of (reads_of reads u.durable.disk) page) ≡ Sound → HasValue (said_of reads u.durable page)
  has-value e = says-value h.0 u.durable.master.pages (kept_of reads u.durable) (said_of reads u.durable) u.standing.state u.pool page h.1.right steady is (is-sound e)

  -- so do the bytes that were read
  pub bytes-say : (bytes : List (List ℕ)) → found (image_of (reads_of reads u.durable.disk) page) ≡ Sound → image_of (reads_of reads u.durable.disk) page ≡ readable bytes → HasValue (in_image page bytes)
  bytes-say bytes e same = let v = has-value e in (v.0, read-says (reads_of reads u.durable.disk) page bytes v.0 v.0 e same v.1)

  -- the disk alone was read
  pub only-fetched : OnlyReads reads u (record { durable = now; pool = u.pool; standing = u.standing; following = u.following; leading = u.leading })
  only-fetched = record {
    durable = f;
    count = refl;
    marks = refl;
    stripes = refl;
    values = λ q w e. e;
    standing = refl;
    following = refl;
    leading = refl;
    up = λ ahead g. record {
      underway = ap (λ (p : Progress). p.came) f.progress ∙ g.underway;
      right = fetched-right reads ahead u.durable now u.standing.state u.pool f g.right;
    };
  }

  -- the page was read in
  pub only-read : (pool : PoolView) (bytes : List (List ℕ)) (w : PageValue) → pool ≡ with_frame u.pool page (record (frame u.pool page) { value = Some w }) → is_some (frame u.pool page).value ≡ false → found (image_of (reads_of reads u.durable.disk) page) ≡ Sound
      → image_of (reads_of reads u.durable.disk) page ≡ readable bytes → in_image page bytes ≡ Value w
      → OnlyReads reads u (record { durable = now; pool = pool; standing = u.standing; following = u.following; leading = u.leading })
  only-read pool bytes w kept off e same says =
      let none = no-value (frame u.pool page).value off in
      let v = has-value e in
      let told : said_of reads u.durable page ≡ Value w = v.1 ∙ sym (read-says (reads_of reads u.durable.disk) page bytes v.0 v.0 e same v.1) ∙ says in
      let sound = is-sound e in
      subst (λ (p : PoolView). OnlyReads reads u (record { durable = now; pool = p; standing = u.standing; following = u.following; leading = u.leading })) (sym kept)
      (record {
        durable = f;
        count = refl;
        marks = marks-stay u.pool page w;
        stripes = refl;
        values = values-stay u.pool page (record (frame u.pool page) { value = Some w }) none;
        standing = refl;
        following = refl;
        leading = refl;
        up = λ ahead g.
            let own = g.right.disk.settled (sym g.right.kept_state ∙ steady) in
            let shown : is_shown (kept_of reads u.durable) u.standing.state page ≡ true =
            (λ i. (sound i && not (contains page (own i))) && not (steady i)) in
            record {
              underway = ap (λ (p : Progress). p.came) f.progress ∙ g.underway;
              right = fetched-right reads ahead u.durable now u.standing.state (with_frame u.pool page (record (frame u.pool page) { value = Some w })) f
                  (read_in ahead u.durable.master.pages (kept_of reads u.durable) (said_of reads u.durable) u.standing.state u.pool g.right page w is shown none told);
            };
      })

-- an answer is one alone
pub answers-apart : {E : Type 0} → ◌≡◌ {A = Result Bool E} (Ok false) (Ok true) → ⊥
answers-apart e = false_true (ok_is false true e)
  where
    false_true : false ≡ true → ⊥
    false_true e = cc
