-- The access to a page.
use Rattle.std.proofs.Common.{◌≡◌, ◌≢◌, ℕ, ◌+◌, ◌-◌, ◌<◌, ◌≤◌, Bool, true, false, List, [], ◌∷◌, get_or, set, length, refl, sym, ap, subst, ◌∙◌, arith}
use Rattle.std.specs.Prelude.{Option, Some, None, not, ◌&&◌, is_some, cond}
use Rattle.ag_lists.proofs.Results.{some_is}
use Rattle.ag_lists.proofs.Tests.{by_bool}
use Rattle.ag_model.specs.declared.answer.Answer.TheVariants.{No}
use Rattle.ag_model.specs.declared.answer.Refusal.{Refusal}
use Rattle.ag_model.specs.declared.answer.Refusal.TheVariants.{Pending, NotNoted}
use Rattle.ag_model.specs.declared.value.PageValue.{PageValue}
use Rattle.ag_model.specs.Cells.{is_sound}
use Rattle.ag_model.specs.Page.{value}
use Rattle.ag_model.specs.Rows.{contains, stripe_of}
use Rattle.ag_outside.specs.Disks.{Image}
use Rattle.ag_rules.specs.Replica.{Replica, Kept, Page, Stripe, page, image, is_bad, is_reverting, with_page, page_value, clean_page}
use Rattle.ag_rules.specs.Plan.{Part, Batch, refused, at_once, writing, each_synced, can_note, Note_write, all_written, batch_written}
use Rattle.ag_rules.specs.Access.{access, pended, notes, kind_of, refusal_of}
use Rattle.ag_stripe.specs.Known.{Known}
use Rattle.ag_stripe.specs.Known.Known.{Value}
use Rattle.ag_master.specs.declared.master.Master.{Master as SectorMaster}
use Rattle.ag_pool.specs.declared.frame.Frame.{Frame}
use Rattle.ag_pool.specs.Frames.{mark_of}
use Rattle.ag_pool.specs.View.{PoolView, frame, with_frame, stripe_at}
use Rattle.ag_writes.specs.Performing.{after_batch}
use Rattle.ag_durable.specs.Views.{DurableView, kept_of, reached_of}
use Rattle.ag_durable.specs.Fetched.{OnlyFetches}
use Rattle.ag_durable.specs.declared.progress.Came.TheVariants.{Underway}
use Rattle.ag_law_pages.specs.Images.{IsDataPage}
use Rattle.ag_law_pages.specs.Right.{IsRight, IsRightDisk, is_shown}
use Rattle.ag_law_pages.proofs.Framed.{pended as right-pended}
use Rattle.ag_replica.specs.declared.up.Up.{Up}
use Rattle.ag_replica.specs.Ups.{IsUp, replica_of, said_of}
use Rattle.ag_replica.specs.Reading.{OnlyReads}
use Rattle.ag_replica.specs.Writing.{Wrote}
use Rattle.ag_replica.specs.Doing.{Does}
use Rattle.ag_replica.specs.Accessing.{Opens, Refuses}
use Rattle.ag_replica.proofs.Quiet.{quiet-does, read-does, same-reads, mark-at, framed-replica, read-replica, fetched-reached, fetched-kept, fetched-up}

-- the three ways in which a page refuses, and the one in which it doesn't
access-pending : (r : Replica) (p : ℕ) (part : Part) → (page r p).pending ≡ true → access r p part ≡ refused (Pending p) r
unfolding access
access-pending r p part e = ap (λ (b : Bool). cond b (refused (Pending p) r) (cond (is_bad r p && not (can_note p r.kept.suspects)) (at_once (No (NotNoted p)) (pended r p)) (cond (is_bad r p) (notes r p) part))) e

access-full : (r : Replica) (p : ℕ) (part : Part) → (page r p).pending ≡ false → is_sound (image r.kept p) ≡ false → can_note p r.kept.suspects ≡ false → access r p part ≡ at_once (No (NotNoted p)) (pended r p)
unfolding access
access-full r p part e bad full = λ i. cond (e i) (refused (Pending p) r) (cond (not (bad i) && not (full i)) (at_once (No (NotNoted p)) (pended r p)) (cond (not (bad i)) (notes r p) part))

access-bad : (r : Replica) (p : ℕ) (part : Part) → (page r p).pending ≡ false → is_sound (image r.kept p) ≡ false → can_note p r.kept.suspects ≡ true → access r p part ≡ notes r p
unfolding access
access-bad r p part e bad can = λ i. cond (e i) (refused (Pending p) r) (cond (not (bad i) && not (can i)) (at_once (No (NotNoted p)) (pended r p)) (cond (not (bad i)) (notes r p) part))

access-open : (r : Replica) (p : ℕ) (part : Part) → (page r p).pending ≡ false → is_sound (image r.kept p) ≡ true → access r p part ≡ part
unfolding access
access-open r p part e sound = λ i. cond (e i) (refused (Pending p) r) (cond (not (sound i) && not (can_note p r.kept.suspects)) (at_once (No (NotNoted p)) (pended r p)) (cond (not (sound i)) (notes r p) part))

-- the page waits, as the rules see it
marked-pending : (f : Frame) (m : Page) → m ≡ mark_of f → mark_of (record f { pending = true }) ≡ record m { pending = true }
marked-pending f m e = ap (λ (x : Page). record x { pending = true }) (sym e)

module _ {D : Type 0} (reads : D → Image) (u : Up D) (p : ℕ) (h : IsUp reads false u) (is : IsDataPage u.durable.master.pages p) where
  marked : page (replica_of reads u) p ≡ mark_of (frame u.pool p)
  marked = mark-at reads false u p h is

  -- a page that waits refuses
  pub waits-refuses : (frame u.pool p).pending ≡ true → Refuses reads u p u (Pending p)
  waits-refuses e part =
      let same = access-pending (replica_of reads u) p part (ap (λ (m : Page). m.pending) marked ∙ e) in
      subst (λ (x : Part). Does reads u x u (record { answer = No (Pending p); out = None })) (sym same)
      (read-does reads u u (refused (Pending p) (replica_of reads u)) (record { answer = No (Pending p); out = None }) refl h (same-reads reads u) refl refl refl)

  -- a page that was read in is open
  pub opens-page : (v : Up D) → is_reverting u.standing.state ≡ false → (frame u.pool p).pending ≡ false → OnlyReads reads u v → is_some (frame v.pool p).value ≡ true → is_sound (image (kept_of reads u.durable) p) ≡ true → Opens reads u p v
  opens-page v steady e r some sound = record {
    only = r;
    value = got (frame v.pool p).value some refl;
    part = λ part. access-open (replica_of reads u) p part (ap (λ (m : Page). m.pending) marked ∙ e) sound;
  }
    where
      there : IsUp reads false v
      there = r.up false h

      same_pages : v.durable.master.pages ≡ u.durable.master.pages
      same_pages = ap (λ (m : SectorMaster). m.pages) r.durable.master

      here : IsDataPage v.durable.master.pages p
      here = subst (λ (n : ℕ). IsDataPage n p) (sym same_pages) is

      none_some : {w : PageValue} → None ≡ Some w → ⊥
      none_some e = cc

      got : (o : Option PageValue) → is_some o ≡ true → (frame v.pool p).value ≡ o → o ≡ Some (page_value u.durable.master.pages (replica_of reads u) p)
      got None some e = absurd (false_true some)
        where
          false_true : false ≡ true → ⊥
          false_true e = cc
      got (Some w) some e =
          let each = there.right.each p here in
          by_bool (is_shown (kept_of reads v.durable) v.standing.state p) (λ b. is_shown (kept_of reads v.durable) v.standing.state p ≡ b → Some w ≡ Some (page_value u.durable.master.pages (replica_of reads u) p))
          (λ _ on.
          let held = (each.shown on).kept w e in
          let at : held.lsn ≡ (stripe_at v.pool (stripe_of p)).applied = omega (arith, held.from, held.to) in
          ap (λ (x : PageValue). Some x) (value-is held.value)
          ∙ ap (λ (n : ℕ). Some (value v.durable.master.pages (kept_of reads v.durable).log.records n p)) at
          ∙ (λ i. Some (page_value (same_pages i) (read-replica reads u v r i) p)))
          (λ _ off. absurd (none_some (sym (each.hidden off).unread ∙ e)))
          refl
        where
          value-is : {a b : PageValue} → Value a ≡ Value b → a ≡ b
          value-is {a} {b} e = ap (value_or a) e
            where
              value_or : PageValue → Known → PageValue
              value_or d (Value x) = x
              value_or d k = d

  -- the replica once the page waits
  pub waiting : (now : DurableView D) (pool : PoolView) → pool ≡ with_frame u.pool p (record (frame u.pool p) { pending = true })
      → replica_of reads (record { durable = now; pool = pool; standing = u.standing; following = u.following; leading = u.leading }) ≡ record (pended (replica_of reads u) p) { kept = kept_of reads now }
  waiting now pool e =
      ap (λ (v : PoolView). replica_of reads (record { durable = now; pool = v; standing = u.standing; following = u.following; leading = u.leading })) e
      ∙ framed-replica reads (record { durable = now; pool = u.pool; standing = u.standing; following = u.following; leading = u.leading }) p (record (frame u.pool p) { pending = true })
      ∙ ap (λ (m : Page). record (replica_of reads u) { kept = kept_of reads now; pages = set (replica_of reads u).pages (p - 16) m }) (marked-pending (frame u.pool p) (page (replica_of reads u) p) marked)

  -- a bad page that can't be noted refuses
  pub full-refuses : (pool : PoolView) → pool ≡ with_frame u.pool p (record (frame u.pool p) { pending = true }) → (frame u.pool p).pending ≡ false → is_sound (image (kept_of reads u.durable) p) ≡ false → can_note p (kept_of reads u.durable).suspects ≡ false
      → Refuses reads u p (record { durable = u.durable; pool = pool; standing = u.standing; following = u.following; leading = u.leading }) (NotNoted p)
  full-refuses pool new e bad full part =
      let same = access-full (replica_of reads u) p part (ap (λ (m : Page). m.pending) marked ∙ e) bad full in
      let right = right-pended false u.durable.master.pages (kept_of reads u.durable) (said_of reads u.durable) u.standing.state u.pool h.right p is bad in
      subst (λ (x : Part). Does reads u x (record { durable = u.durable; pool = pool; standing = u.standing; following = u.following; leading = u.leading }) (record { answer = No (NotNoted p); out = None })) (sym same)
      (quiet-does reads u (record { durable = u.durable; pool = pool; standing = u.standing; following = u.following; leading = u.leading }) (at_once (No (NotNoted p)) (pended (replica_of reads u) p)) (record { answer = No (NotNoted p); out = None })
      refl refl refl
      (record { underway = h.underway; right = subst (λ (v : PoolView). IsRight false u.durable.master.pages (kept_of reads u.durable) (said_of reads u.durable) u.standing.state v) (sym new) right })
      (waiting u.durable pool new) refl refl)

  -- a bad page is noted and refuses; w is the replica once its cells were read, and v once the row was written
  pub bad-refuses : (w : DurableView D) (v : Up D) (pool : PoolView) (kind : ℕ) (why : Refusal) → OnlyFetches reads u.durable w → pool ≡ with_frame v.pool p (record (frame v.pool p) { pending = true })
      → (frame u.pool p).pending ≡ false → is_sound (image (kept_of reads u.durable) p) ≡ false → can_note p (kept_of reads u.durable).suspects ≡ true
      → kind ≡ kind_of (image (kept_of reads u.durable) p) → why ≡ refusal_of (image (kept_of reads u.durable) p) p
      → Wrote reads (record { durable = w; pool = u.pool; standing = u.standing; following = u.following; leading = u.leading }) (Note_write p kind ∷ []) v
      → Refuses reads u p (record { durable = v.durable; pool = pool; standing = v.standing; following = v.following; leading = v.leading }) why
  bad-refuses w v pool kind why f new e bad can kind_is why_is wrote part =
      let same = access-bad (replica_of reads u) p part (ap (λ (m : Page). m.pending) marked ∙ e) bad can in
      let same_pages : v.durable.master.pages ≡ u.durable.master.pages = wrote.pages ∙ ap (λ (m : SectorMaster). m.pages) f.master in
      let was = fetched-kept reads u.durable w f in
      let kept_by : v.durable.progress.came ≡ Underway → kept_of reads v.durable ≡ batch_written (kept_of reads u.durable) (Note_write p (kind_of (image (kept_of reads u.durable) p)) ∷ []) =
      (λ on. wrote.kept on ∙ (λ i. batch_written (was i) (Note_write p (kind_is i) ∷ []))) in
      subst (λ (x : Part). Does reads u x (record { durable = v.durable; pool = pool; standing = v.standing; following = v.following; leading = v.leading }) (record { answer = No why; out = None })) (sym same)
      (record {
        reached = wrote.reached ∙ (λ i. after_batch (fetched-reached reads u.durable w f i) (Note_write p (kind_is i) ∷ []));
        pages = same_pages;
        disk = λ known. subst (λ (n : ℕ). IsRightDisk n (kept_of reads v.durable) (said_of reads v.durable)) (ap (λ (m : SectorMaster). m.pages) f.master) (wrote.disk known);
        right = λ on.
            let g = wrote.up false (fetched-up reads false u w f h) on in
            let here = subst (λ (n : ℕ). IsDataPage n p) (sym same_pages) is in
            let still : is_sound (image (kept_of reads v.durable) p) ≡ false = ap (λ (k : Kept). is_sound (image k p)) (kept_by on) ∙ bad in
            record {
              underway = on;
              right = subst (λ (q : PoolView). IsRight false v.durable.master.pages (kept_of reads v.durable) (said_of reads v.durable) v.standing.state q) (sym new)
                  (right-pended false v.durable.master.pages (kept_of reads v.durable) (said_of reads v.durable) v.standing.state v.pool g.right p here still);
            };
        after = λ on.
            (λ i. replica_of reads (record { durable = v.durable; pool = pool; standing = wrote.standing i; following = wrote.following i; leading = wrote.leading i }))
            ∙ waiting v.durable pool (new ∙ ap (λ (q : PoolView). with_frame q p (record (frame q p) { pending = true })) wrote.pool)
            ∙ ap (λ (k : Kept). record (pended (replica_of reads u) p) { kept = k }) (kept_by on);
        answer = λ _. ap No why_is;
        out = λ _. refl;
      })
