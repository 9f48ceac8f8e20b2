-- Acts that write nothing, and what stays of a replica whose disk was only read.
use Rattle.std.proofs.Common.{◌≡◌, ◌≢◌, ℕ, ◌+◌, ◌-◌, ◌<◌, ◌≤◌, Bool, true, false, List, [], ◌∷◌, map, get_or, set, length, refl, sym, ap, subst, ◌∙◌, inl, inr, arith}
use Rattle.std.proofs.lemmas.List.{get_or-map, map-set}
use Rattle.ag_master.specs.declared.master.Master.{Master as SectorMaster}
use Rattle.ag_outside.specs.Counts.{HasRisen}
use Rattle.ag_outside.specs.Disks.{Image}
use Rattle.ag_outside.specs.Shown.{reads_of}
use Rattle.ag_rules.specs.Replica.{Replica, Kept, Page, page, clean_page, with_page}
use Rattle.ag_rules.specs.Plan.{Part}
use Rattle.ag_pool.specs.declared.frame.Frame.{Frame}
use Rattle.ag_pool.specs.Frames.{mark_of, marks_of, empty_frame}
use Rattle.ag_pool.specs.View.{PoolView, frame, with_frame}
use Rattle.ag_keeping.specs.Keeping.{kept_on}
use Rattle.ag_writes.specs.Performing.{Reached, after_batches}
use Rattle.ag_durable.specs.Views.{DurableView, kept_of, reached_of, came_so}
use Rattle.ag_durable.specs.Fetched.{OnlyFetches}
use Rattle.ag_durable.specs.declared.progress.Progress.{Progress}
use Rattle.ag_law_pages.specs.Images.{IsDataPage}
use Rattle.ag_law_pages.specs.Right.{IsRightDisk}
use Rattle.ag_replica.specs.declared.up.Up.{Up}
use Rattle.ag_replica.specs.declared.done.Done.{Done}
use Rattle.ag_replica.specs.Ups.{IsUp, replica_of, said_of}
use Rattle.ag_replica.specs.Reading.{OnlyReads}
use Rattle.ag_replica.specs.Doing.{Does, postings}
use Rattle.ag_replica.proofs.ReadIn.{fetched-right}

module _ {D : Type 0} (reads : D → Image) where
  -- what the disk keeps where it was only read
  pub fetched-kept : (a b : DurableView D) → OnlyFetches reads a b → kept_of reads b ≡ kept_of reads a
  fetched-kept a b f = ap (λ (m : SectorMaster). kept_on m.pages (reads_of reads b.disk)) f.master ∙ ap (kept_on a.master.pages) f.content

  -- how far the event came where the disk was only read
  pub fetched-reached : (a b : DurableView D) → OnlyFetches reads a b → reached_of reads b ≡ reached_of reads a
  fetched-reached a b f = ap (λ (p : Progress). came_so p.came p (kept_of reads b)) f.progress ∙ ap (came_so a.progress.came a.progress) (fetched-kept a b f)

  -- reading pages in leaves the replica
  pub read-replica : (u v : Up D) → OnlyReads reads u v → replica_of reads v ≡ replica_of reads u
  read-replica u v r = λ i. record {
    up = true;
    cut_off = (r.standing i).cut_off;
    leads = (r.standing i).leads;
    term = (r.standing i).term;
    state = (r.standing i).state;
    kept = fetched-kept u.durable v.durable r.durable i;
    pages = r.marks i;
    stripes = r.stripes i;
    following = r.following i;
    leading = r.leading i;
  }

  -- how a page stands, as the rules see it
  pub mark-at : (ahead : Bool) (u : Up D) (p : ℕ) → IsUp reads ahead u → IsDataPage u.durable.master.pages p → page (replica_of reads u) p ≡ mark_of (frame u.pool p)
  mark-at ahead u p h is = get_or-map mark_of u.pool.frames (p - 16) empty_frame clean_page (omega (arith, h.right.whole.frames, h.right.count, is.0, is.1))

  -- the replica with another frame of a page
  pub framed-replica : (u : Up D) (p : ℕ) (f : Frame) → replica_of reads (record { durable = u.durable; pool = with_frame u.pool p f; standing = u.standing; following = u.following; leading = u.leading })
      ≡ with_page (replica_of reads u) p (mark_of f)
  framed-replica u p f = ap (λ (ps : List Page). record (replica_of reads u) { pages = ps }) (map-set mark_of u.pool.frames (p - 16) f)

  -- what holds of a replica whose disk was only read
  pub fetched-up : (ahead : Bool) (u : Up D) (w : DurableView D) → OnlyFetches reads u.durable w → IsUp reads ahead u → IsUp reads ahead (record { durable = w; pool = u.pool; standing = u.standing; following = u.following; leading = u.leading })
  fetched-up ahead u w f h = record {
    underway = ap (λ (p : Progress). p.came) f.progress ∙ h.underway;
    right = fetched-right reads ahead u.durable w u.standing.state u.pool f h.right;
  }

  -- how a page stands stays as pages are read in
  pub read-mark : (u v : Up D) (p : ℕ) → OnlyReads reads u v → IsUp reads false u → IsDataPage u.durable.master.pages p → mark_of (frame v.pool p) ≡ mark_of (frame u.pool p)
  read-mark u v p r h is =
      sym (mark-at false v p (r.up false h) (subst (λ (n : ℕ). IsDataPage n p) (ap (λ (m : SectorMaster). m.pages) (sym r.durable.master)) is))
      ∙ ap (λ (x : Replica). page x p) (read-replica u v r)
      ∙ mark-at false u p h is

  -- what is done after pages were read in
  pub does-after : (u w v : Up D) (part : Part) (done : Done) → OnlyReads reads u w → Does reads w part v done → Does reads u part v done
  does-after u w v part done r d =
      let same : w.durable.master.pages ≡ u.durable.master.pages = ap (λ (m : SectorMaster). m.pages) r.durable.master in
      record {
        reached = d.reached ∙ ap (λ (x : Reached). after_batches x part.writes) (fetched-reached u.durable w.durable r.durable);
        pages = d.pages ∙ same;
        disk = λ known. subst (λ (n : ℕ). IsRightDisk n (kept_of reads v.durable) (said_of reads v.durable)) same (d.disk known);
        right = d.right;
        after = d.after;
        answer = d.answer;
        out = d.out;
      }

  -- a part that writes nothing is done
  pub quiet-does : (u v : Up D) (part : Part) (done : Done) → part.writes ≡ [] → reached_of reads v.durable ≡ reached_of reads u.durable → v.durable.master.pages ≡ u.durable.master.pages → IsUp reads false v
      → replica_of reads v ≡ part.after → done.answer ≡ part.answer → postings done.out ≡ part.out → Does reads u part v done
  quiet-does u v part done none reached pages h after answer out = record {
    reached = reached ∙ ap (after_batches (reached_of reads u.durable)) (sym none);
    pages = pages;
    disk = λ _. subst (λ (n : ℕ). IsRightDisk n (kept_of reads v.durable) (said_of reads v.durable)) pages h.right.disk;
    right = λ _. h;
    after = λ _. after;
    answer = λ _. answer;
    out = λ _. out;
  }

  -- a part that writes nothing is done where pages were read in alone
  pub read-does : (u v : Up D) (part : Part) (done : Done) → part.writes ≡ [] → IsUp reads false u → OnlyReads reads u v → part.after ≡ replica_of reads u → done.answer ≡ part.answer → postings done.out ≡ part.out
      → Does reads u part v done
  read-does u v part done none h r after answer out =
      quiet-does u v part done none (fetched-reached u.durable v.durable r.durable) (ap (λ (m : SectorMaster). m.pages) r.durable.master) (r.up false h) (read-replica u v r ∙ sym after) answer out

  -- nothing changes at all
  pub same-reads : (u : Up D) → OnlyReads reads u u
  same-reads u = record {
    durable = record { content = refl; log = refl; master = refl; suspects = refl; appends = refl; progress = refl };
    count = refl;
    marks = refl;
    stripes = refl;
    values = λ p v e. e;
    standing = refl;
    following = refl;
    leading = refl;
    up = λ ahead h. h;
  }

-- a count that has risen has risen since before
pub risen_since : (a b c : ℕ) → a ≤ b → HasRisen b c → HasRisen a c
risen_since a b c le (inl lt) = inl (omega (arith, le, lt))
risen_since a b c le (inr top) = inr top
