-- What stays right as the log grows, and as the master and the suspect rows change.
use Rattle.std.proofs.Common.{ℕ, ◌≤◌, Bool, true, false, arith}
use Rattle.ag_model.specs.declared.record.Log.{Log}
use Rattle.ag_model.specs.Prefixes.{end_of, IsPrefix}
use Rattle.ag_model.specs.Proper.{IsProper}
use Rattle.ag_model.specs.Rows.{stripe_of}
use Rattle.ag_model.proofs.Prefixes.{prefix_length}
use Rattle.ag_rules.specs.Replica.{Kept}
use Rattle.ag_stripe.specs.Known.{Known}
use Rattle.ag_stripe.specs.Spelled.{AreSpelled}
use Rattle.ag_pool.specs.declared.frame.Frame.{Frame}
use Rattle.ag_pool.specs.View.{PoolView, stripe_at, frame}
use Rattle.ag_law_pages.specs.Right.{IsRightDisk, IsRightPage, IsRight, reach}
use Rattle.ag_law_pages.proofs.Values.{longer-value, longer-redo, wider-value}

-- what is kept, with a longer log
abbrev pub with_log : Kept → Log → Kept
with_log k log = record k { log = log }

-- a disk whose log grows
pub grown-disk : (pages : ℕ) (k : Kept) (said : ℕ → Known) (longer : Log) → IsPrefix k.log longer → IsProper pages longer → AreSpelled longer.records → IsRightDisk pages k said → IsRightDisk pages (with_log k longer) said
grown-disk pages k said longer p proper spelled d = record {
  proper = proper;
  spelled = spelled;
  redo = omega (arith, d.redo, prefix_length k.log longer p);
  settled = d.settled;
  images = λ page is own. longer-redo pages k.master.redo_start page (said page) k.log longer p d.redo (d.images page is own);
}

-- how far a page may be ahead of a longer log
reach-longer : (ahead : Bool) (k : Kept) (longer : Log) (applied : ℕ) → IsPrefix k.log longer → reach ahead k applied ≤ reach ahead (with_log k longer) applied
reach-longer true k longer applied p = prefix_length k.log longer p
reach-longer false k longer applied p = omega arith

reach-within : (ahead : Bool) (k : Kept) (applied : ℕ) → applied ≤ end_of k.log → reach ahead k applied ≤ end_of k.log
reach-within true k applied le = omega arith
reach-within false k applied le = le

-- what memory has of a page of a log that grows
grown-page : (ahead : Bool) (pages : ℕ) (k : Kept) (said : ℕ → Known) (state applied page : ℕ) (f : Frame) (longer : Log) → IsPrefix k.log longer → applied ≤ end_of k.log
    → IsRightPage ahead pages k said state applied page f → IsRightPage ahead pages (with_log k longer) said state applied page f
grown-page ahead pages k said state applied page f longer p le r =
    let wide = reach-longer ahead k longer applied p in
    let within = reach-within ahead k applied le in
    record {
      shown = λ is. let s = r.shown is in record {
        kept = λ v e. wider-value pages applied (reach ahead k applied) (reach ahead (with_log k longer) applied) page _ longer.records wide
            (longer-value pages applied (reach ahead k applied) page _ k.log longer p within (s.kept v e));
        clean = λ e. wider-value pages applied (reach ahead k applied) (reach ahead (with_log k longer) applied) page (said page) longer.records wide
            (longer-value pages applied (reach ahead k applied) page (said page) k.log longer p within (s.clean e));
        read = s.read;
      };
      hidden = r.hidden;
      pending = r.pending;
      held = r.held;
    }

-- a replica whose log grows
pub grown : (ahead : Bool) (pages : ℕ) (k : Kept) (said : ℕ → Known) (state : ℕ) (pool : PoolView) (longer : Log) → IsPrefix k.log longer → IsProper pages longer → AreSpelled longer.records
    → IsRight ahead pages k said state pool → IsRight ahead pages (with_log k longer) said state pool
grown ahead pages k said state pool longer p proper spelled r = record {
  disk = grown-disk pages k said longer p proper spelled r.disk;
  whole = r.whole;
  count = r.count;
  kept_state = r.kept_state;
  low = r.low;
  high = λ x lt. omega (arith, r.high x lt, prefix_length k.log longer p);
  reverting = r.reverting;
  each = λ page is. grown-page ahead pages k said state (stripe_at pool (stripe_of page)).applied page (frame pool page) longer p (r.high (stripe_of page) (omega arith)) (r.each page is);
}
