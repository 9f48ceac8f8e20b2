-- The frames and the LSNs of a pool of which a stripe was redone.
use Rattle.std.proofs.Common.{◌≡◌, ◌≢◌, ℕ, ◌+◌, Bool, true, cond, ◌<◌, ◌&&◌, eqb, ltb, leb, List, length, ap, ◌∙◌, arith}
use Rattle.std.proofs.lemmas.Bool.{eqb-true, false_from_ne_true}
use Rattle.std.proofs.lemmas.List.{length-set, get_or-set_same, get_or-set_other}
use Rattle.ag_model.specs.declared.record.Record.{Record}
use Rattle.ag_model.specs.Rows.{stripe_of}
use Rattle.ag_rules.specs.Replica.{no_stripe}
use Rattle.ag_pool.specs.Passes.{has_frame}
use Rattle.ag_pool.specs.Redo.{redone_by, redone_page, redone_stripe, numbered_after}
use Rattle.ag_pool.specs.View.{PoolView, IsPool, is_page, frame, stripe_at}
use Rattle.ag_pool.proofs.Each.{length-each}
use Rattle.ag_pool.proofs.Passes.{frame-each}

-- each page has a frame
pub page-there : (v : PoolView) (page : ℕ) → IsPool v → is_page v page ≡ true → has_frame v.frames page ≡ true
page-there v page h on = ap (λ (n : ℕ). leb 16 page && ltb page (16 + n)) h.frames ∙ on

pub frame-redone : (x page : ℕ) (records : List Record) (v : PoolView) → IsPool v → is_page v page ≡ true
    → frame (redone_stripe x records v) page ≡ redone_page x v.pages (stripe_at v x).applied records page (frame v page)
frame-redone x page records v h on = frame-each (redone_page x v.pages (stripe_at v x).applied records) v.frames page (page-there v page h on)

pub frame-other : (x page : ℕ) (records : List Record) (v : PoolView) → IsPool v → is_page v page ≡ true → stripe_of page ≢ x → frame (redone_stripe x records v) page ≡ frame v page
frame-other x page records v h on away =
    frame-redone x page records v h on
    ∙ ap (λ (b : Bool). cond b (redone_by v.pages page (numbered_after (stripe_at v x).applied records) (frame v page)) (frame v page))
    (false_from_ne_true (eqb (stripe_of page) x) (λ is. absurd (away (eqb-true (stripe_of page) x is))))

pub pool-redone : (x : ℕ) (records : List Record) (v : PoolView) → IsPool v → IsPool (redone_stripe x records v)
pool-redone x records v h = record {
  low = h.low;
  high = h.high;
  frames = length-each (redone_page x v.pages (stripe_at v x).applied records) 16 v.frames ∙ h.frames;
  stripes = length-set v.stripes x _ ∙ h.stripes;
}

pub lsns-redone : (x : ℕ) (records : List Record) (v : PoolView) → IsPool v → x < 16
    → stripe_at (redone_stripe x records v) x ≡ record (stripe_at v x) { applied = (stripe_at v x).applied + length records }
lsns-redone x records v h few = get_or-set_same v.stripes x _ no_stripe (omega (arith, h.stripes))

pub lsns-other : (x y : ℕ) (records : List Record) (v : PoolView) → y ≢ x → stripe_at (redone_stripe x records v) y ≡ stripe_at v y
lsns-other x y records v away = get_or-set_other v.stripes x y _ no_stripe away
