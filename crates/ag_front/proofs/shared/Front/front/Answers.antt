use Rattle.std.proofs.Common.{rules, ◌≡◌, ℕ, ◌+◌, ◌∙◌, subst, arith, min}
use Rattle.ag_front.proofs.Keeps.{loads}
use Rattle.ag_front.specs.Passes.{Loading}
use Rattle.ag_front.proofs.Loads.{loading_first, loading_next, least_is, least_rises}
use Rattle.ag_front.proofs.shared.Front.front.Goals as goal

pub load-low-requires : goal.load-low-requires
load-low-requires g c = (c.requires.own, search rules, loads _ _ _ _ _ 0 (search rules) c.args.pass.now.some_part)

pub loop-k-init : goal.loop-k-init
loop-k-init g c = let e = c.load-low.ensures in let m = e.2 in record {
  table = e.0;
  same = e.1;
  free = (λ i. (m.0 i).1) ∙ c.args.pass.now.free.0;
  loading = loading_first c.args.pass.now.seat.me.0 c.load-low.new.seat.me.0 c.load-low.result (λ i. (m.0 i).0) m.1 m.2;
}

pub load-word-requires : goal.load-word-requires
load-word-requires g c = let inv = c.loop-k.invariant in let p = c.args.pass.now.some_part in let wide = c.args.self.now.sized.0 in
    let same : c.loop-k.seat.me.0.parts ≡ c.args.pass.now.seat.me.0.parts = λ i. (inv.loading.only i).parts in
    let t = c.loop-k-test.true in
    (inv.table ∙ c.requires.own, omega arith, loads _ _ _ _ _ c.loop-k.k (omega arith) (omega arith))

pub loop-k-preserved : goal.loop-k-preserved
loop-k-preserved g c = let inv = c.loop-k.invariant in let e = c.load-word.ensures in let m = e.2 in let t = c.loop-k-test.true in
    let low : min c.loop-k.low c.load-word.result ≡ c.min-low.result = search rules in record {
      table = e.0 ∙ inv.table;
      same = e.1 ∙ inv.same;
      free = (λ i. (m.0 i).1) ∙ inv.free;
      loading = subst (λ (n : ℕ). Loading (c.loop-k.k + 1) n c.args.pass.now.seat.me.0 c.load-word.new.seat.me.0) low
          (loading_next c.loop-k.k c.loop-k.low c.load-word.result c.args.pass.now.seat.me.0 c.loop-k.seat.me.0 c.load-word.new.seat.me.0 (omega arith) inv.loading (λ i. (m.0 i).0) m.1 m.2);
    }

pub returns-clause-least : goal.returns-clause-least
returns-clause-least g c = let inv = c.loop-k.invariant in let size = inv.loading.sound.sized.floor_size in least_is c.loop-k.low c.loop-k.seat.me.0.floor c.loop-k.k (let z : c.loop-k.k ≡ 16 = search rules in omega arith) inv.loading.least

pub returns-clause-seen_before : goal.returns-clause-seen_before
returns-clause-seen_before g c = let inv = c.loop-k.invariant in let size = inv.loading.sound.sized.floor_size in
    let z : c.loop-k.k ≡ 16 = search rules in
    let a = least_is c.loop-k.low c.loop-k.seat.me.0.floor c.loop-k.k (omega arith) inv.loading.least in
    let b = least_rises c.args.pass.now.seat.me.0.floor c.loop-k.seat.me.0.floor inv.loading.old_size size inv.loading.no_lower in omega arith
