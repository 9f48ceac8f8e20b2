use Rattle.std.proofs.Common.{◌≡◌, ◌∙◌, ◌<◌, ap, sym, set, arith, length}
use Rattle.std.proofs.lemmas.List.{length-map, length-set}
use Rattle.ag_pool.specs.Frames.{stripe_of}
use Rattle.ag_pool.specs.Redo.{redone_stripe}
use Rattle.ag_pool.proofs.Pools.{redo-seen}
use Rattle.ag_pool.proofs.pool.Pool.redo.Goals as goal

pub invariant_of-self : goal.invariant_of-self
invariant_of-self c = record {
  low = c.self.invariant.low;
  high = c.self.invariant.high;
  frames = c.redo_all.ensures.count ∙ c.self.invariant.frames;
  stripes = c.self.invariant.stripes;
}

pub invariant_of-self-2 : goal.invariant_of-self-2
invariant_of-self-2 c = record {
  low = c.self.invariant.low;
  high = c.self.invariant.high;
  frames = c.redo_all.ensures.count ∙ c.self.invariant.frames;
  stripes = length-map (set c.self.inside.stripes.items c.from-stripe.result _) stripe_of ∙ length-set c.self.inside.stripes.items c.from-stripe.result _
      ∙ sym (length-map c.self.inside.stripes.items stripe_of) ∙ c.self.invariant.stripes;
}

pub returns-clause-redone : goal.returns-clause-redone
returns-clause-redone c =
    let xs = c.self.inside.stripes.items in
    let k = c.from-stripe.result in
    let long : length xs ≡ 16 = sym (length-map xs stripe_of) ∙ c.self.invariant.stripes in
    let lt : k < length xs = omega (arith, long, c.from-stripe.ensures, c.requires.stripe) in
    redo-seen c.self.inside.pages c.self.inside.frames.items c.redo_all.new.frames.items xs c.args.records.now k c.args.x c.in_ok-end.end c.index.result.now c.index_mut.result.now
    c.from-stripe.ensures lt c.index.ensures c.index_mut.ensures.value c.in_ok-end.ensures.end c.in_ok-end.ensures.redone
    ∙ ap (redone_stripe c.args.x c.args.records.now) c.self.view_is
