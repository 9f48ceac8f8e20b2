use Rattle.std.proofs.Common.{◌≡◌, ◌≤◌, ◌+◌, ◌∙◌, ℕ, List, length, drop, sym, ap, subst, arith}
use Rattle.std.specs.List.{All, fold}
use Rattle.std.proofs.lemmas.List.{drop_all, drop_more, with_items_is}
use Rattle.ag_node.specs.Room.{used_by}
use Rattle.ag_node.proofs.room.used_in.Goals as goal

pub count-requires-clause-each_page : goal.count-requires-clause-each_page
count-requires-clause-each_page c = ap length c.as_mut_slice.ensures.value ∙ c.loop-entry.invariant.each

pub count-requires-clause-small : goal.count-requires-clause-small
count-requires-clause-small c = subst (All (λ bytes. bytes ≤ 8144)) (sym c.as_mut_slice.ensures.value) c.loop-entry.invariant.small

pub loop-entry-preserved : goal.loop-entry-preserved
loop-entry-preserved c =
    let k = c.loop-entry.entry-index in
    let long : length c.count.new.used ≡ c.loop-entry.used.len = omega (arith, c.count.auto.used, c.as_mut_slice.ensures.len) in
    let items = with_items_is c.loop-entry.used c.count.new.used long in
    let counted = c.in_ok-count.ensures.ok ∙ (λ i. used_by c.args.pages (c.as_mut_slice.ensures.value i) (c.entry-item.is i)) in
    record {
      rest = ap (λ (us : List ℕ). fold (used_by c.args.pages) us (drop (k + 1) c.args.log.now)) (items ∙ counted)
          ∙ ap (fold (used_by c.args.pages) c.loop-entry.used.items) (sym (drop_more c.args.log.now k c.entry-item.result c.loop-entry-test.true))
          ∙ c.loop-entry.invariant.rest;
      small = subst (All (λ bytes. bytes ≤ 8144)) (sym items) c.in_ok-count.ensures.small;
      each = ap length items ∙ c.count.auto.used ∙ ap length c.as_mut_slice.ensures.value ∙ c.loop-entry.invariant.each;
    }

pub returns-clause-used : goal.returns-clause-used
returns-clause-used c =
    ap (fold (used_by c.args.pages) c.loop-entry.used.items) (sym (drop_all c.loop-entry.entry-index c.args.log.now c.loop-entry-test.false))
    ∙ c.loop-entry.invariant.rest

pub returns-clause-small : goal.returns-clause-small
returns-clause-small c = c.loop-entry.invariant.small
