use Rattle.std.proofs.Common.{ℕ, subst, sym, ◌∙◌}
use Rattle.std.specs.List.{AllByRecursion}
use Rattle.ag_lists.proofs.Each.{all_left}
use Rattle.ag_txn.specs.Fresh.{IsPage}
use Rattle.ag_txn.specs.declared.copies.FreshCopy.{FreshCopy}
use Rattle.ag_txn.proofs.Copied.{kept_more, kept_long}
use Rattle.ag_txn.proofs.copies.PageCopies.keep_all.Goals as goal

pub loop-next-preserved : goal.loop-next-preserved
loop-next-preserved c =
    let next = c.in-Some.next in
    let split = c.in-Some.ensures.items in
    let InRange : ℕ → FreshCopy → Type 0 = λ n f. IsPage n f.page in
    record {
      pages = subst (λ (n : ℕ). AllByRecursion (InRange n) c.pop.new.self.items) (sym (kept_long next c.loop-next.self c.keep.new.self c.keep.ensures))
          (all_left (InRange _) c.pop.new.self.items _ (subst (AllByRecursion (InRange _)) split c.loop-next.invariant.pages));
      rest = kept_more c.loop-next.left.items c.pop.new.self.items next c.loop-next.self c.keep.new.self split c.keep.ensures ∙ c.loop-next.invariant.rest;
    }
