use Rattle.std.proofs.Common.{◌≡◌, length, vec_len}
use Rattle.std.specs.List.{AllByRecursion}
use Rattle.ag_txn.specs.Fresh.{IsPage, kept_all}
use Rattle.ag_txn.specs.declared.copies.FreshCopy.{FreshCopy}
use Rattle.ag_txn.proofs.copies.PageCopies.keep_all.Given as goal

abbrev pub invariant-loop-next : goal.invariant-loop-next
invariant-loop-next l = record {
  pages : AllByRecursion (λ (f : FreshCopy). IsPage (length l.self) f.page) l.left.items;
  rest : kept_all l.left.items l.self ≡ kept_all l.initial.left.items l.initial.self;
}

abbrev pub decreases-loop-next : goal.decreases-loop-next
decreases-loop-next l = vec_len l.left
