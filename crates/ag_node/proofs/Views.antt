-- The replica that is seen of a node, and what holds whether a call answers or not.
use Rattle.std.proofs.Common.{◌≡◌, ap}
use Rattle.std.specs.Prelude.{Result, Ok, Err, OnOk}
use Rattle.ag_node.specs.Seen.{NodeView}

pub replica_is : {v w : NodeView} → v ≡ w → v.replica ≡ w.replica
replica_is e = ap (λ (x : NodeView). x.replica) e

pub on_ok : {A E : Type 0} {P : Type 0} (r : Result A E) → P → OnOk r P
on_ok (Ok a) p = p
on_ok (Err e) p = tt
