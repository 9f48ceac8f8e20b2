use Rattle.std.proofs.Common.{◌≡◌, ◌∙◌, sym, ap, true, List, rules}
use Rattle.ag_model.specs.declared.value.Version.{Version}
use Rattle.ag_version.specs.Trimming.{is_followed}
use Rattle.ag_version.proofs.Removing.{removes_go}
use Rattle.ag_version.proofs.trimming.remove_followed.Goals as goal

pub loop-i-preserved-then-is_followed : goal.loop-i-preserved-then-is_followed
loop-i-preserved-then-is_followed c =
    let now = c.loop-i.items.items in
    let x = c.index.result.now in
    let hit : is_followed c.args.horizon now x ≡ true = ap (λ (z : List Version). is_followed c.args.horizon z x) (sym c.deref.ensures.value) ∙ sym c.is_followed.ensures ∙ c.if-is_followed.true in
    removes_go c.args.horizon c.args.items.now.items now c.remove.new.self.items c.loop-i.i x (search rules) c.index.ensures hit c.remove.ensures.items c.loop-i.invariant
