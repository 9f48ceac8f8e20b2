use Rattle.std.proofs.Common.{not, ◌&&◌, rules, tests}
use Rattle.std.proofs.lemmas.Fn.{filter_same}
use Rattle.ag_model.specs.declared.value.Version.{Version}
use Rattle.ag_model.specs.Page.{is_committed_at, is_del}
use Rattle.ag_version.proofs.trimming.remove_deletions.Goals as goal

pub returns : goal.returns
returns c = filter_same _ (λ (w : Version). not (is_del w.change && is_committed_at c.args.horizon w)) _ (λ x b q k. search (rules, tests)) _ _ c.retain.ensures.filtered
