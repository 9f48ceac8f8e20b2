use Rattle.std.proofs.Common.{◌∙◌, ap, not, ◌&&◌, List}
use Rattle.std.specs.List.{filter}
use Rattle.ag_model.specs.declared.value.Version.{Version}
use Rattle.ag_model.specs.Page.{is_committed_at, is_del}
use Rattle.ag_version.proofs.Removing.{unfollowed, left-is}
use Rattle.ag_version.proofs.trimming.trimmed.Goals as goal

pub returns : goal.returns
returns c =
    let h = c.args.horizon in
    let dels = λ (z : List Version). filter (λ v. not (is_del v.change && is_committed_at h v)) z in
    c.from_vec.ensures ∙ c.remove_deletions.ensures ∙ ap dels (c.remove_followed.ensures ∙ ap (λ (z : List Version). unfollowed h z z) c.into_vec-items.ensures) ∙ left-is h c.args.versions
