use Rattle.std.proofs.Common.{◌∙◌}
use Rattle.ag_page.specs.Image.{image_bytes}
use Rattle.ag_inplace.proofs.Fields.{fields}
use Rattle.ag_inplace.proofs.entries.commit_in.Goals as goal

pub returns : goal.returns
returns c = λ w h. c.u64_in.ensures ∙ (fields (image_bytes c.args.i.now) c.args.at w h).commit
