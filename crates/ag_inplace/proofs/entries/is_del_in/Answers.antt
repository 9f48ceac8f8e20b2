use Rattle.std.proofs.Common.{◌∙◌}
use Rattle.ag_page.specs.Image.{image_bytes}
use Rattle.ag_inplace.proofs.Fields.{fields, is_del-len}
use Rattle.ag_inplace.proofs.entries.is_del_in.Goals as goal

pub returns : goal.returns
returns c = λ w h. is_del-len w.change c.u16_in.result h.spelled (c.u16_in.ensures ∙ (fields (image_bytes c.args.i.now) c.args.at w h).len)
