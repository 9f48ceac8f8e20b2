use Rattle.ag_page.specs.Image.{image_bytes}
use Rattle.ag_inplace.proofs.Fields.{value-read}
use Rattle.ag_inplace.proofs.entries.value_in.Goals as goal

pub returns : goal.returns
returns c = value-read c.args.len c.args.at (image_bytes c.args.i.now) c.read_part.new.out c.requires.whole c.requires.room c.requires.short c.read_part.ensures
