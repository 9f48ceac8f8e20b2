use Rattle.ag_inplace.proofs.Sectors.{written-is, marks-stay}
use Rattle.ag_inplace.proofs.parts.write_in_sector.Goals as goal

pub returns-clause-bytes : goal.returns-clause-bytes
returns-clause-bytes c = written-is c.args.i.now c.args.at c.args.part.now _ c.told-i c.requires.whole c.requires.place c.requires.short c.write_at.ensures

pub returns-clause-marks : goal.returns-clause-marks
returns-clause-marks c = marks-stay c.args.i.now c.args.at c.args.part.now _ c.told-i c.requires.whole c.requires.place c.requires.short c.write_at.ensures
