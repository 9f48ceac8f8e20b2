use Rattle.std.proofs.Common.{refl}
use Rattle.ag_page.specs.Spelling.{page_bytes}
use Rattle.ag_page.proofs.Pages.{page_bytes-once, length-page_bytes, page_bytes-zeros}
use Rattle.ag_page.proofs.Sectors.{image_bytes-image, marks-image}
use Rattle.ag_page.proofs.laws.images.Goals as goal

pub returns-clause-apart : goal.returns-clause-apart
returns-clause-apart c = page_bytes-once

pub returns-clause-size : goal.returns-clause-size
returns-clause-size c = length-page_bytes

pub returns-clause-bytes : goal.returns-clause-bytes
returns-clause-bytes c = image_bytes-image

pub returns-clause-marks : goal.returns-clause-marks
returns-clause-marks c = marks-image

pub returns-clause-zeros : goal.returns-clause-zeros
unfolding page_bytes
returns-clause-zeros c = page_bytes-zeros 8144 refl
