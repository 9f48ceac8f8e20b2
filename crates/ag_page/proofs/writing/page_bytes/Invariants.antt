use Rattle.ag_page.specs.Spelling.{header}
use Rattle.ag_page.proofs.Writes.{IsWritten}
use Rattle.ag_page.proofs.writing.page_bytes.Given as goal

abbrev pub invariant-loop-version : goal.invariant-loop-version
invariant-loop-version l = IsWritten (header l.v) l.version-items l.version-index l.at l.bytes
