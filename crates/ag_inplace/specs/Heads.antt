-- What of a version decides whether a Trim leaves it.
use Rattle.ag_model.specs.declared.value.Version.{Version}
use Rattle.ag_model.specs.Page.{is_del}
use Rattle.ag_inplace.specs.declared.trimming.Head.{Head}

-- a version without its value and its transaction
abbrev pub head_of : Version → Head
head_of w = record { lsn = w.lsn; commit = w.commit; key = w.key; is_del = is_del w.change }
