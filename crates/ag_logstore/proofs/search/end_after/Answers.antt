use Rattle.std.proofs.Common.{sym, subst}
use Rattle.ag_logstore.proofs.LogEnds.{IsAfter, after_found, after_missed, end_some, end_none}
use Rattle.ag_logstore.proofs.search.end_after.Goals as goal
use Rattle.ag_logstore.proofs.search.end_after.Goals.{in-Ok, in-Err}

pub returns-in-Some : goal.returns-in-Some
returns-in-Some c =
    let after : IsAfter c.args.lsn c.args.ends.now c.match-binary_search.place = elim c.match-binary_search.branch [
      | in-Ok w ↦ subst (IsAfter c.args.lsn c.args.ends.now) (sym w.place-is) (after_found c.args.ends.now c.args.lsn w.in-Ok.place c.requires w.in-Ok.ensures.position)
      | in-Err w ↦ subst (IsAfter c.args.lsn c.args.ends.now) (sym w.place-is) (after_missed c.args.ends.now c.args.lsn w.in-Err.place c.requires w.in-Err.ensures.position)
    ] in
    end_some c.args.ends.now c.args.lsn c.match-binary_search.place c.get.result c.in-Some.end after c.get.ensures.lookup.3 c.in-Some.is

pub returns-in-None : goal.returns-in-None
returns-in-None c =
    let after : IsAfter c.args.lsn c.args.ends.now c.match-binary_search.place = elim c.match-binary_search.branch [
      | in-Ok w ↦ subst (IsAfter c.args.lsn c.args.ends.now) (sym w.place-is) (after_found c.args.ends.now c.args.lsn w.in-Ok.place c.requires w.in-Ok.ensures.position)
      | in-Err w ↦ subst (IsAfter c.args.lsn c.args.ends.now) (sym w.place-is) (after_missed c.args.ends.now c.args.lsn w.in-Err.place c.requires w.in-Err.ensures.position)
    ] in
    end_none c.args.ends.now c.args.lsn c.match-binary_search.place c.get.result after c.get.ensures.lookup.3 c.in-None.is
