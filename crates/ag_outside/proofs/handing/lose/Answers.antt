use Rattle.std.proofs.Common.{[], ◌++◌, List, nat_eq, sym, ap, subst, ◌∙◌}
use Rattle.std.specs.Map.{lookup}
use Rattle.ag_outside.specs.declared.disk.SectorWrite.{SectorWrite}
use Rattle.ag_outside.specs.Disks.{put_all, MayAdd}
use Rattle.ag_outside.specs.Scripts.{InRange, may_show, shown, fillers, marked, unless_written}
use Rattle.ag_outside.proofs.Flushed.{reordered-shown, reordered-adds, reordered-lost, kept-adds, only-adds, adds-only, in_range-append, in_range-fillers}
use Rattle.ag_outside.proofs.Losing.{lose-shown, lose-as_written, marked-over, on_err}
use Rattle.ag_outside.proofs.handing.lose.Goals as goal

pub flush-requires : goal.flush-requires
flush-requires g c =
    let size = g.D.Disk.size c.args.disk.now in
    subst (InRange size) (sym c.in_ok-add_fillers.ensures.ok) (in_range-append size c.args.unsynced.now.items (fillers c.args.first 18 c.args.count) c.requires.in_range (in_range-fillers size c.args.first 18 c.args.count c.requires.place))

pub returns-in_err-flush-clause-in_range : goal.returns-in_err-flush-clause-in_range
returns-in_err-flush-clause-in_range g c =
    let size = g.D.Disk.size c.args.disk.now in
    let before = in_range-append size c.args.unsynced.now.items (fillers c.args.first 18 c.args.count) c.requires.in_range (in_range-fillers size c.args.first 18 c.args.count c.requires.place) in
    rw (c.flush.ensures.size) (subst (InRange size) (sym (c.in_err-flush.ensures.same_unsynced ∙ c.in_ok-add_fillers.ensures.ok)) before)

pub returns-in_err-flush-clause-crash : goal.returns-in_err-flush-clause-crash
returns-in_err-flush-clause-crash g c =
    let d = c.args.disk.now in
    let e = c.flush.new.disk in
    let k = g.D.Disk.keeps d in
    let hold = g.D.Disk.may_hold d in
    let fill = fillers c.args.first 18 c.args.count in
    let kept = c.args.unsynced.now.items in
    let lost = c.args.lost.now.entries in
    let moved = c.reserve.new.self.entries in
    let after = may_show (g.D.Disk.keeps e) (g.D.Disk.may_hold e) c.flush.new.lost.entries c.flush.new.unsynced.items in
    let reorder = reordered-adds lost moved c.reserve.ensures.entries.2 k hold kept in
    let down = subst (λ (ws : List SectorWrite). MayAdd [] (may_show k hold moved ws) after) c.in_ok-add_fillers.ensures.ok c.flush.ensures.crash in
    on_err c.from_residual-in_err-flush.result (MayAdd fill (may_show k hold lost kept) after) (only-adds fill (may_show k hold lost kept) (may_show k hold moved (kept ++ fill)) after (adds-only fill (may_show k hold lost kept) (may_show k hold moved kept) (may_show k hold moved (kept ++ fill)) reorder (kept-adds k hold moved kept fill)) down)

pub returns-clause-lost : goal.returns-clause-lost
returns-clause-lost g c =
    let d = c.args.disk.now in
    let e = c.flush.new.disk in
    let fill = fillers c.args.first 18 c.args.count in
    let kept = c.args.unsynced.now.items in
    λ k was. lose-as_written c.args.first c.args.count (g.D.Disk.reads d) (g.D.Disk.reads e) c.args.lost.now.entries c.flush.new.lost.entries c.mark_lost.new.lost.entries kept c.mark_lost.ensures
    (c.in_ok-flush.ensures.below k ∙ ap (put_all (g.D.Disk.reads d)) c.in_ok-add_fillers.ensures.ok)
    (c.in_ok-flush.ensures.lost k (reordered-lost c.args.lost.now.entries c.reserve.new.self.entries c.reserve.ensures.entries.2 (g.D.Disk.reads d) was))

pub returns-clause-shown : goal.returns-clause-shown
returns-clause-shown g c =
    let d = c.args.disk.now in
    let e = c.flush.new.disk in
    let fill = fillers c.args.first 18 c.args.count in
    let kept = c.args.unsynced.now.items in
    let moved = c.reserve.new.self.entries in
    λ k. lose-shown c.args.first c.args.count (g.D.Disk.reads d) (g.D.Disk.reads e) c.args.lost.now.entries c.flush.new.lost.entries c.mark_lost.new.lost.entries kept c.mark_lost.ensures
    (c.in_ok-flush.ensures.shown k ∙ ap (shown (g.D.Disk.reads d) moved) c.in_ok-add_fillers.ensures.ok ∙ reordered-shown c.args.lost.now.entries moved c.reserve.ensures.entries.2 (g.D.Disk.reads d) (kept ++ fill))

pub returns-clause-below : goal.returns-clause-below
returns-clause-below g c = λ k. c.in_ok-flush.ensures.below k ∙ ap (put_all (g.D.Disk.reads c.args.disk.now)) c.in_ok-add_fillers.ensures.ok

pub returns-clause-marks : goal.returns-clause-marks
returns-clause-marks g c =
    let fill = fillers c.args.first 18 c.args.count in
    let kept = c.args.unsynced.now.items in
    let lost = c.args.lost.now.entries in
    let moved = c.reserve.new.self.entries in
    λ at. c.mark_lost.ensures at
    ∙ ap (marked c.args.first 18 c.args.count at) (c.in_ok-flush.ensures.marks at ∙ ap (λ ws. unless_written ws at (lookup (nat_eq at) moved)) c.in_ok-add_fillers.ensures.ok ∙ ap (unless_written (kept ++ fill) at) (c.reserve.ensures.entries.2 at))
    ∙ marked-over c.args.first c.args.count kept at (lookup (nat_eq at) lost)
