use Rattle.ag_pages.proofs.Outcomes.{all_clean, other_image, cells_after, image_after, sector_after, durable_after}
use Rattle.ag_pages.proofs.pages.Pages.flush.Goals as goal

pub returns-clause-clean : goal.returns-clause-clean
returns-clause-clean g c = let d = g.D.Disk in
    all_clean d.size d.keeps d.reads d.may_hold d.did c.args.disk.now c.flush_all.new.disk c.args.self.now c.flush_all.new.self c.in_ok-flush_all.ensures.flushed

pub returns-clause-known : goal.returns-clause-known
returns-clause-known g c = λ page own. c.in_ok-flush_all.ensures.flushed.known page

pub returns-clause-cells : goal.returns-clause-cells
returns-clause-cells g c = let d = g.D.Disk in
    cells_after d.size d.keeps d.reads d.may_hold d.did c.args.disk.now c.flush_all.new.disk c.args.self.now c.flush_all.new.self c.in_ok-flush_all.ensures.flushed

pub returns-clause-images : goal.returns-clause-images
returns-clause-images g c = let d = g.D.Disk in
    image_after d.size d.keeps d.reads d.may_hold d.did c.args.disk.now c.flush_all.new.disk c.args.self.now c.flush_all.new.self c.in_ok-flush_all.ensures.flushed

pub returns-clause-other_images : goal.returns-clause-other_images
returns-clause-other_images g c = let d = g.D.Disk in
    other_image d.size d.keeps d.reads d.may_hold d.did c.args.disk.now c.flush_all.new.disk c.args.self.now c.flush_all.new.self c.in_ok-flush_all.ensures.flushed

pub returns-clause-others : goal.returns-clause-others
returns-clause-others g c = let d = g.D.Disk in
    sector_after d.size d.keeps d.reads d.may_hold d.did c.args.disk.now c.flush_all.new.disk c.args.self.now c.flush_all.new.self c.in_ok-flush_all.ensures.flushed

pub returns-clause-durable : goal.returns-clause-durable
returns-clause-durable g c = let d = g.D.Disk in
    durable_after d.size d.keeps d.reads d.may_hold d.did c.args.disk.now c.flush_all.new.disk c.args.self.now c.flush_all.new.self c.in_ok-flush_all.ensures.flushed

pub returns-clause-calls : goal.returns-clause-calls
returns-clause-calls g c = c.in_ok-flush_all.ensures.flushed.calls
