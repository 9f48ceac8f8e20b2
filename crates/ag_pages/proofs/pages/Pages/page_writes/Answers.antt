use Rattle.std.proofs.Common.{◌≡◌, ◌<◌, ◌≤◌, length, get_or, subst, ◌∙◌, arith}
use Rattle.std.proofs.lemmas.List.{length-set}
use Rattle.ag_lists.proofs.Each.{all_at}
use Rattle.ag_pagestore.specs.Batches.{IsWhole}
use Rattle.ag_stripe.specs.Known.{Told}
use Rattle.ag_pages.specs.Reading.{OnlyReadsIn}
use Rattle.ag_pages.specs.Views.{told_by}
use Rattle.ag_pages.specs.Flush.{IsToWrite}
use Rattle.ag_pages.proofs.Batches.{read_both}
use Rattle.ag_pages.proofs.Underway.{reads_then, told_same, to_write_still, writes_more, whole_more, fit_more}
use Rattle.ag_pages.proofs.pages.Pages.page_writes.Goals as goal

pub page_write-requires-clause-page : goal.page_write-requires-clause-page
page_write-requires-clause-page g c =
    let d = g.D.Disk in
    let pages = c.args.pages.now in
    let i = c.loop-i.i in
    let a = c.args.self.now in
    to_write_still (told_by d.keeps d.reads c.args.disk.now) a c.loop-i.self (get_or pages i 0) c.loop-i.invariant.reads (all_at (IsToWrite a) pages i 0 c.requires.each (omega arith))

pub returns-in_err-write-clause-disk : goal.returns-in_err-write-clause-disk
returns-in_err-write-clause-disk g c =
    let d = g.D.Disk in
    read_both d.size d.keeps d.reads d.may_hold d.did c.args.disk.now c.loop-i.disk c.page_write.new.disk c.loop-i.invariant.disk c.page_write.ensures.disk

pub loop-i-preserved : goal.loop-i-preserved
loop-i-preserved g c =
    let d = g.D.Disk in
    let pages = c.args.pages.now in
    let i = c.loop-i.i in
    let lt : i < length pages = omega arith in
    let a = c.args.self.now in
    let b = c.loop-i.self in
    let inv = c.loop-i.invariant in
    let told = told_by d.keeps d.reads c.args.disk.now in
    let same = told_same (d.keeps c.args.disk.now) (d.keeps c.loop-i.disk) (d.reads c.args.disk.now) (d.reads c.loop-i.disk) inv.disk.keeping inv.disk.content in
    let w = all_at (IsToWrite a) pages i 0 c.requires.each lt in
    let did = c.page_write.ensures in
    let ok = c.in_ok-write.ensures in
    record {
      reads = reads_then told a b c.page_write.new.self inv.reads (subst (λ (t : Told). OnlyReadsIn t b c.page_write.new.self) same did.reads);
      disk = read_both d.size d.keeps d.reads d.may_hold d.did c.args.disk.now c.loop-i.disk c.page_write.new.disk inv.disk did.disk;
      long = length-set c.loop-i.writes i c.in_ok-write.write ∙ inv.long;
      writes = writes_more told a b inv.reads pages i 0 lt w c.loop-i.writes c.in_ok-write.write (let few : length pages ≤ 8 = c.requires.few in let long : length c.loop-i.writes ≡ 8 = inv.long in omega (arith, lt, few, long)) inv.writes ok.write;
      whole = whole_more told a b inv.reads pages i 0 lt w inv.whole (subst IsWhole ok.write ok.whole);
      fit = fit_more told a b inv.reads pages i 0 lt w inv.fit ok.fit;
      later = omega (arith, inv.later, did.later);
    }
