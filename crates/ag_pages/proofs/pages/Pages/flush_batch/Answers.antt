use Rattle.std.proofs.Common.{[], List, refl, sym, ap, subst, ◌∙◌, inl, inr, Err}
use Rattle.std.proofs.lemmas.Result.{err_from_is_err_and}
use Rattle.ag_outside.specs.Calls.{FailsOnTheWay}
use Rattle.ag_pagestore.specs.declared.batch.PageWrite.{PageWrite}
use Rattle.ag_pagestore.specs.Batches.{IsBatch, IsWritten, pieces}
use Rattle.ag_pages.specs.declared.flush.FlushFault.{FlushFault}
use Rattle.ag_pages.specs.Views.{slot}
use Rattle.ag_pages.specs.Flush.{TookBatch, page_writes}
use Rattle.ag_pages.proofs.Batches.{read_itself}
use Rattle.ag_pages.proofs.Flushing.{flushed_one}
use Rattle.ag_pages.proofs.Underway.{are_batch, are_pages}
use Rattle.ag_pages.proofs.pages.Pages.flush_batch.Goals as goal

-- the disk was read, and failed before anything was written
pub returns-in_err-page_writes-clause-broken : goal.returns-in_err-page_writes-clause-broken
returns-in_err-page_writes-clause-broken g c = let d = g.D.Disk in λ is. record {
  before = [];
  at = page_writes (slot c.args.self.now) c.args.pages.now;
  after = [];
  all = refl;
  mid = c.args.disk.now;
  took = read_itself d.size d.keeps d.reads d.may_hold d.did c.args.disk.now;
  failed = inr c.page_writes.ensures.disk;
}

pub write_all-requires-clause-batch : goal.write_all-requires-clause-batch
write_all-requires-clause-batch g c = subst IsBatch (sym c.in_ok-page_writes.ensures.writes) (are_batch c.args.self.now c.args.pages.now c.requires.batch)

pub returns-in_err-write_all-clause-broken : goal.returns-in_err-write_all-clause-broken
returns-in_err-write_all-clause-broken g c = let d = g.D.Disk in λ is.
    let mid = c.page_writes.new.disk in
    let p = err_from_is_err_and c.from_residual-in_err-write_all.result c.from_residual-in_err-write_all.ensures.1 in
    let broke = c.write_all.ensures.broken (c.in_err-write_all.was ∙ ap (λ (e : FlushFault). Err e) (sym p.2) ∙ sym p.1 ∙ is) in
    record {
      before = [];
      at = page_writes (slot c.args.self.now) c.args.pages.now;
      after = [];
      all = refl;
      mid = mid;
      took = c.page_writes.ensures.disk;
      failed = inl (subst (λ (ws : List PageWrite). FailsOnTheWay d.did mid (pieces (d.reads mid) ws) c.write_all.new.disk) c.in_ok-page_writes.ensures.writes broke);
    }

pub all_cleaned-requires : goal.all_cleaned-requires
all_cleaned-requires g c = are_pages c.args.self.now c.page_writes.new.self c.args.pages.now c.page_writes.ensures.reads.count c.requires.batch.each

pub returns-clause-flushed : goal.returns-clause-flushed
returns-clause-flushed g c =
    let d = g.D.Disk in
    let a = c.args.disk.now in
    let b = c.page_writes.new.disk in
    let done = c.write_all.new.disk in
    let read = c.page_writes.ensures.reads in
    let made = c.in_ok-page_writes.ensures in
    let wrote = c.in_ok-write_all.ensures in
    flushed_one d.size d.keeps d.reads d.may_hold d.did a b done (slot c.args.self.now) (slot c.page_writes.new.self) (slot c.all_cleaned.new.self) c.args.pages.now c.requires.keeps c.page_writes.ensures.disk
    (subst (λ (ws : List PageWrite). TookBatch d.size d.keeps d.reads d.may_hold d.did b ws done) made.writes wrote.took)
    (subst (λ (ws : List PageWrite). IsWritten (d.reads b) ws (d.reads done)) made.writes wrote.written)
    made.whole made.fit read.dirty read.kept read.known c.all_cleaned.ensures.values c.all_cleaned.ensures.dirty
