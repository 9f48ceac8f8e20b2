use Rattle.ag_store.proofs.flushing.write_in_order.Goals as goal

pub returns-clause-order : goal.returns-clause-order
returns-clause-order g c = record {
  between = c.write_pages.new.disk;
  pages = c.in_ok-write_pages.ensures.calls;
  wrote = c.in_ok-write_pages.ensures.wrote;
  written_home = c.in_ok-write_pages.ensures.home;
  durable = c.in_ok-write_pages.ensures.durable;
  master = c.in_ok-save_redo_start.ensures.calls;
  home = c.in_ok-save_redo_start.ensures.home;
  kept = c.in_ok-save_redo_start.ensures.kept;
  memory = c.in_ok-save_redo_start.ensures.memory;
  same_pages = c.in_ok-save_redo_start.ensures.pages;
}
