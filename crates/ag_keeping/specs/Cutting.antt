-- How a new master cuts the log.
use Rattle.std.specs.Prelude.{◌≡◌, ◌⊎◌, ℕ, ◌<◌, length, Contains, if◌then◌else◌, ◌==◌}
use Rattle.ag_model.specs.declared.record.Log.{Log}
use Rattle.ag_master.specs.declared.master.Master.{Master as SectorMaster}
use Rattle.ag_rules.specs.Replica.{Master}

-- the LSN up to which blocks of older incarnations count, once a master cuts the log at an LSN: it stays where the incarnation stays
abbrev pub cut_after : SectorMaster → Master → ℕ → ℕ
cut_after old m end = if m.incarnation == old.incarnation then old.cut else end

-- the sector's master that is written over another one, with the log cut at an LSN
abbrev pub sector_master : SectorMaster → Master → ℕ → SectorMaster
sector_master old m end = record {
  format = 1;
  state = m.state;
  incarnation = m.incarnation;
  term = m.term;
  cut = cut_after old m end;
  undo = m.undo;
  redo = m.redo_start;
  pages = old.pages;
  replica = old.replica;
  foreign = m.foreign;
}

-- a master may cut the log there: the incarnation stays, and it is the log's own end; or a greater one cuts at a block's end
abbrev pub CanCut : SectorMaster → Log → Master → ℕ → Type 0
CanCut old log m end =
    ((m.incarnation ≡ old.incarnation) × (end ≡ length log.records))
    ⊎ ((old.incarnation < m.incarnation) × ((end ≡ 0) ⊎ Contains log.ends end))
