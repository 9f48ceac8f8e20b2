-- What an image keeps whose parts are known.
use Rattle.std.proofs.Common.{◌≡◌, ℕ, ◌≤◌, List, sym, ap, ◌∙◌, subst}
use Rattle.ag_model.specs.declared.answer.Cell.{Cell}
use Rattle.ag_model.specs.declared.answer.SuspectRow.{SuspectRow}
use Rattle.ag_model.specs.declared.record.Log.{Log}
use Rattle.ag_outside.specs.Disks.{Image, or_zeros}
use Rattle.ag_master.specs.declared.master.Master.{Master as SectorMaster}
use Rattle.ag_master.specs.Spelling.{spelling, fields, HasSpelling}
use Rattle.ag_master.proofs.Fields.{fields-spelling}
use Rattle.ag_kept.specs.Kept.{master_on}
use Rattle.ag_kept.specs.Standing.{HasLog}
use Rattle.ag_kept.specs.Starting.{own_log}
use Rattle.ag_kept.proofs.Finding.{log_on_is}
use Rattle.ag_suspect.specs.Rows.{suspects_on, HasRows}
use Rattle.ag_rules.specs.Replica.{Kept}
use Rattle.ag_keeping.specs.Keeping.{rules_master, cells_on, IsKeeping}
use Rattle.ag_keeping.specs.Meaning.{Says}

module _ (pages replica : ℕ) (image : Image) (m : SectorMaster) (fits : HasSpelling m) (spelled : or_zeros (image 0) ≡ spelling m) where
  -- the master of an image that has one
  pub master_is : master_on image ≡ m
  master_is = ap fields spelled ∙ fields-spelling m fits

  module _ (log : Log) (has : HasLog image m.cut m.incarnation log) where
    mine : HasLog image (master_on image).cut (master_on image).incarnation log
    mine = subst (λ (x : SectorMaster). HasLog image x.cut x.incarnation log) (sym master_is) has

    -- its log
    pub log_is : own_log image ≡ log
    log_is = log_on_is image (master_on image).cut (master_on image).incarnation log mine.is

    module _ (few : pages ≤ 2048) (pages_named : m.pages ≡ pages) (replica_named : m.replica ≡ replica) (least : 1 ≤ m.incarnation) (rows : List SuspectRow) (rows_are : suspects_on image ≡ rows) (stand : HasRows image rows) where
      pub keeping_is : IsKeeping pages replica image
      keeping_is = record {
        few = few;
        fits = subst HasSpelling (sym master_is) fits;
        spelled = spelled ∙ ap spelling (sym master_is);
        pages_named = ap (λ (x : SectorMaster). x.pages) master_is ∙ pages_named;
        replica_named = ap (λ (x : SectorMaster). x.replica) master_is ∙ replica_named;
        least = subst (λ (x : SectorMaster). 1 ≤ x.incarnation) (sym master_is) least;
        log = subst (λ (l : Log). HasLog image (master_on image).cut (master_on image).incarnation l) (sym log_is) mine;
        suspects = subst (HasRows image) (sym rows_are) stand;
      }

      abbrev kept_so : Log → SectorMaster → List SuspectRow → List (List Cell) → Kept
      kept_so l x rs cells = record { log = l; master = rules_master x; suspects = rs; images = cells }

      -- all that it keeps
      pub says_so : (cells : List (List Cell)) → cells_on pages image ≡ cells → Says pages replica image (record { log = log; master = rules_master m; suspects = rows; images = cells })
      says_so cells cells_are = record {
        keeping = keeping_is;
        kept = ap (λ (l : Log). kept_so l (master_on image) (suspects_on image) (cells_on pages image)) log_is
            ∙ ap (λ (x : SectorMaster). kept_so log x (suspects_on image) (cells_on pages image)) master_is
            ∙ ap (λ (rs : List SuspectRow). kept_so log m rs (cells_on pages image)) rows_are
            ∙ ap (λ (cells : List (List Cell)). kept_so log m rows cells) cells_are;
      }
