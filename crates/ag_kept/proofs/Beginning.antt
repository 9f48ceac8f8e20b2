-- How a start comes so far.
use Rattle.std.proofs.Common.{◌≡◌, ℕ, List, [], ◌∷◌, get_or, replicate, Bool, true, false, IsTrue, eqb, if◌then◌else◌, refl, sym, ap, ◌∙◌, arith}
use Rattle.std.specs.Prelude.{IfOk, IsErrOf, ◌&&◌}
use Rattle.ag_model.specs.Cells.{keeps as keeps_sector, keeps_all}
use Rattle.ag_outside.specs.declared.disk.SectorWrite.{SectorWrite}
use Rattle.ag_outside.specs.declared.order.Arm.TheVariants.{Stop as StopOrder}
use Rattle.ag_outside.specs.declared.order.Why.{Why}
use Rattle.ag_outside.specs.declared.order.Why.TheVariants.{Nothing, Stopped, Device, Inner}
use Rattle.ag_outside.specs.Counts.{HasRisen}
use Rattle.ag_outside.specs.Disks.{Content, Image, put, put_all}
use Rattle.ag_outside.specs.Calls.{Piece}
use Rattle.ag_outside.specs.Scripts.{ScriptedView}
use Rattle.ag_outside.specs.Shown.{reads_of}
use Rattle.ag_master.specs.declared.master.Master.{Master}
use Rattle.ag_master.specs.declared.sector.Loaded.{Loaded}
use Rattle.ag_master.specs.declared.sector.Loaded.TheVariants.{Fresh, Is, Other}
use Rattle.ag_master.specs.Spelling.{fields, spelling, HasSpelling}
use Rattle.ag_master.specs.Loading.{IsLoaded}
use Rattle.ag_master.proofs.Fields.{fields-spelling}
use Rattle.ag_kept.specs.declared.fault.KeptFault.TheVariants.{DiskFault}
use Rattle.ag_kept.specs.declared.reach.Reach.{Reach}
use Rattle.ag_kept.specs.Ending.{next, IsSettled, EndsBy, MayReach, reach_of}
use Rattle.ag_kept.specs.Starting.{with_master, raised_so_far}
use Rattle.ag_kept.proofs.Orders.{count_tells}

-- a master's sector isn't zeros
not_zeros : (m : Master) → spelling m ≡ replicate 512 0 → ⊥
unfolding spelling
not_zeros m e = let first : 65 ≡ 0 = ap (λ s. get_or s 0 0) e in absurd (omega (arith, first))

-- a sector that has this master is found so
pub loaded_is : (l : Loaded) (m : Master) (bytes : List ℕ) → HasSpelling m → bytes ≡ spelling m → IsLoaded bytes l → l ≡ Is m
loaded_is Fresh m bytes h e is = absurd (not_zeros m (sym e ∙ is))
loaded_is (Is n) m bytes h e is = ap Is (sym (fields-spelling n is.0) ∙ ap fields (sym is.1 ∙ e) ∙ fields-spelling m h)
loaded_is Other m bytes h e is = absurd (is.1 m h e)

pub same_master : (m n : Master) → Is m ≡ Is n → m ≡ n
same_master m n e = cc e

-- the one sector of a master, kept or not
one_sector : (b : Bool) (image : Image) (w : SectorWrite) → put_all image (if b then w ∷ [] else []) ≡ (if b && true then put image w else image)
one_sector true image w = refl
one_sector false image w = refl

-- what the write of a master came to
pub record Wrote {D : Type 0} (keeps : D → Bool) (reads : D → Image) (old new : ScriptedView D) (m : Master) (r : Reach) : Type 0 where
  pub image : reads_of reads new ≡ raised_so_far (reads_of reads old) m r
  pub settled : IsSettled keeps old new
  pub far : MayReach old.order (next old.writes) (next old.calls) (next (next old.calls)) r

module _ {D : Type 0} (keeps : D → Bool) (reads : D → Image) (may_hold : D → ℕ → Content → Type 0) (faults : D → ℕ) (old new : ScriptedView D) (m : Master) (k : IsTrue (keeps old.disk)) where
  abbrev pub piece_of : Piece
  piece_of = record { first = 0; sectors = spelling m ∷ [] }

  pub wrote : (w : Why) → EndsBy keeps reads may_hold faults old piece_of new w → IfOk (reach_of w 1) (Wrote keeps reads old new m)
  wrote Nothing e = tt
  wrote (Stopped write count) e =
      let mask = e.0 in
      let w : SectorWrite = record { at = 0; sector = spelling m } in
      let all : eqb count 1 ≡ keeps_all mask 0 1 = count_tells mask 0 1 count (spelling m ∷ []) refl (omega arith) e.3 in
      record {
        image = e.5 k ∙ one_sector (keeps_sector mask 0) (reads_of reads old) w ∙ ap (λ (b : Bool). if b then with_master (reads_of reads old) m else reads_of reads old) (sym all);
        settled = e.4;
        far = (mask, e.1 ∙ ap (λ n. StopOrder n mask) e.2, all);
      }
  wrote Device e = record { image = e.2 k; settled = e.1; far = e.0 }
  wrote Inner e = tt

  pub write_below : (w : Why) → EndsBy keeps reads may_hold faults old piece_of new w → IsErrOf (reach_of w 1) DiskFault → HasRisen (faults old.disk) (faults new.disk)
  write_below Nothing e is = absurd e
  write_below (Stopped write count) e is = absurd (cc is)
  write_below Device e is = absurd (cc is)
  write_below Inner e is = e
