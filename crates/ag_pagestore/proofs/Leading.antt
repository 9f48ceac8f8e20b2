-- Calls of a disk, one after the other.
use Rattle.std.proofs.Common.{◌≡◌, ℕ, List, [], ◌∷◌, ◌++◌, Result, Ok, Err, refl, sym, ap, ◌∙◌, inl, inr, subst, append_assoc}
use Rattle.ag_outside.specs.declared.disk.Found.{Found}
use Rattle.ag_outside.specs.declared.disk.DiskError.{DiskError}
use Rattle.ag_outside.specs.declared.disk.DiskError.TheVariants.{Failed}
use Rattle.ag_outside.specs.Calls.{Call, Write_call, Read_call, Sync_call, Leads, changing, Piece, all_went, BreaksOff, TakesAll, FailsOnTheWay, IsReadOnly}
use Rattle.ag_pagestore.specs.Calling.{leads_both, leads_on, after_reads}
use Rattle.ag_pagestore.specs.Batches.{went, WritesUntilFault}
use Rattle.ag_pagestore.specs.Found.{ReadsUntilFault}

all_took : (pieces : List Piece) → changing (went pieces ++ Sync_call (Ok (record {})) ∷ []) ≡ all_went pieces
all_took [] = refl
all_took (p ∷ ps) = ap (λ (z : List Call). Write_call p.first p.sectors (Ok (record {})) ∷ z) (all_took ps)

sync_broke : (pieces : List Piece) → BreaksOff pieces (changing (went pieces ++ Sync_call (Err Failed) ∷ []))
sync_broke [] = refl
sync_broke (p ∷ ps) = inr (changing (went ps ++ Sync_call (Err Failed) ∷ []), refl, sync_broke ps)

write_broke : (before : List Piece) (at : Piece) (after : List Piece) → BreaksOff (before ++ at ∷ after) (changing (went before ++ Write_call at.first at.sectors (Err Failed) ∷ []))
write_broke [] at after = inl refl
write_broke (p ∷ ps) at after = inr (changing (went ps ++ Write_call at.first at.sectors (Err Failed) ∷ []), refl, write_broke ps at after)

module _ {D : Type 0} (did : D → Call → D → Type 0) (old mid : D) (read : IsReadOnly did old mid) where
  -- reads, then each piece and a sync
  pub takes_all : (later new : D) (pieces : List Piece) → Leads did mid (went pieces) later → did later (Sync_call (Ok (record {}))) new → TakesAll did old pieces new
  takes_all later new pieces writes sync =
      let all = went pieces ++ Sync_call (Ok (record {})) ∷ [] in
      record {
        calls = read.calls ++ all;
        leads = leads_both did read.calls all old mid new read.leads (leads_on did (went pieces) (Sync_call (Ok (record {}))) mid later new writes sync);
        all = after_reads read.calls all read.reads ∙ all_took pieces;
      }

  -- reads, then each piece and a sync that failed
  pub fails_at_sync : (later new : D) (pieces : List Piece) → Leads did mid (went pieces) later → did later (Sync_call (Err Failed)) new → FailsOnTheWay did old pieces new
  fails_at_sync later new pieces writes sync =
      let all = went pieces ++ Sync_call (Err Failed) ∷ [] in
      record {
        calls = read.calls ++ all;
        leads = leads_both did read.calls all old mid new read.leads (leads_on did (went pieces) (Sync_call (Err Failed)) mid later new writes sync);
        last = inl (subst (BreaksOff pieces) (sym (after_reads read.calls all read.reads)) (sync_broke pieces));
      }

  -- reads, then some pieces and one that failed
  pub fails_at_write : (new : D) (pieces : List Piece) → WritesUntilFault did mid pieces new → FailsOnTheWay did old pieces new
  fails_at_write new pieces w =
      let all = went w.before ++ Write_call w.at.first w.at.sectors (Err Failed) ∷ [] in
      record {
        calls = read.calls ++ all;
        leads = leads_both did read.calls all old mid new read.leads w.leads;
        last = inl (subst (λ (ps : List Piece). BreaksOff ps (changing (read.calls ++ all))) (sym w.all) (subst (BreaksOff (w.before ++ w.at ∷ w.after)) (sym (after_reads read.calls all read.reads)) (write_broke w.before w.at w.after)));
      }

  -- reads, then one more
  pub reads_on : (at : ℕ) (result : Result Found DiskError) (new : D) → did mid (Read_call at result) new → IsReadOnly did old new
  reads_on at result new here = record {
    calls = read.calls ++ Read_call at result ∷ [];
    leads = leads_on did read.calls (Read_call at result) old mid new read.leads here;
    reads = after_reads read.calls (Read_call at result ∷ []) read.reads;
  }

  -- reads, then one that failed
  pub read_fails : (at : ℕ) (new : D) → did mid (Read_call at (Err Failed)) new → ReadsUntilFault did old new
  read_fails at new here = record {
    calls = read.calls ++ Read_call at (Err Failed) ∷ [];
    leads = leads_on did read.calls (Read_call at (Err Failed)) old mid new read.leads here;
    last = (read.calls, at, refl);
  }

  -- reads, and then reads until one failed
  pub reads_fail : (new : D) → ReadsUntilFault did mid new → ReadsUntilFault did old new
  reads_fail new more = record {
    calls = read.calls ++ more.calls;
    leads = leads_both did read.calls more.calls old mid new read.leads more.leads;
    last = (read.calls ++ more.last.0, more.last.1, ap (λ (z : List Call). read.calls ++ z) more.last.2 ∙ sym (append_assoc read.calls more.last.0 (Read_call more.last.1 (Err Failed) ∷ [])));
  }

-- a failed read is a fault on the way to any pieces
pub fails_at_read : {D : Type 0} (did : D → Call → D → Type 0) (old new : D) (pieces : List Piece) → ReadsUntilFault did old new → FailsOnTheWay did old pieces new
fails_at_read did old new pieces r = record { calls = r.calls; leads = r.leads; last = inr r.last }
