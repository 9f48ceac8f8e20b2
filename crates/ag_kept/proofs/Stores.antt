-- What holds of a store before and after a call.
use Rattle.std.proofs.Common.{◌≡◌, ℕ, ◌≤◌, List, Bool, true, false, Some, None, is_some, refl, sym, ap, ◌∙◌, subst}
use Rattle.std.specs.Prelude.{Option}
use Rattle.std.specs.Option.{MatchOption}
use Rattle.ag_model.specs.declared.record.Record.{Record}
use Rattle.ag_model.specs.declared.record.Log.{Log}
use Rattle.ag_model.specs.Blocks.{with_block}
use Rattle.ag_outside.specs.Disks.{Content, Image}
use Rattle.ag_outside.specs.Scripts.{ScriptedView}
use Rattle.ag_outside.specs.Shown.{reads_of, holds_of}
use Rattle.ag_master.specs.declared.master.Master.{Master}
use Rattle.ag_logstore.specs.Stored.{log_end}
use Rattle.ag_logstore.specs.LogOf.{IsLogOf}
use Rattle.ag_logstore.specs.Stores.{StoreView, IsReady}
use Rattle.ag_kept.specs.declared.reach.Reach.{Reach}
use Rattle.ag_kept.specs.declared.reach.Reach.TheVariants.{End, Stop, Fault}
use Rattle.ag_kept.specs.Ending.{IsSettled}
use Rattle.ag_kept.specs.Kept.{Kept, master_on, kept_on, hardened}
use Rattle.ag_kept.specs.LogOn.{log_on}
use Rattle.ag_kept.specs.Standing.{IsMemory, IsAtHome, IsStore, LeavesLog, reached_log}
use Rattle.ag_kept.proofs.Finding.{log_on_is}
use Rattle.ag_kept.proofs.Homes.{kept_so, same_master, home_stays, kept_stays}
use Rattle.ag_kept.proofs.Started.{settled_home}

-- what is kept once a block was written, but not to the end
pub hardened_is : (k : Kept) (s : StoreView) (new : List Record) (r : Reach) → k.log ≡ s.log → (r ≡ End → ⊥) → hardened k new r ≡ kept_so (reached_log s new r) k.incarnation k.cut k.redo k.pages k.replica false
hardened_is k s new End e other = absurd (other refl)
hardened_is k s new (Stop true) e other = ap (λ (l : Log). kept_so (with_block l new) k.incarnation k.cut k.redo k.pages k.replica false) e
hardened_is k s new (Stop false) e other = ap (λ (l : Log). kept_so l k.incarnation k.cut k.redo k.pages k.replica false) e
hardened_is k s new Fault e other = ap (λ (l : Log). kept_so l k.incarnation k.cut k.redo k.pages k.replica false) e

-- where memory has nothing
pub none_there : {X : Type 0} (o : Option X) (P : X → Type 0) → is_some o ≡ false → MatchOption o (Unit {0}) P
none_there None P e = tt
none_there (Some x) P e = absurd (cc e)

module _ {D : Type 0} (size : D → ℕ) (keeps : D → Bool) (reads : D → Image) (may_hold : D → ℕ → Content → Type 0) where
  -- a store without memory
  pub without_memory : (disk : ScriptedView D) (memory : Option StoreView) (sound : Bool) → IsStore size keeps reads may_hold disk memory sound → IsStore size keeps reads may_hold disk None sound
  without_memory disk memory sound st = record { room = st.room; stands = st.stands; loaded = λ e. tt }

  -- a store after a fault
  pub broken : (disk : ScriptedView D) (memory : Option StoreView) → log_end ≤ size disk.disk → IsStore size keeps reads may_hold disk memory false
  broken disk memory room = record { room = room; stands = λ e. absurd (cc e); loaded = λ e. absurd (cc e) }

  module _ (disk : ScriptedView D) (memory : Option StoreView) (sound : Bool) (s : StoreView) (st : IsStore size keeps reads may_hold disk memory sound) (is_sound : sound ≡ true) (has : memory ≡ Some s) where
    abbrev image : Image
    image = reads_of reads disk

    pub at_home : IsAtHome keeps reads disk
    at_home = st.stands is_sound

    pub memory_of : IsMemory keeps reads may_hold disk s
    memory_of = subst (λ (o : Option StoreView). MatchOption o (Unit {0}) (λ t. IsMemory keeps reads may_hold disk t)) has (st.loaded is_sound)

    pub log_of : log_on image (master_on image).cut (master_on image).incarnation ≡ s.log
    log_of =
        let log : IsLogOf image s.cut s.incarnation s.log = (memory_of.ready.current at_home.modelled).log in
        log_on_is image (master_on image).cut (master_on image).incarnation s.log
        (subst (λ n. IsLogOf image (master_on image).cut n s.log) memory_of.incarnation (subst (λ n. IsLogOf image n s.incarnation s.log) memory_of.cut log))

    module _ (new : ScriptedView D) (log : Log) (settled : IsSettled keeps disk new) (leaves : LeavesLog image s.cut s.incarnation log (reads_of reads new)) where
      leaves_on : LeavesLog image (master_on image).cut (master_on image).incarnation log (reads_of reads new)
      leaves_on = subst (λ n. LeavesLog image (master_on image).cut n log (reads_of reads new)) memory_of.incarnation (subst (λ n. LeavesLog image n s.incarnation log (reads_of reads new)) memory_of.cut leaves)

      pub after_home : IsAtHome keeps reads new
      after_home = settled_home keeps reads disk new at_home settled (reads_of reads new) refl (home_stays image (reads_of reads new) log at_home.home leaves_on)

      pub after_kept : (loaded : Bool) → kept_on (reads_of reads new) loaded ≡ kept_so log (master_on image).incarnation (master_on image).cut (master_on image).redo (master_on image).pages (master_on image).replica loaded
      after_kept loaded = kept_stays image (reads_of reads new) log at_home.home leaves_on loaded

      pub after_memory : (t : StoreView) → t ≡ record s { log = log } → IsReady (keeps new.disk) (reads_of reads new) (holds_of keeps may_hold new) t → IsMemory keeps reads may_hold new t
      after_memory t is ready =
          let master : master_on (reads_of reads new) ≡ master_on image = same_master image (reads_of reads new) log at_home.home leaves_on in
          record {
            cut = ap (λ (v : StoreView). v.cut) is ∙ memory_of.cut ∙ sym (ap (λ (m : Master). m.cut) master);
            incarnation = ap (λ (v : StoreView). v.incarnation) is ∙ memory_of.incarnation ∙ sym (ap (λ (m : Master). m.incarnation) master);
            is_open = ap (λ (v : StoreView). v.is_closed) is ∙ memory_of.is_open;
            ready = ready;
          }

    -- what is kept, but not to the end
    pub after_kept_so : (new : ScriptedView D) (records : List Record) (r : Reach) (loaded : Bool) → (r ≡ End → ⊥) → IsSettled keeps disk new → LeavesLog image s.cut s.incarnation (reached_log s records r) (reads_of reads new)
        → kept_on (reads_of reads new) false ≡ hardened (kept_on image loaded) records r
    after_kept_so new records r loaded other settled leaves = after_kept new (reached_log s records r) settled leaves false ∙ sym (hardened_is (kept_on image loaded) s records r log_of other)

    -- what is kept at the end
    pub after_kept_end : (new : ScriptedView D) (records : List Record) → IsSettled keeps disk new → LeavesLog image s.cut s.incarnation (with_block s.log records) (reads_of reads new) → kept_on (reads_of reads new) true ≡ hardened (kept_on image true) records End
    after_kept_end new records settled leaves = after_kept new (with_block s.log records) settled leaves true ∙ ap (λ (l : Log). kept_so (with_block l records) (master_on image).incarnation (master_on image).cut (master_on image).redo (master_on image).pages (master_on image).replica true) (sym log_of)
