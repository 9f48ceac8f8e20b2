-- What stays true of a home that changes.
use Rattle.std.proofs.Common.{◌≡◌, ℕ, zero, suc, ◌+◌, ◌-◌, ◌<◌, ◌≤◌, List, [], ◌∷◌, length, get_or, map, replicate, Bool, true, false, refl, sym, ap, ◌∙◌, subst, arith, eq-eqb}
use Rattle.std.specs.Prelude.{◌==◌, ◌&&◌, if◌then◌else◌}
use Rattle.std.specs.List.{list_all}
use Rattle.std.proofs.lemmas.List.{length-append, length-replicate, length-set}
use Rattle.ag_model.specs.declared.answer.Cell.{Cell}
use Rattle.ag_model.specs.declared.answer.Cell.TheVariants.{Mark, Lost}
use Rattle.ag_model.specs.declared.record.Record.{Record}
use Rattle.ag_model.specs.declared.record.Log.{Log}
use Rattle.ag_model.specs.Blocks.{with_block}
use Rattle.ag_model.specs.Cells.{is_sound, mark_after, same_mark, written_cells}
use Rattle.ag_model.specs.Stripes.{opening_log}
use Rattle.ag_built.specs.Whole.{IsWhole}
use Rattle.ag_store.specs.Views.{flushed_cells}
use Rattle.ag_node.specs.Activity.{Activity}
use Rattle.ag_node.specs.Homes.{Home, applied_home, blank_images, but_faults, caught_up_home, down_home, flushed_home, lost_home, opening_home, raised_home, redone_home, stands, with_more, woken_home}
use Rattle.ag_node.specs.Nodes.{AreSound, IsActivity, IsFirstTerm, IsHome}
use Rattle.ag_logstore.proofs.LogEnds.{rises_push}
use Rattle.ag_logstore.proofs.Blocks.{blocks_push}
use Rattle.ag_node.proofs.SetWhere.{length-set_where}
use Rattle.ag_node.proofs.Whole.{term_stays}

-- a block of whole transactions goes into a log of the first term
pub first_grows : (log : Log) (new : List Record) → IsFirstTerm log → 0 < length new → IsWhole new → IsFirstTerm (with_block log new)
first_grows log new h k w = record {
  rises = rw length-append (rises_push 0 (length log.records) (length log.records + length new) log.ends h.rises (omega (arith, k)));
  term = term_stays log.records new h.term w;
  blocks = blocks_push IsWhole 0 (length log.records) log.ends log.records new h.rises (omega arith) h.blocks w;
}

pub first_opening : IsFirstTerm opening_log
first_opening = record { rises = (omega arith, refl); term = refl; blocks = ((refl, tt), tt) }

pub sound_blank : (pages : ℕ) → AreSound (blank_images pages)
sound_blank zero i = refl
sound_blank (suc n) zero = refl
sound_blank (suc n) (suc i) = sound_blank n i

-- the cells of a written image have one mark
one_mark : (m : ℕ) (cells : List Cell) → list_all (same_mark (Mark m)) (map (λ (c : Cell). Mark m) cells) ≡ true
one_mark m [] = refl
one_mark m (c ∷ cs) = rw (eq-eqb m m refl) (one_mark m cs)

sound_written : (cells : List Cell) → is_sound (written_cells cells) ≡ true
sound_written [] = refl
sound_written (c ∷ cs) = one_mark (mark_after (c ∷ cs)) (c ∷ cs)

sound_flushed : (dirty : List Bool) (cells : List (List Cell)) → AreSound cells → AreSound (flushed_cells dirty cells)
sound_flushed dirty [] is i = refl
sound_flushed [] (c ∷ cs) is i = is i
sound_flushed (true ∷ ds) (c ∷ cs) is zero = sound_written c
sound_flushed (false ∷ ds) (c ∷ cs) is zero = is zero
sound_flushed (d ∷ ds) (c ∷ cs) is (suc i) = sound_flushed ds cs (λ k. is (suc k)) i

length-flushed : (dirty : List Bool) (cells : List (List Cell)) → length (flushed_cells dirty cells) ≡ length cells
length-flushed dirty [] = refl
length-flushed [] (c ∷ cs) = refl
length-flushed (d ∷ ds) (c ∷ cs) = ap suc (length-flushed ds cs)

-- where a node stands that is down
abbrev pub fallen_activity : Activity → Activity
fallen_activity a = record { up = false; leads = false; follows = false; incarnation = a.incarnation }

fallen_stands : (a : Activity) → IsActivity (fallen_activity a)
fallen_stands a = record { down_leads = λ e. refl; down_follows = λ e. refl; one = λ e. absurd cc }

pub home_faults : (h : Home) (faults : ℕ) → IsHome h → IsHome (but_faults h faults)
home_faults h faults is = record { stands = is.stands; first = is.first; some_pages = is.some_pages; few_pages = is.few_pages; each_flag = is.each_flag; each_image = is.each_image; sound = is.sound; sixteen = is.sixteen; clean = is.clean }

pub home_more : (h : Home) (new : List Record) → IsHome h → 0 < length new → IsWhole new → IsHome (with_more h new)
home_more h new is k w = record { stands = is.stands; first = first_grows h.log new is.first k w; some_pages = is.some_pages; few_pages = is.few_pages; each_flag = is.each_flag; each_image = is.each_image; sound = is.sound; sixteen = is.sixteen; clean = is.clean }

pub home_redone : (h : Home) (lsn : ℕ) → IsHome h → h.activity.up ≡ true → IsHome (redone_home h lsn)
home_redone h lsn is up = record { stands = is.stands; first = is.first; some_pages = is.some_pages; few_pages = is.few_pages; each_flag = length-set_where _ 16 h.dirty ∙ is.each_flag; each_image = is.each_image; sound = is.sound; sixteen = refl; clean = λ down. absurd (cc (sym down ∙ up)) }

pub home_applied : (h : Home) (stripe lsn : ℕ) → IsHome h → h.activity.up ≡ true → IsHome (applied_home h stripe lsn)
home_applied h stripe lsn is up = record { stands = is.stands; first = is.first; some_pages = is.some_pages; few_pages = is.few_pages; each_flag = length-set_where _ 16 h.dirty ∙ is.each_flag; each_image = is.each_image; sound = is.sound; sixteen = length-set h.applied stripe lsn ∙ is.sixteen; clean = λ down. absurd (cc (sym down ∙ up)) }

pub home_flushed : (h : Home) → IsHome h → IsHome (flushed_home h)
home_flushed h is = record { stands = is.stands; first = is.first; some_pages = is.some_pages; few_pages = is.few_pages; each_flag = length-replicate h.pages false; each_image = length-flushed h.dirty h.cells ∙ is.each_image; sound = sound_flushed h.dirty h.cells is.sound; sixteen = is.sixteen; clean = λ down. refl }

pub home_down : (h : Home) → IsHome h → IsHome (down_home h)
home_down h is = record { stands = fallen_stands h.activity; first = is.first; some_pages = is.some_pages; few_pages = is.few_pages; each_flag = length-replicate h.pages false; each_image = is.each_image; sound = is.sound; sixteen = refl; clean = λ down. refl }

pub home_raised : (h : Home) → IsHome h → IsHome (raised_home h)
home_raised h is = record { stands = record { down_leads = is.stands.down_leads; down_follows = is.stands.down_follows; one = is.stands.one }; first = is.first; some_pages = is.some_pages; few_pages = is.few_pages; each_flag = is.each_flag; each_image = is.each_image; sound = is.sound; sixteen = is.sixteen; clean = is.clean }

pub home_caught_up : (h : Home) → IsHome h → IsHome (caught_up_home (woken_home h))
home_caught_up h is = record { stands = record { down_leads = λ e. absurd cc; down_follows = λ e. absurd cc; one = is.stands.one }; first = is.first; some_pages = is.some_pages; few_pages = is.few_pages; each_flag = length-set_where _ 16 (replicate h.pages false) ∙ length-replicate h.pages false; each_image = is.each_image; sound = is.sound; sixteen = refl; clean = λ down. absurd cc }

pub home_leads : (h : Home) → IsHome h → h.activity.up ≡ true → IsHome (stands true h)
home_leads h is up = record { stands = record { down_leads = λ down. absurd (cc (sym down ∙ up)); down_follows = λ e. refl; one = λ e. refl }; first = is.first; some_pages = is.some_pages; few_pages = is.few_pages; each_flag = is.each_flag; each_image = is.each_image; sound = is.sound; sixteen = is.sixteen; clean = is.clean }

pub home_lost : (pages faults : ℕ) → 16 ≤ pages → pages ≤ 2048 → IsHome (lost_home pages faults)
home_lost pages faults some few = record { stands = record { down_leads = λ e. refl; down_follows = λ e. refl; one = λ e. absurd cc }; first = first_opening; some_pages = some; few_pages = few; each_flag = length-replicate pages false; each_image = length-replicate pages _; sound = sound_blank pages; sixteen = refl; clean = λ down. refl }

pub home_opened : (pages faults : ℕ) (leads : Bool) → 16 ≤ pages → pages ≤ 2048 → IsHome (opening_home pages leads faults)
home_opened pages faults leads some few = record { stands = opens leads; first = first_opening; some_pages = some; few_pages = few; each_flag = length-replicate pages false; each_image = length-replicate pages _; sound = sound_blank pages; sixteen = refl; clean = λ down. refl }
  where
    opens : (l : Bool) → IsActivity (opening_home pages l faults).activity
    opens true = record { down_leads = λ e. absurd cc; down_follows = λ e. absurd cc; one = λ e. refl }
    opens false = record { down_leads = λ e. absurd cc; down_follows = λ e. absurd cc; one = λ e. absurd cc }
