-- Records that stand next in a log, and pages that the records up to a start leave.
use Rattle.std.proofs.Common.{◌≡◌, ℕ, zero, suc, ◌+◌, ◌-◌, ◌<◌, ◌≤◌, false, List, ◌++◌, length, get_or, take, drop, refl, sym, ap, ◌∙◌, arith}
use Rattle.std.specs.Prelude.{Some, slice_get}
use Rattle.std.specs.List.{list_any}
use Rattle.std.proofs.lemmas.Bool.{false≢true, false_from_ne_true}
use Rattle.std.proofs.lemmas.Option.{slice_get-get_or}
use Rattle.std.proofs.lemmas.List.{length-append, length-take, length-drop, get_or-take, get_or-drop}
use Rattle.std.proofs.Math.Seq.{drop-append_seam}
use Rattle.std.proofs.lemmas.List.Folds.{list_any_at}
use mathlib.Core.Logic.{dite}
use native.Mathlib.Decide.{dec_le}
use Rattle.ag_model.specs.declared.message.Block.{Block}
use Rattle.ag_model.specs.declared.record.Log.{Log}
use Rattle.ag_model.specs.declared.record.Record.{Record}
use Rattle.ag_model.specs.declared.record.Record.TheVariants.{Term}
use Rattle.ag_model.specs.Blocks.{after_to}
use Rattle.ag_model.specs.Page.{value}
use Rattle.ag_model.specs.Prefixes.{end_of}
use Rattle.ag_model.specs.Proper.{IsProper}
use Rattle.ag_model.specs.Rows.{touches}
use Rattle.ag_version.specs.Steps.{IsAt}
use Rattle.ag_version.proofs.Untouched.{untouched-value}
use Rattle.ag_stripe.specs.Ahead.{IsAhead, IsNext, AreNext}
use Rattle.ag_stripe.specs.Known.Known.{Value}

-- one of the records that stand in a log after an LSN, by its LSN
pub stand-at : (applied i : ℕ) (log records : List Record) (r : Record) → i < length records → r ≡ get_or records i r → applied + length records ≤ length log → after_to applied (applied + length records) log ≡ records → IsAt log (applied + i + 1) r
stand-at applied i log records r lt there reach stand =
    let is : get_or log (applied + i) r ≡ r =
    sym (get_or-take (applied + length records) log (applied + i) r (omega arith)) ∙ sym (get_or-drop applied (take (applied + length records) log) i r) ∙ ap (λ (rs : List Record). get_or rs i r) stand ∙ sym there in
    let place : applied + i ≡ applied + i + 1 - 1 = omega arith in
    (omega arith, ap (slice_get log) (sym place) ∙ slice_get-get_or log (applied + i) r (omega arith) ∙ ap Some is)

-- the records of the next block
pub next-records : (pages applied : ℕ) (log : Log) (block : Block) → IsNext pages applied log block → AreNext pages applied log block.records
next-records pages applied log block h =
    let b = h.stands_in in
    let both : List Record = b.before.records ++ block.records in
    let at : length b.before.records ≡ applied = (let f = b.first in let g = h.next in omega arith) in
    let whole : b.before.records ++ block.records ≡ take (length (b.before.records ++ block.records)) log.records = ap (λ (l : Log). l.records) b.with_it.cut in
    let size = length-append b.before.records block.records in
    let far : applied + length block.records ≡ length (b.before.records ++ block.records) = omega arith in
    let long = ap length whole in
    record {
      proper = h.proper;
      reach = omega (arith, length-take (length (b.before.records ++ block.records)) log.records);
      stand = (λ i. drop (sym at i) (take (far i) log.records)) ∙ ap (drop (length b.before.records)) (sym whole) ∙ drop-append_seam b.before.records block.records;
    }

module _ (pages page lsn redo : ℕ) (log : Log) (low : 16 ≤ page) (high : page < 16 + pages) (proper : IsProper pages log) (reach : redo ≤ end_of log) (off : list_any (touches pages page) (after_to lsn redo log.records) ≡ false) where
  -- a record above the one LSN and up to the other doesn't touch the page
  off-at : (i : ℕ) → lsn + i + 1 ≤ redo → touches pages page (get_or log.records (lsn + i) (Term 0)) ≡ false
  off-at i le =
      let same : get_or (after_to lsn redo log.records) i (Term 0) ≡ get_or log.records (lsn + i) (Term 0) = get_or-drop lsn (take redo log.records) i (Term 0) ∙ get_or-take redo log.records (lsn + i) (Term 0) (omega arith) in
      let inside : i < length (after_to lsn redo log.records) = omega (arith, length-drop lsn (take redo log.records), length-take redo log.records) in
      false_from_ne_true (touches pages page (get_or log.records (lsn + i) (Term 0))) (λ on. false≢true (sym off ∙ list_any_at (touches pages page) (after_to lsn redo log.records) i (Term 0) inside (ap (touches pages page) same ∙ on)))

  -- the value of the page stays
  value-stays : (i : ℕ) → lsn + i ≤ redo → value pages log.records (lsn + i) page ≡ value pages log.records lsn page
  value-stays zero le = ap (λ (n : ℕ). value pages log.records n page) (let e : lsn + 0 ≡ lsn = omega arith in e)
  value-stays (suc i) le =
      let r : Record = get_or log.records (lsn + i) (Term 0) in
      let next : lsn + suc i ≡ lsn + i + 1 = omega arith in
      let back : lsn + i + 1 - 1 ≡ lsn + i = omega arith in
      let at : IsAt log.records (lsn + i + 1) (get_or log.records (lsn + i) (Term 0)) = (omega arith, ap (slice_get log.records) back ∙ slice_get-get_or log.records (lsn + i) (Term 0) (omega arith)) in
      ap (λ (n : ℕ). value pages log.records n page) next
      ∙ untouched-value pages page (lsn + i + 1) log.records (get_or log.records (lsn + i) (Term 0)) low high proper.each at (off-at i (omega arith))
      ∙ ap (λ (n : ℕ). value pages log.records n page) back
      ∙ value-stays i (omega arith)

  -- the page is as a stripe needs it
  pub ahead-at : lsn ≤ end_of log → IsAhead pages log redo page (Value (value pages log.records lsn page))
  ahead-at under = dite (dec_le redo lsn)
      (λ le. record { lsn = lsn; low = le; high = under; value = refl })
      (λ not.
      let to : lsn + (redo - lsn) ≡ redo = omega arith in
      record {
        lsn = redo;
        low = omega arith;
        high = reach;
        value = ap Value (sym (value-stays (redo - lsn) (omega arith)) ∙ ap (λ (n : ℕ). value pages log.records n page) to);
      })
