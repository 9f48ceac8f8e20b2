-- Values of a page at the LSNs of a log.
use Rattle.std.proofs.Common.{ℕ, ◌+◌, ◌<◌, ◌≤◌, List, sym, ap, ◌∙◌, arith}
use Rattle.std.specs.List.{list_any}
use mathlib.Core.Logic.{dite}
use native.Mathlib.Decide.{dec_le}
use Rattle.ag_model.specs.declared.record.Log.{Log}
use Rattle.ag_model.specs.declared.record.Record.{Record}
use Rattle.ag_model.specs.Blocks.{after_to}
use Rattle.ag_model.specs.Prefixes.{end_of, IsPrefix}
use Rattle.ag_model.specs.Proper.{IsProper}
use Rattle.ag_model.specs.Rows.{touches}
use Rattle.ag_model.proofs.Prefixes.{prefix_length, value_prefix}
use Rattle.ag_pool.proofs.Values.{value-stays}
use Rattle.ag_stripe.specs.Known.{Known}
use Rattle.ag_stripe.specs.Known.Known.{Value}
use Rattle.ag_law_pages.specs.Images.{IsValueIn, CanRedo}
use Rattle.ag_law_pages.proofs.Touching.{none-past, between-cut}

-- a value between two LSNs of a log is one of a longer log
pub longer-value : (pages low high page : ℕ) (k : Known) (log longer : Log) → IsPrefix log longer → high ≤ end_of log → IsValueIn pages log.records low high page k → IsValueIn pages longer.records low high page k
longer-value pages low high page k log longer p le v = record {
  lsn = v.lsn;
  from = v.from;
  to = v.to;
  value = v.value ∙ ap Value (value_prefix pages page v.lsn log longer p (omega (arith, v.to)));
}

-- a value between two LSNs is one where more is allowed
pub wider-value : (pages low high more page : ℕ) (k : Known) (log : List Record) → high ≤ more → IsValueIn pages log low high page k → IsValueIn pages log low more page k
wider-value pages low high more page k log le v = record { lsn = v.lsn; from = v.from; to = omega (arith, v.to); value = v.value }

-- an image from which a page can be redone is one for a longer log
pub longer-redo : (pages redo page : ℕ) (k : Known) (log longer : Log) → IsPrefix log longer → redo ≤ end_of log → CanRedo pages log.records redo page k → CanRedo pages longer.records redo page k
longer-redo pages redo page k log longer p le c = record {
  lsn = c.lsn;
  high = omega (arith, c.high, prefix_length log longer p);
  value = c.value ∙ ap Value (value_prefix pages page c.lsn log longer p c.high);
  rest = sym (
      ap (λ (l : Log). list_any (touches pages page) (after_to c.lsn redo l.records)) p.cut
      ∙ ap (list_any (touches pages page)) (between-cut c.lsn redo (end_of log) longer.records le)) ∙ c.rest;
}

-- an image from which a page can be redone says its value from the redo start on
pub redo-value : (pages redo page : ℕ) (k : Known) (log : Log) → 16 ≤ page → page < 16 + pages → IsProper pages log → redo ≤ end_of log → CanRedo pages log.records redo page k → IsValueIn pages log.records redo (end_of log) page k
redo-value pages redo page k log low high proper le c = dite (dec_le redo c.lsn)
    (λ later. record { lsn = c.lsn; from = later; to = c.high; value = c.value })
    (λ earlier.
    record {
      lsn = redo;
      from = omega arith;
      to = le;
      value = c.value ∙ ap Value (value-stays pages page c.lsn redo log.records proper.each low high (omega arith) le c.rest);
    })

-- an image that says the value at a later LSN than the redo start is one from which the page can be redone
pub value-redo : (pages low high redo page : ℕ) (k : Known) (log : Log) → high ≤ end_of log → redo ≤ low → IsValueIn pages log.records low high page k → CanRedo pages log.records redo page k
value-redo pages low high redo page k log within le v = record {
  lsn = v.lsn;
  high = omega (arith, v.to);
  value = v.value;
  rest = none-past (touches pages page) v.lsn redo log.records (omega (arith, v.from));
}
