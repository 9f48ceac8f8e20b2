-- Values and images of pages under logs that grow, and under redo.
use Rattle.std.proofs.Common.{◌≡◌, ℕ, ◌+◌, ◌≤◌, Bool, true, false, ◌||◌, List, length, take, refl, sym, ap, ◌∙◌, arith}
use Rattle.std.specs.List.{list_any}
use Rattle.std.proofs.lemmas.List.{length-take, take-take}
use Rattle.ag_model.specs.declared.record.Log.{Log}
use Rattle.ag_model.specs.declared.record.Record.{Record}
use Rattle.ag_model.specs.Blocks.{cut_at, after_to}
use Rattle.ag_model.specs.Page.{value}
use Rattle.ag_model.specs.Prefixes.{end_of, IsBlockEnd, IsPrefix}
use Rattle.ag_model.specs.Proper.{IsProper}
use Rattle.ag_model.specs.Rows.{touches}
use Rattle.ag_model.proofs.Prefixes.{taken_value, end_low, prefix_refl, prefix_length, value_prefix}
use Rattle.ag_model.proofs.ProperPrefixes.{cut_proper}
use Rattle.std.proofs.lemmas.List.{length-drop}
use Rattle.ag_stripe.specs.Ahead.{IsAhead, AreNext}
use Rattle.ag_stripe.specs.Known.{Known}
use Rattle.ag_stripe.specs.Known.Known.{Value}
use Rattle.ag_store.specs.Images.{IsImageOf, is_touched_between}
use Rattle.ag_store.proofs.Touching.{none-joined, between-cut}

-- a value under the records up to a later LSN
pub value-cut : (pages n end page : ℕ) (rs : List Record) → n ≤ end → value pages (take end rs) n page ≡ value pages rs n page
unfolding value
value-cut pages n end page rs le = ap (taken_value pages page) (take-take n end rs le)

-- what is touched in a prefix of a log
pub touched-longer : (pages low high page : ℕ) (log longer : Log) → IsPrefix log longer → high ≤ end_of log → is_touched_between pages longer.records page low high ≡ is_touched_between pages log.records page low high
touched-longer pages low high page log longer p le = sym (
    ap (λ (l : Log). is_touched_between pages l.records page low high) p.cut
    ∙ ap (list_any (touches pages page)) (between-cut low high (end_of log) longer.records le))

-- the image of a page stays one of a longer log
pub image-longer : (pages : ℕ) (log longer : Log) (redo applied : ℕ) (dirty : Bool) (page : ℕ) (k : Known) → IsPrefix log longer → redo ≤ end_of log → applied ≤ end_of log
    → IsImageOf pages log redo applied dirty page k → IsImageOf pages longer redo applied dirty page k
image-longer pages log longer redo applied dirty page k p in_log low i = record {
  lsn = i.lsn;
  high = omega (arith, i.high, prefix_length log longer p);
  value = i.value ∙ ap Value (value_prefix pages page i.lsn log longer p i.high);
  redone = touched-longer pages i.lsn redo page log longer p in_log ∙ i.redone;
  clean = λ d. touched-longer pages i.lsn applied page log longer p low ∙ i.clean d;
}

-- the image of a page that is clean at the redo start
pub image-fallen : (pages : ℕ) (log : Log) (redo applied : ℕ) (dirty : Bool) (page : ℕ) (k : Known) → IsImageOf pages log redo applied dirty page k → IsImageOf pages log redo redo false page k
image-fallen pages log redo applied dirty page k i = record { lsn = i.lsn; high = i.high; value = i.value; redone = i.redone; clean = λ d. i.redone }

or-left : (a b : Bool) → (a || b) ≡ false → a ≡ false
or-left true b e = e
or-left false b e = refl

or-right : (a b : Bool) → (a || b) ≡ false → b ≡ false
or-right true true e = e
or-right true false e = refl
or-right false b e = e

-- the image of a page that was redone
pub image-redone : (pages : ℕ) (log : Log) (redo applied end : ℕ) (dirty new : Bool) (page : ℕ) (k : Known) → new ≡ (dirty || is_touched_between pages log.records page applied end)
    → IsImageOf pages log redo applied dirty page k → IsImageOf pages log redo end new page k
image-redone pages log redo applied end dirty new page k e i = record {
  lsn = i.lsn;
  high = i.high;
  value = i.value;
  redone = i.redone;
  clean = λ d.
      let none = sym e ∙ d in
      none-joined (touches pages page) i.lsn applied end log.records (i.clean (or-left dirty (is_touched_between pages log.records page applied end) none)) (or-right dirty (is_touched_between pages log.records page applied end) none);
}

-- the records after an LSN up to a block's end stand next in the log that is cut there
pub next-in-cut : (pages : ℕ) (log : Log) (applied end : ℕ) (records : List Record) → IsProper pages log → IsBlockEnd log end → applied ≤ end → records ≡ after_to applied end log.records → AreNext pages applied (cut_at end log) records
next-in-cut pages log applied end records proper is le e =
    let low = end_low pages log end proper is in
    let long : length (take end log.records) ≡ end = omega (arith, length-take end log.records) in
    let size : applied + length records ≡ end = omega (arith, ap length e, length-drop applied (take end log.records)) in
    record {
      proper = cut_proper pages log end proper is;
      reach = omega arith;
      stand = ap (λ (n : ℕ). after_to applied n (take end log.records)) size ∙ between-cut applied end end log.records (omega arith) ∙ sym e;
    }

-- a page that isn't behind an LSN at which the log is cut is there
pub there-in-cut : (pages : ℕ) (log : Log) (end page : ℕ) (k : Known) → IsProper pages log → IsBlockEnd log end → IsAhead pages (cut_at end log) end page k → k ≡ Value (value pages log.records end page)
there-in-cut pages log end page k proper is a =
    let low = end_low pages log end proper is in
    let at : a.lsn ≡ end = omega (arith, a.low, a.high, length-take end log.records) in
    a.value ∙ ap Value (ap (λ n. value pages (take end log.records) n page) at ∙ value-cut pages end end page log.records (omega arith))

-- a page that is where its stripe stands can go on
pub ahead-in-cut : (pages : ℕ) (log : Log) (applied end page : ℕ) (k : Known) → IsProper pages log → IsBlockEnd log end → applied ≤ end → k ≡ Value (value pages log.records applied page) → IsAhead pages (cut_at end log) applied page k
ahead-in-cut pages log applied end page k proper is le e =
    let low = end_low pages log end proper is in
    record {
      lsn = applied;
      low = omega arith;
      high = omega (arith, length-take end log.records);
      value = e ∙ ap Value (sym (value-cut pages applied end page log.records le));
    }

-- a proper log that is cut at its end stays
pub cut-whole : (pages : ℕ) (log : Log) → IsProper pages log → cut_at (end_of log) log ≡ log
cut-whole pages log proper = sym (prefix_refl pages log proper).cut
