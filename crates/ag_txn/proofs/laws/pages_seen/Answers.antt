use Rattle.std.proofs.Common.{◌≡◌, ◌++◌, ℕ, List, length, ap, sym, subst, ◌∙◌, length-append}
use Rattle.std.specs.Prelude.{unwrap_or}
use Rattle.ag_model.specs.declared.record.Record.{Record}
use Rattle.ag_model.specs.Page.{value}
use Rattle.ag_rules.specs.Replica.{records}
use Rattle.ag_version.specs.Steps.{AreProper}
use Rattle.ag_txn.specs.View.{copy_of}
use Rattle.ag_txn.proofs.Effects.{seen-is, number-is}
use Rattle.ag_txn.proofs.laws.pages_seen.Goals as goal

pub returns : goal.returns
returns c t r page end buffer h proper low high =
    let log : List Record = records r in
    let here : (value t.pages log t.end page).page ≡ page = number-is t.pages t.end page log in
    let proper' : AreProper t.pages (log ++ t.buffer) = subst (λ (b : List Record). AreProper t.pages (log ++ b)) buffer proper in
    ap (λ (p : ℕ). unwrap_or (copy_of t.copies p) (value t.pages log t.end page)) here
    ∙ ap (λ (n : ℕ). unwrap_or (copy_of t.copies page) (value t.pages log n page)) (sym end)
    ∙ seen-is t.pages page log t.buffer t.copies h proper' low high
    ∙ (let back = sym buffer in λ i. value t.pages (log ++ back i) (length (log ++ back i)) page)
    ∙ ap (λ (n : ℕ). value t.pages (log ++ r.leading.buffer) n page) (length-append log r.leading.buffer)
