use Rattle.std.proofs.Common.{◌≡◌, ◌∙◌, ap, sym, ℕ, length}
use Rattle.std.specs.Prelude.{◌==◌, position, unwrap_or}
use Rattle.ag_model.specs.declared.answer.SuspectRow.{SuspectRow}
use Rattle.ag_suspect.proofs.Changed.{first-or-behind}
use Rattle.ag_suspect.proofs.suspects.Suspects.place_of.Goals as goal

pub returns : goal.returns
returns c =
    let test = λ (row : SuspectRow). row.page == c.args.page in
    let rows = c.args.self.now in
    let view : c.as_slice.result.now ≡ rows = cc (c.as_slice.ensures.value, c.self.view_is) in
    let found : c.first_place.result ≡ position test rows = c.first_place.ensures ∙ ap (position test) view in
    let count : c.len.result ≡ length rows = c.len.ensures ∙ sym c.as_slice.ensures.len ∙ ap length view in
    c.unwrap_or.ensures ∙ ap (λ r. unwrap_or r c.len.result) found ∙ ap (λ (n : ℕ). unwrap_or (position test rows) n) count ∙ first-or-behind test rows
