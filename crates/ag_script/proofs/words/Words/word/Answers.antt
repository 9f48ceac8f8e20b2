use Rattle.std.proofs.Common.{◌≡◌, ◌+◌, ◌-◌, ◌∷◌, List, ℕ, take, drop, length, Some, sym, ap, ◌∙◌, eqb, arith}
use Rattle.std.proofs.lemmas.List.{take_all, length-drop}
use Rattle.ag_script.specs.Lines.{words}
use Rattle.ag_script.specs.ReadWords.{words_left}
use Rattle.ag_script.proofs.Cuts.{cut_none, cut_some}
use Rattle.ag_script.proofs.words.Words.word.Goals as goal

pub returns-in-None : goal.returns-in-None
returns-in-None c =
    let e : c.self.inside.left ≡ Some c.in_ok-line.line = grind arith in
    sym c.self.view_is ∙ ap words_left e ∙ cut_none (λ x. eqb x 32) c.in_ok-line.line.now (sym c.in-None.ensures)

pub returns-in-Some : goal.returns-in-Some
returns-in-Some c =
    let e : c.self.inside.left ≡ Some c.in_ok-line.line = grind arith in
    let line = c.in_ok-line.line.now in
    let at = c.in-Some.at in
    let rest : take (length line - (at + 1)) (drop (at + 1) line) ≡ drop (at + 1) line = take_all _ _ (omega (arith, length-drop (at + 1) line)) in
    sym c.self.view_is ∙ ap words_left e ∙ (cut_some (λ x. eqb x 32) line at (sym c.in-Some.ensures)).1 ∙ ap (λ (r : List ℕ). take at line ∷ words r) (sym rest)
