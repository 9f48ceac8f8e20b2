use Rattle.std.proofs.Common.{◌≡◌, ◌∙◌, sym, ap, true, false, cond, Bool, eqb, get_or, ℕ, List}
use Rattle.std.specs.List.{list_all}
use Rattle.ag_page.specs.declared.home.Got.TheVariants.{Sound, Torn}
use Rattle.ag_page.specs.Image.{marks}
use Rattle.ag_page.proofs.Founds.{found-is}
use Rattle.ag_page_t.proofs.home.ReadOnlyPageHome.fetch.Goals as goal

pub returns-then-all_same-clause-got : goal.returns-then-all_same-clause-got
returns-then-all_same-clause-got c =
    let image = c.args.self.now.image in
    let all : list_all (λ m. eqb (get_or (marks image) 0 0) m) (marks image) ≡ true = ap (λ (ms : List ℕ). list_all (λ m. eqb (get_or ms 0 0) m) ms) (sym c.marks.ensures) ∙ sym c.all_same.ensures ∙ c.if-all_same.true in
    sym (found-is image ∙ ap (λ (b : Bool). cond b Sound Torn) all)

pub returns-else-all_same-clause-got : goal.returns-else-all_same-clause-got
returns-else-all_same-clause-got c =
    let image = c.args.self.now.image in
    let all : list_all (λ m. eqb (get_or (marks image) 0 0) m) (marks image) ≡ false = ap (λ (ms : List ℕ). list_all (λ m. eqb (get_or ms 0 0) m) ms) (sym c.marks.ensures) ∙ sym c.all_same.ensures ∙ c.if-all_same.false in
    sym (found-is image ∙ ap (λ (b : Bool). cond b Sound Torn) all)
