use Rattle.std.proofs.Common.{◌≡◌, ℕ, List, [], ◌∷◌, sym, ap, ◌∙◌}
use Rattle.std.specs.Prelude.{map, string_bytes, codes}
use Rattle.std.proofs.lemmas.Slice.Eq.{bytes_eq-Decides}
use Rattle.ag_group.proofs.CommandWords.{one_text}
use Rattle.ag_group.proofs.words.is_play.Goals as goal

pub returns-in-len1 : goal.returns-in-len1
returns-in-len1 c =
    let text = c.as_str.result.now in
    let texts : map string_bytes c.args.words.now ≡ text ∷ [] = one_text c.args.words.now c.word-item.result text c.in-len1.len_at_least c.in-len1.len_below c.word-item.is c.as_str.ensures.value in
    let same = bytes_eq-Decides text (codes "play") in
    rw texts (λ yes. ap (λ (t : List ℕ). t ∷ []) (same.0 (sym c.eq.ensures ∙ yes)), λ e. c.eq.ensures ∙ same.1 (let h : text ≡ codes "play" = cc in h))
