use Rattle.std.proofs.Common.{◌≡◌, ◌∙◌, ◌<◌, ◌++◌, ◌∷◌, [], ◌&&◌, sym, ap, eqb, arith, Bool, length, get_or, option_to_list}
use Rattle.ag_model.specs.declared.value.Version.{Version}
use Rattle.ag_model.specs.Page.{greatest}
use Rattle.ag_page.specs.Image.{image_bytes}
use Rattle.ag_version.proofs.Greatest.{greatest_more, greatest_same}
use Rattle.ag_inplace.proofs.Listed.{listed-at, no_version}
use Rattle.ag_inplace.proofs.rows.last_own.Goals as goal
use Rattle.ag_inplace.proofs.rows.last_own.Goals.{then-is_own, else-is_own}

pub is_own-requires : goal.is_own-requires
is_own-requires c =
    let ws = c.requires.0 in
    let h = c.requires.1 in
    let count : c.args.d.now.count ≡ length ws = h.count in
    (get_or ws c.loop-k.k no_version, listed-at (image_bytes c.args.i.now) c.args.d.now ws c.loop-k.k c.from-at.result h (omega (arith, c.from-k-end.ensures, c.loop-k-test.true)) c.from-at.ensures)

pub version_in-requires : goal.version_in-requires
version_in-requires c =
    let ws = c.requires.0 in
    let h = c.requires.1 in
    let count : c.args.d.now.count ≡ length ws = h.count in
    (get_or ws c.loop-k.k no_version, listed-at (image_bytes c.args.i.now) c.args.d.now ws c.loop-k.k c.from-at.result h (omega (arith, c.from-k-end.ensures, c.loop-k-test.true)) c.from-at.ensures)

pub loop-k-preserved : goal.loop-k-preserved
loop-k-preserved c = λ ws h.
    let p : Version → Bool = λ w. (eqb w.key c.args.key && eqb w.txn c.args.txn) in
    let k = c.loop-k.k in
    let count : c.args.d.now.count ≡ length ws = h.count in
    let lt : k < length ws = omega (arith, c.from-k-end.ensures, c.loop-k-test.true) in
    let here = listed-at (image_bytes c.args.i.now) c.args.d.now ws k c.from-at.result h lt c.from-at.ensures in
    let test = c.is_own.ensures (get_or ws k no_version) here in
    elim c.if-is_own.branch [
      | then-is_own w ↦
          greatest_more p ws k no_version c.loop-k.best c.if-is_own.best lt (sym test ∙ w.if-is_own.true) (c.loop-k.invariant ws h)
          (ap option_to_list w.best-is ∙ w.later-best.ensures ∙ ap (λ (x : Version). greatest (option_to_list c.loop-k.best ++ x ∷ [])) (w.version_in.ensures (get_or ws k no_version) here))
      | else-is_own w ↦ ap option_to_list w.best-is ∙ greatest_same p ws k no_version c.loop-k.best lt (sym test ∙ w.if-is_own.false) (c.loop-k.invariant ws h)
    ]
