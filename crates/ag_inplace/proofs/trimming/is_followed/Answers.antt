use Rattle.std.proofs.Common.{◌∙◌, sym, get_or, arith}
use Rattle.std.proofs.lemmas.List.Folds.{list_any_at}
use Rattle.ag_version.specs.Trimming.{follows}
use Rattle.ag_inplace.proofs.Listed.{no_version}
use Rattle.ag_inplace.proofs.Trims.{head-at, many-heads, none-more, none-all}
use Rattle.ag_inplace.proofs.trimming.is_followed.Goals as goal

pub returns-then-follows : goal.returns-then-follows
returns-then-follows c = λ x ys e is.
    let i = c.loop-w.w-index in
    let many = many-heads c.args.heads.now ys is in
    sym (list_any_at (follows c.args.horizon x) ys i no_version (omega (arith, c.loop-w-test.true)) (sym (c.follows.ensures x (get_or ys i no_version) e (head-at c.args.heads.now ys i _ is c.loop-w-test.true)) ∙ c.if-follows.true))

pub loop-w-preserved : goal.loop-w-preserved
loop-w-preserved c = λ x ys e is.
    let i = c.loop-w.w-index in
    let many = many-heads c.args.heads.now ys is in
    none-more (follows c.args.horizon x) ys i (omega (arith, c.loop-w-test.true)) (sym (c.follows.ensures x (get_or ys i no_version) e (head-at c.args.heads.now ys i _ is c.loop-w-test.true)) ∙ c.if-follows.false) (c.loop-w.invariant x ys e is)

pub returns : goal.returns
returns c = λ x ys e is.
    let many = many-heads c.args.heads.now ys is in
    sym (none-all (follows c.args.horizon x) ys c.loop-w.w-index (omega (arith, c.loop-w-test.false)) (c.loop-w.invariant x ys e is))
