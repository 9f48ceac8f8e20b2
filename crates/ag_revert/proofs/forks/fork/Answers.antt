use Rattle.std.proofs.Common.{◌∙◌, length, ap, arith}
use Rattle.ag_model.specs.Starts.{end_before, fork_of_starts, term_starts}
use Rattle.ag_revert.proofs.Starts.{fork_by_common, rest_whole}
use Rattle.ag_revert.proofs.Parting.{fork_of_logs}
use Rattle.ag_revert.proofs.forks.fork.Goals as goal

told : goal.returns-clause-starts
told c =
    let n = c.common_starts-common.result in
    let one = c.first_end.ensures ∙ ap (λ ss. end_before ss c.args.own_end) (rest_whole c.args.own.now n (omega (arith, c.common_starts-common.ensures.within))) in
    let two = c.first_end-2.ensures ∙ ap (λ ss. end_before ss c.args.other_end) (rest_whole c.args.other.now n (omega (arith, c.common_starts-common.ensures.within))) in
    let fork = fork_by_common c.args.own.now c.args.other.now c.args.own_end c.args.other_end n c.common_starts-common.ensures.value in
    omega (arith, c.min.ensures, one, two, fork)

pub returns-clause-starts : goal.returns-clause-starts
returns-clause-starts c = told c

pub returns-clause-logs : goal.returns-clause-logs
returns-clause-logs c = λ a b own end other other_end share.
    told c
    ∙ ap (λ ss. fork_of_starts ss c.args.own_end c.args.other.now c.args.other_end) own
    ∙ ap (λ e. fork_of_starts (term_starts a) e c.args.other.now c.args.other_end) end
    ∙ ap (λ ts. fork_of_starts (term_starts a) (length a) ts c.args.other_end) other
    ∙ ap (λ e. fork_of_starts (term_starts a) (length a) (term_starts b) e) other_end
    ∙ fork_of_logs a b share
