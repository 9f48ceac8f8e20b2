use Rattle.std.proofs.Common.{subst, sym}
use Rattle.std.specs.List.Sorted.{IsNonDecreasingBy}
use Rattle.ag_model.specs.declared.config.TermStart.{TermStart}
use Rattle.ag_model.specs.declared.record.Log.{Log}
use Rattle.ag_model.specs.Starts.{term_starts}
use Rattle.ag_ends.proofs.Rise.{rise}
use Rattle.ag_ends.proofs.CutStarts.{starts_in_order}
use Rattle.ag_logstore.proofs.Cuts.{kept_less, IsCut}
use Rattle.ag_logstore.proofs.hardened.HardenedLog.cut.Goals as goal

pub cut_starts-requires : goal.cut_starts-requires
cut_starts-requires c = subst (IsNonDecreasingBy (λ (s : TermStart). s.lsn)) (sym c.self.invariant.starts)
    (starts_in_order 0 _ (term_starts c.self.inside.records) (rise 0 c.self.inside.records))

pub invariant_of-self : goal.invariant_of-self
invariant_of-self c =
    let n = c.self.inside in
    let block = subst (λ (log : Log). IsCut 0 c.args.end log.ends) (sym c.self.view_is) c.requires in
    let k = kept_less (record { records = n.records; ends = n.ends.items }) n.starts.items n.sectors c.args.end c.self.invariant block in
    rw (c.cut_records.ensures, c.cut_blocks-self-inside.ensures.ends, c.cut_starts.ensures, c.cut_blocks-self-inside.ensures.sectors, c.as_slice.ensures) k
