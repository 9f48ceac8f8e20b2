use Rattle.std.proofs.Common.{◌≡◌, false, sym, subst, ◌∙◌, refl}
use Rattle.ag_rules.specs.Replica.{Following, no_following}
use Rattle.ag_replica.specs.Ups.{IsUp, replica_of}
use Rattle.ag_replica.proofs.Openings.{opened-replica, opened-up}
use Rattle.ag_replica.proofs.up.Up.opened.Goals as goal

pub returns-in-Ok-formatted-clause-replica : goal.returns-in-Ok-formatted-clause-replica
returns-in-Ok-formatted-clause-replica g c =
    let reads = g.D.Disk.reads in
    (λ i. replica_of reads (record {
      durable = c.in-Ok-formatted.durable;
      pool = c.in-Ok.memory.0;
      standing = record { cut_off = false; leads = c.args.leads; term = 1; state = c.state_of.result };
      following = c.none.ensures i;
      leading = c.args.leading;
    }))
    ∙ opened-replica reads c.args.pages c.args.leads c.args.leading c.in-Ok-formatted.durable c.in-Ok.memory.0 c.in-Ok-formatted.ensures.opened c.in-Ok.ensures.pool c.state_of.result c.state_of.ensures

pub returns-in-Ok-formatted-clause-up : goal.returns-in-Ok-formatted-clause-up
returns-in-Ok-formatted-clause-up g c =
    let reads = g.D.Disk.reads in
    subst (λ (f : Following). IsUp reads false (record {
      durable = c.in-Ok-formatted.durable;
      pool = c.in-Ok.memory.0;
      standing = record { cut_off = false; leads = c.args.leads; term = 1; state = c.state_of.result };
      following = f;
      leading = c.args.leading;
    })) (sym c.none.ensures)
    (opened-up reads c.args.pages c.args.leads c.args.leading c.in-Ok-formatted.durable c.in-Ok.memory.0 c.in-Ok-formatted.ensures.opened c.in-Ok.ensures.pool c.state_of.result c.state_of.ensures c.requires.low c.requires.high)
