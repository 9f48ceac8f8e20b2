use Rattle.std.proofs.Common.{◌≡◌, true, ap, sym, ◌∙◌}
use Rattle.ag_node.specs.Homes.{Home, started_home}
use Rattle.ag_node.proofs.HomesOf.{home_does, started_sound, started_with}
use Rattle.ag_node.proofs.home.Home.start.Goals.{in-Ok, in-Err}
use Rattle.ag_node.proofs.home.Home.start.Goals as goal

pub returns-clause-home : goal.returns-clause-home
returns-clause-home g c =
    let n = c.self.inside in
    let sound : n.store.sound ≡ true = sym c.is_sound.ensures ∙ c.if-not-is_sound.false in
    elim c.match-start.branch [
      | in-Ok w ↦ rw w.result-is (home_does n.leads n.follows n.pages n.store c.start.new.self c.args.self.now (λ h. started_home h w.in-Ok.reach) c.self.view_is sound (started_sound n.store c.start.new.self w.in-Ok.reach w.in-Ok.ensures.store sound) (started_with n.leads n.follows n.store c.start.new.self w.in-Ok.reach w.in-Ok.ensures.store))
      | in-Err w ↦ rw w.result-is tt
    ]
