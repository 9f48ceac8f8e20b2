use Rattle.std.proofs.Common.{◌≡◌, true, ap, ◌∙◌}
use Rattle.ag_store.specs.Views.{StoreView}
use Rattle.ag_node.specs.Homes.{Home, applied_home, home_with}
use Rattle.ag_node.proofs.HomesOf.{home_does, up_sound}
use Rattle.ag_node.proofs.home.Home.apply_next.Goals.{in-Ok, in-Err}
use Rattle.ag_node.proofs.home.Home.apply_next.Goals as goal

pub returns-clause-home : goal.returns-clause-home
returns-clause-home g c =
    let n = c.self.inside in
    let sound : n.store.sound ≡ true = up_sound n.leads n.follows n.pages n.store (ap (λ (x : Home). x.activity.up) c.self.view_is ∙ c.requires.up) in
    elim c.match-apply_next.branch [
      | in-Ok w ↦ rw w.result-is (home_does n.leads n.follows n.pages n.store c.apply_next.new.self c.args.self.now (λ h. applied_home h c.args.stripe w.in-Ok.lsn) c.self.view_is sound (ap (λ (x : StoreView). x.sound) w.in-Ok.ensures.store ∙ sound) (ap (home_with n.leads n.follows) w.in-Ok.ensures.store))
      | in-Err w ↦ rw w.result-is tt
    ]
