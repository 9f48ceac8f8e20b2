-- Where an event happens, as the rules see it.
use Rattle.std.specs.Prelude.{List, []}
use Rattle.ag_model.specs.declared.config.Mode.{Mode}
use Rattle.ag_node.specs.declared.site.Site.{Site}
use Rattle.ag_rules.specs.Plan.{Here}

-- the place of an event that asks for no modes
abbrev pub here_at : Site → Here
here_at site = record { number = site.number; pages = site.pages; modes = []; store = site.store }

-- the same, where the replicas have these modes
abbrev pub here_among : Site → List Mode → Here
here_among site modes = record { number = site.number; pages = site.pages; modes = modes; store = site.store }
