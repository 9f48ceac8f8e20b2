use Rattle.ag_model.specs.Proper.{RisesFrom, terms}
use Rattle.ag_law_proper.proofs.Runs.{logs_have}
use Rattle.ag_law_proper.proofs.Rising.{TermPlace, rise_law, rising_terms}
use Rattle.ag_law_proper.specs.Places.{EachPlace}
use Rattle.ag_law_proper.proofs.terms_rise.Goals as goal

pub returns : goal.returns
returns c = record { rise = λ config es h is. logs_have (λ log. RisesFrom 0 (terms log)) (EachPlace TermPlace) (λ x. EachPlace TermPlace x.log) config es (rise_law config.pages) rising_terms h is }
