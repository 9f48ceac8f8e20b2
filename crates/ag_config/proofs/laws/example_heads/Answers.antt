use Rattle.std.proofs.Common.{refl}
use Rattle.std.specs.Str.{chars, is_utf8}
use Rattle.toml.proofs.OnLiterals.{toml_on_literals}
use Rattle.ag_config.specs.Head.{config_of, config_of_head}
use Rattle.ag_config.proofs.laws.example_heads.Goals as goal

pub returns-clause-empty : goal.returns-clause-empty
unfolding toml_on_literals config_of config_of_head is_utf8 chars
returns-clause-empty c = refl

pub returns-clause-pages : goal.returns-clause-pages
unfolding toml_on_literals config_of config_of_head is_utf8 chars
returns-clause-pages c = refl

pub returns-clause-unknown : goal.returns-clause-unknown
unfolding toml_on_literals config_of config_of_head is_utf8 chars
returns-clause-unknown c = refl

pub returns-clause-replicas : goal.returns-clause-replicas
unfolding toml_on_literals config_of config_of_head is_utf8 chars
returns-clause-replicas c = refl
