use Rattle.cte_template.proofs.TreeIsTemplate.{tree_is_template}
use Rattle.cte_template.proofs.laws.the_tree_is_the_templates.Goals as goal

pub returns : goal.returns
returns c = λ m entry tables. tree_is_template m entry tables
