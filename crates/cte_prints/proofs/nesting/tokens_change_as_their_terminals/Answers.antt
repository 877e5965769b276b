use Rattle.cte_prints.proofs.TokenChanges.{changes_alike}
use Rattle.cte_prints.proofs.nesting.tokens_change_as_their_terminals.Goals as goal

pub returns : goal.returns
returns c = changes_alike
