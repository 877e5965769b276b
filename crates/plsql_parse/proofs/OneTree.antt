-- The terminals of a part have one tree.
use Rattle.std.proofs.Common.{◌≡◌, List, Some, None, ap}
use Rattle.away_grammar.specs.Terminals.{Terminal}
use Rattle.away_grammar.specs.FunctionGrammar.{Part, PartTree, ReadsPart}
use Rattle.sql_text.specs.Plans.{Runs}
use Rattle.sql_text.proofs.Plans.{one}
use Rattle.std.proofs.lemmas.Option.{same_Some}
use Rattle.plsql_parse.specs.Sorts.{AnyTree, part}
use Rattle.plsql_parse.specs.Plans.{any_plan, part_plan}
use Rattle.plsql_parse.specs.Stops.{StopsPart}
use Rattle.plsql_parse.proofs.Complete.{complete}

pub one_tree : {p : Part} {ts : List Terminal} {x y : PartTree p} {rest other : List Terminal} → ReadsPart p ts x rest → StopsPart p rest → ReadsPart p ts y other → StopsPart p other → (x ≡ y) × (rest ≡ other)
one_tree {x = x} {y = y} {rest = rest} {other = other} d stops e ends =
    let same : Some (x, rest) ≡ Some (y, other) = one (complete e ends) (complete d stops) in
    let pair : (x, rest) ≡ (y, other) = same_Some _ _ same in
    (ap (λ p. p.0) pair, ap (λ p. p.1) pair)

-- Where the plan gives none, nothing is read that ends there.
pub nothing_read : {p : Part} {ts : List Terminal} {x : PartTree p} {rest : List Terminal} → Runs AnyTree any_plan (part p) (part_plan p) ts None → ReadsPart p ts x rest → StopsPart p rest → ⊥
nothing_read d e stops = let same = one d (complete e stops) in cc same
