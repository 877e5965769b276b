-- What the plan of a part gives, the grammar reads.
use Rattle.std.proofs.Common.{List, Some, refl}
use Rattle.away_grammar.specs.Terminals.{Terminal}
use Rattle.away_grammar.specs.FunctionGrammar.{Part, PartTree, ReadsPart, decl, decls, default, statement, statements, branch, elsifs, whens, otherwise, condition, targets, into, clauses, block, repeated, kind, step, body, parameter, parameters, signature, attribute_of, attributes, function}
use Rattle.sql_text.specs.Plans.{Runs}
use Rattle.sql_text.specs.Descent.{plan}
use Rattle.sql_text.proofs.Holds.{Holds, Nothing, here, plan_gives}
use Rattle.sql_text.proofs.Sound.{all_hold}
use Rattle.plsql_parse.specs.Sorts.{AnySort, sql, part, AnyTree, ReadsAny}
use Rattle.plsql_parse.specs.Plans.{any_plan, part_plan}
use Rattle.plsql_parse.proofs.Lifted.{lifted_holds}
use Rattle.plsql_parse.proofs.HoldsMore.{PartHolds}
use Rattle.plsql_parse.proofs.SoundBodies.{targets_hold, into_holds, clauses_hold, default_holds, decl_holds, decls_hold, block_holds, repeated_holds, kind_holds, step_holds, branch_holds, elsifs_hold, whens_hold, otherwise_holds, condition_holds, statement_holds, statements_hold, body_holds}
use Rattle.plsql_parse.proofs.SoundHeaders.{parameter_holds, parameters_hold, signature_holds, attribute_holds, attributes_hold, function_holds}

part_holds : (p : Part) → PartHolds p (part_plan p) Nothing here
part_holds decl = decl_holds
part_holds decls = decls_hold
part_holds default = default_holds
part_holds statement = statement_holds
part_holds statements = statements_hold
part_holds branch = branch_holds
part_holds elsifs = elsifs_hold
part_holds whens = whens_hold
part_holds otherwise = otherwise_holds
part_holds condition = condition_holds
part_holds targets = targets_hold
part_holds into = into_holds
part_holds (clauses list) = clauses_hold list
part_holds (block label) = block_holds label
part_holds (repeated label) = repeated_holds label
part_holds kind = kind_holds
part_holds step = step_holds
part_holds body = body_holds
part_holds parameter = parameter_holds
part_holds parameters = parameters_hold
part_holds signature = signature_holds
part_holds attribute_of = attribute_holds
part_holds attributes = attributes_hold
part_holds (function inside) = function_holds inside

any_holds : (n : AnySort) → Holds ReadsAny n (any_plan n) Nothing here
any_holds (sql n) = lifted_holds (plan n) Nothing here (all_hold n)
any_holds (part p) = part_holds p

pub sound : {p : Part} {ts : List Terminal} {x : PartTree p} {rest : List Terminal} → Runs AnyTree any_plan (part p) (part_plan p) ts (Some (x, rest)) → ReadsPart p ts x rest
sound {p = p} {x = x} {rest = rest} d = plan_gives ReadsAny any_holds (part p) x rest d refl Nothing here (part_holds p) tt
