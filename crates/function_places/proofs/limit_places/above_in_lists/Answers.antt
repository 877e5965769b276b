use Rattle.std.proofs.Common.{subst, IfSome, map}
use Rattle.away_lex.specs.Lexed.{seen}
use Rattle.plsql_parse.specs.Plans.{FileGives}
use Rattle.function_places.proofs.LimitSteps.{above_in_lists}
use Rattle.function_places.proofs.limit_places.above_in_lists.Goals as goal

pub returns-in-Some : goal.returns-in-Some
returns-in-Some c =
    above_in_lists _ _ _ c.in-Some.f c.get.result.now _ c.get.ensures
    (subst (λ o. IfSome o (FileGives (map seen c.args.outer.now) (map seen c.args.inner.now))) c.in-Some.is c.in_ok-f.ensures) c.above_in.ensures
