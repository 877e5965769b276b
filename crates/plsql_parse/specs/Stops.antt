-- What stands behind a part where it ends.
use Rattle.std.specs.Prelude.{◌≡◌, Bool, true, false, List, []}
use Rattle.away_grammar.specs.declared.grammar.Mark.{Mark}
use Rattle.away_grammar.specs.declared.grammar.Mark.TheVariants as m
use Rattle.away_grammar.specs.Terminals.{Terminal}
use Rattle.away_grammar.specs.FunctionGrammar.{
  Part,
  decls,
  default,
  statements,
  branch,
  elsifs,
  whens,
  otherwise,
  condition,
}
use Rattle.away_grammar.specs.FunctionGrammar.{
  block,
  repeated,
  kind,
  step,
  body,
  targets,
  into,
  clauses,
  parameters,
  attributes,
  function,
}
use Rattle.sql_text.specs.Plans.{Begins}
use Rattle.plsql_parse.specs.Sorts.{is_name}
use Rattle.plsql_parse.specs.Bodies.{next, closes}
use Rattle.plsql_parse.specs.Headers.{is_over}

-- the marks behind the arms of IF and CASE
abbrev pub closes_arms : Mark → Bool
closes_arms m.End = true
closes_arms m.Else = true
closes_arms _ = false

-- What stands next ends the part. A part that has an end of its own needs nothing.
abbrev pub StopsPart : Part → List Terminal → Type 0
StopsPart decls ts = Begins ts m.Begin
StopsPart default ts = Begins ts m.Semicolon
StopsPart statements ts = next closes ts ≡ true
StopsPart branch ts = next closes ts ≡ true
StopsPart elsifs ts = next closes_arms ts ≡ true
StopsPart whens ts = next closes_arms ts ≡ true
StopsPart otherwise ts = Begins ts m.End
StopsPart condition ts = Begins ts m.Semicolon
StopsPart targets ts = ¬ (Begins ts m.Comma)
StopsPart into ts = ¬ (Begins ts m.Comma)
StopsPart (clauses list) ts = Begins ts m.Semicolon
StopsPart (block label) ts = is_name ts ≡ false
StopsPart (repeated label) ts = is_name ts ≡ false
StopsPart kind ts = Begins ts m.Loop
StopsPart step ts = Begins ts m.Loop
StopsPart body ts = ts ≡ []
StopsPart parameters ts = Begins ts m.Close
StopsPart attributes ts = is_over ts ≡ true
StopsPart (function inside) ts = ts ≡ []
StopsPart _ ts = Unit {0}
