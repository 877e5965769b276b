-- Calls that the check accepts are as the law of calls asks.
use Rattle.std.specs.Prelude.{ℕ, ◌<◌, ◌^◌, List, length}
use Rattle.away_grammar.specs.Texts.{ReadsQuery}
use Rattle.away_trees.specs.declared.queries.Query.{Query}
use Rattle.away_trees.specs.declared.schemas.Schema.{Schema}
use Rattle.away_trees.specs.declared.statements.Function.{Function}
use Rattle.away_types.specs.CheckedRows.{rows_judged}
use Rattle.block_forms.specs.declared.forms.Goto.{Goto}
use Rattle.inline_law.specs.Answers.{IsCalling}
use Rattle.inline_law.specs.Filled.{CallingSelect}
use Rattle.inline_calls.specs.Judged.{judged_query}
use Rattle.inline_calls.specs.Refusing.{AreCalls}
use Rattle.inline_calls.specs.Resolving.{resolved}

-- Where the check accepts the calls of a query that was read, the select is one of calls with the
-- parameters of the judged query. It and the arguments read tables of the schema alone, beside the
-- slots of the calls in its list; no aggregate stands in them; there is a call; and at each row
-- that is kept each call has an argument for each parameter, whose value, where it has one, is of
-- the sort of the parameter's type.
abbrev pub CallsFit : Type 0
CallsFit =
    (s : Schema) (f : Function) (goto : Goto) (bytes : List ℕ) (q : Query) (c : CallingSelect)
    → length s.tables < 2 ^ 64 → ReadsQuery bytes q → AreCalls s f goto q c
    → IsCalling s f (rows_judged s (judged_query f c)).params (resolved s f c)
