-- What holds of the expressions of a function's file.
use Rattle.std.specs.Prelude.{ℕ, List}
use Rattle.away_trees.specs.declared.statements.Function.{Function}
use Rattle.away_grammar.specs.FunctionGrammar.{ReadsFunction}
use Rattle.plsql_parse.specs.Refusals.{MayBeRead, most_nesting}
use Rattle.block_forms.specs.Expressions.{sources, whole_select}
use Rattle.block_forms.specs.Places.{Each}
use Rattle.cte_prints.specs.Derivation.{IsReadWithin}

-- Each expression of a function that a file reads as is read from writable terminals, with no more
-- brackets one inside another than the body may nest. So is the select of a SELECT INTO, without
-- INTO and in brackets, since the statement stands in a block.
abbrev pub SourcesAreRead : Type 0
SourcesAreRead = (bytes : List ℕ) (f : Function) → MayBeRead bytes → ReadsFunction bytes f
    → Each (IsReadWithin most_nesting) (sources whole_select f.body)
