-- The rule on answers has the greatest number, so it can be joined last.
use Rattle.std.proofs.Common.{◌≡◌, refl, sym, ap, ◌∙◌, Bool, true, false, if◌then◌else◌}
use Rattle.std.specs.Prelude.{Option, Some, None, nat_le}
use Rattle.away_names.specs.declared.rule.Rule.{Rule}
use Rattle.away_names.specs.declared.rule.Rule.TheVariants.{Duplicates, Names, Ambiguity, Tables, Labels, Constants, Defaults, Types, Reserved, Aggregates, Raises, Recursion, Answer}
use Rattle.away_names.specs.Notes.{joined, breaks}
use Rattle.away_names.specs.Rules.{lesser, number}
use Rattle.away_trees.specs.declared.queries.Expr.TheViews.{out-Query}
use Rattle.away_trees.specs.declared.queries.Query.{Query}
use Rattle.away_trees.specs.declared.schemas.Schema.{Schema}
use Rattle.away_typing.specs.ParameterLists.{params_of}
use Rattle.away_typing.specs.RowQueries.{judged_rows, shape_note}
use Rattle.away_typing.specs.Wholes.{judged, recursion, uses_note}
use Rattle.away_types.specs.CheckedQueries.{judged_query, query_note, resolved_file}
use Rattle.away_types.specs.CheckedRows.{rows_judged, rows_note}
use Rattle.rule_tests.specs.RowRules.{answer_broken, shape_of_query}

greatest : (r : Rule) → lesser (Some r) (Some Answer) ≡ Some r
unfolding lesser number
greatest Duplicates = refl
greatest Names = refl
greatest Ambiguity = refl
greatest Tables = refl
greatest Labels = refl
greatest Constants = refl
greatest Defaults = refl
greatest Types = refl
greatest Reserved = refl
greatest Aggregates = refl
greatest Raises = refl
greatest Recursion = refl
greatest Answer = refl

beside_none : (a : Option Rule) → lesser a None ≡ a
unfolding lesser
beside_none None = refl
beside_none (Some r) = refl

of_two : (r t : Rule) (first : Bool) → lesser (if first then Some r else Some t) (Some Answer) ≡ (if first then Some r else Some t)
of_two r t true = greatest r
of_two r t false = greatest t

abbrev answer_if : Bool → Option Rule
answer_if broken = if broken then Some Answer else None

pulled : (a b : Option Rule) (broken : Bool) → lesser a (lesser b (answer_if broken)) ≡ lesser (lesser a b) (answer_if broken)
unfolding lesser
pulled a b false = ap (lesser a) (beside_none b) ∙ sym (beside_none (lesser a b))
pulled None b true = refl
pulled (Some r) None true = refl
pulled (Some r) (Some t) true = ap (lesser (Some r)) (greatest t) ∙ sym (of_two r t (nat_le (number r) (number t)))

pulled_out : (a b c d : Option Rule) (broken : Bool)
    → lesser a (lesser b (lesser c (lesser d (answer_if broken)))) ≡ lesser (lesser a (lesser b (lesser c d))) (answer_if broken)
pulled_out a b c d broken =
    ap (λ x. lesser a (lesser b x)) (pulled c d broken) ∙ (ap (lesser a) (pulled b (lesser c d) broken) ∙ pulled a (lesser b (lesser c d)) broken)

pub but_one : (s : Schema) (q : Query) → (query_note s q).least ≡ lesser (rows_note s q).least (answer_broken s q)
unfolding judged judged_rows joined breaks
but_one s q =
    let f = resolved_file s q in
    let r = recursion s f.first.refers f.second.refers (out-Query f.query).recursive in
    pulled_out (joined f.note (uses_note f.query)).least (breaks Types (params_of f.query).clash).least r.note.least (shape_note (shape_of_query s q)).least _

pub same_params : (s : Schema) (q : Query) → (judged_query s q).params ≡ (rows_judged s q).params
unfolding judged judged_rows
same_params s q = refl
