-- What a writer has at hand is what the query of a function is made of.
use Rattle.std.proofs.Common.{◌≡◌, ap, ◌∙◌, subst, ℕ, List, length, Option, Some, None, IfSome}
use Rattle.away_trees.specs.declared.queries.Expr.{Expr}
use Rattle.away_trees.specs.declared.queries.Query.{Query}
use Rattle.away_trees.specs.declared.statements.Function.{Function}
use Rattle.away_types.specs.declared.slots.Slot.{Slot}
use Rattle.sql_meaning.specs.Names.{bare}
use Rattle.block_forms.specs.declared.forms.Goto.{Goto}
use Rattle.block_forms.specs.declared.forms.Ssa.{Ssa}
use Rattle.block_forms.specs.Expressions.{expressions}
use Rattle.call_forms.specs.declared.forms.Anf.{Anf}
use Rattle.call_forms.specs.Columned.{type_of_name}
use Rattle.call_forms.specs.Templated.{type_or_bigint, types_of}
use Rattle.turn_template.specs.TurnTemplate.{Plan, told_by}
use Rattle.turn_bodies.specs.declared.unfolding.Unfolded.{Unfolded}
use Rattle.turn_terms.specs.Sameness.{same}
use Rattle.turn_terms.specs.declared.writer.Writer.{Writer}
use Rattle.turn_query.specs.FilledTurns.{IsFitting, heads_turn, whole}
use Rattle.turn_query.specs.Fitting.{FittingTurns}
use Rattle.turn_query.specs.TurnTree as tree
use Rattle.turn_query.specs.TurnsQuery.{IsTurnsQuery, called_labels, turn_steps, template_of}
use Rattle.turn_query.proofs.TreeIsTemplate.{plans_same, tree_is_template}

module _ (f : Function) (slots : List Slot) (g : Goto) (z : Ssa) (a : Anf) (x : Unfolded) (tables asked : ℕ) (w : Writer)
    (table : w.table.now ≡ expressions f) (slots_are : w.slots.now ≡ slots) (names : w.names.now ≡ z.names) (result : w.result ≡ f.result)
    (columns : w.columns.now ≡ x.tail.columns) where
  abbrev heads : List ℕ
  heads = called_labels x

  steps_are : (heads_turn w a x.tail heads).steps ≡ turn_steps f slots z a x.tail g.entry heads
  steps_are =
      (λ i. let p : Plan = tree.heads_turn (table i) (λ n. type_or_bigint (type_of_name (slots_are i) (names i) n)) (columns i) (result i) a x.tail heads in p.steps)
      ∙ ap (λ (p : Plan). p.steps) (plans_same (expressions f) (types_of slots z) f.result a x.tail g.entry (told_by same heads) (tree.width_of (length x.tail.columns)) 0 heads)

  query_is : (turns : ℕ) → bare (whole w a x.tail g.entry tables heads turns) ≡ bare (template_of f slots z a x.tail g.entry tables heads turns)
  query_is turns =
      (λ i. bare (tree.tree (table i) (λ n. type_or_bigint (type_of_name (slots_are i) (names i) n)) (columns i) (result i) a x.tail g.entry tables heads turns))
      ∙ tree_is_template (expressions f) (types_of slots z) f.result a x.tail g.entry tables heads turns

  is_turns_query : (q : Query) → IsFitting w a x g.entry tables asked q → IsTurnsQuery f slots g z a x tables asked q
  is_turns_query q is = record {
    turns = is.turns;
    fitting = subst (λ (es : List Expr). FittingTurns (length es) asked is.turns) steps_are is.fitting;
    query = ap bare is.query ∙ query_is is.turns;
  }

  pub may_be_turns_query : (found : Option Query) → IfSome found (IsFitting w a x g.entry tables asked)
      → IfSome found (IsTurnsQuery f slots g z a x tables asked)
  may_be_turns_query None is = is
  may_be_turns_query (Some q) is = is_turns_query q is
