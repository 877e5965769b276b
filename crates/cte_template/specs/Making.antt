-- What a query is made of: the expressions by number, the types of names, the type of the result,
-- and the forms.
use Rattle.std.specs.Prelude.{ℕ, List, length}
use Rattle.away_trees.specs.declared.queries.Expr.{Expr}
use Rattle.away_trees.specs.declared.statements.Function.{Function}
use Rattle.away_types.specs.declared.slots.Slot.{Slot}
use Rattle.away_values.specs.declared.types.Ty.{Ty}
use Rattle.block_forms.specs.declared.forms.Ssa.{Ssa}
use Rattle.block_forms.specs.Expressions.{expressions}
use Rattle.call_forms.specs.declared.forms.Anf.{Anf}
use Rattle.call_forms.specs.declared.forms.Tail.{Tail}
use Rattle.call_forms.specs.Columned.{type_of_name}
use Rattle.call_forms.specs.Templated.{type_or_bigint, types_of}
use Rattle.cte_template.specs.declared.writer.Writer.{Writer}

pub record Making : Type 0 where
  pub table : List Expr
  pub types : ℕ → Ty
  pub result : Ty
  pub anf : Anf
  pub tail : Tail

-- what a writer has at hand
abbrev pub making : Writer → Making
making w = record {
  table = w.table.now;
  types = λ n. type_or_bigint (type_of_name w.slots.now w.names.now n);
  result = w.result;
  anf = w.anf.now;
  tail = w.tail.now;
}

-- what the query of a function is made of
abbrev pub making_of : Function → List Slot → Ssa → Anf → Tail → Making
making_of f slots ssa anf tail = record { table = expressions f; types = types_of slots ssa; result = f.result; anf = anf; tail = tail }
