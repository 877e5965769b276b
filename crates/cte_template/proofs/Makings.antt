-- What holds of what a writer has at hand holds of what the query of the function is made of.
use Rattle.std.proofs.Common.{◌≡◌, ◌∙◌, ℕ, List, subst}
use Rattle.away_trees.specs.declared.queries.Expr.{Expr}
use Rattle.away_trees.specs.declared.statements.Function.{Function}
use Rattle.away_types.specs.declared.slots.Slot.{Slot}
use Rattle.block_forms.specs.declared.forms.Ssa.{Ssa}
use Rattle.block_forms.specs.Expressions.{expressions}
use Rattle.call_forms.specs.declared.forms.Anf.{Anf}
use Rattle.call_forms.specs.declared.forms.Tail.{Tail}
use Rattle.call_forms.specs.Columned.{type_of_name}
use Rattle.call_forms.specs.Templated.{type_or_bigint}
use Rattle.cte_template.specs.Making.{Making, making_of}

module _ (f : Function) (slots : List Slot) (z : Ssa) (a : Anf) (r : Tail) (P : Making → Type 0) where
  abbrev at_hand : List Expr → List Slot → List ℕ → Making
  at_hand ts ss ns = record { table = ts; types = λ n. type_or_bigint (type_of_name ss ns n); result = f.result; anf = a; tail = r }

  pub of_function : (ts : List Expr) (ss : List Slot) (ns : List ℕ) → ts ≡ expressions f → ss ≡ slots → ns ≡ z.names
      → P (record { table = ts; types = λ n. type_or_bigint (type_of_name ss ns n); result = f.result; anf = a; tail = r }) → P (making_of f slots z a r)
  of_function ts ss ns table slots_are names h =
      subst (λ ns'. P (at_hand (expressions f) slots ns')) names (subst (λ ss'. P (at_hand (expressions f) ss' ns)) slots_are (subst (λ ts'. P (at_hand ts' ss ns)) table h))
