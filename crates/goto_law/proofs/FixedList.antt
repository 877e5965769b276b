-- The values of the entries of the fixed list, by what their slots hold.
use Rattle.std.proofs.Common.{◌≡◌, refl, Bool, true, false, pos, List, [], ◌∷◌, slice_get, Ok, Err}
use Rattle.away_values.specs.declared.operators.CmpOp.TheVariants as cmp
use Rattle.away_values.specs.declared.types.Ty.{Ty}
use Rattle.away_values.specs.declared.types.Ty.TheVariants as ty
use Rattle.away_values.specs.declared.values.Value.{Value}
use Rattle.away_values.specs.declared.values.Value.TheVariants as val
use Rattle.away_values.specs.Operators.{compare, is_null}
use Rattle.away_values.specs.Results.{Or, and_then, mapped}
use Rattle.away_trees.specs.declared.queries.Expr.TheBlock as b
use Rattle.sql_meaning.specs.Context.{Rows}
use Rattle.sql_meaning.specs.Parts.{chained}
use Rattle.plsql_meaning.specs.Loops.{reaches, leaves, counted}
use Rattle.block_forms.specs.declared.fixed_list.Fixed.{Fixed}
use Rattle.block_forms.specs.declared.fixed_list.Fixed.TheVariants as fix
use Rattle.block_forms.specs.Expressions.{entry_value}
use Rattle.block_forms.specs.FixedList.{fixed_list, position, in_range_entry, past_end_entry, next_entry}

-- the end of a chain
chain_ends : (r : Or Value) → and_then r (chained []) ≡ r
chain_ends (Ok v) = refl
chain_ends (Err c) = refl

chain_then : (r : Or Value) (f : Value → Value) → and_then (and_then r (chained [])) (λ v. Ok (f v)) ≡ mapped f r
chain_then (Ok v) f = refl
chain_then (Err c) f = refl

module _ (T : List Rows) where
  abbrev pub fixed_value : Fixed → List Value → Or Value
  fixed_value e vs = entry_value T (slice_get fixed_list (position e)) vs

  pub null_of : (t : Ty) → fixed_value (fix.Null t) [] ≡ Ok val.Null
  unfolding b.hidden-the_row-Expr-0 denote.Hole.Carrier.hidden
  null_of ty.Bigint = refl
  null_of ty.Boolean = refl
  null_of ty.Text = refl
  null_of ty.Integer = refl

  pub null_test : (t : Ty) (x : Value) → fixed_value (fix.IsNull t) (x ∷ []) ≡ Ok (val.Bool (is_null x))
  unfolding b.hidden-the_row-Expr-0 denote.Hole.Carrier.hidden
  null_test ty.Bigint x = refl
  null_test ty.Boolean x = refl
  null_test ty.Text x = refl
  null_test ty.Integer x = refl

  pub positive_test : (x : Value) → fixed_value fix.NotPositive (x ∷ []) ≡ Ok (compare cmp.Le x (val.Int (pos 0)))
  unfolding b.hidden-the_row-Expr-0 denote.Hole.Carrier.hidden
  positive_test x = refl

  pub one : fixed_value fix.One [] ≡ Ok (val.Int (pos 1))
  unfolding b.hidden-the_row-Expr-0 denote.Hole.Carrier.hidden
  one = refl

  pub copy : (x : Value) → fixed_value fix.Copy (x ∷ []) ≡ Ok x
  unfolding b.hidden-the_row-Expr-0 denote.Hole.Carrier.hidden
  copy x = refl

  pub range : (reverse : Bool) (x y : Value) → fixed_value (in_range_entry reverse) (x ∷ y ∷ []) ≡ Ok (reaches reverse x y)
  unfolding b.hidden-the_row-Expr-0 denote.Hole.Carrier.hidden
  range true x y = refl
  range false x y = refl

  pub end : (reverse : Bool) (x y : Value) → fixed_value (past_end_entry reverse) (x ∷ y ∷ []) ≡ leaves reverse x y
  unfolding b.hidden-the_row-Expr-0 b.hidden-the_row-Expr-Chain-1-2-1 denote.Hole.Carrier.hidden
  end true x y = chain_then _ (λ d. compare cmp.Gt d y)
  end false x y = chain_then _ (λ d. compare cmp.Lt d y)

  pub move : (reverse : Bool) (x y : Value) → fixed_value (next_entry reverse) (x ∷ y ∷ []) ≡ counted reverse x y
  unfolding b.hidden-the_row-Expr-0 b.hidden-the_row-Expr-Chain-1-2-1 denote.Hole.Carrier.hidden
  move true x y = chain_ends _
  move false x y = chain_ends _
