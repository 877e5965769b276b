-- Each entry of the fixed list stands at its position, with its expression over its slots.
use Rattle.std.proofs.Common.{◌≡◌, refl, ℕ, zero, suc, List, [], ◌∷◌, get_or}
use Rattle.std.specs.Prelude.{slice_get, Some}
use Rattle.away_values.specs.declared.types.Ty.TheVariants as ty
use Rattle.away_trees.specs.declared.queries.Expr.{Expr}
use Rattle.away_trees.specs.declared.queries.Expr.TheVariants as expr
use Rattle.away_trees.specs.declared.queries.Expr.TheBlock as e
use Rattle.sql_meaning.specs.Reads.{slots_of}
use Rattle.block_forms.specs.declared.fixed_list.Fixed.{Fixed}
use Rattle.block_forms.specs.declared.fixed_list.Fixed.TheVariants as fix
use Rattle.block_forms.specs.FixedList.{entries, fixed_list, position, expression, slots}
use Rattle.block_forms.specs.Laws.{FixedListStands}

entry_stands : (x : Fixed) → slice_get entries (position x) ≡ Some x
entry_stands (fix.Null ty.Bigint) = refl
entry_stands (fix.Null ty.Boolean) = refl
entry_stands (fix.Null ty.Text) = refl
entry_stands (fix.Null ty.Integer) = refl
entry_stands (fix.IsNull ty.Bigint) = refl
entry_stands (fix.IsNull ty.Boolean) = refl
entry_stands (fix.IsNull ty.Text) = refl
entry_stands (fix.IsNull ty.Integer) = refl
entry_stands fix.NotPositive = refl
entry_stands fix.AtMost = refl
entry_stands fix.AtLeast = refl
entry_stands fix.PastGreatest = refl
entry_stands fix.PastLeast = refl
entry_stands fix.Sum = refl
entry_stands fix.Difference = refl
entry_stands fix.One = refl
entry_stands fix.Copy = refl

expression_stands : (x : Fixed) → slice_get fixed_list (position x) ≡ Some (expression x)
expression_stands (fix.Null ty.Bigint) = refl
expression_stands (fix.Null ty.Boolean) = refl
expression_stands (fix.Null ty.Text) = refl
expression_stands (fix.Null ty.Integer) = refl
expression_stands (fix.IsNull ty.Bigint) = refl
expression_stands (fix.IsNull ty.Boolean) = refl
expression_stands (fix.IsNull ty.Text) = refl
expression_stands (fix.IsNull ty.Integer) = refl
expression_stands fix.NotPositive = refl
expression_stands fix.AtMost = refl
expression_stands fix.AtLeast = refl
expression_stands fix.PastGreatest = refl
expression_stands fix.PastLeast = refl
expression_stands fix.Sum = refl
expression_stands fix.Difference = refl
expression_stands fix.One = refl
expression_stands fix.Copy = refl

pub reads_its_slots : (x : Fixed) → slots_of (expression x) ≡ slots x
unfolding e.hidden-the_row-Expr-0 e.hidden-the_row-Expr-Chain-1-2-1 denote.Hole.Carrier.hidden
reads_its_slots (fix.Null t) = refl
reads_its_slots (fix.IsNull t) = refl
reads_its_slots fix.NotPositive = refl
reads_its_slots fix.AtMost = refl
reads_its_slots fix.AtLeast = refl
reads_its_slots fix.PastGreatest = refl
reads_its_slots fix.PastLeast = refl
reads_its_slots fix.Sum = refl
reads_its_slots fix.Difference = refl
reads_its_slots fix.One = refl
reads_its_slots fix.Copy = refl

got : (xs : List Expr) (i : ℕ) (x d : Expr) → slice_get xs i ≡ Some x → get_or xs i d ≡ x
got [] i x d e = absurd (cc)
got (y ∷ ys) zero x d e = cc
got (y ∷ ys) (suc i) x d e = got ys i x d e

pub found : (x : Fixed) → get_or fixed_list (position x) expr.Null ≡ expression x
found x = got fixed_list (position x) (expression x) expr.Null (expression_stands x)

pub list_stands : FixedListStands
list_stands = record { entry = entry_stands; expression = expression_stands; slots = reads_its_slots; many = refl }
