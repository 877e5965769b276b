-- The entries of the fixed list have their types, over slots of the types that they are made for.
use Rattle.std.proofs.Common.{◌≡◌, refl, ap, sym, ◌∙◌, subst, ℕ, zero, suc, Bool, true, false, List, [], ◌∷◌, ◌++◌, length, get_or, slice_get, Some}
use Rattle.std.proofs.lemmas.Option.{same_Some}
use Rattle.away_values.specs.declared.types.Ty.{Ty}
use Rattle.away_values.specs.declared.types.Ty.TheVariants as ty
use Rattle.away_values.specs.Operators.{literal_type}
use Rattle.away_trees.specs.declared.queries.Expr.{Expr}
use Rattle.away_trees.specs.declared.queries.Expr.TheVariants as expr
use Rattle.away_trees.specs.declared.queries.Expr.TheBlock as b
use Rattle.away_types.specs.declared.slots.Slot.{Slot}
use Rattle.away_typing.specs.Aggregates.{outside, unused, either, of_slot}
use Rattle.away_typing.specs.Kinds.{fits, same, only_if, meet, meet_types, is_number, is_integer, are_integers, is_right}
use Rattle.away_typing.specs.Typing.{kind_at, pair, passed, cast_kind}
use Rattle.away_typing.specs.Trees.{kind_of, uses_of}
use Rattle.sql_meaning.specs.Reads.{slots_of}
use Rattle.block_forms.specs.declared.fixed_list.Fixed.{Fixed}
use Rattle.block_forms.specs.declared.fixed_list.Fixed.TheVariants as fix
use Rattle.block_forms.specs.FixedList.{fixed_list, position, in_range_entry, past_end_entry, next_entry}
use Rattle.block_forms.specs.Patterns.{entry_term, null_of, is_null, not_positive, one, copy, in_range, leaves_range, moved}
use Rattle.block_forms.specs.Places.{EachPair}
use Rattle.cte_types.specs.Typed.{HasTypeBy}
use Rattle.cte_types.proofs.PartTypes.{Has}
use Rattle.cte_types.proofs.Standing.{type_at, get_behind}

abbrev entry : Fixed → Expr
entry x = get_or fixed_list (position x) expr.Null

-- ---- one entry: its slots, its kind over slots of these types, and no aggregate

record Entry (tables : List (List Ty)) (x : Fixed) (read : List ℕ) (slots : List Ty) (t : Ty) : Type 0 where
  reads : slots_of (entry x) ≡ read
  kind : fits t (kind_of (entry x) (record { slots = slots; frames = []; tables = tables })) ≡ true
  limited : (uses_of (entry x)).limited ≡ false
  outside_list : (outside (uses_of (entry x))).misused ≡ false

abbrev no_slot : List ℕ
no_slot = []

abbrev a_alone : List ℕ
a_alone = 0 ∷ []

abbrev a_and_b : List ℕ
a_and_b = 0 ∷ 1 ∷ []

abbrev numbers : List Ty
numbers = ty.Integer ∷ ty.Integer ∷ []

module _ (tables : List (List Ty)) where
  null_typed : (t : Ty) → Entry tables (fix.Null t) no_slot [] t
  unfolding b.hidden-the_row-Expr-0 denote.Hole.Carrier.hidden kind_of uses_of outside unused fits same cast_kind
  null_typed ty.Bigint = record { reads = refl; kind = refl; limited = refl; outside_list = refl }
  null_typed ty.Boolean = record { reads = refl; kind = refl; limited = refl; outside_list = refl }
  null_typed ty.Text = record { reads = refl; kind = refl; limited = refl; outside_list = refl }
  null_typed ty.Integer = record { reads = refl; kind = refl; limited = refl; outside_list = refl }

  test_typed : (t : Ty) → Entry tables (fix.IsNull t) a_alone (t ∷ []) ty.Boolean
  unfolding b.hidden-the_row-Expr-0 denote.Hole.Carrier.hidden kind_of uses_of outside unused of_slot fits same kind_at passed is_right only_if
  test_typed ty.Bigint = record { reads = refl; kind = refl; limited = refl; outside_list = refl }
  test_typed ty.Boolean = record { reads = refl; kind = refl; limited = refl; outside_list = refl }
  test_typed ty.Text = record { reads = refl; kind = refl; limited = refl; outside_list = refl }
  test_typed ty.Integer = record { reads = refl; kind = refl; limited = refl; outside_list = refl }

  positive_typed : Entry tables fix.NotPositive a_alone (ty.Integer ∷ []) ty.Boolean
  unfolding b.hidden-the_row-Expr-0 denote.Hole.Carrier.hidden kind_of uses_of outside unused either of_slot fits same kind_at is_right only_if meet meet_types literal_type
  positive_typed = record { reads = refl; kind = refl; limited = refl; outside_list = refl }

  one_typed : Entry tables fix.One no_slot [] ty.Integer
  unfolding b.hidden-the_row-Expr-0 denote.Hole.Carrier.hidden kind_of uses_of outside unused fits same literal_type
  one_typed = record { reads = refl; kind = refl; limited = refl; outside_list = refl }

  copy_typed : (t : Ty) → Entry tables fix.Copy a_alone (t ∷ []) t
  unfolding b.hidden-the_row-Expr-0 denote.Hole.Carrier.hidden kind_of uses_of outside unused of_slot fits same kind_at
  copy_typed ty.Bigint = record { reads = refl; kind = refl; limited = refl; outside_list = refl }
  copy_typed ty.Boolean = record { reads = refl; kind = refl; limited = refl; outside_list = refl }
  copy_typed ty.Text = record { reads = refl; kind = refl; limited = refl; outside_list = refl }
  copy_typed ty.Integer = record { reads = refl; kind = refl; limited = refl; outside_list = refl }

  range_typed : (reverse : Bool) → Entry tables (in_range_entry reverse) a_and_b numbers ty.Boolean
  unfolding b.hidden-the_row-Expr-0 denote.Hole.Carrier.hidden kind_of uses_of outside unused either of_slot fits same kind_at is_right only_if meet meet_types literal_type
  range_typed true = record { reads = refl; kind = refl; limited = refl; outside_list = refl }
  range_typed false = record { reads = refl; kind = refl; limited = refl; outside_list = refl }

  end_typed : (reverse : Bool) → Entry tables (past_end_entry reverse) a_and_b numbers ty.Boolean
  unfolding b.hidden-the_row-Expr-0 b.hidden-the_row-Expr-Chain-1-2-1 denote.Hole.Carrier.hidden kind_of uses_of outside unused either of_slot fits same kind_at is_right only_if meet meet_types pair is_number is_integer are_integers literal_type
  end_typed true = record { reads = refl; kind = refl; limited = refl; outside_list = refl }
  end_typed false = record { reads = refl; kind = refl; limited = refl; outside_list = refl }

  move_typed : (reverse : Bool) → Entry tables (next_entry reverse) a_and_b numbers ty.Integer
  unfolding b.hidden-the_row-Expr-0 b.hidden-the_row-Expr-Chain-1-2-1 denote.Hole.Carrier.hidden kind_of uses_of outside unused either of_slot fits same kind_at only_if pair are_integers
  move_typed true = record { reads = refl; kind = refl; limited = refl; outside_list = refl }
  move_typed false = record { reads = refl; kind = refl; limited = refl; outside_list = refl }

-- ---- beside names

module _ (tables : List (List Ty)) (es : List Expr) (slots : List Slot) (result : Ty) where
  abbrev whole : List Expr
  whole = es ++ fixed_list

  abbrev Beside : List ℕ → List Ty → List ℕ → Type 0
  Beside read types names = EachPair (λ k i n. slice_get types i ≡ Some (type_at slots n)) read names

  beside_none : (types : List Ty) → Beside no_slot types []
  beside_none types k i n at_i at_n = cc

  beside_one : (t : Ty) (x : ℕ) → type_at slots x ≡ t → Beside a_alone (t ∷ []) (x ∷ [])
  beside_one t x h zero i n at_i at_n =
      subst (λ j. slice_get (t ∷ []) j ≡ Some (type_at slots n)) (same_Some 0 i at_i) (ap Some (sym h ∙ ap (type_at slots) (same_Some x n at_n)))
  beside_one t x h (suc k) i n at_i at_n = cc

  beside_two : (x y : ℕ) → type_at slots x ≡ ty.Integer → type_at slots y ≡ ty.Integer → Beside a_and_b numbers (x ∷ y ∷ [])
  beside_two x y h k zero i n at_i at_n =
      subst (λ j. slice_get numbers j ≡ Some (type_at slots n)) (same_Some 0 i at_i) (ap Some (sym h ∙ ap (type_at slots) (same_Some x n at_n)))
  beside_two x y h k (suc zero) i n at_i at_n =
      subst (λ j. slice_get numbers j ≡ Some (type_at slots n)) (same_Some 1 i at_i) (ap Some (sym k ∙ ap (type_at slots) (same_Some y n at_n)))
  beside_two x y h k (suc (suc m)) i n at_i at_n = cc

  entry_has : (x : Fixed) (read : List ℕ) (types : List Ty) (t : Ty) (names : List ℕ) → Entry tables x read types t → Beside read types names
      → Has tables whole slots result t (entry_term (length es) x names)
  entry_has x read types t names h beside below =
      subst (HasTypeBy tables (type_at slots) names t) (sym (get_behind es fixed_list (position x)))
      (record {
        slots = types;
        beside = subst (λ read. Beside read types names) (sym h.reads) beside;
        kind = h.kind;
        limited = h.limited;
        outside_list = h.outside_list;
      })

-- ---- all of them

pub record FixedHave (tables : List (List Ty)) (table : List Expr) (slots : List Slot) (result : Ty) (S : ℕ) : Type 0 where
  pub nulls : (t : Ty) → Has tables table slots result t (null_of S t)
  pub null_tests : (t : Ty) (x : ℕ) → type_at slots x ≡ t → Has tables table slots result ty.Boolean (is_null S t x)
  pub positives : (x : ℕ) → type_at slots x ≡ ty.Integer → Has tables table slots result ty.Boolean (not_positive S x)
  pub ones : Has tables table slots result ty.Integer (one S)
  pub copies : (t : Ty) (x : ℕ) → type_at slots x ≡ t → Has tables table slots result t (copy S x)
  pub ranges : (reverse : Bool) (x y : ℕ) → type_at slots x ≡ ty.Integer → type_at slots y ≡ ty.Integer
      → Has tables table slots result ty.Boolean (in_range S reverse x y)
  pub ends : (reverse : Bool) (x y : ℕ) → type_at slots x ≡ ty.Integer → type_at slots y ≡ ty.Integer
      → Has tables table slots result ty.Boolean (leaves_range S reverse x y)
  pub moves : (reverse : Bool) (x y : ℕ) → type_at slots x ≡ ty.Integer → type_at slots y ≡ ty.Integer
      → Has tables table slots result ty.Integer (moved S reverse x y)

pub fixed_have : (tables : List (List Ty)) (es : List Expr) (slots : List Slot) (result : Ty) → FixedHave tables (es ++ fixed_list) slots result (length es)
fixed_have tables es slots result = record {
  nulls = λ t. entry_has tables es slots result (fix.Null t) no_slot [] t [] (null_typed tables t) (beside_none tables es slots result []);
  null_tests = λ t x e. entry_has tables es slots result (fix.IsNull t) a_alone (t ∷ []) ty.Boolean (x ∷ []) (test_typed tables t)
      (beside_one tables es slots result t x e);
  positives = λ x e. entry_has tables es slots result fix.NotPositive a_alone (ty.Integer ∷ []) ty.Boolean (x ∷ []) (positive_typed tables)
      (beside_one tables es slots result ty.Integer x e);
  ones = entry_has tables es slots result fix.One no_slot [] ty.Integer [] (one_typed tables) (beside_none tables es slots result []);
  copies = λ t x e. entry_has tables es slots result fix.Copy a_alone (t ∷ []) t (x ∷ []) (copy_typed tables t)
      (beside_one tables es slots result t x e);
  ranges = λ reverse x y d e. entry_has tables es slots result (in_range_entry reverse) a_and_b numbers ty.Boolean (x ∷ y ∷ []) (range_typed tables reverse)
      (beside_two tables es slots result x y d e);
  ends = λ reverse x y d e. entry_has tables es slots result (past_end_entry reverse) a_and_b numbers ty.Boolean (x ∷ y ∷ []) (end_typed tables reverse)
      (beside_two tables es slots result x y d e);
  moves = λ reverse x y d e. entry_has tables es slots result (next_entry reverse) a_and_b numbers ty.Integer (x ∷ y ∷ []) (move_typed tables reverse)
      (beside_two tables es slots result x y d e);
}
