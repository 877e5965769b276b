-- When one tree is another whose slots stand elsewhere, so many selects deep. It reads what is in
-- sight alone; names, which mean nothing once names are resolved, may differ.
use Rattle.std.specs.Prelude.{
  ◌≡◌,
  ℕ,
  ◌==◌,
  true,
  if◌then◌else◌,
  List,
  [],
  ◌∷◌,
  Option,
  Some,
  None,
}
use Rattle.std.specs.List.{list_all}
use Rattle.away_values.specs.declared.operators.ChainOp.{ChainOp}
use Rattle.away_trees.specs.declared.queries.Expr.{Expr}
use Rattle.away_trees.specs.declared.queries.FromItem.{FromItem}
use Rattle.away_trees.specs.declared.queries.Item.{Item}
use Rattle.away_trees.specs.declared.queries.Key.{Key}
use Rattle.away_trees.specs.declared.queries.Query.{Query}
use Rattle.away_trees.specs.declared.queries.Select.{Select}
use Rattle.away_trees.specs.Algebra.{
  Algebra,
  expr_of,
  from_of,
  item_of,
  key_of,
  query_of,
  select_of,
}
use Rattle.sql_meaning.specs.Names.{nameless}
use Rattle.sql_meaning.specs.Placed.{replacing}
use Rattle.sql_meaning.specs.Reads.{Read, reading}
use Rattle.call_meaning.specs.Alike.{Slots}
use Rattle.call_meaning.specs.Renamed.{moved, same_literal, sees}

-- ---- where slots stand, by a list of pairs of which the last counts

abbrev pub looked_up : List (ℕ × ℕ) → ℕ → Option ℕ → Option ℕ
looked_up [] i found = found
looked_up (p ∷ ps) i found = looked_up ps i (if i == p.0 then Some p.1 else found)

abbrev pub slots_by : List (ℕ × ℕ) → Slots
slots_by ps = λ i. looked_up ps i None

-- ---- trees

abbrev pub Each : {A : Type 0} → (A → A → Type 0) → List A → List A → Type 0
Each R [] [] = Unit {0}
Each R [] (y ∷ ys) = ⊥
Each R (x ∷ xs) [] = ⊥
Each R (x ∷ xs) (y ∷ ys) = R x y × Each R xs ys

abbrev pub Maybe : {A : Type 0} → (A → A → Type 0) → Option A → Option A → Type 0
Maybe R None None = Unit {0}
Maybe R None (Some y) = ⊥
Maybe R (Some x) None = ⊥
Maybe R (Some x) (Some y) = R x y

module _ (m : Slots) where
  abbrev pub moving : Algebra
  moving = replacing (λ d i. moved (m i) i) same_literal

  abbrev pub Seen : List Read → Type 0
  Seen rs = list_all (sees m) rs ≡ true

  pub record ExprMoved (d : ℕ) (e x : Expr) : Type 0 where
    pub seen : Seen (expr_of reading e d)
    pub is : expr_of nameless x ≡ expr_of nameless (expr_of moving e d)

  pub record ItemMoved (d : ℕ) (i y : Item) : Type 0 where
    pub seen : Seen (item_of reading i d)
    pub is : item_of nameless y ≡ item_of nameless (item_of moving i d)

  pub record KeyMoved (d : ℕ) (k y : Key) : Type 0 where
    pub seen : Seen (key_of reading k d)
    pub is : key_of nameless y ≡ key_of nameless (key_of moving k d)

  pub record FromMoved (d : ℕ) (f y : FromItem) : Type 0 where
    pub seen : Seen (from_of reading f d)
    pub is : from_of nameless y ≡ from_of nameless (from_of moving f d)

  pub record SelectMoved (d : ℕ) (s y : Select) : Type 0 where
    pub seen : Seen (select_of reading s d)
    pub is : select_of nameless y ≡ select_of nameless (select_of moving s d)

  pub record QueryMoved (d : ℕ) (q y : Query) : Type 0 where
    pub seen : Seen (query_of reading q d)
    pub is : query_of nameless y ≡ query_of nameless (query_of moving q d)

  pub record LinkMoved (d : ℕ) (l y : ChainOp × Expr) : Type 0 where
    pub op : y.0 ≡ l.0
    pub part : ExprMoved d l.1 y.1

  abbrev pub ArmMoved : ℕ → Expr × Expr → Expr × Expr → Type 0
  ArmMoved d a y = ExprMoved d a.0 y.0 × ExprMoved d a.1 y.1
