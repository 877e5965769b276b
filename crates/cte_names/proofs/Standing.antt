-- Where a function's own selects stand in a query, and what is clear there.
use Rattle.std.proofs.Common.{◌≡◌, refl, subst, sym, ap, ◌∙◌, ℕ, Bool, true, false, ◌&&◌, List, ◌∷◌, ◌++◌, map, length, Option, Some, None}
use Rattle.std.specs.Prelude.{not, is_some}
use Rattle.std.specs.List.{list_all}
use Rattle.away_trees.specs.declared.queries.Expr.{Expr}
use Rattle.away_trees.specs.declared.queries.Expr.TheVariants as expr
use Rattle.away_trees.specs.declared.queries.FromItem.{FromItem}
use Rattle.away_trees.specs.declared.queries.Item.{Item}
use Rattle.away_trees.specs.declared.queries.Key.{Key}
use Rattle.away_trees.specs.declared.queries.Query.{Query}
use Rattle.away_trees.specs.declared.queries.Select.{Select}
use Rattle.away_trees.specs.declared.queries.Expr.TheOpen.{Expr-F}
use Rattle.away_trees.specs.declared.queries.Expr.TheOpen as ex
use Rattle.away_trees.specs.declared.queries.Expr.TheViews.{out-FromItem}
use Rattle.away_trees.specs.Algebra.{Algebra, expr_of}
use Rattle.away_names.specs.declared.rule.Rule.TheVariants as rule
use Rattle.away_names.specs.declared.scope.Hit.{Hit}
use Rattle.away_names.specs.declared.scope.Seen.{Seen}
use Rattle.away_names.specs.declared.scope.Variable.{Variable}
use Rattle.away_names.specs.Functions.{function}
use Rattle.away_names.specs.Lookups.{Name, Level, Scope, is_kept, column_named, column_qualified, variable_named}
use Rattle.away_names.specs.Naming as n
use Rattle.away_names.specs.Notes.{breaks}
use Rattle.elaboration.specs.Marks.{plain_op}
use Rattle.sql_meaning.specs.Placed.{Layer, expr_in_place, replacing, with_cast}
use Rattle.sql_meaning.specs.Reads.{Read, Slot, reading}
use Rattle.sql_meaning.proofs.Lists.{Zipped}
use Rattle.sql_meaning.proofs.Uses.{and_first}
use Rattle.type_soundness.proofs.CleanNotes.{Clean, clean_parts, not_broken, test_fails}
use Rattle.qualified_names.specs.Sight.{own_name, reference}
use Rattle.qualified_names.specs.Trees.{qualified_expr, qualified_item, qualified_part, qualified_select, qualified_shown}
use Rattle.qualified_names.specs.Unambiguous.{value, items, keys, from_item, select, query, IsClear}
use Rattle.qualified_names.specs.Unambiguous as c
use Rattle.qualified_names.proofs.QualifyingRules as d
use Rattle.qualified_names.proofs.ReadColumns.{named_read, qualified_read}
use Rattle.cte_names.proofs.Refined.{NameSo, SeenSo, LevelsSo, found_still, called_still}

-- a place inside a function's own selects, whose items the query sees so
abbrev pub under : List Level → Scope → Scope
under levels q = record q { levels = levels ++ q.levels }

-- ---- what is clear

-- an expression, which has this name as a column
pub record ClearExpr (s : Scope) (own : Option Name) (w : Expr) : Type 0 where
  pub clear : IsClear value s w
  pub named : NameSo own (own_name (qualified_expr w s.levels))

pub record ClearItem (s : Scope) (own : Option Name) (i : Item) : Type 0 where
  pub clear : (rest : List Item) → IsClear items s rest → IsClear items s (i ∷ rest)
  pub named : NameSo own (qualified_item i s.levels).name

pub record ClearKey (s : Scope) (k : Key) : Type 0 where
  pub clear : (rest : List Key) → IsClear keys s rest → IsClear keys s (k ∷ rest)

-- an item of FROM behind these, which is seen so
pub record ClearPart (s : Scope) (level : Level) (seen : Seen) (f : FromItem) : Type 0 where
  pub clear : IsClear (from_item level) s f
  pub seen_so : SeenSo seen (qualified_part f s.levels level).seen
  pub alias : (out-FromItem f).alias ≡ seen.alias

pub record ClearSelect (s : Scope) (names : List (Option Name)) (x : Select) : Type 0 where
  pub clear : IsClear select s x
  pub names_so : Zipped NameSo names (qualified_select x s.levels).names

pub record ClearQuery (s : Scope) (names : List (Option Name)) (q : Query) : Type 0 where
  pub clear : IsClear query s q
  pub names_so : Zipped NameSo names (qualified_shown q s.levels).names

-- ---- a query's place q, and the function's place inside its own selects

pub record Fits (q s : Scope) (levels : List Level) : Type 0 where
  pub in_function : s.in_function ≡ true
  pub tables : (n : Name) → is_kept n ≡ false → q.table n ≡ s.table n
  pub so : LevelsSo s.levels levels

-- what stands for one of these slots is clear under any selects of the function
abbrev pub Leaves : Scope → (ℕ → Bool) → (ℕ → ℕ → Expr) → Type 0
Leaves q slots leaf = (ls ms : List Level) → LevelsSo ls ms → (i : ℕ) → slots i ≡ true → ClearExpr (under ms q) None (leaf (length ms) i)

-- of the slots these alone are read
abbrev pub one_of_these : (ℕ → Bool) → Read → Bool
one_of_these slots (Slot i) = slots i
one_of_these slots _ = true

abbrev pub Allowed : (ℕ → Bool) → List Read → Type 0
Allowed slots rs = list_all (one_of_these slots) rs ≡ true

-- as a query has it, without the marks of operations
abbrev pub plain_in_place : (ℕ → ℕ → Expr) → Layer Expr-F → ℕ → Expr
plain_in_place leaf (ex.NegSmall e) d = expr.Neg (e d)
plain_in_place leaf (ex.Chain e links) d = expr.Chain (e d) (map (λ l. (plain_op l.0, l.1 d)) links)
plain_in_place leaf x d = expr_in_place leaf with_cast x d

abbrev pub placing : (ℕ → ℕ → Expr) → Algebra
placing leaf = record (replacing leaf with_cast) { expr = plain_in_place leaf }

-- ---- names that a function may write

and_second : (a b : Bool) → a ≡ true → (a && b) ≡ false → b ≡ false
and_second a b h e = sym (ap (λ a. a && b) h) ∙ e

pub may_write : (s : Scope) (x : Name) → s.in_function ≡ true → Clean (n.written s x) → is_kept x ≡ false
unfolding n.written
may_write s x h k = and_second s.in_function (is_kept x) h (test_fails rule.Reserved (s.in_function && is_kept x) k)

-- a function's parameters are no parameters of the query
pub no_param : (s : Scope) → s.in_function ≡ true → Clean (breaks rule.Names s.in_function) → ⊥
no_param s h k = not_broken rule.Names (subst (λ b. Clean (breaks rule.Names b)) h k)

-- ---- columns and slots

module _ (q : Scope) (slots : ℕ → Bool) (leaf : ℕ → ℕ → Expr) (leaves : Leaves q slots leaf) where
  column_clear : (a x : Name) (s : Scope) (ms : List Level) → Fits q s ms → is_kept x ≡ false → (hit : Hit) → reference s.levels hit.column ≡ expr.Dotted a x
      → column_qualified a x s.levels ≡ Some (record { column = hit.column; many = false }) → ClearExpr (under ms q) (Some x) (expr_of (placing leaf) (expr.Column hit.column) (length ms))
  column_clear a x s ms f h hit is found =
      let reference_is = called_still s.levels ms q.levels f.so hit.column a x is in
      record {
        clear = c.column hit.column a x reference_is (found_still a x h s.levels ms q.levels f.so (record { column = hit.column; many = false }) found);
        named = ap own_name (d.column_is hit.column (ms ++ q.levels) ∙ reference_is);
      }

  slot_or_clear : (x : Name) (s : Scope) (ms : List Level) → Fits q s ms → (v : Option Variable) → Clean (n.slot_or x v).note → Allowed slots (expr_of reading (n.slot_or x v).it (length ms))
      → ClearExpr (under ms q) (n.shown (n.slot_or x v).it (Some x)) (expr_of (placing leaf) (n.slot_or x v).it (length ms))
  unfolding n.slot_or n.shown
  slot_or_clear x s ms f (Some v) k a = leaves s.levels ms f.so v.slot (and_first (slots v.slot) true a)
  slot_or_clear x s ms f None k a = absurd (not_broken rule.Names k)

  named_by_clear : (x : Name) (s : Scope) (ms : List Level) → Fits q s ms → is_kept x ≡ false → (hit : Option Hit) (v : Option Variable) → column_named x s.levels ≡ hit → Clean (n.named_by x hit v).note
      → Allowed slots (expr_of reading (n.named_by x hit v).it (length ms))
      → ClearExpr (under ms q) (n.shown (n.named_by x hit v).it (Some x)) (expr_of (placing leaf) (n.named_by x hit v).it (length ms))
  unfolding n.named_by n.shown
  named_by_clear x s ms f h (Some hit) v e k a = let r = named_read x s.levels hit e in column_clear r.alias x s ms f h hit r.is r.found
  named_by_clear x s ms f h None v e k a = slot_or_clear x s ms f v k a

  pub name_clear : (x : Name) (s : Scope) (ms : List Level) → Fits q s ms → Clean (n.named x s).note → Allowed slots (expr_of reading (n.named x s).it (length ms))
      → ClearExpr (under ms q) (n.shown (n.named x s).it (Some x)) (expr_of (placing leaf) (n.named x s).it (length ms))
  unfolding n.named
  name_clear x s ms f k a =
      let both = clean_parts (n.written s x) (n.named_by x (column_named x s.levels) (variable_named x s.variables)).note k in
      named_by_clear x s ms f (may_write s x f.in_function both.0) (column_named x s.levels) (variable_named x s.variables) refl both.1 a

  qualified_by_clear : (a x : Name) (s : Scope) (ms : List Level) → Fits q s ms → is_kept x ≡ false → (hit : Option Hit) → column_qualified a x s.levels ≡ hit → Clean (n.qualified_by a x hit).note
      → ClearExpr (under ms q) (n.shown (n.qualified_by a x hit).it (Some x)) (expr_of (placing leaf) (n.qualified_by a x hit).it (length ms))
  unfolding n.qualified_by n.shown
  qualified_by_clear a x s ms f h (Some hit) e k =
      let r = qualified_read a x s.levels hit e in
      column_clear a x s ms f h hit r.0 (e ∙ ap (λ b. Some (record { column = hit.column; many = b })) r.1)
  qualified_by_clear a x s ms f h None e k = absurd (not_broken rule.Names k)

  pub qualified_clear : (a x : Name) (s : Scope) (ms : List Level) → Fits q s ms → Clean (n.qualified a x s).note
      → ClearExpr (under ms q) (n.shown (n.qualified a x s).it (Some x)) (expr_of (placing leaf) (n.qualified a x s).it (length ms))
  unfolding n.qualified
  qualified_clear a x s ms f k =
      let both = clean_parts _ (n.qualified_by a x (column_qualified a x s.levels)).note k in
      let names = clean_parts (n.written s a) (n.written s x) both.0 in
      qualified_by_clear a x s ms f (may_write s x f.in_function names.1) (column_qualified a x s.levels) refl both.1

not_false : (b : Bool) → not b ≡ false → b ≡ true
not_false true h = refl
not_false false h = cc

pub known_function : (s : Scope) (name : Name) → Clean (n.called s name) → is_some (function name) ≡ true
unfolding n.called
known_function s name k =
    not_false (is_some (function name)) (test_fails rule.Names (not (is_some (function name))) (clean_parts (n.written s name) (breaks rule.Names (not (is_some (function name)))) k).1)
