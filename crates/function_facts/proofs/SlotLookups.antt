-- What a name in a function stands for: a variable with a slot below a number, or a column of a select inside the expression.
use Rattle.std.proofs.Common.{◌≡◌, sym, subst, ℕ, ◌+◌, ◌<◌, ◌≤◌, arith, lt-ltb, Bool, true, false, if◌then◌else◌, List, [], ◌∷◌, length, Option, Some, None, option_map}
use Rattle.std.specs.Prelude.{bytes_eq}
use Rattle.std.specs.List.{list_any}
use Rattle.away_trees.specs.declared.queries.Col.{Col}
use Rattle.away_trees.specs.declared.queries.Expr.{Expr}
use Rattle.away_trees.specs.declared.queries.Expr.TheVariants as expr
use Rattle.away_trees.specs.Algebra.{expr_of}
use Rattle.away_names.specs.declared.scope.Hit.{Hit}
use Rattle.away_names.specs.declared.scope.Variable.{Variable}
use Rattle.away_names.specs.Lookups.{Name, Level, Scope, or_else, place_of, offers, hit_at, in_level, in_item, nearest, column_named, column_qualified, variable_after, variable_named}
use Rattle.away_names.specs.Naming as n
use Rattle.sql_meaning.specs.Reads.{Read, Slot, Param, Table, Outer, Reads, reading}
use Rattle.type_soundness.specs.Sorts.{Every}

-- ---- what may be read

-- slots below a number, and tables
abbrev pub IsBelow : ℕ → Read → Type 0
IsBelow slots (Slot i) = i < slots
IsBelow slots (Param i) = ⊥
IsBelow slots (Table k) = Unit {0}
IsBelow slots (Outer c) = ⊥

pub below_more : (a b : ℕ) → a ≤ b → (r : Read) → IsBelow a r → IsBelow b r
below_more a b l (Slot i) h = omega (arith, l, h)
below_more a b l (Param i) h = h
below_more a b l (Table k) h = tt
below_more a b l (Outer c) h = h

-- so many selects stand around the place
abbrev pub BelowAt : ℕ → ℕ → Reads → Type 0
BelowAt slots depth r = Every (IsBelow slots) (r depth)

abbrev pub ExprBelow : ℕ → ℕ → Expr → Type 0
ExprBelow slots depth e = BelowAt slots depth (expr_of reading e)

abbrev pub VariablesBelow : ℕ → List Variable → Type 0
VariablesBelow slots vs = Every (λ (v : Variable). v.slot < slots) vs

-- a place in a function
abbrev pub Within : ℕ → Scope → Type 0
Within slots s = (s.in_function ≡ true) × VariablesBelow slots s.variables

abbrev pub depth : Scope → ℕ
depth s = length s.levels

-- ---- variables

abbrev FoundBelow : ℕ → Option Variable → Type 0
FoundBelow slots None = Unit {0}
FoundBelow slots (Some v) = v.slot < slots

chosen_below : (slots : ℕ) (b : Bool) (v : Variable) (found : Option Variable) → v.slot < slots → FoundBelow slots found → FoundBelow slots (if b then Some v else found)
chosen_below slots true v found h k = h
chosen_below slots false v found h k = k

after_below : (slots : ℕ) (x : Name) (vs : List Variable) (found : Option Variable) → VariablesBelow slots vs → FoundBelow slots found → FoundBelow slots (variable_after x found vs)
after_below slots x [] found h k = k
after_below slots x (v ∷ vs) found h k = after_below slots x vs (if bytes_eq v.name x then Some v else found) h.1 (chosen_below slots (bytes_eq v.name x) v found h.0 k)

pub named_below : (slots : ℕ) (x : Name) (vs : List Variable) → VariablesBelow slots vs → FoundBelow slots (variable_named x vs)
unfolding variable_named
named_below slots x vs h = after_below slots x vs None h tt

pub variable_below : (slots : ℕ) (x : Name) (vs : List Variable) (v : Variable) → VariablesBelow slots vs → variable_named x vs ≡ Some v → v.slot < slots
variable_below slots x vs v h e = subst (FoundBelow slots) e (named_below slots x vs h)

-- ---- columns

abbrev HitBelow : ℕ → Option Hit → Type 0
HitBelow levels None = Unit {0}
HitBelow levels (Some h) = h.column.level < levels

either_below : (levels : ℕ) (a b : Option Hit) → HitBelow levels a → HitBelow levels b → HitBelow levels (or_else a b)
either_below levels None b h k = k
either_below levels (Some x) b h k = h

hit_below : (levels at item : ℕ) (many : Bool) (o : Option ℕ) → at < levels → HitBelow levels (option_map (hit_at at item many) o)
hit_below levels at item many None l = tt
hit_below levels at item many (Some column) l = l

aliased_below : (levels : ℕ) (b : Bool) (o : Option Hit) → HitBelow levels o → HitBelow levels (if b then o else None)
aliased_below levels true o h = h
aliased_below levels false o h = tt

level_below : (levels : ℕ) (x : Name) (at i : ℕ) (level : Level) → at < levels → HitBelow levels (in_level x at i level)
level_below levels x at i [] l = tt
level_below levels x at i (o ∷ os) l =
    either_below levels (option_map (hit_at at i (list_any (offers x) os)) (place_of x o.columns)) (in_level x at (i + 1) os)
    (hit_below levels at i (list_any (offers x) os) (place_of x o.columns) l) (level_below levels x at (i + 1) os l)

item_below : (levels : ℕ) (a x : Name) (at i : ℕ) (level : Level) → at < levels → HitBelow levels (in_item a x at i level)
item_below levels a x at i [] l = tt
item_below levels a x at i (o ∷ os) l =
    either_below levels (if bytes_eq o.alias a then option_map (hit_at at i false) (place_of x o.columns) else None) (in_item a x at (i + 1) os)
    (aliased_below levels (bytes_eq o.alias a) (option_map (hit_at at i false) (place_of x o.columns)) (hit_below levels at i false (place_of x o.columns) l))
    (item_below levels a x at (i + 1) os l)

nearest_below : (levels : ℕ) (has : ℕ → Level → Option Hit) → ((at : ℕ) (level : Level) → at < levels → HitBelow levels (has at level)) → (at : ℕ) (ls : List Level) → at + length ls ≤ levels → HitBelow levels (nearest has at ls)
nearest_below levels has h at [] l = tt
nearest_below levels has h at (level ∷ ls) l = either_below levels (has at level) (nearest has (at + 1) ls) (h at level (omega (arith, l))) (nearest_below levels has h (at + 1) ls (omega (arith, l)))

column_below : (x : Name) (ls : List Level) → HitBelow (length ls) (column_named x ls)
unfolding column_named
column_below x ls = nearest_below (length ls) (λ at level. in_level x at 0 level) (λ at level l. level_below (length ls) x at 0 level l) 0 ls (omega arith)

qualified_column_below : (a x : Name) (ls : List Level) → HitBelow (length ls) (column_qualified a x ls)
unfolding column_qualified
qualified_column_below a x ls = nearest_below (length ls) (λ at level. in_item a x at 0 level) (λ at level l. item_below (length ls) a x at 0 level l) 0 ls (omega arith)

-- a column of a select inside the expression is nothing that it reads from outside
inner_column : (slots levels : ℕ) (c : Col) → c.level < levels → ExprBelow slots levels (expr.Column c)
inner_column slots levels c l = subst (λ b. Every (IsBelow slots) (if b then [] else Outer c ∷ [])) (sym (lt-ltb c.level levels l)) tt

-- ---- names

slot_or_below : (slots levels : ℕ) (x : Name) (o : Option Variable) → FoundBelow slots o → ExprBelow slots levels (n.slot_or x o).it
unfolding n.slot_or
slot_or_below slots levels x None h = tt
slot_or_below slots levels x (Some v) h = (h, tt)

named_by_below : (slots levels : ℕ) (x : Name) (hit : Option Hit) (o : Option Variable) → HitBelow levels hit → FoundBelow slots o → ExprBelow slots levels (n.named_by x hit o).it
unfolding n.named_by
named_by_below slots levels x (Some hit) o h k = inner_column slots levels hit.column h
named_by_below slots levels x None o h k = slot_or_below slots levels x o k

pub name_below : (slots : ℕ) (x : Name) (s : Scope) → Within slots s → ExprBelow slots (depth s) (n.named x s).it
unfolding n.named
name_below slots x s w = named_by_below slots (depth s) x (column_named x s.levels) (variable_named x s.variables) (column_below x s.levels) (named_below slots x s.variables w.1)

qualified_by_below : (slots levels : ℕ) (a x : Name) (hit : Option Hit) → HitBelow levels hit → ExprBelow slots levels (n.qualified_by a x hit).it
unfolding n.qualified_by
qualified_by_below slots levels a x (Some hit) h = inner_column slots levels hit.column h
qualified_by_below slots levels a x None h = tt

pub qualified_below : (slots : ℕ) (a x : Name) (s : Scope) → ExprBelow slots (depth s) (n.qualified a x s).it
unfolding n.qualified
qualified_below slots a x s = qualified_by_below slots (depth s) a x (column_qualified a x s.levels) (qualified_column_below a x s.levels)
