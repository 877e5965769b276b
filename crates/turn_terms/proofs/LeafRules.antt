-- What stands for slots and literals, along the loop that finds it.
use Rattle.std.proofs.Common.{◌≡◌, ℕ, ◌+◌, ◌<◌, ◌≤◌, zero, suc, Bool, true, false, if◌then◌else◌, List, [], ◌∷◌, length, drop, get_or, Option, Some, None, refl, sym, ap, ◌∙◌, Bor, arith}
use Rattle.std.specs.Prelude.{nat_eq}
use Rattle.std.proofs.lemmas.List.{drop_more}
use Rattle.away_values.specs.declared.types.Ty.{Ty}
use Rattle.away_trees.specs.declared.queries.Expr.{Expr}
use Rattle.away_trees.specs.declared.queries.Expr.TheVariants as expr
use Rattle.sql_meaning.specs.Placed.{with_cast}
use Rattle.sql_meaning.specs.Trees.{col}
use Rattle.call_forms.specs.Scopes.{paired}
use Rattle.turn_terms.specs.Placing.{beside, named_leaf, leaf_at, literal_at}
use Rattle.turn_terms.specs.References.{value_in}
use Rattle.turn_terms.specs.declared.leaves.Leaves.TheVariants as leaves
use Rattle.turn_terms.specs.declared.references.Reference.{Reference}
use Rattle.std.proofs.Math.ListN.{drop_of_length-le}

-- ---- the name beside a slot

no_slots : (names : List ℕ) (i : ℕ) → beside [] names i ≡ None
unfolding beside
no_slots names i = refl

no_names : (slots : List ℕ) (i : ℕ) → beside slots [] i ≡ None
unfolding beside
no_names [] i = refl
no_names (s ∷ slots) i = refl

first_slot : (s : ℕ) (slots : List ℕ) (n : ℕ) (names : List ℕ) (i : ℕ) → beside (s ∷ slots) (n ∷ names) i ≡ (if nat_eq s i then Some n else beside slots names i)
unfolding beside
first_slot s slots n names i = refl

pub beside_short : (slots names : List ℕ) (n i : ℕ) → length names ≤ i → beside (drop i slots) (drop i names) n ≡ None
beside_short slots names n i h = ap (λ zs. beside (drop i slots) zs n) (drop_of_length-le names h) ∙ no_names (drop i slots) n

pub beside_end : (slots names : List ℕ) (n i : ℕ) → length slots ≤ i → beside (drop i slots) (drop i names) n ≡ None
beside_end slots names n i h = ap (λ zs. beside zs (drop i names) n) (drop_of_length-le slots h) ∙ no_slots (drop i names) n

pub beside_step : (slots names : List ℕ) (n i : ℕ) → i < length slots → i < length names
    → beside (drop i slots) (drop i names) n ≡ (if nat_eq (get_or slots i 0) n then Some (get_or names i 0) else beside (drop (i + 1) slots) (drop (i + 1) names) n)
beside_step slots names n i g h =
    (λ z. beside (drop_more slots i 0 g z) (drop_more names i 0 h z) n) ∙ first_slot (get_or slots i 0) (drop (i + 1) slots) (get_or names i 0) (drop (i + 1) names) n

pub ruleset beside_rules = (beside_short, beside_end, beside_step)

-- ---- what the name stands for

abbrev at_name : (ℕ → Expr) → Option ℕ → Expr
at_name f None = expr.Null
at_name f (Some n) = f n

by_name : (f : ℕ → Expr) (slots names : List ℕ) (i : ℕ) → at_name f (paired (λ n. Some n) None slots names i) ≡ paired f expr.Null slots names i
by_name f [] names i = refl
by_name f (s ∷ slots) [] i = refl
by_name f (s ∷ slots) (n ∷ names) i =
    choose (nat_eq s i) (paired (λ n. Some n) None slots names i) (paired f expr.Null slots names i) (by_name f slots names i)
  where
    choose : (b : Bool) (o : Option ℕ) (e : Expr) → at_name f o ≡ e → at_name f (if b then Some n else o) ≡ (if b then f n else e)
    choose true o e h = refl
    choose false o e h = h

pub none_beside : (slots names : List ℕ) (refs : List Reference) (i : ℕ) → beside slots names i ≡ None → expr.Null ≡ named_leaf slots names refs i
unfolding beside named_leaf
none_beside slots names refs i h = sym (ap (at_name (value_in refs)) h) ∙ by_name (value_in refs) slots names i

pub some_beside : (slots names : List ℕ) (refs : List Reference) (i n : ℕ) → beside slots names i ≡ Some n → value_in refs n ≡ named_leaf slots names refs i
unfolding beside named_leaf
some_beside slots names refs i n h = sym (ap (at_name (value_in refs)) h) ∙ by_name (value_in refs) slots names i

pub ruleset name_rules = (none_beside, some_beside)

-- ---- leaves

pub columns_leaf : (d i : ℕ) → leaf_at leaves.Columns d i ≡ col d 0 i
unfolding leaf_at
columns_leaf d i = refl

pub names_leaf : (slots names : Bor (List ℕ)) (refs : Bor (List Reference)) (d i : ℕ) → leaf_at (leaves.Names slots names refs) d i ≡ named_leaf slots.now names.now refs.now i
unfolding leaf_at
names_leaf slots names refs d i = refl

pub columns_literal : (t : Ty) (e : Expr) → literal_at leaves.Columns t e ≡ e
unfolding literal_at
columns_literal t e = refl

pub names_literal : (slots names : Bor (List ℕ)) (refs : Bor (List Reference)) (t : Ty) (e : Expr) → literal_at (leaves.Names slots names refs) t e ≡ with_cast t e
unfolding literal_at
names_literal slots names refs t e = refl

pub ruleset leaf_rules = (columns_leaf, names_leaf)

pub ruleset literal_rules = (columns_literal, names_literal)
