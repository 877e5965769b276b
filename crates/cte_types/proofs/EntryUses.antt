-- The entries of a SELECT INTO use aggregates within its select alone, and have no parameter that the select hasn't.
use Rattle.std.proofs.Common.{◌≡◌, refl, ◌∙◌, sym, subst, ℕ, ℤ, pos, Bool, true, false, ◌&&◌, ◌||◌, List, [], ◌∷◌, map, Option, Some, None, option_map}
use Rattle.away_values.specs.declared.types.Ty.{Ty}
use Rattle.away_values.specs.declared.operators.CmpOp.{CmpOp}
use Rattle.away_values.specs.declared.operators.CmpOp.TheVariants as cmp
use Rattle.away_trees.specs.declared.queries.Expr.{Expr}
use Rattle.away_trees.specs.declared.queries.Expr.TheVariants as expr
use Rattle.away_trees.specs.declared.queries.Expr.TheViews.{out-Select}
use Rattle.away_trees.specs.declared.queries.Select.{Select}
use Rattle.away_trees.specs.Algebra.{expr_of, from_of, query_of as of_query, select_of}
use Rattle.away_trees.proofs.Equations as eq
use Rattle.away_typing.specs.declared.uses.Uses.{Uses}
use Rattle.away_typing.specs.Aggregates.{using_, Term, unused, either, outside, apart, aggregated, of_column, of_select, maybe, limit_of}
use Rattle.away_typing.specs.Aggregates as uses
use Rattle.away_typing.specs.Parameters.{Found, finding}
use Rattle.away_typing.specs.Parameters as params
use Rattle.plsql_meaning.specs.Sight.{query_of}
use Rattle.sql_meaning.specs.Trees.{col, item, one}
use Rattle.select_into.specs.Entries.{Target, cast_at, check_entries, into_entries, pick_entries, pick_entry, target_types, unmarked}
use Rattle.select_into.specs.Wrapped.{as_source, over_source, scalar_over, count_compared, pick, pick_as, picked}
use Rattle.select_into.proofs.Casts.{picked_as}
use Rattle.type_soundness.specs.Sorts.{Every}
use Rattle.type_soundness.proofs.Lists.{every_append}
use Rattle.cte_types.proofs.Fine.{Calm, unused_calm, either_calm, outside_calm, Quiet, quiet_is}

-- nothing that breaks a rule
pub record Allowed (u : Uses) : Type 0 where
  pub misused : u.misused ≡ false
  pub limited : u.limited ≡ false

allowed_is : (u v : Uses) → u ≡ v → Allowed v → Allowed u
allowed_is u v e h = subst Allowed (sym e) h

of_calm : (u : Uses) → Calm u → Allowed u
of_calm u h = record { misused = h.misused; limited = h.limited }

apart_calm : (u : Uses) → Allowed u → Calm (apart u)
unfolding apart unused
apart_calm u h = record { aggregate = refl; misused = h.misused; limited = h.limited }

either_allowed : (a b : Uses) → Allowed a → Allowed b → Allowed (either a b)
unfolding either
either_allowed a b h k = record { misused = λ i. h.misused i || k.misused i; limited = λ i. h.limited i || k.limited i }

select_allowed : (list rest : Uses) (own : Bool) → Allowed list → (list.aggregate && (false || list.free)) ≡ false → Allowed rest → own ≡ false → Allowed (of_select list false rest own)
unfolding of_select unused
select_allowed list rest own h a k o = record {
  misused = λ i. h.misused i || (k.misused i || a i);
  limited = λ i. h.limited i || (k.limited i || o i);
}

-- ---- a select in the FROM of another one

query_allowed : (s : Select) → Allowed (select_of using_ s).uses → Calm (of_query using_ (one s)).uses
query_allowed s h =
    subst (λ (t : Term). Calm t.uses) (sym (eq.of_query using_ (s ∷ [])))
    (apart_calm (either unused (either unused (select_of using_ s).uses)) (either_allowed unused (either unused (select_of using_ s).uses) (of_calm unused unused_calm) (either_allowed unused (select_of using_ s).uses (of_calm unused unused_calm) h)))

source_calm : (s : Select) → Allowed (select_of using_ s).uses → Calm (from_of using_ (as_source s)).uses
source_calm s h =
    let inner = query_allowed s h in
    subst (λ (t : Term). Calm t.uses) (sym (eq.of_sub using_ (one s) false)) (apart_calm (of_query using_ (one s)).uses (of_calm (of_query using_ (one s)).uses inner))

over_allowed : (e : Expr) (limit : Option Expr) (s : Select) → Allowed (select_of using_ s).uses → Allowed (expr_of using_ e).uses
    → ((either unused (expr_of using_ e).uses).aggregate && (false || (either unused (expr_of using_ e).uses).free)) ≡ false
    → Calm (maybe (option_map (λ e. expr_of using_ e) limit)).uses → limit_of (option_map (λ e. expr_of using_ e) limit) ≡ false
    → Allowed (select_of using_ (over_source e limit s)).uses
over_allowed e limit s h k a l own =
    let list = either unused (expr_of using_ e).uses in
    let from = either unused (from_of using_ (as_source s)).uses in
    let last = (maybe (option_map (λ e. expr_of using_ e) limit)).uses in
    let rest = either from (either (outside unused) (either (outside unused) (outside last))) in
    let none = outside_calm unused unused_calm in
    let calm : Calm rest = either_calm from (either (outside unused) (either (outside unused) (outside last))) (either_calm unused (from_of using_ (as_source s)).uses unused_calm (source_calm s h))
    (either_calm (outside unused) (either (outside unused) (outside last)) none (either_calm (outside unused) (outside last) none (outside_calm last l))) in
    subst (λ (t : Term). Allowed t.uses) (sym (eq.of_select using_ (item e ∷ []) (as_source s ∷ []) None [] limit))
    (select_allowed list rest (limit_of (option_map (λ e. expr_of using_ e) limit)) (either_allowed unused (expr_of using_ e).uses (of_calm unused unused_calm) k) a (of_calm rest calm) own)

scalar_calm : (e : Expr) (limit : Option Expr) (s : Select) → Allowed (select_of using_ (over_source e limit s)).uses → Calm (expr_of using_ (scalar_over e limit s)).uses
unfolding uses.of_query unused
scalar_calm e limit s h =
    let inner = query_allowed (over_source e limit s) h in
    subst (λ (t : Term). Calm t.uses) (sym (eq.of_scalar using_ (one (over_source e limit s)))) (record { aggregate = refl; misused = inner.misused; limited = inner.limited })

pub compared_calm : (op : CmpOp) (s : Select) (n : ℤ) → Allowed (select_of using_ s).uses → Calm (expr_of using_ (count_compared op s n)).uses
unfolding aggregated unused either
compared_calm op s n h =
    let count = scalar_calm expr.CountRows None s (over_allowed expr.CountRows None s h (record { misused = refl; limited = refl }) refl unused_calm refl) in
    subst (λ (t : Term). Calm t.uses) (sym (eq.of_compare using_ op (scalar_over expr.CountRows None s) (expr.Int n)))
    (either_calm (expr_of using_ (scalar_over expr.CountRows None s)).uses unused count unused_calm)

pick_calm : (s : Select) (j : ℕ) → Allowed (select_of using_ s).uses → Calm (expr_of using_ (pick s j)).uses
unfolding of_column unused either
pick_calm s j h = scalar_calm (col 0 0 j) (Some (expr.Int (pos 1))) s (over_allowed (col 0 0 j) (Some (expr.Int (pos 1))) s h (record { misused = refl; limited = refl }) refl unused_calm refl)

-- under a cast or none
pub pick_as_calm : (c : Option Ty) (s : Select) (j : ℕ) → Allowed (select_of using_ s).uses → Calm (expr_of using_ (pick_as c s j)).uses
pick_as_calm None s j h = pick_calm s j h
pick_as_calm (Some t) s j h = subst (λ (u : Term). Calm u.uses) (sym (eq.of_cast using_ (pick s j) t)) (pick_calm s j h)

pub picked_allowed : (ts : List Ty) (s : Select) → Allowed (select_of using_ s).uses → Allowed (select_of using_ (picked ts s)).uses
picked_allowed ts s h = subst (λ (t : Term). Allowed t.uses) (sym (picked_as using_ (λ t. refl) (λ x alias. refl) ts s)) h

-- ---- parameters

source_quiet : (s : Select) → Quiet (select_of finding s) → Quiet (from_of finding (as_source s))
source_quiet s h = quiet_is _ _ (eq.of_sub finding (one s) false) (quiet_is _ _ (eq.of_query finding (s ∷ [])) (λ p. h p))

over_quiet : (e : Expr) (limit : Option Expr) (s : Select) → Quiet (select_of finding s) → Quiet (expr_of finding e) → Quiet (params.maybe (option_map (λ e. expr_of finding e) limit))
    → Quiet (select_of finding (over_source e limit s))
over_quiet e limit s h k l =
    quiet_is _ _ (eq.of_select finding (item e ∷ []) (as_source s ∷ []) None [] limit) (λ p. l _ ∙ (source_quiet s h (expr_of finding e p) ∙ k p))

scalar_quiet : (e : Expr) (limit : Option Expr) (s : Select) → Quiet (select_of finding (over_source e limit s)) → Quiet (expr_of finding (scalar_over e limit s))
scalar_quiet e limit s h = quiet_is _ _ (eq.of_scalar finding (one (over_source e limit s))) (quiet_is _ _ (eq.of_query finding (over_source e limit s ∷ [])) (λ p. h p))

compared_quiet : (op : CmpOp) (s : Select) (n : ℤ) → Quiet (select_of finding s) → Quiet (expr_of finding (count_compared op s n))
compared_quiet op s n h =
    quiet_is _ _ (eq.of_compare finding op (scalar_over expr.CountRows None s) (expr.Int n)) (scalar_quiet expr.CountRows None s (over_quiet expr.CountRows None s h (λ p. refl) (λ p. refl)))

pick_quiet : (s : Select) (j : ℕ) → Quiet (select_of finding s) → Quiet (expr_of finding (pick s j))
pick_quiet s j h = scalar_quiet (col 0 0 j) (Some (expr.Int (pos 1))) s (over_quiet (col 0 0 j) (Some (expr.Int (pos 1))) s h (λ p. refl) (λ p. refl))

-- the select as a whole expression
pub whole_found : (s : Select) → expr_of finding (query_of s) ≡ select_of finding s
whole_found s = eq.of_scalar finding (one s) ∙ eq.of_query finding (s ∷ [])

pub inner_quiet : (s : Select) → Quiet (expr_of finding (query_of s)) → Quiet (select_of finding s)
inner_quiet s h = subst Quiet (whole_found s) h

abbrev pub IsQuiet : Expr → Type 0
IsQuiet e = Quiet (expr_of finding e)

pick_as_quiet : (c : Option Ty) (s : Select) (j : ℕ) → Quiet (select_of finding s) → Quiet (expr_of finding (pick_as c s j))
pick_as_quiet None s j h = pick_quiet s j h
pick_as_quiet (Some t) s j h = quiet_is _ _ (eq.of_cast finding (pick s j) t) (pick_quiet s j h)

picks_quiet : (ts : List Ty) (s : Select) → Quiet (select_of finding (picked ts s)) → (places : List ℕ) → Every IsQuiet (map (pick_entry ts s) places)
picks_quiet ts s h [] = tt
picks_quiet ts s h (place ∷ places) = (pick_as_quiet (cast_at ts (out-Select s).list place) (picked ts s) place h, picks_quiet ts s h places)

checks_quiet : (strict : Bool) (s : Select) → Quiet (select_of finding s) → Every IsQuiet (check_entries strict s)
checks_quiet true s h = (compared_quiet cmp.Eq s (pos 0) h, (compared_quiet cmp.Gt s (pos 1) h, tt))
checks_quiet false s h = tt

pub entries_quiet : (types : List Ty) (strict : Bool) (targets : List Target) (s : Select) → IsQuiet (query_of s) → Every IsQuiet (into_entries types strict targets s)
entries_quiet types strict targets s h =
    let ts = target_types types targets in
    let whole = inner_quiet s h in
    every_append IsQuiet (check_entries strict (unmarked s)) (pick_entries ts s) (checks_quiet strict (unmarked s) (as_before [] whole)) (picks_quiet ts s (as_before ts whole) _)
  where
    as_before : (ts : List Ty) → Quiet (select_of finding s) → Quiet (select_of finding (picked ts s))
    as_before ts = subst Quiet (sym (picked_as finding (λ t. refl) (λ x alias. refl) ts s))
