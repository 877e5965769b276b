-- What a plan makes of a place that calls something, and of the bodies of called functions.
use Rattle.std.proofs.Common.{◌≡◌, sym, ap, subst, ◌∙◌, ℕ, suc, ◌+◌, ◌-◌, ◌≤◌, List, length, Bor, Option, None, Some, IfSome}
use Rattle.away_trees.specs.declared.queries.Expr.{Expr}
use Rattle.away_trees.specs.declared.schemas.Schema.{Schema}
use Rattle.away_trees.specs.declared.statements.Function.{Function}
use Rattle.away_trees.specs.declared.statements.Stmt.{Stmt}
use Rattle.away_trees.specs.declared.statements.Stmt.TheVariants as stmt
use Rattle.away_trees.specs.StatementAlgebra.{stmt_of}
use Rattle.away_names.specs.Lookups.{Name}
use Rattle.moved_names.specs.Fresh.{AreFresh}
use Rattle.moved_names.specs.Renamed.{moved}
use Rattle.call_expand.specs.CallPlaces.{called, maybe_called}
use Rattle.call_expand.specs.Expanding.{IsExpansion, call_place, expanded_body, function_at, main_body, names_of, placed}
use Rattle.call_expand.specs.Expanding as expanding
use Rattle.call_expand.specs.Moving.{moved_params, seeing_params}
use Rattle.call_expand.specs.Plans.{assigned_by, body_at, call_assigned, call_returned, called_body, deeper, planned_assignment, planned_return, planned_stmt, returned_by, working}
use Rattle.call_expand.specs.declared.made.Back.TheVariants.{Whole, Into}
use Rattle.call_expand.specs.declared.made.Expansion.{Expansion}
use Rattle.call_expand.specs.declared.made.Made.{Made}
use Rattle.call_expand.specs.declared.made.Plan.TheVariants as plan
use Rattle.call_expand.specs.declared.made.Seen.{Seen}
use Rattle.call_expand.specs.declared.made.Work.{Work}
use Rattle.call_expand.specs.declared.places.Place.{Place}

-- what is promised of a value that is there
pub some_is : {A : Type 0} (P : A → Type 0) (found : Option A) (x : A) → found ≡ Some x → IfSome found P → P x
some_is P found x is h = subst (λ o. IfSome o P) is h

-- ---- places whose calls are expanded

module _ (w : Work) (x : Expansion) (is : w.plan ≡ plan.Expand x) (e : Expr) (seen : Seen) (k : ℕ) (o : Option Place) (found : maybe_called o ≡ call_place (names_of x.fs.now) e) where
  abbrev goes_on : Name → Expr → Stmt
  goes_on name v = stmt.Assign (moved w.names.now seen.variables name) None v

  abbrev leaves : Expr → Stmt
  leaves v = expanding.returned_by w.names.now x.back v

  -- a place is as what the code found it calls
  place_as : (v : Expr → Stmt) (p : Option Place) → o ≡ p
      → placed w.names.now x.fs.now (deeper w.names.now x) (maybe_called p) e v seen k ≡ placed w.names.now x.fs.now (deeper w.names.now x) (call_place (names_of x.fs.now) e) e v seen k
  place_as v p there = ap (λ c. placed w.names.now x.fs.now (deeper w.names.now x) c e v seen k) (sym (ap (λ q. maybe_called q) there) ∙ found)

  pub call_assigns : (name : Name) (c : Place) (body : Made Stmt) → o ≡ Some c → body ≡ called_body w.names.now x c.part k
      → call_assigned w.names.now x.fs.now (called c) name seen k body ≡ planned_assignment w name e seen k
  call_assigns name c body some built =
      ap (λ b. call_assigned w.names.now x.fs.now (called c) name seen k b) built
      ∙ (place_as (goes_on name) (Some c) some ∙ ap (λ p. assigned_by w.names.now p name e seen k) (sym is))

  pub call_returns : (c : Place) (body : Made Stmt) → o ≡ Some c → body ≡ called_body w.names.now x c.part k
      → call_returned w.names.now x.fs.now (called c) x.back seen k body ≡ planned_return w e seen k
  call_returns c body some built =
      ap (λ b. call_returned w.names.now x.fs.now (called c) x.back seen k b) built
      ∙ (place_as leaves (Some c) some ∙ ap (λ p. returned_by w.names.now p e seen k) (sym is))

-- ---- bodies

-- a called function's result, label and parameters stand before its body
pub called_is : (names : List Name) (x : Expansion) (part k l p at : ℕ) (g : Function) → g ≡ function_at x.fs.now part → l ≡ suc k → p ≡ suc l → at ≡ p + length g.params
    → body_at names (record { fs = x.fs; depth = x.depth; back = Into k l }) part p at ≡ called_body names x part k
called_is names x part k l p at g is label params behind =
    let first : p ≡ suc (suc k) = params ∙ ap (λ n. suc n) label in
    let body : at ≡ suc (suc k) + length (function_at x.fs.now part).params = behind ∙ (λ i. first i + length (is i).params) in
    λ i. body_at names (record { fs = x.fs; depth = x.depth; back = Into k (label i) }) part (first i) (body i)

-- the walk in which calls nest one less deep
abbrev pub less_deep : Bor (List Name) → Expansion → Work
less_deep names x = record { names = names; plan = plan.Expand (record { fs = x.fs; depth = x.depth - 1; back = x.back }) }

pub body_is : (names : Bor (List Name)) (x : Expansion) (part p k : ℕ) (g : Function) (seen : Seen) → g ≡ function_at x.fs.now part → seen ≡ seeing_params p g.params → suc (x.depth - 1) ≡ x.depth
    → planned_stmt (less_deep names x) g.body seen k ≡ body_at names.now x part p k
unfolding planned_stmt
body_is names x part p k g seen is sees deep =
    (λ i. stmt_of (working (less_deep names x)) (is i).body ((sees ∙ ap (λ h. seeing_params p h.params) is) i) k)
    ∙ ap (λ d. expanded_body names.now x.fs.now d part x.back (seeing_params p (function_at x.fs.now part).params) k) deep

-- ---- the whole

pub main_is : (names : List Name) (fs : Bor (List Function)) (depth k : ℕ) (f : Function) → depth ≡ length fs.now → f ≡ function_at fs.now 0 → k ≡ length f.params
    → body_at names (record { fs = fs; depth = depth; back = Whole }) 0 0 k ≡ main_body names fs.now
main_is names fs depth k f deep is at =
    λ i. expanded_body names fs.now (deep i) 0 Whole (seeing_params 0 (function_at fs.now 0).params) ((at ∙ ap (λ g. length g.params) is) i)

pub is_expansion : (s : Schema) (fs : List Function) (f : Function) (names : List Name) (body : Made Stmt) → AreFresh s fs names → f ≡ function_at fs 0 → body ≡ main_body names fs
    → body.next ≤ length names → IsExpansion s fs (record { name = f.name; strict = f.strict; params = moved_params names 0 f.params; result = f.result; body = body.it })
is_expansion s fs f names body fresh first is few = record {
  names = names;
  fresh = fresh;
  enough = subst (λ x. x.next ≤ length names) is few;
  is = λ i. record { name = (first i).name; strict = (first i).strict; params = moved_params names 0 (first i).params; result = (first i).result; body = (is i).it };
}
