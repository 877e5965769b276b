-- Guards, and the steps of terms: behind a guard that is true a step has the term's value or its fault, and behind another it has NULL.
use Rattle.std.proofs.Common.{◌≡◌, refl, ap, sym, ◌∙◌, subst, ℕ, suc, ◌+◌, Bool, true, false, not, ◌&&◌, ◌||◌, if◌then◌else◌, nat_lt, List, [], ◌∷◌, ◌++◌, length, slice_index_or, Some, None, Ok, Err, arith}
use Rattle.away_trees.specs.declared.queries.Expr.{Expr}
use Rattle.away_trees.proofs.Equations as eq
use Rattle.away_values.specs.declared.operators.ChainOp.TheVariants as chain
use Rattle.away_values.specs.declared.operators.IsTest.TheVariants as test
use Rattle.away_values.specs.declared.types.Ty.{Ty}
use Rattle.away_values.specs.declared.values.Class.{Class}
use Rattle.away_values.specs.declared.values.Value.{Value}
use Rattle.away_values.specs.declared.values.Value.TheVariants as val
use Rattle.away_values.specs.Operators.{is_true, is_false, conjunction, negation_if}
use Rattle.away_values.specs.Results.{Or, and_then, mapped}
use Rattle.sql_meaning.specs.Context.{Rows, Context, inside}
use Rattle.sql_meaning.specs.Expressions.{any_aggregates}
use Rattle.sql_meaning.specs.Meaning.{meaning, value, has_aggregate}
use Rattle.sql_meaning.specs.Parts.{pair}
use Rattle.block_forms.specs.declared.forms.Term.{Term}
use Rattle.call_forms.specs.Scopes.{Scope}
use Rattle.call_forms.specs.Template.{is_not_true}
use Rattle.cte_law.proofs.Worlds.{World, expr_in, value_in, value_is, OverTables}
use Rattle.turn_template.specs.TurnTemplate.{Ref, term_ref, gated, either, both, Settled, settle, settled, Style}
use Rattle.turn_law.proofs.Levels.{all, At, Steps}
use Rattle.turn_law.proofs.Terms.{Longer, as_long, longer_still, one_longer, Holds, HoldOn, on_still, holds_still, new_holds, here_is, IsTotal, placed_same}

abbrev any_context : List (List (List Value)) → Context
any_context T = record { env = []; args = []; frames = []; tables = T; group = [] }

-- ---- CASE, AND, IS NOT TRUE

abbrev pub if_true : Value → Or Value → Or Value → Or Value
if_true u a b = if is_true u then a else b

pub case_is : (g e : Expr) (cx : Context) (u : Value) → value g cx ≡ Ok u → value (gated g e) cx ≡ if_true u (value e cx) (Ok val.Null)
case_is g e cx u h = ap (λ x. x.value cx) (eq.of_cases meaning ((g, e) ∷ []) None) ∙ ap (λ o. and_then o (λ b. if_true b (value e cx) (Ok val.Null))) h

pub either_is : (c a b : Expr) (cx : Context) (u : Value) → value c cx ≡ Ok u → value (either c a b) cx ≡ if_true u (value a cx) (value b cx)
either_is c a b cx u h =
    ap (λ x. x.value cx) (eq.of_cases meaning ((c, a) ∷ []) (Some b)) ∙ ap (λ o. and_then o (λ v. if_true v (value a cx) (value b cx))) h

none_of : (a b : Bool) → a ≡ false → b ≡ false → ((a || b) || false) ≡ false
none_of a b h k = λ i. (h i || k i) || false

none_of_three : (a b c : Bool) → a ≡ false → b ≡ false → c ≡ false → (((a || b) || false) || c) ≡ false
none_of_three a b c h k l = λ i. ((h i || k i) || false) || l i

pub case_single : (g e : Expr) → has_aggregate g ≡ false → has_aggregate e ≡ false → has_aggregate (gated g e) ≡ false
case_single g e h k =
    ap (λ x. x.aggregates) (eq.of_cases meaning ((g, e) ∷ []) None) ∙ (λ i. ((h i || k i) || false) || false)

pub either_single : (c a b : Expr) → has_aggregate c ≡ false → has_aggregate a ≡ false → has_aggregate b ≡ false → has_aggregate (either c a b) ≡ false
either_single c a b h k l =
    ap (λ x. x.aggregates) (eq.of_cases meaning ((c, a) ∷ []) (Some b)) ∙ none_of_three (has_aggregate c) (has_aggregate a) (has_aggregate b) h k l

-- what AND comes to
abbrev pub and_value : Value → Value → Value
and_value u v = if is_false u then val.Bool false else conjunction u v

and_of : (u v : Value) → and_then (pair chain.And u (Ok v)) (λ x. Ok x) ≡ Ok (and_value u v)
and_of (val.Bool true) v = refl
and_of (val.Bool false) v = refl
and_of (val.Int n) v = refl
and_of (val.Text t) v = refl
and_of val.Null v = refl

-- it is true where both are
pub and_true : (u v : Value) → is_true (and_value u v) ≡ (is_true u && is_true v)
and_true (val.Bool true) (val.Bool true) = refl
and_true (val.Bool true) (val.Bool false) = refl
and_true (val.Bool true) (val.Int n) = refl
and_true (val.Bool true) (val.Text t) = refl
and_true (val.Bool true) val.Null = refl
and_true (val.Bool false) v = refl
and_true (val.Int n) (val.Bool true) = refl
and_true (val.Int n) (val.Bool false) = refl
and_true (val.Int n) (val.Int m) = refl
and_true (val.Int n) (val.Text t) = refl
and_true (val.Int n) val.Null = refl
and_true (val.Text s) (val.Bool true) = refl
and_true (val.Text s) (val.Bool false) = refl
and_true (val.Text s) (val.Int m) = refl
and_true (val.Text s) (val.Text t) = refl
and_true (val.Text s) val.Null = refl
and_true val.Null (val.Bool true) = refl
and_true val.Null (val.Bool false) = refl
and_true val.Null (val.Int m) = refl
and_true val.Null (val.Text t) = refl
and_true val.Null val.Null = refl

both_is : (g c : Expr) (cx : Context) (u v : Value) → value g cx ≡ Ok u → value c cx ≡ Ok v
    → value (both g c) cx ≡ and_then (pair chain.And u (Ok v)) (λ x. Ok x)
both_is g c cx u v h k =
    ap (λ x. x.value cx) (eq.of_chain meaning g ((chain.And, c) ∷ []))
    ∙ (λ i. and_then (h i) (λ a. and_then (pair chain.And a (k i)) (λ x. Ok x)))

both_single : (g c : Expr) → has_aggregate g ≡ false → has_aggregate c ≡ false → has_aggregate (both g c) ≡ false
both_single g c h k = ap (λ x. x.aggregates) (eq.of_chain meaning g ((chain.And, c) ∷ [])) ∙ (λ i. h i || (k i || false))

not_true_is : (c : Expr) (cx : Context) (v : Value) → value c cx ≡ Ok v → value (is_not_true c) cx ≡ Ok (val.Bool (not (is_true v)))
not_true_is c cx v h =
    ap (λ x. x.value cx) (eq.of_is meaning c (test.True) true) ∙ ap (mapped (λ v. negation_if true (val.Bool (is_true v)))) h

not_true_single : (c : Expr) → has_aggregate c ≡ false → has_aggregate (is_not_true c) ≡ false
not_true_single c h = ap (λ x. x.aggregates) (eq.of_is meaning c (test.True) true) ∙ h

abbrev class_or : Value → Or Value
class_or v = Ok v

abbrev fault_or : Class → Or Value
fault_or c = Err c

same_value : {v x : Value} → class_or v ≡ class_or x → v ≡ x
same_value {v} {x} h = ap get h
  where
    get : Or Value → Value
    get (Ok z) = z
    get (Err c) = v

never : {v : Value} {c : Class} → class_or v ≡ fault_or c → ⊥
never h = cc

-- ---- guards

module _ (T : List Rows) where
  -- its value over the row and over each longer one
  pub record Guards (g : Expr) (r : List Value) (u : Value) : Type 0 where
    pub single : has_aggregate g ≡ false
    pub gives : (y : List Value) → Longer r y → At T g y (Ok u)

  pub guards_still : (g : Expr) (r y : List Value) (u : Value) → Longer r y → Guards g r u → Guards g y u
  guards_still g r y u h k = record { single = k.single; gives = λ z l. k.gives z (longer_still r y z h l) }

  -- a reference as a condition
  pub ref_guards : (x : Ref) (r : List Value) (v : Value) → Holds T x r v → Guards (x 0) r v
  ref_guards x r v h = record {
    single = (h r (as_long r)).single 0;
    gives = λ y l. here_is T x y v (holds_still T x r y v l h);
  }

  pub both_guard : (g c : Expr) (r : List Value) (u v : Value) → Guards g r u → Guards c r v → Guards (both g c) r (and_value u v)
  both_guard g c r u v h k = record {
    single = both_single g c h.single k.single;
    gives = λ y l cx t. both_is g c (inside (y ∷ []) cx) u v (h.gives y l cx t) (k.gives y l cx t) ∙ and_of u v;
  }

  pub not_guards : (c : Expr) (r : List Value) (v : Value) → Guards c r v → Guards (is_not_true c) r (val.Bool (not (is_true v)))
  not_guards c r v h = record {
    single = not_true_single c h.single;
    gives = λ y l cx t. not_true_is c (inside (y ∷ []) cx) v (h.gives y l cx t);
  }

  -- ---- settling

  -- the steps come to a longer row, over which the reference has the value
  pub record Settles (r : List Value) (x : Settled) (v : Value) : Type 0 where
    pub row : List Value
    pub longer : Longer r row
    pub long : length row ≡ length x.steps + length r
    pub steps : Steps T x.steps r (Ok row)
    pub holds : Holds T x.ref row v

  grown : (r : List Value) (v : Value) → length (r ++ v ∷ []) ≡ 1 + length r
  grown [] v = refl
  grown (x ∷ r) v = ap suc (grown r v) ∙ omega arith

  pub step_settles : (m : ℕ) (g : Expr) (x : Ref) (r : List Value) (v : Value) → length r ≡ m → At T (gated g (x 0)) r (Ok v)
      → Settles r (settle false m g x) v
  step_settles m g x r v long h = record {
    row = r ++ v ∷ [];
    longer = one_longer r v;
    long = grown r v;
    steps = record { answer = Ok v; gives = h; more = refl };
    holds = new_holds T r m v long;
  }

module _ (w : World) (ok : OverTables w) (T : List Rows)
    (sees : (k : ℕ) → nat_lt k (length w.tables) ≡ true → slice_index_or T k [] ≡ slice_index_or w.tables k [])
    (total : Term → Bool) (totals : (u : Term) → total u ≡ true → IsTotal w u) (style : Style) (alike : (x y : Expr) → style.same x y ≡ true → x ≡ y) where
  abbrev pub ref_of : Scope Ref → Ty → Term → Ref
  ref_of refs ty u = term_ref w.table w.types w.tail.columns w.result total style refs ty u

  abbrev pub settled_of : ℕ → Expr → Scope Ref → Ty → Term → Settled
  settled_of m g refs ty u = settled w.table w.types w.tail.columns w.result total style m g refs ty u

  module _ (r : List Value) (refs : Scope Ref) (s : Scope Value) (ty : Ty) (u : Term) (hold : HoldOn T refs r s u.names) where
    pub term_is : At T (ref_of refs ty u 0) r (value_in w u s)
    term_is cx t =
        (placed_same w ok T sees r refs s u hold cx t ty (expr_in w u) 0 (ok u.expr).reads_own).1 [] [] (record { size = refl; alone = λ z. refl })
        ∙ sym (value_is w u s)

    pub term_single : has_aggregate (ref_of refs ty u 0) ≡ false
    term_single =
        (placed_same w ok T sees r refs s u hold (any_context T) refl ty (expr_in w u) 0 (ok u.expr).reads_own).0 ∙ (ok u.expr).single

    pub total_is : (is : IsTotal w u) → value_in w u s ≡ Ok (is.worth s)
    total_is is = value_is w u s ∙ is.gives s [] []

    pub term_holds : (is : IsTotal w u) → Holds T (ref_of refs ty u) r (is.worth s)
    term_holds is y l = record {
      single = λ d.
          (placed_same w ok T sees y refs s u (on_still T refs r y s u.names l hold) (any_context T) refl ty (expr_in w u) d (is.reads d)).0
          ∙ (ok u.expr).single;
      gives = λ d cx t f g ready.
          (placed_same w ok T sees y refs s u (on_still T refs r y s u.names l hold) cx t ty (expr_in w u) d (is.reads d)).1 f g ready
          ∙ is.gives s (f ++ []) g;
    }

    module _ (m : ℕ) (long : length r ≡ m) (g : Expr) (b : Value) (guards : Guards T g r b) where
      at_gate : At T (gated g (ref_of refs ty u 0)) r (if_true b (value_in w u s) (Ok val.Null))
      at_gate cx t =
          case_is g (ref_of refs ty u 0) (inside (r ∷ []) cx) b (guards.gives r (as_long r) cx t)
          ∙ ap (λ o. if_true b o (Ok val.Null)) (term_is cx t)

      without : (v : Value) → Holds T (ref_of refs ty u) r v → Settles T r (settle true m g (ref_of refs ty u)) v
      without v h = record { row = r; longer = as_long r; long = omega arith; steps = refl; holds = h }

      -- where the guard is true and the term has a value
      settles_by : (k : Bool) → total u ≡ k → is_true b ≡ true → (v : Value) → value_in w u s ≡ Ok v
          → Settles T r (settle k m g (ref_of refs ty u)) v
      settles_by true q on v h =
          let is = totals u q in
          without v (subst (λ z. Holds T (ref_of refs ty u) r z) (same_value (sym (total_is is) ∙ h)) (term_holds is))
      settles_by false q on v h =
          step_settles T m g (ref_of refs ty u) r v long
          (λ cx t. at_gate cx t ∙ (ap (λ z. if z then value_in w u s else Ok val.Null) on ∙ h))

      pub settles : is_true b ≡ true → (v : Value) → value_in w u s ≡ Ok v → Settles T r (settled_of m g refs ty u) v
      settles = settles_by (total u) refl

      -- where the guard is true and the term faults
      faults_by : (k : Bool) → total u ≡ k → is_true b ≡ true → (c : Class) → value_in w u s ≡ Err c
          → Steps T (settle k m g (ref_of refs ty u)).steps r (Err c)
      faults_by true q on c h = absurd (never (sym (total_is (totals u q)) ∙ h))
      faults_by false q on c h = record {
        answer = Err c;
        gives = λ cx t. at_gate cx t ∙ (ap (λ z. if z then value_in w u s else Ok val.Null) on ∙ h);
        more = refl;
      }

      pub settle_faults : is_true b ≡ true → (c : Class) → value_in w u s ≡ Err c → Steps T (settled_of m g refs ty u).steps r (Err c)
      settle_faults = faults_by (total u) refl

      -- where the guard isn't true
      idles_by : (k : Bool) → total u ≡ k → is_true b ≡ false → (v : Value) × Settles T r (settle k m g (ref_of refs ty u)) v
      idles_by true q off = ((totals u q).worth s, without ((totals u q).worth s) (term_holds (totals u q)))
      idles_by false q off = (
        val.Null,
        step_settles T m g (ref_of refs ty u) r val.Null long (λ cx t. at_gate cx t ∙ ap (λ z. if z then value_in w u s else Ok val.Null) off),
      )

      pub settle_idles : is_true b ≡ false → (v : Value) × Settles T r (settled_of m g refs ty u) v
      settle_idles = idles_by (total u) refl

      single_by : (k : Bool) → any_aggregates (all (settle k m g (ref_of refs ty u)).steps) ≡ false
      single_by true = refl
      single_by false = λ i. case_single g (ref_of refs ty u 0) guards.single term_single i || false

      pub settle_single : any_aggregates (all (settled_of m g refs ty u).steps) ≡ false
      settle_single = single_by (total u)
