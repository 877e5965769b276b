-- What plans come to over a row: a step faults, or all steps have their values and the cells come to a row or a fault. And plans put together.
use Rattle.std.proofs.Common.{◌≡◌, refl, ap, ◌∙◌, suc, ◌+◌, Bool, true, false, ◌||◌, List, [], ◌∷◌, ◌++◌, length, Ok, Err, arith}
use Rattle.away_trees.specs.declared.queries.Expr.{Expr}
use Rattle.away_values.specs.declared.values.Class.{Class}
use Rattle.away_values.specs.declared.values.Value.{Value}
use Rattle.away_values.specs.Operators.{is_true}
use Rattle.away_values.specs.Results.{Or}
use Rattle.sql_meaning.specs.Context.{Rows, inside}
use Rattle.sql_meaning.specs.Expressions.{any_aggregates}
use Rattle.sql_meaning.specs.Meaning.{has_aggregate}
use Rattle.turn_template.specs.TurnTemplate as turns
use Rattle.turn_template.specs.TurnTemplate.{Plan, Settled, behind}
use Rattle.turn_law.proofs.Levels.{all, AtAll, Steps, steps_join, steps_fault, or_first, or_second}
use Rattle.turn_law.proofs.Choices.{choices_true, choices_false, choices_single}
use Rattle.turn_law.proofs.Terms.{Longer, longer_still}
use Rattle.turn_law.proofs.Settled.{Guards, Settles}

single_join : (xs ys : List Expr) → any_aggregates (all xs) ≡ false → any_aggregates (all ys) ≡ false → any_aggregates (all (xs ++ ys)) ≡ false
single_join [] ys h k = k
single_join (x ∷ xs) ys h k =
    let first = or_first (has_aggregate x) (any_aggregates (all xs)) h in
    let rest = single_join xs ys (or_second (has_aggregate x) (any_aggregates (all xs)) h) k in
    λ i. first i || rest i

length_join : (xs ys : List Expr) → length (xs ++ ys) ≡ length xs + length ys
length_join [] ys = omega arith
length_join (x ∷ xs) ys = ap suc (length_join xs ys) ∙ omega arith

-- ---- what plans come to

module _ (T : List Rows) where
  pub record Reaches (p : Plan) (r : List Value) (o : Or (List Value)) : Type 0 where
    pub row : List Value
    pub longer : Longer r row
    pub long : length row ≡ length p.steps + length r
    pub steps : Steps T p.steps r (Ok row)
    pub cells : (y : List Value) → Longer row y → AtAll T p.cells y o

  -- a step faults, or the cells have a row or fault
  pub data On (p : Plan) (r : List Value) (o : Or (List Value)) : Type 0 where
    stops : (c : Class) → o ≡ Err c → Steps T p.steps r (Err c) → On p r o
    reaches : Reaches p r o → On p r o

  -- no step faults, whatever the cells come to
  pub record Off (p : Plan) (r : List Value) : Type 0 where
    pub row : List Value
    pub longer : Longer r row
    pub long : length row ≡ length p.steps + length r
    pub steps : Steps T p.steps r (Ok row)
    pub single_steps : any_aggregates (all p.steps) ≡ false
    pub single_cells : any_aggregates (all p.cells) ≡ false

  joined_long : (xs ys : List Expr) (r x y : List Value) → length x ≡ length xs + length r → length y ≡ length ys + length x
      → length y ≡ length (xs ++ ys) + length r
  joined_long xs ys r x y h k = omega (arith, h, k, length_join xs ys)

  pub behind_on : (r : List Value) (x : Settled) (v : Value) (is : Settles T r x v) (p : Plan) (o : Or (List Value)) → On p is.row o
      → On (behind x p) r o
  behind_on r x v is p o (stops c e h) = stops c e (steps_join T x.steps p.steps r is.row (Err c) is.steps h)
  behind_on r x v is p o (reaches h) =
      reaches (record {
        row = h.row;
        longer = longer_still r is.row h.row is.longer h.longer;
        long = joined_long x.steps p.steps r is.row h.row is.long h.long;
        steps = steps_join T x.steps p.steps r is.row (Ok h.row) is.steps h.steps;
        cells = h.cells;
      })

  pub behind_fault : (r : List Value) (x : Settled) (c : Class) → Steps T x.steps r (Err c) → (p : Plan) → On (behind x p) r (Err c)
  behind_fault r x c h p = stops c refl (steps_fault T x.steps p.steps r c h)

  pub behind_off : (r : List Value) (x : Settled) (v : Value) (is : Settles T r x v) → any_aggregates (all x.steps) ≡ false → (p : Plan) → Off p is.row
      → Off (behind x p) r
  behind_off r x v is s p h = record {
    row = h.row;
    longer = longer_still r is.row h.row is.longer h.longer;
    long = joined_long x.steps p.steps r is.row h.row is.long h.long;
    steps = steps_join T x.steps p.steps r is.row (Ok h.row) is.steps h.steps;
    single_steps = single_join x.steps p.steps s h.single_steps;
    single_cells = h.single_cells;
  }

module _ (same : Expr → Expr → Bool) (alike : (x y : Expr) → same x y ≡ true → x ≡ y) (T : List Rows) where
  -- the first plan where the condition is true
  pub chosen_first : (c : Expr) (u : Value) (r : List Value) → Guards T c r u → is_true u ≡ true → (p q : Plan) (o : Or (List Value))
      → length p.cells ≡ length q.cells → On T p r o → ((y : List Value) → Longer r y → length y ≡ length p.steps + length r → Off T q y)
      → On T (turns.chosen same c p q) r o
  chosen_first c u r guards on p q o long (stops d e h) off = stops d e (steps_fault T p.steps q.steps r d h)
  chosen_first c u r guards on p q o long (reaches h) off =
      let idle = off h.row h.longer h.long in
      reaches (record {
        row = idle.row;
        longer = longer_still r h.row idle.row h.longer idle.longer;
        long = joined_long T p.steps q.steps r h.row idle.row h.long idle.long;
        steps = steps_join T p.steps q.steps r h.row (Ok idle.row) h.steps idle.steps;
        cells = λ y l cx t.
            choices_true same alike (inside (y ∷ []) cx) c u (guards.gives y (longer_still r idle.row y (longer_still r h.row idle.row h.longer idle.longer) l) cx t) on p.cells q.cells long
            ∙ h.cells y (longer_still h.row idle.row y idle.longer l) cx t;
      })

  -- the second where it isn't
  pub chosen_second : (c : Expr) (u : Value) (r : List Value) → Guards T c r u → is_true u ≡ false → (p q : Plan) (o : Or (List Value))
      → length p.cells ≡ length q.cells → (idle : Off T p r) → On T q idle.row o → On T (turns.chosen same c p q) r o
  chosen_second c u r guards on p q o long idle (stops d e h) =
      stops d e (steps_join T p.steps q.steps r idle.row (Err d) idle.steps h)
  chosen_second c u r guards on p q o long idle (reaches h) =
      reaches (record {
        row = h.row;
        longer = longer_still r idle.row h.row idle.longer h.longer;
        long = joined_long T p.steps q.steps r idle.row h.row idle.long h.long;
        steps = steps_join T p.steps q.steps r idle.row (Ok h.row) idle.steps h.steps;
        cells = λ y l cx t.
            choices_false same alike (inside (y ∷ []) cx) c u (guards.gives y (longer_still r h.row y (longer_still r idle.row h.row idle.longer h.longer) l) cx t) on p.cells q.cells long
            ∙ h.cells y l cx t;
      })

  pub chosen_off : (c : Expr) (r : List Value) → has_aggregate c ≡ false → (p q : Plan) → (idle : Off T p r) → Off T q idle.row → Off T (turns.chosen same c p q) r
  chosen_off c r s p q idle h = record {
    row = h.row;
    longer = longer_still r idle.row h.row idle.longer h.longer;
    long = joined_long T p.steps q.steps r idle.row h.row idle.long h.long;
    steps = steps_join T p.steps q.steps r idle.row (Ok h.row) idle.steps h.steps;
    single_steps = single_join p.steps q.steps idle.single_steps h.single_steps;
    single_cells = choices_single same alike c p.cells q.cells s idle.single_cells h.single_cells;
  }
