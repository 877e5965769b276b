-- The count of working tables is the least bound.
use Rattle.std.proofs.Common.{◌≡◌, ◌≢◌, length, refl, sym, ◌∙◌, ap, subst, ℕ, zero, suc, ◌<◌, ◌≤◌, ◌+◌, ◌-◌, Bool, true, false, List, [], ◌∷◌, ◌++◌, Option, Some, None, Ok, Err, arith, if◌then◌else◌}
use Rattle.away_values.specs.declared.values.Class.{Class}
use Rattle.away_values.specs.declared.values.Value.{Value}
use Rattle.away_values.specs.declared.values.Value.TheVariants as val
use Rattle.away_values.specs.declared.values.Answer.TheVariants as answer
use Rattle.away_trees.specs.declared.queries.Query.{Query}
use Rattle.away_trees.specs.declared.queries.Recursive.{Recursive}
use Rattle.away_trees.specs.declared.queries.Expr.TheViews.{out-Query}
use Rattle.away_values.specs.Results.{Or, class}
use Rattle.sql_meaning.specs.Context.{Rows, outermost}
use Rattle.sql_meaning.specs.Equations.{recursive_part}
use Rattle.sql_meaning.specs.Meaning.{rows_of_query}
use Rattle.sql_meaning.specs.Working.{Bounded, answered, answer_of_rows, next_rows, over_table, recursive_table, sql, with_table, worked}
use Rattle.away_values.specs.Classes.{is_class}
use Rattle.sql_meaning.proofs.Nodes as nodes
use Rattle.sql_eval.specs.Lengths.{IsLeastBound, IsLength, ended_after, length_within}

record Ends (step : Rows → Or Rows) (left used : ℕ) (done : Rows) (m : Or Rows) (n : ℕ) : Type 0 where
  low : used ≤ n
  high : n ≤ used + left
  ended : worked step (n - used) done m ≢ None
  before : (j : ℕ) → used + j < n → worked step j done m ≡ None

at_once : (step : Rows → Or Rows) (left used : ℕ) (done : Rows) (m : Or Rows) (n : ℕ) → used ≡ n → ((k : ℕ) → worked step k done m ≢ None) → Ends step left used done m n
at_once step left used done m n e h = record {
  low = omega (arith, e);
  high = omega (arith, e);
  ended = h (n - used);
  before = λ j l. absurd (omega (arith, e, l));
}

later : (step : Rows → Or Rows) (left used : ℕ) (done : Rows) (row : List Value) (more : Rows) (n : ℕ) → Ends step left (suc used) (done ++ row ∷ more) (step (row ∷ more)) n → Ends step (suc left) used done (Ok (row ∷ more)) n
later step left used done row more n it = record {
  low = let l : suc used ≤ n = it.low in omega arith;
  high = let l : n ≤ suc used + left = it.high in omega arith;
  ended = let l : suc used ≤ n = it.low in let e : suc (n - suc used) ≡ n - used = omega arith in subst (λ k. worked step k done (Ok (row ∷ more)) ≢ None) e it.ended;
  before = earlier;
}
  where
    earlier : (j : ℕ) → used + j < n → worked step j done (Ok (row ∷ more)) ≡ None
    earlier zero l = refl
    earlier (suc j) l = it.before j (omega (arith, l))

fault_ends : (step : Rows → Or Rows) (done : Rows) (c : Class) (k : ℕ) → worked step k done (Err c) ≢ None
fault_ends step done c k h = cc

empty_ends : (step : Rows → Or Rows) (done : Rows) (k : ℕ) → worked step k done (Ok []) ≢ None
empty_ends step done k h = cc

ends : (step : Rows → Or Rows) (left used : ℕ) (done : Rows) (m : Or Rows) (n : ℕ) → ended_after step left used m ≡ Some n → Ends step left used done m n
unfolding ended_after
ends step left used done (Err c) n h = at_once step left used done (Err c) n (cc) (fault_ends step done c)
ends step left used done (Ok []) n h = at_once step left used done (Ok []) n (cc) (empty_ends step done)
ends step zero used done (Ok (row ∷ more)) n h = cc
ends step (suc left) used done (Ok (row ∷ more)) n h = later step left used done row more n (ends step left (suc used) (done ++ row ∷ more) (step (row ∷ more)) n h)

short : (step : Rows → Or Rows) (left used : ℕ) (done : Rows) (m : Or Rows) → ended_after step left used m ≡ None → worked step left done m ≡ None
unfolding ended_after
short step left used done (Err c) h = cc
short step left used done (Ok []) h = cc
short step zero used done (Ok (row ∷ more)) h = refl
short step (suc left) used done (Ok (row ∷ more)) h = short step left (suc used) (done ++ row ∷ more) (step (row ∷ more)) h

-- ---- the answer

fault_or_shape : (b : Bool) (t : List ℕ) → (if b then answer.Fault (class t) else answer.Shape 1) ≡ answer.More → ⊥
fault_or_shape true t h = cc
fault_or_shape false t h = cc

shape_answer : (n : ℕ) → answer.Shape n ≡ answer.More → ⊥
shape_answer n h = cc

-- a pair, by its parts
pair_answer : (v w : Value) → answer_of_rows ((v ∷ w ∷ []) ∷ []) ≡ answer.More → ⊥
pair_answer v val.Null h = cc
pair_answer val.Null (val.Text t) h = fault_or_shape (is_class t) t h
pair_answer (val.Int n) (val.Text t) h = shape_answer 1 h
pair_answer (val.Bool b) (val.Text t) h = shape_answer 1 h
pair_answer (val.Text s) (val.Text t) h = shape_answer 1 h
pair_answer v (val.Int n) h = shape_answer 1 h
pair_answer v (val.Bool b) h = shape_answer 1 h

-- every other list of rows is told by its number
longer_row : (v w x : Value) (vs : List Value) → answer_of_rows ((v ∷ w ∷ x ∷ vs) ∷ []) ≡ answer.Shape 1
longer_row v val.Null x vs = refl
longer_row val.Null (val.Text t) x vs = refl
longer_row (val.Int n) (val.Text t) x vs = refl
longer_row (val.Bool b) (val.Text t) x vs = refl
longer_row (val.Text s) (val.Text t) x vs = refl
longer_row v (val.Int n) x vs = refl
longer_row v (val.Bool b) x vs = refl

more_rows : (row other : List Value) (more : Rows) → answer_of_rows (row ∷ other ∷ more) ≡ answer.Shape (length (row ∷ other ∷ more))
more_rows [] other more = refl
more_rows (v ∷ []) other more = refl
more_rows (v ∷ val.Null ∷ []) other more = refl
more_rows (v ∷ val.Null ∷ x ∷ vs) other more = refl
more_rows (val.Null ∷ val.Text t ∷ []) other more = refl
more_rows (val.Null ∷ val.Text t ∷ x ∷ vs) other more = refl
more_rows (val.Int n ∷ val.Text t ∷ vs) other more = refl
more_rows (val.Bool b ∷ val.Text t ∷ vs) other more = refl
more_rows (val.Text s ∷ val.Text t ∷ vs) other more = refl
more_rows (v ∷ val.Int n ∷ vs) other more = refl
more_rows (v ∷ val.Bool b ∷ vs) other more = refl

rows_answer : (rows : Rows) → answer_of_rows rows ≡ answer.More → ⊥
rows_answer [] h = shape_answer 0 h
rows_answer ([] ∷ []) h = shape_answer 1 h
rows_answer ((v ∷ []) ∷ []) h = shape_answer 1 h
rows_answer ((v ∷ w ∷ []) ∷ []) h = pair_answer v w h
rows_answer ((v ∷ w ∷ x ∷ vs) ∷ []) h = shape_answer 1 (sym (longer_row v w x vs) ∙ h)
rows_answer (row ∷ other ∷ more) h = shape_answer (length (row ∷ other ∷ more)) (sym (more_rows row other more) ∙ h)

some_answer : (m : Or Rows) → answered (Some m) ≡ answer.More → ⊥
some_answer (Ok rows) h = rows_answer rows h
some_answer (Err c) h = cc

over_some : (q : Query) (T : List Rows) (args : List Value) (b : Bounded Rows) → b ≢ None → answered (over_table (rows_of_query q) T args b) ≢ answer.More
over_some q T args None h g = h refl
over_some q T args (Some (Err c)) h g = cc
over_some q T args (Some (Ok table)) h g = some_answer (rows_of_query q (outermost (with_table T table) args)) g

answer_is : (q : Query) (r : Recursive) (T : List Rows) (args : List Value) (k : ℕ) → (out-Query q).recursive ≡ Some r → sql q T args k ≡ answered (over_table (rows_of_query q) T args (recursive_table (recursive_part r) T args k))
answer_is q r T args k h = ap answered (nodes.rows_recursive q r T args k h)

needs_more : (q : Query) (r : Recursive) (T : List Rows) (args : List Value) (k : ℕ) → (out-Query q).recursive ≡ Some r → recursive_table (recursive_part r) T args k ≡ None → sql q T args k ≡ answer.More
needs_more q r T args k h e = answer_is q r T args k h ∙ ap (λ b. answered (over_table (rows_of_query q) T args b)) e

has_answer : (q : Query) (r : Recursive) (T : List Rows) (args : List Value) (k : ℕ) → (out-Query q).recursive ≡ Some r → recursive_table (recursive_part r) T args k ≢ None → sql q T args k ≢ answer.More
has_answer q r T args k h n g = over_some q T args (recursive_table (recursive_part r) T args k) n (sym (answer_is q r T args k h) ∙ g)

-- ---- the least bound

pub plain_length : (q : Query) (T : List Rows) (args : List Value) (bound : ℕ) → (out-Query q).recursive ≡ None → IsLeastBound q T args bound 0
plain_length q T args bound h = record {
  within = omega arith;
  ended = λ g. some_answer (rows_of_query q (outermost T args)) (sym (ap answered (nodes.rows_plain q T args 0 h)) ∙ g);
  not_before = λ j l. absurd (omega (arith, l));
}

module _ (q : Query) (r : Recursive) (T : List Rows) (args : List Value) (bound : ℕ) (h : (out-Query q).recursive ≡ Some r) where
  abbrev step : Rows → Or Rows
  step = next_rows (recursive_part r) T args

  abbrev first : Or Rows
  first = (recursive_part r).first (outermost T args)

  least : (n : ℕ) → Ends step bound 0 [] first n → IsLeastBound q T args bound n
  least n it = record {
    within = let l : n ≤ 0 + bound = it.high in omega arith;
    ended = let e : n - 0 ≡ n = omega arith in has_answer q r T args n h (subst (λ k. worked step k [] first ≢ None) e it.ended);
    not_before = λ j l. needs_more q r T args j h (it.before j (omega (arith, l)));
  }

  by : (o : Option ℕ) → ended_after step bound 0 first ≡ o → IsLength q T args bound o
  by None e = needs_more q r T args bound h (short step bound 0 [] first e)
  by (Some n) e = least n (ends step bound 0 [] first n e)

  pub recursive_is : (o : Option ℕ) → o ≡ length_within r T args bound → IsLength q T args bound o
  unfolding length_within
  recursive_is o e = by o (sym e)

pub ruleset length_rules = (recursive_is)
