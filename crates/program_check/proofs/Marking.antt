-- Marks that spread along calls: what is marked is reached, and where none is due, what is reached is marked.
use Rattle.std.proofs.Common.{◌≡◌, refl, sym, ap, ◌∙◌, subst, ℕ, zero, suc, ◌+◌, ◌<◌, Bool, true, false, not, ◌&&◌, ◌||◌, get_or, set, List, [], ◌∷◌, length, map, arith, inl, inr, get_or-set_same, get_or-set_other}
use Rattle.std.proofs.lemmas.Bool.{and_from, and_parts, cases_eq, false≢true, or_left, or_right}
use Rattle.std.proofs.lemmas.List.{length-set}
use Rattle.away_trees.specs.declared.statements.Function.{Function}
use Rattle.call_expand.specs.Expanding.{function_at}
use Rattle.program_check.specs.Firsts.{IsFirst}
use Rattle.program_check.specs.Reaching.{Due, Follows, IsSpread, Reaches, TellsRecursion, by_call, by_way, call_row, call_table, called, calls, is_called, marked, was}

-- ---- how many aren't marked

abbrev pub one_unless : Bool → ℕ
one_unless true = 0
one_unless false = 1

abbrev pub unmarked : List Bool → ℕ
unmarked [] = 0
unmarked (m ∷ ms) = one_unless m + unmarked ms

unmarked_set : (ms : List Bool) (g : ℕ) → g < length ms → marked ms g ≡ false → suc (unmarked (set ms g true)) ≡ unmarked ms
unmarked_set [] g lt e = absurd (let no : ⊥ = omega (arith, lt) in no)
unmarked_set (m ∷ ms) zero lt e = (let q : suc (0 + unmarked ms) ≡ 1 + unmarked ms = omega arith in q) ∙ ap (λ v. one_unless v + unmarked ms) (sym e)
unmarked_set (m ∷ ms) (suc g) lt e =
    let rest : suc (unmarked (set ms g true)) ≡ unmarked ms = unmarked_set ms g (omega (arith, lt)) e in
    omega (arith, rest)

marked_within : (ms : List Bool) (g : ℕ) → marked ms g ≡ true → g < length ms
marked_within [] g e = absurd (false≢true e)
marked_within (m ∷ ms) zero e = omega arith
marked_within (m ∷ ms) (suc g) e = let lt = marked_within ms g e in omega (arith, lt)

-- ---- a function that a marked one calls

pub record CalledBy (table : List (List Bool)) (marks : List Bool) (g : ℕ) : Type 0 where
  pub at : ℕ
  pub is_marked : marked marks at ≡ true
  pub in_row : marked (get_or table at []) g ≡ true

pub called_by : (table : List (List Bool)) (marks : List Bool) (g : ℕ) → is_called table marks g ≡ true → CalledBy table marks g
called_by [] marks g e = absurd (false≢true e)
called_by (row ∷ rows) [] g e = absurd (false≢true e)
called_by (row ∷ rows) (m ∷ marks) g e = by (m && marked row g) refl e (called_by rows marks g)
  where
    by : (b : Bool) → (m && marked row g) ≡ b → (b || is_called rows marks g) ≡ true → (is_called rows marks g ≡ true → CalledBy rows marks g) → CalledBy (row ∷ rows) (m ∷ marks) g
    by true is e rest =
        let p = and_parts m (marked row g) is in
        record { at = 0; is_marked = p.0; in_row = p.1 }
    by false is e rest =
        let c = rest e in
        record { at = suc c.at; is_marked = c.is_marked; in_row = c.in_row }

pub is_called_by : (table : List (List Bool)) (marks : List Bool) (i g : ℕ) → i < length table → marked marks i ≡ true → marked (get_or table i []) g ≡ true → is_called table marks g ≡ true
is_called_by [] marks i g lt m c = absurd (let no : ⊥ = omega (arith, lt) in no)
is_called_by (row ∷ rows) [] i g lt m c = absurd (false≢true m)
is_called_by (row ∷ rows) (x ∷ marks) zero g lt m c = or_left (x && marked row g) (is_called rows marks g) (and_from x (marked row g) m c)
is_called_by (row ∷ rows) (x ∷ marks) (suc i) g lt m c = or_right (x && marked row g) (is_called rows marks g) (is_called_by rows marks i g (omega (arith, lt)) m c)

-- what is due isn't marked, and is called
pub due_parts : (table : List (List Bool)) (marks : List Bool) (g : ℕ) → Due table marks g → (marked marks g ≡ false) × (is_called table marks g ≡ true)
due_parts table marks g due = by (marked marks g) refl due
  where
    by : (b : Bool) → marked marks g ≡ b → (not b && is_called table marks g) ≡ true → (marked marks g ≡ false) × (is_called table marks g ≡ true)
    by true is e = absurd (false≢true e)
    by false is e = (is, e)

-- what is called is marked, where it isn't due
marked_unless_due : (table : List (List Bool)) (marks : List Bool) (g : ℕ) → (Due table marks g → ⊥) → is_called table marks g ≡ true → marked marks g ≡ true
marked_unless_due table marks g not_due c = by (marked marks g) refl
  where
    by : (b : Bool) → marked marks g ≡ b → marked marks g ≡ true
    by true is = is
    by false is = absurd (not_due (ap (λ b. not b && is_called table marks g) is ∙ c))

-- ---- marks that spread

-- those are marked that were, and those that a marked one calls
pub record Spreading (table : List (List Bool)) (old new : List Bool) : Type 0 where
  pub as_many : length new ≡ length old
  pub kept : (g : ℕ) → marked old g ≡ true → marked new g ≡ true
  pub only : (g : ℕ) → marked new g ≡ true → Follows table old g

module _ (table : List (List Bool)) (old : List Bool) where
  pub spread_begins : Spreading table old old
  spread_begins = record { as_many = refl; kept = λ g m. m; only = λ g m. was m }

  module _ (now : List Bool) (so : Spreading table old now) (g : ℕ) (first : IsFirst (Due table now) (length now) g) where
    follows : Follows table old g
    follows =
        let c = called_by table now g (due_parts table now g first.holds).1 in
        called (so.only c.at c.is_marked) (let lt : g < length old = omega (arith, first.inside, so.as_many) in lt) c.in_row

    marked_here : marked (set now g true) g ≡ true
    marked_here = get_or-set_same now g true false first.inside

    one_more : Spreading table old (set now g true)
    one_more = record {
      as_many = length-set now g true ∙ so.as_many;
      kept = λ h m. elim (cases_eq h g) [
        | inl q ↦ subst (λ v. marked (set now g true) v ≡ true) (sym q) marked_here
        | inr other ↦ get_or-set_other now g h true false other ∙ so.kept h m
      ];
      only = λ h m. elim (cases_eq h g) [
        | inl q ↦ subst (Follows table old) (sym q) follows
        | inr other ↦ so.only h (sym (get_or-set_other now g h true false other) ∙ m)
      ];
    }

    pub spread_more : (new : List Bool) → new ≡ set now g true → Spreading table old new
    spread_more new is = subst (Spreading table old) (sym is) one_more

    pub fewer : (new : List Bool) → new ≡ set now g true → unmarked new < unmarked now
    fewer new is =
        let q = unmarked_set now g first.inside (due_parts table now g first.holds).0 in
        subst (λ ms. unmarked ms < unmarked now) (sym is) (omega (arith, q))

-- ---- rows of the table

row_at : (f : Function) (gs : List Function) (g : ℕ) → g < length gs → marked (map (calls f) gs) g ≡ calls f (function_at gs g)
row_at f [] g lt = absurd (let no : ⊥ = omega (arith, lt) in no)
row_at f (x ∷ gs) zero lt = refl
row_at f (x ∷ gs) (suc g) lt = row_at f gs g (omega (arith, lt))

row_length : (f : Function) (gs : List Function) → length (map (calls f) gs) ≡ length gs
row_length f [] = refl
row_length f (x ∷ gs) = ap suc (row_length f gs)

table_at : (all fs : List Function) (i : ℕ) → i < length fs → get_or (map (call_row all) fs) i [] ≡ call_row all (function_at fs i)
table_at all [] i lt = absurd (let no : ⊥ = omega (arith, lt) in no)
table_at all (f ∷ fs) zero lt = refl
table_at all (f ∷ fs) (suc i) lt = table_at all fs i (omega (arith, lt))

table_length : (all fs : List Function) → length (map (call_row all) fs) ≡ length fs
table_length all [] = refl
table_length all (f ∷ fs) = ap suc (table_length all fs)

-- by the numbers of both
at_both : (fs : List Function) (i g : ℕ) → i < length fs → g < length fs → marked (get_or (call_table fs) i []) g ≡ calls (function_at fs i) (function_at fs g)
at_both fs i g li lg = ap (λ row. marked row g) (table_at fs fs i li) ∙ row_at (function_at fs i) fs g lg

-- ---- what is reached

reached_within : (fs : List Function) (i g : ℕ) → Reaches fs i g → g < length fs
reached_within fs i g (by_call lt c) = lt
reached_within fs i g (by_way r lt c) = lt

module _ (fs : List Function) (k : ℕ) where
  abbrev first_marks : List Bool
  first_marks = call_row fs (function_at fs k)

  many : length first_marks ≡ length fs
  many = row_length (function_at fs k) fs

  follows_within : (g : ℕ) → Follows (call_table fs) first_marks g → g < length fs
  follows_within g (was m) = let lt = marked_within first_marks g m in omega (arith, lt, many)
  follows_within g (called fo lt m) = omega (arith, lt, many)

  follows_reaches : (g : ℕ) → Follows (call_table fs) first_marks g → Reaches fs k g
  follows_reaches g (was m) =
      let lt = marked_within first_marks g m in
      let inside : g < length fs = omega (arith, lt, many) in
      by_call inside (sym (row_at (function_at fs k) fs g inside) ∙ m)
  follows_reaches g (called {g = h} fo lt m) =
      let inside : g < length fs = omega (arith, lt, many) in
      by_way (follows_reaches h fo) inside (sym (at_both fs h g (follows_within h fo) inside) ∙ m)

  module _ (new : List Bool) (so : IsSpread (call_table fs) first_marks new) where
    reaches_marked : (g : ℕ) → Reaches fs k g → marked new g ≡ true
    reaches_marked g (by_call lt c) = so.kept g (row_at (function_at fs k) fs g lt ∙ c)
    reaches_marked g (by_way {g = h} r lt c) =
        let within = reached_within fs k h r in
        let many_rows = table_length fs fs in
        let in_row : marked (get_or (call_table fs) h []) g ≡ true = at_both fs h g within lt ∙ c in
        let is_so : is_called (call_table fs) new g ≡ true = is_called_by (call_table fs) new h g (omega (arith, within, many_rows)) (reaches_marked h r) in_row in
        marked_unless_due (call_table fs) new g (so.closed g (let l : g < length new = omega (arith, lt, many, so.as_many) in l)) is_so

    told_so : TellsRecursion fs k (marked new k)
    told_so = (λ m. follows_reaches k (so.only k m), reaches_marked k)

-- where the first marks are a function's row
pub recursion_told : (fs : List Function) (k : ℕ) (f : Function) (old new : List Bool) (table : List (List Bool)) (r : Bool)
    → function_at fs k ≡ f → old ≡ call_row fs f → table ≡ call_table fs → IsSpread table old new → r ≡ marked new k → TellsRecursion fs k r
recursion_told fs k f old new table r f_is old_is table_is so r_is =
    let first : old ≡ call_row fs (function_at fs k) = old_is ∙ ap (call_row fs) (sym f_is) in
    let spread : IsSpread (call_table fs) (call_row fs (function_at fs k)) new = subst (λ t. IsSpread t (call_row fs (function_at fs k)) new) table_is (subst (λ o. IsSpread table o new) first so) in
    subst (TellsRecursion fs k) (sym r_is) (told_so fs k new spread)
