-- The three laws of the forms together: turns become visits, and visits become iterations.
use Rattle.std.proofs.Common.{◌≡◌, ◌≢◌, ℕ, zero, suc, ◌+◌, ◌*◌, ◌<◌, ◌≤◌, ◌^◌, List, [], ◌∷◌, length, refl, ap, sym, ◌∙◌, subst, arith}
use Rattle.std.specs.List.{AllZip}
use Rattle.std.proofs.lemmas.List.{length-map}
use Rattle.away_trees.specs.declared.queries.Query.{Query}
use Rattle.away_trees.specs.declared.schemas.Schema.{Schema}
use Rattle.away_trees.specs.declared.statements.Function.{Function}
use Rattle.away_trees.specs.Count.{weight}
use Rattle.away_trees.specs.Fits.{FitsTable, FitsSchema}
use Rattle.away_types.specs.TypedSlots.{typed_slots}
use Rattle.away_types.specs.declared.slots.Slot.{Slot}
use Rattle.away_values.specs.declared.types.Ty.{Ty}
use Rattle.away_values.specs.declared.values.Answer.{Answer}
use Rattle.away_values.specs.declared.values.Answer.TheVariants as answer
use Rattle.away_values.specs.declared.values.Value.{Value}
use Rattle.away_values.specs.Values.{HasType}
use Rattle.plsql_meaning.specs.Equivalent.{answers, types_of}
use Rattle.sql_meaning.specs.Context.{Rows}
use Rattle.sql_meaning.specs.Typed.{AreTyped}
use Rattle.sql_meaning.specs.Working.{sql}
use Rattle.sql_meaning.proofs.Bounds.{answer_stays}
use Rattle.block_forms.specs.Frames.{frame_of}
use Rattle.block_forms.specs.Machines.{Ran, IsOver}
use Rattle.block_forms.specs.Runs.{ssa_runs}
use Rattle.call_forms.specs.declared.forms.Forms.{Forms}
use Rattle.goto_law.specs.Law.{Meets, Keeps}
use Rattle.cte_law.specs.QueryAnswers.{AnswersAs}
use Rattle.cte_law.proofs.Composed.{more_before}
use Rattle.ssa_check.specs.Naming.{NamedRunsInLockstep}
use Rattle.equivalence.specs.Accepted.{AcceptedForms, EquivalentAtAll, EquivalentWith}

zip_long : {X Y : Type 0} (R : X → Y → Type 0) (xs : List X) (ys : List Y) → AllZip R xs ys → length ys ≡ length xs
zip_long R [] [] h = refl
zip_long R (x ∷ xs) (y ∷ ys) h = ap suc (zip_long R xs ys h.1)
zip_long R [] (y ∷ ys) h = absurd h
zip_long R (x ∷ xs) [] h = absurd h

weighs : (f : Function) → 0 < weight f
unfolding weight
weighs f = omega arith

enough : (k w : ℕ) → 0 < w → k ≤ (k + 1) * w + 1
enough k zero p = absurd (omega (arith, p))
enough k (suc w) p =
    let e : (k + 1) * suc w + 1 ≡ k + suc (suc ((k + 1) * w)) = omega arith in
    subst (λ n. k ≤ n) (sym e) (omega arith)

-- ---- over given tables and arguments

-- the answers within turns, and the runs of a form that has them
module _ (w : ℕ) (positive : 0 < w) (f : ℕ → Answer) (runs : ℕ → Ran) (meets : (n : ℕ) → Meets (f n) (runs (suc n * w)) n) (q : Query)
    (tables : List Rows) (args : List Value) (law : AnswersAs q tables args runs) where
  over_of : (a : Answer) → a ≢ answer.More → (r : Answer) → r ≡ a → IsOver r
  over_of (answer.Value v) more r e = subst IsOver (sym e) tt
  over_of (answer.Fault c) more r e = subst IsOver (sym e) tt
  over_of answer.More more r e = absurd (more refl)
  over_of (answer.Shape k) more r e = subst IsOver (sym e) tt

  same_of : (n : ℕ) (a : Answer) → a ≢ answer.More → Meets a (runs (suc n * w)) n → (runs (suc n * w)).answer ≡ a
  same_of n (answer.Value v) more m = m
  same_of n (answer.Fault c) more m = m
  same_of n answer.More more m = absurd (more refl)
  same_of n (answer.Shape k) more m = m

  ends : (n : ℕ) → f n ≢ answer.More → sql q tables args ((n + 1) * w + 1) ≡ f n
  ends n more =
      let same = same_of n (f n) more (meets n) in
      let e : (n + 1) * w + 1 ≡ suc (suc n * w) = omega arith in
      ap (sql q tables args) e ∙ (law.ends (suc n * w) (over_of (f n) more (runs (suc n * w)).answer same) ∙ same)

  goes_on : (n : ℕ) → f n ≡ answer.More → sql q tables args n ≡ answer.More
  goes_on n more = by (runs (suc n * w)).heads refl (subst (λ a. Meets a (runs (suc n * w)) n) more (meets n))
    where
      by : (h : ℕ) → (runs (suc n * w)).heads ≡ h → suc n ≤ (runs (suc n * w)).heads → sql q tables args n ≡ answer.More
      by zero e p = absurd (omega (arith, e, p))
      by (suc h) e p = more_before q tables args n h (omega (arith, e, p)) (law.goes_on (suc n * w) h e)

  only : (k : ℕ) → sql q tables args k ≢ answer.More → f k ≡ sql q tables args k
  only k more =
      sym (ends k (λ p. more (goes_on k p))) ∙ answer_stays q tables args k ((k + 1) * w + 1) (enough k w positive) more

-- ---- over all

module _ (s : Schema) (f : Function) (slots : List Slot) (forms : Forms) (q : Query) (small : length s.tables < 2 ^ 64) (accepted : AcceptedForms s f slots forms q)
    (keeps : Keeps f slots forms.goto) (lockstep : NamedRunsInLockstep)
    (laws : (tables : List Rows) (args : List Value) → length tables ≡ length s.tables → length tables < 2 ^ 64
    → AnswersAs q tables args (ssa_runs (frame_of f (length slots) forms.goto tables) forms.ssa args)) where
  abbrev own : (tables : List Rows) (args : List Value) → ℕ → Answer
  own = answers f (typed_slots slots)

  abbrev runs : (tables : List Rows) (args : List Value) → ℕ → Ran
  runs tables args = ssa_runs (frame_of f (length slots) forms.goto tables) forms.ssa args

  at : (tables : List Rows) (args : List Value) → FitsSchema s tables → AnswersAs q tables args (runs tables args)
  at tables args fit =
      let many : length tables ≡ length s.tables = zip_long FitsTable s.tables tables fit in
      laws tables args many (subst (λ n. n < 2 ^ 64) (sym many) small)

  as_many : (args : List Value) → AreTyped (types_of f) args → length args ≡ length f.params
  as_many args typed = zip_long (λ t v. HasType v t) (types_of f) args typed ∙ length-map f.params (λ (p : List ℕ × Ty). p.1)

  meets_at : (tables : List Rows) (args : List Value) → length args ≡ length f.params → (n : ℕ) → Meets (own tables args n) (runs tables args (suc n * weight f)) n
  meets_at tables args long n =
      subst (λ (run : Ran). Meets (own tables args n) run n)
      (lockstep (frame_of f (length slots) forms.goto tables) forms.ssa accepted.named args long (suc n * weight f))
      (keeps.answers tables args long n)

  pub equivalent_at_all : EquivalentAtAll s f slots q
  equivalent_at_all = record {
    ends = λ tables args n fit long more.
        ends (weight f) (weighs f) (own tables args) (runs tables args) (meets_at tables args long) q tables args (at tables args fit) n more;
    goes_on = λ tables args n fit long more.
        goes_on (weight f) (weighs f) (own tables args) (runs tables args) (meets_at tables args long) q tables args (at tables args fit) n more;
    only = λ tables args k fit long more.
        only (weight f) (weighs f) (own tables args) (runs tables args) (meets_at tables args long) q tables args (at tables args fit) k more;
  }

  pub equivalent : EquivalentWith s f slots q
  equivalent = record {
    ends = λ tables args n fit typed more. equivalent_at_all.ends tables args n fit (as_many args typed) more;
    goes_on = λ tables args n fit typed more. equivalent_at_all.goes_on tables args n fit (as_many args typed) more;
    only = λ tables args k fit typed more. equivalent_at_all.only tables args k fit (as_many args typed) more;
  }
