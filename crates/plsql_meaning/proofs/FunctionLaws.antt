-- Laws of a function's answers.
use Rattle.std.proofs.Common.{◌≡◌, ◌≢◌, refl, sym, subst, ap, ◌∙◌, ℕ, ◌+◌, ◌-◌, ◌≤◌, Bool, true, false, ◌&&◌, if◌then◌else◌, List, [], ◌∷◌, ◌++◌, length, replicate, Ok, Err, arith}
use Rattle.std.specs.List.{list_any}
use Rattle.std.proofs.lemmas.List.{append-nil}
use Rattle.away_values.specs.declared.types.Ty.{Ty}
use Rattle.away_values.specs.declared.values.Value.{Value}
use Rattle.away_values.specs.declared.values.Value.TheVariants as val
use Rattle.away_values.specs.declared.values.Answer.{Answer}
use Rattle.away_values.specs.declared.values.Answer.TheVariants as answer
use Rattle.away_values.specs.Operators.{is_null}
use Rattle.away_values.specs.Results.{Or}
use Rattle.away_trees.specs.declared.queries.Expr.{Expr}
use Rattle.away_trees.specs.declared.queries.Query.{Query}
use Rattle.away_trees.specs.declared.schemas.Schema.{Schema}
use Rattle.away_trees.specs.declared.statements.Function.{Function}
use Rattle.away_trees.specs.declared.statements.Stmt.TheVariants as stmt
use Rattle.away_trees.specs.Count.{weight}
use Rattle.away_trees.specs.Fits.{FitsSchema}
use Rattle.sql_meaning.specs.Context.{Rows}
use Rattle.sql_meaning.specs.Equivalent.{IsEquivalent}
use Rattle.sql_meaning.specs.Meaning.{value}
use Rattle.sql_meaning.specs.OneReturn.{answer_of_return, body, returned}
use Rattle.sql_meaning.specs.Typed.{AreTyped}
use Rattle.sql_meaning.specs.Working.{sql}
use Rattle.plsql_meaning.specs.Equivalent.{answers, Equivalent, IsOneReturn, types_of}
use Rattle.plsql_meaning.specs.Functions.{answer_of, function_answer, over}
use Rattle.plsql_meaning.specs.Outcomes.{Env, Label, Outcome, normal, exits, continues, returns, faults, more, and_then, close}
use Rattle.plsql_meaning.specs.Statements.{Setting, StatementMeaning, give, in_row, meaning, running}
use Rattle.away_trees.proofs.StatementEquations.{of_block}
use Rattle.plsql_meaning.proofs.Stays.{answers_stay}

-- ---- greater and smaller bounds

pub stays : (set : Setting) (f : Function) (args : List Value) (n m : ℕ) → n ≤ m → function_answer set f args n ≢ answer.More → function_answer set f args m ≡ function_answer set f args n
stays set f args n m le some = subst (λ j. function_answer set f args j ≡ function_answer set f args n) (omega (arith, le)) (answers_stay set f args n (m - n) some)

abbrev NotMore : Answer → Type 0
NotMore answer.More = ⊥
NotMore (answer.Value v) = Unit {0}
NotMore (answer.Fault c) = Unit {0}
NotMore (answer.Shape k) = Unit {0}

kept : (set : Setting) (f : Function) (args : List Value) (m n : ℕ) → m ≤ n → (a : Answer) → function_answer set f args m ≡ a → NotMore a → function_answer set f args n ≡ answer.More → ⊥
kept set f args m n le a e some is =
    let at_m : function_answer set f args m ≢ answer.More = λ h. subst NotMore (sym e ∙ h) some in
    subst NotMore (sym e ∙ sym (stays set f args m n le at_m) ∙ is) some

pub more_before : (set : Setting) (f : Function) (args : List Value) (n m : ℕ) → m ≤ n → function_answer set f args n ≡ answer.More → function_answer set f args m ≡ answer.More
more_before set f args n m le is = go (function_answer set f args m) refl
  where
    go : (a : Answer) → function_answer set f args m ≡ a → function_answer set f args m ≡ answer.More
    go answer.More e = e
    go (answer.Value v) e = absurd (kept set f args m n le (answer.Value v) e tt is)
    go (answer.Fault c) e = absurd (kept set f args m n le (answer.Fault c) e tt is)
    go (answer.Shape k) e = absurd (kept set f args m n le (answer.Shape k) e tt is)

-- ---- no shape

abbrev NoShape : Answer → Type 0
NoShape answer.More = Unit {0}
NoShape (answer.Value v) = Unit {0}
NoShape (answer.Fault c) = Unit {0}
NoShape (answer.Shape k) = ⊥

outcome_has_none : (o : Outcome) → NoShape (answer_of o)
outcome_has_none normal = tt
outcome_has_none (exits l) = tt
outcome_has_none (continues l) = tt
outcome_has_none (returns v) = tt
outcome_has_none (faults c) = tt
outcome_has_none more = tt

answer_has_none : (set : Setting) (f : Function) (args : List Value) (n : ℕ) → NoShape (function_answer set f args n)
answer_has_none set f args n = go (f.strict && list_any is_null args) _
  where
    go : (b : Bool) (o : Outcome) → NoShape (if b then answer.Value val.Null else answer_of o)
    go true o = tt
    go false o = outcome_has_none o

pub no_shape : (set : Setting) (f : Function) (args : List Value) (n k : ℕ) → function_answer set f args n ≢ answer.Shape k
no_shape set f args n k is = subst NoShape is (answer_has_none set f args n)

pub no_shape_of_query : (schema : Schema) (f : Function) (slots : List (Ty × Bool)) (q : Query) → Equivalent schema f slots q → (T : List Rows) (args : List Value) (n k : ℕ) → FitsSchema schema T → AreTyped (types_of f) args → sql q T args n ≢ answer.Shape k
no_shape_of_query schema f slots q same T args n k fits typed is =
    no_shape (over T slots) f args n k (same.only T args n fits typed (λ h. subst NotMore (sym is ∙ h) tt) ∙ is)

-- ---- one RETURN

-- what the block makes of the value
given : (r : Or Value) (env : Env) (at n : ℕ) (label : Label) → answer_of (close label (and_then (give r env n) (in_row [] at))).outcome ≡ returned r
given (Ok v) env at n label = refl
given (Err c) env at n label = refl

pub one_return : (f : Function) (e : Expr) → IsOneReturn f e → (slots : List (Ty × Bool)) (T : List Rows) (args : List Value) (n : ℕ) → answers f slots T args n ≡ answer_of_return e T args n
one_return f e form slots T args n = subst (λ b. (if b && list_any is_null args then answer.Value val.Null else meant (meaning set f.body)) ≡ returned (value e (body T args))) (sym form.not_strict) by_body
  where
    set : Setting
    set = over T slots

    meant : StatementMeaning → Answer
    meant m = answer_of (m.run (length f.params) (args ++ replicate m.vars val.Null) n).outcome

    by_body : meant (meaning set f.body) ≡ returned (value e (body T args))
    by_body =
        ap (λ b. meant (meaning set b)) form.body
        ∙ ap meant (of_block (running set) form.label [] (stmt.Return e ∷ []) form.closing)
        ∙ given (value e (body T (args ++ []))) (args ++ []) (length f.params + 0 + 0) n form.label
        ∙ ap (λ env. returned (value e (body T env))) (append-nil args)

pub one_return_equivalent : (schema : Schema) (f : Function) (e : Expr) (q : Query) → IsOneReturn f e → IsEquivalent (FitsSchema schema) (AreTyped (types_of f)) (weight f) (answer_of_return e) q → (slots : List (Ty × Bool)) → Equivalent schema f slots q
one_return_equivalent schema f e q form same slots = subst (λ a. IsEquivalent (FitsSchema schema) (AreTyped (types_of f)) (weight f) a q) (λ i T args n. sym (one_return f e form slots T args n) i) same
