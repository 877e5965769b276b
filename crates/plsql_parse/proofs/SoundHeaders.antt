-- What the plans of what stands around a body give, the grammar reads.
use Rattle.std.proofs.Common.{◌≡◌, ℕ, Bool, true, false, List, ◌∷◌, Option, Some, None, refl, sym, subst}
use Rattle.std.specs.Prelude.{codes, bytes_eq}
use Rattle.std.proofs.lemmas.Slice.Eq.{bytes_eq-Decides}
use Rattle.away_grammar.specs.declared.grammar.Mark.{Mark}
use Rattle.away_grammar.specs.declared.grammar.Mark.TheVariants as m
use Rattle.away_grammar.specs.declared.grammar.Attribute.{Attribute}
use Rattle.away_grammar.specs.declared.grammar.Attribute.TheVariants as attribute
use Rattle.away_trees.specs.declared.statements.Stmt.{Stmt}
use Rattle.away_grammar.specs.Terminals.{Terminal, mark, name, string}
use Rattle.away_grammar.specs.Grammar.{perhaps, schema_qualified}
use Rattle.away_grammar.specs.FunctionGrammar as g
use Rattle.away_grammar.specs.FunctionGrammar.{Part, ReadsPart, parameters, signature, attribute_of, attributes, function, or_replace, one_word, may_run, may_stand}
use Rattle.sql_text.specs.Plans.{done, fail, expect}
use Rattle.sql_text.proofs.Holds.{Nothing, here, name_taken, type_taken, if_holds}
use Rattle.plsql_parse.specs.Sorts.{PartPlan, ReadsAny, schema_qualified_name}
use Rattle.plsql_parse.specs.Headers.{typed_name_plan, parameter_plan, parameters_plan, signature_plan, language_string_plan, language_plan, null_input_plan, parallel_plan, cost_plan, word_plan, word_with, attribute_mark_plan, attribute_by, attribute_plan, attributes_plan, returned_plan, named_plan, created_plan, function_plan}
use Rattle.plsql_parse.proofs.HoldsMore.{PartHolds, eat_word_holds, string_taken, quote_taken, integer_taken, qualified_holds}

-- ---- parameters

typed_name_holds : (w : Bool) → PartHolds g.parameter typed_name_plan Nothing (λ ts k. perhaps w (mark m.In) ts)
typed_name_holds w = (tt, name_taken ReadsAny _ _ _ (λ n. (tt, type_taken ReadsAny _ _ _ (λ t ty is ts k. g.parameter_of w t is))))

pub parameter_holds : PartHolds g.parameter parameter_plan Nothing here
parameter_holds = (typed_name_holds true, typed_name_holds false)

pub parameters_hold : PartHolds parameters parameters_plan Nothing here
parameters_hold x = (λ xs ts k. g.another_parameter k.1.2 k.2, λ ts k. g.last_parameter k.2)

pub signature_holds : PartHolds signature signature_plan Nothing here
signature_holds = ((λ ts k. g.no_parameter, λ xs. (λ ts k. g.signature_of k.2, tt)), tt)

-- ---- attributes

-- the word is this one
spelled : (w z : List ℕ) (plan : PartPlan attribute_of) → bytes_eq z w ≡ true → PartHolds attribute_of plan Nothing (λ ts k. name w ∷ ts) → PartHolds attribute_of plan Nothing (λ ts k. name z ∷ ts)
spelled w z plan h d = let same : z ≡ w = (bytes_eq-Decides z w).0 h in subst (λ y. PartHolds attribute_of plan Nothing (λ ts k. name y ∷ ts)) (sym same) d

language_string_read : (z : List ℕ) (ts : List Terminal) → bytes_eq z (codes "plpgsql") ≡ true → ReadsPart attribute_of (name (codes "language") ∷ string z ∷ ts) attribute.Language ts
language_string_read z ts h =
    let same : z ≡ codes "plpgsql" = (bytes_eq-Decides z (codes "plpgsql")).0 h in
    subst (λ y. ReadsPart attribute_of (name (codes "language") ∷ string y ∷ ts) attribute.Language ts) (sym same) g.language_string

language_holds : PartHolds attribute_of language_plan Nothing (λ ts k. name (codes "language") ∷ ts)
language_holds =
    eat_word_holds Nothing (λ ts k. name (codes "language") ∷ ts) (codes "plpgsql") (done attribute.Language) language_string_plan
    (λ ts k. g.language_name)
    (tt, string_taken _ _ _ (λ z. if_holds ReadsAny _ _ (bytes_eq z (codes "plpgsql")) _ _ (λ h ts k. language_string_read z ts h) (λ h. tt)))

returns_holds : PartHolds attribute_of (null_input_plan true) Nothing (λ ts k. name (codes "returns") ∷ mark m.Null ∷ ts)
returns_holds = ((eat_word_holds _ _ (codes "input") (done (attribute.NullInput true)) fail (λ ts k. g.returns_null) tt, tt), tt)

called_holds : PartHolds attribute_of (null_input_plan false) Nothing (λ ts k. name (codes "called") ∷ ts)
called_holds = ((eat_word_holds _ _ (codes "input") (done (attribute.NullInput false)) fail (λ ts k. g.called_on_null) tt, tt), tt)

parallel_holds : PartHolds attribute_of parallel_plan Nothing (λ ts k. name (codes "parallel") ∷ ts)
parallel_holds = (tt, name_taken ReadsAny _ _ _ (λ y. if_holds ReadsAny _ _ (may_run y) _ _ (λ h ts k. g.parallel h) (λ h. tt)))

cost_holds : PartHolds attribute_of cost_plan Nothing (λ ts k. name (codes "cost") ∷ ts)
cost_holds = (tt, integer_taken _ _ _ (λ i ts k. g.cost))

word_holds : (z : List ℕ) → PartHolds attribute_of (word_plan z) Nothing (λ ts k. name z ∷ ts)
word_holds z =
    if_holds ReadsAny _ _ (bytes_eq z (codes "language")) _ _ (λ h. spelled (codes "language") z language_plan h language_holds) (λ n.
    if_holds ReadsAny _ _ (bytes_eq z (codes "returns")) _ _ (λ h. spelled (codes "returns") z (expect m.Null (null_input_plan true)) h (returns_holds, tt)) (λ n.
    if_holds ReadsAny _ _ (bytes_eq z (codes "called")) _ _ (λ h. spelled (codes "called") z (null_input_plan false) h called_holds) (λ n.
    if_holds ReadsAny _ _ (bytes_eq z (codes "parallel")) _ _ (λ h. spelled (codes "parallel") z parallel_plan h parallel_holds) (λ n.
    if_holds ReadsAny _ _ (bytes_eq z (codes "cost")) _ _ (λ h. spelled (codes "cost") z cost_plan h cost_holds) (λ n. tt)))))

word_with_holds : (z : List ℕ) (found : Option Attribute) → one_word z ≡ found → PartHolds attribute_of (word_with z found) Nothing (λ ts k. name z ∷ ts)
word_with_holds z (Some a) is = λ ts k. g.word_attribute is
word_with_holds z None is = word_holds z

attribute_mark_holds : (terminal : Mark) → PartHolds attribute_of (attribute_mark_plan terminal) Nothing (λ ts k. mark terminal ∷ ts)
attribute_mark_holds m.As = (tt, quote_taken _ _ _ (λ z ts k. g.as_quote))
attribute_mark_holds m.Strict = λ ts k. g.strict
attribute_mark_holds m.Not = eat_word_holds Nothing (λ ts k. mark m.Not ∷ ts) (codes "leakproof") (done attribute.Leakproof) fail (λ ts k. g.not_leakproof) tt
attribute_mark_holds _ = tt

attribute_taken : (s : Terminal) → PartHolds attribute_of (attribute_by (Some s)) Nothing (λ ts k. s ∷ ts)
attribute_taken (name z) = word_with_holds z (one_word z) refl
attribute_taken (mark terminal) = attribute_mark_holds terminal
attribute_taken _ = tt

pub attribute_holds : PartHolds attribute_of attribute_plan Nothing here
attribute_holds = (tt, attribute_taken)

pub attributes_hold : PartHolds attributes attributes_plan Nothing here
attributes_hold = (λ ts k. g.no_attribute, λ a found ts k. g.another_attribute k.1.2 k.2)

-- ---- a whole file

named_holds : (inside : Stmt) (o q : Bool) (n : List ℕ)
    → PartHolds (function inside) (named_plan inside n) Nothing (λ ts k. mark m.Create ∷ or_replace o (name (codes "function") ∷ schema_qualified q (name n ∷ ts)))
named_holds inside o q n xs =
    eat_word_holds (λ rest. (ts : List Terminal) × Nothing ts × ReadsPart signature ts xs rest)
    (λ rest k. mark m.Create ∷ or_replace o (name (codes "function") ∷ schema_qualified q (name n ∷ k.0)))
    (codes "returns") (returned_plan inside n xs) fail (
      tt,
      type_taken ReadsAny _ _ _ (λ t ty is found.
          if_holds ReadsAny _ _ (may_stand found) _ _ (λ h. (λ ts k. g.function_of o q true t is h k.1.2 k.2, λ ts k. g.function_of o q false t is h k.1.2 k.2)) (λ h. tt)),
    )
    tt

created_holds : (inside : Stmt) (o : Bool) → PartHolds (function inside) (created_plan inside) Nothing (λ ts k. mark m.Create ∷ or_replace o ts)
created_holds inside o =
    eat_word_holds Nothing (λ ts k. mark m.Create ∷ or_replace o ts) (codes "function") (schema_qualified_name (named_plan inside)) fail
    (qualified_holds Nothing (λ ts k. mark m.Create ∷ or_replace o (name (codes "function") ∷ ts)) (named_plan inside) (named_holds inside o))
    tt

pub function_holds : (inside : Stmt) → PartHolds (function inside) (function_plan inside) Nothing here
function_holds inside = (
  (eat_word_holds Nothing (λ ts k. mark m.Create ∷ mark m.Or ∷ ts) (codes "replace") (created_plan inside) fail (created_holds inside true) tt, created_holds inside false),
  tt,
)
