-- What stands around a body: what the grammar reads, the plans give, step by step.
use Rattle.std.proofs.Common.{◌≡◌, ℕ, Bool, true, false, List, [], ◌∷◌, Option, Some, refl, sym, ap, subst}
use Rattle.std.specs.Prelude.{codes}
use Rattle.away_grammar.specs.declared.grammar.Mark.TheVariants as m
use Rattle.away_grammar.specs.declared.grammar.Attribute.{Attribute}
use Rattle.away_grammar.specs.declared.grammar.Attribute.TheVariants as attribute
use Rattle.away_values.specs.declared.types.Ty.{Ty}
use Rattle.away_trees.specs.declared.statements.Stmt.{Stmt}
use Rattle.away_trees.specs.declared.statements.Function.{Function}
use Rattle.away_grammar.specs.Terminals.{Terminal, mark, name, integer, string, quote}
use Rattle.away_grammar.specs.Grammar.{perhaps, schema_qualified, type_named}
use Rattle.away_grammar.specs.FunctionGrammar as g
use Rattle.away_grammar.specs.FunctionGrammar.{Part, PartTree, parameters, signature, attribute_of, attributes, function, or_replace, one_word, may_run, may_stand}
use Rattle.sql_text.specs.Plans.{fail, eat, ends, takes, eats, leaves, sees, misses, reads}
use Rattle.sql_text.specs.TerminalKinds.{name_in, type_in}
use Rattle.sql_text.proofs.CompleteSteps.{other_terminal}
use Rattle.plsql_parse.specs.Sorts.{expect_word, string_in, quote_in, integer_in}
use Rattle.plsql_parse.specs.Headers.{typed_name_plan, parameter_plan, word_with, is_over, function_with, ended_plan, named_plan, created_plan}
use Rattle.plsql_parse.proofs.Beginnings.{Beginning, other_begins}
use Rattle.plsql_parse.proofs.RunSteps.{PartRuns, GivenPart, wants, chosen, qualified_run}

-- ---- parameters

in_run : {n : List ℕ} {ts : List Terminal} {o : Option ((List ℕ × Ty) × List Terminal)} (w : Bool) → PartRuns g.parameter typed_name_plan (name n ∷ ts) o → PartRuns g.parameter parameter_plan (perhaps w (mark m.In) (name n ∷ ts)) o
in_run true d = eats d
in_run false d = leaves other_terminal d

pub given_parameter_of : {rest : List Terminal} {n : List ℕ} {ty : Ty} (w : Bool) (t : List ℕ) → type_named t ≡ Some ty → GivenPart g.parameter (perhaps w (mark m.In) (name n ∷ name t ∷ rest)) (n, ty) rest
given_parameter_of w t e stops = in_run w (wants name_in _ refl (wants type_in _ e ends))

pub given_last_parameter : {ts rest : List Terminal} {x : List ℕ × Ty} → GivenPart g.parameter ts x rest → GivenPart parameters ts (x ∷ []) rest
given_last_parameter d stops = reads (d tt) (leaves (other_begins m.Close m.Comma (λ same. absurd (cc same)) stops) ends)

pub given_another_parameter : {ts middle rest : List Terminal} {x : List ℕ × Ty} {xs : List (List ℕ × Ty)} → GivenPart g.parameter ts x (mark m.Comma ∷ middle) → GivenPart parameters middle xs rest
    → GivenPart parameters ts (x ∷ xs) rest
given_another_parameter d e stops = reads (d tt) (eats (reads (e stops) ends))

pub given_no_parameter : {rest : List Terminal} → GivenPart signature (mark m.Open ∷ mark m.Close ∷ rest) [] rest
given_no_parameter stops = eats (eats ends)

pub given_signature_of : {ts rest : List Terminal} {xs : List (List ℕ × Ty)} → Beginning parameters ts (mark m.Close ∷ rest) → GivenPart parameters ts xs (mark m.Close ∷ rest)
    → GivenPart signature (mark m.Open ∷ ts) xs rest
given_signature_of begins d stops = eats (leaves begins (reads (d (_, refl)) (eats ends)))

-- ---- attributes

pub given_language_name : {rest : List Terminal} → GivenPart attribute_of (name (codes "language") ∷ name (codes "plpgsql") ∷ rest) attribute.Language rest
given_language_name stops = takes (sees refl (takes ends))

pub given_language_string : {rest : List Terminal} → GivenPart attribute_of (name (codes "language") ∷ string (codes "plpgsql") ∷ rest) attribute.Language rest
given_language_string stops = takes (misses refl (wants string_in _ refl ends))

pub given_as_quote : {rest : List Terminal} {z : List ℕ} → GivenPart attribute_of (mark m.As ∷ quote z ∷ rest) attribute.Body rest
given_as_quote stops = takes (wants quote_in _ refl ends)

pub given_word_attribute : {rest : List Terminal} {z : List ℕ} {a : Attribute} → one_word z ≡ Some a → GivenPart attribute_of (name z ∷ rest) a rest
given_word_attribute {rest = rest} {z = z} {a = a} e stops = takes (subst (λ found. PartRuns attribute_of (word_with z found) rest (Some (a, rest))) (sym e) ends)

pub given_strict : {rest : List Terminal} → GivenPart attribute_of (mark m.Strict ∷ rest) (attribute.NullInput true) rest
given_strict stops = takes ends

pub given_returns_null : {rest : List Terminal} → GivenPart attribute_of (name (codes "returns") ∷ mark m.Null ∷ mark m.On ∷ mark m.Null ∷ name (codes "input") ∷ rest) (attribute.NullInput true) rest
given_returns_null stops = takes (eats (eats (eats (sees refl (takes ends)))))

pub given_called_on_null : {rest : List Terminal} → GivenPart attribute_of (name (codes "called") ∷ mark m.On ∷ mark m.Null ∷ name (codes "input") ∷ rest) (attribute.NullInput false) rest
given_called_on_null stops = takes (eats (eats (sees refl (takes ends))))

pub given_not_leakproof : {rest : List Terminal} → GivenPart attribute_of (mark m.Not ∷ name (codes "leakproof") ∷ rest) attribute.Leakproof rest
given_not_leakproof stops = takes (sees refl (takes ends))

pub given_parallel : {rest : List Terminal} {z : List ℕ} → may_run z ≡ true → GivenPart attribute_of (name (codes "parallel") ∷ name z ∷ rest) attribute.Parallel rest
given_parallel e stops = takes (wants name_in _ refl (chosen fail e ends))

pub given_cost : {rest : List Terminal} {n : ℕ} → GivenPart attribute_of (name (codes "cost") ∷ integer n ∷ rest) attribute.Cost rest
given_cost stops = takes (wants integer_in _ refl ends)

pub given_no_attribute : {ts : List Terminal} → GivenPart attributes ts [] ts
given_no_attribute stops = sees stops ends

pub given_another_attribute : {ts middle rest : List Terminal} {a : Attribute} {found : List Attribute} → is_over ts ≡ false → GivenPart attribute_of ts a middle → GivenPart attributes middle found rest
    → GivenPart attributes ts (a ∷ found) rest
given_another_attribute begins d e stops = misses begins (reads (d tt) (reads (e stops) ends))

-- ---- a whole file

over : (rest : List Terminal) (w : Bool) → rest ≡ [] → is_over (perhaps w (mark m.Semicolon) rest) ≡ true
over rest true e = refl
over rest false e = ap is_over e

ended_run : {inside : Stmt} (f : Function) (rest : List Terminal) (w : Bool) → rest ≡ [] → PartRuns (function inside) (ended_plan f) (perhaps w (mark m.Semicolon) rest) (Some (f, rest))
ended_run f rest true e = eats ends
ended_run f rest false e = leaves (λ b. cc (e, b.1)) ends

replace_run : {inside : Stmt} {ts : List Terminal} {o : Option (Function × List Terminal)} (w : Bool) → PartRuns (function inside) (created_plan inside) (name (codes "function") ∷ ts) o
    → PartRuns (function inside) (eat m.Or (expect_word (codes "replace") (created_plan inside)) (created_plan inside)) (or_replace w (name (codes "function") ∷ ts)) o
replace_run true d = eats (sees refl (takes d))
replace_run false d = leaves other_terminal d

pub given_function_of : {ts after rest : List Terminal} {inside : Stmt} {n : List ℕ} {xs : List (List ℕ × Ty)} {ty : Ty} {found : List Attribute} (o q w : Bool) (t : List ℕ)
    → type_named t ≡ Some ty → may_stand found ≡ true → Beginning signature ts (name (codes "returns") ∷ name t ∷ after)
    → GivenPart signature ts xs (name (codes "returns") ∷ name t ∷ after) → GivenPart attributes after found (perhaps w (mark m.Semicolon) rest)
    → GivenPart (function inside) (mark m.Create ∷ or_replace o (name (codes "function") ∷ schema_qualified q (name n ∷ ts))) (function_with inside n xs ty found) rest
given_function_of {rest = rest} {inside = inside} {n = n} {xs = xs} {ty = ty} {found = found} o q w t e may begins d f stops =
    eats (replace_run o (sees refl (takes (qualified_run q (named_plan inside) n begins
    (reads (d tt) (sees refl (takes (wants type_in _ e (reads (f (over rest w stops)) (chosen fail may (ended_run (function_with inside n xs ty found) rest w stops)))))))))))
