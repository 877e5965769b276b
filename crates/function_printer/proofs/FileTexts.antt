-- The text of a function that was read reads as it.
use Rattle.std.proofs.Common.{◌≡◌, ◌+◌, ℕ, refl, sym, ap, ◌∙◌, subst, Bool, true, false, not, if◌then◌else◌, List, [], ◌∷◌, ◌++◌, length, map, Some, append_assoc, codes}
use Rattle.std.specs.List.{list_any}
use Rattle.away_grammar.specs.declared.grammar.Mark.TheVariants as m
use Rattle.away_grammar.specs.declared.grammar.Attribute.{Attribute}
use Rattle.away_grammar.specs.declared.grammar.Attribute.TheVariants as attribute
use Rattle.away_grammar.specs.declared.tokens.TokenKind.TheVariants.{Dollar}
use Rattle.away_values.specs.declared.types.Ty.{Ty}
use Rattle.away_trees.specs.declared.statements.Function.{Function}
use Rattle.away_trees.specs.declared.statements.Stmt.{Stmt}
use Rattle.away_grammar.specs.Reserved.{calls}
use Rattle.away_grammar.specs.Terminals.{Terminal, mark, name, quote}
use Rattle.away_grammar.specs.Grammar.{perhaps, type_named}
use Rattle.away_grammar.specs.Attributes.{may_stand, makes_strict}
use Rattle.away_grammar.specs.FunctionGrammar as g
use Rattle.away_grammar.specs.FunctionGrammar.{ReadsPart}
use Rattle.away_grammar.specs.FunctionFile.{first_dollar}
use Rattle.away_grammar.specs.Spacing.{Spelled, laid, laid_behind, lexemes_from, is_glued}
use Rattle.away_grammar.specs.Spellings.{IsDollarQuote}
use Rattle.away_grammar.specs.Printing.{spelled, with_commas, type_name}
use Rattle.sql_printer.specs.Writable.{Writable}
use Rattle.sql_printer.proofs.PrintClear.{type_writable}
use Rattle.sql_printer.proofs.PrintExpressions.{type_is, perhaps_behind}
use Rattle.function_printer.specs.FunctionTerminals.{function_terminals, parameter_terminals, semicolon}
use Rattle.function_printer.proofs.InsideTexts.{mark_no_dollar}
use Rattle.function_printer.proofs.Plain.{Plain, plain_end, plain_more, joins}
use Rattle.function_printer.proofs.Says as say
use Rattle.function_printer.proofs.Says.{Says}
use Rattle.function_printer.proofs.PrintedParts.{Prints}
use Rattle.function_printer.proofs.PrintedNodes.{ReadsAs}

-- ---- the first dollar quote of a function's tokens

dollar_behind : (a : Spelled) (front : List Terminal) (z : List ℕ) (rest : List Terminal) (at : ℕ) → Plain front
    → (start : ℕ) × (first_dollar (lexemes_from at (laid_behind calls a (map spelled (front ++ quote z ∷ rest))))
    ≡ Some (record { kind = Dollar; text = z; start = start }))
dollar_behind a [] z rest at h = ((if not (is_glued calls a (spelled (quote z))) then at + 1 else at), refl)
dollar_behind a (s ∷ ss) z rest at (plain_more h d) =
    let here : ℕ = (if not (is_glued calls a (spelled s)) then at + 1 else at) in
    let more = dollar_behind (spelled s) ss z rest (here + length (spelled s).text) d in (
      more.0,
      ap (λ b. if b then Some (record { kind = (spelled s).kind; text = (spelled s).text; start = here })
          else first_dollar (lexemes_from (here + length (spelled s).text) (laid_behind calls (spelled s) (map spelled (ss ++ quote z ∷ rest)))))
          (mark_no_dollar s h) ∙ more.1,
    )

pub dollar_first : (s : Terminal) (front : List Terminal) (z : List ℕ) (rest : List Terminal) → Plain (s ∷ front)
    → (start : ℕ) × (first_dollar (lexemes_from 0 (laid calls (map spelled (s ∷ front ++ quote z ∷ rest))))
    ≡ Some (record { kind = Dollar; text = z; start = start }))
dollar_first s front z rest (plain_more h d) =
    let more = dollar_behind (spelled s) front z rest (0 + length (spelled s).text) d in (
      more.0,
      ap (λ b. if b then Some (record { kind = (spelled s).kind; text = (spelled s).text; start = 0 })
          else first_dollar (lexemes_from (0 + length (spelled s).text) (laid_behind calls (spelled s) (map spelled (front ++ quote z ∷ rest)))))
          (mark_no_dollar s h) ∙ more.1,
    )

-- ---- the header

-- the attributes that are printed
abbrev printed_attributes : Bool → List Attribute
printed_attributes true = attribute.Language ∷ attribute.NullInput true ∷ attribute.Body ∷ []
printed_attributes false = attribute.Language ∷ attribute.Body ∷ []

attributes_stand : (strict : Bool) → may_stand (printed_attributes strict) ≡ true
attributes_stand true = refl
attributes_stand false = refl

attributes_strict : (strict : Bool) → list_any makes_strict (printed_attributes strict) ≡ strict
attributes_strict true = refl
attributes_strict false = refl

attributes_read : (strict : Bool) (z : List ℕ) → ReadsPart g.attributes
    (name (codes "language") ∷ name (codes "plpgsql") ∷ perhaps strict (mark m.Strict) (mark m.As ∷ quote z ∷ semicolon)) (printed_attributes strict) semicolon
attributes_read true z = g.another_attribute g.language_name (g.another_attribute g.strict (g.another_attribute g.as_quote g.no_attribute))
attributes_read false z = g.another_attribute g.language_name (g.another_attribute g.as_quote g.no_attribute)

perhaps_said : (b : Bool) {ss ts : List Terminal} → Says ss ts → Says (perhaps b (mark m.Strict) ss) (perhaps b (mark m.Strict) ts)
perhaps_said true d = say.a_mark m.Strict refl d
perhaps_said false d = d

-- what stands behind the parameters
abbrev behind_printed : Bool → Ty → List ℕ → List Terminal
behind_printed strict ty z =
    name (codes "RETURNS") ∷ name (type_name ty) ∷ name (codes "LANGUAGE") ∷ name (codes "plpgsql")
    ∷ perhaps strict (mark m.Strict) (mark m.As ∷ quote z ∷ semicolon)

abbrev behind_said : Bool → Ty → List ℕ → List Terminal
behind_said strict ty z =
    name (codes "returns") ∷ name (type_name ty) ∷ name (codes "language") ∷ name (codes "plpgsql")
    ∷ perhaps strict (mark m.Strict) (mark m.As ∷ quote z ∷ semicolon)

abbrev parameters_printed : List (List ℕ × Ty) → List Terminal
parameters_printed xs = with_commas (map (λ x. parameter_terminals x) xs)

behind_says : (strict : Bool) (ty : Ty) (z : List ℕ) → IsDollarQuote z → Says (behind_printed strict ty z) (behind_said strict ty z)
behind_says strict ty z q =
    say.a_word (codes "RETURNS") (codes "returns") say.returns_shown (say.a_name (type_name ty) (type_writable ty)
    (say.a_word (codes "LANGUAGE") (codes "language") say.language_shown (say.a_word (codes "plpgsql") (codes "plpgsql") say.plpgsql_shown
    (perhaps_said strict (say.a_mark m.As refl (say.a_quote z q (say.a_mark m.Semicolon refl say.nothing)))))))

-- A function's own terminals are said as ones that read as it, round the same body.
pub record Header (f : Function) (z : List ℕ) : Type 0 where
  pub said : List Terminal
  pub says : Says (function_terminals f z) said
  pub reads : ReadsPart (g.function f.body) said f []

pub header_of : {inside : Stmt} (n : List ℕ) (strict : Bool) (xs : List (List ℕ × Ty)) (ty : Ty) (t : List ℕ) (z : List ℕ) → Writable (name n) → IsDollarQuote z
    → type_named t ≡ Some ty → Prints (mark m.Open ∷ (parameters_printed xs ++ mark m.Close ∷ [])) (ReadsAs g.signature xs)
    → Header (record { name = n; strict = strict; params = xs; result = ty; body = inside }) z
header_of {inside = inside} n strict xs ty t z w q is p = record {
  said = mark m.Create ∷ name (codes "function") ∷ name (codes "public") ∷ mark m.Dot ∷ name n ∷ (p.said ++ behind_said strict ty z);
  says = say.a_mark m.Create refl (say.a_word (codes "FUNCTION") (codes "function") say.function_shown
      (say.a_word (codes "public") (codes "public") say.public_shown
      (say.a_dot m.Dot refl (say.a_name n w
      (subst (λ u. Says u (p.said ++ behind_said strict ty z))
      (ap (λ u. mark m.Open ∷ u) (append_assoc (parameters_printed xs) (mark m.Close ∷ []) (behind_printed strict ty z)))
      (say.both p.tells.says (behind_says strict ty z q)))))));
  reads = subst (λ b. ReadsPart (g.function inside)
      (mark m.Create ∷ name (codes "function") ∷ name (codes "public") ∷ mark m.Dot ∷ name n ∷ (p.said ++ behind_said strict ty z))
      (record { name = n; strict = b; params = xs; result = ty; body = inside }) []) (attributes_strict strict)
      (g.function_of false true true (type_name ty) (type_is t ty is) (attributes_stand strict) (p.reads (behind_said strict ty z)) (attributes_read strict z));
}

-- before the quote stands no other one
abbrev pub before_quote : Function → List Terminal
before_quote f =
    name (codes "FUNCTION") ∷ name (codes "public") ∷ mark m.Dot ∷ name f.name ∷ mark m.Open
    ∷ (parameters_printed f.params ++ mark m.Close ∷ name (codes "RETURNS") ∷ name (type_name f.result) ∷ name (codes "LANGUAGE") ∷ name (codes "plpgsql")
    ∷ perhaps f.strict (mark m.Strict) (mark m.As ∷ []))

pub terminals_are : (f : Function) (z : List ℕ) → function_terminals f z ≡ mark m.Create ∷ before_quote f ++ quote z ∷ semicolon
terminals_are f z =
    let last = perhaps_behind f.strict (mark m.Strict) (mark m.As ∷ []) (quote z ∷ semicolon) in
    let front : List Terminal =
    mark m.Close ∷ name (codes "RETURNS") ∷ name (type_name f.result) ∷ name (codes "LANGUAGE") ∷ name (codes "plpgsql")
    ∷ perhaps f.strict (mark m.Strict) (mark m.As ∷ []) in
    ap (λ u. mark m.Create ∷ name (codes "FUNCTION") ∷ name (codes "public") ∷ mark m.Dot ∷ name f.name ∷ mark m.Open
    ∷ (parameters_printed f.params ++ mark m.Close ∷ name (codes "RETURNS") ∷ name (type_name f.result) ∷ name (codes "LANGUAGE")
    ∷ name (codes "plpgsql") ∷ u)) (sym last)
    ∙ ap (λ u. mark m.Create ∷ name (codes "FUNCTION") ∷ name (codes "public") ∷ mark m.Dot ∷ name f.name ∷ mark m.Open ∷ u)
    (sym (append_assoc (parameters_printed f.params) front (quote z ∷ semicolon)))

perhaps_plain : (b : Bool) → Plain (perhaps b (mark m.Strict) (mark m.As ∷ []))
perhaps_plain true = plain_more refl (plain_more refl plain_end)
perhaps_plain false = plain_more refl plain_end

pub before_plain : (f : Function) → Plain (parameters_printed f.params) → Plain (mark m.Create ∷ before_quote f)
before_plain f h =
    plain_more refl (plain_more refl (plain_more refl (plain_more refl (plain_more refl (plain_more refl (joins (parameters_printed f.params) h
    (plain_more refl (plain_more refl (plain_more refl (plain_more refl (plain_more refl (perhaps_plain f.strict))))))))))))
