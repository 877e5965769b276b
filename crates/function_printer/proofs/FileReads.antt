-- A function that was read from a text prints as one that reads as it.
use Rattle.std.proofs.Common.{◌≡◌, ◌<◌, ◌^◌, ◌+◌, ℕ, refl, sym, ap, ◌∙◌, subst, Bool, true, false, List, [], ◌∷◌, ◌++◌, length, map, Some, None, append-nil}
use Rattle.std.specs.Prelude.{IsUtf8}
use Rattle.std.specs.List.{list_any}
use Rattle.away_grammar.specs.declared.grammar.Mark.TheVariants as m
use Rattle.away_grammar.specs.declared.tokens.TokenKind.TheVariants.{Dollar}
use Rattle.away_trees.specs.declared.statements.Function.{Function}
use Rattle.away_trees.specs.declared.statements.Stmt.{Stmt}
use Rattle.away_grammar.specs.Reserved.{calls}
use Rattle.away_grammar.specs.Terminals.{Terminal, mark, token_terminals}
use Rattle.away_grammar.specs.Grammar.{schema_qualified}
use Rattle.away_grammar.specs.FunctionGrammar as g
use Rattle.away_grammar.specs.FunctionGrammar.{ReadsPart, ReadsFunction, or_replace}
use Rattle.away_grammar.specs.FunctionFile.{first_dollar, LexesBody}
use Rattle.away_grammar.specs.Spacing.{laid, lexemes_from}
use Rattle.away_grammar.specs.Spellings.{IsDollarQuote, IsTag, IsFirstBehind, mark_of}
use Rattle.away_grammar.specs.Tokens.{Lexeme}
use Rattle.away_grammar.specs.Printing.{spelled, terminals_text, with_commas}
use Rattle.away_lex.proofs.Printer.{printed_lexes}
use Rattle.sql_printer.specs.Writable.{AllWritable}
use Rattle.sql_printer.proofs.PrintTexts.{placed_terminals}
use Rattle.sql_printer.proofs.TextTerminals.{text_writable}
use Rattle.function_printer.specs.FunctionTerminals.{function_terminals, parameter_terminals, statement_terminals}
use Rattle.function_printer.specs.FunctionTexts.{body_text, in_marks, function_text}
use Rattle.function_printer.specs.Tags.{free_mark}
use Rattle.function_printer.proofs.FileTexts.{Header, header_of, dollar_first, terminals_are, before_plain, before_quote}
use Rattle.function_printer.proofs.InsideTexts.{inside_says}
use Rattle.sql_printer.proofs.InsideWritable.{inner_writable}
use Rattle.function_printer.proofs.Plain.{Plain, plain_end, plain_more}
use Rattle.function_printer.proofs.PrintedParts.{Prints}
use Rattle.function_printer.proofs.PrintedNodes.{ReadsAs}
use Rattle.function_printer.proofs.PrintedHeads.{ConditionEnds, RangeEnds}
use Rattle.function_printer.proofs.PrintedBodies.{prints}
use Rattle.function_printer.proofs.Says.{are_laid, laid_says}

front_plain : (ss us : List Terminal) → Plain (ss ++ us) → Plain ss
front_plain [] us h = plain_end
front_plain (s ∷ ss) us (plain_more h d) = plain_more h (front_plain ss us d)

-- A text's mark is that of a tag, and stands nowhere before its end behind the text.
pub record FreeMark (text : List ℕ) : Type 0 where
  pub tag : List ℕ
  pub is : free_mark text ≡ mark_of tag
  pub is_tag : IsTag tag
  pub next : IsFirstBehind (mark_of tag) text

quoted : (text : List ℕ) → FreeMark text → IsDollarQuote (in_marks text)
quoted text k = record {
  tag = k.tag;
  inside = text;
  is_tag = k.is_tag;
  next = k.next;
  spelled = ap (λ mark. mark ++ (text ++ mark)) k.is;
}

pub printed_is : (f : Function) → function_text f ≡ terminals_text (function_terminals f (in_marks (body_text f.body)))
unfolding function_text
printed_is f = refl

-- the tokens of the text, from those of the header and of the body
text_reads : (f : Function) → FreeMark (body_text f.body) → Header f (in_marks (body_text f.body)) → Plain (mark m.Create ∷ before_quote f)
    → Prints (statement_terminals f.body) (ReadsAs g.body f.body) → ReadsFunction (function_text f) f
text_reads f free header plain body =
    let text = body_text f.body in
    let z = in_marks text in
    let ss = function_terminals f z in
    let outer = lexemes_from 0 (laid calls (map spelled ss)) in
    let dollar = dollar_first (mark m.Create) (before_quote f) z (mark m.Semicolon ∷ []) plain in
    let lexeme : Lexeme = record { kind = Dollar; text = z; start = dollar.0 } in
    let is_first : first_dollar outer ≡ Some lexeme = ap (λ us. first_dollar (lexemes_from 0 (laid calls (map spelled us)))) (terminals_are f z) ∙ dollar.1 in
    let inner = inside_says body.tells.says body.tells.plain (dollar.0 + length (mark_of free.tag)) in
    let inside : LexesBody (Some lexeme) inner.0 None = record {
      mark = mark_of free.tag;
      inside = text;
      is_inside = record { tag = free.tag; is_tag = free.is_tag; is_mark = refl; spelled = ap (λ mark. mark ++ (text ++ mark)) free.is };
      part = inner.1;
    } in
    let said_terminals : token_terminals outer ≡ header.said = placed_terminals (laid calls (map spelled ss)) 0 ∙ laid_says header.says in
    subst (λ y. ReadsFunction y f) (sym (printed_is f)) (record {
      outer = outer;
      inner = inner.0;
      inside = f.body;
      lexes = record {
        outer_bad = None;
        body_bad = None;
        outer_list = printed_lexes calls (map spelled ss) (are_laid header.says);
        body_list = subst (λ o. LexesBody o inner.0 None) (sym is_first) inside;
        first = refl;
      };
      reads_body = subst (λ ts. ReadsPart g.body ts f.body []) (sym inner.2)
          (subst (λ ts. ReadsPart g.body ts f.body []) (append-nil body.said) (body.reads []));
      reads_function = subst (λ ts. ReadsPart (g.function f.body) ts f []) (sym said_terminals) header.reads;
    })

behind_public : (q : Bool) (ts : List Terminal) → AllWritable (schema_qualified q ts) → AllWritable ts
behind_public true ts h = h.1.1
behind_public false ts h = h

-- what stands in the parentheses
parameters_plain : (ss : List Terminal) → Plain (mark m.Open ∷ (ss ++ mark m.Close ∷ [])) → Plain ss
parameters_plain ss (plain_more h d) = front_plain ss (mark m.Close ∷ []) d

replaced : (o : Bool) (ts : List Terminal) → AllWritable (or_replace o ts) → AllWritable ts
replaced true ts h = h.1.1
replaced false ts h = h

module _ (condition_ends : ConditionEnds) (range_ends : RangeEnds)
    (free : (x : Stmt) → length (body_text x) < 2 ^ 64 → FreeMark (body_text x)) where
  read_from : {inside : Stmt} {ts us rest : List Terminal} {f : Function} → ReadsPart (g.function inside) ts f rest → AllWritable ts
      → ReadsPart g.body us inside [] → AllWritable us
      → length (body_text f.body) < 2 ^ 64 → ReadsFunction (function_text f) f
  read_from {inside = inside} (g.function_of {n = n} {xs = xs} {ty = ty} {found = found} o q w t is may d c) h b k short =
      let f : Function = record { name = n; strict = list_any g.makes_strict found; params = xs; result = ty; body = inside } in
      let behind_words = behind_public q _ (replaced o _ h.1).1 in
      let signature = prints condition_ends range_ends d behind_words.1 in
      let body = prints condition_ends range_ends b k in
      let mark_free = free inside short in
      let header = header_of n _ xs ty t (in_marks (body_text inside)) behind_words.0 (quoted (body_text inside) mark_free) is signature.0 in
      text_reads f mark_free header (before_plain f (parameters_plain (with_commas (map (λ x. parameter_terminals x) xs)) signature.0.tells.plain)) body.0

  pub reads_again : (z : List ℕ) (f : Function) → IsUtf8 z → length (body_text f.body) < 2 ^ 64 → ReadsFunction z f → ReadsFunction (function_text f) f
  reads_again z f u short h = read_from h.reads_function (text_writable u h.lexes.outer_list) h.reads_body (inner_writable z h.outer h.inner u h.lexes) short
