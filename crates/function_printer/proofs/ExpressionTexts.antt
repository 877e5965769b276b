-- The text of an expression reads as it.
use Rattle.std.proofs.Common.{◌≡◌, refl, sym, subst, Bool, true, false, List, [], ◌++◌, None, append-nil}
use Rattle.away_grammar.specs.declared.grammar.Level.{Level}
use Rattle.away_grammar.specs.declared.grammar.Level.TheVariants as l
use Rattle.away_trees.specs.declared.queries.Expr.{Expr}
use Rattle.away_grammar.specs.Terminals.{Terminal}
use Rattle.away_grammar.specs.Grammar.{at, Reads}
use Rattle.away_grammar.specs.Tokens.{Lexes}
use Rattle.sql_printer.specs.Writable.{AllWritable}
use Rattle.sql_printer.proofs.PrintLevels.{place}
use Rattle.sql_printer.proofs.PrintBack.{prints_back}
use Rattle.sql_printer.proofs.PrintClear.{Clear, at_place}
use Rattle.sql_printer.proofs.PrintWritable.{prints_clear}
use Rattle.function_printer.specs.FunctionTexts.{ReadsExpression, expression_terminals, expression_text, spaced_text}
use Rattle.function_printer.proofs.Closes.{closes, closed_reads}
use Rattle.function_printer.proofs.InsideTexts.{alone_says}
use Rattle.function_printer.proofs.Says.{clear_says}

printed_clear : {level : Level} {ts rest : List Terminal} {x : Expr} (is_closed : Bool) → Reads (at level) ts x rest → AllWritable ts
    → Clear (expression_terminals x is_closed)
printed_clear true d h = (closes d h).clear
printed_clear {x = x} false d h = at_place l.Or x (prints_clear d h).0

printed_reads : {level : Level} {ts rest : List Terminal} {x : Expr} (is_closed : Bool) → Reads (at level) ts x rest → AllWritable ts
    → Reads (at l.Or) (expression_terminals x is_closed ++ []) x []
printed_reads true d h = closed_reads (closes d h) []
printed_reads {x = x} false d h = place l.Or x [] (prints_back d)

pub text_is : (x : Expr) (is_closed : Bool) → expression_text x is_closed ≡ spaced_text (expression_terminals x is_closed)
unfolding expression_text
text_is x is_closed = refl

pub expression_reads : {level : Level} {ts rest : List Terminal} {x : Expr} (is_closed : Bool) → Reads (at level) ts x rest → AllWritable ts
    → ReadsExpression (expression_text x is_closed) x
expression_reads {x = x} is_closed d h =
    let found = alone_says (clear_says (printed_clear is_closed d h)) in
    let reads = subst (λ ts. Reads (at l.Or) ts x []) (append-nil (expression_terminals x is_closed)) (printed_reads is_closed d h) in
    (found.0, subst (λ z. Lexes 0 z found.0 None) (sym (text_is x is_closed)) found.1, subst (λ ts. Reads (at l.Or) ts x []) (sym found.2) reads)
