-- What is read as an expression begins with no dot.
use Rattle.std.proofs.Common.{◌≡◌, refl, false, List, Some}
use Rattle.away_grammar.specs.declared.grammar.Mark.{Mark}
use Rattle.away_grammar.specs.declared.grammar.Mark.TheVariants as m
use Rattle.away_grammar.specs.declared.grammar.Level.{Level}
use Rattle.away_trees.specs.declared.queries.Expr.{Expr}
use Rattle.away_grammar.specs.Terminals.{Terminal}
use Rattle.away_grammar.specs.Grammar.{Sort, at, Tree, Reads, literal_of, called, chain, affirmed, negated, untested, tested, uncompared, compared, unranged, between, one_of, unsigned, signed, least, uncast, cast_once, cast_twice, number, text, literal, named, qualified, typed_parameter, short_parameter, parentheses, scalar, cast, exists, cases, cases_else, call_word, count_rows, call_empty, call}
use Rattle.sql_printer.proofs.PrintClear.{mark_is_dot}
use Rattle.function_printer.proofs.Says.{NotDotNext}

no_literal : (terminal : Mark) {x : Expr} → literal_of terminal ≡ Some x → mark_is_dot terminal ≡ false
no_literal m.Dot h = absurd (cc h)
no_literal m.Dots h = absurd (cc h)
no_literal _ h = refl

no_call : (terminal : Mark) {n : _} → called terminal ≡ Some n → mark_is_dot terminal ≡ false
no_call m.Dot h = absurd (cc h)
no_call m.Dots h = absurd (cc h)
no_call _ h = refl

abbrev BeginsSo : Sort → List Terminal → Type 0
BeginsSo (at level) ts = NotDotNext ts
BeginsSo _ ts = Unit {0}

begins_so : {n : Sort} {ts : List Terminal} {t : Tree n} {rest : List Terminal} → Reads n ts t rest → BeginsSo n ts
begins_so (chain p d c) = begins_so d
begins_so (affirmed d) = begins_so d
begins_so (negated d) = refl
begins_so (untested d) = begins_so d
begins_so (tested terminal h d) = begins_so d
begins_so (uncompared d) = begins_so d
begins_so (compared terminal h d c) = begins_so d
begins_so (unranged d) = begins_so d
begins_so (between d b c) = begins_so d
begins_so (one_of d b) = begins_so d
begins_so (unsigned d) = begins_so d
begins_so (signed d) = refl
begins_so least = refl
begins_so (uncast d) = begins_so d
begins_so (cast_once t h d) = begins_so d
begins_so (cast_twice t u h k d) = begins_so d
begins_so (number h) = refl
begins_so text = refl
begins_so (literal terminal h) = no_literal terminal h
begins_so named = refl
begins_so qualified = refl
begins_so (typed_parameter t h) = refl
begins_so (short_parameter t h) = refl
begins_so (parentheses d) = refl
begins_so (scalar d) = refl
begins_so (cast t h d) = refl
begins_so (exists d) = refl
begins_so (cases d) = refl
begins_so (cases_else d b) = refl
begins_so (call_word terminal h d) = no_call terminal h
begins_so count_rows = refl
begins_so call_empty = refl
begins_so (call d) = refl
begins_so _ = tt

pub no_dot_first : {level : Level} {ts rest : List Terminal} {x : Expr} → Reads (at level) ts x rest → NotDotNext ts
no_dot_first d = begins_so d
