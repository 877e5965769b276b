-- The worked examples.
use Rattle.std.proofs.Common.{◌≡◌, ◌∙◌, ℕ, true, false, if◌then◌else◌, List, [], ◌∷◌, refl, sym, ap, subst, arith, codes}
use Rattle.std.specs.Prelude.{decimal}
use Rattle.std.proofs.lemmas.Fmt.{decimal_digit}
use Rattle.away_grammar.specs.Reserved.{calls, is_reserved}
use Rattle.away_grammar.specs.Spellings.{mark_of}
use Rattle.away_trees.specs.declared.queries.Expr.TheBlock as e
use Rattle.away_trees.specs.declared.queries.Expr.TheViews as view
use Rattle.away_trees.specs.declared.statements.Stmt.TheBlock as b
use Rattle.function_printer.specs.FunctionTexts.{expression_text, function_text}
use Rattle.function_printer.specs.Tags.{first_free, free_mark, numbered_mark, stands_in}
use Rattle.function_printer.specs.Worked.{CasesAreClosed, FirstFree, FunctionsPrint}

pub functions : FunctionsPrint
unfolding function_text free_mark calls is_reserved b.hidden-the_row-Stmt-0 b.hidden-the_row-Arm-1 e.hidden-the_row-Expr-0 e.hidden-the_row-Expr-Cases-0-2-3
    e.hidden-the_row-Item-6 e.hidden-the_row-FromItem-7 e.hidden-the_row-Key-8 view.roll-Select view.out-Select
    denote.Hole.Carrier.hidden denote.Hole.Carrier.roll denote.Hole.Carrier.out e.shown-the_row-Item-6 e.shown-the_row-FromItem-7
    e.shown-the_row-Key-8 denote.Hole.Carrier.shown lib.Utf8.encode
functions = record { short = refl; long = refl; into = refl }

pub closed_cases : CasesAreClosed
unfolding expression_text calls is_reserved e.hidden-the_row-Expr-0 e.hidden-the_row-Expr-Chain-1-2-1 e.hidden-the_row-Expr-Cases-0-2-3 denote.Hole.Carrier.hidden
closed_cases = record { first = refl; alone = refl; last = refl; linked = refl; inside = refl; tested = refl }

-- ---- marks

abbrev marked : List ℕ → List ℕ
marked ds = mark_of (113 ∷ ds)

one_is : decimal 1 ≡ 49 ∷ []
one_is = decimal_digit 1 (omega arith)

two_is : decimal 2 ≡ 50 ∷ []
two_is = decimal_digit 2 (omega arith)

first_one : first_free 6 0 (codes "a $$ b") ≡ 1
first_one = ap (λ c. if c then first_free 4 2 (codes "a $$ b") else 1) (subst (λ ds. stands_in (marked ds) (codes "a $$ b") ≡ false) (sym one_is) refl)

first_two : first_free 7 0 (codes "$$ $q1$") ≡ 2
first_two =
    ap (λ c. if c then first_free 5 2 (codes "$$ $q1$") else 1) (subst (λ ds. stands_in (marked ds) (codes "$$ $q1$") ≡ true) (sym one_is) refl)
    ∙ ap (λ c. if c then first_free 4 3 (codes "$$ $q1$") else 2) (subst (λ ds. stands_in (marked ds) (codes "$$ $q1$") ≡ false) (sym two_is) refl)

pub free : FirstFree
unfolding free_mark
free = record {
  none = refl;
  one = ap numbered_mark first_one ∙ ap marked one_is;
  two = ap numbered_mark first_two ∙ ap marked two_is;
}
