use Rattle.std.proofs.Common.{rules, ◌≡◌, ◌∙◌, sym, ℕ, List, [], get_or, Bor}
use Rattle.std.specs.Str.{str_eq_ignore_ascii_case}
use borrow.Author.Tests.{tests}
use Rattle.away_grammar.specs.declared.grammar.Mark.{Mark}
use Rattle.away_grammar.specs.declared.grammar.Mark.TheVariants as m
use Rattle.sql_text.proofs.Marks.{mark_here, mark_next}
use Rattle.sql_text.proofs.terminals.mark_in_any_case.Goals as goal

abbrev none : Bor (List ℕ) × Mark
none = (record { ref_ptr = (0, 0); now = [] }, m.Assign)

pub returns-then-eq_ignore_ascii_case : goal.returns-then-eq_ignore_ascii_case
returns-then-eq_ignore_ascii_case c =
    let is : c.eq_ignore_ascii_case.result ≡ str_eq_ignore_ascii_case c.args.word.now (get_or c.args.entries.now c.loop-text.text-index none).0.now = search (rules, tests) in
    sym (mark_here (str_eq_ignore_ascii_case c.args.word.now) c.args.entries.now c.loop-text.text-index none c.loop-text-test.true (sym is ∙ c.if-eq_ignore_ascii_case.true)) ∙ c.loop-text.invariant

pub loop-text-preserved : goal.loop-text-preserved
loop-text-preserved c =
    let is : c.eq_ignore_ascii_case.result ≡ str_eq_ignore_ascii_case c.args.word.now (get_or c.args.entries.now c.loop-text.text-index none).0.now = search (rules, tests) in
    mark_next (str_eq_ignore_ascii_case c.args.word.now) c.args.entries.now c.loop-text.text-index none c.loop-text-test.true (sym is ∙ c.if-eq_ignore_ascii_case.false) ∙ c.loop-text.invariant
