use Rattle.std.proofs.Common.{◌≡◌, IfOk, subst, ap, sym, ◌∙◌, map}
use Rattle.sql_meaning.specs.Template.{count_from}
use Rattle.sql_meaning.specs.Trees.{item}
use Rattle.turn_template.specs.TurnTemplate.{reads_first}
use Rattle.turn_query.proofs.LevelRules.{first_rest, is_nil}
use Rattle.turn_query.proofs.levels.reading_first.Goals as goal

pub returns-in-empty : goal.returns-in-empty
returns-in-empty c =
    c.new.ensures ∙ ap (λ es. map item (reads_first (count_from c.args.from c.args.many) es)) (sym (is_nil c.args.cells.now c.in-empty.len_below))

pub returns-in-len1-up : goal.returns-in-len1-up
returns-in-len1-up c =
    subst (λ es. IfOk c.first_and_more.result (λ list. list ≡ map item (reads_first (count_from c.args.from c.args.many) es)))
    (sym (first_rest c.args.cells.now c.cell-item.result c.in-len1-up.len_at_least c.cell-item.is)) c.first_and_more.ensures
