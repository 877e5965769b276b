-- What the grammar reads and stops, the plan gives.
use Rattle.std.proofs.Common.{List, Some}
use Rattle.away_grammar.specs.Terminals.{Terminal}
use Rattle.away_grammar.specs.Grammar as g
use Rattle.away_grammar.specs.Grammar.{Sort, Tree, Reads, Stops}
use Rattle.sql_text.specs.Plans.{Runs}
use Rattle.sql_text.specs.Descent.{plan}
use Rattle.sql_text.proofs.Starts.{starts}
use Rattle.sql_text.proofs.CompleteStops.{followed}
use Rattle.sql_text.proofs.CompleteLevels as levels
use Rattle.sql_text.proofs.CompletePrimary as primary
use Rattle.sql_text.proofs.CompleteFrom as from
use Rattle.sql_text.proofs.CompleteQueries as queries

pub complete : {n : Sort} {ts : List Terminal} {x : Tree n} {rest : List Terminal} → Reads n ts x rest → Stops n rest → Runs Tree plan n (plan n) ts (Some (x, rest))
complete (g.chain h d e) = levels.given_chain h (followed e) (complete d) (complete e)
complete g.no_link = levels.given_no_link
complete (g.link terminal h d e) = levels.given_link terminal h (followed e) (complete d) (complete e)
complete (g.affirmed d) = levels.given_affirmed (starts d) (complete d)
complete (g.negated d) = levels.given_negated (complete d)
complete (g.untested d) = levels.given_untested (complete d)
complete (g.tested {n = n} terminal h d) = levels.given_tested n terminal h (complete d)
complete (g.uncompared d) = levels.given_uncompared (complete d)
complete (g.compared terminal h d e) = levels.given_compared terminal h (complete d) (complete e)
complete (g.unranged d) = levels.given_unranged (complete d)
complete (g.between d e f) = levels.given_between (complete d) (complete e) (complete f)
complete (g.one_of d e) = levels.given_one_of (complete d) (complete e)
complete (g.unsigned d) = levels.given_unsigned (starts d) (complete d)
complete (g.signed d) = levels.given_signed (starts d) (complete d)
complete g.least = levels.given_least
complete (g.uncast d) = levels.given_uncast (complete d)
complete (g.cast_once t h d) = levels.given_cast_once t h (complete d)
complete (g.cast_twice t u h i d) = levels.given_cast_twice t u h i (complete d)
complete (g.number h) = primary.given_number h
complete g.text = primary.given_text
complete (g.literal terminal h) = primary.given_literal terminal h
complete g.named = primary.given_named
complete g.qualified = primary.given_qualified
complete (g.typed_parameter t h) = primary.given_typed_parameter t h
complete (g.short_parameter t h) = primary.given_short_parameter t h
complete (g.parentheses d) = primary.given_parentheses (starts d) (complete d)
complete (g.scalar d) = primary.given_scalar (starts d) (complete d)
complete (g.cast t h d) = primary.given_cast t h (starts d) (complete d)
complete (g.exists d) = primary.given_exists (complete d)
complete (g.cases d) = primary.given_cases (complete d)
complete (g.cases_else d e) = primary.given_cases_else (complete d) (complete e)
complete (g.call_word terminal h d) = primary.given_call_word terminal h (complete d)
complete g.count_rows = primary.given_count_rows
complete g.call_empty = primary.given_call_empty
complete (g.call d) = primary.given_call (starts d) (complete d)
complete (g.last d) = primary.given_last (complete d)
complete (g.another d e) = primary.given_another (complete d) (complete e)
complete g.no_arm = primary.given_no_arm
complete (g.arm d e f) = primary.given_arm (followed f) (complete d) (complete e) (complete f)
complete (g.item_alone d) = from.given_item_alone (complete d)
complete (g.item_as d) = from.given_item_as (complete d)
complete (g.last_item d) = from.given_last_item (complete d)
complete (g.another_item d e) = from.given_another_item (complete d) (complete e)
complete (g.table_alone q) = from.given_table_alone q
complete (g.table_as q w) = from.given_table_as q w
complete (g.sub_alone {v = v} w d) = from.given_sub_alone v w (complete d)
complete (g.sub_columns {v = v} w d e) = from.given_sub_columns v w (complete d) (complete e)
complete (g.last_from d) = from.given_last_from (complete d)
complete (g.another_from d e) = from.given_another_from (complete d) (complete e)
complete g.last_name = from.given_last_name
complete (g.another_name d) = from.given_another_name (complete d)
complete (g.key_alone h d) = from.given_key_alone h (complete d)
complete (g.ascending h d) = from.given_ascending h (complete d)
complete (g.descending h d) = from.given_descending h (complete d)
complete (g.last_key d) = from.given_last_key (complete d)
complete (g.another_key d e) = from.given_another_key (complete d) (complete e)
complete g.no_from = queries.given_no_from
complete (g.from d) = queries.given_from (complete d)
complete g.no_where = queries.given_no_where
complete (g.where_of d) = queries.given_where_of (complete d)
complete g.no_order = queries.given_no_order
complete (g.order_by d) = queries.given_order_by (complete d)
complete g.no_limit = queries.given_no_limit
complete (g.limit_of d) = queries.given_limit_of (complete d)
complete (g.select_of a b c d e) = queries.given_select_of (followed b) (followed c) (followed d) (followed e) (complete a) (complete b) (complete c) (complete d) (complete e)
complete (g.last_select d) = queries.given_last_select (complete d)
complete (g.another_select d e) = queries.given_another_select (complete d) (complete e)
complete (g.query_of h d) = queries.given_query_of h (complete d)
complete (g.recursive_of ss second d e) = queries.given_recursive_of ss second (complete d) (complete e)
complete (g.plain_file w d) = queries.given_plain_file w (starts d) (complete d)
complete (g.with_file w h d e) = queries.given_with_file w h (starts d) (starts e) (complete d) (complete e)
complete (g.column_of {v = v} t h) = queries.given_column_of v t h
complete (g.last_column d) = queries.given_last_column (complete d)
complete (g.another_column d e) = queries.given_another_column (complete d) (complete e)
complete g.no_table = queries.given_no_table
complete (g.table q d e) = queries.given_table q (complete d) (complete e)
