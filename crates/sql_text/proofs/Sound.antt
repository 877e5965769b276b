-- What the plan of a sort gives, the grammar reads.
use Rattle.std.proofs.Common.{List, Some, refl}
use Rattle.away_grammar.specs.Terminals.{Terminal}
use Rattle.away_grammar.specs.declared.grammar.Level.TheVariants as l
use Rattle.away_grammar.specs.Grammar.{Sort, at, links, list, arms, item, items, from_item, from_items, from_clause, where_clause, key, keys, order_clause, limit_clause, select, selects, query, names, recursive, file, column, columns, tables, Tree, Reads}
use Rattle.sql_text.specs.Plans.{Runs}
use Rattle.sql_text.specs.Descent.{plan}
use Rattle.sql_text.proofs.SoundExpressions.{chain_holds, links_hold, not_holds, is_holds, compare_holds, range_holds, sign_holds, cast_holds, primary_holds, list_holds, arms_hold}
use Rattle.sql_text.proofs.SoundQueries.{item_holds, items_hold, from_item_holds, from_items_hold, from_clause_holds, where_holds, key_holds, keys_hold, order_holds, limit_holds, select_holds, selects_hold, query_holds, names_hold, recursive_holds, file_holds, column_holds, columns_of_table_hold, tables_hold}
use Rattle.sql_text.proofs.Holds.{Holds, Nothing, here, plan_gives}

pub all_hold : (n : Sort) → Holds Reads n (plan n) Nothing here
all_hold (at l.Or) = chain_holds l.Or tt
all_hold (at l.And) = chain_holds l.And tt
all_hold (at l.Not) = not_holds
all_hold (at l.Is) = is_holds
all_hold (at l.Compare) = compare_holds
all_hold (at l.Range) = range_holds
all_hold (at l.Concat) = chain_holds l.Concat tt
all_hold (at l.Sum) = chain_holds l.Sum tt
all_hold (at l.Product) = chain_holds l.Product tt
all_hold (at l.Sign) = sign_holds
all_hold (at l.Cast) = cast_holds
all_hold (at l.Primary) = primary_holds
all_hold (links level) = links_hold level
all_hold list = list_holds
all_hold arms = arms_hold
all_hold item = item_holds
all_hold items = items_hold
all_hold from_item = from_item_holds
all_hold from_items = from_items_hold
all_hold from_clause = from_clause_holds
all_hold where_clause = where_holds
all_hold key = key_holds
all_hold keys = keys_hold
all_hold order_clause = order_holds
all_hold limit_clause = limit_holds
all_hold select = select_holds
all_hold selects = selects_hold
all_hold query = query_holds
all_hold names = names_hold
all_hold recursive = recursive_holds
all_hold file = file_holds
all_hold column = column_holds
all_hold columns = columns_of_table_hold
all_hold tables = tables_hold

pub sound : {n : Sort} {ts : List Terminal} {x : Tree n} {rest : List Terminal} → Runs Tree plan n (plan n) ts (Some (x, rest)) → Reads n ts x rest
sound {n = n} {x = x} {rest = rest} d = plan_gives Reads all_hold n x rest d refl Nothing here (all_hold n) tt
