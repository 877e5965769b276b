-- What is read with a depth is read, and read with a greater depth; and what is said likewise.
use Rattle.std.proofs.Common.{◌≡◌, ◌≤◌, ℕ, suc, ◌+◌, ◌-◌, Bool, List, sym, subst, arith}
use Rattle.away_grammar.specs.Terminals.{Terminal}
use Rattle.away_grammar.specs.Grammar.{Sort, Tree, Reads}
use Rattle.away_grammar.specs.Grammar as g
use Rattle.cte_prints.specs.ReadsIn.{ReadsIn}
use Rattle.cte_prints.specs.ReadsIn as s

pub read_so : {v : Bool} {d : ℕ} {n : Sort} {ts : List Terminal} {t : Tree n} {rest : List Terminal} → ReadsIn v d n ts t rest → Reads n ts t rest
read_so (s.chain a b c) = g.chain a (read_so b) (read_so c)
read_so s.no_link = g.no_link
read_so (s.link a b c d) = g.link a b (read_so c) (read_so d)
read_so (s.affirmed a) = g.affirmed (read_so a)
read_so (s.negated a) = g.negated (read_so a)
read_so (s.untested a) = g.untested (read_so a)
read_so (s.tested a b c) = g.tested a b (read_so c)
read_so (s.uncompared a) = g.uncompared (read_so a)
read_so (s.compared a b c d) = g.compared a b (read_so c) (read_so d)
read_so (s.unranged a) = g.unranged (read_so a)
read_so (s.between a b c) = g.between (read_so a) (read_so b) (read_so c)
read_so (s.one_of a b) = g.one_of (read_so a) (read_so b)
read_so (s.unsigned a) = g.unsigned (read_so a)
read_so (s.signed a) = g.signed (read_so a)
read_so s.least = g.least
read_so (s.uncast a) = g.uncast (read_so a)
read_so (s.cast_once a b c) = g.cast_once a b (read_so c)
read_so (s.cast_twice a b c d f) = g.cast_twice a b c d (read_so f)
read_so (s.number a) = g.number a
read_so s.text = g.text
read_so (s.literal a b) = g.literal a b
read_so s.named = g.named
read_so s.qualified = g.qualified
read_so (s.typed_parameter a b) = g.typed_parameter a b
read_so (s.short_parameter a b) = g.short_parameter a b
read_so (s.parentheses a) = g.parentheses (read_so a)
read_so (s.scalar a) = g.scalar (read_so a)
read_so (s.cast a b c) = g.cast a b (read_so c)
read_so (s.exists a) = g.exists (read_so a)
read_so (s.cases a) = g.cases (read_so a)
read_so (s.cases_else a b) = g.cases_else (read_so a) (read_so b)
read_so (s.call_word a b c) = g.call_word a b (read_so c)
read_so s.count_rows = g.count_rows
read_so s.call_empty = g.call_empty
read_so (s.call a) = g.call (read_so a)
read_so (s.last a) = g.last (read_so a)
read_so (s.another a b) = g.another (read_so a) (read_so b)
read_so s.no_arm = g.no_arm
read_so (s.arm a b c) = g.arm (read_so a) (read_so b) (read_so c)
read_so (s.item_alone a) = g.item_alone (read_so a)
read_so (s.item_as a) = g.item_as (read_so a)
read_so (s.last_item a) = g.last_item (read_so a)
read_so (s.another_item a b) = g.another_item (read_so a) (read_so b)
read_so (s.table_alone a) = g.table_alone a
read_so (s.table_as a b) = g.table_as a b
read_so (s.sub_alone a b) = g.sub_alone a (read_so b)
read_so (s.sub_columns a b c) = g.sub_columns a (read_so b) (read_so c)
read_so (s.last_from a) = g.last_from (read_so a)
read_so (s.another_from a b) = g.another_from (read_so a) (read_so b)
read_so s.last_name = g.last_name
read_so (s.another_name a) = g.another_name (read_so a)
read_so (s.key_alone a b) = g.key_alone a (read_so b)
read_so (s.ascending a b) = g.ascending a (read_so b)
read_so (s.descending a b) = g.descending a (read_so b)
read_so (s.last_key a) = g.last_key (read_so a)
read_so (s.another_key a b) = g.another_key (read_so a) (read_so b)
read_so s.no_from = g.no_from
read_so (s.from a) = g.from (read_so a)
read_so s.no_where = g.no_where
read_so (s.where_of a) = g.where_of (read_so a)
read_so s.no_order = g.no_order
read_so (s.order_by a) = g.order_by (read_so a)
read_so s.no_limit = g.no_limit
read_so (s.limit_of a) = g.limit_of (read_so a)
read_so (s.select_of a b c d f) = g.select_of (read_so a) (read_so b) (read_so c) (read_so d) (read_so f)
read_so (s.last_select a) = g.last_select (read_so a)
read_so (s.another_select a b) = g.another_select (read_so a) (read_so b)
read_so (s.query_of a b) = g.query_of a (read_so b)
read_so (s.recursive_of a b c d) = g.recursive_of a b (read_so c) (read_so d)
read_so (s.plain_file a b) = g.plain_file a (read_so b)
read_so (s.with_file a b c d) = g.with_file a b (read_so c) (read_so d)

suc_add : (d k : ℕ) → suc d + k ≡ suc (d + k)
suc_add d k = omega arith

up : {v : Bool} (d k : ℕ) {n : Sort} {ts : List Terminal} {t : Tree n} {rest : List Terminal} → ReadsIn v (suc (d + k)) n ts t rest → ReadsIn v (suc d + k) n ts t rest
up {v = v} d k {n = n} {ts = ts} {t = t} {rest = rest} h = subst (λ m. ReadsIn v m n ts t rest) (sym (suc_add d k)) h

down : {v : Bool} (d k : ℕ) {n : Sort} {ts : List Terminal} {t : Tree n} {rest : List Terminal} → ReadsIn v (suc d + k) n ts t rest → ReadsIn v (suc (d + k)) n ts t rest
down {v = v} d k {n = n} {ts = ts} {t = t} {rest = rest} h = subst (λ m. ReadsIn v m n ts t rest) (suc_add d k) h

deeper : (k : ℕ) {v : Bool} {d : ℕ} {n : Sort} {ts : List Terminal} {t : Tree n} {rest : List Terminal} → ReadsIn v d n ts t rest → ReadsIn v (d + k) n ts t rest
deeper k (s.chain a b c) = s.chain a (deeper k b) (deeper k c)
deeper k s.no_link = s.no_link
deeper k (s.link a b c d) = s.link a b (deeper k c) (deeper k d)
deeper k (s.affirmed a) = s.affirmed (deeper k a)
deeper k (s.negated a) = s.negated (deeper k a)
deeper k (s.untested a) = s.untested (deeper k a)
deeper k (s.tested a b c) = s.tested a b (deeper k c)
deeper k (s.uncompared a) = s.uncompared (deeper k a)
deeper k (s.compared a b c d) = s.compared a b (deeper k c) (deeper k d)
deeper k (s.unranged a) = s.unranged (deeper k a)
deeper k (s.between a b c) = s.between (deeper k a) (deeper k b) (deeper k c)
deeper k (s.one_of {d = j} a b) = up j k (s.one_of (down j k (deeper k a)) (deeper k b))
deeper k (s.unsigned a) = s.unsigned (deeper k a)
deeper k (s.signed a) = s.signed (deeper k a)
deeper k s.least = s.least
deeper k (s.uncast a) = s.uncast (deeper k a)
deeper k (s.cast_once a b c) = s.cast_once a b (deeper k c)
deeper k (s.cast_twice a b c d f) = s.cast_twice a b c d (deeper k f)
deeper k (s.number a) = s.number a
deeper k s.text = s.text
deeper k (s.literal a b) = s.literal a b
deeper k s.named = s.named
deeper k s.qualified = s.qualified
deeper k (s.typed_parameter {d = j} a b) = up j k (s.typed_parameter a b)
deeper k (s.short_parameter a b) = s.short_parameter a b
deeper k (s.parentheses {d = j} a) = up j k (s.parentheses (deeper k a))
deeper k (s.scalar {d = j} a) = up j k (s.scalar (deeper k a))
deeper k (s.cast {d = j} a b c) = up j k (s.cast a b (deeper k c))
deeper k (s.exists {d = j} a) = up j k (s.exists (deeper k a))
deeper k (s.cases {d = j} a) = up j k (s.cases (deeper k a))
deeper k (s.cases_else {d = j} a b) = up j k (s.cases_else (deeper k a) (deeper k b))
deeper k (s.call_word {d = j} a b c) = up j k (s.call_word a b (deeper k c))
deeper k (s.count_rows {d = j}) = up j k s.count_rows
deeper k (s.call_empty {d = j}) = up j k s.call_empty
deeper k (s.call {d = j} a) = up j k (s.call (deeper k a))
deeper k (s.last a) = s.last (deeper k a)
deeper k (s.another a b) = s.another (deeper k a) (deeper k b)
deeper k s.no_arm = s.no_arm
deeper k (s.arm a b c) = s.arm (deeper k a) (deeper k b) (deeper k c)
deeper k (s.item_alone a) = s.item_alone (deeper k a)
deeper k (s.item_as a) = s.item_as (deeper k a)
deeper k (s.last_item a) = s.last_item (deeper k a)
deeper k (s.another_item a b) = s.another_item (deeper k a) (deeper k b)
deeper k (s.table_alone a) = s.table_alone a
deeper k (s.table_as a b) = s.table_as a b
deeper k (s.sub_alone {d = j} a b) = up j k (s.sub_alone a (deeper k b))
deeper k (s.sub_columns {d = j} a b c) = up j k (s.sub_columns a (deeper k b) (deeper k c))
deeper k (s.last_from a) = s.last_from (deeper k a)
deeper k (s.another_from a b) = s.another_from (deeper k a) (deeper k b)
deeper k s.last_name = s.last_name
deeper k (s.another_name a) = s.another_name (deeper k a)
deeper k (s.key_alone a b) = s.key_alone a (deeper k b)
deeper k (s.ascending a b) = s.ascending a (deeper k b)
deeper k (s.descending a b) = s.descending a (deeper k b)
deeper k (s.last_key a) = s.last_key (deeper k a)
deeper k (s.another_key a b) = s.another_key (deeper k a) (deeper k b)
deeper k s.no_from = s.no_from
deeper k (s.from a) = s.from (deeper k a)
deeper k s.no_where = s.no_where
deeper k (s.where_of a) = s.where_of (deeper k a)
deeper k s.no_order = s.no_order
deeper k (s.order_by a) = s.order_by (deeper k a)
deeper k s.no_limit = s.no_limit
deeper k (s.limit_of a) = s.limit_of (deeper k a)
deeper k (s.select_of a b c d f) = s.select_of (deeper k a) (deeper k b) (deeper k c) (deeper k d) (deeper k f)
deeper k (s.last_select a) = s.last_select (deeper k a)
deeper k (s.another_select a b) = s.another_select (deeper k a) (deeper k b)
deeper k (s.query_of a b) = s.query_of a (deeper k b)
deeper k (s.recursive_of {d = j} a b c d) = up j k (s.recursive_of a b (deeper k c) (deeper k d))
deeper k (s.plain_file a b) = s.plain_file a (deeper k b)
deeper k (s.with_file a b c d) = s.with_file a b (deeper k c) (deeper k d)

pub deepen : {v : Bool} (d more : ℕ) {n : Sort} {ts : List Terminal} {t : Tree n} {rest : List Terminal} → d ≤ more → ReadsIn v d n ts t rest → ReadsIn v more n ts t rest
deepen {v = v} d more {n = n} {ts = ts} {t = t} {rest = rest} h r =
    let there : d + (more - d) ≡ more = omega arith in
    subst (λ m. ReadsIn v m n ts t rest) there (deeper (more - d) r)
