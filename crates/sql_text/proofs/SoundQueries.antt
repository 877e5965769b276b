-- What the plans of queries and schemas give, the grammar reads.
use Rattle.std.proofs.Common.{◌≡◌, ℕ, Bool, true, false, List, [], ◌∷◌, ◌++◌, Option, Some, None, refl, sym, ap, subst, codes, bytes_eq}
use Rattle.std.proofs.lemmas.Option.{same_Some}
use Rattle.std.proofs.lemmas.Slice.Eq.{bytes_eq-Decides}
use Rattle.away_grammar.specs.declared.grammar.Mark.TheVariants as m
use Rattle.away_trees.specs.declared.queries.Source.TheVariants as source
use Rattle.away_trees.specs.declared.queries.Select.{Select}
use Rattle.away_trees.specs.declared.queries.Query.{Query}
use Rattle.away_grammar.specs.Terminals.{Terminal, mark, name}
use Rattle.away_grammar.specs.Grammar.{Sort, item, items, from_item, from_items, from_clause, where_clause, key, keys, order_clause, limit_clause, select, selects, query, names, recursive, file, column, columns, tables, Tree, is_number, may_join, perhaps, schema_qualified, Reads, item_alone, item_as, last_item, another_item, table_alone, table_as, sub_alone, sub_columns, last_from, another_from, last_name, another_name, key_alone, ascending, descending, last_key, another_key, no_from, from, no_where, where_of, no_order, order_by, no_limit, limit_of, select_of, last_select, another_select, query_of, recursive_of, plain_file, with_file, column_of, last_column, another_column, no_table, table}
use Rattle.sql_text.specs.Plans.{Plan}
use Rattle.sql_text.specs.Descent.{a_name, schema_qualified_name, item_plan, items_plan, table_plan, columns_plan, sub_plan, from_item_plan, from_items_plan, from_clause_plan, where_plan, key_plan, keys_plan, order_plan, limit_plan, select_plan, selects_plan, query_plan, names_plan, put_first, parted, recursive_with, recursive_plan, file_plan, column_plan, table_columns_plan, tables_plan}
use Rattle.sql_text.proofs.Holds.{Holds, Nothing, here, if_holds, with_holds, name_taken, type_taken}

pub item_holds : Holds Reads item item_plan Nothing here
item_holds x = ((tt, name_taken Reads _ _ _ (λ n ts k. item_as k.2)), λ ts k. item_alone k.2)

pub items_hold : Holds Reads items items_plan Nothing here
items_hold x = (λ xs ts k. another_item k.1.2 k.2, λ ts k. last_item k.2)

-- ---- FROM

-- The plan of a name, perhaps behind `public.`, goes on after either form.
qualified_holds : (n : Sort) (Known : List Terminal → Type 0) (begun : (ts : List Terminal) → Known ts → List Terminal) (f : List ℕ → Plan Tree n)
    → ((q : Bool) (z : List ℕ) → Holds Reads n (f z) (λ ts. Known (schema_qualified q (name z ∷ ts))) (λ ts k. begun (schema_qualified q (name z ∷ ts)) k))
    → Holds Reads n (schema_qualified_name f) Known begun
qualified_holds n Known begun f found = (
  tt,
  name_taken Reads (λ s ts. Known (s ∷ ts)) (λ s ts k. begun (s ∷ ts) k) _ (λ z.
      if_holds Reads _ _ (bytes_eq z (codes "public")) _ _
      (λ h.
      let same : z ≡ codes "public" = (bytes_eq-Decides z (codes "public")).0 h in
      let behind : Holds Reads n (a_name f) (λ ts. Known (name (codes "public") ∷ mark m.Dot ∷ ts)) (λ ts k. begun (name (codes "public") ∷ mark m.Dot ∷ ts) k) = (tt, name_taken Reads (λ s ts. Known (name (codes "public") ∷ mark m.Dot ∷ s ∷ ts)) (λ s ts k. begun (name (codes "public") ∷ mark m.Dot ∷ s ∷ ts) k) f (found true)) in
      (subst (λ y. Holds Reads n (a_name f) (λ ts. Known (name y ∷ mark m.Dot ∷ ts)) (λ ts k. begun (name y ∷ mark m.Dot ∷ ts) k)) (sym same) behind, found false z))
      (λ h. found false z)),
)

-- behind a table's name
table_holds : (q : Bool) (n : List ℕ) → Holds Reads from_item (table_plan n) (λ ts. Nothing (schema_qualified q (name n ∷ ts))) (λ ts k. schema_qualified q (name n ∷ ts))
table_holds q n = (
  (tt, name_taken Reads _ _ _ (λ a ts k. table_as q true)),
  ((tt, name_taken Reads _ _ _ (λ a ts k. table_as q false)), λ ts k. table_alone q),
)

-- behind a subquery and its alias
abbrev Aliased : Bool → Query → List ℕ → List Terminal → Type 0
Aliased w q a rest = (ts : List Terminal) × Unit {0} × Reads query ts q (mark m.Close ∷ perhaps w (mark m.As) (name a ∷ rest))

columns_hold : (v w : Bool) (q : Query) (a : List ℕ) → Holds Reads from_item (columns_plan (source.Sub q v) a) (Aliased w q a) (λ rest k. perhaps v (mark m.Lateral) (mark m.Open ∷ k.0))
columns_hold v w q a = (λ ns. (λ ts k. sub_columns {v = v} w k.1.2 k.2, tt), λ ts k. sub_alone {v = v} w k.2)

sub_holds : (v : Bool) → Holds Reads from_item (sub_plan v) Nothing (λ ts k. perhaps v (mark m.Lateral) (mark m.Open ∷ ts))
sub_holds v q = (((tt, name_taken Reads _ _ _ (λ a. columns_hold v true q a)), (tt, name_taken Reads _ _ _ (λ a. columns_hold v false q a))), tt)

pub from_item_holds : Holds Reads from_item from_item_plan Nothing here
from_item_holds = ((sub_holds true, tt), (sub_holds false, qualified_holds from_item Nothing here table_plan table_holds))

pub from_items_hold : Holds Reads from_items from_items_plan Nothing here
from_items_hold x = (λ xs ts k. another_from k.1.2 k.2, λ ts k. last_from k.2)

pub names_hold : Holds Reads names names_plan Nothing here
names_hold = (tt, name_taken Reads _ _ _ (λ n. (λ ns ts k. another_name k.2, λ ts k. last_name)))

-- ---- the parts of a select

pub from_clause_holds : Holds Reads from_clause from_clause_plan Nothing here
from_clause_holds = (λ xs ts k. from k.2, λ ts k. no_from)

pub where_holds : Holds Reads where_clause where_plan Nothing here
where_holds = (λ x ts k. where_of k.2, λ ts k. no_where)

pub key_holds : Holds Reads key key_plan Nothing here
key_holds x = if_holds Reads _ _ (is_number x) _ _ (λ h. tt) (λ h. (λ ts k. descending h k.2, (λ ts k. ascending h k.2, λ ts k. key_alone h k.2)))

pub keys_hold : Holds Reads keys keys_plan Nothing here
keys_hold x = (λ xs ts k. another_key k.1.2 k.2, λ ts k. last_key k.2)

pub order_holds : Holds Reads order_clause order_plan Nothing here
order_holds = ((λ xs ts k. order_by k.2, tt), λ ts k. no_order)

pub limit_holds : Holds Reads limit_clause limit_plan Nothing here
limit_holds = (λ x ts k. limit_of k.2, λ ts k. no_limit)

pub select_holds : Holds Reads select select_plan Nothing here
select_holds = (λ xs fs w ks n ts k. select_of k.1.1.1.1.2 k.1.1.1.2 k.1.1.2 k.1.2 k.2, tt)

pub selects_hold : Holds Reads selects selects_plan Nothing here
selects_hold s = ((λ ss ts k. another_select k.1.2 k.2, tt), λ ts k. last_select k.2)

pub query_holds : Holds Reads query query_plan Nothing here
query_holds ss = if_holds Reads _ _ (may_join ss) _ _ (λ h ts k. query_of h k.2) (λ h. tt)

-- ---- WITH RECURSIVE

put_some : (s t : Select) (o : Option (List Select × Select)) → put_first s o t ≡ None → ⊥
put_some s t None e = cc e
put_some s t (Some p) e = cc e

-- Only a list of one select has no parts.
alone : (t : Select) (ss : List Select) → parted (t ∷ ss) ≡ None → ss ≡ []
alone t [] e = refl
alone t (u ∷ ss) e = absurd (put_some t u (parted (u ∷ ss)) e)

-- the parts of the selects: the first one, those after it and the last one
abbrev Parts : List Select → List Select × Select → Type 0
Parts ss p = (s : Select) × (more : List Select) × (ss ≡ s ∷ (more ++ p.1 ∷ [])) × (p.0 ≡ s ∷ more)

put_parts : (s t : Select) (ss : List Select) (o : Option (List Select × Select)) (p : List Select × Select) → parted (t ∷ ss) ≡ o → ((r : List Select × Select) → o ≡ Some r → Parts (t ∷ ss) r) → put_first s o t ≡ Some p → Parts (s ∷ t ∷ ss) p
put_parts s t ss None p is inner e =
    let none : ss ≡ [] = alone t ss is in
    let same : (s ∷ [], t) ≡ p = same_Some _ _ e in
    subst (Parts (s ∷ t ∷ ss)) same (s, [], ap (λ rest. s ∷ t ∷ rest) none, refl)
put_parts s t ss (Some r) p is inner e =
    let parts : Parts (t ∷ ss) r = inner r refl in
    let same : (s ∷ r.0, r.1) ≡ p = same_Some _ _ e in
    let all : t ∷ ss ≡ r.0 ++ r.1 ∷ [] = subst (λ front. t ∷ ss ≡ front ++ r.1 ∷ []) (sym parts.3) parts.2 in
    subst (Parts (s ∷ t ∷ ss)) same (s, r.0, ap (λ rest. s ∷ rest) all, refl)

parted_is : (ss : List Select) (p : List Select × Select) → parted ss ≡ Some p → Parts ss p
parted_is [] p e = absurd (cc e)
parted_is (s ∷ []) p e = absurd (cc e)
parted_is (s ∷ t ∷ ss) p e = put_parts s t ss (parted (t ∷ ss)) p refl (parted_is (t ∷ ss)) e

recursive_read : (n : List ℕ) (ns : List (List ℕ)) (ss : List Select) (p : List Select × Select) {ts after rest : List Terminal} → parted ss ≡ Some p
    → Reads names ts ns (mark m.Close ∷ mark m.As ∷ mark m.Open ∷ after) → Reads selects after ss (mark m.Close ∷ rest)
    → Reads recursive (mark m.With ∷ mark m.Recursive ∷ name n ∷ mark m.Open ∷ ts) (recursive_with n ns p) rest
recursive_read n ns ss p {ts = ts} {after = after} {rest = rest} is a b =
    let parts : Parts ss p = parted_is ss p is in
    let all : Reads selects after (parts.0 ∷ (parts.1 ++ p.1 ∷ [])) (mark m.Close ∷ rest) = subst (λ ss. Reads selects after ss (mark m.Close ∷ rest)) parts.2 b in
    subst (λ front. Reads recursive (mark m.With ∷ mark m.Recursive ∷ name n ∷ mark m.Open ∷ ts) (recursive_with n ns (front, p.1)) rest) (sym parts.3) (recursive_of parts.1 p.1 a all)

pub recursive_holds : Holds Reads recursive recursive_plan Nothing here
recursive_holds = (
  (
    (
      tt,
      name_taken Reads _ _ _ (λ n. (
        λ ns. (((λ ss. (with_holds Reads _ _ (parted ss) _ (λ p is ts k. recursive_read n ns ss p is k.1.2 k.2), tt), tt), tt), tt),
        tt,
      )),
    ),
    tt,
  ),
  tt,
)

-- ---- files and schemas

pub file_holds : Holds Reads file file_plan Nothing here
file_holds = (
  λ r ss. if_holds Reads _ _ (may_join ss) _ _ (λ h. (λ ts k. with_file true h k.1.2 k.2, λ ts k. with_file false h k.1.2 k.2)) (λ h. tt),
  λ q. (λ ts k. plain_file true k.2, λ ts k. plain_file false k.2),
)

pub column_holds : Holds Reads column column_plan Nothing here
column_holds = (tt, name_taken Reads _ _ _ (λ n. (tt, type_taken Reads _ _ _ (λ t ty is. ((λ ts k. column_of {v = true} t is, tt), λ ts k. column_of {v = false} t is)))))

pub columns_of_table_hold : Holds Reads columns table_columns_plan Nothing here
columns_of_table_hold c = (λ cs ts k. another_column k.1.2 k.2, λ ts k. last_column k.2)

pub tables_hold : Holds Reads tables tables_plan Nothing here
tables_hold = (
  (
    qualified_holds tables (λ ts. Nothing (mark m.Create ∷ mark m.Table ∷ ts)) (λ ts k. mark m.Create ∷ mark m.Table ∷ ts) _ (λ q n. (λ cs. ((λ more ts k. table q k.1.2 k.2, tt), tt), tt)),
    tt,
  ),
  λ ts k. no_table,
)
