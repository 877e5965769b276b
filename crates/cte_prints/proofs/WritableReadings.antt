-- The names of what is read from writable terminals can be written.
use Rattle.std.proofs.Common.{◌≡◌, refl, subst, Bool, true, false, List, [], ◌∷◌, Some, None}
use Rattle.away_grammar.specs.declared.grammar.Mark.{Mark}
use Rattle.away_grammar.specs.declared.grammar.Mark.TheVariants as m
use Rattle.away_grammar.specs.declared.grammar.Level.{Level}
use Rattle.away_grammar.specs.declared.grammar.Level.TheVariants as l
use Rattle.away_values.specs.declared.operators.ChainOp.{ChainOp}
use Rattle.away_values.specs.declared.operators.ChainOp.TheVariants as chain
use Rattle.away_values.specs.declared.operators.IntOp.TheVariants as int
use Rattle.elaboration.specs.Marks.{plain_op}
use Rattle.away_trees.specs.declared.queries.Expr.{Expr}
use Rattle.away_trees.specs.declared.queries.Expr.TheVariants as expr
use Rattle.away_grammar.specs.Terminals.{Terminal, mark}
use Rattle.away_grammar.specs.Grammar.{Sort, Tree, Reads, chained, literal_of, operator_of, perhaps, schema_qualified, not_null}
use Rattle.away_grammar.specs.Grammar as g
use Rattle.sql_printer.specs.Writable.{Writable, AllWritable}
use Rattle.cte_prints.specs.Like as k
use Rattle.cte_prints.specs.WritableNames.{NamesAreWritable}
use Rattle.cte_prints.specs.WritableNames as s

-- Nothing is asked of lists of names, of WITH and of schemas.
abbrev pub Names : (n : Sort) → Tree n → Type 0
Names (g.at level) t = NamesAreWritable k.value t
Names (g.links level) t = NamesAreWritable k.links t
Names g.list t = NamesAreWritable k.values t
Names g.arms t = NamesAreWritable k.arms t
Names g.item t = NamesAreWritable k.item t
Names g.items t = NamesAreWritable k.items t
Names g.from_item t = NamesAreWritable k.from_item t
Names g.from_items t = NamesAreWritable k.from_items t
Names g.from_clause t = NamesAreWritable k.from_items t
Names g.where_clause t = NamesAreWritable k.maybe t
Names g.key t = NamesAreWritable k.key t
Names g.keys t = NamesAreWritable k.keys t
Names g.order_clause t = NamesAreWritable k.keys t
Names g.limit_clause t = NamesAreWritable k.maybe t
Names g.select t = NamesAreWritable k.select t
Names g.selects t = NamesAreWritable k.selects t
Names g.query t = NamesAreWritable k.query t
Names _ t = Unit {0}

-- the tree's names, and the terminals behind it
pub record HasWritable (n : Sort) (t : Tree n) (after : List Terminal) : Type 0 where
  pub names : Names n t
  pub rest : AllWritable after

chain_derivable : (first : Expr) (more : List (ChainOp × Expr)) → NamesAreWritable k.value first → NamesAreWritable k.links more
    → NamesAreWritable k.value (chained first more)
chain_derivable first [] h r = h
chain_derivable first (x ∷ xs) h r = s.chain h r

-- an operator that is read has no mark
plain_some : (x o : ChainOp) → plain_op x ≡ x → Some x ≡ Some o → plain_op o ≡ o
plain_some x o p e = let same : x ≡ o = cc in subst (λ o. plain_op o ≡ o) same p

plain_none : (o : ChainOp) → None ≡ Some o → plain_op o ≡ o
plain_none o e = absurd cc

plain_operator : (level : Level) (terminal : Mark) (o : ChainOp) → operator_of level terminal ≡ Some o → plain_op o ≡ o
unfolding plain_op
plain_operator l.Or m.Or o e = plain_some chain.Or o refl e
plain_operator l.And m.And o e = plain_some chain.And o refl e
plain_operator l.Concat m.Bars o e = plain_some chain.Concat o refl e
plain_operator l.Sum m.Plus o e = plain_some (chain.Int int.Add) o refl e
plain_operator l.Sum m.Minus o e = plain_some (chain.Int int.Sub) o refl e
plain_operator l.Product m.Star o e = plain_some (chain.Int int.Mul) o refl e
plain_operator l.Product m.Slash o e = plain_some (chain.Int int.Div) o refl e
plain_operator l.Product m.Percent o e = plain_some (chain.Int int.Rem) o refl e
plain_operator _ _ o e = plain_none o e

some_is : (x y : Expr) → Some x ≡ Some y → x ≡ y
some_is x y e = cc

none_is : (x : Expr) → None ≡ Some x → ⊥
none_is x e = cc

literal_derivable : (terminal : Mark) (x : Expr) → literal_of terminal ≡ Some x → NamesAreWritable k.value x
literal_derivable m.True x e = subst (NamesAreWritable k.value) (some_is (expr.Bool true) x e) (s.bool true)
literal_derivable m.False x e = subst (NamesAreWritable k.value) (some_is (expr.Bool false) x e) (s.bool false)
literal_derivable m.Null x e = subst (NamesAreWritable k.value) (some_is expr.Null x e) s.null
literal_derivable _ x e = absurd (none_is x e)

behind : (v : Bool) (terminal : Mark) (ts : List Terminal) → AllWritable (perhaps v (mark terminal) ts) → AllWritable ts
behind true terminal ts h = h.1
behind false terminal ts h = h

-- the next terminal behind one that may be there, and the rest
next : (v : Bool) (terminal : Mark) (one : Terminal) (ts : List Terminal) → AllWritable (perhaps v (mark terminal) (one ∷ ts)) → Writable one × AllWritable ts
next v terminal one ts h = behind v terminal (one ∷ ts) h

two_next : (v : Bool) (terminal : Mark) (one two : Terminal) (ts : List Terminal) → AllWritable (perhaps v (mark terminal) (one ∷ two ∷ ts)) → Writable one × AllWritable ts
two_next v terminal one two ts h = let r : AllWritable (one ∷ two ∷ ts) = behind v terminal (one ∷ two ∷ ts) h in (r.0, r.1.1)

without_schema : (v : Bool) (one : Terminal) (ts : List Terminal) → AllWritable (schema_qualified v (one ∷ ts)) → Writable one × AllWritable ts
without_schema true one ts h = h.1.1
without_schema false one ts h = h

unnull : (v : Bool) (ts : List Terminal) → AllWritable (not_null v ts) → AllWritable ts
unnull true ts h = h.1.1
unnull false ts h = h

made : {n : Sort} {t : Tree n} {rest : List Terminal} → Names n t → AllWritable rest → HasWritable n t rest
made h r = record { names = h; rest = r }

pub names_writable : {n : Sort} {ts : List Terminal} {t : Tree n} {rest : List Terminal} → Reads n ts t rest → AllWritable ts → HasWritable n t rest
names_writable (g.chain a b c) h = let x = names_writable b h in let y = names_writable c x.rest in made (chain_derivable _ _ x.names y.names) y.rest
names_writable g.no_link h = made s.no_link h
names_writable (g.link a b c e) h = let x = names_writable c h.1 in let y = names_writable e x.rest in made (s.one_link _ (plain_operator _ _ _ b) x.names y.names) y.rest
names_writable (g.affirmed a) h = let x = names_writable a h in made x.names x.rest
names_writable (g.negated a) h = let x = names_writable a h.1 in made (s.not x.names) x.rest
names_writable (g.untested a) h = let x = names_writable a h in made x.names x.rest
names_writable (g.tested a b c) h = let x = names_writable c h in made (s.is _ _ x.names) (next _ _ _ _ x.rest.1).1
names_writable (g.uncompared a) h = let x = names_writable a h in made x.names x.rest
names_writable (g.compared a b c e) h = let x = names_writable c h in let y = names_writable e x.rest.1 in made (s.compare _ x.names y.names) y.rest
names_writable (g.unranged a) h = let x = names_writable a h in made x.names x.rest
names_writable (g.between a b c) h =
    let x = names_writable a h in let y = names_writable b (next _ _ _ _ x.rest).1 in let z = names_writable c y.rest.1 in made
    (s.between _ x.names y.names z.names) z.rest
names_writable (g.one_of a b) h = let x = names_writable a h in let y = names_writable b (two_next _ _ _ _ _ x.rest).1 in made (s.one_of _ x.names y.names) y.rest.1
names_writable (g.unsigned a) h = let x = names_writable a h in made x.names x.rest
names_writable (g.signed a) h = let x = names_writable a h.1 in made (s.neg x.names) x.rest
names_writable g.least h = made (s.int _) h.1.1
names_writable (g.uncast a) h = let x = names_writable a h in made x.names x.rest
names_writable (g.cast_once a b c) h = let x = names_writable c h in made (s.cast _ x.names) x.rest.1.1
names_writable (g.cast_twice a b c e f) h = let x = names_writable f h in made (s.cast _ (s.cast _ x.names)) x.rest.1.1.1.1
names_writable (g.number a) h = made (s.int _) h.1
names_writable g.text h = made (s.str _) h.1
names_writable (g.literal a b) h = made (literal_derivable a _ b) h.1
names_writable g.named h = made (s.named _ h.0) h.1
names_writable g.qualified h = made (s.qualified _ _ h.0 h.1.1.0) h.1.1.1
names_writable (g.typed_parameter a b) h = made (s.param _ _) h.1.1.1.1.1.1
names_writable (g.short_parameter a b) h = made (s.param _ _) h.1.1.1
names_writable (g.parentheses a) h = let x = names_writable a h.1 in made x.names x.rest.1
names_writable (g.scalar a) h = let x = names_writable a h.1 in made (s.scalar x.names) x.rest.1
names_writable (g.cast a b c) h = let x = names_writable c h.1.1 in made (s.cast _ x.names) x.rest.1.1.1
names_writable (g.exists a) h = let x = names_writable a h.1.1 in made (s.exists x.names) x.rest.1
names_writable (g.cases a) h = let x = names_writable a h.1 in made (s.cases x.names s.nothing) x.rest.1
names_writable (g.cases_else a b) h = let x = names_writable a h.1 in let y = names_writable b x.rest.1 in made (s.cases x.names (s.something y.names)) y.rest.1
names_writable (g.call_word a b c) h = let x = names_writable c h.1.1 in made (s.call _ x.names) x.rest.1
names_writable g.count_rows h = made s.count_rows h.1.1.1.1
names_writable g.call_empty h = made (s.call _ s.no_value) h.1.1.1
names_writable (g.call a) h = let x = names_writable a h.1.1 in made (s.call _ x.names) x.rest.1
names_writable (g.last a) h = let x = names_writable a h in made (s.one_value x.names s.no_value) x.rest
names_writable (g.another a b) h = let x = names_writable a h in let y = names_writable b x.rest.1 in made (s.one_value x.names y.names) y.rest
names_writable g.no_arm h = made s.no_arm h
names_writable (g.arm a b c) h =
    let x = names_writable a h.1 in let y = names_writable b x.rest.1 in let z = names_writable c y.rest in made (s.one_arm x.names y.names z.names) z.rest
names_writable (g.item_alone a) h = let x = names_writable a h in made (s.an_item None tt x.names) x.rest
names_writable (g.item_as a) h = let x = names_writable a h in made (s.an_item (Some _) x.rest.1.0 x.names) x.rest.1.1
names_writable (g.last_item a) h = let x = names_writable a h in made (s.one_item x.names s.no_item) x.rest
names_writable (g.another_item a b) h = let x = names_writable a h in let y = names_writable b x.rest.1 in made (s.one_item x.names y.names) y.rest
names_writable (g.table_alone a) h = let r = without_schema a _ _ h in made (s.table _ _ r.0 r.0) r.1
names_writable (g.table_as a b) h = let r = without_schema a _ _ h in let z = next b _ _ _ r.1 in made (s.table _ _ r.0 z.0) z.1
names_writable (g.sub_alone a b) h =
    let x = names_writable b (next _ _ _ _ h).1 in let z = next a _ _ _ x.rest.1 in made (s.subquery _ [] _ z.0 x.names) z.1
names_writable (g.sub_columns a b c) h =
    let x = names_writable b (next _ _ _ _ h).1 in let z = two_next a _ _ _ _ x.rest.1 in let y = names_writable c z.1 in made (s.subquery _ _ _ z.0 x.names) y.rest.1
names_writable (g.last_from a) h = let x = names_writable a h in made (s.one_from x.names s.no_from) x.rest
names_writable (g.another_from a b) h = let x = names_writable a h in let y = names_writable b x.rest.1 in made (s.one_from x.names y.names) y.rest
names_writable g.last_name h = made tt h.1
names_writable (g.another_name a) h = let x = names_writable a h.1.1 in made tt x.rest
names_writable (g.key_alone a b) h = let x = names_writable b h in made (s.a_key false x.names) x.rest
names_writable (g.ascending a b) h = let x = names_writable b h in made (s.a_key false x.names) x.rest.1
names_writable (g.descending a b) h = let x = names_writable b h in made (s.a_key true x.names) x.rest.1
names_writable (g.last_key a) h = let x = names_writable a h in made (s.one_key x.names s.no_key) x.rest
names_writable (g.another_key a b) h = let x = names_writable a h in let y = names_writable b x.rest.1 in made (s.one_key x.names y.names) y.rest
names_writable g.no_from h = made s.no_from h
names_writable (g.from a) h = let x = names_writable a h.1 in made x.names x.rest
names_writable g.no_where h = made s.nothing h
names_writable (g.where_of a) h = let x = names_writable a h.1 in made (s.something x.names) x.rest
names_writable g.no_order h = made s.no_key h
names_writable (g.order_by a) h = let x = names_writable a h.1.1 in made x.names x.rest
names_writable g.no_limit h = made s.nothing h
names_writable (g.limit_of a) h = let x = names_writable a h.1 in made (s.something x.names) x.rest
names_writable (g.select_of a b c e f) h =
    let x = names_writable a h.1 in
    let y = names_writable b x.rest in
    let z = names_writable c y.rest in
    let v = names_writable e z.rest in
    let w = names_writable f v.rest in
    made (s.whole x.names y.names z.names v.names w.names) w.rest
names_writable (g.last_select a) h = let x = names_writable a h in made (s.one_select x.names s.no_select) x.rest
names_writable (g.another_select a b) h = let x = names_writable a h in let y = names_writable b x.rest.1.1 in made (s.one_select x.names y.names) y.rest
names_writable (g.query_of a b) h = let x = names_writable b h in made (s.union x.names) x.rest
names_writable (g.recursive_of ss second a b) h = let x = names_writable a h.1.1.1.1 in let y = names_writable b x.rest.1.1.1 in made tt y.rest.1
names_writable (g.plain_file w a) h = let x = names_writable a h in made tt (behind w _ _ x.rest)
names_writable (g.with_file w a b c) h = let x = names_writable b h in let y = names_writable c x.rest in made tt (behind w _ _ y.rest)
names_writable (g.column_of t a) h = made tt (unnull _ _ h.1.1)
names_writable (g.last_column a) h = let x = names_writable a h in made tt x.rest
names_writable (g.another_column a b) h = let x = names_writable a h in let y = names_writable b x.rest.1 in made tt y.rest
names_writable g.no_table h = made tt h
names_writable (g.table q a b) h = let x = names_writable a (without_schema q _ _ h.1.1).1.1 in let y = names_writable b x.rest.1.1 in made tt y.rest
