-- Items, what stands behind FROM, and keys: what the grammar reads, the plans give, step by step.
use Rattle.std.proofs.Common.{◌≡◌, ℕ, Bool, true, false, List, [], ◌∷◌, Option, Some, None, refl, lit≤, lit<}
use Rattle.std.specs.Prelude.{if◌then◌else◌, bytes_eq, codes}
use Rattle.away_grammar.specs.declared.grammar.Mark.{Mark}
use Rattle.away_grammar.specs.declared.grammar.Mark.TheVariants as m
use Rattle.away_grammar.specs.declared.grammar.Level.TheVariants as l
use Rattle.away_trees.specs.declared.queries.Expr.{Expr}
use Rattle.away_trees.specs.declared.queries.Source.TheVariants as source
use Rattle.away_trees.specs.declared.queries.Item.{Item}
use Rattle.away_trees.specs.declared.queries.FromItem.{FromItem}
use Rattle.away_trees.specs.declared.queries.Key.{Key}
use Rattle.away_trees.specs.declared.queries.Query.{Query}
use Rattle.away_grammar.specs.Terminals.{Terminal, mark, name}
use Rattle.away_grammar.specs.Grammar.{Sort, at, item, items, from_item, from_items, key, keys, names, query, Tree, perhaps, schema_qualified, is_number}
use Rattle.sql_text.specs.Plans.{Plan, eat, Begins, Runs, ends, eats, leaves, reads}
use Rattle.sql_text.specs.TerminalKinds.{name_in}
use Rattle.sql_text.specs.Descent.{plan, a_name, item_with, from_with, key_with, table_plan, sub_plan, columns_plan, schema_qualified_name}
use Rattle.sql_text.proofs.CompleteStops.{looser, no_mark, no_name}
use Rattle.sql_text.proofs.CompleteSteps.{Given, wants, finds, overlooks, rejected, other_mark, other_terminal}

-- ---- items

pub given_item_alone : {ts rest : List Terminal} {x : Expr} → Given (at l.Or) ts x rest → Given item ts (item_with x None) rest
given_item_alone {rest = rest} c stops = reads (c (looser 15 21 rest (lit≤ tt) stops)) (leaves (no_mark 15 rest m.As (lit≤ tt) stops) ends)

pub given_item_as : {ts rest : List Terminal} {x : Expr} {n : List ℕ} → Given (at l.Or) ts x (mark m.As ∷ name n ∷ rest) → Given item ts (item_with x (Some n)) rest
given_item_as c stops = reads (c (lit< tt)) (eats (wants name_in _ refl ends))

pub given_last_item : {ts rest : List Terminal} {x : Item} → Given item ts x rest → Given items ts (x ∷ []) rest
given_last_item {rest = rest} c stops = reads (c (looser 10 15 rest (lit≤ tt) stops)) (leaves (no_mark 10 rest m.Comma (lit≤ tt) stops) ends)

pub given_another_item : {ts middle rest : List Terminal} {x : Item} {xs : List Item} → Given item ts x (mark m.Comma ∷ middle) → Given items middle xs rest → Given items ts (x ∷ xs) rest
given_another_item c d stops = reads (c (lit< tt)) (eats (reads (d stops) ends))

-- ---- names, perhaps behind `public.`

either_name : {n : Sort} (b : Bool) (f : List ℕ → Plan Tree n) (a : List ℕ) {after : List Terminal} {o : Option (Tree n × List Terminal)} → ¬ (Begins after m.Dot) → Runs Tree plan n (f a) after o
    → Runs Tree plan n (if b then eat m.Dot (a_name f) (f a) else f a) after o
either_name true f a h d = leaves h d
either_name false f a h d = d

pub qualified_run : {n : Sort} (q : Bool) (f : List ℕ → Plan Tree n) (a : List ℕ) {after : List Terminal} {o : Option (Tree n × List Terminal)} → ¬ (Begins after m.Dot) → Runs Tree plan n (f a) after o
    → Runs Tree plan n (schema_qualified_name f) (schema_qualified q (name a ∷ after)) o
qualified_run true f a h d = wants name_in _ refl (eats (wants name_in f refl d))
qualified_run false f a h d = wants name_in _ refl (either_name (bytes_eq a (codes "public")) f a h d)

not_schema_qualified : {other : Mark} (n : List ℕ) (after : List Terminal) (q : Bool) → ¬ (Begins (schema_qualified q (name n ∷ after)) other)
not_schema_qualified n after true b = other_terminal b
not_schema_qualified n after false b = other_terminal b

pub given_last_name : {rest : List Terminal} {n : List ℕ} → Given names (name n ∷ rest) (n ∷ []) rest
given_last_name {rest = rest} stops = wants name_in _ refl (leaves (no_mark 10 rest m.Comma (lit≤ tt) stops) ends)

pub given_another_name : {middle rest : List Terminal} {n : List ℕ} {ns : List (List ℕ)} → Given names middle ns rest → Given names (name n ∷ mark m.Comma ∷ middle) (n ∷ ns) rest
given_another_name c stops = wants name_in _ refl (eats (reads (c stops) ends))

-- ---- FROM

pub given_table_alone : {rest : List Terminal} {n : List ℕ} (q : Bool) → Given from_item (schema_qualified q (name n ∷ rest)) (from_with (source.Table n) n []) rest
given_table_alone {rest = rest} {n = n} q stops =
    leaves (not_schema_qualified _ _ q) (leaves (not_schema_qualified _ _ q) (qualified_run q table_plan n (no_mark 15 rest m.Dot (lit≤ tt) stops)
    (leaves (no_mark 15 rest m.As (lit≤ tt) stops) (overlooks name_in _ (no_name 15 rest (lit≤ tt) stops) ends))))

no_dot : (a : List ℕ) (rest : List Terminal) (w : Bool) → ¬ (Begins (perhaps w (mark m.As) (name a ∷ rest)) m.Dot)
no_dot a rest true b = other_mark (λ same. absurd (cc same)) b
no_dot a rest false b = other_terminal b

table_alias : {n a : List ℕ} {rest : List Terminal} (w : Bool) → Runs Tree plan from_item (table_plan n) (perhaps w (mark m.As) (name a ∷ rest)) (Some (from_with (source.Table n) a [], rest))
table_alias true = eats (wants name_in _ refl ends)
table_alias false = leaves other_terminal (finds name_in _ refl ends)

pub given_table_as : {rest : List Terminal} {n a : List ℕ} (q w : Bool) → Given from_item (schema_qualified q (name n ∷ perhaps w (mark m.As) (name a ∷ rest))) (from_with (source.Table n) a []) rest
given_table_as {n = n} q w stops = leaves (not_schema_qualified _ _ q) (leaves (not_schema_qualified _ _ q) (qualified_run q table_plan n (no_dot _ _ w) (table_alias w)))

-- LATERAL, where it is written
sub_run : {ts : List Terminal} {o : Option (FromItem × List Terminal)} (v : Bool) → Runs Tree plan from_item (sub_plan v) ts o
    → Runs Tree plan from_item (plan from_item) (perhaps v (mark m.Lateral) (mark m.Open ∷ ts)) o
sub_run true d = eats (eats d)
sub_run false d = leaves (other_mark (λ same. absurd (cc same))) (eats d)

-- AS, where it is written, and the alias
alias_run : {n : Sort} (w : Bool) (f : List ℕ → Plan Tree n) (a : List ℕ) {after : List Terminal} {o : Option (Tree n × List Terminal)} → Runs Tree plan n (f a) after o
    → Runs Tree plan n (eat m.As (a_name f) (a_name f)) (perhaps w (mark m.As) (name a ∷ after)) o
alias_run true f a d = eats (wants name_in f refl d)
alias_run false f a d = leaves other_terminal (wants name_in f refl d)

pub given_sub_alone : {ts rest : List Terminal} {q : Query} {a : List ℕ} (v w : Bool) → Given query ts q (mark m.Close ∷ perhaps w (mark m.As) (name a ∷ rest))
    → Given from_item (perhaps v (mark m.Lateral) (mark m.Open ∷ ts)) (from_with (source.Sub q v) a []) rest
given_sub_alone {rest = rest} {q = q} {a = a} v w c stops =
    sub_run v (reads (c (lit< tt)) (eats (alias_run w (columns_plan (source.Sub q v)) a (leaves (no_mark 15 rest m.Open (lit≤ tt) stops) ends))))

pub given_sub_columns : {ts after rest : List Terminal} {q : Query} {a : List ℕ} {ns : List (List ℕ)} (v w : Bool)
    → Given query ts q (mark m.Close ∷ perhaps w (mark m.As) (name a ∷ mark m.Open ∷ after)) → Given names after ns (mark m.Close ∷ rest)
    → Given from_item (perhaps v (mark m.Lateral) (mark m.Open ∷ ts)) (from_with (source.Sub q v) a ns) rest
given_sub_columns {q = q} {a = a} v w c d stops = sub_run v (reads (c (lit< tt)) (eats (alias_run w (columns_plan (source.Sub q v)) a (eats (reads (d (lit< tt)) (eats ends))))))

pub given_last_from : {ts rest : List Terminal} {x : FromItem} → Given from_item ts x rest → Given from_items ts (x ∷ []) rest
given_last_from {rest = rest} c stops = reads (c (looser 10 15 rest (lit≤ tt) stops)) (leaves (no_mark 10 rest m.Comma (lit≤ tt) stops) ends)

pub given_another_from : {ts middle rest : List Terminal} {x : FromItem} {xs : List FromItem} → Given from_item ts x (mark m.Comma ∷ middle) → Given from_items middle xs rest → Given from_items ts (x ∷ xs) rest
given_another_from c d stops = reads (c (lit< tt)) (eats (reads (d stops) ends))

-- ---- keys

pub given_key_alone : {ts rest : List Terminal} {x : Expr} → is_number x ≡ false → Given (at l.Or) ts x rest → Given key ts (key_with x false) rest
given_key_alone {rest = rest} h c stops =
    reads (c (looser 15 21 rest (lit≤ tt) stops)) (rejected _ h (leaves (no_mark 15 rest m.Desc (lit≤ tt) stops) (leaves (no_mark 15 rest m.Asc (lit≤ tt) stops) ends)))

pub given_ascending : {ts rest : List Terminal} {x : Expr} → is_number x ≡ false → Given (at l.Or) ts x (mark m.Asc ∷ rest) → Given key ts (key_with x false) rest
given_ascending h c stops = reads (c (lit< tt)) (rejected _ h (leaves (other_mark (λ same. absurd (cc same))) (eats ends)))

pub given_descending : {ts rest : List Terminal} {x : Expr} → is_number x ≡ false → Given (at l.Or) ts x (mark m.Desc ∷ rest) → Given key ts (key_with x true) rest
given_descending h c stops = reads (c (lit< tt)) (rejected _ h (eats ends))

pub given_last_key : {ts rest : List Terminal} {x : Key} → Given key ts x rest → Given keys ts (x ∷ []) rest
given_last_key {rest = rest} c stops = reads (c (looser 10 15 rest (lit≤ tt) stops)) (leaves (no_mark 10 rest m.Comma (lit≤ tt) stops) ends)

pub given_another_key : {ts middle rest : List Terminal} {x : Key} {xs : List Key} → Given key ts x (mark m.Comma ∷ middle) → Given keys middle xs rest → Given keys ts (x ∷ xs) rest
given_another_key c d stops = reads (c (lit< tt)) (eats (reads (d stops) ends))
