-- How trees are derived by their parts.
use Rattle.std.proofs.Common.{◌≡◌, refl, ℕ, suc, ◌<◌, ◌≤◌, ◌^◌, pos, Bool, true, false, List, [], ◌∷◌, Option, Some, None, arith, encode_utf8_all}
use Rattle.std.specs.Str.{all_scalars}
use Rattle.away_values.specs.Words.{IsWord}
use Rattle.away_values.specs.declared.types.Ty.{Ty}
use Rattle.away_values.specs.declared.types.Ty.TheVariants as ty
use Rattle.away_values.specs.declared.operators.CmpOp.TheVariants as cmp
use Rattle.away_values.specs.declared.operators.IsTest.TheVariants as test
use Rattle.away_grammar.specs.declared.grammar.Mark.TheVariants as m
use Rattle.away_grammar.specs.declared.grammar.Level.TheVariants as l
use Rattle.away_grammar.specs.Grammar.{at, item, items, from_item, from_items, from_clause, where_clause, select, selects, query, names, recursive, file}
use Rattle.away_grammar.specs.Grammar.{may_join, type_named}
use Rattle.away_grammar.specs.Printing.{type_name}
use Rattle.away_grammar.specs.Reserved.{is_reserved}
use Rattle.away_grammar.specs.Terminals.{Terminal, mark, name, integer, string, parameter}
use Rattle.away_names.specs.Lookups.{Name}
use Rattle.away_trees.specs.declared.queries.Expr.{Expr}
use Rattle.away_trees.specs.declared.queries.Expr.TheVariants as expr
use Rattle.away_trees.specs.declared.queries.Source.TheVariants as source
use Rattle.away_trees.specs.declared.queries.FromItem.{FromItem}
use Rattle.away_trees.specs.declared.queries.Item.{Item}
use Rattle.away_trees.specs.declared.queries.Query.{Query}
use Rattle.away_trees.specs.declared.queries.Recursive.{Recursive}
use Rattle.away_trees.specs.declared.queries.Select.{Select}
use Rattle.away_trees.specs.declared.queries.Expr.TheViews.{roll-FromItem, roll-Item, roll-Query, roll-Recursive, roll-Select}
use Rattle.qualified_names.proofs.Gives.{Every}
use Rattle.cte_prints.specs.Derivable.{Derivable}
use Rattle.cte_prints.specs.DerivesIn.{DerivesIn}
use Rattle.cte_prints.specs.ReadsIn as s
use Rattle.cte_prints.proofs.OwnWritableNames.{NameIsWritable}

-- ---- levels

module _ {d : ℕ} {ts rest : List Terminal} {x : Expr} where
  ranged : DerivesIn d (at l.Primary) ts x rest → DerivesIn d (at l.Range) ts x rest
  ranged h = s.unranged (s.chain tt (s.chain tt (s.chain tt (s.unsigned (s.uncast h)) s.no_link) s.no_link) s.no_link)

  compared : DerivesIn d (at l.Primary) ts x rest → DerivesIn d (at l.Compare) ts x rest
  compared h = s.uncompared (ranged h)

  joined : DerivesIn d (at l.Not) ts x rest → DerivesIn d (at l.Or) ts x rest
  joined h = s.chain tt (s.chain tt h s.no_link) s.no_link

  anywhere : DerivesIn d (at l.Primary) ts x rest → DerivesIn d (at l.Or) ts x rest
  anywhere h = joined (s.affirmed (s.untested (compared h)))

module _ (d : ℕ) where
  -- ---- values

  pub stands_alone : (x : Expr) → Derivable d (at l.Primary) x → Derivable d (at l.Or) x
  stands_alone x h rest = let p = h rest in record { terminals = p.terminals; writable = p.writable; derives = anywhere p.derives }

  pub qualified_alone : (a n : Name) → NameIsWritable a → NameIsWritable n → Derivable d (at l.Primary) (expr.Dotted a n)
  qualified_alone a n h k rest = record { terminals = name a ∷ mark m.Dot ∷ name n ∷ rest; writable = λ r. (h, (tt, (k, r))); derives = s.qualified }

  pub qualified_derivable : (a n : Name) → NameIsWritable a → NameIsWritable n → Derivable d (at l.Or) (expr.Dotted a n)
  qualified_derivable a n h k = stands_alone (expr.Dotted a n) (qualified_alone a n h k)

  -- x IS NOT TRUE
  pub not_true_derivable : (x : Expr) → Derivable d (at l.Primary) x → Derivable d (at l.Or) (expr.Is x test.True true)
  not_true_derivable x h rest =
      let p = h (mark m.Is ∷ mark m.Not ∷ mark m.True ∷ rest) in
      record { terminals = p.terminals; writable = λ r. p.writable (tt, (tt, (tt, r))); derives = joined (s.affirmed (s.tested m.True refl (compared p.derives))) }

  pub negated_derivable : (x : Expr) → Derivable d (at l.Primary) x → Derivable d (at l.Or) (expr.Not x)
  negated_derivable x h rest =
      let p = h rest in
      record { terminals = mark m.Not ∷ p.terminals; writable = λ r. (tt, p.writable r); derives = joined (s.negated (s.untested (compared p.derives))) }

  pub equal_derivable : (x y : Expr) → Derivable d (at l.Primary) x → Derivable d (at l.Primary) y → Derivable d (at l.Or) (expr.Compare cmp.Eq x y)
  equal_derivable x y h k rest =
      let q = k rest in
      let p = h (mark m.Equal ∷ q.terminals) in
      record {
        terminals = p.terminals;
        writable = λ r. p.writable (tt, q.writable r);
        derives = joined
            (s.affirmed (s.untested (s.compared m.Equal refl (ranged p.derives) (ranged q.derives))));
      }

  -- ---- literals

  pub int_derivable : (n : ℕ) → n < 2 ^ 63 → Derivable d (at l.Or) (expr.Int (pos n))
  int_derivable n low rest = record { terminals = integer n ∷ rest; writable = λ r. (omega (arith, low), r); derives = anywhere (s.number low) }

  pub bool_derivable : (b : Bool) → Derivable d (at l.Or) (expr.Bool b)
  bool_derivable true rest = record { terminals = mark m.True ∷ rest; writable = λ r. (tt, r); derives = anywhere (s.literal m.True refl) }
  bool_derivable false rest = record { terminals = mark m.False ∷ rest; writable = λ r. (tt, r); derives = anywhere (s.literal m.False refl) }

  pub null_derivable : Derivable d (at l.Or) expr.Null
  null_derivable rest = record { terminals = mark m.Null ∷ rest; writable = λ r. (tt, r); derives = anywhere (s.literal m.Null refl) }

  pub text_derivable : (t : List ℕ) → all_scalars t ≡ true → IsWord (encode_utf8_all t) → Derivable d (at l.Or) (expr.Str t)
  text_derivable t h k rest = record { terminals = string t ∷ rest; writable = λ r. ((h, k), r); derives = anywhere s.text }

-- ---- casts

type_is : (t : Ty) → type_named (type_name t) ≡ Some t
unfolding type_named
type_is ty.Bigint = refl
type_is ty.Boolean = refl
type_is ty.Text = refl
type_is ty.Integer = refl

type_derivable : (t : Ty) → NameIsWritable (type_name t)
unfolding is_reserved
type_derivable ty.Bigint = (record { starts = refl; plain = refl; short = omega arith }, refl, refl)
type_derivable ty.Boolean = (record { starts = refl; plain = refl; short = omega arith }, refl, refl)
type_derivable ty.Text = (record { starts = refl; plain = refl; short = omega arith }, refl, refl)
type_derivable ty.Integer = (record { starts = refl; plain = refl; short = omega arith }, refl, refl)

pub cast_alone : (d : ℕ) (t : Ty) (x : Expr) → Derivable d (at l.Or) x → Derivable (suc d) (at l.Primary) (expr.Cast x t)
cast_alone d t x h rest =
    let p = h (mark m.As ∷ name (type_name t) ∷ mark m.Close ∷ rest) in
    record {
      terminals = mark m.Cast ∷ mark m.Open ∷ p.terminals;
      writable = λ r. (tt, (tt, p.writable (tt, (type_derivable t, (tt, r)))));
      derives = s.cast (type_name t)
          (type_is t) p.derives;
    }

pub cast_derivable : (d : ℕ) (t : Ty) (x : Expr) → Derivable d (at l.Or) x → Derivable (suc d) (at l.Or) (expr.Cast x t)
cast_derivable d t x h = stands_alone (suc d) (expr.Cast x t) (cast_alone d t x h)

pub param_derivable : (d i : ℕ) (t : Ty) → 1 ≤ i → i ≤ 64 → Derivable (suc d) (at l.Or) (expr.Param i t)
param_derivable d i t low high rest =
    record {
      terminals = mark m.Cast ∷ mark m.Open ∷ parameter i ∷ mark m.As ∷ name (type_name t) ∷ mark m.Close ∷ rest;
      writable = λ r. (tt, (tt, ((low, high), (tt, (type_derivable t, (tt, r))))));
      derives = anywhere (s.typed_parameter (type_name t) (type_is t));
    }

module _ (d : ℕ) where
  -- ---- lists

  pub item_derivable : (x : Expr) → Derivable d (at l.Or) x → Derivable d item (roll-Item (record { expr = x; alias = None }))
  item_derivable x h rest = let p = h rest in record { terminals = p.terminals; writable = p.writable; derives = s.item_alone p.derives }

  pub items_derivable : (x : Item) (xs : List Item) → Every (Derivable d item) (x ∷ xs) → Derivable d items (x ∷ xs)
  items_derivable x [] h rest = let p = h.0 rest in record { terminals = p.terminals; writable = p.writable; derives = s.last_item p.derives }
  items_derivable x (y ∷ xs) h rest =
      let q = items_derivable y xs h.1 rest in
      let p = h.0 (mark m.Comma ∷ q.terminals) in
      record { terminals = p.terminals; writable = λ r. p.writable (tt, q.writable r); derives = s.another_item p.derives q.derives }

  pub names_writable : (x : Name) (xs : List Name) → Every NameIsWritable (x ∷ xs) → Derivable d names (x ∷ xs)
  names_writable x [] h rest = record { terminals = name x ∷ rest; writable = λ r. (h.0, r); derives = s.last_name }
  names_writable x (y ∷ xs) h rest =
      let q = names_writable y xs h.1 rest in
      record { terminals = name x ∷ mark m.Comma ∷ q.terminals; writable = λ r. (h.0, (tt, q.writable r)); derives = s.another_name q.derives }

  from_items_derivable : (x : FromItem) (xs : List FromItem) → Every (Derivable d from_item) (x ∷ xs) → Derivable d from_items (x ∷ xs)
  from_items_derivable x [] h rest = let p = h.0 rest in record { terminals = p.terminals; writable = p.writable; derives = s.last_from p.derives }
  from_items_derivable x (y ∷ xs) h rest =
      let q = from_items_derivable y xs h.1 rest in
      let p = h.0 (mark m.Comma ∷ q.terminals) in
      record { terminals = p.terminals; writable = λ r. p.writable (tt, q.writable r); derives = s.another_from p.derives q.derives }

  from_derivable : (xs : List FromItem) → Every (Derivable d from_item) xs → Derivable d from_clause xs
  from_derivable [] h rest = record { terminals = rest; writable = λ r. r; derives = s.no_from }
  from_derivable (x ∷ xs) h rest = let p = from_items_derivable x xs h rest in record {
    terminals = mark m.From ∷ p.terminals;
    writable = λ r. (tt, p.writable r);
    derives = s.from p.derives;
  }

  abbrev pub MaybeWritable : Option Expr → Type 0
  MaybeWritable None = Unit {0}
  MaybeWritable (Some x) = Derivable d (at l.Or) x

  where_derivable : (o : Option Expr) → MaybeWritable o → Derivable d where_clause o
  where_derivable None h rest = record { terminals = rest; writable = λ r. r; derives = s.no_where }
  where_derivable (Some x) h rest = let p = h rest in record { terminals = mark m.Where ∷ p.terminals; writable = λ r. (tt, p.writable r); derives = s.where_of p.derives }

  -- ---- selects

  pub select_derivable : (x : Item) (xs : List Item) (fs : List FromItem) (o : Option Expr) → Every (Derivable d item) (x ∷ xs) → Every (Derivable d from_item) fs
      → MaybeWritable o
      → Derivable d select (roll-Select (record { list = x ∷ xs; from = fs; filter = o; order = []; limit = None }))
  select_derivable x xs fs o h f w rest =
      let c = where_derivable o w rest in
      let b = from_derivable fs f c.terminals in
      let a = items_derivable x xs h b.terminals in
      record {
        terminals = mark m.Select ∷ a.terminals;
        writable = λ r. (tt, a.writable (b.writable (c.writable r)));
        derives = s.select_of a.derives b.derives c.derives s.no_order s.no_limit;
      }

  pub selects_derivable : (x : Select) (xs : List Select) → Every (Derivable d select) (x ∷ xs) → Derivable d selects (x ∷ xs)
  selects_derivable x [] h rest = let p = h.0 rest in record { terminals = p.terminals; writable = p.writable; derives = s.last_select p.derives }
  selects_derivable x (y ∷ xs) h rest =
      let q = selects_derivable y xs h.1 rest in
      let p = h.0 (mark m.Union ∷ mark m.All ∷ q.terminals) in
      record { terminals = p.terminals; writable = λ r. p.writable (tt, (tt, q.writable r)); derives = s.another_select p.derives q.derives }

  pub query_derivable : (x : Select) (xs : List Select) → may_join (x ∷ xs) ≡ true → Every (Derivable d select) (x ∷ xs)
      → Derivable d query (roll-Query (record { recursive = None; selects = x ∷ xs }))
  query_derivable x xs may h rest = let p = selects_derivable x xs h rest in record { terminals = p.terminals; writable = p.writable; derives = s.query_of may p.derives }

  pub table_derivable : (n : Name) → NameIsWritable n → Derivable d from_item (roll-FromItem (record { source = source.Table n; alias = n; columns = [] }))
  table_derivable n h rest = record { terminals = name n ∷ rest; writable = λ r. (h, r); derives = s.table_alone false }

-- ---- subqueries, and the whole

pub lateral_derivable : (d : ℕ) (q : Query) (alias n : Name) (ns : List Name) → NameIsWritable alias → Every NameIsWritable (n ∷ ns) → Derivable d query q
    → Derivable (suc d) from_item (roll-FromItem (record { source = source.Sub q true; alias = alias; columns = n ∷ ns }))
lateral_derivable d q alias n ns k h c rest =
    let b = names_writable d n ns h (mark m.Close ∷ rest) in
    let a = c (mark m.Close ∷ mark m.As ∷ name alias ∷ mark m.Open ∷ b.terminals) in
    record {
      terminals = mark m.Lateral ∷ mark m.Open ∷ a.terminals;
      writable = λ r. (tt, (tt, a.writable (tt, (tt, (k, (tt, b.writable (tt, r)))))));
      derives = s.sub_columns true a.derives b.derives;
    }

pub recursive_derivable : (d : ℕ) (n c : Name) (cs : List Name) (first second : Select) → NameIsWritable n → Every NameIsWritable (c ∷ cs) → Derivable d select first
    → Derivable d select second
    → Derivable (suc d) recursive (roll-Recursive (record { name = n; columns = c ∷ cs; first = first ∷ []; second = second }))
recursive_derivable d n c cs first second k h f g rest =
    let b = selects_derivable d first (second ∷ []) (f, (g, tt)) (mark m.Close ∷ rest) in
    let a = names_writable d c cs h (mark m.Close ∷ mark m.As ∷ mark m.Open ∷ b.terminals) in
    record {
      terminals = mark m.With ∷ mark m.Recursive ∷ name n ∷ mark m.Open ∷ a.terminals;
      writable = λ r. (tt, (tt, (k, (tt, a.writable (tt, (tt, (tt, b.writable (tt, r))))))));
      derives = s.recursive_of [] second a.derives b.derives;
    }

pub file_derivable : (d : ℕ) (r : Recursive) (x : Select) → Derivable d recursive r → Derivable d select x
    → Derivable d file (roll-Query (record { recursive = Some r; selects = x ∷ [] }))
file_derivable d r x h k rest =
    let b = selects_derivable d x [] (k, tt) rest in
    let a = h b.terminals in
    record { terminals = a.terminals; writable = λ z. a.writable (b.writable z); derives = s.with_file false refl a.derives b.derives }
