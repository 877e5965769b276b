-- What in an expression or a query breaks a rule of names: it stands there, and in what is in sight
-- at its place it breaks the rule.
use Rattle.std.specs.Prelude.{
  ◌≡◌,
  ℕ,
  Bool,
  true,
  List,
  [],
  ◌∷◌,
  ◌++◌,
  map,
  Contains,
  Option,
  Some,
  None,
  ◌⊎◌,
}
use Rattle.away_values.specs.declared.types.Ty.{Ty}
use Rattle.away_values.specs.declared.operators.ChainOp.{ChainOp}
use Rattle.away_values.specs.declared.operators.CmpOp.{CmpOp}
use Rattle.away_values.specs.declared.operators.IsTest.{IsTest}
use Rattle.away_trees.specs.declared.queries.Expr.{Expr}
use Rattle.away_trees.specs.declared.queries.Expr.TheVariants as e
use Rattle.away_trees.specs.declared.queries.FromItem.{FromItem, out-FromItem}
use Rattle.away_trees.specs.declared.queries.Item.{Item, out-Item}
use Rattle.away_trees.specs.declared.queries.Key.{Key, out-Key}
use Rattle.away_trees.specs.declared.queries.Query.{Query, out-Query}
use Rattle.away_trees.specs.declared.queries.Select.{Select, out-Select}
use Rattle.away_trees.specs.declared.queries.Source.{Source}
use Rattle.away_trees.specs.declared.queries.Source.TheVariants as source
use Rattle.away_names.specs.declared.rule.Rule.{Rule}
use Rattle.away_names.specs.declared.rule.Rule.TheVariants as rule
use Rattle.away_names.specs.declared.scope.Seen.{Seen}
use Rattle.away_names.specs.Lookups.{Name, Level, Scope, inside}
use Rattle.away_names.specs.Naming.{named, qualified, called, before, is_alias}
use Rattle.away_names.specs.NamingLists.{named_from}
use Rattle.away_names.specs.Trees.{named_part, alone_of}
use Rattle.broken_names.specs.declared.culprit.Culprit.{Culprit}
use Rattle.broken_names.specs.declared.culprit.Culprit.TheVariants as culprit

-- what a culprit is sought in
pub data Part : Type 0 where
  of_expr : Expr → Part
  of_maybe : Option Expr → Part
  of_query : Query → Part
  -- a select, and what stands over its FROM, which is in sight there
  of_select : Select → Part
  of_body : Select → Part
  -- a key behind a list with these aliases
  of_key : List (Option Name) → Key → Part
  -- items of FROM, and what one takes its rows from, behind the items that are in sight
  of_from : Level → List FromItem → Part
  of_source : Level → Source → Part

-- the aliases of a list, where an item without one has its place too
abbrev pub aliases : List Item → List (Option Name)
aliases list = map (λ i. (out-Item i).alias) list

-- an item of FROM as names see it, where these items stand before it
abbrev pub seen_of : Scope → Level → FromItem → Seen
seen_of s level f = (named_part f s level).it.seen

-- In what is in sight, the part has the culprit. Nothing is sought in what no reader writes: slots,
-- columns by their places, and a recursive table within a query.
pub data Holds (broken : Rule) : Scope → Part → Culprit → Type 0 where
  -- ---- what breaks the rule

  a_name : {s : Scope} {n : Name} → (named n s).note.least ≡ Some broken
      → Holds broken s (of_expr (e.Named n)) (culprit.Name n)
  a_column : {s : Scope} {a n : Name} → (qualified a n s).note.least ≡ Some broken
      → Holds broken s (of_expr (e.Dotted a n)) (culprit.Column a n)
  a_function : {s : Scope} {n : Name} (xs : List Expr) → (called s n).least ≡ Some broken
      → Holds broken s (of_expr (e.Call n xs)) (culprit.Function n)
  -- a parameter of a query, which no function has
  a_parameter : {s : Scope} {i : ℕ} (t : Ty) → broken ≡ rule.Names → s.in_function ≡ true
      → Holds broken s (of_expr (e.Param i t)) (culprit.Parameter i)
  -- a key that is a name alone, which is an alias of the list too
  a_key : {s : Scope} {given : List (Option Name)} {k : Key} {n : Name} → broken ≡ rule.Ambiguity
      → alone_of (out-Key k).expr ≡ Some n → is_alias given (Some n) ≡ true
      → Holds broken s (of_key given k) (culprit.Name n)
  a_table : {s : Scope} {level : Level} {n : Name} → broken ≡ rule.Tables → s.table n ≡ None
      → Holds broken s (of_source level (source.Table n)) (culprit.Table n)
  -- ---- in an expression

  in_neg : {s : Scope} {x : Expr} {c : Culprit} → Holds broken s (of_expr x) c
      → Holds broken s (of_expr (e.Neg x)) c
  in_neg_small : {s : Scope} {x : Expr} {c : Culprit} → Holds broken s (of_expr x) c
      → Holds broken s (of_expr (e.NegSmall x)) c
  in_not : {s : Scope} {x : Expr} {c : Culprit} → Holds broken s (of_expr x) c
      → Holds broken s (of_expr (e.Not x)) c
  in_is : {s : Scope} {x : Expr} (t : IsTest) (v : Bool) {c : Culprit}
      → Holds broken s (of_expr x) c → Holds broken s (of_expr (e.Is x t v)) c
  -- the first operand of a chain, and one behind an operator
  in_first : {s : Scope} {x : Expr} (ls : List (ChainOp × Expr)) {c : Culprit}
      → Holds broken s (of_expr x) c → Holds broken s (of_expr (e.Chain x ls)) c
  in_link : {s : Scope} (x : Expr) (ls : List (ChainOp × Expr)) (l : ChainOp × Expr) {c : Culprit}
      → Contains ls l → Holds broken s (of_expr l.1) c → Holds broken s (of_expr (e.Chain x ls)) c
  in_left : {s : Scope} (op : CmpOp) {x : Expr} (y : Expr) {c : Culprit}
      → Holds broken s (of_expr x) c → Holds broken s (of_expr (e.Compare op x y)) c
  in_right : {s : Scope} (op : CmpOp) (x : Expr) {y : Expr} {c : Culprit}
      → Holds broken s (of_expr y) c → Holds broken s (of_expr (e.Compare op x y)) c
  in_between : {s : Scope} (v : Bool) {x : Expr} (low high : Expr) {c : Culprit}
      → Holds broken s (of_expr x) c → Holds broken s (of_expr (e.Between v x low high)) c
  in_low : {s : Scope} (v : Bool) (x : Expr) {low : Expr} (high : Expr) {c : Culprit}
      → Holds broken s (of_expr low) c → Holds broken s (of_expr (e.Between v x low high)) c
  in_high : {s : Scope} (v : Bool) (x low : Expr) {high : Expr} {c : Culprit}
      → Holds broken s (of_expr high) c → Holds broken s (of_expr (e.Between v x low high)) c
  in_chosen : {s : Scope} (v : Bool) {x : Expr} (xs : List Expr) {c : Culprit}
      → Holds broken s (of_expr x) c → Holds broken s (of_expr (e.OneOf v x xs)) c
  in_choice : {s : Scope} (v : Bool) (x : Expr) (xs : List Expr) {y : Expr} {c : Culprit}
      → Contains xs y → Holds broken s (of_expr y) c → Holds broken s (of_expr (e.OneOf v x xs)) c
  in_cast : {s : Scope} {x : Expr} (t : Ty) {c : Culprit} → Holds broken s (of_expr x) c
      → Holds broken s (of_expr (e.Cast x t)) c
  -- behind WHEN, THEN and ELSE
  in_test : {s : Scope} (arms : List (Expr × Expr)) (a : Expr × Expr) (other : Option Expr)
      {c : Culprit} → Contains arms a
      → Holds broken s (of_expr a.0) c → Holds broken s (of_expr (e.Cases arms other)) c
  in_value : {s : Scope} (arms : List (Expr × Expr)) (a : Expr × Expr) (other : Option Expr)
      {c : Culprit} → Contains arms a
      → Holds broken s (of_expr a.1) c → Holds broken s (of_expr (e.Cases arms other)) c
  in_other : {s : Scope} (arms : List (Expr × Expr)) {other : Option Expr} {c : Culprit}
      → Holds broken s (of_maybe other) c → Holds broken s (of_expr (e.Cases arms other)) c
  in_argument : {s : Scope} (n : Name) (xs : List Expr) {y : Expr} {c : Culprit}
      → Contains xs y → Holds broken s (of_expr y) c → Holds broken s (of_expr (e.Call n xs)) c
  in_scalar : {s : Scope} {q : Query} {c : Culprit} → Holds broken s (of_query q) c
      → Holds broken s (of_expr (e.Scalar q)) c
  in_exists : {s : Scope} {q : Query} {c : Culprit} → Holds broken s (of_query q) c
      → Holds broken s (of_expr (e.Exists q)) c
  in_some : {s : Scope} {x : Expr} {c : Culprit} → Holds broken s (of_expr x) c
      → Holds broken s (of_maybe (Some x)) c
  -- ---- in a query

  in_selects : {s : Scope} {q : Query} {x : Select} {c : Culprit} → Contains (out-Query q).selects x
      → Holds broken s (of_select x) c → Holds broken s (of_query q) c
  in_from : {s : Scope} {x : Select} {c : Culprit}
      → Holds broken s (of_from [] (out-Select x).from) c → Holds broken s (of_select x) c
  in_body : {s : Scope} {x : Select} {c : Culprit}
      → Holds broken (inside (named_from s (out-Select x).from).it.seen s) (of_body x) c
      → Holds broken s (of_select x) c
  in_list : {s : Scope} {x : Select} (i : Item) {c : Culprit} → Contains (out-Select x).list i
      → Holds broken s (of_expr (out-Item i).expr) c → Holds broken s (of_body x) c
  in_filter : {s : Scope} {x : Select} {c : Culprit}
      → Holds broken s (of_maybe (out-Select x).filter) c → Holds broken s (of_body x) c
  in_order : {s : Scope} {x : Select} {k : Key} {c : Culprit} → Contains (out-Select x).order k
      → Holds broken s (of_key (aliases (out-Select x).list) k) c → Holds broken s (of_body x) c
  in_limit : {s : Scope} {x : Select} {c : Culprit}
      → Holds broken s (of_maybe (out-Select x).limit) c → Holds broken s (of_body x) c
  in_key : {s : Scope} {given : List (Option Name)} {k : Key} {c : Culprit}
      → Holds broken s (of_expr (out-Key k).expr) c → Holds broken s (of_key given k) c
  -- ---- in FROM, where each item sees those before it

  this_item : {s : Scope} {level : Level} {f : FromItem} (fs : List FromItem) {c : Culprit}
      → Holds broken s (of_source level (out-FromItem f).source) c
      → Holds broken s (of_from level (f ∷ fs)) c
  later_item : {s : Scope} {level : Level} {f : FromItem} {fs : List FromItem} {c : Culprit}
      → Holds broken s (of_from (level ++ seen_of s level f ∷ []) fs) c
      → Holds broken s (of_from level (f ∷ fs)) c
  -- a LATERAL subquery sees the items before it, and any other none of them
  in_subquery : {s : Scope} {level : Level} {q : Query} (lateral : Bool) {c : Culprit}
      → Holds broken (inside (before lateral level) s) (of_query q) c
      → Holds broken s (of_source level (source.Sub q lateral)) c

-- ---- what the searches of lists give

-- an element of the list has the culprit
pub record InOne {A : Type 0} (part : A → Part) (broken : Rule) (s : Scope) (xs : List A)
    (c : Culprit) : Type 0 where
  pub one : A
  pub stands : Contains xs one
  pub holds : Holds broken s (part one) c

-- an arm has it, behind WHEN or behind THEN
pub record InArm (broken : Rule) (s : Scope) (arms : List (Expr × Expr)) (c : Culprit) : Type 0
  where
    pub one : Expr × Expr
    pub stands : Contains arms one
    pub holds : Holds broken s (of_expr one.0) c ⊎ Holds broken s (of_expr one.1) c

-- a select has it: its FROM, in the one scope, or what stands over it, in the other
abbrev pub InEither : Rule → Scope → Scope → Select → Culprit → Type 0
InEither broken outer inner x c =
    Holds broken outer (of_from [] (out-Select x).from) c ⊎ Holds broken inner (of_body x) c
