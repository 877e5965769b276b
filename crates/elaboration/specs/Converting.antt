-- A function's statements with their operations marked, and with a cast where a number stands for
-- the other type of numbers: at assignments, defaults, RETURN, and the bounds and the step of FOR.
-- No other cast is added. An item of an INTO that is to be converted is marked by its alias.
use Rattle.std.specs.Prelude.{
  ℕ,
  Bool,
  true,
  false,
  ◌||◌,
  if◌then◌else◌,
  List,
  [],
  ◌∷◌,
  map,
  drop,
  is_some,
  slice_get,
  Option,
  Some,
  None,
  option_map,
}
use Rattle.away_values.specs.declared.types.Ty.{Ty}
use Rattle.away_values.specs.declared.types.Ty.TheVariants.{Bigint, Integer}
use Rattle.away_trees.specs.declared.queries.Expr.{Expr}
use Rattle.away_trees.specs.declared.queries.Expr.TheVariants as expr
use Rattle.away_trees.specs.declared.queries.Item.{Item}
use Rattle.away_trees.specs.declared.queries.Select.{Select}
use Rattle.away_trees.specs.declared.queries.Expr.TheViews.{
  out-Item,
  roll-Item,
  out-Select,
  roll-Select,
}
use Rattle.away_trees.specs.declared.statements.Arm.{Arm}
use Rattle.away_trees.specs.declared.statements.Decl.{Decl}
use Rattle.away_trees.specs.declared.statements.LoopKind.{LoopKind}
use Rattle.away_trees.specs.declared.statements.LoopKind.TheVariants as kind
use Rattle.away_trees.specs.declared.statements.Stmt.{Stmt}
use Rattle.away_trees.specs.declared.statements.Stmt.TheVariants as stmt
use Rattle.away_trees.specs.declared.statements.Stmt.TheOpen.{Stmt-F, Arm-F}
use Rattle.away_trees.specs.declared.statements.Stmt.TheOpen as st
use Rattle.away_trees.specs.StatementAlgebra.{StatementAlgebra, stmt_of, branch_of}
use Rattle.away_trees.specs.StatementEquations.{statement_algebra}
use Rattle.away_typing.specs.declared.kind.Kind.{Kind}
use Rattle.away_typing.specs.declared.kind.Kind.TheVariants.{Of}
use Rattle.away_typing.specs.Kinds.{fits}
use Rattle.away_typing.specs.Typing.{Places}
use Rattle.elaboration.specs.Elaborating.{MadeExpr, MadeSelect, elaborated, elaborated_select}

-- ---- an expression for a place that asks for a type

-- integer beside bigint
unfoldable pub converts : Ty → Kind → Bool
converts Integer (Of Bigint) = true
converts Bigint (Of Integer) = true
converts _ _ = false

-- what may stand where the type is asked for
unfoldable pub assignable : Ty → Kind → Bool
assignable t k = fits t k || converts t k

abbrev pub with_cast : Ty → MadeExpr → Expr
with_cast t m = if converts t m.kind then expr.Cast m.it t else m.it

-- marked, and converted to the type
unfoldable pub converted_to : Ty → Places → Expr → Expr
converted_to t p e = with_cast t (elaborated p e)

abbrev pub marked : Places → Expr → Expr
marked p e = (elaborated p e).it

abbrev pub maybe_converted : Ty → Places → Option Expr → Option Expr
maybe_converted t p = option_map (converted_to t p)

abbrev pub maybe_marked : Places → Option Expr → Option Expr
maybe_marked p = option_map (marked p)

-- ---- statements

-- the places of a function, the type of its result, and that of the counters of FOR
pub record Around : Type 0 where
  pub places : Places
  pub result : Ty
  pub counter : Ty

abbrev pub By : Type 0 → Type 0
By A = Around → A

abbrev pub slot_type : Around → Option ℕ → Option Ty
slot_type a None = None
slot_type a (Some i) = slice_get a.places.slots i

abbrev pub for_slot : Option Ty → Places → Expr → Expr
for_slot None p e = marked p e
for_slot (Some t) p e = converted_to t p e

abbrev pub decl_converted : Around → Decl → Decl
decl_converted a d = record d { default = maybe_converted d.ty a.places d.default }

abbrev pub decls_converted : Around → List Decl → List Decl
decls_converted a = map (decl_converted a)

abbrev pub kind_converted : Around → LoopKind → LoopKind
kind_converted a kind.Plain = kind.Plain
kind_converted a (kind.While e) = kind.While (marked a.places e)
kind_converted a (kind.Count var reverse first last step) =
    kind.Count var reverse (converted_to a.counter a.places first)
    (converted_to a.counter a.places last) (maybe_converted a.counter a.places step)

-- ---- SELECT INTO

abbrev pub Target : Type 0
Target = List ℕ × Option ℕ

-- an item that is to be converted has its target's name as alias, and any other has none: an alias
-- has no meaning behind names
abbrev pub mark_by : Option Ty → List ℕ → Kind → Option (List ℕ)
mark_by None n k = None
mark_by (Some t) n k = if converts t k then Some n else None

unfoldable pub first_mark : Around → List Target → List Kind → Option (List ℕ)
first_mark a (t ∷ ts) (k ∷ ks) = mark_by (slot_type a t.1) t.0 k
first_mark a _ _ = None

abbrev pub with_alias : Option (List ℕ) → Item → Item
with_alias alias i = roll-Item (record { expr = (out-Item i).expr; alias = alias })

-- by the targets and the types at their places
abbrev pub items_marked : Around → List Target → List Kind → List Item → List Item
items_marked a ts ks [] = []
items_marked a ts ks (i ∷ is) =
    with_alias (first_mark a ts ks) i ∷ items_marked a (drop 1 ts) (drop 1 ks) is

abbrev pub with_list : List Item → Select → Select
with_list list s = roll-Select (record (out-Select s) { list = list })

abbrev pub select_marked : Around → List Target → MadeSelect → Select
select_marked a ts m = marked_over m.kinds
  where
    marked_over : Option (List Kind) → Select
    marked_over None = m.it
    marked_over (Some ks) = with_list (items_marked a ts ks (out-Select m.it).list) m.it

unfoldable pub into_converted : Around → List Target → Select → Select
into_converted a targets query = select_marked a targets (elaborated_select a.places query)

-- whether the value of an item is converted to the type of its target
abbrev pub is_converted : Item → Bool
is_converted i = is_some (out-Item i).alias

-- ---- statements by their parts

abbrev pub all_by : {A : Type 0} → Around → List (By A) → List A
all_by a = map (λ f. f a)

abbrev pub statement : Stmt-F (By Stmt) (By Arm) → By Stmt
statement (st.Block label decls body closing) a =
    stmt.Block label (decls_converted a decls) (all_by a body) closing
statement (st.Assign name slot e) a = stmt.Assign name slot (for_slot (slot_type a slot) a.places e)
statement (st.If arms other) a = stmt.If (all_by a arms) (option_map (all_by a) other)
statement (st.Cases arms other) a = stmt.Cases (all_by a arms) (option_map (all_by a) other)
statement (st.Loop label k body closing) a =
    stmt.Loop label (kind_converted a k) (all_by a body) closing
statement (st.Exit label when) a = stmt.Exit label (maybe_marked a.places when)
statement (st.Continue label when) a = stmt.Continue label (maybe_marked a.places when)
statement (st.Return e) a = stmt.Return (converted_to a.result a.places e)
statement (st.Raise r) a = stmt.Raise r
statement (st.Into strict targets query) a =
    stmt.Into strict targets (into_converted a targets query)
statement st.Nothing a = stmt.Nothing

abbrev pub arm : Arm-F (By Stmt) (By Arm) → By Arm
arm x a = record { test = marked a.places x.test; body = all_by a x.body }

abbrev pub converting : StatementAlgebra
converting = statement_algebra (record { stmt = statement; arm = arm })

unfoldable pub converted : Around → Stmt → Stmt
converted a s = stmt_of converting s a

unfoldable pub converted_arm : Around → Arm → Arm
converted_arm a x = branch_of converting x a
