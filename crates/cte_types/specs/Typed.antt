-- Terms whose expressions have a type, where their slots have the types of the names beside them,
-- and calls that pass what has the type.
use Rattle.std.specs.Prelude.{◌≡◌, ℕ, true, false, List, [], get_or, slice_get, Some, None}
use Rattle.away_values.specs.declared.types.Ty.{Ty}
use Rattle.away_values.specs.declared.types.Ty.TheVariants as ty
use Rattle.away_trees.specs.declared.queries.Expr.{Expr}
use Rattle.away_trees.specs.declared.queries.Expr.TheVariants as expr
use Rattle.away_typing.specs.Aggregates.{outside}
use Rattle.away_typing.specs.Kinds.{fits}
use Rattle.away_typing.specs.Trees.{kind_of, uses_of}
use Rattle.sql_meaning.specs.Reads.{slots_of}
use Rattle.block_forms.specs.declared.forms.Term.{Term}
use Rattle.block_forms.specs.Forms.{Assignment}
use Rattle.block_forms.specs.Places.{EachPair}
use Rattle.call_forms.specs.declared.forms.Call.{Call}
use Rattle.call_forms.specs.declared.forms.CallEnd.{CallEnd}
use Rattle.call_forms.specs.declared.forms.CallEnd.TheVariants.{Go, Pick, Return, Fail}
use Rattle.call_forms.specs.declared.forms.AnfBlock.{AnfBlock}
use Rattle.call_forms.specs.declared.forms.Anf.{Anf}
use Rattle.call_forms.specs.Forms.{params_of}

-- ---- terms

-- The expression has the type where its slots, in the order of their first occurrence, have the
-- types of the names beside them. It stands over these tables, in no select, and outside of lists,
-- where no aggregate may stand.
pub record HasTypeBy (tables : List (List Ty)) (types : ℕ → Ty) (names : List ℕ) (t : Ty) (e : Expr)
    : Type 0 where
  pub slots : List Ty
  pub beside : EachPair (λ k i n. slice_get slots i ≡ Some (types n)) (slots_of e) names
  pub kind : fits t (kind_of e (record { slots = slots; frames = []; tables = tables })) ≡ true
  pub limited : (uses_of e).limited ≡ false
  pub outside_list : (outside (uses_of e)).misused ≡ false

module _ (tables : List (List Ty)) (table : List Expr) (types : ℕ → Ty) where
  -- by its names
  abbrev pub TermHasType : Ty → Term → Type 0
  TermHasType t u = HasTypeBy tables types u.names t (get_or table u.expr expr.Null)

  -- what is assigned has the type of its name
  abbrev pub SetHasType : Assignment → Type 0
  SetHasType None = Unit {0}
  SetHasType (Some p) = TermHasType (types p.0) p.1

  abbrev pub EndHasType : Ty → CallEnd → Type 0
  EndHasType result (Go c) = Unit {0}
  EndHasType result (Pick t x y) = TermHasType ty.Boolean t
  EndHasType result (Return t) = TermHasType result t
  EndHasType result (Fail c) = Unit {0}

  pub record BlockHasTypes (result : Ty) (x : AnfBlock) : Type 0 where
    pub set : SetHasType x.set
    pub end : EndHasType result x.end

-- ---- calls

module _ (types : ℕ → Ty) (a : Anf) where
  -- each name that it passes has the type of the parameter
  abbrev pub CallKeepsTypes : Call → Type 0
  CallKeepsTypes c =
      EachPair (λ i p n. types n ≡ types p) (params_of (slice_get a.blocks c.target)) c.args

  abbrev pub EndKeepsTypes : CallEnd → Type 0
  EndKeepsTypes (Go c) = CallKeepsTypes c
  EndKeepsTypes (Pick t x y) = CallKeepsTypes x × CallKeepsTypes y
  EndKeepsTypes (Return t) = Unit {0}
  EndKeepsTypes (Fail c) = Unit {0}

  pub record BlockKeepsTypes (x : AnfBlock) : Type 0 where
    pub end : EndKeepsTypes x.end
