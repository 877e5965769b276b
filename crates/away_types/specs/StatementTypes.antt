-- The types that a function's statements ask of their expressions, once numbers are converted, and
-- that no aggregate stands in these.
use Rattle.std.specs.Prelude.{
  ℕ,
  Bool,
  true,
  false,
  not,
  ◌&&◌,
  ◌||◌,
  List,
  [],
  ◌∷◌,
  fold,
  length,
  Option,
  Some,
  None,
  slice_get,
}
use Rattle.away_values.specs.declared.types.Ty.{Ty}
use Rattle.away_values.specs.declared.types.Ty.TheVariants.{Boolean, Integer}
use Rattle.away_trees.specs.declared.queries.Expr.{Expr}
use Rattle.away_trees.specs.declared.queries.Select.{Select}
use Rattle.away_trees.specs.declared.statements.Arm.{Arm}
use Rattle.away_trees.specs.declared.statements.Decl.{Decl}
use Rattle.away_trees.specs.declared.statements.LoopKind.{LoopKind}
use Rattle.away_trees.specs.declared.statements.LoopKind.TheVariants as kind
use Rattle.away_trees.specs.declared.statements.Stmt.{Stmt}
use Rattle.away_trees.specs.declared.statements.Stmt.TheOpen.{Stmt-F, Arm-F}
use Rattle.away_trees.specs.declared.statements.Stmt.TheOpen as st
use Rattle.away_trees.specs.StatementAlgebra.{StatementAlgebra, stmt_of, branch_of}
use Rattle.away_trees.specs.StatementEquations.{statement_algebra}
use Rattle.away_names.specs.declared.rule.Rule.TheVariants as rule
use Rattle.away_names.specs.declared.note.Note.{Note}
use Rattle.away_names.specs.Lookups.{Name}
use Rattle.away_names.specs.Notes.{clean, joined, breaks, all_notes}
use Rattle.away_typing.specs.declared.kind.Kind.{Kind}
use Rattle.away_typing.specs.Kinds.{fits}
use Rattle.away_typing.specs.Aggregates.{outside}
use Rattle.away_typing.specs.Typing.{Places}
use Rattle.away_typing.specs.Trees.{kind_of, uses_of, uses_of_select, kinds_of_select}
use Rattle.elaboration.specs.Converting.{assignable}
use Rattle.away_types.specs.declared.finding.Report.{Report}
use Rattle.away_types.specs.Findings.{own, own_with, nothing, followed, branched}

-- the places of a function, and the type of its result
pub record Asked : Type 0 where
  pub places : Places
  pub result : Ty

unfoldable pub asked : Asked → Ty → Expr → Note
asked a ty e = joined (breaks rule.Types (not (fits ty (kind_of e a.places)) ||
    (uses_of e).limited)) (breaks rule.Aggregates (outside (uses_of e)).misused)

abbrev pub maybe_asked : Asked → Ty → Option Expr → Note
maybe_asked a ty None = clean
maybe_asked a ty (Some e) = asked a ty e

unfoldable pub asked_of_slot : Asked → Option Ty → Expr → Note
asked_of_slot a None e = breaks rule.Types true
asked_of_slot a (Some ty) e = asked a ty e

abbrev pub slot_of : Asked → Option ℕ → Option Ty
slot_of a None = None
slot_of a (Some i) = slice_get a.places.slots i

-- ---- SELECT INTO

unfoldable pub takes : Option Ty → Kind → Bool
takes None k = false
takes (Some ty) k = assignable ty k

-- the variable of each target takes the item at its place, where a number may stand for the other
-- type of numbers
abbrev pub all_taken : Asked → List (Name × Option ℕ) → List Kind → Bool
all_taken a [] [] = true
all_taken a (t ∷ ts) (k ∷ ks) = takes (slot_of a t.1) k && all_taken a ts ks
all_taken a _ _ = false

-- there is a target, and one for each item
unfoldable pub takes_list : Asked → List (Name × Option ℕ) → Option (List Kind) → Bool
takes_list a [] kinds = false
takes_list a (t ∷ ts) None = false
takes_list a (t ∷ ts) (Some ks) = all_taken a (t ∷ ts) ks

unfoldable pub asked_of_targets : Asked → List (Name × Option ℕ) → Select → Note
asked_of_targets a targets query = joined
    (breaks rule.Types (not (takes_list a targets (kinds_of_select query a.places)) ||
    (uses_of_select query).limited))
    (breaks rule.Aggregates (uses_of_select query).misused)

-- ---- statements

abbrev pub By : Type 0
By = Asked → Report

abbrev pub all_by : List By → By
all_by fs a = fold (λ r f. followed r (f a)) nothing fs

-- an ELSE is a node
abbrev pub maybe_by : Option (List By) → By
maybe_by None a = nothing
maybe_by (Some fs) a = followed (own 1 clean) (all_by fs a)

abbrev pub defaults : List Decl → Asked → Note
defaults ds a = all_notes (λ (d : Decl). maybe_asked a d.ty d.default) ds

abbrev pub head_asked : LoopKind → Asked → Note
head_asked kind.Plain a = clean
head_asked (kind.While e) a = asked a Boolean e
head_asked (kind.Count var reverse first last step) a =
    joined (asked a Integer first)
    (joined (asked a Integer last) (maybe_asked a Integer step))

abbrev pub statement : Stmt-F By By → By
statement (st.Block label decls body closing) a = followed (own_with (length decls) (defaults decls a)) (all_by body a)
statement (st.Assign name slot e) a = own 1 (asked_of_slot a (slot_of a slot) e)
statement (st.If arms other) a = branched (all_by arms a) (maybe_by other a)
statement (st.Cases arms other) a = branched (all_by arms a) (maybe_by other a)
statement (st.Loop label k body closing) a = followed (own 1 (head_asked k a)) (all_by body a)
statement (st.Exit label when) a = own 1 (maybe_asked a Boolean when)
statement (st.Continue label when) a = own 1 (maybe_asked a Boolean when)
statement (st.Return e) a = own 1 (asked a a.result e)
statement (st.Raise r) a = own 1 clean
statement (st.Into strict targets query) a =
    own_with (length targets) (asked_of_targets a targets query)
statement st.Nothing a = own 1 clean

abbrev pub arm : Arm-F By By → By
arm x a = followed (own 1 (asked a Boolean x.test)) (all_by x.body a)

abbrev pub asking : StatementAlgebra
asking = statement_algebra (record { stmt = statement; arm = arm })

-- ---- by name, for the contracts of loops

unfoldable pub asked_stmt : Asked → Stmt → Report
asked_stmt a x = stmt_of asking x a

unfoldable pub asked_arm : Asked → Arm → Report
asked_arm a x = branch_of asking x a

abbrev pub asked_body : Asked → List Stmt → Report
asked_body a = fold (λ r x. followed r (asked_stmt a x)) nothing

abbrev pub asked_arms : Asked → List Arm → Report
asked_arms a = fold (λ r x. followed r (asked_arm a x)) nothing

abbrev pub asked_other : Asked → Option (List Stmt) → Report
asked_other a None = nothing
asked_other a (Some body) = followed (own 1 clean) (asked_body a body)
