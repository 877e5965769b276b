-- A function's statements with what their names stand for, the rules that these break, and the
-- function's variables in the order of their text.
use Rattle.std.specs.Prelude.{
  ℕ,
  Bool,
  true,
  false,
  not,
  List,
  [],
  ◌∷◌,
  ◌++◌,
  map,
  fold,
  length,
  slice_get,
  Option,
  Some,
  None,
  option_and_then,
}
use Rattle.away_values.specs.declared.types.Ty.{Ty}
use Rattle.away_values.specs.declared.types.Ty.TheVariants.{Bigint, Integer}
use Rattle.away_trees.specs.declared.queries.Expr.{Expr}
use Rattle.away_trees.specs.declared.queries.Select.{Select}
use Rattle.away_trees.specs.declared.statements.Arm.{Arm}
use Rattle.away_trees.specs.declared.statements.Decl.{Decl}
use Rattle.away_trees.specs.declared.statements.LoopKind.{LoopKind}
use Rattle.away_trees.specs.declared.statements.LoopKind.TheVariants as kind
use Rattle.away_trees.specs.declared.statements.Raised.{Raised}
use Rattle.away_trees.specs.declared.statements.Stmt.{Stmt}
use Rattle.away_trees.specs.declared.statements.Stmt.TheVariants as stmt
use Rattle.away_trees.specs.declared.statements.Stmt.TheOpen.{Stmt-F, Arm-F}
use Rattle.away_trees.specs.declared.statements.Stmt.TheOpen as st
use Rattle.away_trees.specs.StatementAlgebra.{StatementAlgebra}
use Rattle.away_trees.specs.StatementEquations.{statement_algebra}
use Rattle.away_names.specs.declared.rule.Rule.TheVariants as rule
use Rattle.away_names.specs.declared.note.Note.{Note}
use Rattle.away_names.specs.declared.note.Noted.{Noted}
use Rattle.away_names.specs.declared.scope.Variable.{Variable}
use Rattle.away_types.specs.declared.slots.Slot.{Slot}
use Rattle.away_types.specs.declared.slots.Slots.{Slots}
use Rattle.away_types.specs.declared.around.Around.{Around}
use Rattle.away_types.specs.declared.resolved.Resolved.{Resolved}
use Rattle.away_types.specs.declared.resolved.Declared.{Declared}
use Rattle.away_types.specs.declared.resolved.Headed.{Headed}
use Rattle.away_names.specs.Notes.{clean, joined, breaks, noted, also, each, held}
use Rattle.away_names.specs.Lookups.{Name, Scope, variable_named}
use Rattle.away_names.specs.Naming.{written, maybe_written}
use Rattle.away_names.specs.Trees.{named_expr, named_select}
use Rattle.away_types.specs.Findings.{own, own_with, nothing, followed, branched as branch_reports}
use Rattle.away_types.specs.StatementRules.{
  declares_twice,
  sets_twice,
  may_exit,
  may_continue,
  closes,
  lacks_default,
  may_raise,
}

-- what names see at a statement, and the blocks and loops around it, the innermost last
pub record Spot : Type 0 where
  pub scope : Scope
  pub around : List Around

abbrev pub By : Type 0 → Type 0
By A = Spot → Slots → Resolved A

abbrev pub with_resolved : {A : Type 0} → Resolved (List A) → Resolved A → Resolved (List A)
with_resolved a x = record { it = a.it ++ x.it ∷ []; note = followed a.note x.note; slots = x.slots }

abbrev pub none_resolved : {A : Type 0} → Slots → Resolved (List A)
none_resolved slots = record { it = []; note = nothing; slots = slots }

abbrev pub each_resolved : {A : Type 0} → List (By A) → By (List A)
each_resolved fs spot slots = fold (λ a f. with_resolved a (f spot a.slots)) (none_resolved slots) fs

-- an ELSE is a node
abbrev pub maybe_resolved : {A : Type 0} → Option (By A) → By (Option A)
maybe_resolved None spot slots = record { it = None; note = nothing; slots = slots }
maybe_resolved (Some f) spot slots = let x = f spot slots in record { it = Some x.it; note = followed (own 1 clean) x.note; slots = x.slots }

-- ---- variables

unfoldable pub with_variable : Name → Bool → Slots → List Variable → List Variable
with_variable name constant slots variables = variables ++ record { name = name; slot = length slots.shown; constant = constant } ∷ []

abbrev pub seeing : List Variable → Scope → Scope
seeing variables scope = record scope { variables = variables }

unfoldable pub with_slot : Ty → Bool → Slots → Slots
with_slot ty not_null slots = record slots { shown = slots.shown ++ record { ty = ty; not_null = not_null } ∷ [] }

-- the counter, the last value and the step of a FOR
unfoldable pub with_hidden : Slots → Slots
with_hidden slots =
    let one : Slot = record { ty = Integer; not_null = false } in
    record slots { hidden = slots.hidden ++ one ∷ one ∷ one ∷ [] }

-- The type of the variable of a target. Where the target is none, which breaks a rule, it's bigint.
abbrev pub type_or_bigint : Option Slot → Ty
type_or_bigint None = Bigint
type_or_bigint (Some x) = x.ty

abbrev pub picked_for : List Slot → Option ℕ → Slot
picked_for shown slot = record {
  ty = type_or_bigint (option_and_then (λ i. slice_get shown i) slot);
  not_null = false;
}

-- one for each target of an INTO, of the type of its variable
unfoldable pub with_targets : List (Name × Option ℕ) → Slots → Slots
with_targets targets slots = record slots {
  picked = slots.picked ++ map (λ t. picked_for slots.shown t.1) targets;
}

-- a default sees the declarations before it
abbrev pub declared : Decl → Scope → Noted Decl
declared d scope =
    let default = held (λ e. named_expr e scope) d.default in
    record {
      it = record { name = d.name; ty = d.ty; constant = d.constant; not_null = d.not_null; default = default.it };
      note = joined (written scope d.name) (joined (breaks rule.Defaults (lacks_default d)) default.note);
    }

abbrev pub with_declared : Scope → Declared → Decl → Declared
with_declared scope a d =
    let x = declared d (seeing a.variables scope) in
    record {
      it = a.it ++ x.it ∷ [];
      variables = with_variable d.name d.constant a.slots a.variables;
      note = joined a.note x.note;
      slots = with_slot d.ty d.not_null a.slots;
    }

abbrev pub none_declared : Scope → Slots → Declared
none_declared scope slots = record { it = []; variables = scope.variables; note = clean; slots = slots }

abbrev pub declared_all : List Decl → Scope → Slots → Declared
declared_all ds scope slots = fold (with_declared scope) (none_declared scope slots) ds

unfoldable pub assigned : Name → Option Variable → Noted Expr → Noted Stmt
assigned name None e = record { it = stmt.Assign name None e.it; note = joined (breaks rule.Names true) e.note }
assigned name (Some v) e = record { it = stmt.Assign name (Some v.slot) e.it; note = joined (breaks rule.Constants v.constant) e.note }

-- ---- labels

abbrev pub labelled : Scope → Option Name → Option Name → Note
labelled scope label closing = joined (maybe_written scope label)
    (joined (maybe_written scope closing) (breaks rule.Labels (not (closes label closing))))

abbrev pub within : Option Name → Bool → List Variable → Spot → Spot
within label is_loop variables spot = record {
  scope = seeing variables spot.scope;
  around = spot.around ++ record { label = label; is_loop = is_loop } ∷ [];
}

-- ---- statements

abbrev pub jump : (Option Name → Option Expr → Stmt) → (Option Name → List Around → Bool) → Option Name → Option Expr → By Stmt
jump form may label when spot slots =
    let test = held (λ e. named_expr e spot.scope) when in
    record {
      it = form label test.it;
      note = own 1 (joined (maybe_written spot.scope label) (joined (breaks rule.Labels (not (may label spot.around))) test.note));
      slots = slots;
    }

-- the loop's head
abbrev pub headed : LoopKind → Scope → Slots → Headed
headed kind.Plain scope slots = record { it = kind.Plain; variables = scope.variables; note = clean; slots = slots }
headed (kind.While e) scope slots = let x = named_expr e scope in
    record { it = kind.While x.it; variables = scope.variables; note = x.note; slots = slots }
headed (kind.Count var reverse first last step) scope slots =
    let a = named_expr first scope in
    let b = named_expr last scope in
    let c = held (λ e. named_expr e scope) step in
    record {
      it = kind.Count var reverse a.it b.it c.it;
      variables = with_variable var false slots scope.variables;
      note = joined (written scope var) (joined a.note (joined b.note c.note));
      slots = with_hidden (with_slot Integer false slots);
    }

-- the statements behind ELSE
abbrev pub other_by : Option (List (By Stmt)) → Option (By (List Stmt))
other_by None = None
other_by (Some body) = Some (each_resolved body)

abbrev pub branching : (List Arm → Option (List Stmt) → Stmt) → List (By Arm) → Option (List (By Stmt)) → By Stmt
branching form arms other spot slots =
    let xs = each_resolved arms spot slots in
    let y = maybe_resolved (other_by other) spot xs.slots in
    record { it = form xs.it y.it; note = branch_reports xs.note y.note; slots = y.slots }

-- a block, by its declarations and its statements
abbrev pub block_with : Spot → Option Name → List Decl → Option Name → List Decl → Note → Resolved (List Stmt) → Resolved Stmt
block_with spot label decls closing declarations found xs =
    record {
      it = stmt.Block label declarations xs.it closing;
      note = followed (own_with (length decls)
          (joined (joined (labelled spot.scope label closing) (breaks rule.Duplicates (declares_twice decls))) found)) xs.note;
      slots = xs.slots;
    }

-- a loop, by its head and its statements
abbrev pub loop_with : Spot → Option Name → Option Name → LoopKind → Note → Resolved (List Stmt) → Resolved Stmt
loop_with spot label closing head found xs =
    record {
      it = stmt.Loop label head xs.it closing;
      note = followed
          (own 1 (joined (labelled spot.scope label closing) found)) xs.note;
      slots = xs.slots;
    }

abbrev pub assign_with : Spot → Name → Expr → Slots → Resolved Stmt
assign_with spot name e slots =
    let x = assigned name (variable_named name spot.scope.variables) (named_expr e spot.scope) in
    record { it = x.it; note = own 1 (joined (written spot.scope name) x.note); slots = slots }

abbrev pub raise_with : Raised → Slots → Resolved Stmt
raise_with r slots = record { it = stmt.Raise r; note = own 1 (breaks rule.Raises (not (may_raise r))); slots = slots }

-- a target is no reference: it's a variable, whatever columns are in sight
unfoldable pub target_by : Name → Option Variable → Noted (Name × Option ℕ)
target_by name None = noted (breaks rule.Names true) (name, None)
target_by name (Some v) = noted (breaks rule.Constants v.constant) (name, Some v.slot)

abbrev pub target : Scope → Name → Noted (Name × Option ℕ)
target scope name =
    also (written scope name) (target_by name (variable_named name scope.variables))

abbrev pub targeted : Scope → List (Name × Option ℕ) → Noted (List (Name × Option ℕ))
targeted scope targets = each (λ t. target scope t.0) targets

abbrev pub into_with : Spot → Bool → List (Name × Option ℕ) → Select → Slots → Resolved Stmt
into_with spot strict targets query slots =
    let ts = targeted spot.scope targets in
    let q = named_select query spot.scope in
    record {
      it = stmt.Into strict ts.it q.it.it;
      note = own_with (length targets)
          (joined (breaks rule.Duplicates (sets_twice targets)) (joined ts.note q.note));
      slots = with_targets ts.it slots;
    }

abbrev pub statement : Stmt-F (By Stmt) (By Arm) → By Stmt
statement (st.Block label decls body closing) spot slots =
    let ds = declared_all decls spot.scope slots in
    block_with spot label decls closing ds.it ds.note (each_resolved body (within label false ds.variables spot) ds.slots)
statement (st.Assign name slot e) spot slots = assign_with spot name e slots
statement (st.If arms other) spot slots = branching (λ arms other. stmt.If arms other) arms other spot slots
statement (st.Cases arms other) spot slots = branching (λ arms other. stmt.Cases arms other) arms other spot slots
statement (st.Loop label k body closing) spot slots =
    let h = headed k spot.scope slots in
    loop_with spot label closing h.it h.note (each_resolved body (within label true h.variables spot) h.slots)
statement (st.Exit label when) spot slots = jump (λ label when. stmt.Exit label when) may_exit label when spot slots
statement (st.Continue label when) spot slots = jump (λ label when. stmt.Continue label when) may_continue label when spot slots
statement (st.Return e) spot slots = let x = named_expr e spot.scope in record { it = stmt.Return x.it; note = own 1 x.note; slots = slots }
statement (st.Raise r) spot slots = raise_with r slots
statement (st.Into strict targets query) spot slots = into_with spot strict targets query slots
statement st.Nothing spot slots = record { it = stmt.Nothing; note = own 1 clean; slots = slots }

abbrev pub arm : Arm-F (By Stmt) (By Arm) → By Arm
arm a spot slots =
    let test = named_expr a.test spot.scope in
    let xs = each_resolved a.body spot slots in
    record { it = record { test = test.it; body = xs.it }; note = followed (own 1 test.note) xs.note; slots = xs.slots }

abbrev pub resolving : StatementAlgebra
resolving = statement_algebra (record { stmt = statement; arm = arm })
