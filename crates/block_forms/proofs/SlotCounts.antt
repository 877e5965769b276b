-- A statement is laid out over as many slots as it has variables and targets, and a function has the slots of its text.
use Rattle.std.proofs.Common.{◌≡◌, refl, sym, ap, ◌∙◌, ℕ, ◌+◌, ◌*◌, List, [], ◌∷◌, ◌++◌, length, map, flat_map, replicate, arith, length-append}
use Rattle.std.proofs.lemmas.Grind.{flat_map-append}
use Rattle.std.proofs.lemmas.List.{length-map, length-replicate, append-nil}
use Rattle.away_values.specs.declared.types.Ty.{Ty}
use Rattle.away_values.specs.declared.types.Ty.TheVariants as ty
use Rattle.away_trees.specs.declared.queries.Select.{Select}
use Rattle.away_trees.specs.declared.statements.Decl.{Decl}
use Rattle.away_trees.specs.declared.statements.Function.{Function}
use Rattle.away_trees.specs.declared.statements.LoopKind.{LoopKind}
use Rattle.away_trees.specs.declared.statements.LoopKind.TheVariants as kind
use Rattle.away_trees.specs.declared.statements.Stmt.{Stmt}
use Rattle.away_trees.specs.declared.statements.Stmt.TheBlock as b
use Rattle.away_trees.specs.StatementAlgebra.{stmt_of, stmts_of, branches_of}
use Rattle.away_types.specs.declared.slots.Slot.{Slot}
use Rattle.block_forms.specs.Laid.{laying, laid, decls_size, kind_size, row_size, arms_size}
use Rattle.block_forms.specs.Lowered.{numbers_of}
use Rattle.block_forms.specs.Intos.{Into, row_intos, selecting, intos, into_targets}
use Rattle.block_forms.specs.Slots.{slot, slot_of, joined, of_kind, declaring, variables, own_slots, hidden_slot, shown_types}
use Rattle.select_into.specs.Entries.{Target}

decls_slots : (ds : List Decl) → (decls_size ds).slot ≡ length (map slot_of ds)
decls_slots [] = refl
decls_slots (d ∷ ds) = omega (arith, decls_slots ds)

kind_slots : (k : LoopKind) → (kind_size k).slot ≡ length (of_kind k)
kind_slots kind.Plain = refl
kind_slots (kind.While e) = refl
kind_slots (kind.Count name reverse first last by) = refl

mutual
  statement_slots : (x : Stmt) → (stmt_of laying x).size.slot ≡ length (stmt_of declaring x)
  statement_slots (b.Block' label decls _ body closing) =
      omega (arith, decls_slots decls, row_slots body, length-append (map slot_of decls) (joined (stmts_of declaring body)))
  statement_slots (b.Assign name slot e) = refl
  statement_slots (b.If' _ arms b.None') = omega (arith, arms_slots arms, length-append (joined (branches_of declaring arms)) [])
  statement_slots (b.If' _ arms (b.Some' _ body)) =
      omega (arith, arms_slots arms, row_slots body, length-append (joined (branches_of declaring arms)) (joined (stmts_of declaring body)))
  statement_slots (b.Cases' _ arms b.None') = omega (arith, arms_slots arms, length-append (joined (branches_of declaring arms)) [])
  statement_slots (b.Cases' _ arms (b.Some' _ body)) =
      omega (arith, arms_slots arms, row_slots body, length-append (joined (branches_of declaring arms)) (joined (stmts_of declaring body)))
  statement_slots (b.Loop' label k _ body closing) = omega (arith, kind_slots k, row_slots body, length-append (of_kind k) (joined (stmts_of declaring body)))
  statement_slots (b.Exit label when) = refl
  statement_slots (b.Continue label when) = refl
  statement_slots (b.Return e) = refl
  statement_slots (b.Raise raised) = refl
  statement_slots (b.Into strict targets query) = refl
  statement_slots b.Nothing = refl

  row_slots : {m : _} → (r : b.Row_of-Stmt m) → (row_size (stmts_of laying r)).slot ≡ length (joined (stmts_of declaring r))
  row_slots b.end_of-Stmt = refl
  row_slots (b.more_of-Stmt x rest) = omega (arith, statement_slots x, row_slots rest, length-append (stmt_of declaring x) (joined (stmts_of declaring rest)))

  arms_slots : {m : _} → (r : b.Row_of-Arm m) → (arms_size (branches_of laying r)).slot ≡ length (joined (branches_of declaring r))
  arms_slots b.end_of-Arm = refl
  arms_slots (b.more_of-Arm test _ body rest) =
      omega (arith, row_slots body, arms_slots rest, length-append (joined (stmts_of declaring body)) (joined (branches_of declaring rest)))

-- ---- targets

unfoldable targets_in : List Into → ℕ
targets_in is = length (flat_map (λ (i : Into). i.targets) is)

in_none : targets_in [] ≡ 0
unfolding targets_in
in_none = refl

in_both : (is js : List Into) → targets_in (is ++ js) ≡ targets_in is + targets_in js
unfolding targets_in
in_both is js =
    ap length (flat_map-append (λ (i : Into). i.targets) is js) ∙ length-append (flat_map (λ (i : Into). i.targets) is) (flat_map (λ (i : Into). i.targets) js)

in_one : (ts : List Target) (q : Select) → targets_in (record { targets = ts; query = q } ∷ []) ≡ length ts
unfolding targets_in
in_one ts q = ap length (append-nil ts)

decls_targets : (ds : List Decl) → (decls_size ds).targets ≡ 0
decls_targets [] = refl
decls_targets (d ∷ ds) = omega (arith, decls_targets ds)

kind_targets : (k : LoopKind) → (kind_size k).targets ≡ 0
kind_targets kind.Plain = refl
kind_targets (kind.While e) = refl
kind_targets (kind.Count name reverse first last by) = refl

mutual
  statement_targets : (x : Stmt) → (stmt_of laying x).size.targets ≡ targets_in (stmt_of selecting x)
  statement_targets (b.Block' label decls _ body closing) = omega (arith, decls_targets decls, row_targets body)
  statement_targets (b.Assign name slot e) = sym in_none
  statement_targets (b.If' _ arms b.None') = omega (arith, arms_targets arms, in_none, in_both (row_intos (branches_of selecting arms)) [])
  statement_targets (b.If' _ arms (b.Some' _ body)) =
      omega (arith, arms_targets arms, row_targets body, in_both (row_intos (branches_of selecting arms)) (row_intos (stmts_of selecting body)))
  statement_targets (b.Cases' _ arms b.None') = omega (arith, arms_targets arms, in_none, in_both (row_intos (branches_of selecting arms)) [])
  statement_targets (b.Cases' _ arms (b.Some' _ body)) =
      omega (arith, arms_targets arms, row_targets body, in_both (row_intos (branches_of selecting arms)) (row_intos (stmts_of selecting body)))
  statement_targets (b.Loop' label k _ body closing) = omega (arith, kind_targets k, row_targets body)
  statement_targets (b.Exit label when) = sym in_none
  statement_targets (b.Continue label when) = sym in_none
  statement_targets (b.Return e) = sym in_none
  statement_targets (b.Raise raised) = sym in_none
  statement_targets (b.Into strict targets query) = sym (in_one targets query)
  statement_targets b.Nothing = sym in_none

  row_targets : {m : _} → (r : b.Row_of-Stmt m) → (row_size (stmts_of laying r)).targets ≡ targets_in (row_intos (stmts_of selecting r))
  row_targets b.end_of-Stmt = sym in_none
  row_targets (b.more_of-Stmt x rest) =
      omega (arith, statement_targets x, row_targets rest, in_both (stmt_of selecting x) (row_intos (stmts_of selecting rest)))

  arms_targets : {m : _} → (r : b.Row_of-Arm m) → (arms_size (branches_of laying r)).targets ≡ targets_in (row_intos (branches_of selecting r))
  arms_targets b.end_of-Arm = sym in_none
  arms_targets (b.more_of-Arm test _ body rest) =
      omega (arith, row_targets body, arms_targets rest, in_both (row_intos (stmts_of selecting body)) (row_intos (branches_of selecting rest)))

pub targets_counted : (x : Stmt) → (laid x).size.targets ≡ length (into_targets x)
unfolding laid intos targets_in
targets_counted x = statement_targets x

-- those that its text names, three for each FOR, and one for each target
pub own_slots_counted : (f : Function) (slots : List Slot) → slots ≡ own_slots f → length slots ≡ (numbers_of f).targets + (laid f.body).size.targets
unfolding laid variables
own_slots_counted f slots e =
    let params = map (λ (p : List ℕ × Ty). slot p.1) f.params in
    let hidden = replicate (3 * (laid f.body).size.fors) (slot ty.Integer) in
    let picked = map (hidden_slot (shown_types f)) (into_targets f.body) in
    omega (
      arith,
      ap length e,
      length-append (params ++ variables f.body) (hidden ++ picked),
      length-append params (variables f.body),
      length-append hidden picked,
      length-map f.params (λ (p : List ℕ × Ty). slot p.1),
      length-map (into_targets f.body) (hidden_slot (shown_types f)),
      length-replicate (3 * (laid f.body).size.fors) (slot ty.Integer),
      statement_slots f.body,
      targets_counted f.body,
    )
