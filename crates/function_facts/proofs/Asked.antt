-- In a function that breaks no rule of types, no aggregate stands in an expression outside a select's list.
use Rattle.std.proofs.Common.{◌≡◌, ℕ, Bool, true, false, not, ◌||◌, List, [], ◌∷◌, ◌++◌, fold, Option, Some, None, ◌∙◌}
use Rattle.away_values.specs.declared.types.Ty.{Ty}
use Rattle.away_values.specs.declared.types.Ty.TheVariants.{Boolean, Integer}
use Rattle.away_trees.specs.declared.queries.Expr.{Expr}
use Rattle.away_trees.specs.declared.statements.Decl.{Decl}
use Rattle.away_trees.specs.declared.statements.LoopKind.{LoopKind}
use Rattle.away_trees.specs.declared.statements.LoopKind.TheVariants as kind
use Rattle.away_trees.specs.declared.statements.Stmt.{Stmt}
use Rattle.away_trees.specs.declared.statements.Stmt.TheBlock as b
use Rattle.away_trees.specs.StatementAlgebra.{stmt_of, stmts_of, branches_of, else_of}
use Rattle.away_names.specs.declared.rule.Rule.TheVariants as rule
use Rattle.away_names.specs.declared.note.Note.{Note}
use Rattle.away_names.specs.Notes.{clean, joined, breaks}
use Rattle.away_typing.specs.declared.uses.Uses.{Uses}
use Rattle.away_typing.specs.Aggregates.{outside}
use Rattle.away_typing.specs.Kinds.{fits}
use Rattle.away_typing.specs.Trees.{kind_of, uses_of}
use Rattle.away_types.specs.declared.finding.Report.{Report}
use Rattle.away_types.specs.Findings.{own, nothing, followed, branched}
use Rattle.away_types.specs.StatementTypes as checks
use Rattle.away_types.specs.StatementTypes.{Asked, asked, maybe_asked, asked_of_slot, head_asked, asked_stmt}
use Rattle.sql_meaning.specs.Meaning.{has_aggregate}
use Rattle.block_forms.specs.Expressions.{Sources, in_turn, if_there, defaults, of_kind, of_else}
use Rattle.type_soundness.specs.Sorts.{Every}
use Rattle.away_types.proofs.ClearReports.{Clear, clear_own, clear_parts, clear_within, clear_branches}
use Rattle.type_soundness.proofs.CleanNotes.{Clean, clean_parts, not_broken, test_fails}
use Rattle.type_soundness.proofs.Lists.{every_append}
use Rattle.function_facts.proofs.Aggregates.{aggregates_are}
use Rattle.function_facts.proofs.Found.{whole}
use Rattle.function_facts.proofs.WholeSelects.{whole_single}

abbrev pub IsSingle : Expr → Type 0
IsSingle e = has_aggregate e ≡ false

abbrev pub AreSingle : List Expr → Type 0
AreSingle = Every IsSingle

or_right : (a b : Bool) → (a || b) ≡ false → b ≡ false
or_right true b h = cc
or_right false b h = h

outside_is : (u : Uses) → (outside u).misused ≡ false → u.aggregate ≡ false
unfolding outside
outside_is u h = or_right u.misused u.aggregate h

module _ (a : Asked) where
  one_single : (t : Ty) (e : Expr) → Clean (asked a t e) → IsSingle e
  unfolding asked
  one_single t e c =
      let both = clean_parts (breaks rule.Types (not (fits t (kind_of e a.places)) || (uses_of e).limited)) (breaks rule.Aggregates (outside (uses_of e)).misused) c in
      aggregates_are e ∙ outside_is (uses_of e) (test_fails rule.Aggregates (outside (uses_of e)).misused both.1)

  maybe_single : (t : Ty) (o : Option Expr) → Clean (maybe_asked a t o) → AreSingle (if_there o)
  maybe_single t None c = tt
  maybe_single t (Some e) c = (one_single t e c, tt)

  slot_single : (o : Option Ty) (e : Expr) → Clean (asked_of_slot a o e) → IsSingle e
  unfolding asked_of_slot
  slot_single None e c = absurd (not_broken rule.Types c)
  slot_single (Some t) e c = one_single t e c

  head_single : (k : LoopKind) → Clean (head_asked k a) → AreSingle (of_kind k)
  head_single kind.Plain c = tt
  head_single (kind.While e) c = (one_single Boolean e c, tt)
  head_single (kind.Count var reverse first last step) c =
      let both = clean_parts (asked a Integer first) (joined (asked a Integer last) (maybe_asked a Integer step)) c in
      let more = clean_parts (asked a Integer last) (maybe_asked a Integer step) both.1 in
      (one_single Integer first both.0, (one_single Integer last more.0, maybe_single Integer step more.1))

  defaults_single : (ds : List Decl) (acc : Note) → Clean (fold (λ n (d : Decl). joined n (maybe_asked a d.ty d.default)) acc ds)
      → Clean acc × AreSingle (defaults ds)
  defaults_single [] acc c = (c, tt)
  defaults_single (d ∷ ds) acc c =
      let rest = defaults_single ds (joined acc (maybe_asked a d.ty d.default)) c in
      let both = clean_parts acc (maybe_asked a d.ty d.default) rest.0 in
      (both.0, every_append IsSingle (if_there d.default) (defaults ds) (maybe_single d.ty d.default both.1) rest.1)

  within_single : (j : ℕ) (m : Note) (n : Report) (xs ys : Sources) → (Clean m → AreSingle xs) → (Clear n → AreSingle ys) → Clear (followed (own j m) n) → AreSingle (xs ++ ys)
  within_single j m n xs ys h k c = let both = clear_within j m n c in every_append IsSingle xs ys (h both.0) (k both.1)

  both_single : (m n : Report) (xs ys : Sources) → (Clear m → AreSingle xs) → (Clear n → AreSingle ys) → Clear (branched m n) → AreSingle (xs ++ ys)
  both_single m n xs ys h k c = let both = clear_branches m n c in every_append IsSingle xs ys (h both.0) (k both.1)

  mutual
    stmt_single : (x : Stmt) → Clear (stmt_of checks.asking x a) → AreSingle (stmt_of whole x)
    stmt_single (b.Block' label decls n body closing) c =
        within_single _ (checks.defaults decls a) (checks.all_by (stmts_of checks.asking body) a) (defaults decls) (in_turn (stmts_of whole body))
        (λ c. (defaults_single decls clean c).1) (λ c. (stmts_single body nothing c).1) c
    stmt_single (b.Assign name slot e) c = (slot_single (checks.slot_of a slot) e (clear_own 1 _ c), tt)
    stmt_single (b.If' n arms o) c =
        both_single (checks.all_by (branches_of checks.asking arms) a) (checks.maybe_by (else_of checks.asking o) a) (in_turn (branches_of whole arms))
        (of_else (else_of whole o)) (λ c. (branches_single arms nothing c).1) (λ c. else_single o c) c
    stmt_single (b.Cases' n arms o) c =
        both_single (checks.all_by (branches_of checks.asking arms) a) (checks.maybe_by (else_of checks.asking o) a) (in_turn (branches_of whole arms))
        (of_else (else_of whole o)) (λ c. (branches_single arms nothing c).1) (λ c. else_single o c) c
    stmt_single (b.Loop' label k n body closing) c =
        within_single 1 (head_asked k a) (checks.all_by (stmts_of checks.asking body) a) (of_kind k) (in_turn (stmts_of whole body))
        (λ c. head_single k c) (λ c. (stmts_single body nothing c).1) c
    stmt_single (b.Exit label when) c = maybe_single Boolean when (clear_own 1 _ c)
    stmt_single (b.Continue label when) c = maybe_single Boolean when (clear_own 1 _ c)
    stmt_single (b.Return e) c = (one_single a.result e (clear_own 1 _ c), tt)
    stmt_single (b.Raise raised) c = tt
    stmt_single (b.Into strict targets query) c = (whole_single query, tt)
    stmt_single b.Nothing c = tt

    stmts_single : {m : _} (body : b.Row_of-Stmt m) (acc : Report) → Clear (fold (λ r (f : checks.By). followed r (f a)) acc (stmts_of checks.asking body))
        → Clear acc × AreSingle (in_turn (stmts_of whole body))
    stmts_single b.end_of-Stmt acc c = (c, tt)
    stmts_single (b.more_of-Stmt x rest) acc c =
        let more = stmts_single rest (followed acc (stmt_of checks.asking x a)) c in
        let both = clear_parts acc (stmt_of checks.asking x a) more.0 in
        (both.0, every_append IsSingle (stmt_of whole x) (in_turn (stmts_of whole rest)) (stmt_single x both.1) more.1)

    branches_single : {m : _} (arms : b.Row_of-Arm m) (acc : Report)
        → Clear (fold (λ r (f : checks.By). followed r (f a)) acc (branches_of checks.asking arms))
        → Clear acc × AreSingle (in_turn (branches_of whole arms))
    branches_single b.end_of-Arm acc c = (c, tt)
    branches_single (b.more_of-Arm test n body rest) acc c =
        let note = followed (own 1 (asked a Boolean test)) (checks.all_by (stmts_of checks.asking body) a) in
        let more = branches_single rest (followed acc note) c in
        let both = clear_parts acc note more.0 in
        let arm = clear_within 1 (asked a Boolean test) (checks.all_by (stmts_of checks.asking body) a) both.1 in (
          both.0,
          every_append IsSingle (test ∷ in_turn (stmts_of whole body)) (in_turn (branches_of whole rest))
              (one_single Boolean test arm.0, (stmts_single body nothing arm.1).1) more.1,
        )

    else_single : (o : b.Held-Stmt-If-1) → Clear (checks.maybe_by (else_of checks.asking o) a) → AreSingle (of_else (else_of whole o))
    else_single b.None' c = tt
    else_single (b.Some' n body) c = (stmts_single body nothing (clear_within 1 clean (checks.all_by (stmts_of checks.asking body) a) c).1).1

pub asked_single : (a : Asked) (x : Stmt) → Clear (asked_stmt a x) → AreSingle (stmt_of whole x)
unfolding asked_stmt
asked_single a x c = stmt_single a x c
