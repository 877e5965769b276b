-- What stands in a statement, by its parts: its variables and FORs, its SELECT INTOs, the slots that it sets and its source expressions, where a
-- SELECT INTO has its whole select.
use Rattle.std.proofs.Common.{◌≡◌, refl, sym, ap, ◌∙◌, ℕ, ◌+◌, arith, append_assoc, append-nil, List, [], ◌∷◌, ◌++◌, map, Option, Some, None, option_map}
use Rattle.away_trees.specs.declared.queries.Expr.{Expr}
use Rattle.away_trees.specs.declared.statements.Arm.{Arm}
use Rattle.away_trees.specs.declared.statements.Decl.{Decl}
use Rattle.away_trees.specs.declared.statements.LoopKind.{LoopKind}
use Rattle.away_trees.specs.declared.statements.Stmt.{Stmt}
use Rattle.away_trees.specs.declared.statements.Stmt.TheVariants as stmt
use Rattle.away_trees.specs.StatementAlgebra.{StatementAlgebra, stmt_of, branch_of}
use Rattle.away_trees.proofs.StatementEquations as eq
use Rattle.away_names.specs.Lookups.{Name}
use Rattle.away_types.specs.declared.slots.Slot.{Slot}
use Rattle.block_forms.specs.Expressions as source
use Rattle.block_forms.specs.Expressions.{sourcing, whole_select, in_turn, if_there, defaults}
use Rattle.block_forms.specs.Intos.{Into, selecting, row_intos, else_intos}
use Rattle.block_forms.specs.Laid.{laying, row_size, arms_size, else_size, decls_size, kind_size}
use Rattle.block_forms.specs.Slots as slots
use Rattle.block_forms.specs.Slots.{declaring, joined}
use Rattle.block_forms.specs.Targets.{targeting, row_targets, else_targets}

-- `many` counts the variables as the size of a statement does
pub record Found : Type 0 where
  pub variables : List Slot
  pub many : ℕ
  pub fors : ℕ
  pub intos : List Into
  pub targets : List ℕ
  pub sources : List Expr

pub same : (a b : Found) → a.variables ≡ b.variables → a.many ≡ b.many → a.fors ≡ b.fors → a.intos ≡ b.intos → a.targets ≡ b.targets → a.sources ≡ b.sources → a ≡ b
same a b v m f i t s = λ k. record { variables = v k; many = m k; fors = f k; intos = i k; targets = t k; sources = s k }

-- ---- one behind the other

abbrev pub still : List ℕ → List Expr → Found
still targets sources = record { variables = []; many = 0; fors = 0; intos = []; targets = targets; sources = sources }

abbrev pub none : Found
none = still [] []

abbrev pub behind : Found → Found → Found
behind a b = record { variables = a.variables ++ b.variables; many = a.many + b.many; fors = a.fors + b.fors; intos = a.intos ++ b.intos; targets = a.targets ++ b.targets; sources = a.sources ++ b.sources }

abbrev pub all : List Found → Found
all [] = none
all (x ∷ xs) = behind x (all xs)

behind_none : (x : Found) → behind x none ≡ x
behind_none x = same (behind x none) x (append-nil x.variables) (omega arith) (omega arith) (append-nil x.intos) (append-nil x.targets) (append-nil x.sources)

behind_assoc : (a b c : Found) → behind (behind a b) c ≡ behind a (behind b c)
behind_assoc a b c =
    same (behind (behind a b) c) (behind a (behind b c)) (append_assoc a.variables b.variables c.variables) (omega arith) (omega arith)
    (append_assoc a.intos b.intos c.intos) (append_assoc a.targets b.targets c.targets) (append_assoc a.sources b.sources c.sources)

none_behind : (x : Found) → behind none x ≡ x
none_behind x = same (behind none x) x refl (omega arith) (omega arith) refl refl refl

pub all_push : (xs : List Found) (x : Found) → all (xs ++ x ∷ []) ≡ behind (all xs) x
all_push [] x = behind_none x ∙ sym (none_behind x)
all_push (y ∷ ys) x = ap (λ z. behind y z) (all_push ys x) ∙ sym (behind_assoc y (all ys) x)

-- ---- in a statement

abbrev pub whole : StatementAlgebra
whole = sourcing whole_select

abbrev pub found : Stmt → Found
found x = record { variables = stmt_of declaring x; many = (stmt_of laying x).size.slot; fors = (stmt_of laying x).size.fors; intos = stmt_of selecting x; targets = stmt_of targeting x; sources = stmt_of whole x }

abbrev pub found_arm : Arm → Found
found_arm x = record { variables = branch_of declaring x; many = (branch_of laying x).size.slot; fors = (branch_of laying x).size.fors; intos = branch_of selecting x; targets = branch_of targeting x; sources = branch_of whole x }

abbrev pub found_decl : Decl → Found
found_decl d = record { variables = slots.slot_of d ∷ []; many = 1; fors = 0; intos = []; targets = []; sources = if_there d.default }

-- the head of a loop
abbrev pub found_kind : LoopKind → Found
found_kind k = record { variables = slots.of_kind k; many = (kind_size k).slot; fors = (kind_size k).fors; intos = []; targets = []; sources = source.of_kind k }

abbrev pub found_else : Option (List Stmt) → Found
found_else None = none
found_else (Some body) = all (map found body)

-- ---- rows

abbrev row : List Stmt → Found
row xs = record {
  variables = joined (map (λ x. stmt_of declaring x) xs);
  many = (row_size (map (λ x. stmt_of laying x) xs)).slot;
  fors = (row_size (map (λ x. stmt_of laying x) xs)).fors;
  intos = row_intos (map (λ x. stmt_of selecting x) xs);
  targets = row_targets (map (λ x. stmt_of targeting x) xs);
  sources = in_turn (map (λ x. stmt_of whole x) xs);
}

row_is : (xs : List Stmt) → all (map found xs) ≡ row xs
row_is [] = refl
row_is (x ∷ xs) = ap (λ r. behind (found x) r) (row_is xs)

abbrev row_of_arms : List Arm → Found
row_of_arms xs = record {
  variables = joined (map (λ x. branch_of declaring x) xs);
  many = (arms_size (map (λ x. branch_of laying x) xs)).slot;
  fors = (arms_size (map (λ x. branch_of laying x) xs)).fors;
  intos = row_intos (map (λ x. branch_of selecting x) xs);
  targets = row_targets (map (λ x. branch_of targeting x) xs);
  sources = in_turn (map (λ x. branch_of whole x) xs);
}

arms_are : (xs : List Arm) → all (map found_arm xs) ≡ row_of_arms xs
arms_are [] = refl
arms_are (x ∷ xs) = ap (λ r. behind (found_arm x) r) (arms_are xs)

abbrev row_of_decls : List Decl → Found
row_of_decls ds = record { variables = map slots.slot_of ds; many = (decls_size ds).slot; fors = (decls_size ds).fors; intos = []; targets = []; sources = defaults ds }

decls_are : (ds : List Decl) → all (map found_decl ds) ≡ row_of_decls ds
decls_are [] = refl
decls_are (d ∷ ds) = ap (λ r. behind (found_decl d) r) (decls_are ds)

abbrev row_of_else : Option (List Stmt) → Found
row_of_else o = record {
  variables = slots.of_else (option_map (λ body. map (λ x. stmt_of declaring x) body) o);
  many = (else_size (option_map (λ body. map (λ x. stmt_of laying x) body) o)).slot;
  fors = (else_size (option_map (λ body. map (λ x. stmt_of laying x) body) o)).fors;
  intos = else_intos (option_map (λ body. map (λ x. stmt_of selecting x) body) o);
  targets = else_targets (option_map (λ body. map (λ x. stmt_of targeting x) body) o);
  sources = source.of_else (option_map (λ body. map (λ x. stmt_of whole x) body) o);
}

else_is : (o : Option (List Stmt)) → found_else o ≡ row_of_else o
else_is None = refl
else_is (Some body) = row_is body ∙ same (row body) (row_of_else (Some body)) refl (omega arith) (omega arith) refl refl refl

-- ---- by the parts

pub found_block : (label : Option Name) (decls : List Decl) (body : List Stmt) (closing : Option Name) → found (stmt.Block label decls body closing) ≡ behind (all (map found_decl decls)) (all (map found body))
found_block label decls body closing =
    same (found (stmt.Block label decls body closing)) (behind (row_of_decls decls) (row body))
    (eq.of_block declaring label decls body closing)
    (ap (λ x. x.size.slot) (eq.of_block laying label decls body closing) ∙ omega arith)
    (ap (λ x. x.size.fors) (eq.of_block laying label decls body closing) ∙ omega arith)
    (eq.of_block selecting label decls body closing) (eq.of_block targeting label decls body closing) (eq.of_block whole label decls body closing)
    ∙ (λ i. behind (sym (decls_are decls) i) (sym (row_is body) i))

pub found_loop : (label : Option Name) (k : LoopKind) (body : List Stmt) (closing : Option Name) → found (stmt.Loop label k body closing) ≡ behind (found_kind k) (all (map found body))
found_loop label k body closing =
    same (found (stmt.Loop label k body closing)) (behind (found_kind k) (row body))
    (eq.of_loop declaring label k body closing) (ap (λ x. x.size.slot) (eq.of_loop laying label k body closing)) (ap (λ x. x.size.fors) (eq.of_loop laying label k body closing))
    (eq.of_loop selecting label k body closing) (eq.of_loop targeting label k body closing) (eq.of_loop whole label k body closing)
    ∙ ap (λ r. behind (found_kind k) r) (sym (row_is body))

pub found_if : (arms : List Arm) (o : Option (List Stmt)) → found (stmt.If arms o) ≡ behind (all (map found_arm arms)) (found_else o)
found_if arms o =
    same (found (stmt.If arms o)) (behind (row_of_arms arms) (row_of_else o))
    (eq.of_if declaring arms o) (ap (λ x. x.size.slot) (eq.of_if laying arms o) ∙ omega arith) (ap (λ x. x.size.fors) (eq.of_if laying arms o) ∙ omega arith)
    (eq.of_if selecting arms o) (eq.of_if targeting arms o) (eq.of_if whole arms o)
    ∙ (λ i. behind (sym (arms_are arms) i) (sym (else_is o) i))

pub found_cases : (arms : List Arm) (o : Option (List Stmt)) → found (stmt.Cases arms o) ≡ behind (all (map found_arm arms)) (found_else o)
found_cases arms o =
    same (found (stmt.Cases arms o)) (behind (row_of_arms arms) (row_of_else o))
    (eq.of_cases declaring arms o) (ap (λ x. x.size.slot) (eq.of_cases laying arms o) ∙ omega arith) (ap (λ x. x.size.fors) (eq.of_cases laying arms o) ∙ omega arith)
    (eq.of_cases selecting arms o) (eq.of_cases targeting arms o) (eq.of_cases whole arms o)
    ∙ (λ i. behind (sym (arms_are arms) i) (sym (else_is o) i))

pub found_branch : (test : Expr) (body : List Stmt) → found_arm (record { test = test; body = body }) ≡ behind (still [] (test ∷ [])) (all (map found body))
found_branch test body = ap (λ r. behind (still [] (test ∷ [])) r) (sym (row_is body))
