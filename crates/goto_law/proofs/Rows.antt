-- When only visible slots are live where a statement begins; and the same of statements in a row, of arms and of ELSE.
use Rattle.std.proofs.Common.{◌≡◌, ℕ, ◌+◌, false, List, [], ◌∷◌, fold, length, Option, Some, None, sym, subst, arith}
use Rattle.away_values.specs.declared.values.Class.{Class}
use Rattle.away_trees.specs.declared.queries.Expr.{Expr}
use Rattle.type_soundness.specs.Sorts.{Every}
use Rattle.type_soundness.proofs.Lists.{every_left, every_right}
use Rattle.function_facts.specs.Sight.{Walked, Walk, no_expr, one_expr, behind, and_walk, all_walks, maybe_walk}
use Rattle.function_facts.specs.InSight.{ReadsInSight}
use Rattle.block_forms.specs.declared.places.Position.{Position}
use Rattle.block_forms.specs.Around.{Around}
use Rattle.block_forms.specs.Laid.{Setting, Laid, LaidArm, after, a_node, with_expr, row_size, arms_size, else_size, first_block, row_parts, arms_parts, lack, lack_parts, else_parts}
use Rattle.block_forms.specs.Lowered.{AllStand}
use Rattle.block_forms.specs.Patterns.{Part, node, no_of, source_term}
use Rattle.goto_law.proofs.InSight.{Sees, source_reads}
use Rattle.goto_law.proofs.Parts.{left, right}
use Rattle.goto_law.proofs.Ways.{Slots, Safe, SafeAround, safe_branch, safe_fail}

-- all expressions of a piece of text read slots in sight
abbrev pub InSight : Walked → Type 0
InSight w = Every ReadsInSight w.exprs

-- a row of pieces of text behind one that has been walked
abbrev pub row_walk : List ℕ → Walked → List Walk → Walked
row_walk sight a ws = fold (λ a w. behind a (w a.next sight)) a ws

module _ (s : Setting) where
  -- a piece of text whose expressions read visible slots, and whose parts stand in the form
  pub record Stood (w : Walked) (sight : List ℕ) (V : Slots) (parts : List Part) : Type 0 where
    pub reads : InSight w
    pub sees : Sees V sight
    pub stand : AllStand s.goto.blocks parts

  -- only visible slots are live at what follows, and where EXIT and CONTINUE lead
  pub record Onward (k : ℕ) (around : Around) (next : ℕ) (V : Slots) : Type 0 where
    pub follows : Safe s.goto.blocks k next V
    pub leaves : SafeAround s.goto.blocks s.goto.finish k around V

  -- a statement takes as many slots as its blocks have, and only visible slots are live where it begins
  pub record SafeStatement (x : Laid) (w : Walk) : Type 1 where
    pub slots : (next : ℕ) (sight : List ℕ) → (w next sight).next ≡ next + x.size.slot
    pub goes : (p : Position) (around : Around) (next : ℕ) (sight : List ℕ) (V : Slots)
        → Stood (w p.slot sight) sight V (x.parts s p around next)
        → (k : ℕ) → Onward k around next V → Safe s.goto.blocks k (node s.goto p.node) V

  pub record SafeRow (xs : List Laid) (ws : List Walk) : Type 1 where
    pub slots : (a : Walked) (sight : List ℕ) → (row_walk sight a ws).next ≡ a.next + (row_size xs).slot
    pub before : (a : Walked) (sight : List ℕ) → InSight (row_walk sight a ws) → InSight a
    pub goes : (a : Walked) (p : Position) → a.next ≡ p.slot → (around : Around) (next : ℕ) (sight : List ℕ) (V : Slots)
        → Stood (row_walk sight a ws) sight V (row_parts s xs p around next)
        → (k : ℕ) → Onward k around next V → Safe s.goto.blocks k (first_block s (length xs) p.node next) V

  -- arms, where what follows them is safe
  pub record SafeArms (xs : List LaidArm) (ws : List Walk) : Type 1 where
    pub slots : (a : Walked) (sight : List ℕ) → (row_walk sight a ws).next ≡ a.next + (arms_size xs).slot
    pub before : (a : Walked) (sight : List ℕ) → InSight (row_walk sight a ws) → InSight a
    pub goes : (a : Walked) (p : Position) → a.next ≡ p.slot → (around : Around) (next b : ℕ) (sight : List ℕ) (V : Slots)
        → Stood (row_walk sight a ws) sight V (arms_parts s xs p around next b)
        → (k : ℕ) → Onward k around next V → Safe s.goto.blocks k (lack s xs b) V → Safe s.goto.blocks k b V

  pub record SafeElse (x : Option (List Laid)) (w : Option (List Walk)) : Type 1 where
    pub slots : (next : ℕ) (sight : List ℕ) → (maybe_walk w next sight).next ≡ next + (else_size x).slot
    pub goes : (p : Position) (around : Around) (next b : ℕ) (without : Option Class) (sight : List ℕ) (V : Slots)
        → Stood (maybe_walk w p.slot sight) sight V (else_parts s x without p around next b)
        → (k : ℕ) → Onward k around next V → Safe s.goto.blocks k b V

  -- ---- rows

  pub no_row : SafeRow [] []
  no_row = record {
    slots = λ a sight. omega arith;
    before = λ a sight h. h;
    goes = λ a p is around next sight V stood k on. on.follows;
  }

  pub more_row : (x : Laid) (w : Walk) (xs : List Laid) (ws : List Walk) → SafeStatement x w → SafeRow xs ws → SafeRow (x ∷ xs) (w ∷ ws)
  more_row x w xs ws f r = record {
    slots = λ a sight. omega (arith, r.slots (behind a (w a.next sight)) sight, f.slots a.next sight);
    before = λ a sight h. every_left ReadsInSight a.exprs (w a.next sight).exprs (r.before (behind a (w a.next sight)) sight h);
    goes = λ a p is around next sight V stood k on.
        let mine : InSight (w a.next sight) =
        every_right ReadsInSight a.exprs (w a.next sight).exprs (r.before (behind a (w a.next sight)) sight stood.reads) in
        let middle = first_block s (length xs) (p.node + x.size.node) next in
        let front_parts = x.parts s p around middle in
        let back_parts = row_parts s xs (after p x.size) around next in
        f.goes p around middle sight V (record {
          reads = subst (λ j. InSight (w j sight)) is mine;
          sees = stood.sees;
          stand = left s.goto.blocks front_parts back_parts stood.stand;
        }) k (record {
          follows = r.goes (behind a (w a.next sight)) (after p x.size) (omega (arith, f.slots a.next sight, is)) around next sight V (record {
            reads = stood.reads;
            sees = stood.sees;
            stand = right s.goto.blocks front_parts back_parts stood.stand;
          }) k on;
          leaves = on.leaves;
        });
  }

  -- ---- arms

  pub no_arms : SafeArms [] []
  no_arms = record {
    slots = λ a sight. omega arith;
    before = λ a sight h. h;
    goes = λ a p is around next b sight V stood k on lacks. lacks;
  }

  abbrev pub laid_arm : Expr → List Laid → LaidArm
  laid_arm test body = record { test = test; size = after with_expr (row_size body); body = body }

  abbrev pub arm_walk : Expr → List Walk → Walk
  arm_walk test body = and_walk (one_expr test) (all_walks body)

  pub more_arms : (test : Expr) (x : List Laid) (w : List Walk) (xs : List LaidArm) (ws : List Walk) → SafeRow x w → SafeArms xs ws
      → SafeArms (laid_arm test x ∷ xs) (arm_walk test w ∷ ws)
  more_arms test x w xs ws f r = record {
    slots = λ a sight.
        omega (arith, r.slots (behind a (arm_walk test w a.next sight)) sight, f.slots (no_expr a.next sight) sight);
    before = λ a sight h.
        let walked = arm_walk test w a.next sight in
        every_left ReadsInSight a.exprs walked.exprs (r.before (behind a walked) sight h);
    goes = λ a p is around next b sight V stood k on lacks.
        let walked = arm_walk test w a.next sight in
        let mine : InSight walked = every_right ReadsInSight a.exprs walked.exprs (r.before (behind a walked) sight stood.reads) in
        let inside = after p with_expr in
        let rest = after p (after with_expr (row_size x)) in
        let front_parts = row_parts s x inside around next in
        let back_parts = arms_parts s xs rest around next (no_of s.goto b) in
        safe_branch s.goto.blocks k b (first_block s (length x) (p.node + 1) next) (no_of s.goto b) false (source_term p.expr test) V
        stood.stand.1.0 (source_reads V sight p.expr test stood.sees mine.0)
        (f.goes (no_expr a.next sight) inside (omega (arith, is)) around next sight V (record {
          reads = mine.1;
          sees = stood.sees;
          stand = left s.goto.blocks front_parts back_parts stood.stand.1.1;
        }) k on)
        (r.goes (behind a walked) rest (omega (arith, is, f.slots (no_expr a.next sight) sight)) around next (no_of s.goto b) sight V (record {
          reads = stood.reads;
          sees = stood.sees;
          stand = right s.goto.blocks front_parts back_parts stood.stand.1.1;
        }) k on lacks);
  }

  -- ---- ELSE

  pub no_else : SafeElse None None
  no_else = record {
    slots = λ next sight. omega arith;
    goes = λ p around next b without sight V stood k on. lacks k next b without V on.follows stood.stand;
  }
    where
      lacks : (k next b : ℕ) (without : Option Class) (V : Slots) → Safe s.goto.blocks k next V
          → AllStand s.goto.blocks (lack_parts s without b next) → Safe s.goto.blocks k b V
      lacks k next b None V h stand = subst (λ c. Safe s.goto.blocks k c V) (sym stand.0) h
      lacks k next b (Some c) V h stand = safe_fail s.goto.blocks k b c V stand.0

  pub some_else : (x : List Laid) (w : List Walk) → SafeRow x w → SafeElse (Some x) (Some w)
  some_else x w f = record {
    slots = λ next sight. omega (arith, f.slots (no_expr next sight) sight);
    goes = λ p around next b without sight V stood k on.
        subst (λ c. Safe s.goto.blocks k c V) (sym stood.stand.1.0)
        (f.goes (no_expr p.slot sight) (after p a_node) (omega arith) around next sight V (record {
          reads = stood.reads;
          sees = stood.sees;
          stand = stood.stand.1.1;
        }) k on);
  }
