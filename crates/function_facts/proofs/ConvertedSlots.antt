-- Conversion leaves a statement's variables, sizes and targets as they are, and of its SELECT INTOs the targets.
use Rattle.std.proofs.Common.{◌≡◌, refl, ap, ◌∙◌, ◌+◌, List, [], ◌∷◌, ◌++◌, map, flat_map, Option, Some, None}
use Rattle.away_trees.specs.declared.queries.Expr.{Expr}
use Rattle.away_trees.specs.declared.statements.Decl.{Decl}
use Rattle.away_trees.specs.declared.statements.LoopKind.{LoopKind}
use Rattle.away_trees.specs.declared.statements.LoopKind.TheVariants as kind
use Rattle.away_trees.specs.declared.statements.Stmt.{Stmt}
use Rattle.elaboration.specs.Converting.{Around, converted, decls_converted, into_converted, kind_converted, maybe_converted, maybe_marked}
use Rattle.elaboration_law.proofs.StatementsKept.{statements_kept}
use Rattle.block_forms.specs.Intos.{Into, intos, into_targets, selecting, row_intos, else_intos}
use Rattle.block_forms.specs.Laid.{Laid, LaidArm, after, a_node, arms_size, decls_size, else_size, kind_size, laid, laying, one_if, place, row_size, with_expr}
use Rattle.block_forms.specs.Slots as slots
use Rattle.block_forms.specs.Slots.{declared_slots, declaring, variables}
use Rattle.block_forms.specs.Targets.{targeting, targets}
use Rattle.function_facts.proofs.ConvertedStatements.{Beside, BesideOption, KeepsConverted, statement_kept}

-- ---- variables and targets

decls_same : (a : Around) (ds : List Decl) → declared_slots (decls_converted a ds) ≡ declared_slots ds
decls_same a [] = refl
decls_same a (d ∷ ds) = ap (λ xs. slots.slot_of d ∷ xs) (decls_same a ds)

kind_same : (a : Around) (k : LoopKind) → slots.of_kind (kind_converted a k) ≡ slots.of_kind k
kind_same a kind.Plain = refl
kind_same a (kind.While e) = refl
kind_same a (kind.Count var reverse first last step) = refl

module _ (a : Around) where
  pub variables_same : (x : Stmt) → variables (converted a x) ≡ variables x
  unfolding variables
  variables_same = statements_kept declaring (record {
    block = λ w label decls body closing. ap (λ ys. ys ++ slots.joined body) (decls_same w decls);
    assign = λ name slot x y. refl;
    loop = λ w label k body closing. ap (λ ys. ys ++ slots.joined body) (kind_same w k);
    exit = λ label x y. refl;
    continue = λ label x y. refl;
    return = λ x y. refl;
    into = λ w strict targets query. refl;
    arm = λ x y body. refl;
  }) a

  pub targets_same : (x : Stmt) → targets (converted a x) ≡ targets x
  unfolding targets
  targets_same = statements_kept targeting (record {
    block = λ w label decls body closing. refl;
    assign = λ name slot x y. refl;
    loop = λ w label k body closing. refl;
    exit = λ label x y. refl;
    continue = λ label x y. refl;
    return = λ x y. refl;
    into = λ w strict targets query. refl;
    arm = λ x y body. refl;
  }) a

  -- ---- sizes

  abbrev SameSize : Laid → Laid → Type 0
  SameSize x y = y.size ≡ x.size

  abbrev SameArm : LaidArm → LaidArm → Type 0
  SameArm x y = y.size ≡ x.size

  row_sizes : (xs ys : List Laid) → Beside SameSize xs ys → row_size ys ≡ row_size xs
  row_sizes [] [] h = refl
  row_sizes (x ∷ xs) (y ∷ ys) h = λ i. after (h.0 i) (row_sizes xs ys h.1 i)
  row_sizes _ _ h = absurd h

  arms_sizes : (xs ys : List LaidArm) → Beside SameArm xs ys → arms_size ys ≡ arms_size xs
  arms_sizes [] [] h = refl
  arms_sizes (x ∷ xs) (y ∷ ys) h = λ i. after (h.0 i) (arms_sizes xs ys h.1 i)
  arms_sizes _ _ h = absurd h

  else_sizes : (o p : Option (List Laid)) → BesideOption (Beside SameSize) o p → else_size p ≡ else_size o
  else_sizes None None h = refl
  else_sizes (Some xs) (Some ys) h = ap (after a_node) (row_sizes xs ys h)
  else_sizes _ _ h = absurd h

  one_marked : (o : Option Expr) → one_if (maybe_marked a.places o) ≡ one_if o
  one_marked None = refl
  one_marked (Some e) = refl

  one_converted : (t : _) (o : Option Expr) → one_if (maybe_converted t a.places o) ≡ one_if o
  one_converted t None = refl
  one_converted t (Some e) = refl

  decls_sizes : (ds : List Decl) → decls_size (decls_converted a ds) ≡ decls_size ds
  decls_sizes [] = refl
  decls_sizes (d ∷ ds) = λ i. after (place 1 (one_converted d.ty d.default i) 1 0 0) (decls_sizes ds i)

  kind_sizes : (k : LoopKind) → kind_size (kind_converted a k) ≡ kind_size k
  kind_sizes kind.Plain = refl
  kind_sizes (kind.While e) = refl
  kind_sizes (kind.Count var reverse first last step) = ap (λ n. place 1 (2 + n) 1 1 0) (one_converted a.counter step)

  sizes_kept : KeepsConverted a laying laying SameSize SameArm
  sizes_kept = record {
    block = λ label decls xs ys closing h i. after (after a_node (decls_sizes decls i)) (row_sizes xs ys h i);
    assign = λ name slot e. refl;
    if_ = λ xs ys o p h k i. after (after a_node (arms_sizes xs ys h i)) (else_sizes o p k i);
    cases = λ xs ys o p h k i. after (after a_node (arms_sizes xs ys h i)) (else_sizes o p k i);
    loop = λ label k xs ys closing h i. after (kind_sizes k i) (row_sizes xs ys h i);
    exit = λ label when. ap (λ n. place 1 n 0 0 0) (one_marked when);
    continue = λ label when. ap (λ n. place 1 n 0 0 0) (one_marked when);
    return = λ e. refl;
    raise = λ r. refl;
    into = λ strict targets query. refl;
    nothing = refl;
    arm = λ test xs ys h. ap (after with_expr) (row_sizes xs ys h);
  }

  pub size_same : (x : Stmt) → (laid (converted a x)).size ≡ (laid x).size
  unfolding laid
  size_same = statement_kept a laying laying SameSize SameArm sizes_kept

  -- ---- SELECT INTOs

  abbrev pub of_into : Into → Into
  of_into i = record { targets = i.targets; query = into_converted a i.targets i.query }

  abbrev pub of_intos : List Into → List Into
  of_intos = map of_into

  abbrev AreIntos : List Into → List Into → Type 0
  AreIntos xs ys = ys ≡ of_intos xs

  map_append : (xs ys : List Into) → of_intos xs ++ of_intos ys ≡ of_intos (xs ++ ys)
  map_append [] ys = refl
  map_append (x ∷ xs) ys = ap (λ zs. of_into x ∷ zs) (map_append xs ys)

  both_intos : (xs ys us vs : List Into) → AreIntos xs us → AreIntos ys vs → us ++ vs ≡ of_intos (xs ++ ys)
  both_intos xs ys us vs h k = (λ i. h i ++ k i) ∙ map_append xs ys

  row_are : (xs ys : List (List Into)) → Beside AreIntos xs ys → AreIntos (row_intos xs) (row_intos ys)
  row_are [] [] h = refl
  row_are (x ∷ xs) (y ∷ ys) h = both_intos x (row_intos xs) y (row_intos ys) h.0 (row_are xs ys h.1)
  row_are _ _ h = absurd h

  else_are : (o p : Option (List (List Into))) → BesideOption (Beside AreIntos) o p → AreIntos (else_intos o) (else_intos p)
  else_are None None h = refl
  else_are (Some xs) (Some ys) h = row_are xs ys h
  else_are _ _ h = absurd h

  branched_are : (xs ys : List (List Into)) (o p : Option (List (List Into))) → Beside AreIntos xs ys → BesideOption (Beside AreIntos) o p
      → AreIntos (row_intos xs ++ else_intos o) (row_intos ys ++ else_intos p)
  branched_are xs ys o p h k = both_intos (row_intos xs) (else_intos o) (row_intos ys) (else_intos p) (row_are xs ys h) (else_are o p k)

  pub intos_are : (x : Stmt) → intos (converted a x) ≡ of_intos (intos x)
  unfolding intos
  intos_are = statement_kept a selecting selecting AreIntos AreIntos (record {
    block = λ label decls xs ys closing h. row_are xs ys h;
    assign = λ name slot e. refl;
    if_ = branched_are;
    cases = branched_are;
    loop = λ label k xs ys closing h. row_are xs ys h;
    exit = λ label when. refl;
    continue = λ label when. refl;
    return = λ e. refl;
    raise = λ r. refl;
    into = λ strict targets query. refl;
    nothing = refl;
    arm = λ test xs ys h. row_are xs ys h;
  })

  same_targets : (is : List Into) → flat_map (λ (i : Into). i.targets) (of_intos is) ≡ flat_map (λ (i : Into). i.targets) is
  same_targets [] = refl
  same_targets (i ∷ is) = ap (λ ts. i.targets ++ ts) (same_targets is)

  pub into_targets_same : (x : Stmt) → into_targets (converted a x) ≡ into_targets x
  into_targets_same x = ap (λ is. flat_map (λ (i : Into). i.targets) is) (intos_are x) ∙ same_targets (intos x)
