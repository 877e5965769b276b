-- The worked forms are related, and their runs compute.
use Rattle.std.proofs.Common.{◌≡◌, ◌≢◌, ℕ, zero, suc, ◌<◌, List, [], ◌∷◌, Some, None, refl, subst, arith, inl, inr}
use Rattle.std.specs.Prelude.{slice_get}
use Rattle.std.proofs.lemmas.Option.{same_Some}
use Rattle.away_trees.specs.declared.statements.Stmt.TheBlock as b
use Rattle.away_trees.specs.declared.queries.Expr.TheBlock as e
use Rattle.away_trees.specs.declared.queries.Expr.TheViews as view
use Rattle.away_values.specs.Operators.{literal_type}
use Rattle.block_forms.specs.Expressions.{sources}
use Rattle.block_forms.specs.declared.forms.SsaBlock.{SsaBlock}
use Rattle.block_forms.specs.Places.{Each, Distinct}
use Rattle.block_forms.specs.Worked.{bigint, sign_of, sign_of_form}
use Rattle.call_forms.specs.Called.{itself, Among, ParametersOf, ReadsOwn, PassesNames, BlockCalled, Called}
use Rattle.call_forms.specs.Columned.{HasType, type_of_name, PlacesOf, PlacesAt}
use Rattle.call_forms.specs.Forms.{AnfBlock, label_of}
use Rattle.call_forms.specs.Merged.{AtCalls, MayMerge}
use Rattle.call_forms.specs.Templated.{PassesKnown, Templated}
use Rattle.call_forms.specs.Useful.{IsUseful}
use Rattle.call_forms.specs.Worked.{sign_of_ssa, sign_of_anf, sign_of_labels, sign_of_merged, sign_of_query, WorkedCalls, WorkedCallRuns, WorkedQueries}
use Rattle.call_forms.proofs.Elements.{no_elements, first_element, no_pairs, first_pair, none_distinct, one_distinct, one_more_distinct}
use Rattle.call_forms.proofs.TightExample.{merged_is_tight}

-- ---- lists of no name and of one

only_zero : Among (0 ∷ []) 0
only_zero = record { place = 0; there = refl }

-- what holds of 0 holds of each element of the list of 0
of_zero : (P : ℕ → Type 0) → P 0 → Each P (0 ∷ [])
of_zero P here = first_element (λ i. P) 0 [] here (no_elements (λ i. P))

of_none : (P : ℕ → Type 0) → Each P []
of_none P = no_elements (λ i. P)

among_zero : Each (Among (0 ∷ [])) (0 ∷ [])
among_zero = of_zero (Among (0 ∷ [])) only_zero

no_names : Each (Among []) []
no_names = of_none (Among [])

none_from_zero : Each (Among (0 ∷ [])) []
none_from_zero = of_none (Among (0 ∷ []))

zero_below : 0 < 1
zero_below = omega arith

passes_zero : (b : ℕ) → PassesNames [] b (0 ∷ []) (0 ∷ [])
passes_zero b = record { as_many = refl; each = first_pair (λ i p n. Some p ≡ Some n) 0 0 [] [] refl (no_pairs (λ i p n. Some p ≡ Some n) []) }

passes_none : (b : ℕ) → PassesNames [] b [] []
passes_none b = record { as_many = refl; each = no_pairs (λ i p n. Some p ≡ Some n) [] }

-- ---- the normal form

parameters_at : (i : ℕ) (x : AnfBlock) → slice_get sign_of_anf.blocks i ≡ Some x → ParametersOf 1 x
parameters_at zero x e = subst (ParametersOf 1) (same_Some _ _ e) (record { distinct = one_distinct 0; of_form = of_zero (λ p. p < 1) zero_below })
parameters_at (suc zero) x e =
    subst (ParametersOf 1) (same_Some _ _ e)
    (record { distinct = one_distinct 0; of_form = of_zero (λ p. p < 1) zero_below })
parameters_at (suc (suc zero)) x e = subst (ParametersOf 1) (same_Some _ _ e) (record { distinct = none_distinct; of_form = of_none (λ p. p < 1) })
parameters_at (suc (suc (suc zero))) x e =
    subst (ParametersOf 1) (same_Some _ _ e)
    (record { distinct = none_distinct; of_form = of_none (λ p. p < 1) })
parameters_at (suc (suc (suc (suc zero)))) x e =
    subst (ParametersOf 1) (same_Some _ _ e)
    (record { distinct = none_distinct; of_form = of_none (λ p. p < 1) })
parameters_at (suc (suc (suc (suc (suc i))))) x e = absurd (cc)

reads_at : (i : ℕ) (x : AnfBlock) → slice_get sign_of_anf.blocks i ≡ Some x → ReadsOwn x
reads_at zero x e = subst (ReadsOwn) (same_Some _ _ e) (record { set = tt; end = among_zero })
reads_at (suc zero) x e = subst (ReadsOwn) (same_Some _ _ e) (record { set = tt; end = (among_zero, none_from_zero, none_from_zero) })
reads_at (suc (suc zero)) x e = subst (ReadsOwn) (same_Some _ _ e) (record { set = tt; end = no_names })
reads_at (suc (suc (suc zero))) x e = subst (ReadsOwn) (same_Some _ _ e) (record { set = tt; end = no_names })
reads_at (suc (suc (suc (suc zero)))) x e = subst (ReadsOwn) (same_Some _ _ e) (record { set = tt; end = tt })
reads_at (suc (suc (suc (suc (suc i))))) x e = absurd (cc)

called_at : (i : ℕ) (y : SsaBlock) (x : AnfBlock) → slice_get sign_of_ssa.blocks i ≡ Some y
    → slice_get sign_of_anf.blocks i ≡ Some x → BlockCalled sign_of_ssa sign_of_anf i y x
called_at zero y x d e =
    subst (λ y. BlockCalled sign_of_ssa sign_of_anf 0 y x) (same_Some _ _ d)
    (subst (BlockCalled sign_of_ssa sign_of_anf 0 _) (same_Some _ _ e)
    (record { set = refl; end = record { target = refl; passes = passes_zero 0 } }))
called_at (suc zero) y x d e =
    subst (λ y. BlockCalled sign_of_ssa sign_of_anf 1 y x) (same_Some _ _ d)
    (subst (BlockCalled sign_of_ssa sign_of_anf 1 _) (same_Some _ _ e)
    (record {
      set = refl;
      end = (
        refl,
        record { target = refl; passes = passes_none 1 },
        record { target = refl; passes = passes_none 1 },
      );
    }))
called_at (suc (suc zero)) y x d e =
    subst (λ y. BlockCalled sign_of_ssa sign_of_anf 2 y x) (same_Some _ _ d)
    (subst (BlockCalled sign_of_ssa sign_of_anf 2 _) (same_Some _ _ e)
    (record { set = refl; end = refl }))
called_at (suc (suc (suc zero))) y x d e =
    subst (λ y. BlockCalled sign_of_ssa sign_of_anf 3 y x) (same_Some _ _ d)
    (subst (BlockCalled sign_of_ssa sign_of_anf 3 _) (same_Some _ _ e)
    (record { set = refl; end = refl }))
called_at (suc (suc (suc (suc zero)))) y x d e =
    subst (λ y. BlockCalled sign_of_ssa sign_of_anf 4 y x) (same_Some _ _ d)
    (subst (BlockCalled sign_of_ssa sign_of_anf 4 _) (same_Some _ _ e)
    (record { set = refl; end = refl }))
called_at (suc (suc (suc (suc (suc i))))) y x d e = absurd (cc)

sign_of_called : Called sign_of_form sign_of_ssa sign_of_anf
sign_of_called = record {
  as_many_blocks = refl;
  parameters = parameters_at;
  reads = reads_at;
  blocks = called_at;
  entry = of_zero _ (record { place = 0; slot = 0; there = refl });
}

-- the test reads the parameter of block 1, and block 0 passes its own to it
useful_one : IsUseful sign_of_anf 1 0
useful_one = record { steps = 1; within = inr (tt, inl only_zero) }

useful_zero : IsUseful sign_of_anf 0 0
useful_zero = record {
  steps = 2;
  within = inr (tt, inr (record { place = 0; parameter = 0; argument_is = refl; parameter_is = refl; holds = inr (tt, inl only_zero) }));
}

useful_at : (i : ℕ) (x : AnfBlock) → slice_get sign_of_anf.blocks i ≡ Some x → Each (IsUseful sign_of_anf i) x.params
useful_at zero x e = subst (λ (x : AnfBlock). Each (IsUseful sign_of_anf 0) x.params) (same_Some _ _ e) (of_zero (IsUseful sign_of_anf 0) useful_zero)
useful_at (suc zero) x e =
    subst (λ (x : AnfBlock). Each (IsUseful sign_of_anf 1) x.params) (same_Some _ _ e)
    (of_zero (IsUseful sign_of_anf 1) useful_one)
useful_at (suc (suc zero)) x e = subst (λ (x : AnfBlock). Each (IsUseful sign_of_anf 2) x.params) (same_Some _ _ e) (of_none (IsUseful sign_of_anf 2))
useful_at (suc (suc (suc zero))) x e =
    subst (λ (x : AnfBlock). Each (IsUseful sign_of_anf 3) x.params) (same_Some _ _ e)
    (of_none (IsUseful sign_of_anf 3))
useful_at (suc (suc (suc (suc zero)))) x e =
    subst (λ (x : AnfBlock). Each (IsUseful sign_of_anf 4) x.params) (same_Some _ _ e)
    (of_none (IsUseful sign_of_anf 4))
useful_at (suc (suc (suc (suc (suc i))))) x e = absurd (cc)

-- ---- the tail forms

one_below : (k : ℕ) → Each (λ y. y ≢ suc k) (0 ∷ [])
one_below k = of_zero (λ y. y ≢ suc k) (λ e. absurd (omega (arith, e)))

labels_differ : Distinct itself (3 ∷ 2 ∷ 1 ∷ 0 ∷ [])
labels_differ =
    one_more_distinct 3 (2 ∷ 1 ∷ 0 ∷ []) (first_element (λ i y. y ≢ 3) 2 (1 ∷ 0 ∷ []) (λ e. absurd (omega (arith, e)))
    (first_element (λ i y. y ≢ 3) 1 (0 ∷ []) (λ e. absurd (omega (arith, e))) (one_below 2)))
    (one_more_distinct 2 (1 ∷ 0 ∷ []) (first_element (λ i y. y ≢ 2) 1 (0 ∷ []) (λ e. absurd (omega (arith, e))) (one_below 1))
    (one_more_distinct 1 (0 ∷ []) (one_below 0) (one_distinct 0)))

labels_below : (i b : ℕ) → slice_get sign_of_labels.labels i ≡ Some b → b < 5
labels_below zero b e = subst (λ b. b < 5) (same_Some _ _ e) (let lt : 3 < 5 = omega arith in lt)
labels_below (suc zero) b e = subst (λ b. b < 5) (same_Some _ _ e) (let lt : 2 < 5 = omega arith in lt)
labels_below (suc (suc zero)) b e = subst (λ b. b < 5) (same_Some _ _ e) (let lt : 1 < 5 = omega arith in lt)
labels_below (suc (suc (suc zero))) b e = subst (λ b. b < 5) (same_Some _ _ e) (let lt : 0 < 5 = omega arith in lt)
labels_below (suc (suc (suc (suc i)))) b e = absurd (cc)

targets_at : (i : ℕ) (x : AnfBlock) → slice_get sign_of_anf.blocks i ≡ Some x → AtCalls (λ b. b < 5) x.end
targets_at zero x e = subst (λ (x : AnfBlock). AtCalls (λ b. b < 5) x.end) (same_Some _ _ e) (let lt : 1 < 5 = omega arith in lt)
targets_at (suc zero) x e =
    subst (λ (x : AnfBlock). AtCalls (λ b. b < 5) x.end) (same_Some _ _ e)
    (let lt : 2 < 5 = omega arith in let lt' : 3 < 5 = omega arith in (lt, lt'))
targets_at (suc (suc zero)) x e = subst (λ (x : AnfBlock). AtCalls (λ b. b < 5) x.end) (same_Some _ _ e) (tt)
targets_at (suc (suc (suc zero))) x e = subst (λ (x : AnfBlock). AtCalls (λ b. b < 5) x.end) (same_Some _ _ e) (tt)
targets_at (suc (suc (suc (suc zero)))) x e = subst (λ (x : AnfBlock). AtCalls (λ b. b < 5) x.end) (same_Some _ _ e) (tt)
targets_at (suc (suc (suc (suc (suc i))))) x e = absurd (cc)

others_labelled : (b : ℕ) → b < 5 → label_of sign_of_labels b ≡ None → MayMerge sign_of_form sign_of_anf b
others_labelled zero lt e = absurd (cc)
others_labelled (suc zero) lt e = absurd (cc)
others_labelled (suc (suc zero)) lt e = absurd (cc)
others_labelled (suc (suc (suc zero))) lt e = absurd (cc)
others_labelled (suc (suc (suc (suc zero)))) lt e = record { no_head = refl; one_call = omega arith }
others_labelled (suc (suc (suc (suc (suc b))))) lt e = absurd (omega (arith, lt))

others_merged : (b : ℕ) → b < 5 → label_of sign_of_merged b ≡ None → MayMerge sign_of_form sign_of_anf b
others_merged zero lt e = absurd (cc)
others_merged (suc zero) lt e = record { no_head = refl; one_call = omega arith }
others_merged (suc (suc zero)) lt e = record { no_head = refl; one_call = omega arith }
others_merged (suc (suc (suc zero))) lt e = record { no_head = refl; one_call = omega arith }
others_merged (suc (suc (suc (suc zero)))) lt e = record { no_head = refl; one_call = omega arith }
others_merged (suc (suc (suc (suc (suc b))))) lt e = absurd (omega (arith, lt))

one_place : PlacesOf (bigint ∷ []) (0 ∷ []) sign_of_labels.columns (0 ∷ []) (0 ∷ [])
one_place = record {
  as_many = refl;
  distinct = one_distinct 0;
  typed = first_pair (λ i p c. HasType (type_of_name (bigint ∷ []) (0 ∷ []) p) (slice_get sign_of_labels.columns c)) 0 0 [] [] refl
      (no_pairs (λ i p c. HasType (type_of_name (bigint ∷ []) (0 ∷ []) p) (slice_get sign_of_labels.columns c)) []);
}

no_place : PlacesOf (bigint ∷ []) (0 ∷ []) sign_of_labels.columns [] []
no_place = record {
  as_many = refl;
  distinct = none_distinct;
  typed = no_pairs (λ i p c. HasType (type_of_name (bigint ∷ []) (0 ∷ []) p) (slice_get sign_of_labels.columns c)) [];
}

abbrev Placed : ℕ → ℕ → List ℕ → Type 0
Placed i b places = PlacesAt (bigint ∷ []) (0 ∷ []) sign_of_labels.columns (slice_get sign_of_anf.blocks b) places

pub forms_are : WorkedCalls
forms_are = record {
  called = sign_of_called;
  useful = record { each = useful_at };
  labels = record {
    labels_differ = labels_differ;
    labels_are_blocks = labels_below;
    entry = record { place = 3; there = refl };
    others = others_labelled;
    calls = targets_at;
  };
  columns = record {
    as_many = refl;
    each = first_pair Placed 3 [] (2 ∷ 1 ∷ 0 ∷ []) ([] ∷ (0 ∷ []) ∷ (0 ∷ []) ∷ []) no_place
        (first_pair Placed 2 [] (1 ∷ 0 ∷ []) ((0 ∷ []) ∷ (0 ∷ []) ∷ []) no_place
        (first_pair Placed 1 (0 ∷ []) (0 ∷ []) ((0 ∷ []) ∷ []) one_place (first_pair Placed 0 (0 ∷ []) [] [] one_place (no_pairs Placed []))));
  };
  merged = record {
    labels_differ = one_distinct 0;
    labels_are_blocks = of_zero (λ b. b < 5) (let lt : 0 < 5 = omega arith in lt);
    entry = only_zero;
    others = others_merged;
    calls = targets_at;
  };
  tight = merged_is_tight;
  merged_columns = record { as_many = refl; each = first_pair Placed 0 (0 ∷ []) [] [] one_place (no_pairs Placed []) };
}

-- ---- runs

pub runs_are : WorkedCallRuns
unfolding sources b.hidden-the_row-Stmt-0 b.hidden-the_row-Arm-1 e.hidden-the_row-Expr-0 e.hidden-the_row-Expr-Chain-1-2-1 denote.Hole.Carrier.hidden
runs_are = record {
  ssa = refl;
  anf = refl;
  anf_goes_on = refl;
  labels = refl;
  labels_go_on = refl;
  merged = refl;
  loop_anf = refl;
  loop_anf_goes_on = refl;
  loop_tail = refl;
  loop_tail_goes_on = refl;
}

-- ---- queries

passes_known : PassesKnown (0 ∷ []) (0 ∷ []) (0 ∷ [])
passes_known = record { known = among_zero; as_many = refl }

passes_nothing : PassesKnown (0 ∷ []) [] []
passes_nothing = record { known = none_from_zero; as_many = refl }

sign_of_templated : Templated sign_of (bigint ∷ []) 0 sign_of_form sign_of_ssa sign_of_anf sign_of_merged sign_of_query
unfolding sources b.hidden-the_row-Stmt-0 b.hidden-the_row-Arm-1 e.hidden-the_row-Expr-0 e.hidden-the_row-Expr-Chain-1-2-1 e.hidden-the_row-Expr-2 e.hidden-the_row-Expr-Cases-0-2-3 e.hidden-the_row-Query-4 e.hidden-the_row-Select-5 e.hidden-the_row-Item-6 e.hidden-the_row-FromItem-7 e.hidden-the_row-Key-8 view.roll-Select view.roll-Recursive view.roll-Query denote.Hole.Carrier.hidden denote.Hole.Carrier.roll literal_type
sign_of_templated = record {
  entry = only_zero;
  trees = of_zero _ (
    passes_known,
    (
      record { known = among_zero; as_many = refl },
      (passes_nothing, record { known = no_names; as_many = refl }),
      (passes_nothing, record { known = no_names; as_many = refl }),
    ),
  );
  query = refl;
}

pub queries_are : WorkedQueries
unfolding sources b.hidden-the_row-Stmt-0 b.hidden-the_row-Arm-1 e.hidden-the_row-Expr-0 e.hidden-the_row-Expr-Chain-1-2-1 e.hidden-the_row-Expr-2 e.hidden-the_row-Expr-Cases-0-2-3 e.hidden-the_row-Query-4 e.hidden-the_row-Select-5 e.hidden-the_row-Item-6 e.hidden-the_row-FromItem-7 e.hidden-the_row-Key-8 view.roll-Select view.roll-Recursive view.roll-Query denote.Hole.Carrier.hidden denote.Hole.Carrier.roll literal_type
queries_are = record { one_return = refl; ends = refl; goes_on = refl; templated = sign_of_templated }
