-- A normal form runs in lockstep with its SSA form.
use Rattle.std.proofs.Common.{◌≡◌, ℕ, zero, suc, Bool, true, false, cond, List, [], ◌∷◌, map, length, Option, Some, None, Ok, Err, refl, sym, ap, ◌∙◌, subst, arith}
use Rattle.std.specs.Prelude.{slice_get, nat_eq}
use Rattle.std.proofs.lemmas.Bool.{eqb-true, eqb-false}
use Rattle.std.proofs.lemmas.Option.{same_Some, slice_get_within}
use Rattle.away_values.specs.declared.values.Value.{Value}
use Rattle.away_values.specs.declared.values.Value.TheVariants as val
use Rattle.away_values.specs.Operators.{is_true}
use Rattle.away_values.specs.Results.{Or}
use Rattle.block_forms.specs.declared.forms.Term.{Term}
use Rattle.block_forms.specs.declared.forms.End.{End}
use Rattle.block_forms.specs.declared.forms.End.TheVariants as jump
use Rattle.block_forms.specs.declared.forms.Phi.{Phi}
use Rattle.block_forms.specs.declared.forms.SsaBlock.{SsaBlock}
use Rattle.block_forms.specs.declared.forms.Ssa.{Ssa}
use Rattle.block_forms.specs.Forms.{Assignment, source}
use Rattle.block_forms.specs.Places.{Each, EachPair}
use Rattle.block_forms.specs.Runs.{Frame, way, is_head, term_value, branch, end_move, assigned, block_move, in_names, value_of, entered, entering, ssa_visit, ssa_machine, first_values, ssa_runs}
use Rattle.block_forms.proofs.AlikeMachines.{AlikeMoves, AlikeMachines, runs_alike}
use Rattle.block_forms.proofs.Pairs.{no_element}
use Rattle.call_forms.specs.declared.forms.Call.{Call}
use Rattle.call_forms.specs.declared.forms.CallEnd.{CallEnd}
use Rattle.call_forms.specs.declared.forms.CallEnd.TheVariants.{Go, Pick, Return, Fail}
use Rattle.call_forms.specs.declared.forms.AnfBlock.{AnfBlock}
use Rattle.call_forms.specs.declared.forms.Anf.{Anf}
use Rattle.call_forms.specs.Called.{Among, with_assigned, AssignmentReads, EndReads, Passes, CallOf, EndCalled, Called}
use Rattle.call_forms.specs.Forms.{params_of}
use Rattle.call_forms.specs.NormalRuns.{AtBlock, chosen, called, picked, call_move, assigned_call, anf_move, anf_visit, anf_machine, first_scope, anf_runs}
use Rattle.call_forms.specs.Scopes.{Scope, paired}

-- both scopes have one value for each name
abbrev pub Agree : List ℕ → Scope Value → Scope Value → Type 0
Agree names f g = Each (λ n. f n ≡ g n) names

-- what is read or passed has one value as well
agree_among : (own names : List ℕ) (f g : Scope Value) → Agree own f g → Each (Among own) names → Agree names f g
agree_among own names f g agree among i n e = let at = among i n e in agree at.place n at.there

agree_further : (own : List ℕ) (n : ℕ) (v : Value) (f g : Scope Value) → Agree own f g → (i m : ℕ) → slice_get (n ∷ own) i ≡ Some m
    → cond (nat_eq m n) v (f m) ≡ cond (nat_eq m n) v (g m)
agree_further own n v f g agree i m e = go (nat_eq m n) refl i e
  where
    go : (t : Bool) → nat_eq m n ≡ t → (i : ℕ) → slice_get (n ∷ own) i ≡ Some m → cond t v (f m) ≡ cond t v (g m)
    go true h i e = refl
    go false h zero e = absurd (eqb-false m n h (sym (same_Some n m e)))
    go false h (suc i) e = agree i m e

-- ---- calls

-- keys that stand for names, in the scope that knows them alone
paired_step : (k n p i : ℕ) (ks ns : List ℕ) (g : Scope Value) (P : Value → Type 0) → (k ≡ p → P (g n))
    → ((j : ℕ) → slice_get ks j ≡ Some p → P (paired g val.Null ks ns p)) → slice_get (k ∷ ks) i ≡ Some p
    → P (paired g val.Null (k ∷ ks) (n ∷ ns) p)
paired_step k n p i ks ns g P here further e = go (nat_eq k p) refl i e
  where
    go : (t : Bool) → nat_eq k p ≡ t → (i : ℕ) → slice_get (k ∷ ks) i ≡ Some p → P (cond t (g n) (paired g val.Null ks ns p))
    go true h i e = here (eqb-true k p h)
    go false h zero e = absurd (eqb-false k p h (same_Some k p e))
    go false h (suc i) e = further i e

-- each key with its own value
paired_own : (names : List ℕ) (f : Scope Value) (p : ℕ) (i : ℕ) → slice_get names i ≡ Some p → f p ≡ paired f val.Null names names p
paired_own [] f p i e = absurd (cc)
paired_own (k ∷ ks) f p i e =
    paired_step k k p i ks ks f (λ v. f p ≡ v) (λ same. ap f (sym same)) (λ j at. paired_own ks f p j at) e

module _ (frame : Frame) where
  passed_agrees : (phis : List Phi) (b : ℕ) (params args : List ℕ) (f g : Scope Value) → length args ≡ length params
      → EachPair (λ i p n. source phis b p ≡ Some n) params args → Agree args f g → (p i : ℕ) → slice_get params i ≡ Some p
      → value_of frame f (source phis b p) ≡ paired g val.Null params args p
  passed_agrees phis b [] args f g many each agree p i e = absurd (cc)
  passed_agrees phis b (k ∷ ks) [] f g many each agree p i e = absurd (omega (arith, many))
  passed_agrees phis b (k ∷ ks) (n ∷ ns) f g many each agree p i e =
      paired_step k n p i ks ns g (λ v. value_of frame f (source phis b p) ≡ v)
      (λ same. ap (λ p. value_of frame f (source phis b p)) (sym same) ∙ (ap (value_of frame f) (each 0 k n refl refl) ∙ agree 0 n refl))
      (λ j at. passed_agrees phis b ks ns f g (omega (arith, many)) (λ j p n d e. each (suc j) p n d e) (λ j n e. agree (suc j) n e) p j at) e

  passes_agree : (b : ℕ) (o : Option SsaBlock) (q : Option AnfBlock) (args : List ℕ) (f g : Scope Value) → Passes b o q args → Agree args f g
      → Agree (params_of q) (entered frame o b f) (paired g val.Null (params_of q) args)
  passes_agree b None q args f g passes agree = absurd passes
  passes_agree b (Some y) None args f g passes agree = absurd passes
  passes_agree b (Some y) (Some x) args f g passes agree =
      λ i p e. passed_agrees y.phis b x.params args f g passes.as_many passes.each agree p i e

  -- ---- terms

  values_agree : (names : List ℕ) (f g : Scope Value) → Agree names f g → map f names ≡ map g names
  values_agree [] f g agree = refl
  values_agree (n ∷ ns) f g agree =
      let head = agree 0 n refl in
      let tail = values_agree ns f g (λ i n e. agree (suc i) n e) in
      cc

  term_agrees : (own : List ℕ) (t u : Term) (f g : Scope Value) → u ≡ t → Agree own f g → Each (Among own) u.names
      → term_value frame (in_names frame) t f ≡ term_value frame (in_names frame) u g
  term_agrees own t u f g same agree reads =
      ap (λ (t : Term). term_value frame (in_names frame) t f) (sym same)
      ∙ ap (frame.apply u.expr) (values_agree u.names f g (agree_among own u.names f g agree reads))

  module _ (z : Ssa) (a : Anf) where
    -- both runs begin one block, and agree on its parameters
    pub record Meets (s t : AtBlock) : Type 0 where
      same : s.0 ≡ t.0
      agree : Agree (params_of (slice_get a.blocks s.0)) s.1 t.1

    -- ---- ends

    module _ (b : ℕ) (own : List ℕ) (f g : Scope Value) (agree : Agree own f g) where
      call_alike : (c : ℕ) (x : Call) → CallOf z a b c x → Each (Among own) x.args
          → Meets (c, entered frame (slice_get z.blocks c) b f) (called frame a x g)
      call_alike c x call reads = record {
        same = sym call.target;
        agree =
            let here = passes_agree b (slice_get z.blocks c) (slice_get a.blocks c) x.args f g call.passes (agree_among own x.args f g agree reads) in
            let after = entered frame (slice_get z.blocks c) b f in
            subst (λ d. Agree (params_of (slice_get a.blocks c)) after (paired g val.Null (params_of (slice_get a.blocks d)) x.args))
            (sym call.target) here;
      }

      picked_alike : (r q : Or Value) (c d : ℕ) (x y : Call) → r ≡ q → CallOf z a b c x → CallOf z a b d y → Each (Among own) x.args
          → Each (Among own) y.args → AlikeMoves Meets (entering frame z b (branch frame (in_names frame) r c d f)) (picked frame a q x y g)
      picked_alike (Err i) (Err j) c d x y e p q reads reads' = e
      picked_alike (Err i) (Ok w) c d x y e p q reads reads' = absurd (cc)
      picked_alike (Ok v) (Err j) c d x y e p q reads reads' = absurd (cc)
      picked_alike (Ok v) (Ok w) c d x y e p q reads reads' =
          let same : v ≡ w = cc in
          taken (is_true v) (is_true w) (ap is_true same)
        where
          taken : (s t : Bool) → s ≡ t → Meets (way s c d, entered frame (slice_get z.blocks (way s c d)) b f) (called frame a (chosen t x y) g)
          taken true true e = call_alike c x p reads
          taken true false e = absurd (cc)
          taken false true e = absurd (cc)
          taken false false e = call_alike d y q reads'

      end_alike : (e : End) (e' : CallEnd) → EndCalled z a b e e' → EndReads own e'
          → AlikeMoves Meets (entering frame z b (end_move frame (in_names frame) e f)) (call_move frame a e' g)
      end_alike (jump.Jump c) (Go x) is reads = call_alike c x is reads
      end_alike (jump.Branch t c d) (Pick u x y) is reads =
          picked_alike (term_value frame (in_names frame) t f) (term_value frame (in_names frame) u g) c d x y
          (term_agrees own t u f g is.0 agree reads.0) is.1 is.2 reads.1 reads.2
      end_alike (jump.Return t) (Return u) is reads = term_agrees own t u f g is agree reads
      end_alike (jump.Fail c) (Fail d) is reads = ap (λ c. Err c) (sym is)
      end_alike (jump.Jump c) (Pick u x y) is reads = absurd is
      end_alike (jump.Jump c) (Return u) is reads = absurd is
      end_alike (jump.Jump c) (Fail d) is reads = absurd is
      end_alike (jump.Branch t c d) (Go x) is reads = absurd is
      end_alike (jump.Branch t c d) (Return u) is reads = absurd is
      end_alike (jump.Branch t c d) (Fail x) is reads = absurd is
      end_alike (jump.Return t) (Go x) is reads = absurd is
      end_alike (jump.Return t) (Pick u x y) is reads = absurd is
      end_alike (jump.Return t) (Fail x) is reads = absurd is
      end_alike (jump.Fail c) (Go x) is reads = absurd is
      end_alike (jump.Fail c) (Pick u x y) is reads = absurd is
      end_alike (jump.Fail c) (Return u) is reads = absurd is

    -- ---- blocks

    module _ (b : ℕ) (params : List ℕ) (f g : Scope Value) (agree : Agree params f g) (e : End) (e' : CallEnd) (is : EndCalled z a b e e') where
      assigned_alike : (n : ℕ) (r q : Or Value) → r ≡ q → EndReads (n ∷ params) e'
          → AlikeMoves Meets (entering frame z b (assigned frame (in_names frame) n r e f)) (assigned_call frame a n q e' g)
      assigned_alike n (Err i) (Err j) same reads = same
      assigned_alike n (Err i) (Ok w) same reads = absurd (cc)
      assigned_alike n (Ok v) (Err j) same reads = absurd (cc)
      assigned_alike n (Ok v) (Ok w) same reads =
          let equal : v ≡ w = cc in
          let after : Scope Value = (in_names frame).write f n v in
          subst (λ w. AlikeMoves Meets (entering frame z b (end_move frame (in_names frame) e after))
          (call_move frame a e' ((in_names frame).write g n w)))
          equal
          (end_alike b (n ∷ params) after ((in_names frame).write g n v) (agree_further params n v f g agree) e e' is reads)

      move_alike : (p : Assignment) → AssignmentReads params p → EndReads (with_assigned p params) e'
          → AlikeMoves Meets (entering frame z b (block_move frame (in_names frame) p e f)) (anf_move frame a p e' g)
      move_alike None reads ends = end_alike b params f g agree e e' is ends
      move_alike (Some p) reads ends =
          assigned_alike p.0 (term_value frame (in_names frame) p.1 f) (term_value frame (in_names frame) p.1 g)
          (term_agrees params p.1 p.1 f g refl agree reads) ends

    -- ---- runs

    module _ (is : Called frame.goto z a) where
      visit_alike : (b : ℕ) (f g : Scope Value) (o : Option SsaBlock) (q : Option AnfBlock) → slice_get z.blocks b ≡ o → slice_get a.blocks b ≡ q
          → Agree (params_of q) f g → AlikeMoves Meets (entering frame z b (ssa_visit frame o f)) (anf_visit frame a q g)
      visit_alike b f g None None d e agree = tt
      visit_alike b f g None (Some x) d e agree =
          absurd (omega (arith, no_element z.blocks b d, slice_get_within a.blocks b x e, is.as_many_blocks))
      visit_alike b f g (Some y) None d e agree =
          absurd (omega (arith, no_element a.blocks b e, slice_get_within z.blocks b y d, is.as_many_blocks))
      visit_alike b f g (Some y) (Some x) d e agree =
          let block = is.blocks b y x d e in
          let reads = is.reads b x e in
          subst (λ p. AlikeMoves Meets (entering frame z b (block_move frame (in_names frame) p y.end f)) (anf_move frame a x.set x.end g)) block.set
          (move_alike b x.params f g agree y.end x.end block.end x.set reads.set reads.end)

      visits_alike : (s t : AtBlock) → Meets s t → AlikeMoves Meets ((ssa_machine frame z).visit s) ((anf_machine frame a).visit t)
      visits_alike s t meets =
          let here = visit_alike s.0 s.1 t.1 (slice_get z.blocks s.0) (slice_get a.blocks s.0) refl refl meets.agree in
          let before = entering frame z s.0 (ssa_visit frame (slice_get z.blocks s.0) s.1) in
          subst (λ b. AlikeMoves Meets before (anf_visit frame a (slice_get a.blocks b) t.1)) meets.same here

      machines_alike : AlikeMachines Meets (ssa_machine frame z) (anf_machine frame a)
      machines_alike = record {
        heads = λ s t meets. ap (λ b. is_head (slice_get frame.goto.blocks b)) meets.same;
        visits = visits_alike;
      }

      pub in_lockstep : (args : List Value) (k : ℕ) → ssa_runs frame z args k ≡ anf_runs frame a args k
      in_lockstep args k =
          let entry = frame.goto.entry in
          let params : List ℕ = params_of (slice_get a.blocks entry) in
          runs_alike Meets (ssa_machine frame z) (anf_machine frame a) machines_alike k (entry, first_values frame args)
          (entry, first_scope frame a args) 0
          (record { same = refl; agree = λ i p e. paired_own params (first_values frame args) p i e })
