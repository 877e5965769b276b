-- The law of the query of forms that belong together.
use Rattle.std.proofs.Common.{◌≡◌, ℕ, zero, suc, ◌<◌, ◌≤◌, ◌^◌, List, length, Option, Some, None, refl, ap, sym, ◌∙◌, subst, arith}
use Rattle.std.specs.Prelude.{slice_get}
use Rattle.std.proofs.lemmas.Option.{slice_get_within}
use Rattle.away_trees.specs.declared.queries.Query.{Query}
use Rattle.away_trees.specs.declared.schemas.Schema.{Schema}
use Rattle.away_trees.specs.declared.statements.Function.{Function}
use Rattle.away_types.specs.declared.slots.Slot.{Slot}
use Rattle.away_types.specs.CheckedFunctions.{IsChecked}
use Rattle.away_values.specs.declared.values.Answer.{Answer}
use Rattle.away_values.specs.declared.values.Answer.TheVariants as answer
use Rattle.away_values.specs.declared.values.Class.{Class}
use Rattle.away_values.specs.declared.values.Value.{Value}
use Rattle.sql_meaning.specs.Context.{Rows}
use Rattle.sql_meaning.specs.Working.{sql}
use Rattle.sql_meaning.proofs.Bounds.{answer_stays}
use Rattle.block_forms.specs.declared.forms.Block.{Block}
use Rattle.block_forms.specs.declared.forms.End.{End}
use Rattle.block_forms.specs.declared.forms.End.TheVariants as jump
use Rattle.block_forms.specs.declared.forms.Goto.{Goto}
use Rattle.block_forms.specs.declared.forms.Ssa.{Ssa}
use Rattle.block_forms.specs.declared.forms.SsaBlock.{SsaBlock}
use Rattle.block_forms.specs.Expressions.{expressions}
use Rattle.block_forms.specs.Forms.{Pairs}
use Rattle.block_forms.specs.Frames.{frame_of}
use Rattle.block_forms.specs.Joined.{bounds_join}
use Rattle.block_forms.specs.Lowered.{Lowered}
use Rattle.block_forms.specs.Machines.{IsOver, Ran, Bounds}
use Rattle.block_forms.specs.Named.{EndRenamed, Named}
use Rattle.block_forms.specs.Places.{Each}
use Rattle.block_forms.specs.Runs.{Frame, ssa_runs}
use Rattle.block_forms.proofs.Pairs.{no_element}
use Rattle.call_forms.specs.declared.forms.Anf.{Anf}
use Rattle.call_forms.specs.declared.forms.AnfBlock.{AnfBlock}
use Rattle.call_forms.specs.declared.forms.CallEnd.{CallEnd}
use Rattle.call_forms.specs.declared.forms.CallEnd.TheVariants.{Go, Pick, Return, Fail}
use Rattle.call_forms.specs.declared.forms.Tail.{Tail}
use Rattle.call_forms.specs.Called.{EndCalled, Called}
use Rattle.call_forms.specs.Columned.{Columned}
use Rattle.call_forms.specs.Merged.{Merged}
use Rattle.call_forms.specs.NormalRuns.{anf_runs}
use Rattle.call_forms.specs.TailRuns.{tail_runs}
use Rattle.call_forms.specs.Templated.{Templated}
use Rattle.call_law.proofs.CalledRuns.{in_lockstep}
use Rattle.call_law.proofs.MergedRuns.{tail_bounds}
use Rattle.function_facts.specs.OverTables.{IsOverTables}
use Rattle.function_facts.specs.Raising as goto
use Rattle.function_facts.proofs.Raising.{raise_classes}
use Rattle.function_facts.proofs.Sources.{over_their_tables}
use Rattle.cte_law.specs.QueryAnswers.{AnswersAs}
use Rattle.cte_law.proofs.Raised.{RaisesClass, RaisesClasses}
use Rattle.cte_law.proofs.Theorem.{query_law}

-- ---- what is raised, from form to form

-- lists as long as one another have an element at each place of the other
module _ {X Y : Type 0} (P : X → Type 0) (Q : Y → Type 0) (xs : List X) (ys : List Y) (same : length ys ≡ length xs)
    (go : (i : ℕ) (x : X) (y : Y) → slice_get xs i ≡ Some x → slice_get ys i ≡ Some y → P x → Q y) where
  each_partner : Each P xs → Each Q ys
  each_partner each i y at = by (slice_get xs i) refl
    where
      by : (o : Option X) → slice_get xs i ≡ o → Q y
      by None e = absurd (omega (arith, no_element xs i e, slice_get_within ys i y at, same))
      by (Some x) e = go i x y e at (each i x e)

renamed_raises : (m : Pairs) (e e' : End) → EndRenamed m e e' → goto.RaisesClass e → goto.RaisesClass e'
renamed_raises m (jump.Jump c) (jump.Jump d) r h = tt
renamed_raises m (jump.Branch t c d) (jump.Branch u c' d') r h = tt
renamed_raises m (jump.Return t) (jump.Return u) r h = tt
renamed_raises m (jump.Fail c) (jump.Fail d) r h = subst (λ (k : Class). goto.RaisesClass (jump.Fail k)) r h
renamed_raises m (jump.Jump c) (jump.Branch u c' d') r h = absurd r
renamed_raises m (jump.Jump c) (jump.Return u) r h = absurd r
renamed_raises m (jump.Jump c) (jump.Fail d) r h = absurd r
renamed_raises m (jump.Branch t c d) (jump.Jump c') r h = absurd r
renamed_raises m (jump.Branch t c d) (jump.Return u) r h = absurd r
renamed_raises m (jump.Branch t c d) (jump.Fail x) r h = absurd r
renamed_raises m (jump.Return t) (jump.Jump c') r h = absurd r
renamed_raises m (jump.Return t) (jump.Branch u c' d') r h = absurd r
renamed_raises m (jump.Return t) (jump.Fail x) r h = absurd r
renamed_raises m (jump.Fail x) (jump.Jump c') r h = absurd r
renamed_raises m (jump.Fail x) (jump.Branch u c' d') r h = absurd r
renamed_raises m (jump.Fail x) (jump.Return u) r h = absurd r

called_raises : (z : Ssa) (a : Anf) (b : ℕ) (e : End) (e' : CallEnd) → EndCalled z a b e e' → goto.RaisesClass e → RaisesClass e'
called_raises z a b e (Go x) is h = tt
called_raises z a b e (Pick u x y) is h = tt
called_raises z a b e (Return u) is h = tt
called_raises z a b (jump.Fail c) (Fail d) is h = subst (λ (k : Class). RaisesClass (Fail k)) (sym is) h
called_raises z a b (jump.Jump c) (Fail d) is h = absurd is
called_raises z a b (jump.Branch t c c') (Fail d) is h = absurd is
called_raises z a b (jump.Return t) (Fail d) is h = absurd is

pub raises : (f : Function) (slots : List Slot) (g : Goto) (z : Ssa) (a : Anf) (n p : ℕ) → Lowered f slots g → Named n p g z → Called g z a → RaisesClasses a
raises f slots g z a n p lowered named called =
    let of_goto = raise_classes f slots g lowered in
    let of_ssa : Each (λ (y : SsaBlock). goto.RaisesClass y.end) z.blocks =
    each_partner (λ (x : Block). goto.RaisesClass x.end) (λ (y : SsaBlock). goto.RaisesClass y.end) g.blocks z.blocks named.as_many_blocks
    (λ i x y at there h. renamed_raises _ x.end y.end (named.blocks i x y at there).end h) of_goto in
    each_partner (λ (y : SsaBlock). goto.RaisesClass y.end) (λ (x : AnfBlock). RaisesClass x.end) z.blocks a.blocks called.as_many_blocks
    (λ i y x at there h. called_raises z a i y.end x.end (called.blocks i y x at there).end h) of_ssa

-- ---- the tail form

module _ (s : Schema) (written f : Function) (slots : List Slot) (g : Goto) (z : Ssa) (a : Anf) (r : Tail) (q : Query) (checked : IsChecked s written f slots)
    (lowered : Lowered f slots g) (named : Named (length slots) (length f.params) g z) (called : Called g z a)
    (templated : Templated f slots (length s.tables) g z a r q) where
  pub tail_answers : (tables : List Rows) (args : List Value) → length tables ≡ length s.tables → length tables < 2 ^ 64
      → AnswersAs q tables args (tail_runs (frame_of f (length slots) g tables) a r args)
  tail_answers tables args many small =
      let few : length s.tables < 2 ^ 64 = subst (λ n. n < 2 ^ 64) many small in
      let over = over_their_tables s written f slots checked few in
      query_law f slots g z a r q tables args small (subst (λ n. Each (IsOverTables n) (expressions f)) (sym many) over)
      (raises f slots g z a (length slots) (length f.params) lowered named called)
      (subst (λ n. Templated f slots n g z a r q) (sym many) templated)

-- ---- answers at smaller bounds

pub more_before : (q : Query) (tables : List Rows) (args : List Value) (j k : ℕ) → j ≤ k → sql q tables args k ≡ answer.More
    → sql q tables args j ≡ answer.More
more_before q tables args j k p h = by (sql q tables args j) refl
  where
    not_more : (x : Answer) → (x ≡ answer.More → ⊥) → sql q tables args j ≡ x → ⊥
    not_more x other e = other (sym e ∙ (sym (answer_stays q tables args j k p (λ m. other (sym e ∙ m))) ∙ h))

    by : (x : Answer) → sql q tables args j ≡ x → sql q tables args j ≡ answer.More
    by (answer.Value v) e = absurd (not_more (answer.Value v) (λ c. cc) e)
    by (answer.Fault c) e = absurd (not_more (answer.Fault c) (λ c. cc) e)
    by answer.More e = e
    by (answer.Shape n) e = absurd (not_more (answer.Shape n) (λ c. cc) e)

-- what a run bounds, the query answers as well
pub answers_below : (q : Query) (tables : List Rows) (args : List Value) (xs ys : ℕ → Ran) → Bounds xs ys → AnswersAs q tables args ys
    → AnswersAs q tables args xs
answers_below q tables args xs ys bounds as_ = record { ends = ends; goes_on = λ k h heads. goes_on k h heads (ys k).heads refl }
  where
    ends : (k : ℕ) → IsOver (xs k).answer → sql q tables args (suc k) ≡ (xs k).answer
    ends k over =
        let same = bounds.answer k (xs k).answer over refl in
        as_.ends k (subst IsOver (sym same) over) ∙ same

    goes_on : (k h : ℕ) → (xs k).heads ≡ suc h → (n : ℕ) → (ys k).heads ≡ n → sql q tables args h ≡ answer.More
    goes_on k h heads zero e = absurd (omega (arith, bounds.heads k, heads, e))
    goes_on k h heads (suc n) e = more_before q tables args h n (omega (arith, bounds.heads k, heads, e)) (as_.goes_on k n e)

-- ---- the SSA form

module _ (s : Schema) (written f : Function) (slots : List Slot) (g : Goto) (z : Ssa) (a : Anf) (r : Tail) (q : Query) (checked : IsChecked s written f slots)
    (lowered : Lowered f slots g) (named : Named (length slots) (length f.params) g z) (called : Called g z a)
    (templated : Templated f slots (length s.tables) g z a r q) (merged : Merged g a r) (columned : Columned slots z a r) where
  pub ssa_answers : (tables : List Rows) (args : List Value) → length tables ≡ length s.tables → length tables < 2 ^ 64
      → AnswersAs q tables args (ssa_runs (frame_of f (length slots) g tables) z args)
  ssa_answers tables args many small =
      let frame : Frame = frame_of f (length slots) g tables in
      let normal : Bounds (ssa_runs frame z args) (anf_runs frame a args) = record {
        answer = λ k x over e. sym (ap (λ (run : Ran). run.answer) (in_lockstep frame z a called args k)) ∙ e;
        heads = λ k. omega (arith, ap (λ (run : Ran). run.heads) (in_lockstep frame z a called args k));
      } in
      answers_below q tables args (ssa_runs frame z args) (tail_runs frame a r args) (bounds_join normal (tail_bounds frame slots z a r merged columned args))
      (tail_answers s written f slots g z a r q checked lowered named called templated tables args many small)
