-- The form that is built for a whole function: entry, end, parameters, body. All of its patterns stand.
use Rattle.std.proofs.Common.{◌≡◌, ℕ, ◌+◌, ◌*◌, Bool, true, false, List, [], ◌∷◌, ◌++◌, length, map, replicate, Some, refl, sym, ap, ◌∙◌, subst, arith, length-append, append_assoc}
use Rattle.std.specs.Prelude.{slice_get}
use Rattle.std.proofs.lemmas.List.{length-map}
use Rattle.away_values.specs.declared.types.Ty.{Ty}
use Rattle.away_values.specs.declared.types.Ty.TheVariants as ty
use Rattle.away_trees.specs.declared.statements.Function.{Function}
use Rattle.away_types.specs.declared.slots.Slot.{Slot}
use Rattle.block_forms.specs.Patterns.{shared, is_null, null_of, branches, jumps, returns, fails, node, yes_of, end_in, yes_in}
use Rattle.plsql_meaning.specs.Outcomes.{no_return}
use Rattle.block_forms.specs.Laid.{Setting, laid}
use Rattle.block_forms.specs.Intos.{into_targets}
use Rattle.block_forms.specs.Slots.{slot, variables, param_slots, shown_types, hidden_slot}
use Rattle.block_forms.specs.OwnSlots.{OwnSlots}
use Rattle.block_forms.specs.Lowered.{all_parts, setting, numbers_of, body_place, param_parts, params_parts}
use Rattle.goto_lower.specs.Building.{built_of}
use Rattle.goto_lower.specs.Whole.{Params, param_many, param_first, param_firsts, param_blocks, finish, body_of, body_start, body_first, built}
use Rattle.goto_lower.proofs.BuiltRows.{node_is}
use Rattle.goto_lower.proofs.BuiltCounts.{Found}
use Rattle.goto_lower.proofs.BuiltVars.{vars_same}
use Rattle.goto_lower.proofs.BuiltTrees.{good}
use Rattle.goto_lower.proofs.Segments.{Seg, seg_left, seg_right, seg_head, seg_tail, seg_first}
use Rattle.goto_lower.proofs.Covering.{Fine, fine_join, fine_same, fine_shared, fine_many}

module _ (s : Setting) (result : Ty) where
  pub params_length : (strict : Bool) (k : ℕ) (ps : Params) (start body : ℕ) → length (param_blocks s.numbers.fixed strict result k ps start body) ≡ param_many strict ps
  params_length strict k [] start body = refl
  params_length false k (p ∷ ps) start body = params_length false (k + 1) ps start body
  params_length true k (p ∷ ps) start body = omega (arith, params_length true (k + 1) ps (start + 2) body)

  params_nodes : (strict : Bool) (ps : Params) (start body : ℕ) → length (param_firsts strict ps start body) ≡ length ps
  params_nodes strict [] start body = refl
  params_nodes false (p ∷ ps) start body = omega (arith, params_nodes false ps start body)
  params_nodes true (p ∷ ps) start body = omega (arith, params_nodes true ps (start + 2) body)

  -- the node after the parameters is the body's
  first_is : (strict : Bool) (ps : Params) (k start body : ℕ) (more : List ℕ) → Seg s.goto.nodes k (param_firsts strict ps start body ++ more) → slice_get s.goto.nodes (k + length ps) ≡ Some body → node s.goto k ≡ param_first strict ps start body
  first_is strict [] k start body more ns e = node_is s k body (subst (λ i. slice_get s.goto.nodes i ≡ Some body) (let z : k + 0 ≡ k = omega arith in z) e)
  first_is false (p ∷ ps) k start body more ns e = node_is s k _ (seg_head s.goto.nodes (param_firsts false ps start body ++ more) _ k ns)
  first_is true (p ∷ ps) k start body more ns e = node_is s k _ (seg_head s.goto.nodes (param_firsts true ps (start + 2) body ++ more) _ k ns)

  params_stand : (strict : Bool) (k : ℕ) (ps : Params) (start body : ℕ) (more : List ℕ) → Seg s.goto.blocks start (param_blocks s.numbers.fixed strict result k ps start body) → Seg s.goto.nodes k (param_firsts strict ps start body ++ more) → slice_get s.goto.nodes (k + length ps) ≡ Some body → Fine s.goto.blocks start (param_many strict ps) (params_parts s strict result k ps)
  params_stand strict k [] start body more bs ns e = (tt, refl)
  params_stand false k (p ∷ ps) start body more bs ns e =
      let rest = seg_tail s.goto.nodes (param_firsts false ps start body ++ more) (param_first false ps start body) k ns in
      let e' : slice_get s.goto.nodes (k + 1 + length ps) ≡ Some body = subst (λ i. slice_get s.goto.nodes i ≡ Some body) (let z : k + length (p ∷ ps) ≡ k + 1 + length ps = omega arith in z) e in
      fine_same s.goto.blocks (node s.goto k) (node s.goto (k + 1)) (params_parts s false result (k + 1) ps) start (param_many false ps)
      (node_is s k (param_first false ps start body) (seg_head s.goto.nodes (param_firsts false ps start body ++ more) (param_first false ps start body) k ns) ∙ sym (first_is false ps (k + 1) start body more rest e'))
      (params_stand false (k + 1) ps start body more bs rest e')
  params_stand true k (p ∷ ps) start body more bs ns e =
      let B = s.goto.blocks in
      let S = s.numbers.fixed in
      let rest = seg_tail s.goto.nodes (param_firsts true ps (start + 2) body ++ more) start k ns in
      let e' : slice_get s.goto.nodes (k + 1 + length ps) ≡ Some body = subst (λ i. slice_get s.goto.nodes i ≡ Some body) (let z : k + length (p ∷ ps) ≡ k + 1 + length ps = omega arith in z) e in
      let others = param_blocks S true result (k + 1) ps (start + 2) body in
      let x0 = branches false (is_null S p.1 k) (start + 1) (param_first true ps (start + 2) body) in
      let b1 : Seg B (start + 1) (returns (null_of S result) ∷ others) = seg_tail B (returns (null_of S result) ∷ others) x0 start bs in
      let b2 : Seg B (start + 2) others = subst (λ i. Seg B i others) (let z : start + 1 + 1 ≡ start + 2 = omega arith in z) (seg_tail B others (returns (null_of S result)) (start + 1) b1) in
      let here : node s.goto k ≡ start = node_is s k start (seg_head s.goto.nodes (param_firsts true ps (start + 2) body ++ more) start k ns) in
      let h0 : slice_get B (node s.goto k) ≡ Some x0 = ap (slice_get B) here ∙ seg_head B (returns (null_of S result) ∷ others) x0 start bs in
      let y : yes_of s.goto (node s.goto k) ≡ start + 1 = ap (end_in yes_in) h0 in
      let next : node s.goto (k + 1) ≡ param_first true ps (start + 2) body = first_is true ps (k + 1) (start + 2) body more rest e' in
      let two : Fine B start 2 (param_parts s true result k p.1) = (
        (h0 ∙ (λ i. Some (branches false (is_null S p.1 k) (sym y i) (sym next i))), (ap (slice_get B) y ∙ seg_head B others (returns (null_of S result)) (start + 1) b1, tt)),
        (λ i. here i ∷ y i ∷ []),
      ) in
      fine_join B (param_parts s true result k p.1) (params_parts s true result (k + 1) ps) start 2 (param_many true ps) two (params_stand true (k + 1) ps (start + 2) body more b2 rest e')

-- ---- the whole form

whole : {X : Type 0} (xs : List X) → Seg xs 0 xs
whole xs = record { there = λ i y e. subst (λ j. slice_get xs j ≡ Some y) (let z : i ≡ 0 + i = omega arith in z) e }

-- the variables of the body stand behind the parameters
own_vars : (f : Function) (slots : List Slot) → OwnSlots f slots → Seg slots (length f.params) (body_of f slots).vars
unfolding variables built_of
own_vars f slots owned =
    let params = param_slots f.params in
    let hidden = replicate (3 * (laid f.body).size.fors) (slot ty.Integer) ++ map (hidden_slot (shown_types f)) (into_targets f.body) in
    let vars = variables f.body in
    let all : Seg slots 0 (params ++ (vars ++ hidden)) = subst (λ xs. Seg slots 0 xs) (owned.slots_are ∙ append_assoc params vars hidden) (whole slots) in
    let rest : Seg slots (0 + length f.params) (vars ++ hidden) = seg_right slots params (vars ++ hidden) 0 (length f.params) (length-map f.params (λ (p : List ℕ × Ty). slot p.1)) all in
    let behind : 0 + length f.params ≡ length f.params = omega arith in
    subst (λ xs. Seg slots (length f.params) xs) (sym (vars_same (numbers_of f) slots finish f.body)) (subst (λ k. Seg slots k vars) behind (seg_left slots vars hidden (0 + length f.params) rest))

pub built_stands : (f : Function) (slots : List Slot) → OwnSlots f slots → Found (setting f slots (built f slots)) →
    Fine (built f slots).blocks 0 (length (built f slots).blocks) (all_parts f slots (built f slots))
unfolding laid built_of
built_stands f slots owned found =
    let s = setting f slots (built f slots) in
    let B = s.goto.blocks in
    let N = s.goto.nodes in
    let g = good s found f.body in
    let first = body_first f slots in
    let params = param_blocks s.numbers.fixed f.strict f.result 0 f.params 2 first in
    let body = (body_of f slots).blocks (body_place f) [] 1 (body_start f) in
    let p_firsts = param_firsts f.strict f.params 2 first in
    let b_firsts = (body_of f slots).firsts (body_start f) 1 in
    let x0 = jumps false (param_first f.strict f.params 2 first) in
    let b1 : Seg B (0 + 1) (fails no_return ∷ (params ++ body)) = seg_tail B (fails no_return ∷ (params ++ body)) x0 0 (whole B) in
    let b2 : Seg B (0 + 1 + 1) (params ++ body) = seg_tail B (params ++ body) (fails no_return) (0 + 1) b1 in
    let b3 : Seg B (body_start f) body = seg_right B params body 2 (param_many f.strict f.params) (params_length s f.result f.strict 0 f.params 2 first) b2 in
    let zero_more : 0 + length f.params ≡ length f.params = omega arith in
    let n1 : Seg N (length f.params) b_firsts = subst (λ i. Seg N i b_firsts) zero_more (seg_right N p_firsts b_firsts 0 (length f.params) (params_nodes s f.result f.strict f.params 2 first) (whole N)) in
    let v1 : Seg slots (length f.params) (body_of f slots).vars = own_vars f slots owned in
    let at_body : slice_get N (0 + length f.params) ≡ Some first = ap (slice_get N) zero_more ∙ seg_first N b_firsts first (length f.params) (g.first_is (body_start f) 1) n1 in
    let at_entry : node s.goto 0 ≡ param_first f.strict f.params 2 first = first_is s f.result f.strict f.params 0 2 first b_firsts (whole N) at_body in
    let params_in = params_parts s f.strict f.result 0 f.params in
    let body_in = (laid f.body).parts s (body_place f) [] 1 in
    let m = param_many f.strict f.params in
    let k = (body_of f slots).many in
    let inside : Fine B 2 (m + k) (params_in ++ body_in) =
    fine_join B params_in body_in 2 m k (params_stand s f.result f.strict 0 f.params 2 first b_firsts (seg_left B params body 2 b2) (whole N) at_body) (g.stands (body_place f) [] 1 (body_start f) (omega arith) b3 n1 v1) in
    let behind : Fine B 1 (1 + (m + k)) (shared 1 (fails no_return) ∷ (params_in ++ body_in)) = fine_shared B 1 (fails no_return) (params_in ++ body_in) 1 (m + k) refl refl inside in
    let all : Fine B 0 (1 + (1 + (m + k))) (all_parts f slots (built f slots)) =
    fine_shared B 0 (jumps false (node s.goto 0)) (shared 1 (fails no_return) ∷ (params_in ++ body_in)) 0 (1 + (m + k)) refl (ap (λ k. Some (jumps false k)) (sym at_entry)) behind in
    let long : 1 + (1 + (m + k)) ≡ length B = omega (arith, length-append params body, params_length s f.result f.strict 0 f.params 2 first, g.many_is (body_place f) [] 1 (body_start f)) in
    fine_many B (all_parts f slots (built f slots)) 0 (1 + (1 + (m + k))) (length B) long all

-- each node has its first block
pub nodes_are : (f : Function) (slots : List Slot) → OwnSlots f slots → Found (setting f slots (built f slots)) → length (built f slots).nodes ≡ length f.params + (laid f.body).size.node
unfolding laid built_of
nodes_are f slots owned found =
    let s = setting f slots (built f slots) in
    let g = good s found f.body in
    let first = body_first f slots in
    length-append (param_firsts f.strict f.params 2 first) ((body_of f slots).firsts (body_start f) 1)
    ∙ (λ i. params_nodes s f.result f.strict f.params 2 first i + g.nodes_are (body_start f) 1 i)
