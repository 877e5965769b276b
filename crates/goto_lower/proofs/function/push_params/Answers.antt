use Rattle.std.proofs.Common.{◌≡◌, false, ℕ, List, ◌≤◌, ◌<◌, ◌+◌, ◌-◌, [], drop, length, get_or, ap, sym, ◌∙◌, subst, arith, length-drop}
use Rattle.std.proofs.lemmas.List.{drop_all}
use Rattle.away_values.specs.declared.types.Ty.{Ty}
use Rattle.away_values.specs.declared.types.Ty.TheVariants as ty
use Rattle.block_forms.specs.Patterns.{branches}
use Rattle.block_forms.specs.Patterns as block
use Rattle.goto_lower.specs.Building.{first_from}
use Rattle.goto_lower.specs.Drafts.{begun, pushed}
use Rattle.goto_lower.proofs.Walk.{drop_here, same_item}
use Rattle.goto_lower.proofs.WholeWalk.{params_end, plain_param, strict_param}
use Rattle.goto_lower.proofs.function.push_params.Goals as goal
use Rattle.goto_lower.proofs.function.push_params.Goals.{then-f+in_ok-start+in_ok-other+in_ok-test+in_ok-begin+in_ok-sum+in_ok-push+in_ok-null_of+in_ok-push-2, else-f+in_ok-begin-2}

pub loop-i-preserved : goal.loop-i-preserved
loop-i-preserved c =
    let f = c.args.f.now in
    let n = c.args.numbers in
    let i = c.loop-i.i in
    let d = c.loop-i.draft in
    let rest = drop (i + 1) f.params in
    let lt : i < length f.params = omega (arith, c.len-i-end.ensures, c.loop-i-test.true) in
    elim c.if-f.branch [
      | then-f+in_ok-start+in_ok-other+in_ok-test+in_ok-begin+in_ok-sum+in_ok-push+in_ok-null_of+in_ok-push-2 w ↦
          let x = w.index-as_slice-i.result in
          let is : x ≡ get_or f.params i x = w.index-as_slice-i.is ∙ ap (λ xs. get_or xs i x) w.as_slice.ensures in
          let start : w.in_ok-start.start ≡ length d.blocks = w.in_ok-start.ensures in
          let other : w.in_ok-other.other ≡ length d.blocks + 2 = w.in_ok-other.ensures ∙ ap (λ k. k + 2) start in
          let next : w.first_of-next.result ≡ first_from (length rest) (length d.blocks + 2) c.args.body =
          w.first_of-next.ensures ∙ (λ j. first_from ((ap (λ k. k - (i + 1)) w.len.ensures ∙ sym (length-drop (i + 1) f.params)) j) (other j) c.args.body) in
          let one : w.in_ok-sum.field-0 ≡ length d.blocks + 1 = w.in_ok-sum.ensures ∙ ap (λ k. k + 1) start in
          strict_param n f.result c.args.body f.strict (drop i f.params) rest x w.first_of-next.result w.in_ok-sum.field-0 d w.begin.new.self w.push.new.self c.if-f.draft _
          w.if-f.true (drop_here f.params i x lt is) next one
          (w.in_ok-begin.ensures ∙ (λ j. begun (w.place.ensures j) (start j) d))
          (w.in_ok-push.ensures ∙ ap (λ b. pushed b w.begin.new.self) (w.branches.ensures ∙ ap (λ t. branches false t w.in_ok-sum.field-0 w.first_of-next.result) (w.in_ok-test.ensures ∙ ap (λ (y : List ℕ × Ty). block.is_null n.fixed y.1 d.place.slot) (sym w.index-as_slice-i.is))))
          (w.draft-is ∙ w.in_ok-push-2.ensures ∙ ap (λ b. pushed b w.push.new.self) (w.returns.ensures ∙ ap (λ t. block.returns t) w.in_ok-null_of.ensures))
          c.loop-i.invariant
      | else-f+in_ok-begin-2 w ↦
          let x = get_or f.params i ([], ty.Bigint) in
          plain_param n f.result c.args.body f.strict (drop i f.params) rest x d c.if-f.draft _
          w.if-f.false (drop_here f.params i x lt (same_item f.params i ([], ty.Bigint) lt))
          (w.draft-is ∙ w.in_ok-begin-2.ensures ∙ ap (λ p. begun p c.args.body d) w.place-else-f.ensures)
          c.loop-i.invariant
    ]

pub returns : goal.returns
returns c =
    let f = c.args.f.now in
    let over : length f.params ≤ c.loop-i.i = omega (arith, c.len-i-end.ensures, c.loop-i-test.false) in
    params_end c.args.numbers f.result c.args.body f.strict (drop c.loop-i.i f.params) c.loop-i.draft _ (drop_all c.loop-i.i f.params over) c.loop-i.invariant
