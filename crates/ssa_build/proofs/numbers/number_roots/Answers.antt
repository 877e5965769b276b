use Rattle.std.proofs.Common.{ℕ, List, ◌≡◌, ◌+◌, ◌∷◌, [], ◌++◌, length, sym, ap, ◌∙◌, subst, arith}
use Rattle.ssa_build.proofs.Ranks.{Numbered, numbered_one, numbers_all, passed_over}
use Rattle.ssa_build.proofs.numbers.number_roots.Goals as goal
use Rattle.ssa_build.proofs.numbers.number_roots.Goals.{then-into-name+in_ok-push-2, else-into-name}

pub returns : goal.returns
returns c = numbers_all c.args.slots.now c.args.into.now c.loop-name.numbers.items c.loop-name.names c.loop-name.name (omega (arith, c.loop-name-test.false, c.loop-name.auto.name-end)) c.loop-name.invariant

same : (slots into : List ℕ) (i : ℕ) {a b c d : List ℕ} → Numbered slots into a b (i + 1) → c ≡ a → d ≡ b → Numbered slots into c d (i + 1)
same slots into i {a} {b} {c} {d} h e f = subst (λ v. Numbered slots into v d (i + 1)) (sym e) (subst (λ v. Numbered slots into a v (i + 1)) (sym f) h)

pub loop-name-preserved : goal.loop-name-preserved
loop-name-preserved c =
    let slots = c.args.slots.now in
    let into = c.args.into.now in
    let names = c.loop-name.names in
    let i = c.loop-name.name in
    let len : c.len.result ≡ length names = c.len.ensures in
    let numbers : c.push.new.self.items ≡ c.loop-name.numbers.items ++ length names ∷ [] = c.in_ok-push.ensures.items ∙ ap (λ n. c.loop-name.numbers.items ++ n ∷ []) len in
    elim c.if-into-name.branch [
      | then-into-name+in_ok-push-2 w ↦ same slots into i (numbered_one slots into c.loop-name.numbers.items names i c.loop-name.invariant w.if-into-name.true) numbers (w.names-is ∙ w.in_ok-push-2.ensures.ok)
      | else-into-name w ↦ same slots into i (passed_over slots into c.loop-name.numbers.items names i c.loop-name.invariant w.if-into-name.false) numbers w.names-is
    ]
