use Rattle.std.proofs.Common.{◌≡◌, ◌+◌, ◌-◌, drop, length, ap, sym, ◌∙◌, length-drop}
use Rattle.std.proofs.lemmas.List.{drop_all}
use Rattle.goto_lower.specs.Building.{first_from, set_many}
use Rattle.goto_lower.proofs.Walk.{drop_here, decls_keep, decls_done}
use Rattle.goto_lower.proofs.assignments.push_decls.Goals as goal

pub loop-i-preserved : goal.loop-i-preserved
loop-i-preserved c =
    let xs = c.args.decls.now in
    let i = c.loop-i.i in
    let x = c.index-decls-i.result in
    let rest = drop (i + 1) xs in
    let d = c.loop-i.draft in
    let behind : c.in_ok-behind.behind ≡ length d.blocks + set_many x.not_null = c.in_ok-behind.ensures ∙ (λ j. c.in_ok-here.ensures j + c.set_many.ensures j) in
    let then_is : c.first_of-then.result ≡ first_from (length rest) (length d.blocks + set_many x.not_null) c.args.next = c.first_of-then.ensures ∙ (λ j. first_from (sym (length-drop (i + 1) xs) j) (behind j) c.args.next) in
    decls_keep c.args.numbers (drop i xs) rest x c.args.next c.first_of-then.result d c.push_decl.new.draft _ (drop_here xs i x c.loop-i-test.true c.index-decls-i.is) then_is c.in_ok-push_decl.ensures c.loop-i.invariant

pub returns : goal.returns
returns c = decls_done c.args.numbers (drop c.loop-i.i c.args.decls.now) c.args.next c.loop-i.draft _ (drop_all c.loop-i.i c.args.decls.now c.loop-i-test.false) c.loop-i.invariant
