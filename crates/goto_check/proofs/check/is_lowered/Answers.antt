use Rattle.std.proofs.Common.{◌≡◌, ◌+◌, ◌*◌, true, ◌↔◌, IsTrue, length, refl, sym, ◌∙◌, subst}
use Rattle.block_forms.specs.Laid.{laid}
use Rattle.block_forms.specs.Lowered.{AllStand, numbers_of, parts_in}
use Rattle.goto_check.specs.declared.asking.Asking.{Asking}
use Rattle.goto_check.specs.declared.asking.Question.TheVariants as question
use Rattle.goto_check.specs.Asking.{numbers_in, setting_in}
use Rattle.goto_check.proofs.Deciding.{decided}
use Rattle.goto_check.proofs.Questions.{none_fails}
use Rattle.goto_check.proofs.check.is_lowered.Goals as goal

pub returns : goal.returns
returns c =
    let f = c.args.f.now in
    let g = c.args.g.now in
    let size = c.size_of-size.result in
    let a : Asking = record { goto = c.args.g; slots = c.args.slots; fixed = size.expr; counters = c.len.result + size.slot; targets = c.len.result + size.slot + 3 * size.fors; question = question.Fails } in
    let ps = parts_in (setting_in a) f in
    let at : numbers_in a ≡ numbers_of f = λ i. record { fixed = (c.size_of-size.ensures i).expr; counters = c.len.ensures i + (c.size_of-size.ensures i).slot; targets = c.len.ensures i + (c.size_of-size.ensures i).slot + 3 * (c.size_of-size.ensures i).fors } in
    let has : IsTrue c.has_nodes.result = subst (λ b. IsTrue b) (sym c.if-not-has_nodes.false) (let t : IsTrue true = search in t) in
    let as_many : length g.nodes ≡ length f.params + (laid f.body).size.node = sym c.nodes_given.ensures.value ∙ c.has_nodes.ensures.0 has in
    let fails = c.is_empty.ensures in
    let none = none_fails a ps refl in
    let at_fails = c.ask_function-fails.ensures in
    let stand : IsTrue c.is_empty.result ↔ AllStand g.blocks ps = (λ t. none.0 (sym at_fails ∙ fails.0 t), λ s. fails.1 (at_fails ∙ none.1 s)) in
    decided f c.args.slots.now g (numbers_in a) c.is_empty.result c.each_once.result c.no_way_to.result c.slots_below.result at as_many stand
    c.each_once.ensures
    (rw c.as_slice.ensures at c.no_way_to.ensures)
    (rw c.as_slice-2.ensures at c.slots_below.ensures)
