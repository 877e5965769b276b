use Rattle.std.proofs.Common.{ap, ◌∙◌, map}
use Rattle.std.proofs.lemmas.Result.{IfOk-weaker}
use Rattle.inline_calls.specs.Leaves.{leaf_of, place_of}
use Rattle.inline_calls.specs.Moving.{item_in}
use Rattle.inline_calls.specs.declared.leaves.Moves.TheVariants.{Nulls}
use Rattle.inline_calls.proofs.JudgedRules.{nulls_stand}
use Rattle.inline_calls.proofs.judged.without_calls.Goals as goal

pub returns : goal.returns
returns c =
    let moves = Nulls c.args.ty in
    IfOk-weaker c.moved_items.result _ _
    (λ xs is. is ∙ ap (λ list. map (item_in (leaf_of moves) (place_of moves) 0) list) c.as_slice.ensures ∙ nulls_stand c.args.ty _)
    c.moved_items.ensures
