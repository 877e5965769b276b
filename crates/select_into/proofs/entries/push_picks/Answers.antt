use Rattle.std.proofs.Common.{rules, ◌≡◌, ◌++◌, ◌∷◌, [], map, ap, sym, ◌∙◌, append_assoc}
use Rattle.sql_meaning.specs.Template.{below}
use Rattle.select_into.specs.Entries.{pick_entry}
use Rattle.select_into.proofs.Lists.{one_more_pick}
use Rattle.select_into.proofs.entries.push_picks.Goals as goal

pub loop-place-preserved : goal.loop-place-preserved
loop-place-preserved c =
    let types = c.args.types.now in
    let q = c.args.s.now in
    let before = c.args.list.now in
    let done = map (pick_entry types q) (below c.loop-place.place) in
    let one : c.in_ok-pick_entry.field-0 ≡ pick_entry types q c.loop-place.place = search rules in
    let pushed : c.push.new.self ≡ c.loop-place.list ++ (c.in_ok-pick_entry.field-0 ∷ []) = c.in_ok-push.ensures.ok in
    pushed
    ∙ (λ i. c.loop-place.invariant i ++ (one i ∷ []))
    ∙ append_assoc before done (pick_entry types q c.loop-place.place ∷ [])
    ∙ ap (λ xs. before ++ xs) (sym (one_more_pick types q c.loop-place.place))
