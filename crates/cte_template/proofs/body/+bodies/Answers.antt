use Rattle.std.proofs.Common.{List, ◌≡◌, ◌≤◌, ◌<◌, ◌+◌, ◌-◌, ◌*◌, ◌∷◌, ◌++◌, [], ap, refl, sym, ◌∙◌, subst, map, length, arith}
use Rattle.std.specs.Option.{option_copied}
use Rattle.away_values.specs.declared.types.Ty.{Ty}
use Rattle.away_values.specs.declared.types.Ty.TheVariants as ty
use Rattle.call_forms.specs.Bodies.{picks}
use Rattle.sql_meaning.specs.Trees.{item, null_of}
use Rattle.cte_template.specs.Making.{Making, making}
use Rattle.cte_template.specs.Places.{place_of}
use Rattle.cte_template.specs.Steps.{reached, arm_of, select_of}
use Rattle.call_law.specs.Terms.{EndHasClass}
use Rattle.cte_parts.specs.Trees.{either_carrying}
use Rattle.cte_template.specs.CarriedWalks.{end_row, rest, written, from_block, from_call, from_end, all_columns}
use Rattle.cte_parts.proofs.Results.{ok_by, ok_by_three}
use Rattle.cte_template.proofs.WalkRules.{end_go, end_pick, end_return, end_fail, failed_row, unended_row, block_none, block_some, no_blocks, picked_done}
use Rattle.cte_template.proofs.body.+bodies.Goals as goal

pub left_by-returns-in-Go : goal.left_by-returns-in-Go
left_by-returns-in-Go t c =
    let m : Making = making c.args.w.now in
    let carried : List Ty = c.args.w.now.carried.now in
    let left = c.args.left in
    let depth = c.args.depth in
    let places = place_of c.args.pairs.now in
    let d = c.args.draft.now in
    let after = c.behind_call.new.draft in
    let call = c.in-Go.call in
    ok_by c.behind_call.result (λ next. reached m carried depth left next after ≡ rest m carried depth places d (from_call m left call))
    (λ next. reached m carried depth left next after ≡ rest m carried depth places d (from_end m left c.args.end.now))
    (λ next h. h ∙ ap (λ e. rest m carried depth places d e) (sym (ap (λ e. from_end m left e) c.in-Go.is ∙ end_go m left call))) c.behind_call.ensures

pub left_by-returns-in_ok-list-in-Pick : goal.left_by-returns-in_ok-list-in-Pick
left_by-returns-in_ok-list-in-Pick t c =
    let m : Making = making c.args.w.now in
    let carried : List Ty = c.args.w.now.carried.now in
    let left = c.args.left in
    c.in_ok-list-in-Pick.ensures ∙ ap (λ e. rest m carried c.args.depth (place_of c.args.pairs.now) c.args.draft.now e)
    (sym (ap (λ e. from_end m left e) c.in-Pick.is ∙ end_pick m left c.in-Pick.term c.in-Pick.yes c.in-Pick.no))

pub left_by-returns-in_ok-list-in-Return : goal.left_by-returns-in_ok-list-in-Return
left_by-returns-in_ok-list-in-Return t c =
    let m : Making = making c.args.w.now in
    let carried : List Ty = c.args.w.now.carried.now in
    let left = c.args.left in
    c.in_ok-list-in-Return.ensures ∙ ap (λ e. rest m carried c.args.depth (place_of c.args.pairs.now) c.args.draft.now e)
    (sym (ap (λ e. from_end m left e) c.in-Return.is ∙ end_return m left c.in-Return.term))

pub left_by-returns-in_ok-list-in-Fail : goal.left_by-returns-in_ok-list-in-Fail
left_by-returns-in_ok-list-in-Fail t c =
    let m : Making = making c.args.w.now in
    let carried : List Ty = c.args.w.now.carried.now in
    let left = c.args.left in
    let d = c.args.draft.now in
    let places = place_of c.args.pairs.now in
    let class = c.in-Fail.class in
    failed_row m carried c.args.depth places d class c.in_ok-list-in-Fail.list c.in_ok-list-in-Fail.ensures
    ∙ ap (λ e. rest m carried c.args.depth places d e) (sym (ap (λ e. from_end m left e) c.in-Fail.is ∙ end_fail m left class))

pub left_by-picked-requires : goal.left_by-picked-requires
left_by-picked-requires t c = (omega (arith, c.decreases), c.requires.classes)

pub left_by-fault_row-requires : goal.left_by-fault_row-requires
left_by-fault_row-requires t c = subst EndHasClass c.in-Fail.is c.requires.class

pub visited-returns-in_default : goal.visited-returns-in_default
visited-returns-in_default t c =
    let m : Making = making c.args.w.now in
    let carried : List Ty = c.args.w.now.carried.now in
    let left = c.args.left in
    let depth = c.args.depth in
    let places = place_of c.args.pairs in
    let d = c.args.draft.now in
    unended_row m carried depth places d c.in_ok-unended.field-0 c.in_ok-unended.ensures
    ∙ ap (λ e. rest m carried depth places d e) (sym (block_none m left c.args.block (sym c.get.ensures.value ∙ ap option_copied c.in_default.is)))

pub visited-returns : goal.visited-returns
visited-returns t c =
    let m : Making = making c.args.w.now in
    let carried : List Ty = c.args.w.now.carried.now in
    let left = c.args.left in
    let depth = c.args.depth in
    let places = place_of c.args.pairs in
    let d = c.args.draft.now in
    let after = c.left_by.new.draft in
    let x = c.in-Some.x.now in
    let now = place_of c.as_slice.result.now in
    let between = c.assigned.new.draft in
    ok_by c.left_by.result (λ next. reached m carried depth left next after ≡ rest m carried depth now between (from_end m left x.end))
    (λ next. reached m carried depth left next after ≡ rest m carried depth places d (from_block m (left + 1) c.args.block))
    (λ next h.
    h ∙ ((λ i. rest m carried depth (place_of (c.as_slice.ensures i)) between (from_end m left x.end)) ∙ c.in_ok-pairs.ensures (from_end m left x.end) ∙ ap (λ e. rest m carried depth places d e) (sym (block_some m left c.args.block x (sym c.get.ensures.value ∙ ap option_copied c.in-Some.is)))))
    c.left_by.ensures

pub visited-left_by-requires : goal.visited-left_by-requires
visited-left_by-requires t c =
    let x = c.in-Some.x.now in
    (omega (arith, c.decreases), (c.requires.classes, (c.requires.classes c.args.block x (sym c.get.ensures.value ∙ ap option_copied c.in-Some.is)).end))

pub body_of-visited-requires : goal.body_of-visited-requires
body_of-visited-requires t c = (omega (arith, c.decreases, c.loop-left.invariant.0, c.loop-left-test.true), c.requires.classes)

pub body_of-returns-in-Row : goal.body_of-returns-in-Row
body_of-returns-in-Row t c =
    let m : Making = making c.args.w.now in
    let carried : List Ty = c.args.w.now.carried.now in
    let depth = c.args.depth in
    let left = c.loop-left.left in
    let same_left : left - 1 + 1 ≡ left = omega (arith, c.loop-left-test.true) in
    ap (λ n. reached m carried depth (left - 1) n c.visited.new.draft) (sym c.in-Row.is)
    ∙ (c.in_ok-list.ensures
    ∙ (ap (λ k. rest m carried depth (place_of c.loop-left.pairs) c.loop-left.draft (from_block m k c.loop-left.block)) same_left ∙ c.loop-left.invariant.1))

pub body_of-loop-left-preserved : goal.body_of-loop-left-preserved
body_of-loop-left-preserved t c =
    let m : Making = making c.args.w.now in
    let carried : List Ty = c.args.w.now.carried.now in
    let depth = c.args.depth in
    let left = c.loop-left.left in
    let same_left : left - 1 + 1 ≡ left = omega (arith, c.loop-left-test.true) in (
      omega (arith, c.loop-left.invariant.0),
      ap (λ n. reached m carried depth (left - 1) n c.visited.new.draft) (sym c.in-On.is)
          ∙ (c.in_ok-list.ensures
          ∙ (ap (λ k. rest m carried depth (place_of c.loop-left.pairs) c.loop-left.draft (from_block m k c.loop-left.block)) same_left ∙ c.loop-left.invariant.1)),
    )

pub body_of-loop-left-init : goal.body_of-loop-left-init
body_of-loop-left-init t c = (omega arith, refl)

pub body_of-returns : goal.body_of-returns
body_of-returns t c =
    let m : Making = making c.args.w.now in
    let carried : List Ty = c.args.w.now.carried.now in
    let depth = c.args.depth in
    let places = place_of c.loop-left.pairs in
    let d = c.loop-left.draft in
    let block = c.loop-left.block in
    let none : 0 ≡ c.loop-left.left = omega (arith, c.loop-left-test.false) in
    ok_by c.unended.result (λ list. list ≡ map item (end_row m carried depth (null_of m.result) (null_of ty.Text)))
    (λ list. written d list ≡ rest m carried depth (place_of c.args.pairs) c.args.draft.now (from_block m c.args.most c.args.block))
    (λ list h.
    unended_row m carried depth places d list h
    ∙ (ap (λ e. rest m carried depth places d e) (sym (no_blocks m block)) ∙ (ap (λ k. rest m carried depth places d (from_block m k block)) none ∙ c.loop-left.invariant.1))) c.unended.ensures

pub through-returns-in-Row : goal.through-returns-in-Row
through-returns-in-Row t c =
    let m : Making = making c.args.w.now in
    let carried : List Ty = c.args.w.now.carried.now in
    ap (λ n. reached m carried c.args.depth c.args.left n c.behind_call.new.draft) (sym c.in-Row.is) ∙ c.in_ok-list.ensures

pub through-returns-in-On : goal.through-returns-in-On
through-returns-in-On t c =
    let m : Making = making c.args.w.now in
    let carried : List Ty = c.args.w.now.carried.now in
    let left = c.args.left in
    let depth = c.args.depth in
    let between = c.behind_call.new.draft in
    let after = c.body_of.new.draft in
    ok_by c.body_of.result (λ list. written after list ≡ rest m carried depth (place_of c.in-On.places) between (from_block m left c.in-On.block))
    (λ list. written after list ≡ rest m carried depth (place_of c.args.pairs.now) c.args.draft.now (from_call m left c.args.call.now))
    (λ list h. h ∙ (ap (λ n. reached m carried depth left n between) (sym c.in-On.is) ∙ c.in_ok-list.ensures)) c.body_of.ensures

pub through-body_of-requires : goal.through-body_of-requires
through-body_of-requires t c = (omega (arith, c.decreases), c.requires.classes)

pub arm-returns : goal.arm-returns
arm-returns t c = ap arm_of c.in_ok-list.ensures

pub arm-through-requires : goal.arm-through-requires
arm-through-requires t c = (omega (arith, c.decreases), c.requires.classes)

pub picked-returns : goal.picked-returns
picked-returns t c =
    let m : Making = making c.args.w.now in
    let carried : List Ty = c.args.w.now.carried.now in
    let left = c.args.left in
    let depth = c.args.depth in
    let places = place_of c.args.pairs.now in
    let d = c.args.draft.now in
    let with_test = c.add_let.new.draft in
    let after = c.either.new.draft in
    let term = c.args.term.now in
    let first = c.in_ok-first.first in
    let second = c.in_ok-second.second in
    let x = from_call m left c.args.yes.now in
    let y = from_call m left c.args.no.now in
    ok_by_three c.either.result
    (λ list. after.items ≡ with_test.items ++ (either_carrying with_test.next (length carried) (length m.tail.columns) (select_of first) (select_of second) ∷ []))
    (λ list. after.next ≡ second.next)
    (λ list. list ≡ map item (all_columns m carried (c.len-item.result + 1)))
    (λ list. written after list ≡ rest m carried depth places d (picks term x y))
    (λ list items next row.
    picked_done m carried depth c.in_ok-inside.inside places d with_test after c.in_ok-gate.gate c.in_ok-other.other term x y first second list c.len-item.result c.in_ok-after.field-0
    c.len-item.ensures c.in_ok-inside.ensures c.in_ok-after.ensures c.in_ok-add_let.ensures.items c.in_ok-add_let.ensures.next
    c.in_ok-gate.ensures.items c.in_ok-gate.ensures.next c.in_ok-first.ensures c.in_ok-other.ensures.items c.in_ok-other.ensures.next c.in_ok-second.ensures
    items next row)
    c.either.ensures.items c.either.ensures.next c.either.ensures.list

pub picked-arm-requires : goal.picked-arm-requires
picked-arm-requires t c = (omega (arith, c.decreases), c.requires.classes)

pub picked-arm-requires-2 : goal.picked-arm-requires-2
picked-arm-requires-2 t c = (omega (arith, c.decreases), c.requires.classes)
