use Rattle.std.proofs.Common.{List, ◌≡◌, ◌++◌, ◌∷◌, [], ap, sym, ◌∙◌}
use Rattle.call_forms.specs.Bodies.{Body}
use Rattle.away_values.specs.declared.types.Ty.{Ty}
use Rattle.cte_template.specs.Making.{Making, making}
use Rattle.cte_template.specs.Places.{first_of, stands, place_of}
use Rattle.cte_template.specs.CarriedWalks.{rest, from_set}
use Rattle.cte_template.specs.Written.{let_at}
use Rattle.cte_parts.proofs.Results.{ok_by}
use Rattle.cte_template.proofs.WalkRules.{assigned_none, assigned_one}
use Rattle.cte_template.proofs.draft.assigned.Goals as goal

pub returns-in-None : goal.returns-in-None
returns-in-None c = λ body. assigned_none (making c.args.w.now) c.args.w.now.carried.now c.args.depth (place_of c.args.pairs) c.args.draft.now c.args.set.now body c.in-None.is

pub returns-in_ok-add_let-in-Some : goal.returns-in_ok-add_let-in-Some
returns-in_ok-add_let-in-Some c =
    let m : Making = making c.args.w.now in
    let carried : List Ty = c.args.w.now.carried.now in
    let depth = c.args.depth in
    let places = place_of c.args.pairs in
    let d = c.args.draft.now in
    let after = c.add_let.new.draft in
    let n = c.in-Some.name in
    let t = c.in-Some.term in
    let added = c.in_ok-add_let-in-Some.ensures in
    ok_by c.placed_first.result (λ now. place_of now ≡ stands n (first_of depth c.len-item.result) places)
    (λ now. (body : Body) → rest m carried depth (place_of now) after body ≡ rest m carried depth places d (from_set m c.args.set.now body))
    (λ now h body.
    assigned_one m carried depth places (place_of now) d after n t body (h ∙ ap (λ k. stands n (first_of depth k) places) c.len-item.ensures)
    (added.items ∙ (λ i. d.items ++ (let_at m depth (place_of (c.as_slice.ensures i)) d.next (c.type_of-ty.ensures i) t ∷ []))) added.next
    ∙ ap (λ o. rest m carried depth places d (from_set m o body)) (sym c.in-Some.is)) c.placed_first.ensures
