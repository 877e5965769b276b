use Rattle.std.proofs.Common.{◌≡◌, ap, ◌∙◌, subst, length, List, [], ◌∷◌}
use Rattle.away_trees.specs.declared.queries.Select.{Select}
use Rattle.away_values.specs.declared.types.Ty.TheVariants as ty
use Rattle.call_forms.specs.Carried.{Carried}
use Rattle.call_forms.specs.Carrying.{with_part}
use Rattle.cte_template.specs.Starts.{calls_of_rows, ended_calls}
use Rattle.batch_calls.proofs.SameSelects.{is_batched}
use Rattle.batch_calls.proofs.trees.batch_tree.Goals as goal

pub returns : goal.returns
returns c =
    let f = c.args.f.now in
    let x = c.args.forms.now in
    let tables = length c.args.s.now.schema.tables in
    let q = with_part c.in_ok-recursive.recursive c.in_ok-alone.field-0 in
    let calls : c.in_ok-first.first ≡ calls_of_rows f.function.result x.anf x.tail x.goto.entry c.args.place c.args.table.now ∷ [] =
    c.in_ok-first.ensures ∙ ap (λ s. s ∷ []) c.in_ok-calls.ensures in
    let ended : c.in_ok-alone.field-0 ≡ ended_calls tables (length x.tail.columns) ∷ [] =
    c.in_ok-alone.ensures ∙ ap (λ s. s ∷ []) (c.in_ok-ended.ensures ∙ (λ i. ended_calls (c.len-tables.ensures i) (c.len.ensures i))) in
    let carried : Carried f.function f.slots c.len-tables.result x.goto x.ssa x.anf x.tail (ty.Bigint ∷ []) c.in_ok-first.first c.in_ok-alone.field-0 q =
    c.in_ok-recursive.ensures.carried c.in_ok-alone.field-0 in
    let over : Carried f.function f.slots tables x.goto x.ssa x.anf x.tail (ty.Bigint ∷ []) c.in_ok-first.first c.in_ok-alone.field-0 q =
    subst (λ n. Carried f.function f.slots n x.goto x.ssa x.anf x.tail (ty.Bigint ∷ []) c.in_ok-first.first c.in_ok-alone.field-0 q) c.len-tables.ensures carried in
    let first : Carried f.function f.slots tables x.goto x.ssa x.anf x.tail (ty.Bigint ∷ []) (calls_of_rows f.function.result x.anf x.tail x.goto.entry c.args.place c.args.table.now ∷ []) c.in_ok-alone.field-0 q =
    subst (λ (fs : List Select). Carried f.function f.slots tables x.goto x.ssa x.anf x.tail (ty.Bigint ∷ []) fs c.in_ok-alone.field-0 q) calls over in
    is_batched f.function f.slots tables x.goto x.ssa x.anf x.tail c.args.place c.args.table.now q
    (subst (λ (ss : List Select). Carried f.function f.slots tables x.goto x.ssa x.anf x.tail (ty.Bigint ∷ []) (calls_of_rows f.function.result x.anf x.tail x.goto.entry c.args.place c.args.table.now ∷ []) ss q) ended first)
