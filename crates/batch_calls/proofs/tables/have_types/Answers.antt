use Rattle.std.proofs.Common.{rules, ◌≡◌, ap, sym, ◌∙◌, subst, ℕ, List, ◌<◌, length, map, get_or, arith}
use Rattle.std.proofs.lemmas.List.{get_or-map}
use Rattle.away_trees.specs.declared.schemas.ColumnSchema.{ColumnSchema}
use Rattle.away_values.specs.declared.types.Ty.{Ty}
use Rattle.away_values.specs.declared.types.Ty.TheVariants as ty
use Rattle.block_forms.proofs.Pairs.{pairs_more, pairs_all}
use Rattle.block_forms.proofs.Verdicts.{passed, refuted}
use Rattle.batch_calls.specs.CallTables.{column_type, parameter_type}
use Rattle.batch_calls.proofs.SameMaps.{maps_at_places}
use Rattle.batch_calls.proofs.tables.have_types.Goals as goal

abbrev Alike : ℕ → ColumnSchema → List ℕ × Ty → Type 0
Alike b x y = column_type x ≡ parameter_type y

pub loop-i-preserved : goal.loop-i-preserved
loop-i-preserved c =
    let same = passed c.same_type.result c.if-not-same_type.false c.same_type.ensures in
    pairs_more Alike c.args.columns.now c.args.params.now c.loop-i.i c.index-columns-i.result c.index-params-i.result c.index-columns-i.is c.index-params-i.is c.loop-i.invariant
    (ap column_type c.index-columns-i.is ∙ (same ∙ sym (ap parameter_type c.index-params-i.is)))

pub returns-then-not-same_type : goal.returns-then-not-same_type
returns-then-not-same_type c =
    let columns = c.args.columns.now in
    let params = c.args.params.now in
    let i = c.loop-i.i in
    let within : i < length params = subst (λ n. i < n) c.requires c.loop-i-test.true in
    refuted c.same_type.result c.if-not-same_type.true c.same_type.ensures
    (λ e. sym (get_or-map column_type columns i c.index-columns-i.result ty.Bigint c.loop-i-test.true)
    ∙ (ap (λ types. get_or types i ty.Bigint) e ∙ get_or-map parameter_type params i c.index-params-i.result ty.Bigint within))

pub returns : goal.returns
returns c = (
  λ t. maps_at_places column_type parameter_type c.args.columns.now c.args.params.now c.requires (pairs_all Alike c.args.columns.now c.args.params.now c.loop-i.i c.loop-i-test.false c.loop-i.invariant),
  λ each. search rules,
)
