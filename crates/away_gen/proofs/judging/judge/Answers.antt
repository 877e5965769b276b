use Rattle.std.proofs.Common.{◌≡◌, ◌∙◌, ap, refl, subst, sym}
use Rattle.away_types.specs.declared.checked_function.CheckedFunction.{CheckedFunction}
use Rattle.away_gen.specs.Valid.{HaveTypes, IsFunctionText, IsSchemaText, IsTableFile, types_of, two_bigints}
use Rattle.away_gen.proofs.judging.judge.Goals as goal

pub returns-then-are_two_bigints : goal.returns-then-are_two_bigints
returns-then-are_two_bigints c =
    let schema = c.in_ok-schema.schema.schema in
    let function = c.in_ok-function.ensures.0 in
    let rows = c.in_ok-_table._table.rows in
    let params : types_of function.params ≡ two_bigints =
    ap types_of (sym (c.as_slice.ensures ∙ (ap (λ (checked : CheckedFunction). checked.function.params) c.get.ensures ∙ c.in_ok-function.ensures.2)))
    ∙ c.if-are_two_bigints.ensures refl in
    record {
      schema = schema;
      schema_reads = subst (λ bytes. IsSchemaText bytes schema) c.deref.ensures.value c.in_ok-schema.ensures;
      function = function;
      function_reads = subst (λ bytes. IsFunctionText schema bytes function) c.deref-2.ensures.value c.in_ok-function.ensures.1;
      rows = rows;
      table_holds = subst (λ bytes. IsTableFile schema bytes rows) c.deref-3.ensures.value c.in_ok-_table.ensures;
      arguments = subst (λ types. HaveTypes types c.args.case.now.args) (sym params) c.requires;
    }
