use Rattle.std.proofs.Common.{ap, subst}
use Rattle.away_types.specs.declared.checked_schema.CheckedSchema.{CheckedSchema}
use Rattle.away_gen.specs.Valid.{IsFunctionText, IsSchemaText, IsTableFile}
use Rattle.demonstration.specs.Trial.{IsCounted}
use Rattle.demonstration.proofs.trial.trial_of.Goals as goal

pub returns : goal.returns
returns c =
    let case = c.args.case.now in
    let schema = c.in_ok-schema.schema.schema in
    let written = c.in_ok-counted.ensures.0 in
    let rows = c.in_ok-tables.ensures.0 in
    let same = ap (λ (x : CheckedSchema). x.schema) c.get.ensures in
    let same_again = ap (λ (x : CheckedSchema). x.schema) c.get-2.ensures in
    record {
      schema_reads = subst (λ bytes. IsSchemaText bytes schema) c.deref.ensures.value c.in_ok-schema.ensures;
      written = written;
      function_reads = subst (λ s. IsFunctionText s case.function.items written) same
          (subst (λ bytes. IsFunctionText c.get.result.now.schema bytes written) c.deref-2.ensures.value c.in_ok-counted.ensures.1);
      counted = subst (λ s. IsCounted s written c.in_ok-counted.counted) same c.in_ok-counted.ensures.2;
      rows = rows;
      table_holds = subst (λ s. IsTableFile s case.table.items rows) same_again
          (subst (λ bytes. IsTableFile c.get-2.result.now.schema bytes rows) c.deref-3.ensures.value c.in_ok-tables.ensures.1);
      tables_are = c.in_ok-tables.ensures.2;
    }
