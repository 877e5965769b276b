use Rattle.std.proofs.Common.{◌≡◌, ◌++◌, drop}
use Rattle.away_values.specs.Results.{mapped}
use Rattle.plsql_meaning.specs.Conversions.{conversions, converted_row}
use Rattle.plsql_run.specs.Settings.{meant}
use Rattle.plsql_run.proofs.into.converted_row.Given as goal

-- draft: what is converted so far and what the others come to are the whole
abbrev pub invariant-loop-i : goal.invariant-loop-i
invariant-loop-i l =
    let types = (meant l.setting).types in
    mapped (λ vs. l.done ++ vs) (converted_row (conversions types (drop l.i l.targets) (drop l.i l.items)) (drop l.i l.row))
    ≡ converted_row (conversions types l.targets l.items) l.row
