use Rattle.std.proofs.Common.{◌≡◌, List, length, refl, string_bytes, subst}
use Rattle.away_values.specs.declared.values.Class.{Class}
use Rattle.away_top.specs.ExplainCourse.{explained_lines}
use Rattle.away_top.specs.Explaining.{own}
use Rattle.away_top.proofs.explain.counted.Goals as goal

pub returns : goal.returns
returns c =
    let compiled = c.in_ok-compiled.compiled in
    let lines =
    subst (λ (cs : List Class). c.in_ok-lines_of.field-0.items ≡ explained_lines (own c.args.head) compiled.cert (length (string_bytes compiled.text)) cs) c.deref.ensures.value
    c.in_ok-lines_of.ensures in (
      string_bytes compiled.text,
      (
        compiled.cert,
        record { query = compiled.query; compiled = c.in_ok-compiled.ensures.compiled; equivalent = c.in_ok-compiled.ensures.equivalent },
        (c.in_ok-faults.faults.items, c.in_ok-faults.ensures, (refl, lines)),
      ),
    )
