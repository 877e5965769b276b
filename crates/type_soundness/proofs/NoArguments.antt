-- Without arguments a parameter is NULL, which has every type.
use Rattle.std.proofs.Common.{ℕ, zero, suc, [], ◌∷◌}
use Rattle.away_values.specs.declared.types.Ty.{Ty}
use Rattle.sql_meaning.specs.Context.{argument}
use Rattle.type_soundness.specs.Arguments.{Params, Supplied}
use Rattle.type_soundness.specs.Sorts.{IsOf}

none_null : (i : ℕ) (t : Ty) → IsOf t (argument [] i)
none_null zero t = tt
none_null (suc i) t = tt

pub none_supplied : (ps : Params) → Supplied [] ps
none_supplied [] = tt
none_supplied (p ∷ ps) = (none_null p.0 p.1, none_supplied ps)
