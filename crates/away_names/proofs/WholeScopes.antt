-- The scope of a whole query that stands behind WITH.
use Rattle.std.proofs.Common.{◌≡◌, ap, ◌∙◌, ℕ, [], ◌∷◌, length, Option, Some, true, false}
use Rattle.std.specs.Prelude.{decimal}
use Rattle.away_trees.specs.declared.queries.Expr.TheViews.{out-Recursive}
use Rattle.away_trees.specs.declared.queries.Recursive.{Recursive}
use Rattle.away_trees.specs.declared.schemas.Schema.{Schema}
use Rattle.away_names.specs.declared.scope.Listed.{Listed}
use Rattle.away_names.specs.declared.scope.Working.{Working}
use Rattle.away_names.specs.Lookups.{Name, Scope, table_before}
use Rattle.away_names.specs.Files.{working, with_working}
use Rattle.away_names.specs.Tables.{table_of}

abbrev over : Option Working → (Name → Option Listed) → Scope
over w t = record { table = table_before w t; levels = []; variables = []; in_function = false }

abbrev numbered : Recursive → ℕ → Working
numbered r n = record { name = (out-Recursive r).name; table = record { written = decimal n ∷ (out-Recursive r).columns; recursive = true } }

pub scope_behind : (s : Schema) (r : Recursive) (w : Working) (t : Name → Option Listed) (here : Scope) (n : ℕ)
    → here ≡ record { table = table_before (Some w) t; levels = []; variables = []; in_function = false }
    → w ≡ record { name = (out-Recursive r).name; table = record { written = decimal n ∷ (out-Recursive r).columns; recursive = true } }
    → n ≡ length s.tables → t ≡ table_of s → here ≡ with_working s r
scope_behind s r w t here n e named many known =
    e ∙ ap (λ w. over (Some w) t) (named ∙ ap (numbered r) many) ∙ ap (over (Some (working s r))) known
