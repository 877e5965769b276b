-- What is told of the sizes of an expanded function.
use Rattle.std.specs.Prelude.{◌≡◌, ◌≤◌, ◌<◌, ◌+◌, ℕ, false, List, length, Option, Some, None}
use Rattle.away_lex.specs.declared.refusals.LimitKind.{LimitKind}
use Rattle.away_lex.specs.declared.refusals.LimitKind.TheVariants as limit
use Rattle.away_trees.specs.declared.statements.Function.{Function}
use Rattle.away_trees.specs.Limits.{most_loops, most_nodes, most_variables}
use Rattle.call_expand.specs.Expanding.{function_at}
use Rattle.expanded_sizes.specs.Depths.{expanded_depth}
use Rattle.expanded_sizes.specs.Sizes.{expanded_weight, of_loops, of_nodes, of_variables}
use Rattle.expanded_sizes.specs.Walking.{told}

-- the parameters of the main function, which are nodes and variables
abbrev pub parameters : List Function → ℕ
parameters fs = length (function_at fs 0).params

-- a size of the function in which the calls are expanded
abbrev pub size : List Function → LimitKind → ℕ
size fs limit.Nesting = expanded_depth fs (length fs) false 0
size fs limit.Nodes = parameters fs + expanded_weight of_nodes fs (length fs) false 0
size fs limit.Variables = parameters fs + expanded_weight of_variables fs (length fs) false 0
size fs limit.Loops = expanded_weight of_loops fs (length fs) false 0

abbrev pub most : LimitKind → ℕ
most limit.Nesting = 64
most limit.Nodes = most_nodes
most limit.Variables = most_variables
most limit.Loops = most_loops

abbrev pub Fits : List Function → LimitKind → Type 0
Fits fs which = size fs which ≤ most which

-- each size before this one fits
abbrev pub FitBefore : List Function → LimitKind → Type 0
FitBefore fs limit.Nesting = Unit {0}
FitBefore fs limit.Nodes = Fits fs limit.Nesting
FitBefore fs limit.Variables = Fits fs limit.Nesting × Fits fs limit.Nodes
FitBefore fs limit.Loops = Fits fs limit.Nesting × Fits fs limit.Nodes × Fits fs limit.Variables

-- the first size that is too large, with what is told of it
pub record IsTooLarge (fs : List Function) (which : LimitKind) (found : ℕ) : Type 0 where
  pub before : FitBefore fs which
  pub exceeds : most which < size fs which
  pub is : found ≡ told (size fs which)

-- no size is too large, or the first that is
abbrev pub IsTold : List Function → Option (LimitKind × ℕ) → Type 0
IsTold fs None = (which : LimitKind) → Fits fs which
IsTold fs (Some x) = IsTooLarge fs x.0 x.1
