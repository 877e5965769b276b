-- The lines that are written in place of an output.
use Rattle.std.specs.Prelude.{ℕ, List, [], ◌∷◌, ◌++◌, codes}
use Rattle.std.specs.Fmt.{decimal}
use Rattle.away_lex.specs.declared.refusals.LimitKind.{LimitKind}
use Rattle.away_lex.specs.declared.refusals.LimitKind.TheVariants.{Nesting, Nodes, Variables, Loops}
use Rattle.tail_calls.specs.declared.refusals.Grown.{Grown}
use Rattle.tail_calls.specs.declared.refusals.Grown.TheVariants as grown

-- a text and LF
abbrev pub line : List ℕ → List ℕ
line text = text ++ 10 ∷ []

-- a file is refused by a rule
abbrev pub refusal : List ℕ → List ℕ → List ℕ
refusal name rule = line (codes "refused " ++ name ++ codes " " ++ rule)

-- a file can't be read
abbrev pub read_fault : List ℕ → List ℕ
read_fault name = line (codes "read fault " ++ name)

-- the rule of a bad token, with its offset
abbrev pub bad_token : ℕ → List ℕ
bad_token offset = codes "X2 " ++ decimal offset

-- the rule of a word that isn't read, with the word
abbrev pub outside_word : List ℕ → List ℕ
outside_word word = codes "X4 " ++ word

abbrev pub limit_name : LimitKind → List ℕ
limit_name Nesting = codes "nesting"
limit_name Nodes = codes "nodes"
limit_name Variables = codes "variables"
limit_name Loops = codes "loops"

abbrev pub growth_name : Grown → List ℕ
growth_name grown.Nesting = codes "nesting"
growth_name grown.Nodes = codes "nodes"
growth_name grown.Variables = codes "variables"
growth_name grown.Loops = codes "loops"
growth_name grown.Bytes = codes "bytes"

-- the rule of names, scopes or types of this number
abbrev pub numbered_rule : ℕ → List ℕ
numbered_rule rule = codes "X" ++ decimal rule

-- the rule of a limit, with what is counted and the count
abbrev pub limit_rule : LimitKind → ℕ → List ℕ
limit_rule which found = codes "X5 " ++ (limit_name which ++ (codes " " ++ decimal found))

-- the rule of what a function exceeds that would be written, with what is counted and the count
abbrev pub growth_rule : Grown → ℕ → List ℕ
growth_rule which found = codes "E4 " ++ (growth_name which ++ (codes " " ++ decimal found))

-- the rule of a query that would be written, with its nesting
abbrev pub nesting_rule : ℕ → List ℕ
nesting_rule found = codes "I4 " ++ decimal found
