-- What could stand at a place where the reader of functions is stuck.
use Rattle.std.specs.Prelude.{◌≡◌, ◌≤◌, ◌⊎◌, ℕ, Bool, true, false, if◌then◌else◌, List, [], ◌∷◌, ◌++◌, length, codes}
use Rattle.std.specs.List.{IsDistinct}
use Rattle.std.specs.Str.{bytes_eq}
use Rattle.text_places.specs.Lines.{IsInLine}

-- what is told in place of what stands there, as the grammar names it, in the order in which it is told
unfoldable pub labels : List (List ℕ)
labels =
    codes "a statement"
    ∷ codes "an expression"
    ∷ codes "a name"
    ∷ codes "a type"
    ∷ codes "a text"
    ∷ codes "an integer"
    ∷ codes "a body in $$"
    ∷ codes "PLPGSQL"
    ∷ codes "THEN"
    ∷ codes "LOOP"
    ∷ codes ";"
    ∷ codes ":="
    ∷ codes ")"
    ∷ codes ","
    ∷ codes ".."
    ∷ codes ">>"
    ∷ codes "an operator"
    ∷ codes "INTO"
    ∷ codes "FROM"
    ∷ codes "BEGIN"
    ∷ codes "DECLARE"
    ∷ codes "ELSIF"
    ∷ codes "ELSE"
    ∷ codes "WHEN"
    ∷ codes "END"
    ∷ codes "CREATE"
    ∷ codes "FUNCTION"
    ∷ codes "REPLACE"
    ∷ codes "LANGUAGE"
    ∷ codes "AS"
    ∷ codes "IMMUTABLE"
    ∷ codes "STABLE"
    ∷ codes "STRICT"
    ∷ codes "VOLATILE"
    ∷ codes "PARALLEL"
    ∷ codes "COST"
    ∷ codes "LEAKPROOF"
    ∷ codes "CALLED"
    ∷ codes "RETURNS"
    ∷ codes "EXCEPTION"
    ∷ codes "SQLSTATE"
    ∷ codes "SAFE"
    ∷ codes "INPUT"
    ∷ codes "SELECT"
    ∷ codes "IN"
    ∷ codes "AND"
    ∷ codes "WHERE"
    ∷ codes "ORDER"
    ∷ codes "BY"
    ∷ codes "LIMIT"
    ∷ codes "UNION"
    ∷ codes "ALL"
    ∷ codes "DESC"
    ∷ codes "ASC"
    ∷ codes "*"
    ∷ codes "="
    ∷ codes "DEFAULT"
    ∷ codes "CONSTANT"
    ∷ codes "NULL"
    ∷ codes "NOT"
    ∷ codes "TRUE"
    ∷ codes "FALSE"
    ∷ codes "OR"
    ∷ codes "IS"
    ∷ codes "ON"
    ∷ codes "REVERSE"
    ∷ codes "IF"
    ∷ codes "CASE"
    ∷ codes "WHILE"
    ∷ codes "FOR"
    ∷ codes "<<"
    ∷ codes "LATERAL"
    ∷ codes "EXISTS"
    ∷ codes "("
    ∷ codes "."
    ∷ []

-- these are some of those, each at most once, and in their order
abbrev pub Among : List (List ℕ) → List (List ℕ) → Type 0
Among [] told = told ≡ []
Among (label ∷ all) told =
    Among all told ⊎ ((rest : List (List ℕ)) × (told ≡ label ∷ rest) × Among all rest)

-- what stands before a label: the first one is told of the place, or of what is behind it
abbrev pub opening : Bool → List ℕ
opening true = codes "; behind it could stand "
opening false = codes "; here could stand "

abbrev pub before_label : Bool → Bool → List ℕ
before_label first ended = if first then opening ended else codes " or "

abbrev pub joined : List (List ℕ) → List ℕ
joined [] = []
joined (label ∷ more) = codes " or " ++ (label ++ joined more)

-- the labels, with OR between them, or nothing
abbrev pub hint : Bool → List (List ℕ) → List ℕ
hint ended [] = []
hint ended (label ∷ more) = opening ended ++ (label ++ joined more)

-- The text tells some of these labels, five at most.
pub record IsHintOf (all : List (List ℕ)) (ended : Bool) (text : List ℕ) : Type 0 where
  pub told : List (List ℕ)
  pub few : length told ≤ 5
  pub among : Among all told
  pub text_is : text ≡ hint ended told

abbrev pub IsHint : Bool → List ℕ → Type 0
IsHint ended text = IsHintOf labels ended text

-- ---- laws

abbrev pub AreInLine : Type 0
AreInLine = (ended : Bool) (text : List ℕ) → IsHint ended text → IsInLine text

abbrev pub AreDistinct : Type 0
AreDistinct = IsDistinct bytes_eq labels
