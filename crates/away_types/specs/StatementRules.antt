-- The rules on statements, apart from those on types and aggregates: one test each, by what the
-- rule speaks of. Names, labels and variables are as they are visible at the statement; of several
-- with one name the last, which is the innermost, counts.
use Rattle.std.specs.Prelude.{
  ℕ,
  Bool,
  true,
  false,
  not,
  ◌&&◌,
  ◌||◌,
  if◌then◌else◌,
  ◌==◌,
  nat_le,
  List,
  map,
  fold,
  length,
  Option,
  Some,
  None,
  is_some,
  bytes_eq,
}
use Rattle.std.specs.List.{list_any, list_all}
use Rattle.away_values.specs.declared.types.Ty.{Ty}
use Rattle.away_trees.specs.declared.statements.Decl.{Decl}
use Rattle.away_trees.specs.declared.statements.Raised.{Raised}
use Rattle.away_trees.specs.declared.statements.Raised.TheVariants as raised
use Rattle.away_names.specs.Lookups.{Name, has_double}
use Rattle.away_types.specs.declared.around.Around.{Around}

-- ---- Duplicates (X6)

-- two parameters have one name
abbrev pub takes_twice : List (Name × Ty) → Bool
takes_twice params = has_double (map (λ p. p.0) params)

-- two declarations of one block have one name
abbrev pub declares_twice : List Decl → Bool
declares_twice decls = has_double (map (λ (d : Decl). d.name) decls)

-- two targets of one INTO have one name
abbrev pub sets_twice : List (Name × Option ℕ) → Bool
sets_twice targets = has_double (map (λ t. t.0) targets)

-- ---- Labels (X10)

abbrev pub has_label : Name → Around → Bool
has_label l a = elim a.label as (λ _. Bool) [ None ↦ false | Some m ↦ bytes_eq m l ]

abbrev pub is_in_loop : List Around → Bool
is_in_loop = list_any (λ a. a.is_loop)

-- EXIT may stand in a loop, and may name any block or loop around it
unfoldable pub may_exit : Option Name → List Around → Bool
may_exit None around = is_in_loop around
may_exit (Some l) around = list_any (has_label l) around

-- the innermost one of the label is a loop
abbrev pub labels_loop : Name → Bool → List Around → Bool
labels_loop l = fold (λ found a. if has_label l a then a.is_loop else found)

-- CONTINUE may stand in a loop, and may name a loop around it, and no block
unfoldable pub may_continue : Option Name → List Around → Bool
may_continue None around = is_in_loop around
may_continue (Some l) around = labels_loop l false around

-- a closing label is the opening one
unfoldable pub closes : Option Name → Option Name → Bool
closes opening None = true
closes None (Some closing) = false
closes (Some opening) (Some closing) = bytes_eq opening closing

-- ---- Defaults (X12)

-- NOT NULL without a default
unfoldable pub lacks_default : Decl → Bool
lacks_default d = d.not_null && not (is_some d.default)

-- ---- Raises (X16)

-- an ASCII digit or an upper-case letter
abbrev pub is_state_character : ℕ → Bool
is_state_character c = (nat_le 48 c && nat_le c 57) || (nat_le 65 c && nat_le c 90)

abbrev pub has_percent : List ℕ → Bool
has_percent = list_any (λ c. c == 37)

abbrev pub has_state_characters : List ℕ → Bool
has_state_characters = list_all is_state_character

abbrev pub has_zeros : List ℕ → Bool
has_zeros = list_all (λ c. c == 48)

-- five such characters, and not 00000
unfoldable pub is_state : List ℕ → Bool
is_state t = length t == 5 && (has_state_characters t && not (has_zeros t))

-- a message has no `%`
unfoldable pub may_raise : Raised → Bool
may_raise (raised.Message t) = not (has_percent t)
may_raise (raised.State t) = is_state t
