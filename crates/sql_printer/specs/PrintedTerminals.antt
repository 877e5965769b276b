-- What the printer's terminals are, and what it is to add some.
use Rattle.std.specs.Prelude.{
  ◌≡◌,
  ℕ,
  Bool,
  false,
  not,
  if◌then◌else◌,
  bytes_eq,
  List,
  [],
  ◌∷◌,
  ◌++◌,
  Option,
  Some,
  None,
  Result,
  OnOk,
}
use Rattle.away_values.specs.declared.errors.NoMemory.{NoMemory}
use Rattle.away_grammar.specs.declared.grammar.Mark.TheVariants as m
use Rattle.away_values.specs.declared.operators.ChainOp.{ChainOp}
use Rattle.away_trees.specs.declared.queries.Expr.{Expr}
use Rattle.away_grammar.specs.Reserved.{calls}
use Rattle.away_grammar.specs.Terminals.{Terminal, mark, name, integer, string, parameter, quote}
use Rattle.away_grammar.specs.Spacing.{is_glued}
use Rattle.away_grammar.specs.Printing.{Printed, names_terminals, printed, spelled}
use Rattle.sql_printer.specs.declared.terminal_list.PrintedTerminal as code
use Rattle.sql_printer.specs.declared.terminal_list.PrintedTerminal.TheVariants.{
  Mark,
  Name,
  Integer,
  Text,
  Parameter,
  Quote,
}

-- what a terminal of the code is
abbrev pub terminal_of : code.PrintedTerminal → Terminal
terminal_of (Mark m) = mark m
terminal_of (Name n) = name n.now
terminal_of (Integer n) = integer n
terminal_of (Text t) = string t.now
terminal_of (Parameter i) = parameter i
terminal_of (Quote z) = quote z.now

-- After a success the terminals stand behind those that were there.
pub record Adds (terminals before : List Terminal) (result : Result (Unit {0}) NoMemory) (after : List Terminal) : Type 0 where
  pub all : OnOk result (after ≡ before ++ terminals)

-- names in parentheses, where there are any
abbrev pub columns_terminals : List (List ℕ) → List Terminal
columns_terminals [] = []
columns_terminals (n ∷ ns) = mark m.Open ∷ (names_terminals (n ∷ ns) ++ mark m.Close ∷ [])

-- each with the same terminals behind it
abbrev pub each_before : List Terminal → List (List Terminal) → List Terminal
each_before between [] = []
each_before between (x ∷ xs) = x ++ (between ++ each_before between xs)

-- the alias of a FROM item, where it isn't the one that it has of its own
abbrev pub alias_behind : Option (List ℕ) → List ℕ → List Terminal
alias_behind None alias = mark m.As ∷ name alias ∷ []
alias_behind (Some own) alias = if bytes_eq own alias then [] else mark m.As ∷ name alias ∷ []

abbrev pub link_printed : ChainOp × Expr → ChainOp × Printed
link_printed l = (l.0, printed l.1)

abbrev pub arm_printed : Expr × Expr → Printed × Printed
arm_printed a = (printed a.0, printed a.1)

-- whether a space stands between what is before, if something is, and a terminal
abbrev pub is_spaced : Option Terminal → Terminal → Bool
is_spaced None s = false
is_spaced (Some before) s = not (is_glued calls (spelled before) (spelled s))
