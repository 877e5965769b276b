-- That a tree can be derived, whatever follows.
use Rattle.std.specs.Prelude.{ℕ, List}
use Rattle.away_grammar.specs.Terminals.{Terminal}
use Rattle.away_grammar.specs.Grammar.{Sort, Tree}
use Rattle.sql_printer.specs.Writable.{AllWritable}
use Rattle.cte_prints.specs.DerivesIn.{DerivesIn}

-- terminals that derive the tree before what follows, and are writable where that is
pub record Derivation (d : ℕ) (n : Sort) (t : Tree n) (rest : List Terminal) : Type 0 where
  pub terminals : List Terminal
  pub writable : AllWritable rest → AllWritable terminals
  pub derives : DerivesIn d n terminals t rest

-- before whatever follows there are such terminals
abbrev pub Derivable : (d : ℕ) (n : Sort) → Tree n → Type 0
Derivable d n t = (rest : List Terminal) → Derivation d n t rest
