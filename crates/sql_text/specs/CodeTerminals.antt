-- What the code's terminals and cursors mean.
use Rattle.std.specs.Prelude.{
  ◌≡◌,
  ◌<◌,
  ◌≤◌,
  ℕ,
  ◌^◌,
  pos,
  List,
  ◌∷◌,
  Option,
  Some,
  None,
  chars,
  Result,
  Ok,
  Err,
}
use Rattle.std.specs.Borrow.{Bor}
use Rattle.away_grammar.specs.Terminals.{
  Terminal,
  mark,
  name,
  integer,
  string,
  parameter,
  quote,
  undoubled,
  between_quotes,
}
use Rattle.away_grammar.specs.Marks.{Entry}
use Rattle.away_grammar.specs.Reserved.{folded}
use Rattle.away_grammar.specs.Spellings.{IsNameText, IsString}
use Rattle.away_grammar.specs.declared.grammar.Mark as code_mark
use Rattle.away_trees.specs.declared.queries.Expr.{Expr}
use Rattle.away_trees.specs.declared.queries.Expr.TheVariants.{Int}
use Rattle.sql_text.specs.Plans.{Begins, tail}
use Rattle.sql_text.specs.declared.terminals.Terminal as code
use Rattle.sql_text.specs.declared.terminals.Terminal.TheVariants.{
  Mark,
  Name,
  Integer,
  Text,
  Parameter,
  Quote,
}
use Rattle.sql_text.specs.declared.refusal.Refusal.{Refusal}
use Rattle.sql_text.specs.declared.refusal.Refusal.TheVariants.{NoTree, NoMemory}

abbrev pub meaning_of : code.Terminal → Terminal
meaning_of (Mark m) = mark m
meaning_of (Name text) = name (folded text.now)
meaning_of (Integer n) = integer n
meaning_of (Text z) = string (chars (undoubled (between_quotes z.now)))
meaning_of (Parameter i) = parameter i
meaning_of (Quote z) = quote z.now

abbrev pub next_meaning : Option code.Terminal → Option Terminal
next_meaning None = None
next_meaning (Some s) = Some (meaning_of s)

-- how what a terminal is is spelled
abbrev pub HasSpelling : code.Terminal → Type 0
HasSpelling (Mark m) = Unit {0}
HasSpelling (Name text) = IsNameText text.now
HasSpelling (Integer n) = n ≤ 2 ^ 63
HasSpelling (Text z) = IsString z.now
HasSpelling (Parameter i) = (1 ≤ i) × (i ≤ 64)
HasSpelling (Quote z) = Unit {0}

-- an entry of a table of the code
abbrev pub entry : Bor (List ℕ) × code_mark.Mark → Entry
entry e = (e.0.now, e.1)

-- what was sought was found, or it doesn't stand there
abbrev pub Found : {A : Type 0} → Option A → Result A Refusal → Type 0
Found o (Ok x) = o ≡ Some x
Found o (Err NoTree) = o ≡ None
Found o (Err NoMemory) = Unit {0}

-- the mark stood next and was taken, or it doesn't stand there
abbrev pub Expected : code_mark.Mark → List Terminal → Result (Unit {0}) Refusal → List Terminal → Type 0
Expected m old (Ok x) new = old ≡ mark m ∷ new
Expected m old (Err e) new = (e ≡ NoTree) × ¬ (Begins old m)

-- what was found was taken
abbrev pub Taken : {A : Type 0} → Option A → List Terminal → List Terminal → Type 0
Taken None old new = new ≡ old
Taken (Some x) old new = new ≡ tail old

-- the number below 2^63 as a literal
abbrev pub Numbered : ℕ → Result Expr Refusal → Type 0
Numbered n (Ok x) = (n < 2 ^ 63) × (x ≡ Int (pos n))
Numbered n (Err e) = (2 ^ 63 ≤ n) × (e ≡ NoTree)
