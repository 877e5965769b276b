-- The texts that spell the marks: reserved words and symbols.
use Rattle.std.specs.Prelude.{ℕ, List, [], ◌∷◌, codes}
use Rattle.away_grammar.specs.declared.grammar.Mark.{Mark}
use Rattle.away_grammar.specs.declared.grammar.Mark.TheVariants as m

-- a text with the mark that it spells
abbrev pub Entry : Type 0
Entry = List ℕ × Mark

abbrev pub reserved_words : List Entry
reserved_words =
    (codes "all", m.All) ∷ (codes "and", m.And) ∷ (codes "as", m.As) ∷ (codes "asc", m.Asc) ∷ (codes "begin", m.Begin) ∷ (codes "between", m.Between)
    ∷ (codes "by", m.By) ∷ (codes "case", m.Case) ∷ (codes "cast", m.Cast) ∷ (codes "coalesce", m.Coalesce) ∷ (codes "constant", m.Constant)
    ∷ (codes "continue", m.Continue) ∷ (codes "create", m.Create) ∷ (codes "declare", m.Declare)
    ∷ (codes "default", m.Default) ∷ (codes "desc", m.Desc)
    ∷ (codes "else", m.Else) ∷ (codes "elseif", m.Elseif) ∷ (codes "elsif", m.Elsif) ∷ (codes "end", m.End) ∷ (codes "exists", m.Exists)
    ∷ (codes "exit", m.Exit) ∷ (codes "false", m.False) ∷ (codes "for", m.For) ∷ (codes "from", m.From) ∷ (codes "greatest", m.Greatest)
    ∷ (codes "if", m.If) ∷ (codes "in", m.In) ∷ (codes "into", m.Into) ∷ (codes "is", m.Is) ∷ (codes "lateral", m.Lateral) ∷ (codes "least", m.Least)
    ∷ (codes "limit", m.Limit) ∷ (codes "loop", m.Loop) ∷ (codes "not", m.Not) ∷ (codes "null", m.Null) ∷ (codes "on", m.On) ∷ (codes "or", m.Or)
    ∷ (codes "order", m.Order) ∷ (codes "raise", m.Raise) ∷ (codes "recursive", m.Recursive)
    ∷ (codes "return", m.Return) ∷ (codes "reverse", m.Reverse)
    ∷ (codes "select", m.Select) ∷ (codes "strict", m.Strict) ∷ (codes "table", m.Table) ∷ (codes "then", m.Then) ∷ (codes "true", m.True)
    ∷ (codes "union", m.Union) ∷ (codes "when", m.When) ∷ (codes "where", m.Where) ∷ (codes "while", m.While) ∷ (codes "with", m.With) ∷ []

abbrev pub spelled_symbols : List Entry
spelled_symbols =
    (codes ":=", m.Assign) ∷ (codes "=", m.Equal) ∷ (codes "<>", m.Differ) ∷ (codes "!=", m.Differ) ∷ (codes "<", m.Less) ∷ (codes "<=", m.LessEqual)
    ∷ (codes ">", m.Greater) ∷ (codes ">=", m.GreaterEqual) ∷ (codes "+", m.Plus) ∷ (codes "-", m.Minus) ∷ (codes "*", m.Star) ∷ (codes "/", m.Slash)
    ∷ (codes "%", m.Percent) ∷ (codes "||", m.Bars) ∷ (codes "::", m.Colons) ∷ (codes "(", m.Open) ∷ (codes ")", m.Close) ∷ (codes ",", m.Comma)
    ∷ (codes ";", m.Semicolon) ∷ (codes ".", m.Dot) ∷ (codes "..", m.Dots) ∷ (codes "<<", m.LabelOpen) ∷ (codes ">>", m.LabelClose) ∷ []

-- the texts of a list of them
abbrev pub texts_of : List Entry → List (List ℕ)
texts_of [] = []
texts_of (e ∷ es) = e.0 ∷ texts_of es
