-- What an expression and a list of items print as ends with no `(` and no `.`, so that a space stands before what follows.
use Rattle.std.proofs.Common.{◌≡◌, ℕ, ℤ, pos, negsuc, refl, sym, subst, Bool, true, false, if◌then◌else◌, nat_lt, List, [], ◌∷◌, ◌++◌, map, Option, Some, None, codes}
use Rattle.away_grammar.specs.declared.grammar.Mark.{Mark}
use Rattle.away_grammar.specs.declared.grammar.Mark.TheVariants as m
use Rattle.away_grammar.specs.declared.grammar.Level.{Level}
use Rattle.away_grammar.specs.declared.grammar.Level.TheVariants as l
use Rattle.away_values.specs.declared.operators.ChainOp.{ChainOp}
use Rattle.away_values.specs.declared.operators.ChainOp.TheVariants as op
use Rattle.away_values.specs.declared.operators.CmpOp.{CmpOp}
use Rattle.away_values.specs.declared.operators.CmpOp.TheVariants as cmp
use Rattle.away_values.specs.declared.operators.IntOp.TheVariants as int
use Rattle.away_values.specs.declared.operators.IsTest.{IsTest}
use Rattle.away_values.specs.declared.operators.IsTest.TheVariants as tests
use Rattle.away_trees.specs.declared.queries.Expr.{Expr}
use Rattle.away_trees.specs.declared.queries.Item.{Item}
use Rattle.away_trees.specs.declared.queries.Select.{Select}
use Rattle.away_trees.specs.declared.queries.Expr.TheViews.{out-Item, out-Select}
use Rattle.away_trees.specs.declared.queries.Expr.TheBlock as b
use Rattle.away_trees.specs.declared.queries.Expr.TheOpen as ex
use Rattle.away_trees.specs.Algebra.{head_or, exprs_of, links_of, arms_of, other_of, queries_of, item_of}
use Rattle.away_grammar.specs.Terminals.{Terminal, mark, name, integer, string, parameter}
use Rattle.away_grammar.specs.Grammar.{operands, perhaps, rank}
use Rattle.away_grammar.specs.Printing.{Printed, placed, printed, printing, with_commas, function_terminal, operator_mark, comparison_mark, test_mark, type_name, links_terminals, list_terminals, arms_terminals, else_terminals, call_terminals, chain_level, print_item}
use Rattle.function_printer.specs.FunctionTerminals.{list_of}

abbrev opens_mark : Mark → Bool
opens_mark m.Open = true
opens_mark m.Dot = true
opens_mark _ = false

-- no space stands behind it
abbrev pub opens : Terminal → Bool
opens (mark terminal) = opens_mark terminal
opens _ = false

-- the last terminal, or this one where there is none
abbrev pub last_of : Terminal → List Terminal → Terminal
last_of d [] = d
last_of d (s ∷ ss) = last_of s ss

-- The last terminal, if there is one, doesn't open.
pub record Loose (ts : List Terminal) : Type 0 where
  pub last : (d : Terminal) → opens d ≡ false → opens (last_of d ts) ≡ false

-- There is a last terminal, which doesn't open.
pub record Shut (ts : List Terminal) : Type 0 where
  pub last : (d : Terminal) → opens (last_of d ts) ≡ false

last_append : (d : Terminal) (a c : List Terminal) → last_of d (a ++ c) ≡ last_of (last_of d a) c
last_append d [] c = refl
last_append d (s ∷ ss) c = last_append s ss c

pub none : Loose []
none = record { last = λ d e. e }

pub behind : (s : Terminal) {ts : List Terminal} → opens s ≡ false → Loose ts → Loose (s ∷ ts)
behind s h k = record { last = λ d e. k.last s h }

pub joins : (a : List Terminal) {c : List Terminal} → Loose a → Loose c → Loose (a ++ c)
joins a {c = c} h k = record { last = λ d e. subst (λ t. opens t ≡ false) (sym (last_append d a c)) (k.last (last_of d a) (h.last d e)) }

one : (s : Terminal) → opens s ≡ false → Shut (s ∷ [])
one s h = record { last = λ d. h }

closing : Shut (mark m.Close ∷ [])
closing = one (mark m.Close) refl

-- whatever stands before
front : (a : List Terminal) {c : List Terminal} → Shut c → Shut (a ++ c)
front a {c = c} k = record { last = λ d. subst (λ t. opens t ≡ false) (sym (last_append d a c)) (k.last (last_of d a)) }

shut : {ts : List Terminal} → Shut ts → Loose ts
shut k = record { last = λ d e. k.last d }

-- ---- what is put round the parts

placed_by : (c : Bool) (p : Printed) → Loose p.terminals → Loose (if c then mark m.Open ∷ (p.terminals ++ mark m.Close ∷ []) else p.terminals)
placed_by true p h = shut (front (mark m.Open ∷ p.terminals) closing)
placed_by false p h = h

placed_loose : (place : Level) (p : Printed) → Loose p.terminals → Loose (placed place p)
placed_loose place p h = placed_by (nat_lt (rank p.level) (rank place)) p h

perhaps_loose : (n : Bool) {ts : List Terminal} → Loose ts → Loose (perhaps n (mark m.Not) ts)
perhaps_loose true h = behind (mark m.Not) refl h
perhaps_loose false h = h

operator_loose : (o : ChainOp) → opens (mark (operator_mark o)) ≡ false
operator_loose op.Or = refl
operator_loose op.And = refl
operator_loose op.Concat = refl
operator_loose (op.Int int.Add) = refl
operator_loose (op.Int int.Sub) = refl
operator_loose (op.Int int.Mul) = refl
operator_loose (op.Int int.Div) = refl
operator_loose (op.Int int.Rem) = refl
operator_loose (op.Small int.Add) = refl
operator_loose (op.Small int.Sub) = refl
operator_loose (op.Small int.Mul) = refl
operator_loose (op.Small int.Div) = refl
operator_loose (op.Small int.Rem) = refl

comparison_loose : (o : CmpOp) → opens (mark (comparison_mark o)) ≡ false
comparison_loose cmp.Eq = refl
comparison_loose cmp.Ne = refl
comparison_loose cmp.Lt = refl
comparison_loose cmp.Le = refl
comparison_loose cmp.Gt = refl
comparison_loose cmp.Ge = refl

test_loose : (t : IsTest) → opens (mark (test_mark t)) ≡ false
test_loose tests.Null = refl
test_loose tests.True = refl
test_loose tests.False = refl

int_loose : (n : ℤ) → Loose (printing.expr (ex.Int n)).terminals
int_loose (pos n) = behind (integer n) refl none
int_loose (negsuc n) = behind (mark m.Minus) refl (behind (integer _) refl none)

bool_loose : (v : Bool) → Loose (printing.expr (ex.Bool v)).terminals
bool_loose true = behind (mark m.True) refl none
bool_loose false = behind (mark m.False) refl none

call_loose : (n : List ℕ) (ps : List Printed) → Loose (call_terminals n ps)
call_loose n [] = shut (front (name n ∷ mark m.Open ∷ []) closing)
call_loose n (p ∷ ps) = shut (front (function_terminal n ∷ mark m.Open ∷ list_terminals (p ∷ ps)) closing)

alias_loose : (e : Printed) (alias : Option (List ℕ)) → Loose e.terminals → Loose (print_item (record { expr = e; alias = alias }))
alias_loose e None h = joins (placed l.Or e) (placed_loose l.Or e h) none
alias_loose e (Some n) h = joins (placed l.Or e) (placed_loose l.Or e h) (behind (mark m.As) refl (behind (name n) refl none))

-- ---- expressions

mutual
  pub expr_loose : (x : Expr) → Loose (printed x).terminals
  expr_loose (b.Int n) = int_loose n
  expr_loose (b.Str t) = behind (string t) refl none
  expr_loose (b.Bool v) = bool_loose v
  expr_loose b.Null = behind (mark m.Null) refl none
  expr_loose (b.Named n) = behind (name n) refl none
  expr_loose (b.Dotted n c) = shut (front (name n ∷ mark m.Dot ∷ []) (one (name c) refl))
  expr_loose (b.Slot i) = none
  expr_loose (b.Column c) = none
  expr_loose (b.Param i ty) = shut (front (mark m.Cast ∷ mark m.Open ∷ parameter i ∷ mark m.As ∷ name (type_name ty) ∷ []) closing)
  expr_loose (b.Neg' _ x) = behind (mark m.Minus) refl (placed_loose l.Cast _ (head_loose x))
  expr_loose (b.NegSmall' _ x) = behind (mark m.Minus) refl (placed_loose l.Cast _ (head_loose x))
  expr_loose (b.Not' _ x) = behind (mark m.Not) refl (placed_loose l.Is _ (head_loose x))
  expr_loose (b.Is' _ x test n) =
      joins (placed l.Compare (head_or printing.no_expr (exprs_of printing x))) (placed_loose l.Compare _ (head_loose x))
      (behind (mark m.Is) refl (perhaps_loose n (behind (mark (test_mark test)) (test_loose test) none)))
  expr_loose (b.Chain' _ x _ links) =
      let level = chain_level (links_of printing links) in
      joins (placed (operands level) (head_or printing.no_expr (exprs_of printing x))) (placed_loose (operands level) _ (head_loose x))
      (links_loose level links)
  expr_loose (b.Compare' o _ x _ y) =
      joins (placed l.Range (head_or printing.no_expr (exprs_of printing x))) (placed_loose l.Range _ (head_loose x))
      (behind (mark (comparison_mark o)) (comparison_loose o) (placed_loose l.Range _ (head_loose y)))
  expr_loose (b.Between' n _ x _ y _ z) =
      joins (placed l.Concat (head_or printing.no_expr (exprs_of printing x))) (placed_loose l.Concat _ (head_loose x))
      (perhaps_loose n (behind (mark m.Between) refl
      (joins (placed l.Concat (head_or printing.no_expr (exprs_of printing y))) (placed_loose l.Concat _ (head_loose y))
      (behind (mark m.And) refl (placed_loose l.Concat _ (head_loose z))))))
  expr_loose (b.OneOf' n _ x _ xs) =
      joins (placed l.Concat (head_or printing.no_expr (exprs_of printing x))) (placed_loose l.Concat _ (head_loose x))
      (perhaps_loose n (shut (front (mark m.In ∷ mark m.Open ∷ list_terminals (exprs_of printing xs)) closing)))
  expr_loose (b.Cast' _ x ty) =
      shut (front (mark m.Cast ∷ mark m.Open ∷ placed l.Or (head_or printing.no_expr (exprs_of printing x)))
      (front (mark m.As ∷ name (type_name ty) ∷ []) closing))
  expr_loose (b.Cases' _ arms other) =
      shut (front (mark m.Case ∷ arms_terminals (arms_of printing arms)) (front (else_terminals (other_of printing other)) (one (mark m.End) refl)))
  expr_loose (b.Call' n _ xs) = call_loose n (exprs_of printing xs)
  expr_loose b.CountRows = shut (front (name (codes "count") ∷ mark m.Open ∷ mark m.Star ∷ []) closing)
  expr_loose (b.Scalar' _ q) = shut (front (mark m.Open ∷ head_or printing.no_query (queries_of printing q)) closing)
  expr_loose (b.Exists' _ q) = shut (front (mark m.Exists ∷ mark m.Open ∷ head_or printing.no_query (queries_of printing q)) closing)

  head_loose : {n : _} (xs : b.Row_of-Expr n) → Loose (head_or printing.no_expr (exprs_of printing xs)).terminals
  head_loose b.end_of-Expr = none
  head_loose (b.more_of-Expr x rest) = expr_loose x

  links_loose : {n : _} (level : Level) (xs : b.Row_of-Expr-Chain-1-2 n) → Loose (links_terminals level (links_of printing xs))
  links_loose level b.end_of-Expr-Chain-1-2 = none
  links_loose level (b.more_of-Expr-Chain-1-2 o x rest) =
      behind (mark (operator_mark o)) (operator_loose o)
      (joins (placed (operands level) (printed x)) (placed_loose (operands level) (printed x) (expr_loose x)) (links_loose level rest))

-- ---- the list of a select

abbrev AllLoose : List (List Terminal) → Type 0
AllLoose [] = Unit {0}
AllLoose (x ∷ xs) = Loose x × AllLoose xs

commas_loose : (xs : List (List Terminal)) → AllLoose xs → Loose (with_commas xs)
commas_loose [] h = none
commas_loose (x ∷ []) h = h.0
commas_loose (x ∷ y ∷ xs) h = joins x h.0 (behind (mark m.Comma) refl (commas_loose (y ∷ xs) h.1))

each_item : (xs : List Item) → AllLoose (map (λ i. item_of printing i) xs)
each_item [] = tt
each_item (x ∷ xs) = (alias_loose (printed (out-Item x).expr) (out-Item x).alias (expr_loose (out-Item x).expr), each_item xs)

pub list_loose : (q : Select) → Loose (list_of q)
list_loose q = commas_loose (map (λ i. item_of printing i) (out-Select q).list) (each_item (out-Select q).list)
