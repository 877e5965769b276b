-- What is read from writable terminals prints as writable terminals, where behind a dot stands a name.
use Rattle.std.proofs.Common.{◌≡◌, ℕ, ◌<◌, ◌≤◌, ◌^◌, ◌-◌, pos, negsuc, Bool, true, false, if◌then◌else◌, nat_lt, List, [], ◌∷◌, ◌++◌, map, Some, None, refl, sym, ◌∙◌, subst, arith, codes, bytes_eq}
use Rattle.away_grammar.specs.declared.grammar.Mark.{Mark}
use Rattle.away_grammar.specs.declared.grammar.Mark.TheVariants as m
use Rattle.away_grammar.specs.declared.grammar.Level.{Level}
use Rattle.away_grammar.specs.declared.grammar.Level.TheVariants as l
use Rattle.away_values.specs.declared.types.Ty.{Ty}
use Rattle.away_values.specs.declared.types.Ty.TheVariants as types
use Rattle.away_values.specs.declared.operators.IntOp.TheVariants as int
use Rattle.away_values.specs.declared.operators.ChainOp.{ChainOp}
use Rattle.away_values.specs.declared.operators.ChainOp.TheVariants as op
use Rattle.away_values.specs.declared.operators.CmpOp.{CmpOp}
use Rattle.away_values.specs.declared.operators.CmpOp.TheVariants as cmp
use Rattle.away_values.specs.declared.operators.IsTest.{IsTest}
use Rattle.away_values.specs.declared.operators.IsTest.TheVariants as tests
use Rattle.away_trees.specs.declared.queries.Expr.{Expr}
use Rattle.away_trees.specs.declared.queries.Expr.TheVariants as e
use Rattle.away_trees.specs.declared.queries.Query.{Query}
use Rattle.away_grammar.specs.Reserved.{is_reserved}
use Rattle.away_grammar.specs.Terminals.{Terminal, mark, name, integer, string, parameter, quote}
use Rattle.away_grammar.specs.Grammar.{rank, operands, literal_of, called, perhaps}
use Rattle.away_grammar.specs.Printing.{Printed, placed, printed, printing, operator_mark, comparison_mark, test_mark, type_name, function_terminal, links_terminals, chain_level, list_terminals, arms_terminals, query_terminals}
use Rattle.away_trees.proofs.Equations as eq
use Rattle.sql_printer.specs.Writable.{Writable}
use Rattle.std.proofs.lemmas.Option.{same_Some}
use Rattle.sql_printer.proofs.PrintExpressions.{NonEmpty}

abbrev pub mark_is_dot : Mark → Bool
mark_is_dot m.Dot = true
mark_is_dot m.Dots = true
mark_is_dot _ = false

abbrev pub is_dot : Terminal → Bool
is_dot (mark terminal) = mark_is_dot terminal
is_dot _ = false

abbrev pub BeginsWithName : List Terminal → Type 0
BeginsWithName (name n ∷ ts) = Unit {0}
BeginsWithName _ = ⊥

-- each terminal is writable, and behind a dot stands a name
pub data Clear : List Terminal → Type 0 where
  nothing : Clear []
  behind : {s : Terminal} {ts : List Terminal} → Writable s → (is_dot s ≡ true → BeginsWithName ts) → Clear ts → Clear (s ∷ ts)

no_dot : {P : Type 0} → false ≡ true → P
no_dot h = absurd (cc h)

-- ---- terminals

pub a_mark : (terminal : Mark) → mark_is_dot terminal ≡ false → {ts : List Terminal} → Clear ts → Clear (mark terminal ∷ ts)
a_mark terminal h d = behind tt (λ e. no_dot (sym h ∙ e)) d

pub a_name : (n : List ℕ) → Writable (name n) → {ts : List Terminal} → Clear ts → Clear (name n ∷ ts)
a_name n h d = behind h (λ e. no_dot e) d

pub an_integer : (n : ℕ) → n ≤ 2 ^ 63 → {ts : List Terminal} → Clear ts → Clear (integer n ∷ ts)
an_integer n h d = behind h (λ e. no_dot e) d

pub a_parameter : (i : ℕ) → Writable (parameter i) → {ts : List Terminal} → Clear ts → Clear (parameter i ∷ ts)
a_parameter i h d = behind h (λ e. no_dot e) d

pub still_name : (ts us : List Terminal) → BeginsWithName ts → BeginsWithName (ts ++ us)
still_name (name n ∷ ts) us h = tt
still_name (mark n ∷ ts) us h = absurd h
still_name (integer n ∷ ts) us h = absurd h
still_name (string n ∷ ts) us h = absurd h
still_name (parameter n ∷ ts) us h = absurd h
still_name (quote n ∷ ts) us h = absurd h
still_name [] us h = absurd h

-- one behind the other
pub both : {ts us : List Terminal} → Clear ts → Clear us → Clear (ts ++ us)
both nothing c = c
both {us = us} (behind {ts = ts} h k d) c = behind h (λ e. still_name ts us (k e)) (both d c)

pub perhaps_not : (n : Bool) {ts : List Terminal} → Clear ts → Clear (perhaps n (mark m.Not) ts)
perhaps_not true d = a_mark m.Not refl d
perhaps_not false d = d

-- ---- expressions

-- the printed expression is clear
abbrev pub Fine : Expr → Type 0
Fine x = Clear (printed x).terminals

pub fine_by : {p q : Printed} → q ≡ p → Clear p.terminals → Clear q.terminals
fine_by e d = subst (λ p. Clear p.terminals) (sym e) d

placed_by : (b : Bool) (ts : List Terminal) → Clear ts → Clear (if b then mark m.Open ∷ (ts ++ mark m.Close ∷ []) else ts)
placed_by true ts d = a_mark m.Open refl (both d (a_mark m.Close refl nothing))
placed_by false ts d = d

pub at_place : (place : Level) (x : Expr) → Fine x → Clear (placed place (printed x))
at_place place x d = placed_by (nat_lt (rank (printed x).level) (rank place)) (printed x).terminals d

pub type_writable : (ty : Ty) → Writable (name (type_name ty))
unfolding is_reserved
type_writable types.Bigint = (record { starts = refl; plain = refl; short = omega arith }, refl, refl)
type_writable types.Boolean = (record { starts = refl; plain = refl; short = omega arith }, refl, refl)
type_writable types.Text = (record { starts = refl; plain = refl; short = omega arith }, refl, refl)
type_writable types.Integer = (record { starts = refl; plain = refl; short = omega arith }, refl, refl)

pub count_writable : Writable (name (codes "count"))
unfolding is_reserved
count_writable = (record { starts = refl; plain = refl; short = omega arith }, refl, refl)

-- ---- what the productions of expressions read

abbrev pub ClearLinks : List (ChainOp × Expr) → Type 0
ClearLinks more = (level : Level) → Clear (links_terminals level (map (λ x. eq.link_of printing x) more))

abbrev pub ClearList : List Expr → Type 0
ClearList xs = NonEmpty xs × Clear (list_terminals (map (λ x. printed x) xs))

abbrev pub ClearArms : List (Expr × Expr) → Type 0
ClearArms more = Clear (arms_terminals (map (λ x. eq.arm_of printing x) more))

pub operator_clear : (o : ChainOp) → mark_is_dot (operator_mark o) ≡ false
operator_clear op.Or = refl
operator_clear op.And = refl
operator_clear op.Concat = refl
operator_clear (op.Int int.Add) = refl
operator_clear (op.Int int.Sub) = refl
operator_clear (op.Int int.Mul) = refl
operator_clear (op.Int int.Div) = refl
operator_clear (op.Int int.Rem) = refl
operator_clear (op.Small int.Add) = refl
operator_clear (op.Small int.Sub) = refl
operator_clear (op.Small int.Mul) = refl
operator_clear (op.Small int.Div) = refl
operator_clear (op.Small int.Rem) = refl

pub link_clear : (o : ChainOp) (x : Expr) (more : List (ChainOp × Expr)) → Fine x → ClearLinks more → ClearLinks ((o, x) ∷ more)
link_clear o x more d r level = a_mark (operator_mark o) (operator_clear o) (both (at_place (operands level) x d) (r level))

pub chain_clear : (first : Expr) (y : ChainOp × Expr) (more : List (ChainOp × Expr)) → Fine first → ClearLinks (y ∷ more) → Fine (e.Chain first (y ∷ more))
chain_clear first y more d r =
    let level = chain_level (map (λ x. eq.link_of printing x) (y ∷ more)) in
    fine_by (eq.of_chain printing first (y ∷ more)) (both (at_place (operands level) first d) (r level))

pub not_clear : (x : Expr) → Fine x → Fine (e.Not x)
not_clear x d = fine_by (eq.of_not printing x) (a_mark m.Not refl (at_place l.Is x d))

test_clear : (t : IsTest) → mark_is_dot (test_mark t) ≡ false
test_clear tests.Null = refl
test_clear tests.True = refl
test_clear tests.False = refl

pub is_clear : (x : Expr) (t : IsTest) (n : Bool) → Fine x → Fine (e.Is x t n)
is_clear x t n d =
    fine_by (eq.of_is printing x t n) (both (at_place l.Compare x d) (a_mark m.Is refl (perhaps_not n (a_mark (test_mark t) (test_clear t) nothing))))

pub comparison_clear : (o : CmpOp) → mark_is_dot (comparison_mark o) ≡ false
comparison_clear cmp.Eq = refl
comparison_clear cmp.Ne = refl
comparison_clear cmp.Lt = refl
comparison_clear cmp.Le = refl
comparison_clear cmp.Gt = refl
comparison_clear cmp.Ge = refl

pub compare_clear : (o : CmpOp) (x y : Expr) → Fine x → Fine y → Fine (e.Compare o x y)
compare_clear o x y d c =
    fine_by (eq.of_compare printing o x y) (both (at_place l.Range x d) (a_mark (comparison_mark o) (comparison_clear o) (at_place l.Range y c)))

pub between_clear : (n : Bool) (x low high : Expr) → Fine x → Fine low → Fine high → Fine (e.Between n x low high)
between_clear n x low high d b c =
    fine_by (eq.of_between printing n x low high)
    (both (at_place l.Concat x d) (perhaps_not n (a_mark m.Between refl (both (at_place l.Concat low b) (a_mark m.And refl (at_place l.Concat high c))))))

pub one_of_clear : (n : Bool) (x : Expr) (xs : List Expr) → Fine x → ClearList xs → Fine (e.OneOf n x xs)
one_of_clear n x xs d r =
    fine_by (eq.of_oneof printing n x xs)
    (both (at_place l.Concat x d) (perhaps_not n (a_mark m.In refl (a_mark m.Open refl (both r.1 (a_mark m.Close refl nothing))))))

pub neg_clear : (x : Expr) → Fine x → Fine (e.Neg x)
neg_clear x d = fine_by (eq.of_neg printing x) (a_mark m.Minus refl (at_place l.Cast x d))

pub least_clear : Fine (e.Int (negsuc (2 ^ 63 - 1)))
least_clear = a_mark m.Minus refl (an_integer (2 ^ 63) (omega arith) nothing)

pub number_clear : (n : ℕ) → n < 2 ^ 63 → Fine (e.Int (pos n))
number_clear n h = an_integer n (omega (arith, h)) nothing

pub text_clear : (t : List ℕ) → Writable (string t) → Fine (e.Str t)
text_clear t h = behind h (λ e. no_dot e) nothing

pub literal_clear : (terminal : Mark) (x : Expr) → literal_of terminal ≡ Some x → Fine x
literal_clear m.True x h = subst Fine (same_Some _ _ h) (a_mark m.True refl nothing)
literal_clear m.False x h = subst Fine (same_Some _ _ h) (a_mark m.False refl nothing)
literal_clear m.Null x h = subst Fine (same_Some _ _ h) (a_mark m.Null refl nothing)
literal_clear _ x h = absurd (cc h)

pub named_clear : (n : List ℕ) → Writable (name n) → Fine (e.Named n)
named_clear n h = a_name n h nothing

pub qualified_clear : (n c : List ℕ) → Writable (name n) → Writable (name c) → Fine (e.Dotted n c)
qualified_clear n c h k = a_name n h (behind {s = mark m.Dot} tt (λ e. tt) (a_name c k nothing))

pub parameter_clear : (i : ℕ) (ty : Ty) → Writable (parameter i) → Fine (e.Param i ty)
parameter_clear i ty h =
    a_mark m.Cast refl (a_mark m.Open refl (a_parameter i h (a_mark m.As refl (a_name (type_name ty) (type_writable ty) (a_mark m.Close refl nothing)))))

pub cast_clear : (x : Expr) (ty : Ty) → Fine x → Fine (e.Cast x ty)
cast_clear x ty d =
    fine_by (eq.of_cast printing x ty)
    (a_mark m.Cast refl (a_mark m.Open refl (both (at_place l.Or x d) (a_mark m.As refl (a_name (type_name ty) (type_writable ty) (a_mark m.Close refl nothing))))))

pub scalar_clear : (q : Query) → Clear (query_terminals q) → Fine (e.Scalar q)
scalar_clear q d = fine_by (eq.of_scalar printing q) (a_mark m.Open refl (both d (a_mark m.Close refl nothing)))

pub exists_clear : (q : Query) → Clear (query_terminals q) → Fine (e.Exists q)
exists_clear q d = fine_by (eq.of_exists printing q) (a_mark m.Exists refl (a_mark m.Open refl (both d (a_mark m.Close refl nothing))))

pub count_clear : Fine e.CountRows
count_clear = a_name (codes "count") count_writable (a_mark m.Open refl (a_mark m.Star refl (a_mark m.Close refl nothing)))

pub last_clear : (x : Expr) → Fine x → ClearList (x ∷ [])
last_clear x d = (tt, at_place l.Or x d)

pub another_clear : (x : Expr) (xs : List Expr) → Fine x → ClearList xs → ClearList (x ∷ xs)
another_clear x [] d r = absurd r.0
another_clear x (y ∷ ys) d r = (tt, both (at_place l.Or x d) (a_mark m.Comma refl r.1))

pub arm_clear : (test value : Expr) (more : List (Expr × Expr)) → Fine test → Fine value → ClearArms more → ClearArms ((test, value) ∷ more)
arm_clear test value more d b r = a_mark m.When refl (both (at_place l.Or test d) (a_mark m.Then refl (both (at_place l.Or value b) r)))

pub cases_clear : (arms : List (Expr × Expr)) → ClearArms arms → Fine (e.Cases arms None)
cases_clear arms r = fine_by (eq.of_cases printing arms None) (a_mark m.Case refl (both r (a_mark m.End refl nothing)))

pub cases_else_clear : (arms : List (Expr × Expr)) (x : Expr) → ClearArms arms → Fine x → Fine (e.Cases arms (Some x))
cases_else_clear arms x r d =
    fine_by (eq.of_cases printing arms (Some x)) (a_mark m.Case refl (both r (a_mark m.Else refl (both (at_place l.Or x d) (a_mark m.End refl nothing)))))

function_by : (a b c : Bool) (n : List ℕ) {ts : List Terminal} → Writable (name n) → Clear ts
    → Clear ((if a then mark m.Coalesce else (if b then mark m.Greatest else (if c then mark m.Least else name n))) ∷ ts)
function_by true b c n h d = a_mark m.Coalesce refl d
function_by false true c n h d = a_mark m.Greatest refl d
function_by false false true n h d = a_mark m.Least refl d
function_by false false false n h d = a_name n h d

-- a function's terminal
abbrev pub ClearFunction : List ℕ → Type 0
ClearFunction n = (ts : List Terminal) → Clear ts → Clear (function_terminal n ∷ ts)

pub function_clear : (n : List ℕ) → Writable (name n) → ClearFunction n
unfolding function_terminal
function_clear n h ts d = function_by (bytes_eq n (codes "coalesce")) (bytes_eq n (codes "greatest")) (bytes_eq n (codes "least")) n h d

coalesce_clear : ClearFunction (codes "coalesce")
unfolding function_terminal
coalesce_clear ts d = a_mark m.Coalesce refl d

greatest_clear : ClearFunction (codes "greatest")
unfolding function_terminal
greatest_clear ts d = a_mark m.Greatest refl d

least_of_clear : ClearFunction (codes "least")
unfolding function_terminal
least_of_clear ts d = a_mark m.Least refl d

pub word_clear : (terminal : Mark) (n : List ℕ) → called terminal ≡ Some n → ClearFunction n
word_clear m.Coalesce n h = subst ClearFunction (same_Some _ _ h) coalesce_clear
word_clear m.Greatest n h = subst ClearFunction (same_Some _ _ h) greatest_clear
word_clear m.Least n h = subst ClearFunction (same_Some _ _ h) least_of_clear
word_clear _ n h = absurd (cc h)

pub call_empty_clear : (n : List ℕ) → Writable (name n) → Fine (e.Call n [])
call_empty_clear n h = fine_by (eq.of_call printing n []) (a_name n h (a_mark m.Open refl (a_mark m.Close refl nothing)))

pub call_clear : (n : List ℕ) (xs : List Expr) → ClearFunction n → ClearList xs → Fine (e.Call n xs)
call_clear n [] f r = absurd r.0
call_clear n (x ∷ xs) f r = fine_by (eq.of_call printing n (x ∷ xs)) (f _ (a_mark m.Open refl (both r.1 (a_mark m.Close refl nothing))))
