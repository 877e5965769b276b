-- Terminals whose last one isn't END, and which printed expressions are such.
use Rattle.std.proofs.lemmas.List.{length-append}
use Rattle.std.proofs.Common.{◌≡◌, ℕ, suc, length, arith, ◌-◌, ◌^◌, pos, negsuc, refl, sym, ap, ◌∙◌, subst, Bool, true, false, List, [], ◌∷◌, ◌++◌, map, Some, append_assoc, codes}
use Rattle.std.proofs.lemmas.Option.{same_Some}
use Rattle.away_grammar.specs.declared.grammar.Mark.{Mark}
use Rattle.away_grammar.specs.declared.grammar.Mark.TheVariants as m
use Rattle.away_grammar.specs.declared.grammar.Level.TheVariants as l
use Rattle.away_values.specs.declared.types.Ty.{Ty}
use Rattle.away_values.specs.declared.operators.IsTest.{IsTest}
use Rattle.away_values.specs.declared.operators.IsTest.TheVariants as tests
use Rattle.away_trees.specs.declared.queries.Expr.{Expr}
use Rattle.away_trees.specs.declared.queries.Expr.TheVariants as e
use Rattle.away_trees.specs.declared.queries.Query.{Query}
use Rattle.away_trees.proofs.Equations as eq
use Rattle.away_grammar.specs.Terminals.{Terminal, mark, name, integer, string, parameter}
use Rattle.away_grammar.specs.Grammar.{literal_of, perhaps}
use Rattle.away_grammar.specs.Printing.{Printed, placed, printed, printing, test_mark, type_name, function_terminal, list_terminals, query_terminals}

abbrev mark_is_end : Mark → Bool
mark_is_end m.End = true
mark_is_end _ = false

abbrev pub is_end : Terminal → Bool
is_end (mark terminal) = mark_is_end terminal
is_end _ = false

-- there is a last terminal, which isn't END
pub record EndsOpen (ts : List Terminal) : Type 0 where
  pub before : List Terminal
  pub last : Terminal
  pub is : ts ≡ before ++ last ∷ []
  pub no : is_end last ≡ false

-- whatever stands before them
pub front : (ss : List Terminal) {ts : List Terminal} → EndsOpen ts → EndsOpen (ss ++ ts)
front ss h = record { before = ss ++ h.before; last = h.last; is = ap (λ z. ss ++ z) h.is ∙ sym (append_assoc ss h.before (h.last ∷ [])); no = h.no }

pub one : (s : Terminal) → is_end s ≡ false → EndsOpen (s ∷ [])
one s h = record { before = []; last = s; is = refl; no = h }

-- a closing parenthesis
pub closing : EndsOpen (mark m.Close ∷ [])
closing = one (mark m.Close) refl

abbrev pub Open : Expr → Type 0
Open x = EndsOpen (printed x).terminals

abbrev terminals_of : Printed → List Terminal
terminals_of p = p.terminals

by : (x : Expr) {p : Printed} → printed x ≡ p → EndsOpen p.terminals → Open x
by x h d = subst (λ q. EndsOpen (terminals_of q)) (sym h) d

test_open : (t : IsTest) → is_end (mark (test_mark t)) ≡ false
test_open tests.Null = refl
test_open tests.True = refl
test_open tests.False = refl

perhaps_open : (n : Bool) (s : Terminal) {ts : List Terminal} → EndsOpen ts → EndsOpen (perhaps n s ts)
perhaps_open true s d = front (s ∷ []) d
perhaps_open false s d = d

pub is_open : (x : Expr) (t : IsTest) (n : Bool) → Open (e.Is x t n)
is_open x t n =
    by (e.Is x t n) (eq.of_is printing x t n)
    (front (placed l.Compare (printed x)) (front (mark m.Is ∷ []) (perhaps_open n (mark m.Not) (one (mark (test_mark t)) (test_open t)))))

pub one_of_open : (n : Bool) (x : Expr) (xs : List Expr) → Open (e.OneOf n x xs)
one_of_open n x xs =
    by (e.OneOf n x xs) (eq.of_oneof printing n x xs)
    (front (placed l.Concat (printed x))
    (perhaps_open n (mark m.Not) (front (mark m.In ∷ mark m.Open ∷ []) (front (list_terminals (map (λ x. printed x) xs)) closing))))

pub least_open : Open (e.Int (negsuc (2 ^ 63 - 1)))
least_open = front (mark m.Minus ∷ []) (one (integer (2 ^ 63)) refl)

pub number_open : (n : ℕ) → Open (e.Int (pos n))
number_open n = one (integer n) refl

pub text_open : (t : List ℕ) → Open (e.Str t)
text_open t = one (string t) refl

pub literal_open : (terminal : Mark) (x : Expr) → literal_of terminal ≡ Some x → Open x
literal_open m.True x h = subst Open (same_Some _ _ h) (one (mark m.True) refl)
literal_open m.False x h = subst Open (same_Some _ _ h) (one (mark m.False) refl)
literal_open m.Null x h = subst Open (same_Some _ _ h) (one (mark m.Null) refl)
literal_open _ x h = absurd (cc h)

pub named_open : (n : List ℕ) → Open (e.Named n)
named_open n = one (name n) refl

pub qualified_open : (n c : List ℕ) → Open (e.Dotted n c)
qualified_open n c = front (name n ∷ mark m.Dot ∷ []) (one (name c) refl)

pub parameter_open : (i : ℕ) (ty : Ty) → Open (e.Param i ty)
parameter_open i ty = front (mark m.Cast ∷ mark m.Open ∷ parameter i ∷ mark m.As ∷ name (type_name ty) ∷ []) closing

pub cast_open : (x : Expr) (ty : Ty) → Open (e.Cast x ty)
cast_open x ty =
    by (e.Cast x ty) (eq.of_cast printing x ty)
    (front (mark m.Cast ∷ mark m.Open ∷ []) (front (placed l.Or (printed x)) (front (mark m.As ∷ name (type_name ty) ∷ []) closing)))

pub scalar_open : (q : Query) → Open (e.Scalar q)
scalar_open q = by (e.Scalar q) (eq.of_scalar printing q) (front (mark m.Open ∷ []) (front (query_terminals q) closing))

pub exists_open : (q : Query) → Open (e.Exists q)
exists_open q = by (e.Exists q) (eq.of_exists printing q) (front (mark m.Exists ∷ mark m.Open ∷ []) (front (query_terminals q) closing))

pub count_open : Open e.CountRows
count_open = front (name (codes "count") ∷ mark m.Open ∷ mark m.Star ∷ []) closing

pub call_open : (n : List ℕ) (xs : List Expr) → Open (e.Call n xs)
call_open n [] = by (e.Call n []) (eq.of_call printing n []) (front (name n ∷ mark m.Open ∷ []) closing)
call_open n (x ∷ xs) =
    by (e.Call n (x ∷ xs)) (eq.of_call printing n (x ∷ xs))
    (front (function_terminal n ∷ mark m.Open ∷ []) (front (list_terminals (map (λ x. printed x) (x ∷ xs))) closing))

-- ---- the last terminal

abbrev first_or : {A : Type 0} → A → List A → A
first_or d [] = d
first_or d (x ∷ xs) = x

abbrev rest_of : {A : Type 0} → List A → List A
rest_of [] = []
rest_of (x ∷ xs) = xs

-- before the same terminals stands the same one
pub same_last : {A : Type 0} (a b : List A) (p q : A) (t : List A) → a ++ p ∷ t ≡ b ++ q ∷ t → p ≡ q
same_last [] [] p q t e = ap (first_or p) e
same_last [] (y ∷ b) p q t e =
    absurd (let sizes : suc (length t) ≡ suc (length (b ++ q ∷ t)) = ap length e in omega (arith, sizes, length-append b (q ∷ t)))
same_last (x ∷ a) [] p q t e =
    absurd (let sizes : suc (length (a ++ p ∷ t)) ≡ suc (length t) = ap length e in omega (arith, sizes, length-append a (p ∷ t)))
same_last (x ∷ a) (y ∷ b) p q t e = same_last a b p q t (ap rest_of e)

pub ends_open : {ts : List Terminal} → EndsOpen ts → (before : List Terminal) → ts ≡ before ++ mark m.End ∷ [] → ⊥
ends_open h before e =
    let last : h.last ≡ mark m.End = same_last h.before before h.last (mark m.End) [] (sym h.is ∙ e) in
    let wrong : true ≡ false = ap is_end (sym last) ∙ h.no in
    cc wrong
