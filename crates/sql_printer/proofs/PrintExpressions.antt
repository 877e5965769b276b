-- What each production of expressions reads prints as terminals that read back, where its parts do.
use Rattle.std.proofs.Common.{◌≡◌, ℕ, ◌<◌, ◌^◌, ◌-◌, pos, negsuc, Bool, true, false, List, [], ◌∷◌, ◌++◌, map, Some, None, refl, sym, ap, subst, append_assoc, codes, bytes_eq, if◌then◌else◌}
use Rattle.std.proofs.lemmas.Slice.Eq.{bytes_eq-Decides}
use Rattle.away_grammar.specs.declared.grammar.Mark.{Mark}
use Rattle.away_grammar.specs.declared.grammar.Mark.TheVariants as m
use Rattle.away_grammar.specs.declared.grammar.Level.{Level}
use Rattle.away_grammar.specs.declared.grammar.Level.TheVariants as l
use Rattle.away_values.specs.declared.types.Ty.{Ty}
use Rattle.away_values.specs.declared.types.Ty.TheVariants as types
use Rattle.away_values.specs.declared.operators.IntOp.TheVariants as int
use Rattle.away_values.specs.declared.operators.ChainOp.{ChainOp}
use Rattle.away_values.specs.declared.operators.ChainOp.TheVariants as op
use Rattle.away_values.specs.declared.operators.CmpOp.{CmpOp}
use Rattle.away_values.specs.declared.operators.CmpOp.TheVariants as cmp
use Rattle.away_values.specs.declared.operators.IsTest.{IsTest}
use Rattle.away_values.specs.declared.operators.IsTest.TheVariants as tests
use Rattle.away_trees.specs.declared.queries.Expr.{Expr}
use Rattle.away_trees.specs.declared.queries.Expr.TheVariants as e
use Rattle.away_trees.specs.declared.queries.Query.{Query}
use Rattle.away_grammar.specs.Terminals.{Terminal, mark, name}
use Rattle.away_grammar.specs.Grammar.{at, links, list, arms, query, operands, operator_of, comparison_of, test_of, literal_of, type_named, perhaps, IsChain, Reads, chain, link, negated, tested, compared, between, one_of, signed, least, number, text, literal, named, qualified, typed_parameter, scalar, cast, exists, cases, cases_else, call_word, count_rows, call_empty, call, last, another, arm}
use Rattle.away_grammar.specs.Printing.{placed, printed, printing, operator_mark, operator_level, comparison_mark, test_mark, type_name, function_terminal, links_terminals, list_terminals, arms_terminals, query_terminals}
use Rattle.away_trees.proofs.Equations as eq
use Rattle.std.proofs.lemmas.Option.{same_Some}
use Rattle.sql_printer.proofs.PrintLevels.{Back, back_by, place}

-- ---- what the lists read

abbrev pub NonEmpty : {A : Type 0} → List A → Type 0
NonEmpty [] = ⊥
NonEmpty (x ∷ xs) = Unit {0}

abbrev pub LinksBack : Level → List (ChainOp × Expr) → Type 0
LinksBack level more = (after : List Terminal) → Reads (links level) (links_terminals level (map (λ x. eq.link_of printing x) more) ++ after) more after

abbrev pub ListBack : List Expr → Type 0
ListBack xs = NonEmpty xs × ((after : List Terminal) → Reads list (list_terminals (map (λ x. printed x) xs) ++ after) xs after)

abbrev pub ArmsBack : List (Expr × Expr) → Type 0
ArmsBack more = (after : List Terminal) → Reads arms (arms_terminals (map (λ x. eq.arm_of printing x) more) ++ after) more after

abbrev pub QueryBack : Query → Type 0
QueryBack q = (after : List Terminal) → Reads query (query_terminals q ++ after) q after

pub perhaps_behind : (n : Bool) (s : Terminal) (ts after : List Terminal) → perhaps n s ts ++ after ≡ perhaps n s (ts ++ after)
perhaps_behind true s ts after = refl
perhaps_behind false s ts after = refl

-- ---- chains

-- An operator is written as its mark, at its level.
pub record IsOperator (level : Level) (terminal : Mark) (o : ChainOp) : Type 0 where
  pub written : operator_mark o ≡ terminal
  pub level_is : operator_level o ≡ level

is_the : (level : Level) (terminal : Mark) (o p : ChainOp) → Some o ≡ Some p → IsOperator level terminal o → IsOperator level terminal p
is_the level terminal o p h is = subst (IsOperator level terminal) (same_Some _ _ h) is

or_is : (terminal : Mark) (o : ChainOp) → operator_of l.Or terminal ≡ Some o → IsOperator l.Or terminal o
or_is m.Or o h = is_the l.Or m.Or op.Or o h (record { written = refl; level_is = refl })
or_is _ o h = absurd (cc h)

and_is : (terminal : Mark) (o : ChainOp) → operator_of l.And terminal ≡ Some o → IsOperator l.And terminal o
and_is m.And o h = is_the l.And m.And op.And o h (record { written = refl; level_is = refl })
and_is _ o h = absurd (cc h)

bars_is : (terminal : Mark) (o : ChainOp) → operator_of l.Concat terminal ≡ Some o → IsOperator l.Concat terminal o
bars_is m.Bars o h = is_the l.Concat m.Bars op.Concat o h (record { written = refl; level_is = refl })
bars_is _ o h = absurd (cc h)

sum_is : (terminal : Mark) (o : ChainOp) → operator_of l.Sum terminal ≡ Some o → IsOperator l.Sum terminal o
sum_is m.Plus o h = is_the l.Sum m.Plus (op.Int int.Add) o h (record { written = refl; level_is = refl })
sum_is m.Minus o h = is_the l.Sum m.Minus (op.Int int.Sub) o h (record { written = refl; level_is = refl })
sum_is _ o h = absurd (cc h)

product_is : (terminal : Mark) (o : ChainOp) → operator_of l.Product terminal ≡ Some o → IsOperator l.Product terminal o
product_is m.Star o h = is_the l.Product m.Star (op.Int int.Mul) o h (record { written = refl; level_is = refl })
product_is m.Slash o h = is_the l.Product m.Slash (op.Int int.Div) o h (record { written = refl; level_is = refl })
product_is m.Percent o h = is_the l.Product m.Percent (op.Int int.Rem) o h (record { written = refl; level_is = refl })
product_is _ o h = absurd (cc h)

pub operator_is : (level : Level) (terminal : Mark) (o : ChainOp) → operator_of level terminal ≡ Some o → IsOperator level terminal o
operator_is l.Or terminal o h = or_is terminal o h
operator_is l.And terminal o h = and_is terminal o h
operator_is l.Concat terminal o h = bars_is terminal o h
operator_is l.Sum terminal o h = sum_is terminal o h
operator_is l.Product terminal o h = product_is terminal o h
operator_is _ terminal o h = absurd (cc h)

pub link_back : (level : Level) (terminal : Mark) (o : ChainOp) (x : Expr) (more : List (ChainOp × Expr)) → operator_of level terminal ≡ Some o → Back x → LinksBack level more → LinksBack level ((o, x) ∷ more)
link_back level terminal o x more h b r after =
    let seen : operator_of level (operator_mark o) ≡ Some o = subst (λ k. operator_of level k ≡ Some o) (sym (operator_is level terminal o h).written) h in
    simp append_assoc (link (operator_mark o) seen (place (operands level) x (links_terminals level (map (λ x. eq.link_of printing x) more) ++ after) b) (r after))

-- a chain at the level of its operators
pub chain_back : (level : Level) (terminal : Mark) (o : ChainOp) (first x : Expr) (more : List (ChainOp × Expr)) → IsChain level → operator_of level terminal ≡ Some o
    → Back first → LinksBack level ((o, x) ∷ more) → Back (e.Chain first ((o, x) ∷ more))
chain_back level terminal o first x more p h f r =
    let same : level ≡ operator_level o = sym (operator_is level terminal o h).level_is in
    let all : LinksBack (operator_level o) ((o, x) ∷ more) = subst (λ k. LinksBack k ((o, x) ∷ more)) same r in
    let is_chain : IsChain (operator_level o) = subst IsChain same p in
    back_by (eq.of_chain printing first ((o, x) ∷ more)) (λ after.
    let k = operator_level o in
    let tail = links_terminals k (map (λ x. eq.link_of printing x) ((o, x) ∷ more)) in
    subst (λ ts. Reads (at k) ts (e.Chain first ((o, x) ∷ more)) after) (sym (append_assoc (placed (operands k) (printed first)) tail after))
    (chain is_chain (place (operands k) first (tail ++ after) f) (all after)))

-- ---- NOT, IS, comparisons, BETWEEN, IN and minus

pub not_back : (x : Expr) → Back x → Back (e.Not x)
not_back x b = back_by (eq.of_not printing x) (λ after. negated (place l.Is x after b))

test_is : (t : IsTest) → test_of (test_mark t) ≡ Some t
test_is tests.Null = refl
test_is tests.True = refl
test_is tests.False = refl

pub is_back : (x : Expr) (t : IsTest) (n : Bool) → Back x → Back (e.Is x t n)
is_back x t n b =
    back_by (eq.of_is printing x t n) (λ after.
    simp (append_assoc, perhaps_behind) (tested (test_mark t) (test_is t) (place l.Compare x (mark m.Is ∷ perhaps n (mark m.Not) (mark (test_mark t) ∷ after)) b)))

pub comparison_is : (o : CmpOp) → comparison_of (comparison_mark o) ≡ Some o
comparison_is cmp.Eq = refl
comparison_is cmp.Ne = refl
comparison_is cmp.Lt = refl
comparison_is cmp.Le = refl
comparison_is cmp.Gt = refl
comparison_is cmp.Ge = refl

pub compare_back : (o : CmpOp) (x y : Expr) → Back x → Back y → Back (e.Compare o x y)
compare_back o x y b c =
    back_by (eq.of_compare printing o x y) (λ after.
    simp append_assoc (compared (comparison_mark o) (comparison_is o) (place l.Range x (mark (comparison_mark o) ∷ (placed l.Range (printed y) ++ after)) b) (place l.Range y after c)))

pub between_back : (n : Bool) (x low high : Expr) → Back x → Back low → Back high → Back (e.Between n x low high)
between_back n x low high b c d =
    back_by (eq.of_between printing n x low high) (λ after.
    let upper = placed l.Concat (printed high) ++ after in
    let bounds = placed l.Concat (printed low) ++ mark m.And ∷ upper in
    simp (append_assoc, perhaps_behind)
    (between (place l.Concat x (perhaps n (mark m.Not) (mark m.Between ∷ bounds)) b) (place l.Concat low (mark m.And ∷ upper) c) (place l.Concat high after d)))

pub one_of_back : (n : Bool) (x : Expr) (xs : List Expr) → Back x → ListBack xs → Back (e.OneOf n x xs)
one_of_back n x xs b r =
    back_by (eq.of_oneof printing n x xs) (λ after.
    let choices = list_terminals (map (λ x. printed x) xs) ++ mark m.Close ∷ after in
    simp (append_assoc, perhaps_behind) (one_of (place l.Concat x (perhaps n (mark m.Not) (mark m.In ∷ mark m.Open ∷ choices)) b) (r.1 (mark m.Close ∷ after))))

pub neg_back : (x : Expr) → Back x → Back (e.Neg x)
neg_back x b = back_by (eq.of_neg printing x) (λ after. signed (place l.Cast x after b))

pub least_back : Back (e.Int (negsuc (2 ^ 63 - 1)))
least_back after = least

-- ---- what stands alone

pub number_back : (n : ℕ) → n < 2 ^ 63 → Back (e.Int (pos n))
number_back n h after = number h

pub text_back : (t : List ℕ) → Back (e.Str t)
text_back t after = text

pub literal_back : (terminal : Mark) (x : Expr) → literal_of terminal ≡ Some x → Back x
literal_back m.True x h = subst Back (same_Some _ _ h) (λ after. literal m.True refl)
literal_back m.False x h = subst Back (same_Some _ _ h) (λ after. literal m.False refl)
literal_back m.Null x h = subst Back (same_Some _ _ h) (λ after. literal m.Null refl)
literal_back _ x h = absurd (cc h)

pub named_back : (n : List ℕ) → Back (e.Named n)
named_back n after = named

pub qualified_back : (n c : List ℕ) → Back (e.Dotted n c)
qualified_back n c after = qualified

-- The name that a type prints as is its name.
pub type_is : (t : List ℕ) (ty : Ty) → type_named t ≡ Some ty → type_named (type_name ty) ≡ Some ty
unfolding type_named
type_is t types.Bigint h = refl
type_is t types.Boolean h = refl
type_is t types.Text h = refl
type_is t types.Integer h = refl

pub parameter_back : (i : ℕ) (t : List ℕ) (ty : Ty) → type_named t ≡ Some ty → Back (e.Param i ty)
parameter_back i t ty h after = typed_parameter (type_name ty) (type_is t ty h)

pub cast_back : (x : Expr) (t : List ℕ) (ty : Ty) → type_named t ≡ Some ty → Back x → Back (e.Cast x ty)
cast_back x t ty h b =
    back_by (eq.of_cast printing x ty) (λ after.
    simp append_assoc (cast (type_name ty) (type_is t ty h) (place l.Or x (mark m.As ∷ name (type_name ty) ∷ mark m.Close ∷ after) b)))

pub scalar_back : (q : Query) → QueryBack q → Back (e.Scalar q)
scalar_back q b = back_by (eq.of_scalar printing q) (λ after. simp append_assoc (scalar (b (mark m.Close ∷ after))))

pub exists_back : (q : Query) → QueryBack q → Back (e.Exists q)
exists_back q b = back_by (eq.of_exists printing q) (λ after. simp append_assoc (exists (b (mark m.Close ∷ after))))

pub count_back : Back e.CountRows
count_back after = count_rows

-- ---- lists, CASE and calls

pub last_back : (x : Expr) → Back x → ListBack (x ∷ [])
last_back x b = (tt, λ after. last (place l.Or x after b))

pub another_back : (x : Expr) (xs : List Expr) → Back x → ListBack xs → ListBack (x ∷ xs)
another_back x [] b r = absurd r.0
another_back x (y ∷ ys) b r = (tt, λ after. simp append_assoc (another (place l.Or x (mark m.Comma ∷ (list_terminals (map (λ x. printed x) (y ∷ ys)) ++ after)) b) (r.1 after)))

pub arm_back : (test value : Expr) (more : List (Expr × Expr)) → Back test → Back value → ArmsBack more → ArmsBack ((test, value) ∷ more)
arm_back test value more b c r after =
    let others = arms_terminals (map (λ x. eq.arm_of printing x) more) ++ after in
    let second = placed l.Or (printed value) ++ others in
    simp append_assoc (arm (place l.Or test (mark m.Then ∷ second) b) (place l.Or value others c) (r after))

pub cases_back : (a : Expr × Expr) (more : List (Expr × Expr)) → ArmsBack (a ∷ more) → Back (e.Cases (a ∷ more) None)
cases_back a more r = back_by (eq.of_cases printing (a ∷ more) None) (λ after. simp append_assoc (cases (simp append_assoc at (r (mark m.End ∷ after)))))

pub cases_else_back : (a : Expr × Expr) (more : List (Expr × Expr)) (x : Expr) → ArmsBack (a ∷ more) → Back x → Back (e.Cases (a ∷ more) (Some x))
cases_else_back a more x r b =
    back_by (eq.of_cases printing (a ∷ more) (Some x)) (λ after.
    let other = placed l.Or (printed x) ++ mark m.End ∷ after in
    simp append_assoc (cases_else (simp append_assoc at (r (mark m.Else ∷ other))) (place l.Or x (mark m.End ∷ after) b)))

function_by : (a b c : Bool) (n : List ℕ) → bytes_eq n (codes "coalesce") ≡ a → bytes_eq n (codes "greatest") ≡ b → bytes_eq n (codes "least") ≡ c
    → {ts rest : List Terminal} {xs : List Expr} → Reads list ts xs (mark m.Close ∷ rest)
    → Reads (at l.Primary) ((if a then mark m.Coalesce else (if b then mark m.Greatest else (if c then mark m.Least else name n))) ∷ mark m.Open ∷ ts) (e.Call n xs) rest
function_by true b c n h k j d = call_word m.Coalesce (ap Some (sym ((bytes_eq-Decides n (codes "coalesce")).0 h))) d
function_by false true c n h k j d = call_word m.Greatest (ap Some (sym ((bytes_eq-Decides n (codes "greatest")).0 k))) d
function_by false false true n h k j d = call_word m.Least (ap Some (sym ((bytes_eq-Decides n (codes "least")).0 j))) d
function_by false false false n h k j d = call d

-- A function's terminal and its arguments read as the call.
function_reads : (n : List ℕ) {ts rest : List Terminal} {xs : List Expr} → Reads list ts xs (mark m.Close ∷ rest) → Reads (at l.Primary) (function_terminal n ∷ mark m.Open ∷ ts) (e.Call n xs) rest
unfolding function_terminal
function_reads n d = function_by (bytes_eq n (codes "coalesce")) (bytes_eq n (codes "greatest")) (bytes_eq n (codes "least")) n refl refl refl d

pub call_back : (n : List ℕ) (xs : List Expr) → ListBack xs → Back (e.Call n xs)
call_back n [] r = absurd r.0
call_back n (x ∷ xs) r = back_by (eq.of_call printing n (x ∷ xs)) (λ after. simp append_assoc (function_reads n (r.1 (mark m.Close ∷ after))))

pub call_empty_back : (n : List ℕ) → Back (e.Call n [])
call_empty_back n = back_by (eq.of_call printing n []) (λ after. call_empty)
