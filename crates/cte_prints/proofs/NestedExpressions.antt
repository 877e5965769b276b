-- What each production of expressions derives prints no deeper than it derives it, where its parts do.
use Rattle.std.proofs.Common.{◌≡◌, ℕ, suc, ◌^◌, ◌-◌, pos, negsuc, Bool, true, false, nat_lt, if◌then◌else◌, List, [], ◌∷◌, ◌++◌, map, Some, None, refl, sym}
use Rattle.std.proofs.Common.{subst, arith, append_assoc, codes, bytes_eq}
use Rattle.std.proofs.lemmas.Bool.Decides.{nat_tests}
use Rattle.std.proofs.lemmas.Option.{same_Some}
use Rattle.away_grammar.specs.declared.grammar.Mark.{Mark}
use Rattle.away_grammar.specs.declared.grammar.Mark.TheVariants as m
use Rattle.away_grammar.specs.declared.grammar.Level.{Level}
use Rattle.away_grammar.specs.declared.grammar.Level.TheVariants as l
use Rattle.away_values.specs.declared.types.Ty.{Ty}
use Rattle.away_values.specs.declared.operators.IntOp.TheVariants as int
use Rattle.away_values.specs.declared.operators.ChainOp.{ChainOp}
use Rattle.away_values.specs.declared.operators.ChainOp.TheVariants as op
use Rattle.away_values.specs.declared.operators.CmpOp.{CmpOp}
use Rattle.away_values.specs.declared.operators.CmpOp.TheVariants as cmp
use Rattle.away_values.specs.declared.operators.IsTest.{IsTest}
use Rattle.away_values.specs.declared.operators.IsTest.TheVariants as tests
use Rattle.away_trees.specs.declared.queries.Expr.{Expr}
use Rattle.away_trees.specs.declared.queries.Expr.TheVariants as e
use Rattle.away_trees.specs.declared.queries.Query.{Query}
use Rattle.away_trees.proofs.Equations as eq
use Rattle.away_grammar.specs.Nesting.{stays}
use Rattle.away_grammar.specs.Terminals.{Terminal, mark, name}
use Rattle.away_grammar.specs.Grammar.{rank, operands, operator_of, literal_of, perhaps}
use Rattle.away_grammar.specs.Printing.{placed, printed, printing, operator_mark, operator_level, comparison_mark, test_mark, type_name, function_terminal}
use Rattle.away_grammar.specs.Printing.{links_terminals, list_terminals, arms_terminals, query_terminals}
use Rattle.cte_prints.specs.TerminalNesting.{mark_change}
use Rattle.cte_prints.proofs.Balanced.{Nested, nothing, a_mark, a_name, an_integer, a_string, a_parameter, both, closed, cased, Fine, at_place, alone_by}

-- ---- what the lists derive

abbrev pub NestedLinks : ℕ → Level → List (ChainOp × Expr) → Type 0
NestedLinks d level more = Nested d (links_terminals level (map (λ x. eq.link_of printing x) more))

abbrev pub NestedList : ℕ → List Expr → Type 0
NestedList d xs = Nested d (list_terminals (map (λ x. printed x) xs))

abbrev pub NestedArms : ℕ → List (Expr × Expr) → Type 0
NestedArms d more = Nested d (arms_terminals (map (λ x. eq.arm_of printing x) more))

pub perhaps_mark : {d : ℕ} (n : Bool) (terminal : Mark) → mark_change terminal ≡ stays → {ts : List Terminal} → Nested d ts → Nested d (perhaps n (mark terminal) ts)
perhaps_mark true terminal e h = a_mark terminal e h
perhaps_mark false terminal e h = h

-- ---- chains

operator_stays : (o : ChainOp) → mark_change (operator_mark o) ≡ stays
operator_stays op.Or = refl
operator_stays op.And = refl
operator_stays op.Concat = refl
operator_stays (op.Int int.Add) = refl
operator_stays (op.Int int.Sub) = refl
operator_stays (op.Int int.Mul) = refl
operator_stays (op.Int int.Div) = refl
operator_stays (op.Int int.Rem) = refl
operator_stays (op.Small int.Add) = refl
operator_stays (op.Small int.Sub) = refl
operator_stays (op.Small int.Mul) = refl
operator_stays (op.Small int.Div) = refl
operator_stays (op.Small int.Rem) = refl

-- The operators of a level have it as theirs.
abbrev HasLevel : Level → ChainOp → Type 0
HasLevel level o = operator_level o ≡ level

or_level : (terminal : Mark) (o : ChainOp) → operator_of l.Or terminal ≡ Some o → HasLevel l.Or o
or_level m.Or o h = subst (HasLevel l.Or) (same_Some _ _ h) refl
or_level _ o h = absurd (cc h)

and_level : (terminal : Mark) (o : ChainOp) → operator_of l.And terminal ≡ Some o → HasLevel l.And o
and_level m.And o h = subst (HasLevel l.And) (same_Some _ _ h) refl
and_level _ o h = absurd (cc h)

bars_level : (terminal : Mark) (o : ChainOp) → operator_of l.Concat terminal ≡ Some o → HasLevel l.Concat o
bars_level m.Bars o h = subst (HasLevel l.Concat) (same_Some _ _ h) refl
bars_level _ o h = absurd (cc h)

sum_level : (terminal : Mark) (o : ChainOp) → operator_of l.Sum terminal ≡ Some o → HasLevel l.Sum o
sum_level m.Plus o h = subst (HasLevel l.Sum) (same_Some _ _ h) refl
sum_level m.Minus o h = subst (HasLevel l.Sum) (same_Some _ _ h) refl
sum_level _ o h = absurd (cc h)

product_level : (terminal : Mark) (o : ChainOp) → operator_of l.Product terminal ≡ Some o → HasLevel l.Product o
product_level m.Star o h = subst (HasLevel l.Product) (same_Some _ _ h) refl
product_level m.Slash o h = subst (HasLevel l.Product) (same_Some _ _ h) refl
product_level m.Percent o h = subst (HasLevel l.Product) (same_Some _ _ h) refl
product_level _ o h = absurd (cc h)

level_of : (level : Level) (terminal : Mark) (o : ChainOp) → operator_of level terminal ≡ Some o → HasLevel level o
level_of l.Or terminal o h = or_level terminal o h
level_of l.And terminal o h = and_level terminal o h
level_of l.Concat terminal o h = bars_level terminal o h
level_of l.Sum terminal o h = sum_level terminal o h
level_of l.Product terminal o h = product_level terminal o h
level_of _ terminal o h = absurd (cc h)

pub link_nested : {d : ℕ} (level : Level) (o : ChainOp) (x : Expr) (more : List (ChainOp × Expr))
    → Fine d (operands level) x → NestedLinks d level more → NestedLinks d level ((o, x) ∷ more)
link_nested level o x more f r = a_mark (operator_mark o) (operator_stays o) (both (at_place (operands level) x f) r)

not_tighter : (level : Level) → nat_lt (rank level) (rank level) ≡ false
not_tighter level = grind (arith, nat_tests)

chain_by : {d : ℕ} (level own : Level) (o : ChainOp) (first x : Expr) (more : List (ChainOp × Expr)) → operator_level o ≡ level → own ≡ operator_level o
    → Fine d (operands own) first → NestedLinks d own ((o, x) ∷ more) → Fine d level (e.Chain first ((o, x) ∷ more))
chain_by {d = d} level own o first x more e k f r =
    let f' : Fine d (operands (operator_level o)) first = subst (λ k. Fine d (operands k) first) k f in
    let r' : NestedLinks d (operator_level o) ((o, x) ∷ more) = subst (λ k. NestedLinks d k ((o, x) ∷ more)) k r in
    let loose = subst (λ k. nat_lt (rank (operator_level o)) (rank k) ≡ false) e (not_tighter (operator_level o)) in
    alone_by level (eq.of_chain printing first ((o, x) ∷ more)) loose
    (both (at_place (operands (operator_level o)) first f') r')

-- a chain at the level of its operators
pub chain_nested : {d : ℕ} (level : Level) (terminal : Mark) (o : ChainOp) (first x : Expr) (more : List (ChainOp × Expr)) → operator_of level terminal ≡ Some o
    → Fine d (operands level) first → NestedLinks d level ((o, x) ∷ more) → Fine d level (e.Chain first ((o, x) ∷ more))
chain_nested level terminal o first x more h f r = let is = level_of level terminal o h in chain_by level level o first x more is (sym is) f r

-- ---- NOT, IS, comparisons, BETWEEN, IN and minus

pub not_nested : {d : ℕ} (x : Expr) → Fine d l.Is x → Fine d l.Not (e.Not x)
not_nested x f = alone_by l.Not (eq.of_not printing x) refl (a_mark m.Not refl (at_place l.Is x f))

test_stays : (t : IsTest) → mark_change (test_mark t) ≡ stays
test_stays tests.Null = refl
test_stays tests.True = refl
test_stays tests.False = refl

pub is_nested : {d : ℕ} (x : Expr) (t : IsTest) (n : Bool) → Fine d l.Compare x → Fine d l.Is (e.Is x t n)
is_nested x t n f =
    alone_by l.Is (eq.of_is printing x t n) refl
    (both (at_place l.Compare x f) (a_mark m.Is refl (perhaps_mark n m.Not refl (a_mark (test_mark t) (test_stays t) nothing))))

comparison_stays : (o : CmpOp) → mark_change (comparison_mark o) ≡ stays
comparison_stays cmp.Eq = refl
comparison_stays cmp.Ne = refl
comparison_stays cmp.Lt = refl
comparison_stays cmp.Le = refl
comparison_stays cmp.Gt = refl
comparison_stays cmp.Ge = refl

pub compare_nested : {d : ℕ} (o : CmpOp) (x y : Expr) → Fine d l.Range x → Fine d l.Range y → Fine d l.Compare (e.Compare o x y)
compare_nested o x y f g =
    alone_by l.Compare (eq.of_compare printing o x y) refl
    (both (at_place l.Range x f) (a_mark (comparison_mark o) (comparison_stays o) (at_place l.Range y g)))

pub between_nested : {d : ℕ} (n : Bool) (x low high : Expr)
    → Fine d l.Concat x → Fine d l.Concat low → Fine d l.Concat high → Fine d l.Range (e.Between n x low high)
between_nested n x low high f g h =
    alone_by l.Range (eq.of_between printing n x low high) refl
    (both (at_place l.Concat x f)
    (perhaps_mark n m.Not refl (a_mark m.Between refl (both (at_place l.Concat low g) (a_mark m.And refl (at_place l.Concat high h))))))

pub one_of_nested : {d : ℕ} (n : Bool) (x : Expr) (xs : List Expr)
    → Fine (suc d) l.Concat x → NestedList d xs → Fine (suc d) l.Range (e.OneOf n x xs)
one_of_nested n x xs f r =
    alone_by l.Range (eq.of_oneof printing n x xs) refl (both (at_place l.Concat x f) (perhaps_mark n m.Not refl (a_mark m.In refl (closed r))))

pub neg_nested : {d : ℕ} (x : Expr) → Fine d l.Cast x → Fine d l.Sign (e.Neg x)
neg_nested x f = alone_by l.Sign (eq.of_neg printing x) refl (a_mark m.Minus refl (at_place l.Cast x f))

pub least_nested : {d : ℕ} → Fine d l.Sign (e.Int (negsuc (2 ^ 63 - 1)))
least_nested = alone_by l.Sign refl refl (a_mark m.Minus refl (an_integer (2 ^ 63) nothing))

-- ---- what stands alone

pub number_nested : {d : ℕ} (n : ℕ) → Fine d l.Primary (e.Int (pos n))
number_nested n = alone_by l.Primary refl refl (an_integer n nothing)

pub text_nested : {d : ℕ} (t : List ℕ) → Fine d l.Primary (e.Str t)
text_nested t = alone_by l.Primary refl refl (a_string t nothing)

pub literal_nested : {d : ℕ} (terminal : Mark) (x : Expr) → literal_of terminal ≡ Some x → Fine d l.Primary x
literal_nested {d = d} m.True x h = subst (λ x. Fine d l.Primary x) (same_Some _ _ h) (alone_by l.Primary refl refl (a_mark m.True refl nothing))
literal_nested {d = d} m.False x h = subst (λ x. Fine d l.Primary x) (same_Some _ _ h) (alone_by l.Primary refl refl (a_mark m.False refl nothing))
literal_nested {d = d} m.Null x h = subst (λ x. Fine d l.Primary x) (same_Some _ _ h) (alone_by l.Primary refl refl (a_mark m.Null refl nothing))
literal_nested _ x h = absurd (cc h)

pub named_nested : {d : ℕ} (n : List ℕ) → Fine d l.Primary (e.Named n)
named_nested n = alone_by l.Primary refl refl (a_name n nothing)

pub qualified_nested : {d : ℕ} (n c : List ℕ) → Fine d l.Primary (e.Dotted n c)
qualified_nested n c = alone_by l.Primary refl refl (a_name n (a_mark m.Dot refl (a_name c nothing)))

pub parameter_nested : {d : ℕ} (i : ℕ) (ty : Ty) → Fine (suc d) l.Primary (e.Param i ty)
parameter_nested i ty = alone_by l.Primary refl refl (a_mark m.Cast refl (closed (a_parameter i (a_mark m.As refl (a_name (type_name ty) nothing)))))

cast_terminals : {d : ℕ} (ts : List Terminal) (n : List ℕ) → Nested d ts
    → Nested (suc d) (mark m.Cast ∷ mark m.Open ∷ (ts ++ mark m.As ∷ name n ∷ mark m.Close ∷ []))
cast_terminals {d = d} ts n h =
    let inside : Nested d (ts ++ mark m.As ∷ name n ∷ []) = both h (a_mark m.As refl (a_name n nothing)) in
    a_mark m.Cast refl
    (subst (λ l. Nested (suc d) (mark m.Open ∷ l)) (append_assoc ts (mark m.As ∷ name n ∷ []) (mark m.Close ∷ [])) (closed inside))

pub cast_nested : {d : ℕ} (x : Expr) (ty : Ty) → Fine d l.Or x → Fine (suc d) l.Primary (e.Cast x ty)
cast_nested x ty f = alone_by l.Primary (eq.of_cast printing x ty) refl (cast_terminals (placed l.Or (printed x)) (type_name ty) (at_place l.Or x f))

pub scalar_nested : {d : ℕ} (q : Query) → Nested d (query_terminals q) → Fine (suc d) l.Primary (e.Scalar q)
scalar_nested q h = alone_by l.Primary (eq.of_scalar printing q) refl (closed h)

pub exists_nested : {d : ℕ} (q : Query) → Nested d (query_terminals q) → Fine (suc d) l.Primary (e.Exists q)
exists_nested q h = alone_by l.Primary (eq.of_exists printing q) refl (a_mark m.Exists refl (closed h))

pub count_nested : {d : ℕ} → Fine (suc d) l.Primary e.CountRows
count_nested = alone_by l.Primary refl refl (a_name (codes "count") (closed (a_mark m.Star refl nothing)))

-- ---- lists, CASE and calls

pub last_nested : {d : ℕ} (x : Expr) → Fine d l.Or x → NestedList d (x ∷ [])
last_nested x f = at_place l.Or x f

pub another_nested : {d : ℕ} (x : Expr) (xs : List Expr) → Fine d l.Or x → NestedList d xs → NestedList d (x ∷ xs)
another_nested x [] f r = at_place l.Or x f
another_nested x (y ∷ ys) f r = both (at_place l.Or x f) (a_mark m.Comma refl r)

pub arm_nested : {d : ℕ} (test value : Expr) (more : List (Expr × Expr))
    → Fine d l.Or test → Fine d l.Or value → NestedArms d more → NestedArms d ((test, value) ∷ more)
arm_nested test value more f g r = a_mark m.When refl (both (at_place l.Or test f) (a_mark m.Then refl (both (at_place l.Or value g) r)))

pub cases_nested : {d : ℕ} (arms : List (Expr × Expr)) → NestedArms d arms → Fine (suc d) l.Primary (e.Cases arms None)
cases_nested arms r = alone_by l.Primary (eq.of_cases printing arms None) refl (cased r)

else_terminals_nested : {d : ℕ} (arms other : List Terminal) → Nested d arms → Nested d other
    → Nested (suc d) (mark m.Case ∷ (arms ++ mark m.Else ∷ (other ++ mark m.End ∷ [])))
else_terminals_nested {d = d} arms other r h =
    subst (λ l. Nested (suc d) (mark m.Case ∷ l)) (append_assoc arms (mark m.Else ∷ other) (mark m.End ∷ [])) (cased (both r (a_mark m.Else refl h)))

pub cases_else_nested : {d : ℕ} (arms : List (Expr × Expr)) (x : Expr) → NestedArms d arms → Fine d l.Or x → Fine (suc d) l.Primary (e.Cases arms (Some x))
cases_else_nested arms x r f =
    alone_by l.Primary (eq.of_cases printing arms (Some x)) refl
    (else_terminals_nested (arms_terminals (map (λ x. eq.arm_of printing x) arms)) (placed l.Or (printed x)) r (at_place l.Or x f))

function_by : {d : ℕ} (a b c : Bool) (n : List ℕ) {ts : List Terminal} → Nested d ts
    → Nested d ((if a then mark m.Coalesce else (if b then mark m.Greatest else (if c then mark m.Least else name n))) ∷ ts)
function_by true b c n h = a_mark m.Coalesce refl h
function_by false true c n h = a_mark m.Greatest refl h
function_by false false true n h = a_mark m.Least refl h
function_by false false false n h = a_name n h

-- a function's terminal
function_nested : {d : ℕ} (n : List ℕ) {ts : List Terminal} → Nested d ts → Nested d (function_terminal n ∷ ts)
unfolding function_terminal
function_nested n h = function_by (bytes_eq n (codes "coalesce")) (bytes_eq n (codes "greatest")) (bytes_eq n (codes "least")) n h

pub call_empty_nested : {d : ℕ} (n : List ℕ) → Fine (suc d) l.Primary (e.Call n [])
call_empty_nested n = alone_by l.Primary (eq.of_call printing n []) refl (a_name n (closed nothing))

pub call_nested : {d : ℕ} (n : List ℕ) (xs : List Expr) → NestedList d xs → Fine (suc d) l.Primary (e.Call n xs)
call_nested n [] r = call_empty_nested n
call_nested n (x ∷ xs) r = alone_by l.Primary (eq.of_call printing n (x ∷ xs)) refl (function_nested n (closed r))
