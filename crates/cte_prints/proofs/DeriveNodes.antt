-- Each production of expressions derives a node, where its parts can be derived.
use Rattle.std.proofs.Common.{◌≡◌, ℕ, suc, ◌<◌, ◌≤◌, ◌^◌, ◌-◌, pos, negsuc, Bool, true, false, List, [], ◌∷◌, Some, None, codes, arith}
use Rattle.away_grammar.specs.declared.grammar.Mark.{Mark}
use Rattle.away_grammar.specs.declared.grammar.Mark.TheVariants as m
use Rattle.away_grammar.specs.declared.grammar.Level.{Level}
use Rattle.away_grammar.specs.declared.grammar.Level.TheVariants as l
use Rattle.away_values.specs.declared.types.Ty.{Ty}
use Rattle.away_values.specs.declared.operators.ChainOp.{ChainOp}
use Rattle.away_values.specs.declared.operators.CmpOp.{CmpOp}
use Rattle.away_values.specs.declared.operators.IsTest.{IsTest}
use Rattle.away_trees.specs.declared.queries.Expr.{Expr}
use Rattle.away_trees.specs.declared.queries.Expr.TheVariants as e
use Rattle.away_trees.specs.declared.queries.Query.{Query}
use Rattle.away_grammar.specs.Terminals.{Terminal, mark, name, integer, string}
use Rattle.away_grammar.specs.Grammar.{Sort, Tree, at, links, list, arms, query, operands, operator_of, comparison_of, test_of, literal_of, called}
use Rattle.away_grammar.specs.Grammar.{type_named, perhaps, IsChain}
use Rattle.sql_printer.specs.Writable.{Writable, AllWritable}
use Rattle.sql_printer.proofs.PrintClear.{count_writable}
use Rattle.cte_prints.specs.ReadsIn as s
use Rattle.cte_prints.specs.Derivable.{Derivable}
use Rattle.cte_prints.proofs.ReadingDepth.{deepen}

-- a greater depth
pub deepened : (d more : ℕ) {n : Sort} {t : Tree n} → d ≤ more → Derivable d n t → Derivable more n t
deepened d more h c rest = let r = c rest in record { terminals = r.terminals; writable = r.writable; derives = deepen d more h r.derives }

pub perhaps_writable : (v : Bool) (s : Terminal) (ts : List Terminal) → Writable s → AllWritable ts → AllWritable (perhaps v s ts)
perhaps_writable true s ts h k = (h, k)
perhaps_writable false s ts h k = k

-- ---- chains

pub derive_one : {d : ℕ} {level : Level} {x : Expr} → IsChain level → Derivable d (at (operands level)) x → Derivable d (at level) x
derive_one p c rest = let r = c rest in record { terminals = r.terminals; writable = r.writable; derives = s.chain p r.derives s.no_link }

pub derive_chain : {d : ℕ} {level : Level} {x : Expr} {y : ChainOp × Expr} {ys : List (ChainOp × Expr)} → IsChain level → Derivable d (at (operands level)) x
    → Derivable d (links level) (y ∷ ys) → Derivable d (at level) (e.Chain x (y ∷ ys))
derive_chain p c b rest =
    let q = b rest in
    let r = c q.terminals in
    record { terminals = r.terminals; writable = λ h. r.writable (q.writable h); derives = s.chain p r.derives q.derives }

pub derive_no_link : {d : ℕ} {level : Level} → Derivable d (links level) []
derive_no_link rest = record { terminals = rest; writable = λ h. h; derives = s.no_link }

pub derive_link : {d : ℕ} {level : Level} {o : ChainOp} {x : Expr} {more : List (ChainOp × Expr)} (terminal : Mark) → operator_of level terminal ≡ Some o
    → Derivable d (at (operands level)) x → Derivable d (links level) more → Derivable d (links level) ((o, x) ∷ more)
derive_link terminal k c b rest =
    let q = b rest in
    let r = c q.terminals in
    record { terminals = mark terminal ∷ r.terminals; writable = λ h. (tt, r.writable (q.writable h)); derives = s.link terminal k r.derives q.derives }

-- ---- NOT, IS, comparisons, BETWEEN, IN and minus

pub derive_affirmed : {d : ℕ} {x : Expr} → Derivable d (at l.Is) x → Derivable d (at l.Not) x
derive_affirmed c rest = let r = c rest in record { terminals = r.terminals; writable = r.writable; derives = s.affirmed r.derives }

pub derive_not : {d : ℕ} {x : Expr} → Derivable d (at l.Is) x → Derivable d (at l.Not) (e.Not x)
derive_not c rest = let r = c rest in record { terminals = mark m.Not ∷ r.terminals; writable = λ h. (tt, r.writable h); derives = s.negated r.derives }

pub derive_untested : {d : ℕ} {x : Expr} → Derivable d (at l.Compare) x → Derivable d (at l.Is) x
derive_untested c rest = let r = c rest in record { terminals = r.terminals; writable = r.writable; derives = s.untested r.derives }

pub derive_is : {d : ℕ} {x : Expr} (v : Bool) {test : IsTest} (terminal : Mark) → test_of terminal ≡ Some test → Derivable d (at l.Compare) x
    → Derivable d (at l.Is) (e.Is x test v)
derive_is v terminal k c rest =
    let r = c (mark m.Is ∷ perhaps v (mark m.Not) (mark terminal ∷ rest)) in
    record { terminals = r.terminals; writable = λ h. r.writable (tt, perhaps_writable v (mark m.Not) (mark terminal ∷ rest) tt (tt, h)); derives = s.tested terminal k r.derives }

pub derive_uncompared : {d : ℕ} {x : Expr} → Derivable d (at l.Range) x → Derivable d (at l.Compare) x
derive_uncompared c rest = let r = c rest in record { terminals = r.terminals; writable = r.writable; derives = s.uncompared r.derives }

pub derive_compare : {d : ℕ} {o : CmpOp} {x y : Expr} (terminal : Mark) → comparison_of terminal ≡ Some o → Derivable d (at l.Range) x → Derivable d (at l.Range) y
    → Derivable d (at l.Compare) (e.Compare o x y)
derive_compare terminal k c b rest =
    let q = b rest in
    let r = c (mark terminal ∷ q.terminals) in
    record { terminals = r.terminals; writable = λ h. r.writable (tt, q.writable h); derives = s.compared terminal k r.derives q.derives }

pub derive_unranged : {d : ℕ} {x : Expr} → Derivable d (at l.Concat) x → Derivable d (at l.Range) x
derive_unranged c rest = let r = c rest in record { terminals = r.terminals; writable = r.writable; derives = s.unranged r.derives }

pub derive_between : {d : ℕ} {x low high : Expr} (v : Bool) → Derivable d (at l.Concat) x → Derivable d (at l.Concat) low → Derivable d (at l.Concat) high
    → Derivable d (at l.Range) (e.Between v x low high)
derive_between v c b a rest =
    let p = a rest in
    let q = b (mark m.And ∷ p.terminals) in
    let r = c (perhaps v (mark m.Not) (mark m.Between ∷ q.terminals)) in
    record {
      terminals = r.terminals;
      writable = λ h. r.writable (perhaps_writable v (mark m.Not) (mark m.Between ∷ q.terminals) tt (tt, q.writable (tt, p.writable h)));
      derives = s.between r.derives q.derives p.derives;
    }

pub derive_one_of : {d : ℕ} {x : Expr} {xs : List Expr} (v : Bool) → Derivable (suc d) (at l.Concat) x → Derivable d list xs
    → Derivable (suc d) (at l.Range) (e.OneOf v x xs)
derive_one_of v c b rest =
    let q = b (mark m.Close ∷ rest) in
    let r = c (perhaps v (mark m.Not) (mark m.In ∷ mark m.Open ∷ q.terminals)) in
    record {
      terminals = r.terminals;
      writable = λ h. r.writable (perhaps_writable v (mark m.Not) (mark m.In ∷ mark m.Open ∷ q.terminals) tt (tt, (tt, q.writable (tt, h))));
      derives = s.one_of r.derives q.derives;
    }

pub derive_unsigned : {d : ℕ} {x : Expr} → Derivable d (at l.Cast) x → Derivable d (at l.Sign) x
derive_unsigned c rest = let r = c rest in record { terminals = r.terminals; writable = r.writable; derives = s.unsigned r.derives }

pub derive_neg : {d : ℕ} {x : Expr} → Derivable d (at l.Cast) x → Derivable d (at l.Sign) (e.Neg x)
derive_neg c rest = let r = c rest in record { terminals = mark m.Minus ∷ r.terminals; writable = λ h. (tt, r.writable h); derives = s.signed r.derives }

pub derive_least : {d : ℕ} → Derivable d (at l.Sign) (e.Int (negsuc (2 ^ 63 - 1)))
derive_least rest = record { terminals = mark m.Minus ∷ integer (2 ^ 63) ∷ rest; writable = λ h. (tt, (omega arith, h)); derives = s.least }

pub derive_uncast : {d : ℕ} {x : Expr} → Derivable d (at l.Primary) x → Derivable d (at l.Cast) x
derive_uncast c rest = let r = c rest in record { terminals = r.terminals; writable = r.writable; derives = s.uncast r.derives }

-- ---- what stands alone

pub derive_number : {d n : ℕ} → n < 2 ^ 63 → Derivable d (at l.Primary) (e.Int (pos n))
derive_number {n = n} k rest = record { terminals = integer n ∷ rest; writable = λ h. (omega arith, h); derives = s.number k }

pub derive_text : {d : ℕ} {t : List ℕ} → Writable (string t) → Derivable d (at l.Primary) (e.Str t)
derive_text {t = t} k rest = record { terminals = string t ∷ rest; writable = λ h. (k, h); derives = s.text }

pub derive_literal : {d : ℕ} {x : Expr} (terminal : Mark) → literal_of terminal ≡ Some x → Derivable d (at l.Primary) x
derive_literal terminal k rest = record { terminals = mark terminal ∷ rest; writable = λ h. (tt, h); derives = s.literal terminal k }

pub derive_named : {d : ℕ} {n : List ℕ} → Writable (name n) → Derivable d (at l.Primary) (e.Named n)
derive_named {n = n} k rest = record { terminals = name n ∷ rest; writable = λ h. (k, h); derives = s.named }

pub derive_qualified : {d : ℕ} {n c : List ℕ} → Writable (name n) → Writable (name c) → Derivable d (at l.Primary) (e.Dotted n c)
derive_qualified {n = n} {c = c} k j rest = record { terminals = name n ∷ mark m.Dot ∷ name c ∷ rest; writable = λ h. (k, (tt, (j, h))); derives = s.qualified }

pub derive_parentheses : {d : ℕ} {x : Expr} → Derivable d (at l.Or) x → Derivable (suc d) (at l.Primary) x
derive_parentheses c rest =
    let r = c (mark m.Close ∷ rest) in
    record { terminals = mark m.Open ∷ r.terminals; writable = λ h. (tt, r.writable (tt, h)); derives = s.parentheses r.derives }

pub derive_scalar : {d : ℕ} {q : Query} → Derivable d query q → Derivable (suc d) (at l.Primary) (e.Scalar q)
derive_scalar c rest =
    let r = c (mark m.Close ∷ rest) in
    record { terminals = mark m.Open ∷ r.terminals; writable = λ h. (tt, r.writable (tt, h)); derives = s.scalar r.derives }

pub derive_exists : {d : ℕ} {q : Query} → Derivable d query q → Derivable (suc d) (at l.Primary) (e.Exists q)
derive_exists c rest =
    let r = c (mark m.Close ∷ rest) in
    record { terminals = mark m.Exists ∷ mark m.Open ∷ r.terminals; writable = λ h. (tt, (tt, r.writable (tt, h))); derives = s.exists r.derives }

pub derive_cast : {d : ℕ} {x : Expr} {ty : Ty} (t : List ℕ) → type_named t ≡ Some ty → Writable (name t) → Derivable d (at l.Or) x
    → Derivable (suc d) (at l.Primary) (e.Cast x ty)
derive_cast t k j c rest =
    let r = c (mark m.As ∷ name t ∷ mark m.Close ∷ rest) in
    record { terminals = mark m.Cast ∷ mark m.Open ∷ r.terminals; writable = λ h. (tt, (tt, r.writable (tt, (j, (tt, h))))); derives = s.cast t k r.derives }

pub derive_cases : {d : ℕ} {a : Expr × Expr} {more : List (Expr × Expr)} → Derivable d arms (a ∷ more) → Derivable (suc d) (at l.Primary) (e.Cases (a ∷ more) None)
derive_cases c rest =
    let r = c (mark m.End ∷ rest) in
    record { terminals = mark m.Case ∷ r.terminals; writable = λ h. (tt, r.writable (tt, h)); derives = s.cases r.derives }

pub derive_cases_else : {d : ℕ} {a : Expr × Expr} {more : List (Expr × Expr)} {x : Expr} → Derivable d arms (a ∷ more) → Derivable d (at l.Or) x
    → Derivable (suc d) (at l.Primary) (e.Cases (a ∷ more) (Some x))
derive_cases_else c b rest =
    let q = b (mark m.End ∷ rest) in
    let r = c (mark m.Else ∷ q.terminals) in
    record { terminals = mark m.Case ∷ r.terminals; writable = λ h. (tt, r.writable (tt, q.writable (tt, h))); derives = s.cases_else r.derives q.derives }

pub derive_call_word : {d : ℕ} {n : List ℕ} {xs : List Expr} (terminal : Mark) → called terminal ≡ Some n → Derivable d list xs → Derivable (suc d) (at l.Primary) (e.Call n xs)
derive_call_word terminal k c rest =
    let r = c (mark m.Close ∷ rest) in
    record { terminals = mark terminal ∷ mark m.Open ∷ r.terminals; writable = λ h. (tt, (tt, r.writable (tt, h))); derives = s.call_word terminal k r.derives }

pub derive_count_rows : {d : ℕ} → Derivable (suc d) (at l.Primary) e.CountRows
derive_count_rows rest =
    record {
      terminals = name (codes "count") ∷ mark m.Open ∷ mark m.Star ∷ mark m.Close ∷ rest;
      writable = λ h.
          (count_writable, (tt, (tt, (tt, h))));
      derives = s.count_rows;
    }

pub derive_call_empty : {d : ℕ} {n : List ℕ} → Writable (name n) → Derivable (suc d) (at l.Primary) (e.Call n [])
derive_call_empty {n = n} k rest = record { terminals = name n ∷ mark m.Open ∷ mark m.Close ∷ rest; writable = λ h. (k, (tt, (tt, h))); derives = s.call_empty }

pub derive_call : {d : ℕ} {n : List ℕ} {xs : List Expr} → Writable (name n) → Derivable d list xs → Derivable (suc d) (at l.Primary) (e.Call n xs)
derive_call {n = n} k c rest =
    let r = c (mark m.Close ∷ rest) in
    record { terminals = name n ∷ mark m.Open ∷ r.terminals; writable = λ h. (k, (tt, r.writable (tt, h))); derives = s.call r.derives }

-- ---- lists

pub derive_last : {d : ℕ} {x : Expr} → Derivable d (at l.Or) x → Derivable d list (x ∷ [])
derive_last c rest = let r = c rest in record { terminals = r.terminals; writable = r.writable; derives = s.last r.derives }

pub derive_another : {d : ℕ} {x : Expr} {xs : List Expr} → Derivable d (at l.Or) x → Derivable d list xs → Derivable d list (x ∷ xs)
derive_another c b rest =
    let q = b rest in
    let r = c (mark m.Comma ∷ q.terminals) in
    record { terminals = r.terminals; writable = λ h. r.writable (tt, q.writable h); derives = s.another r.derives q.derives }

pub derive_no_arm : {d : ℕ} → Derivable d arms []
derive_no_arm rest = record { terminals = rest; writable = λ h. h; derives = s.no_arm }

pub derive_arm : {d : ℕ} {test value : Expr} {more : List (Expr × Expr)} → Derivable d (at l.Or) test → Derivable d (at l.Or) value → Derivable d arms more
    → Derivable d arms ((test, value) ∷ more)
derive_arm c b a rest =
    let p = a rest in
    let q = b p.terminals in
    let r = c (mark m.Then ∷ q.terminals) in
    record { terminals = mark m.When ∷ r.terminals; writable = λ h. (tt, r.writable (tt, q.writable (p.writable h))); derives = s.arm r.derives q.derives p.derives }
