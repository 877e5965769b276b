-- What can begin a sort.
use Rattle.std.proofs.Common.{◌≡◌, ℕ, ◌≤◌, ◌<◌, ◌^◌, true, false, List, ◌∷◌, Some, refl, sym, subst, arith, lit≤}
use Rattle.std.specs.Prelude.{if◌then◌else◌, nat_lt}
use Rattle.std.proofs.lemmas.Bool.Decides.{nat_tests}
use Rattle.away_grammar.specs.declared.grammar.Mark.{Mark}
use Rattle.away_grammar.specs.declared.grammar.Mark.TheVariants as m
use Rattle.away_grammar.specs.declared.grammar.Level.{Level}
use Rattle.away_grammar.specs.declared.grammar.Level.TheVariants as l
use Rattle.away_trees.specs.declared.queries.Expr.{Expr}
use Rattle.away_grammar.specs.Terminals.{Terminal, mark, name, integer, string, parameter, quote}
use Rattle.away_grammar.specs.Grammar as g
use Rattle.away_grammar.specs.Grammar.{Sort, at, list, item, items, key, keys, select, selects, query, recursive, Tree, Reads, operands, rank, literal_of, called}
use Rattle.sql_text.specs.Plans.{Begins}
use Rattle.sql_text.specs.TerminalKinds.{is_typed_parameter}

abbrev pub mark_begins : Mark → ℕ
mark_begins m.Open = 32
mark_begins m.Cast = 32
mark_begins m.Exists = 32
mark_begins m.Case = 32
mark_begins m.True = 32
mark_begins m.False = 32
mark_begins m.Null = 32
mark_begins m.Coalesce = 32
mark_begins m.Greatest = 32
mark_begins m.Least = 32
mark_begins m.Minus = 30
mark_begins m.Not = 23
mark_begins _ = 0

-- The tightest level that the terminal can begin, and 0 where it begins none.
abbrev pub begins : Terminal → ℕ
begins (mark m) = mark_begins m
begins (name n) = 32
begins (integer n) = if nat_lt n (2 ^ 63) then 32 else 0
begins (string t) = 32
begins (parameter i) = 32
begins (quote z) = 0

-- The terminals can begin a level of this rank; a parameter among them isn't the whole operand of a CAST.
pub data StartsAt : ℕ → List Terminal → Type 0 where
  begun : {r : ℕ} {s : Terminal} {ts : List Terminal} → r ≤ begins s → is_typed_parameter (s ∷ ts) ≡ false → StartsAt r (s ∷ ts)

loosened : {r t : ℕ} {ts : List Terminal} → r ≤ t → StartsAt t ts → StartsAt r ts
loosened {r = r} {t = t} le (begun {s = s} h p) = begun (let k : r ≤ begins s = omega (arith, le, h) in k) p

-- how what reads as the sort begins
abbrev pub Starting : Sort → List Terminal → Type 0
Starting (at level) ts = StartsAt (rank level) ts
Starting list ts = StartsAt 21 ts
Starting item ts = StartsAt 21 ts
Starting items ts = StartsAt 21 ts
Starting key ts = StartsAt 21 ts
Starting keys ts = StartsAt 21 ts
Starting select ts = Begins ts m.Select
Starting selects ts = Begins ts m.Select
Starting query ts = Begins ts m.Select
Starting recursive ts = Begins ts m.With
Starting _ ts = Unit {0}

pub rank_operands : (level : Level) → rank level ≤ rank (operands level)
rank_operands l.Or = lit≤ tt
rank_operands l.And = lit≤ tt
rank_operands l.Not = lit≤ tt
rank_operands l.Is = lit≤ tt
rank_operands l.Compare = lit≤ tt
rank_operands l.Range = lit≤ tt
rank_operands l.Concat = lit≤ tt
rank_operands l.Sum = lit≤ tt
rank_operands l.Product = lit≤ tt
rank_operands l.Sign = lit≤ tt
rank_operands l.Cast = lit≤ tt
rank_operands l.Primary = lit≤ tt

begins_number : (n : ℕ) → n < 2 ^ 63 → 32 ≤ begins (integer n)
begins_number n h = let e : nat_lt n (2 ^ 63) ≡ true = grind (arith, nat_tests) in subst (λ b. 32 ≤ (if b then 32 else 0)) (sym e) (lit≤ tt)

begins_literal : {x : Expr} (terminal : Mark) → literal_of terminal ≡ Some x → 32 ≤ mark_begins terminal
begins_literal m.True e = lit≤ tt
begins_literal m.False e = lit≤ tt
begins_literal m.Null e = lit≤ tt
begins_literal _ e = absurd (cc e)

begins_called : {n : List ℕ} (terminal : Mark) → called terminal ≡ Some n → 32 ≤ mark_begins terminal
begins_called m.Coalesce e = lit≤ tt
begins_called m.Greatest e = lit≤ tt
begins_called m.Least e = lit≤ tt
begins_called _ e = absurd (cc e)

pub starts : {n : Sort} {ts : List Terminal} {x : Tree n} {rest : List Terminal} → Reads n ts x rest → Starting n ts
starts (g.chain {level = level} c d e) = loosened (rank_operands level) (starts d)
starts (g.affirmed d) = loosened (lit≤ tt) (starts d)
starts (g.negated d) = begun (lit≤ tt) refl
starts (g.untested d) = loosened (lit≤ tt) (starts d)
starts (g.tested terminal e d) = loosened (lit≤ tt) (starts d)
starts (g.uncompared d) = loosened (lit≤ tt) (starts d)
starts (g.compared terminal e d f) = loosened (lit≤ tt) (starts d)
starts (g.unranged d) = loosened (lit≤ tt) (starts d)
starts (g.between d e f) = loosened (lit≤ tt) (starts d)
starts (g.one_of d e) = loosened (lit≤ tt) (starts d)
starts (g.unsigned d) = loosened (lit≤ tt) (starts d)
starts (g.signed d) = begun (lit≤ tt) refl
starts g.least = begun (lit≤ tt) refl
starts (g.uncast d) = loosened (lit≤ tt) (starts d)
starts (g.cast_once t e d) = loosened (lit≤ tt) (starts d)
starts (g.cast_twice t u e f d) = loosened (lit≤ tt) (starts d)
starts (g.number {n = n} h) = begun (begins_number n h) refl
starts g.text = begun (lit≤ tt) refl
starts (g.literal terminal e) = begun (begins_literal terminal e) refl
starts g.named = begun (lit≤ tt) refl
starts g.qualified = begun (lit≤ tt) refl
starts (g.typed_parameter t e) = begun (lit≤ tt) refl
starts (g.short_parameter t e) = begun (lit≤ tt) refl
starts (g.parentheses d) = begun (lit≤ tt) refl
starts (g.scalar d) = begun (lit≤ tt) refl
starts (g.cast t e d) = begun (lit≤ tt) refl
starts (g.exists d) = begun (lit≤ tt) refl
starts (g.cases d) = begun (lit≤ tt) refl
starts (g.cases_else d e) = begun (lit≤ tt) refl
starts (g.call_word terminal e d) = begun (begins_called terminal e) refl
starts g.count_rows = begun (lit≤ tt) refl
starts g.call_empty = begun (lit≤ tt) refl
starts (g.call d) = begun (lit≤ tt) refl
starts (g.last d) = starts d
starts (g.another d e) = starts d
starts (g.item_alone d) = starts d
starts (g.item_as d) = starts d
starts (g.last_item d) = starts d
starts (g.another_item d e) = starts d
starts (g.key_alone h d) = starts d
starts (g.ascending h d) = starts d
starts (g.descending h d) = starts d
starts (g.last_key d) = starts d
starts (g.another_key d e) = starts d
starts (g.select_of {ts = ts} a b c d e) = (ts, refl)
starts (g.last_select d) = starts d
starts (g.another_select d e) = starts d
starts (g.query_of h d) = starts d
starts (g.recursive_of {ts = ts} {n = n} ss second d e) = (_, refl)
starts _ = tt

-- ---- what doesn't begin there

pub cannot_begin : {r : ℕ} {ts : List Terminal} {m : Mark} → StartsAt r ts → mark_begins m < r → ¬ (Begins ts m)
cannot_begin {r = r} {m = m} (begun {s = s} h p) low b =
    let e : s ≡ mark m = cc (b.1) in
    let k : r ≤ mark_begins m = subst (λ s. r ≤ begins s) e h in
    omega (arith, k, low)

pub not_typed : {r : ℕ} {ts : List Terminal} → StartsAt r ts → is_typed_parameter ts ≡ false
not_typed (begun h p) = p
