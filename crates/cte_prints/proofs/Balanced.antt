-- Terminals that leave the count as they found it, and raise it by no more than a bound on the way. END and CASE behind it are
-- two changes here: so read, a front counts no less than where they are one pair.
use Rattle.std.proofs.Common.{◌≡◌, ◌≤◌, ℕ, zero, suc, Bool, true, false, nat_lt, if◌then◌else◌, List, [], ◌∷◌, ◌++◌, refl, sym, subst, arith, append_assoc}
use Rattle.std.proofs.lemmas.Bool.Decides.{nat_tests}
use Rattle.away_grammar.specs.declared.grammar.Mark.{Mark}
use Rattle.away_grammar.specs.declared.grammar.Mark.TheVariants as m
use Rattle.away_grammar.specs.declared.grammar.Level.{Level}
use Rattle.away_grammar.specs.declared.grammar.Level.TheVariants as l
use Rattle.away_trees.specs.declared.queries.Expr.{Expr}
use Rattle.away_grammar.specs.Grammar.{rank}
use Rattle.away_grammar.specs.Nesting.{Change, opens, closes, stays}
use Rattle.away_grammar.specs.Terminals.{Terminal, mark, name, integer, string, parameter, quote}
use Rattle.away_grammar.specs.Printing.{Printed, placed, printed}
use Rattle.cte_prints.specs.TerminalNesting.{mark_change, change}

-- ---- room

-- What a change leaves of the room in front of it: what opens takes one, and there must be one.
abbrev pub Leaves : Change → (ℕ → Type 0) → ℕ → Type 0
Leaves opens Behind zero = ⊥
Leaves opens Behind (suc r) = Behind r
Leaves closes Behind r = Behind (suc r)
Leaves stays Behind r = Behind r

-- no dollar quote, which no query prints
abbrev pub IsPlain : Terminal → Type 0
IsPlain (quote z) = ⊥
IsPlain _ = Unit {0}

-- There is room for the terminals.
abbrev pub Fits : List Terminal → ℕ → Type 0
Fits [] r = Unit {0}
Fits (s ∷ ts) r = IsPlain s × Leaves (change s) (Fits ts) r

-- Where there is room for what follows, and as much as the bound, there is for the terminals before it.
pub record Nested (d : ℕ) (ts : List Terminal) : Type 0 where
  pub fits : (r : ℕ) (rest : List Terminal) → d ≤ r → Fits rest r → Fits (ts ++ rest) r

-- ---- terminals

pub nothing : {d : ℕ} → Nested d []
nothing = record { fits = λ r rest le f. f }

pub up : {d e : ℕ} {ts : List Terminal} → d ≤ e → Nested d ts → Nested e ts
up less h = record { fits = λ r rest le f. h.fits r rest (omega (arith, less, le)) f }

by_change : (c : Change) (Behind : ℕ → Type 0) (r : ℕ) → c ≡ stays → Behind r → Leaves c Behind r
by_change c Behind r e b = subst (λ k. Leaves k Behind r) (sym e) b

pub a_mark : {d : ℕ} (terminal : Mark) → mark_change terminal ≡ stays → {ts : List Terminal} → Nested d ts → Nested d (mark terminal ∷ ts)
a_mark terminal e {ts = ts} h = record { fits = λ r rest le f. (tt, by_change (mark_change terminal) (Fits (ts ++ rest)) r e (h.fits r rest le f)) }

pub a_name : {d : ℕ} (n : List ℕ) {ts : List Terminal} → Nested d ts → Nested d (name n ∷ ts)
a_name n h = record { fits = λ r rest le f. (tt, h.fits r rest le f) }

pub an_integer : {d : ℕ} (n : ℕ) {ts : List Terminal} → Nested d ts → Nested d (integer n ∷ ts)
an_integer n h = record { fits = λ r rest le f. (tt, h.fits r rest le f) }

pub a_string : {d : ℕ} (t : List ℕ) {ts : List Terminal} → Nested d ts → Nested d (string t ∷ ts)
a_string t h = record { fits = λ r rest le f. (tt, h.fits r rest le f) }

pub a_parameter : {d : ℕ} (i : ℕ) {ts : List Terminal} → Nested d ts → Nested d (parameter i ∷ ts)
a_parameter i h = record { fits = λ r rest le f. (tt, h.fits r rest le f) }

-- one behind the other
pub both : {d : ℕ} {ts us : List Terminal} → Nested d ts → Nested d us → Nested d (ts ++ us)
both {ts = ts} {us = us} h k =
    record { fits = λ r rest le f. subst (λ l. Fits l r) (sym (append_assoc ts us rest)) (h.fits r (us ++ rest) le (k.fits r rest le f)) }

-- ---- brackets

-- a mark that opens, and one that closes
bracket : (before after : Mark) → mark_change before ≡ opens → mark_change after ≡ closes → (d : ℕ) (ts : List Terminal) → Nested d ts
    → (r : ℕ) (rest : List Terminal) → suc d ≤ r → Fits rest r → Fits ((mark before ∷ (ts ++ mark after ∷ [])) ++ rest) r
bracket before after e k d ts h zero rest le f = absurd (omega (arith, le))
bracket before after e k d ts h (suc r) rest le f =
    let behind : Fits (mark after ∷ rest) r = (tt, subst (λ c. Leaves c (Fits rest) r) (sym k) f) in
    let inside : Fits ((ts ++ mark after ∷ []) ++ rest) r =
    subst (λ l. Fits l r) (sym (append_assoc ts (mark after ∷ []) rest)) (h.fits r (mark after ∷ rest) (omega (arith, le)) behind) in
    (tt, subst (λ c. Leaves c (Fits ((ts ++ mark after ∷ []) ++ rest)) (suc r)) (sym e) inside)

bracketed : (before after : Mark) → mark_change before ≡ opens → mark_change after ≡ closes → {d : ℕ} {ts : List Terminal} → Nested d ts
    → Nested (suc d) (mark before ∷ (ts ++ mark after ∷ []))
bracketed before after e k {d = d} {ts = ts} h = record { fits = bracket before after e k d ts h }

-- in parentheses
pub closed : {d : ℕ} {ts : List Terminal} → Nested d ts → Nested (suc d) (mark m.Open ∷ (ts ++ mark m.Close ∷ []))
closed h = bracketed m.Open m.Close refl refl h

-- between CASE and END
pub cased : {d : ℕ} {ts : List Terminal} → Nested d ts → Nested (suc d) (mark m.Case ∷ (ts ++ mark m.End ∷ []))
cased h = bracketed m.Case m.End refl refl h

-- ---- expressions at their places

-- In the bound stand the terminals of the expression, and where the place asks for parentheses round them, the terminals with these.
pub record FineAs (d : ℕ) (level : Level) (p : Printed) : Type 0 where
  pub alone : Nested d p.terminals
  pub within : nat_lt (rank p.level) (rank level) ≡ true → Nested d (mark m.Open ∷ (p.terminals ++ mark m.Close ∷ []))

abbrev pub Fine : ℕ → Level → Expr → Type 0
Fine d level x = FineAs d level (printed x)

placed_by : {d : ℕ} (level : Level) (p : Printed) (b : Bool) → nat_lt (rank p.level) (rank level) ≡ b → FineAs d level p
    → Nested d (if b then mark m.Open ∷ (p.terminals ++ mark m.Close ∷ []) else p.terminals)
placed_by level p true e f = f.within e
placed_by level p false e f = f.alone

pub at_place : {d : ℕ} (level : Level) (x : Expr) → Fine d level x → Nested d (placed level (printed x))
at_place level x f = placed_by level (printed x) (nat_lt (rank (printed x).level) (rank level)) refl f

-- at a place no tighter than its own level nothing stands round it
pub alone_by : {d : ℕ} (level : Level) {p q : Printed} → q ≡ p → nat_lt (rank p.level) (rank level) ≡ false → Nested d p.terminals → FineAs d level q
alone_by {d = d} level e loose h = subst (λ o. FineAs d level o) (sym e) (record { alone = h; within = λ tight. absurd (cc (loose, tight)) })

pub looser : {d : ℕ} (level from : Level) (x : Expr) → rank level ≤ rank from → Fine d from x → Fine d level x
looser level from x le f = record { alone = f.alone; within = λ tight. f.within (grind (arith, nat_tests, tight, le)) }

-- in parentheses it stands at any place
pub in_parentheses : {d : ℕ} (x : Expr) → Fine d l.Or x → Fine (suc d) l.Primary x
in_parentheses x f = record { alone = up (omega arith) f.alone; within = λ tight. closed f.alone }
