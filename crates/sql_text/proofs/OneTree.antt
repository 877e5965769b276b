-- What a plan gave is what the text reads as, and no text reads as two trees.
use Rattle.std.proofs.Common.{◌≡◌, ◌≤◌, ℕ, ◌+◌, ◌-◌, List, [], ◌∷◌, ◌++◌, length, drop, Option, Some, None, Ok, Err, refl, sym, ◌∙◌, ap, subst, arith, append_assoc}
use Rattle.std.proofs.lemmas.Option.{same_Some}
use Rattle.std.proofs.lemmas.List.{drop-drop, drop-map, length-map, length-append, length-drop}
use Rattle.std.proofs.Math.Seq.{drop-append_seam}
use Rattle.away_grammar.specs.declared.grammar.Level.TheVariants as l
use Rattle.away_trees.specs.declared.queries.Expr.{Expr}
use Rattle.away_grammar.specs.Grammar.{Sort, at, Tree, Reads, Stops}
use Rattle.away_grammar.specs.Terminals.{Terminal, token_terminal, token_terminals}
use Rattle.away_grammar.specs.Texts.{IsExpression}
use Rattle.away_grammar.specs.Tokens.{Lexeme, Lexes}
use Rattle.away_lex.proofs.Reading.{one_list}
use Rattle.sql_text.specs.declared.refusal.Refusal.TheVariants.{NoTree}
use Rattle.sql_text.specs.Descent.{plan}
use Rattle.sql_text.specs.Plans.{Plan, tail, Runs, ends, fails, takes, eats, leaves, sees, misses, reads, breaks, Gives, no_tree}
use Rattle.sql_text.proofs.Complete.{complete}
use Rattle.sql_text.proofs.Plans.{one}
use Rattle.sql_text.proofs.Sound.{sound}
use Rattle.sql_text.proofs.Steps.{run_of}

-- ---- what is left

-- what a plan leaves is the end of the terminals
abbrev Leaves : {A : Type 0} → Option (A × List Terminal) → List Terminal → Type 0
Leaves None ts = Unit {0}
Leaves (Some p) ts = (front : List Terminal) × (ts ≡ front ++ p.1)

behind_first : {A : Type 0} (o : Option (A × List Terminal)) (ts : List Terminal) → Leaves o (tail ts) → Leaves o ts
behind_first None ts h = tt
behind_first (Some p) [] h = h
behind_first (Some p) (s ∷ ts) h = (s ∷ h.0, ap (λ ts. s ∷ ts) h.1)

behind_more : {A : Type 0} (o : Option (A × List Terminal)) (front middle ts : List Terminal) → ts ≡ front ++ middle → Leaves o middle → Leaves o ts
behind_more None front middle ts e h = tt
behind_more (Some p) front middle ts e h = (front ++ h.0, e ∙ ap (λ ts. front ++ ts) h.1 ∙ sym (append_assoc front h.0 p.1))

leaves_end : {S : Type 0} {T : S → Type 0} {plan : (n : S) → Plan T n} {n : S} {p : Plan T n} {ts : List Terminal} {o : Option (T n × List Terminal)} → Runs T plan n p ts o → Leaves o ts
leaves_end ends = ([], refl)
leaves_end fails = tt
leaves_end (takes {ts = ts} {o = o} d) = behind_first o ts (leaves_end d)
leaves_end (eats {m = m} {ts = ts} {o = o} d) = behind_first o (_ ∷ ts) (leaves_end d)
leaves_end (leaves h d) = leaves_end d
leaves_end (sees h d) = leaves_end d
leaves_end (misses h d) = leaves_end d
leaves_end (reads {ts = ts} {middle = middle} {o = o} c d) = let first = leaves_end c in behind_more o first.0 middle ts first.1 (leaves_end d)
leaves_end (breaks c) = tt

-- ---- one tree

-- terminals read as one tree where it stops, and nothing else is given
pub one_given : {n : Sort} {ts rest other : List Terminal} {x y : Tree n} → Runs Tree plan n (plan n) ts (Some (x, rest)) → Reads n ts y other → Stops n other → (y ≡ x) × (other ≡ rest)
one_given d r s =
    let same = same_Some _ _ (one d (complete r s)) in
    (ap (λ p. p.0) same, ap (λ p. p.1) same)

-- all of the terminals read as what is given where nothing is left
pub all_read : {n : Sort} {ts new : List Terminal} {x : Tree n} → Gives Tree plan n (plan n) ts (Ok x) new → 0 ≡ length new → Reads n ts x []
all_read {n = n} {ts = ts} {new = []} {x = x} d e = sound (run_of d)
all_read {n = n} {ts = ts} {new = s ∷ new} {x = x} d e = absurd (omega arith)

pub not_all_read : {n : Sort} {ts new : List Terminal} {x : Tree n} → Gives Tree plan n (plan n) ts (Ok x) new → ¬ (0 ≡ length new) → (y : Tree n) → ¬ (Reads n ts y [])
not_all_read d h y r = h (ap length (one_given (run_of d) r tt).1)

pub none_read : {n : Sort} {ts new : List Terminal} → Gives Tree plan n (plan n) ts (Err NoTree) new → (y : Tree n) (rest : List Terminal) → Stops n rest → ¬ (Reads n ts y rest)
none_read (no_tree d) y rest s r = absurd (let same = one d (complete r s) in cc same)

-- ---- texts

abbrev ReadsAs : (n : Sort) → List ℕ → Tree n → Type 0
ReadsAs n z x = (ts : List Lexeme) × Lexes 0 z ts None × Reads n (token_terminals ts) x []

pub one_text : {n : Sort} {z : List ℕ} {x y : Tree n} → ReadsAs n z x → ReadsAs n z y → x ≡ y
one_text {n = n} {y = y} a b =
    sym (one_given (complete a.2 tt) (subst (λ ts. Reads n (token_terminals ts) y []) (one_list b.1 a.1).0 b.2) tt).0

-- no tree reads a text where none reads its tokens
pub no_tree_of : {n : Sort} {z : List ℕ} {ts : List Lexeme} → Lexes 0 z ts None → ((y : Tree n) → ¬ (Reads n (token_terminals ts) y [])) → (y : Tree n) → ¬ (ReadsAs n z y)
no_tree_of {n = n} a none y b = none y (subst (λ ts. Reads n (token_terminals ts) y []) (one_list b.1 a).0 b.2)

-- ---- expressions

same_end : (n e f : ℕ) → e ≤ n → f ≤ n → n - e ≡ n - f → e ≡ f
same_end n e f le lf h = omega (arith, h)

terminals_length : (list : List Lexeme) (k : ℕ) → length (token_terminals (drop k list)) ≡ length list - k
terminals_length list k = length-map (drop k list) token_terminal ∙ length-drop k list

pub one_expression : {list : List Lexeme} {begin e f : ℕ} {x y : Expr} → IsExpression list begin x e → IsExpression list begin y f → (x ≡ y) × (e ≡ f)
one_expression {list = list} {e = e} {f = f} a b =
    let same = one_given (complete b.reads b.stops) a.reads a.stops in
    (same.0, same_end (length list) e f a.within b.within (sym (terminals_length list e) ∙ ap length same.1 ∙ terminals_length list f))

-- what is left of the terminals is what the tokens are from a place on
pub expression_read : (list : List Lexeme) (begin : ℕ) (x : Expr) (new : List Terminal) → begin ≤ length list → Gives Tree plan (at l.Or) (plan (at l.Or)) (token_terminals (drop begin list)) (Ok x) new → Stops (at l.Or) new
    → IsExpression list begin x (length list - length new)
expression_read list begin x new le d s =
    let run = run_of d in
    let front = leaves_end run in
    let k : ℕ = length front.0 in
    let size : k + length new ≡ length list - begin = sym (length-append front.0 new) ∙ sym (ap length front.1) ∙ terminals_length list begin in
    let end : begin + k ≡ length list - length new = omega (arith, size, le) in
    let rest : token_terminals (drop (begin + k) list) ≡ new =
    ap token_terminals (sym (drop-drop k begin list)) ∙ sym (drop-map token_terminal k (drop begin list)) ∙ ap (drop k) front.1 ∙ drop-append_seam front.0 new in
    subst (IsExpression list begin x) end
    (record {
      forward = omega arith;
      within = omega (arith, size, le);
      reads = subst (λ rest. Reads (at l.Or) (token_terminals (drop begin list)) x rest) (sym rest) (sound run);
      stops = subst (Stops (at l.Or)) (sym rest) s;
    })

-- no expression begins where what is given doesn't stop
pub none_stops : (list : List Lexeme) (begin : ℕ) (x : Expr) (new : List Terminal) → Gives Tree plan (at l.Or) (plan (at l.Or)) (token_terminals (drop begin list)) (Ok x) new → ¬ (Stops (at l.Or) new) → (y : Expr) (end : ℕ) → ¬ (IsExpression list begin y end)
none_stops list begin x new d h y end e = h (subst (Stops (at l.Or)) (one_given (run_of d) e.reads e.stops).1 e.stops)

pub none_begins : (list : List Lexeme) (begin : ℕ) (new : List Terminal) → Gives Tree plan (at l.Or) (plan (at l.Or)) (token_terminals (drop begin list)) (Err NoTree) new → (y : Expr) (end : ℕ) → ¬ (IsExpression list begin y end)
none_begins list begin new d y end e = none_read d y _ e.stops e.reads
