-- Steps of a run of the plan of a part.
use Rattle.std.proofs.Common.{◌≡◌, ℕ, Bool, true, false, List, [], ◌∷◌, Option, Some, None, refl, sym, subst}
use Rattle.std.specs.Prelude.{if◌then◌else◌, bytes_eq, codes}
use Rattle.away_grammar.specs.declared.grammar.Mark.TheVariants as m
use Rattle.away_grammar.specs.declared.grammar.Level.TheVariants as l
use Rattle.away_trees.specs.declared.queries.Expr.{Expr}
use Rattle.away_grammar.specs.Terminals.{Terminal, mark, name, integer, string, parameter, quote}
use Rattle.away_grammar.specs.Grammar.{at, Reads, StopsAt, schema_qualified}
use Rattle.away_grammar.specs.FunctionGrammar.{Part, PartTree, perhaps_name}
use Rattle.sql_text.specs.Plans.{first, tail, Begins, with, want, eat, is_some, Runs, takes, sees, misses, reads, eats, leaves}
use Rattle.sql_text.specs.TerminalKinds.{name_in}
use Rattle.sql_text.proofs.Complete.{complete}
use Rattle.plsql_parse.specs.Sorts.{AnyTree, part, PartPlan, expression, a_name, maybe_name, schema_qualified_name, is_name}
use Rattle.plsql_parse.specs.Plans.{any_plan, part_plan}
use Rattle.plsql_parse.specs.Stops.{StopsPart}
use Rattle.plsql_parse.proofs.Lifted.{lifted_runs}

-- what comes of a plan of a part
abbrev pub PartRuns : (p : Part) → PartPlan p → List Terminal → Option (PartTree p × List Terminal) → Type 0
PartRuns p = Runs AnyTree any_plan (part p)

-- The plan of the part gives the tree, where what is left ends the part.
abbrev pub GivenPart : (p : Part) → List Terminal → PartTree p → List Terminal → Type 0
GivenPart p ts x rest = StopsPart p rest → PartRuns p (part_plan p) ts (Some (x, rest))

-- an expression is read
pub expression_run : {p : Part} {f : Expr → PartPlan p} {ts rest : List Terminal} {x : Expr} {o : Option (PartTree p × List Terminal)}
    → Reads (at l.Or) ts x rest → StopsAt 21 rest → PartRuns p (f x) rest o → PartRuns p (expression f) ts o
expression_run d stops r = reads (lifted_runs (complete d stops)) r

-- what was wanted stands next
pub wants : {p : Part} {A : Type 0} (kind : Option Terminal → Option A) (f : A → PartPlan p) {ts : List Terminal} {o : Option (PartTree p × List Terminal)} {x : A}
    → kind (first ts) ≡ Some x → PartRuns p (f x) (tail ts) o → PartRuns p (want kind f) ts o
wants {p = p} kind f {ts = ts} {o = o} e d = takes (subst (λ found. PartRuns p (with f found) (tail ts) o) (sym e) d)

no_name : (ts : List Terminal) → is_name ts ≡ false → is_some (name_in (first ts)) ≡ false
no_name [] e = refl
no_name (name n ∷ ts) e = absurd (cc e)
no_name (mark terminal ∷ ts) e = refl
no_name (integer n ∷ ts) e = refl
no_name (string z ∷ ts) e = refl
no_name (parameter i ∷ ts) e = refl
no_name (quote z ∷ ts) e = refl

pub maybe_name_run : {p : Part} (f : Option (List ℕ) → PartPlan p) {ts : List Terminal} {o : Option (PartTree p × List Terminal)} (n : Option (List ℕ))
    → is_name ts ≡ false → PartRuns p (f n) ts o → PartRuns p (maybe_name f) (perhaps_name n ts) o
maybe_name_run f {ts = ts} None e d = misses (no_name ts e) d
maybe_name_run f (Some n) e d = sees refl (wants name_in (λ n. f (Some n)) refl d)

-- the plan is the first one of two
pub chosen : {p : Part} {b : Bool} {plan : PartPlan p} (other : PartPlan p) {ts : List Terminal} {o : Option (PartTree p × List Terminal)}
    → b ≡ true → PartRuns p plan ts o → PartRuns p (if b then plan else other) ts o
chosen {p = p} {plan = plan} other {ts = ts} {o = o} e d = subst (λ b. PartRuns p (if b then plan else other) ts o) (sym e) d

-- ---- names, perhaps behind `public.`

either_name : {p : Part} (b : Bool) (f : List ℕ → PartPlan p) (a : List ℕ) {after : List Terminal} {o : Option (PartTree p × List Terminal)} → ¬ (Begins after m.Dot) → PartRuns p (f a) after o
    → PartRuns p (if b then eat m.Dot (a_name f) (f a) else f a) after o
either_name true f a h d = leaves h d
either_name false f a h d = d

pub qualified_run : {p : Part} (q : Bool) (f : List ℕ → PartPlan p) (a : List ℕ) {after : List Terminal} {o : Option (PartTree p × List Terminal)} → ¬ (Begins after m.Dot) → PartRuns p (f a) after o
    → PartRuns p (schema_qualified_name f) (schema_qualified q (name a ∷ after)) o
qualified_run true f a h d = wants name_in _ refl (eats (wants name_in f refl d))
qualified_run false f a h d = wants name_in _ refl (either_name (bytes_eq a (codes "public")) f a h d)
