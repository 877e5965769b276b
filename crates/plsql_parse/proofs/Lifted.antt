-- Plans of SQL among the plans of functions.
use Rattle.std.proofs.Common.{Bool, List, Option, Some, None}
use Rattle.std.specs.Prelude.{Result}
use Rattle.away_grammar.specs.declared.grammar.Mark.{Mark}
use Rattle.away_grammar.specs.Terminals.{Terminal}
use Rattle.away_grammar.specs.Grammar.{Sort, Tree, Reads}
use Rattle.sql_text.specs.declared.refusal.Refusal.{Refusal}
use Rattle.sql_text.specs.Plans.{Plan, done, fail, take, eat, look, read, first, Runs, ends, fails, takes, eats, leaves, sees, misses, reads, breaks, Gives, tree, no_tree, no_memory}
use Rattle.sql_text.specs.Descent.{plan}
use Rattle.sql_text.proofs.Holds.{Holds}
use Rattle.plsql_parse.specs.Sorts.{AnyTree, sql, lifted, ReadsAny}
use Rattle.plsql_parse.specs.Plans.{any_plan}

-- What comes of a plan of SQL comes of it there.
pub lifted_runs : {n : Sort} {p : Plan Tree n} {ts : List Terminal} {o : Option (Tree n × List Terminal)} → Runs Tree plan n p ts o → Runs AnyTree any_plan (sql n) (lifted p) ts o
lifted_runs ends = ends
lifted_runs fails = fails
lifted_runs (takes d) = takes (lifted_runs d)
lifted_runs (eats d) = eats (lifted_runs d)
lifted_runs (leaves h d) = leaves h (lifted_runs d)
lifted_runs (sees h d) = sees h (lifted_runs d)
lifted_runs (misses h d) = misses h (lifted_runs d)
lifted_runs (reads c d) = reads (lifted_runs c) (lifted_runs d)
lifted_runs (breaks c) = breaks (lifted_runs c)

pub lifted_gives : {n : Sort} {p : Plan Tree n} {old new : List Terminal} {result : Result (Tree n) Refusal} → Gives Tree plan n p old result new → Gives AnyTree any_plan (sql n) (lifted p) old result new
lifted_gives (tree d) = tree (lifted_runs d)
lifted_gives (no_tree d) = no_tree (lifted_runs d)
lifted_gives no_memory = no_memory

-- What holds of a plan of SQL holds of it there.
pub lifted_holds : {n : Sort} (p : Plan Tree n) (Known : List Terminal → Type 0) (begun : (ts : List Terminal) → Known ts → List Terminal) → Holds Reads n p Known begun → Holds ReadsAny (sql n) (lifted p) Known begun
lifted_holds (done x) Known begun h = h
lifted_holds fail Known begun h = tt
lifted_holds (take f) Known begun h = (lifted_holds (f None) _ _ h.0, λ s. lifted_holds (f (Some s)) _ _ (h.1 s))
lifted_holds (eat m p q) Known begun h = (lifted_holds p _ _ h.0, lifted_holds q _ _ h.1)
lifted_holds (look f p q) Known begun h = (lifted_holds p _ _ h.0, lifted_holds q _ _ h.1)
lifted_holds (read s f) Known begun h = λ x. lifted_holds (f x) _ _ (h x)

-- ---- and back

-- The second plan is the first one, among the plans of functions.
data LiftOf : (n : Sort) → Plan Tree n → Plan AnyTree (sql n) → Type 0 where
  done_lifts : {n : Sort} {x : Tree n} → LiftOf n (done x) (done x)
  fail_lifts : {n : Sort} → LiftOf n fail fail
  take_lifts : {n : Sort} {f : Option Terminal → Plan Tree n} {g : Option Terminal → Plan AnyTree (sql n)} → ((s : Option Terminal) → LiftOf n (f s) (g s)) → LiftOf n (take f) (take g)
  eat_lifts : {n : Sort} {m : Mark} {p q : Plan Tree n} {a b : Plan AnyTree (sql n)} → LiftOf n p a → LiftOf n q b → LiftOf n (eat m p q) (eat m a b)
  look_lifts : {n : Sort} {test : List Terminal → Bool} {p q : Plan Tree n} {a b : Plan AnyTree (sql n)} → LiftOf n p a → LiftOf n q b → LiftOf n (look test p q) (look test a b)
  read_lifts : {n s : Sort} {f : Tree s → Plan Tree n} {g : Tree s → Plan AnyTree (sql n)} → ((x : Tree s) → LiftOf n (f x) (g x)) → LiftOf n (read s f) (read (sql s) g)

lift_of : {n : Sort} (p : Plan Tree n) → LiftOf n p (lifted p)
lift_of (done x) = done_lifts
lift_of fail = fail_lifts
lift_of (take f) = take_lifts (λ s. lift_of (f s))
lift_of (eat m p q) = eat_lifts (lift_of p) (lift_of q)
lift_of (look test p q) = look_lifts (lift_of p) (lift_of q)
lift_of (read s f) = read_lifts (λ x. lift_of (f x))

lowered : {n : Sort} {p : Plan Tree n} {q : Plan AnyTree (sql n)} {ts : List Terminal} {o : Option (Tree n × List Terminal)} → Runs AnyTree any_plan (sql n) q ts o → LiftOf n p q → Runs Tree plan n p ts o
lowered ends done_lifts = ends
lowered fails fail_lifts = fails
lowered (takes {ts = ts} d) (take_lifts h) = takes (lowered d (h (first ts)))
lowered (eats d) (eat_lifts h i) = eats (lowered d h)
lowered (leaves b d) (eat_lifts h i) = leaves b (lowered d i)
lowered (sees e d) (look_lifts h i) = sees e (lowered d h)
lowered (misses e d) (look_lifts h i) = misses e (lowered d i)
lowered (reads {x = x} c d) (read_lifts {s = s} h) = reads (lowered c (lift_of (plan s))) (lowered d (h x))
lowered (breaks c) (read_lifts {s = s} h) = breaks (lowered c (lift_of (plan s)))

-- What comes of a plan of SQL there comes of it.
pub lowered_runs : {n : Sort} (p : Plan Tree n) {ts : List Terminal} {o : Option (Tree n × List Terminal)} → Runs AnyTree any_plan (sql n) (lifted p) ts o → Runs Tree plan n p ts o
lowered_runs p d = lowered d (lift_of p)
