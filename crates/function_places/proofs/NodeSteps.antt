-- How the search for a node goes on: what was passed, and the node from there on.
use Rattle.std.proofs.Common.{◌≡◌, ◌≤◌, ◌<◌, ℕ, ◌+◌, ◌-◌, List, [], ◌∷◌, ◌++◌, length, ◌⊎◌, inl, inr, Option, Some, None, Result, Ok, Err, Bool, true, false, refl, sym, ap, ◌∙◌, subst, append_assoc, arith, IfOk, IfSome}
use Rattle.std.specs.Bool.{OnTrue}
use Rattle.away_trees.specs.declared.queries.Expr.{Expr}
use Rattle.away_trees.specs.declared.statements.Arm.{Arm}
use Rattle.away_trees.specs.declared.statements.Decl.{Decl}
use Rattle.away_trees.specs.declared.statements.LoopKind.{LoopKind}
use Rattle.away_trees.specs.declared.statements.Stmt.{Stmt}
use Rattle.away_trees.specs.Count.{nodes_of, nodes_of_arm}
use Rattle.away_trees.proofs.CountLemmas.{into_nodes}
use Rattle.away_grammar.specs.declared.grammar.Mark.TheVariants as m
use Rattle.away_grammar.specs.declared.grammar.Level.TheVariants as l
use Rattle.away_grammar.specs.FunctionGrammar as g
use Rattle.away_grammar.specs.FunctionGrammar.{Part, PartTree, ReadsPart, either}
use Rattle.away_grammar.specs.Grammar.{Reads, at}
use Rattle.away_grammar.specs.Terminals.{Terminal, mark, name, integer, string, parameter, quote}
use Rattle.std.proofs.lemmas.Option.{same_Some}
use Rattle.sql_text.specs.TerminalKinds.{name_in}
use Rattle.sql_text.specs.declared.refusal.Refusal.{Refusal}
use Rattle.sql_text.specs.Plans.{Plan, Begins, first, tail, Runs, ends, fails, takes, eats, leaves, sees, misses, reads, breaks, Gives, tree}
use Rattle.sql_text.specs.Descent.{plan}
use Rattle.sql_text.proofs.Sound as in_sql
use Rattle.plsql_parse.specs.Plans.{any_plan, part_plan}
use Rattle.plsql_parse.specs.Sorts.{AnySort, AnyTree, part, sql}
use Rattle.plsql_parse.proofs.Lifted.{lowered_runs}
use Rattle.plsql_parse.proofs.Sound.{sound}
use Rattle.function_places.specs.declared.node_places.Passed.{Passed}
use Rattle.function_places.specs.NodePlaces.{
  Stretch,
  NodeAt,
  declarations,
  statement,
  statements,
  arm,
  if_arms,
  case_arms,
  otherwise,
  block,
  repeated,
  body,
  this_decl,
  later_decl,
  behind_decls,
  first_statement,
  later_statement,
  this_statement,
  target_of,
  in_if,
  in_case,
  in_block,
  in_loop,
  this_arm,
  behind_test,
  first_if,
  later_if,
  else_if,
  first_case,
  later_case,
  else_case,
  this_else,
  behind_else,
  plain,
  declared,
  in_turns,
  this_body,
  in_body,
  IsLeftOf,
  IsReached,
  IsInto,
  IsCounted,
  IsPassed,
  IsArmPassed,
  IsLabelTaken,
}

-- ---- what was read, and what is left behind it

-- what a reader of the part gave is read so
pub read_so : {p : Part} {old new : List Terminal} {x : PartTree p}
    → Gives AnyTree any_plan (part p) (part_plan p) old (Ok x) new → ReadsPart p old x new
read_so (tree d) = sound d

pub expression_read : {old new : List Terminal} {x : Expr}
    → Gives AnyTree any_plan (sql (at l.Or)) (any_plan (sql (at l.Or))) old (Ok x) new → Reads (at l.Or) old x new
expression_read (tree d) = in_sql.sound (lowered_runs (plan (at l.Or)) d)

pub all_left : (old : List Terminal) → IsLeftOf old old
all_left old = ([], refl)

pub left_on : {old middle rest : List Terminal} → IsLeftOf old middle → IsLeftOf middle rest → IsLeftOf old rest
left_on {rest = rest} (a, e) (b, f) = (a ++ b, e ∙ ap (λ ts. a ++ ts) f ∙ sym (append_assoc a b rest))

pub one_left : {old rest : List Terminal} (t : Terminal) → old ≡ t ∷ rest → IsLeftOf old rest
one_left t e = (t ∷ [], e)

-- what is left behind what came of a plan
abbrev EndOf : {A : Type 0} → List Terminal → Option (A × List Terminal) → Type 0
EndOf old None = Unit {0}
EndOf old (Some found) = IsLeftOf old found.1

end_on : {A : Type 0} {old middle : List Terminal} (o : Option (A × List Terminal)) → IsLeftOf old middle → EndOf middle o → EndOf old o
end_on None h e = tt
end_on (Some found) h e = left_on h e

taken_end : {A : Type 0} (old : List Terminal) (o : Option (A × List Terminal)) → EndOf (tail old) o → EndOf old o
taken_end [] o e = e
taken_end (t ∷ ts) o e = end_on o (one_left t refl) e

run_end : {S : Type 0} {T : S → Type 0} {plan : (n : S) → Plan T n} {n : S} {p : Plan T n} {ts : List Terminal} {o : Option (T n × List Terminal)}
    → Runs T plan n p ts o → EndOf ts o
run_end {ts = ts} ends = all_left ts
run_end fails = tt
run_end {ts = ts} {o = o} (takes d) = taken_end ts o (run_end d)
run_end {o = o} (eats {m = m} d) = end_on o (one_left (mark m) refl) (run_end d)
run_end (leaves h d) = run_end d
run_end (sees h d) = run_end d
run_end (misses h d) = run_end d
run_end {o = o} (reads c d) = end_on o (run_end c) (run_end d)
run_end (breaks c) = tt

pub given_left : {n : AnySort} {p : Plan AnyTree n} {old new : List Terminal} {x : AnyTree n} → Gives AnyTree any_plan n p old (Ok x) new → IsLeftOf old new
given_left (tree d) = run_end d

-- ---- where the search stands

-- A node of the second number from here on in the one stretch is that of the first number from the start in the other.
pub record Leads (p : Stretch) (node : ℕ) (old : List Terminal) (q : Stretch) (left : ℕ) (now : List Terminal) : Type 0 where
  pub goes : (rest : List Terminal) → NodeAt q left now rest → NodeAt p node old rest
  pub behind : IsLeftOf old now

pub begun : (p : Stretch) (node : ℕ) (old : List Terminal) → Leads p node old p node old
begun p node old = record { goes = λ rest place. place; behind = all_left old }

pub and_on : {p q r : Stretch} {node left less : ℕ} {old now next : List Terminal} → Leads p node old q left now → Leads q left now r less next
    → Leads p node old r less next
and_on a b = record { goes = λ rest place. a.goes rest (b.goes rest place); behind = left_on a.behind b.behind }

-- what is found from here on is found from the start
pub found_on : {p q : Stretch} {node left : ℕ} {old now : List Terminal} → Leads p node old q left now → (result : Result (Option ℕ) Refusal)
    → IfOk result (λ found. IfSome found (IsReached q left now)) → IfOk result (λ found. IfSome found (IsReached p node old))
found_on a (Ok (Some k)) h = record { rest = h.rest; begins = a.goes h.rest h.begins; behind = left_on a.behind h.behind; left_is = h.left_is }
found_on a (Ok None) h = tt
found_on a (Err e) h = tt

-- the place is here
pub found_here : {p q : Stretch} {node left : ℕ} {old now : List Terminal} (k : ℕ) → Leads p node old q left now → NodeAt q left now now → k ≡ length now
    → IsReached p node old k
found_here {now = now} k a place e = record { rest = now; begins = a.goes now place; behind = a.behind; left_is = e }

-- from the same terminals
pub lead_at : {p q : Stretch} {node left : ℕ} {old now here : List Terminal} → here ≡ now → Leads p node old q left now → Leads p node old q left here
lead_at {p = p} {q = q} {node = node} {left = left} {old = old} e a = subst (Leads p node old q left) (sym e) a

-- one step down
pub down : (k : ℕ) → ¬ (k ≡ 0) → 1 + (k - 1) ≡ k
down k h = omega arith

-- a number that isn't 0 is one more than what it is less one
pub one_more : {p q : Stretch} {node left : ℕ} {old now : List Terminal} → ¬ (node ≡ 0) → Leads p (1 + (node - 1)) old q left now
    → Leads p node old q left now
one_more {p = p} {q = q} {node = node} {left = left} {old = old} {now = now} h a = subst (λ n. Leads p n old q left now) (down node h) a

pub number_0 : {p : Stretch} {node : ℕ} {now : List Terminal} → node ≡ 0 → NodeAt p 0 now now → NodeAt p node now now
number_0 {p = p} {now = now} e place = subst (λ n. NodeAt p n now now) (sym e) place

-- ---- steps that are one production

pub into_if : {k : ℕ} {old now : List Terminal} → old ≡ mark m.If ∷ now → Leads statement (1 + k) old if_arms k now
into_if {k = k} e = record { goes = λ rest place. subst (λ ts. NodeAt statement (1 + k) ts rest) (sym e) (in_if place); behind = one_left (mark m.If) e }

pub into_case : {k : ℕ} {old middle now : List Terminal} → old ≡ mark m.Case ∷ middle → middle ≡ mark m.When ∷ now
    → Leads statement (1 + k) old case_arms k now
into_case {k = k} e f = record {
  goes = λ rest place. subst (λ ts. NodeAt statement (1 + k) ts rest) (sym (e ∙ ap (λ ts. mark m.Case ∷ ts) f)) (in_case place);
  behind = left_on (one_left (mark m.Case) e) (one_left (mark m.When) f);
}

label_left : {old now : List Terminal} (label : Option (List ℕ)) → old ≡ g.labelled label now → IsLeftOf old now
label_left None e = ([], e)
label_left (Some n) e = (g.labelled (Some n) [], e)

-- from the same terminals
pub label_at : {same old now : List Terminal} → same ≡ old → IsLabelTaken same now → IsLabelTaken old now
label_at {now = now} e h = subst (λ ts. IsLabelTaken ts now) e h

pub into_block : {k : ℕ} {old now : List Terminal} → IsLabelTaken old now → Leads statement (1 + k) old block k now
into_block {k = k} (label, e) = record {
  goes = λ rest place. subst (λ ts. NodeAt statement (1 + k) ts rest) (sym e)
      (in_block label place);
  behind = label_left label e;
}

pub into_loop : {k : ℕ} {old now : List Terminal} → IsLabelTaken old now → Leads statement (1 + k) old repeated k now
into_loop {k = k} (label, e) = record {
  goes = λ rest place. subst (λ ts. NodeAt statement (1 + k) ts rest) (sym e)
      (in_loop label place);
  behind = label_left label e;
}

pub into_body : {k : ℕ} {old now : List Terminal} → IsLabelTaken old now → Leads body (1 + k) old block k now
into_body {k = k} (label, e) = record {
  goes = λ rest place. subst (λ ts. NodeAt body (1 + k) ts rest) (sym e)
      (in_body label place);
  behind = label_left label e;
}

pub into_declarations : {k : ℕ} {old now : List Terminal} → old ≡ mark m.Declare ∷ now → Leads block k old declarations k now
into_declarations {k = k} e = record {
  goes = λ rest place. subst (λ ts. NodeAt block k ts rest) (sym e) (declared place);
  behind = one_left
      (mark m.Declare) e;
}

pub into_plain : {k : ℕ} {old now : List Terminal} → old ≡ mark m.Begin ∷ now → Leads block k old statements k now
into_plain {k = k} e = record { goes = λ rest place. subst (λ ts. NodeAt block k ts rest) (sym e) (plain place); behind = one_left (mark m.Begin) e }

pub past_begin : {k : ℕ} {old now : List Terminal} → old ≡ mark m.Begin ∷ now → Leads declarations k old statements k now
past_begin {k = k} e = record {
  goes = λ rest place. subst (λ ts. NodeAt declarations k ts rest) (sym e) (behind_decls place);
  behind = one_left
      (mark m.Begin) e;
}

pub into_turns : {k : ℕ} {how : LoopKind} {old middle now : List Terminal} → Gives AnyTree any_plan (part g.kind) (part_plan g.kind) old (Ok how) middle
    → middle ≡ mark m.Loop ∷ now → Leads repeated k old statements k now
into_turns {how = how} {old = old} given e = record {
  goes = λ rest place. in_turns (subst (λ ts. ReadsPart g.kind old how ts) e (read_so given)) place;
  behind = left_on (given_left given) (one_left (mark m.Loop) e);
}

pub past_test : {k : ℕ} {x : Expr} {old middle now : List Terminal} → Gives AnyTree any_plan (sql (at l.Or)) (any_plan (sql (at l.Or))) old (Ok x) middle
    → middle ≡ mark m.Then ∷ now → Leads arm (1 + k) old statements k now
past_test {x = x} {old = old} given e = record {
  goes = λ rest place. behind_test (subst (λ ts. Reads (at l.Or) old x ts) e (expression_read given)) place;
  behind = left_on (given_left given) (one_left (mark m.Then) e);
}

pub past_else : {k : ℕ} {old now : List Terminal} → old ≡ mark m.Else ∷ now → Leads otherwise (1 + k) old statements k now
past_else {k = k} e = record {
  goes = λ rest place. subst (λ ts. NodeAt otherwise (1 + k) ts rest) (sym e) (behind_else place);
  behind = one_left
      (mark m.Else) e;
}

pub else_here : {old now : List Terminal} → old ≡ mark m.Else ∷ now → NodeAt otherwise 0 old old
else_here e = subst (λ ts. NodeAt otherwise 0 ts ts) (sym e) this_else

-- ---- in the first, or past it

-- that many nodes were passed
counted_off : (nodes k : ℕ) → nodes ≤ k → nodes + (k - nodes) ≡ k
counted_off nodes k h = omega arith

pub into_statement : {k : ℕ} (now : List Terminal) → ¬ (k ≡ 0) → Leads statements k now statement (1 + (k - 1)) now
into_statement {k = k} now h = record {
  goes = λ rest place. subst (λ n. NodeAt statements n now rest) (down k h) (first_statement place);
  behind = all_left now;
}

pub past_statement : {k : ℕ} {now next : List Terminal} {passed : Passed} → IsPassed now next passed → passed.nodes ≤ k
    → Leads statements k now statements (k - passed.nodes) next
past_statement {k = k} {now = now} {passed = passed} h few = record {
  goes = λ rest place. subst (λ n. NodeAt statements n now rest)
      (ap (λ n. n + (k - passed.nodes)) (sym h.counted.nodes) ∙ counted_off passed.nodes k few) (later_statement h.reads place);
  behind = h.behind;
}

pub statement_here : {now next : List Terminal} {passed : Passed} → IsPassed now next passed → NodeAt statements 0 now now
statement_here h = first_statement (this_statement h.reads)

target_here : {k : ℕ} {now next : List Terminal} {x : Stmt} → ReadsPart g.statement now x next → IsInto x → k < nodes_of x → NodeAt statement k now now
target_here {k = k} {now = now} {next = next} {x = x} r (w, (ns, (q, e))) small =
    let few : k < 1 + length ns = subst (λ n. k < n) (ap nodes_of e ∙ into_nodes w ns q) small in
    target_of (subst (λ x. ReadsPart g.statement now x next) e r) (omega (arith, few))

into_of : {x : Stmt} (b : Bool) → b ≡ true → OnTrue b (IsInto x) → IsInto x
into_of true e h = h
into_of false e h = absurd (cc e)

pub into_here : {k : ℕ} {now next : List Terminal} {passed : Passed} → IsPassed now next passed → passed.whole ≡ true → k < passed.nodes
    → NodeAt statements k now now
into_here {k = k} {passed = passed} h e small =
    first_statement (target_here h.reads (into_of passed.whole e h.counted.whole) (subst (λ n. k < n) h.counted.nodes small))

pub past_decl : {k : ℕ} {d : Decl} {now next : List Terminal} → Gives AnyTree any_plan (part g.decl) (part_plan g.decl) now (Ok d) next → ¬ (k ≡ 0)
    → Leads declarations k now declarations (k - 1) next
past_decl {k = k} {now = now} given h = record {
  goes = λ rest place. subst (λ n. NodeAt declarations n now rest) (down k h) (later_decl (read_so given) place);
  behind = given_left given;
}

pub decl_here : {d : Decl} {now next : List Terminal} → Gives AnyTree any_plan (part g.decl) (part_plan g.decl) now (Ok d) next
    → NodeAt declarations 0 now now
decl_here given = this_decl (read_so given)

pub body_here : {x : Stmt} {now next : List Terminal} → Gives AnyTree any_plan (part g.body) (part_plan g.body) now (Ok x) next → NodeAt body 0 now now
body_here given = this_body (read_so given)

-- ---- arms

passed_arm : (nodes k : ℕ) (a : Arm) → nodes ≡ nodes_of_arm a → nodes ≤ k → nodes_of_arm a + (k - nodes) ≡ k
passed_arm nodes k a e few = ap (λ n. n + (k - nodes)) (sym e) ∙ counted_off nodes k few

pub if_here : {now next : List Terminal} {nodes : ℕ} → IsArmPassed now next nodes → NodeAt if_arms 0 now now
if_here h = first_if (this_arm h.reads)

pub into_if_arm : {k : ℕ} (now : List Terminal) → ¬ (k ≡ 0) → Leads if_arms k now arm (1 + (k - 1)) now
into_if_arm {k = k} now h = record {
  goes = λ rest place. subst (λ n. NodeAt if_arms n now rest) (down k h) (first_if place);
  behind = all_left now;
}

pub past_if_arm : {k nodes : ℕ} {now middle next : List Terminal} → IsArmPassed now middle nodes → nodes ≤ k
    → (middle ≡ mark m.Elsif ∷ next) ⊎ ((middle ≡ mark m.Elseif ∷ next) × ¬ (Begins middle m.Elsif)) → Leads if_arms k now if_arms (k - nodes) next
past_if_arm {k = k} {nodes = nodes} {now = now} h few (inl e) = record {
  goes = λ rest place. subst (λ n. NodeAt if_arms n now rest) (passed_arm nodes k h.a h.nodes_is few)
      (later_if true (subst (λ ts. ReadsPart g.branch now h.a ts) e h.reads) place);
  behind = left_on h.behind (one_left (mark m.Elsif) e);
}
past_if_arm {k = k} {nodes = nodes} {now = now} h few (inr e) = record {
  goes = λ rest place. subst (λ n. NodeAt if_arms n now rest) (passed_arm nodes k h.a h.nodes_is few)
      (later_if false (subst (λ ts. ReadsPart g.branch now h.a ts) e.0 h.reads) place);
  behind = left_on h.behind (one_left (mark m.Elseif) e.0);
}

same_left : {now middle next : List Terminal} → IsLeftOf now middle → next ≡ middle → IsLeftOf now next
same_left {now = now} h e = subst (IsLeftOf now) (sym e) h

pub into_if_else : {k nodes : ℕ} {now middle next : List Terminal} → IsArmPassed now middle nodes → nodes ≤ k → next ≡ middle
    → Leads if_arms k now otherwise (k - nodes) next
into_if_else {k = k} {nodes = nodes} {now = now} h few e = record {
  goes = λ rest place. subst (λ n. NodeAt if_arms n now rest) (passed_arm nodes k h.a h.nodes_is few)
      (else_if h.reads (subst (λ ts. NodeAt otherwise (k - nodes) ts rest) e place));
  behind = same_left h.behind e;
}

pub case_here : {now next : List Terminal} {nodes : ℕ} → IsArmPassed now next nodes → NodeAt case_arms 0 now now
case_here h = first_case (this_arm h.reads)

pub into_case_arm : {k : ℕ} (now : List Terminal) → ¬ (k ≡ 0) → Leads case_arms k now arm (1 + (k - 1)) now
into_case_arm {k = k} now h = record {
  goes = λ rest place. subst (λ n. NodeAt case_arms n now rest) (down k h) (first_case place);
  behind = all_left now;
}

pub past_case_arm : {k nodes : ℕ} {now middle next : List Terminal} → IsArmPassed now middle nodes → nodes ≤ k → middle ≡ mark m.When ∷ next
    → Leads case_arms k now case_arms (k - nodes) next
past_case_arm {k = k} {nodes = nodes} {now = now} h few e = record {
  goes = λ rest place. subst (λ n. NodeAt case_arms n now rest) (passed_arm nodes k h.a h.nodes_is few)
      (later_case (subst (λ ts. ReadsPart g.branch now h.a ts) e h.reads) place);
  behind = left_on h.behind (one_left (mark m.When) e);
}

pub into_case_else : {k nodes : ℕ} {now middle next : List Terminal} → IsArmPassed now middle nodes → nodes ≤ k → next ≡ middle
    → Leads case_arms k now otherwise (k - nodes) next
into_case_else {k = k} {nodes = nodes} {now = now} h few e = record {
  goes = λ rest place. subst (λ n. NodeAt case_arms n now rest) (passed_arm nodes k h.a h.nodes_is few)
      (else_case h.reads (subst (λ ts. NodeAt otherwise (k - nodes) ts rest) e place));
  behind = same_left h.behind e;
}

-- ---- what was taken

named : (n : List ℕ) (ts rest : List Terminal) → name_in (first ts) ≡ Some n → rest ≡ tail ts → ts ≡ name n ∷ rest
named n [] rest e r = absurd (cc e)
named n (name z ∷ ts) rest e r = ap (λ z. name z ∷ ts) (same_Some _ _ e) ∙ ap (λ l. name n ∷ l) (sym r)
named n (mark t ∷ ts) rest e r = absurd (cc e)
named n (integer i ∷ ts) rest e r = absurd (cc e)
named n (string z ∷ ts) rest e r = absurd (cc e)
named n (parameter i ∷ ts) rest e r = absurd (cc e)
named n (quote z ∷ ts) rest e r = absurd (cc e)

pub label_taken : {old opened behind now : List Terminal} (n : List ℕ) → old ≡ mark m.LabelOpen ∷ opened → name_in (first opened) ≡ Some n
    → behind ≡ tail opened
    → behind ≡ mark m.LabelClose ∷ now → IsLabelTaken old now
label_taken {opened = opened} {behind = behind} n e f r h =
    (Some n, e ∙ ap (λ l. mark m.LabelOpen ∷ l) (named n opened behind f r) ∙ ap (λ l. mark m.LabelOpen ∷ name n ∷ l) h)

pub statement_passed : {old new : List Terminal} {x y : Stmt} (r : Result Passed Refusal)
    → Gives AnyTree any_plan (part g.statement) (part_plan g.statement) old (Ok x) new
    → y ≡ x → IfOk r (IsCounted y) → IfOk r (IsPassed old new)
statement_passed {x = x} (Ok passed) given e h = record {
  x = x;
  reads = read_so given;
  behind = given_left given;
  counted = subst
      (λ x. IsCounted x passed) e h;
}
statement_passed (Err refusal) given e h = tt

pub arm_passed : {old new : List Terminal} {a : Arm} (r : Result ℕ Refusal) → Gives AnyTree any_plan (part g.branch) (part_plan g.branch) old (Ok a) new
    → IfOk r (λ nodes. nodes ≡ nodes_of_arm a) → IfOk r (IsArmPassed old new)
arm_passed {a = a} (Ok nodes) given h = record { a = a; reads = read_so given; behind = given_left given; nodes_is = h }
arm_passed (Err refusal) given h = tt
