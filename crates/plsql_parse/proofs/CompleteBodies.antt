-- Bodies: what the grammar reads, the plans give, step by step.
use Rattle.std.proofs.Common.{◌≡◌, ℕ, Bool, true, false, List, [], ◌∷◌, Option, Some, None, refl, ap, lit<, lit≤}
use Rattle.std.specs.Prelude.{codes}
use Rattle.away_grammar.specs.declared.grammar.Mark.{Mark}
use Rattle.away_grammar.specs.declared.grammar.Mark.TheVariants as m
use Rattle.away_grammar.specs.declared.grammar.Level.TheVariants as l
use Rattle.away_values.specs.declared.types.Ty.{Ty}
use Rattle.away_trees.specs.declared.queries.Expr.{Expr}
use Rattle.away_trees.specs.declared.queries.FromItem.{FromItem}
use Rattle.away_trees.specs.declared.queries.Item.{Item}
use Rattle.away_trees.specs.declared.queries.Key.{Key}
use Rattle.away_trees.specs.declared.queries.Select.{Select}
use Rattle.away_trees.specs.declared.statements.Decl.{Decl}
use Rattle.away_trees.specs.declared.statements.Arm.{Arm}
use Rattle.away_trees.specs.declared.statements.LoopKind.{LoopKind}
use Rattle.away_trees.specs.declared.statements.LoopKind.TheVariants as k
use Rattle.away_trees.specs.declared.statements.Raised.TheVariants as r
use Rattle.away_trees.specs.declared.statements.Stmt.{Stmt}
use Rattle.away_trees.specs.declared.statements.Stmt.TheVariants as s
use Rattle.away_grammar.specs.Terminals.{Terminal, mark, name, string}
use Rattle.away_grammar.specs.Grammar.{at, items, from_clause, where_clause, order_clause, limit_clause, Reads, perhaps, not_null, type_named, StopsAt}
use Rattle.away_grammar.specs.FunctionGrammar.{decl, decls, default, statement, statements, branch, elsifs, whens, otherwise, condition, targets, into, clauses, Target, block, repeated, kind, step, body, labelled, perhaps_name, either, gives_default, assigns, opens_loop}
use Rattle.sql_text.specs.Plans.{Begins, done, eat, expect, ends, takes, eats, leaves, sees, misses, reads}
use Rattle.sql_text.specs.TerminalKinds.{name_in, type_in}
use Rattle.sql_text.proofs.Starts.{starts, cannot_begin}
use Rattle.sql_text.proofs.CompleteSteps.{other_mark, other_terminal}
use Rattle.sql_text.proofs.Complete.{complete}
use Rattle.sql_text.proofs.CompleteStops.{followed, no_mark}
use Rattle.sql_text.specs.Descent.{select_with}
use Rattle.plsql_parse.specs.Sorts.{string_in, is_name}
use Rattle.plsql_parse.specs.Bodies.{next, closes, opens, default_plan, default_value, valued_plan, typed_plan, counted_plan, value_plan, raised_plan, raise_plan, left_plan, labelled_plan, outermost_plan, statement_plan}
use Rattle.plsql_parse.specs.Stops.{closes_arms}
use Rattle.plsql_parse.proofs.Beginnings.{Beginning, other_begins, not_next, begins_next, stops_at, semicolon_stops}
use Rattle.plsql_parse.proofs.Lifted.{lifted_runs}
use Rattle.plsql_parse.proofs.RunSteps.{PartRuns, GivenPart, expression_run, wants, maybe_name_run}

-- ---- declarations

pub given_no_default : {ts : List Terminal} → GivenPart default ts None ts
given_no_default stops =
    leaves (other_begins m.Semicolon m.Assign (λ same. absurd (cc same)) stops) (leaves (other_begins m.Semicolon m.Equal (λ same. absurd (cc same)) stops)
    (leaves (other_begins m.Semicolon m.Default (λ same. absurd (cc same)) stops) ends))

default_run : {ts : List Terminal} {o : Option (Option Expr × List Terminal)} (terminal : Mark) → gives_default terminal ≡ true → PartRuns default default_value ts o → PartRuns default default_plan (mark terminal ∷ ts) o
default_run m.Assign e d = eats d
default_run m.Equal e d = leaves (other_mark (λ same. absurd (cc same))) (eats d)
default_run m.Default e d = leaves (other_mark (λ same. absurd (cc same))) (leaves (other_mark (λ same. absurd (cc same))) (eats d))
default_run _ e d = absurd (cc e)

pub given_default_of : {ts rest : List Terminal} {x : Expr} (terminal : Mark) → gives_default terminal ≡ true → Reads (at l.Or) ts x rest → GivenPart default (mark terminal ∷ ts) (Some x) rest
given_default_of terminal e d stops = default_run terminal e (expression_run d (stops_at m.Semicolon (lit< tt) stops) ends)

null_run : {n : List ℕ} {t : Ty} {ts : List Terminal} {o : Option (Decl × List Terminal)} (constant v : Bool) → ¬ (Begins ts m.Not) → PartRuns decl (valued_plan n constant t v) ts o
    → PartRuns decl (eat m.Not (expect m.Null (valued_plan n constant t true)) (valued_plan n constant t false)) (not_null v ts) o
null_run constant true h d = eats (eats d)
null_run constant false h d = leaves h d

constant_run : {n t : List ℕ} {ts : List Terminal} {o : Option (Decl × List Terminal)} (constant : Bool) → PartRuns decl (typed_plan n constant) (name t ∷ ts) o
    → PartRuns decl (eat m.Constant (typed_plan n true) (typed_plan n false)) (perhaps constant (mark m.Constant) (name t ∷ ts)) o
constant_run true d = eats d
constant_run false d = leaves other_terminal d

pub given_decl_of : {ts rest : List Terminal} {n : List ℕ} {ty : Ty} {x : Option Expr} (constant v : Bool) (t : List ℕ) → type_named t ≡ Some ty
    → Beginning default ts (mark m.Semicolon ∷ rest) → GivenPart default ts x (mark m.Semicolon ∷ rest)
    → GivenPart decl (name n ∷ perhaps constant (mark m.Constant) (name t ∷ not_null v ts)) (record { name = n; ty = ty; constant = constant; not_null = v; default = x }) rest
given_decl_of {rest = rest} constant v t e begins d stops =
    wants name_in _ refl (constant_run constant (wants type_in _ e (null_run constant v (begins (rest, refl)) (reads (d (rest, refl)) (eats ends)))))

pub given_no_decl : {ts : List Terminal} → GivenPart decls ts [] ts
given_no_decl stops = misses (ap is_name stops.1) ends

pub given_another_decl : {ts middle rest : List Terminal} {d : Decl} {ds : List Decl} → is_name ts ≡ true → GivenPart decl ts d middle → GivenPart decls middle ds rest → GivenPart decls ts (d ∷ ds) rest
given_another_decl begins d e stops = sees begins (reads (d tt) (reads (e stops) ends))

-- ---- blocks and loops

pub given_plain_block : {ts rest : List Terminal} {label : Option (List ℕ)} {ss : List Stmt} (closing : Option (List ℕ))
    → GivenPart statements ts ss (mark m.End ∷ perhaps_name closing rest) → GivenPart (block label) (mark m.Begin ∷ ts) (s.Block label [] ss closing) rest
given_plain_block {label = label} {ss = ss} closing d stops = leaves (other_mark (λ same. absurd (cc same))) (eats (reads (d refl) (eats (maybe_name_run (λ c. done (s.Block label [] ss c)) closing stops ends))))

pub given_declaring_block : {ts middle rest : List Terminal} {label : Option (List ℕ)} {ds : List Decl} {ss : List Stmt} (closing : Option (List ℕ))
    → GivenPart decls ts ds (mark m.Begin ∷ middle) → GivenPart statements middle ss (mark m.End ∷ perhaps_name closing rest)
    → GivenPart (block label) (mark m.Declare ∷ ts) (s.Block label ds ss closing) rest
given_declaring_block {middle = middle} {label = label} {ds = ds} {ss = ss} closing d e stops = eats (reads (d (middle, refl)) (eats (reads (e refl) (eats (maybe_name_run (λ c. done (s.Block label ds ss c)) closing stops ends)))))

pub given_loop_of : {ts middle rest : List Terminal} {label : Option (List ℕ)} {how : LoopKind} {ss : List Stmt} (closing : Option (List ℕ))
    → GivenPart kind ts how (mark m.Loop ∷ middle) → GivenPart statements middle ss (mark m.End ∷ mark m.Loop ∷ perhaps_name closing rest)
    → GivenPart (repeated label) ts (s.Loop label how ss closing) rest
given_loop_of {middle = middle} {label = label} {how = how} {ss = ss} closing d e stops = reads (d (middle, refl)) (eats (reads (e refl) (eats (eats (maybe_name_run (λ c. done (s.Loop label how ss c)) closing stops ends)))))

pub given_plain_loop : {ts : List Terminal} → GivenPart kind ts k.Plain ts
given_plain_loop stops = leaves (other_begins m.Loop m.While (λ same. absurd (cc same)) stops) (leaves (other_begins m.Loop m.For (λ same. absurd (cc same)) stops) ends)

pub given_while_loop : {ts rest : List Terminal} {x : Expr} → opens_loop ts ≡ true → Reads (at l.Or) ts x rest → GivenPart kind (mark m.While ∷ ts) (k.While x) rest
given_while_loop e d stops = eats (sees e (expression_run d (stops_at m.Loop (lit< tt) stops) ends))

reverse_run : {n : List ℕ} {ts : List Terminal} {o : Option (LoopKind × List Terminal)} (reverse : Bool) → ¬ (Begins ts m.Reverse) → PartRuns kind (counted_plan n reverse) ts o
    → PartRuns kind (eat m.Reverse (counted_plan n true) (counted_plan n false)) (perhaps reverse (mark m.Reverse) ts) o
reverse_run true h d = eats d
reverse_run false h d = leaves h d

pub given_for_loop : {ts after middle rest : List Terminal} {n : List ℕ} {first last : Expr} {x : Option Expr} (reverse : Bool)
    → opens_loop ts ≡ true → Reads (at l.Or) ts first (mark m.Dots ∷ after) → Reads (at l.Or) after last middle → Beginning step middle rest → GivenPart step middle x rest
    → GivenPart kind (mark m.For ∷ name n ∷ mark m.In ∷ perhaps reverse (mark m.Reverse) ts) (k.Count n reverse first last x) rest
given_for_loop reverse e c d begins f stops =
    leaves (other_mark (λ same. absurd (cc same))) (eats (wants name_in _ refl (eats (reverse_run reverse (cannot_begin (starts c) (lit< tt))
    (sees e (expression_run c (lit< tt) (eats (expression_run d (begins stops) (reads (f stops) ends)))))))))

pub given_no_step : {ts : List Terminal} → GivenPart step ts None ts
given_no_step stops = leaves (other_begins m.Loop m.By (λ same. absurd (cc same)) stops) ends

pub given_step_of : {ts rest : List Terminal} {x : Expr} → Reads (at l.Or) ts x rest → GivenPart step (mark m.By ∷ ts) (Some x) rest
given_step_of d stops = eats (expression_run d (stops_at m.Loop (lit< tt) stops) ends)

-- ---- a block or a loop as a statement

label_run : {ts : List Terminal} {o : Option (Stmt × List Terminal)} (label : Option (List ℕ)) → next opens ts ≡ true → PartRuns statement (labelled_plan label) ts o → PartRuns statement statement_plan (labelled label ts) o
label_run None e d = leaves (not_next opens m.LabelOpen e refl) (sees e d)
label_run (Some n) e d = eats (wants name_in _ refl (eats d))

pub given_block_statement : {ts rest : List Terminal} {x : Stmt} (label : Option (List ℕ)) → Beginning (block label) ts (mark m.Semicolon ∷ rest) → GivenPart (block label) ts x (mark m.Semicolon ∷ rest)
    → GivenPart statement (labelled label ts) x rest
given_block_statement label begins d stops = label_run label begins.0 (sees begins.1 (reads (d refl) (eats ends)))

pub given_loop_statement : {ts rest : List Terminal} {x : Stmt} (label : Option (List ℕ)) → Beginning (repeated label) ts (mark m.Semicolon ∷ rest) → GivenPart (repeated label) ts x (mark m.Semicolon ∷ rest)
    → GivenPart statement (labelled label ts) x rest
given_loop_statement label begins d stops = label_run label begins.0 (misses begins.1 (reads (d refl) (eats ends)))

-- ---- other statements

assign_run : {n : List ℕ} {ts : List Terminal} {o : Option (Stmt × List Terminal)} (terminal : Mark) → assigns terminal ≡ true → PartRuns statement (value_plan n) ts o
    → PartRuns statement (eat m.Assign (value_plan n) (expect m.Equal (value_plan n))) (mark terminal ∷ ts) o
assign_run m.Assign e d = eats d
assign_run m.Equal e d = leaves (other_mark (λ same. absurd (cc same))) (eats d)
assign_run _ e d = absurd (cc e)

pub given_assignment : {ts rest : List Terminal} {n : List ℕ} {x : Expr} (terminal : Mark) → assigns terminal ≡ true → Reads (at l.Or) ts x (mark m.Semicolon ∷ rest)
    → GivenPart statement (name n ∷ mark terminal ∷ ts) (s.Assign n None x) rest
given_assignment terminal e d stops = leaves other_terminal (misses refl (takes (assign_run terminal e (expression_run d (lit< tt) (eats ends)))))

pub given_nothing : {rest : List Terminal} → GivenPart statement (mark m.Null ∷ mark m.Semicolon ∷ rest) s.Nothing rest
given_nothing stops = leaves (other_mark (λ same. absurd (cc same))) (misses refl (takes (eats ends)))

pub given_return_of : {ts rest : List Terminal} {x : Expr} → Reads (at l.Or) ts x (mark m.Semicolon ∷ rest) → GivenPart statement (mark m.Return ∷ ts) (s.Return x) rest
given_return_of d stops = leaves (other_mark (λ same. absurd (cc same))) (misses refl (takes (expression_run d (lit< tt) (eats ends))))

pub given_branch_of : {ts middle rest : List Terminal} {x : Expr} {ss : List Stmt} → Reads (at l.Or) ts x (mark m.Then ∷ middle) → GivenPart statements middle ss rest
    → GivenPart branch ts (record { test = x; body = ss }) rest
given_branch_of d e stops = expression_run d (lit< tt) (eats (reads (e stops) ends))

pub given_no_elsif : {ts : List Terminal} → GivenPart elsifs ts [] ts
given_no_elsif stops = leaves (not_next closes_arms m.Elsif stops refl) (leaves (not_next closes_arms m.Elseif stops refl) ends)

pub given_elsif : {ts middle rest : List Terminal} {a : Arm} {more : List Arm} (short : Bool) → Beginning elsifs middle rest → GivenPart branch ts a middle → GivenPart elsifs middle more rest
    → GivenPart elsifs (mark (either short m.Elsif m.Elseif) ∷ ts) (a ∷ more) rest
given_elsif true begins d e stops = eats (reads (d (begins stops)) (reads (e stops) ends))
given_elsif false begins d e stops = leaves (other_mark (λ same. absurd (cc same))) (eats (reads (d (begins stops)) (reads (e stops) ends)))

pub given_no_when : {ts : List Terminal} → GivenPart whens ts [] ts
given_no_when stops = leaves (not_next closes_arms m.When stops refl) ends

pub given_when_of : {ts middle rest : List Terminal} {a : Arm} {more : List Arm} → Beginning whens middle rest → GivenPart branch ts a middle → GivenPart whens middle more rest
    → GivenPart whens (mark m.When ∷ ts) (a ∷ more) rest
given_when_of begins d e stops = eats (reads (d (begins stops)) (reads (e stops) ends))

pub given_no_else : {ts : List Terminal} → GivenPart otherwise ts None ts
given_no_else stops = leaves (other_begins m.End m.Else (λ same. absurd (cc same)) stops) ends

pub given_else_of : {ts rest : List Terminal} {ss : List Stmt} → GivenPart statements ts ss rest → GivenPart otherwise (mark m.Else ∷ ts) (Some ss) rest
given_else_of d stops = eats (reads (d (begins_next closes m.End refl stops)) ends)

pub given_if_of : {ts middle after rest : List Terminal} {a : Arm} {more : List Arm} {other : Option (List Stmt)}
    → Beginning elsifs middle after → Beginning otherwise after (mark m.End ∷ mark m.If ∷ mark m.Semicolon ∷ rest)
    → GivenPart branch ts a middle → GivenPart elsifs middle more after → GivenPart otherwise after other (mark m.End ∷ mark m.If ∷ mark m.Semicolon ∷ rest)
    → GivenPart statement (mark m.If ∷ ts) (s.If (a ∷ more) other) rest
given_if_of begins before d e f stops =
    let arms : next closes_arms _ ≡ true = before (_, refl) in
    leaves (other_mark (λ same. absurd (cc same))) (misses refl (takes (reads (d (begins arms)) (reads (e arms) (reads (f (_, refl)) (eats (eats (eats ends))))))))

pub given_cases_of : {ts middle after rest : List Terminal} {a : Arm} {more : List Arm} {other : Option (List Stmt)}
    → Beginning whens middle after → Beginning otherwise after (mark m.End ∷ mark m.Case ∷ mark m.Semicolon ∷ rest)
    → GivenPart branch ts a middle → GivenPart whens middle more after → GivenPart otherwise after other (mark m.End ∷ mark m.Case ∷ mark m.Semicolon ∷ rest)
    → GivenPart statement (mark m.Case ∷ mark m.When ∷ ts) (s.Cases (a ∷ more) other) rest
given_cases_of begins before d e f stops =
    let arms : next closes_arms _ ≡ true = before (_, refl) in
    leaves (other_mark (λ same. absurd (cc same))) (misses refl (takes (eats (reads (d (begins arms)) (reads (e arms) (reads (f (_, refl)) (eats (eats (eats ends)))))))))

pub given_no_condition : {ts : List Terminal} → GivenPart condition ts None ts
given_no_condition stops = leaves (other_begins m.Semicolon m.When (λ same. absurd (cc same)) stops) ends

pub given_condition_of : {ts rest : List Terminal} {x : Expr} → Reads (at l.Or) ts x rest → GivenPart condition (mark m.When ∷ ts) (Some x) rest
given_condition_of d stops = eats (expression_run d (stops_at m.Semicolon (lit< tt) stops) ends)

pub given_exit_of : {ts rest : List Terminal} {x : Option Expr} (label : Option (List ℕ)) → Beginning condition ts (mark m.Semicolon ∷ rest) → GivenPart condition ts x (mark m.Semicolon ∷ rest)
    → GivenPart statement (mark m.Exit ∷ perhaps_name label ts) (s.Exit label x) rest
given_exit_of label begins d stops =
    leaves (other_mark (λ same. absurd (cc same))) (misses refl (takes (maybe_name_run (λ label. left_plan (s.Exit label)) label (begins (_, refl)) (reads (d (_, refl)) (eats ends)))))

pub given_continue_of : {ts rest : List Terminal} {x : Option Expr} (label : Option (List ℕ)) → Beginning condition ts (mark m.Semicolon ∷ rest) → GivenPart condition ts x (mark m.Semicolon ∷ rest)
    → GivenPart statement (mark m.Continue ∷ perhaps_name label ts) (s.Continue label x) rest
given_continue_of label begins d stops =
    leaves (other_mark (λ same. absurd (cc same))) (misses refl (takes (maybe_name_run (λ label. left_plan (s.Continue label)) label (begins (_, refl)) (reads (d (_, refl)) (eats ends)))))

exception_run : {after : Terminal} {ts : List Terminal} {o : Option (Stmt × List Terminal)} (w : Bool) → PartRuns statement raised_plan (after ∷ ts) o
    → (PartRuns statement raised_plan (after ∷ ts) o → PartRuns statement raise_plan (after ∷ ts) o)
    → PartRuns statement raise_plan (perhaps w (name (codes "exception")) (after ∷ ts)) o
exception_run true d bare = sees refl (takes d)
exception_run false d bare = bare d

pub given_raise_message : {rest : List Terminal} {z : List ℕ} (w : Bool)
    → GivenPart statement (mark m.Raise ∷ perhaps w (name (codes "exception")) (string z ∷ mark m.Semicolon ∷ rest)) (s.Raise (r.Message z)) rest
given_raise_message w stops =
    leaves (other_mark (λ same. absurd (cc same))) (misses refl (takes (exception_run w (misses refl (wants string_in _ refl (eats ends))) (λ d. misses refl d))))

pub given_raise_state : {rest : List Terminal} {z : List ℕ} (w : Bool)
    → GivenPart statement (mark m.Raise ∷ perhaps w (name (codes "exception")) (name (codes "sqlstate") ∷ string z ∷ mark m.Semicolon ∷ rest)) (s.Raise (r.State z)) rest
given_raise_state w stops =
    leaves (other_mark (λ same. absurd (cc same))) (misses refl (takes (exception_run w (sees refl (takes (wants string_in _ refl (eats ends)))) (λ d. misses refl d))))

-- ---- SELECT INTO

pub given_last_target : {rest : List Terminal} {n : List ℕ} → GivenPart targets (name n ∷ rest) ((n, None) ∷ []) rest
given_last_target stops = wants name_in _ refl (leaves stops ends)

pub given_another_target : {middle rest : List Terminal} {n : List ℕ} {ns : List Target} → GivenPart targets middle ns rest
    → GivenPart targets (name n ∷ mark m.Comma ∷ middle) ((n, None) ∷ ns) rest
given_another_target d stops = wants name_in _ refl (eats (reads (d stops) ends))

name_first : {ts : List Terminal} (terminal : Mark) → is_name ts ≡ true → ¬ (Begins ts terminal)
name_first terminal e b = let k : is_name _ ≡ false = ap is_name b.1 in cc (e, k)

pub given_into_of : {ts rest : List Terminal} {ns : List Target} (w : Bool) → Beginning targets ts rest → GivenPart targets ts ns rest
    → GivenPart into (perhaps w (mark m.Strict) ts) (w, ns) rest
given_into_of true begins d stops = eats (reads (d stops) ends)
given_into_of false begins d stops = leaves (name_first m.Strict begins) (reads (d stops) ends)

pub given_clauses_of : {ts after middle before rest : List Terminal} {xs : List Item} {fs : List FromItem} {w : Option Expr} {ks : List Key} {n : Option Expr}
    → Reads from_clause ts fs after → Reads where_clause after w middle → Reads order_clause middle ks before → Reads limit_clause before n rest
    → GivenPart (clauses xs) ts (select_with xs fs w ks n) rest
given_clauses_of {after = after} {middle = middle} {before = before} {rest = rest} a b c d stops =
    let at_rest : StopsAt 6 rest = semicolon_stops stops in
    let at_before : StopsAt 7 before = followed d at_rest in
    let at_middle : StopsAt 8 middle = followed c at_before in
    let at_after : StopsAt 9 after = followed b at_middle in
    reads (lifted_runs (complete a at_after)) (reads (lifted_runs (complete b at_middle))
    (reads (lifted_runs (complete c at_before)) (reads (lifted_runs (complete d at_rest)) ends)))

pub given_select_into : {ts after middle rest : List Terminal} {w : Bool} {ns : List Target} {xs : List Item} {q : Select}
    → Reads items after xs middle → Beginning (clauses xs) middle (mark m.Semicolon ∷ rest)
    → GivenPart into ts (w, ns) after → GivenPart (clauses xs) middle q (mark m.Semicolon ∷ rest)
    → GivenPart statement (mark m.Select ∷ mark m.Into ∷ ts) (s.Into w ns q) rest
given_select_into c begins d e stops =
    leaves (other_mark (λ same. absurd (cc same))) (misses refl (takes (eats
    (reads (d (cannot_begin (starts c) (lit< tt))) (reads (lifted_runs (complete c (begins (_, refl)))) (reads (e (_, refl)) (eats ends)))))))

pub given_list_into : {ts after middle rest : List Terminal} {w : Bool} {ns : List Target} {xs : List Item} {q : Select}
    → Reads items ts xs (mark m.Into ∷ after) → Beginning (clauses xs) middle (mark m.Semicolon ∷ rest)
    → GivenPart into after (w, ns) middle → GivenPart (clauses xs) middle q (mark m.Semicolon ∷ rest)
    → GivenPart statement (mark m.Select ∷ ts) (s.Into w ns q) rest
given_list_into {middle = middle} c begins d e stops =
    leaves (other_mark (λ same. absurd (cc same))) (misses refl (takes (leaves (cannot_begin (starts c) (lit< tt))
    (reads (lifted_runs (complete c (lit< tt))) (eats (reads (d (no_mark 10 middle m.Comma (lit≤ tt) (begins (_, refl)))) (reads (e (_, refl)) (eats ends))))))))

-- ---- lists of statements

pub given_no_statement : {ts : List Terminal} → GivenPart statements ts [] ts
given_no_statement stops = sees stops ends

pub given_another_statement : {ts middle rest : List Terminal} {x : Stmt} {xs : List Stmt} → next closes ts ≡ false → GivenPart statement ts x middle → GivenPart statements middle xs rest
    → GivenPart statements ts (x ∷ xs) rest
given_another_statement begins d e stops = misses begins (reads (d tt) (reads (e stops) ends))

-- ---- bodies

outermost_run : {label : Option (List ℕ)} {ts rest : List Terminal} {x : Stmt} (w : Bool) → rest ≡ [] → GivenPart (block label) ts x (perhaps w (mark m.Semicolon) rest)
    → PartRuns body (outermost_plan label) ts (Some (x, rest))
outermost_run true stops d = reads (d refl) (eats ends)
outermost_run false stops d = reads (d (ap is_name stops)) (leaves (λ b. cc (stops, b.1)) ends)

pub given_body_of : {ts rest : List Terminal} {x : Stmt} (label : Option (List ℕ)) (w : Bool) → Beginning (block label) ts (perhaps w (mark m.Semicolon) rest)
    → GivenPart (block label) ts x (perhaps w (mark m.Semicolon) rest) → GivenPart body (labelled label ts) x rest
given_body_of None w begins d stops = leaves (not_next opens m.LabelOpen begins.0 refl) (outermost_run w stops d)
given_body_of (Some n) w begins d stops = eats (wants name_in _ refl (eats (outermost_run w stops d)))
