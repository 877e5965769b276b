-- Where a body is read, each of its nodes has a place.
use Rattle.std.proofs.Common.{◌≡◌, ◌<◌, ◌⊎◌, ℕ, zero, suc, ◌+◌, List, [], ◌∷◌, length, inl, inr, Option, Some, None, Bool, sym, subst, arith, sum_by}
use Rattle.std.proofs.lemmas.List.Sums.{sum_by-cons}
use Rattle.away_trees.specs.declared.queries.Expr.{Expr}
use Rattle.away_trees.specs.declared.queries.Select.{Select}
use Rattle.away_trees.specs.declared.statements.Arm.{Arm}
use Rattle.away_trees.specs.declared.statements.Decl.{Decl}
use Rattle.away_trees.specs.declared.statements.LoopKind.{LoopKind}
use Rattle.away_trees.specs.declared.statements.Stmt.{Stmt}
use Rattle.away_trees.specs.declared.statements.Stmt.TheVariants as s
use Rattle.away_trees.specs.Count.{nodes_of, nodes_of_arm, nodes_of_else}
use Rattle.away_trees.proofs.CountLemmas as counts
use Rattle.away_grammar.specs.declared.grammar.Mark.TheVariants as m
use Rattle.away_grammar.specs.declared.grammar.Level.TheVariants as l
use Rattle.away_grammar.specs.FunctionGrammar as g
use Rattle.away_grammar.specs.FunctionGrammar.{Part, PartTree, ReadsPart, Target, either, labelled}
use Rattle.away_grammar.specs.Grammar.{Reads, at}
use Rattle.away_grammar.specs.Terminals.{Terminal, mark}
use Rattle.function_places.specs.NodePlaces as n
use Rattle.function_places.specs.NodePlaces.{Stretch, NodeAt}

-- the node of the number has a place
abbrev Placed : Stretch → List Terminal → ℕ → Type 0
Placed p ts k = (left : List Terminal) × NodeAt p k ts left

-- each node of a number below the bound has a place
abbrev AllBelow : Stretch → List Terminal → ℕ → Type 0
AllBelow p ts bound = (k : ℕ) → k < bound → Placed p ts k

-- each node behind an arm of IF that ends here has a place, and each behind one of CASE
abbrev BehindIf : List Terminal → ℕ → Type 0
BehindIf ts bound = (before : List Terminal) (a : Arm) → ReadsPart g.branch before a ts → (j : ℕ) → j < bound → Placed n.if_arms before (nodes_of_arm a + j)

abbrev BehindWhen : List Terminal → ℕ → Type 0
BehindWhen ts bound = (before : List Terminal) (a : Arm) → ReadsPart g.branch before a (mark m.When ∷ ts) → (j : ℕ) → j < bound
    → Placed n.case_arms before (nodes_of_arm a + j)

abbrev AllPlaced : (p : Part) → List Terminal → PartTree p → List Terminal → Type 0
AllPlaced g.decls ts ds rest = (bound : ℕ) → AllBelow n.declarations rest bound → AllBelow n.declarations ts (length ds + bound)
AllPlaced g.statement ts x rest = AllBelow n.statement ts (nodes_of x)
AllPlaced g.statements ts xs rest = AllBelow n.statements ts (sum_by nodes_of xs)
AllPlaced g.branch ts a rest = AllBelow n.arm ts (nodes_of_arm a)
AllPlaced g.elsifs ts more rest = (bound : ℕ) → AllBelow n.otherwise rest bound → BehindIf ts (sum_by nodes_of_arm more + bound)
AllPlaced g.whens ts more rest =
    (bound : ℕ) → AllBelow n.otherwise rest bound
    → (before : List Terminal) (a : Arm) → ReadsPart g.branch before a ts → (j : ℕ) → j < sum_by nodes_of_arm more + bound
    → Placed n.case_arms before (nodes_of_arm a + j)
AllPlaced g.otherwise ts other rest = AllBelow n.otherwise ts (nodes_of_else other)
AllPlaced (g.block label) ts x rest = (k : ℕ) → 1 + k < nodes_of x → Placed n.block ts k
AllPlaced (g.repeated label) ts x rest = (k : ℕ) → 1 + k < nodes_of x → Placed n.repeated ts k
AllPlaced g.body ts x rest = AllBelow n.body ts (nodes_of x)
AllPlaced _ ts x rest = Unit {0}

-- ---- numbers

one_plus : (j : ℕ) → 1 + j ≡ suc j
one_plus j = omega arith

-- node 0, or one behind it
numbered : (F : ℕ → Type 0) → F 0 → ((j : ℕ) → F (1 + j)) → (k : ℕ) → F k
numbered F a b zero = a
numbered F a b (suc j) = subst F (one_plus j) (b j)

below_or : (k bound : ℕ) → (k < bound) ⊎ ((j : ℕ) × (k ≡ bound + j))
below_or k zero = inr (k, omega arith)
below_or zero (suc bound) = inl (omega arith)
below_or (suc k) (suc bound) =
    elim (below_or k bound) [
      | inl h ↦ inl (omega (arith, h))
      | inr h ↦ inr (h.0, omega (arith, h.1))
    ]

at_number : {p : Stretch} {ts : List Terminal} {j k : ℕ} → k ≡ j → Placed p ts j → Placed p ts k
at_number {p = p} {ts = ts} e h = subst (Placed p ts) (sym e) h

-- ---- statements that are one node, and INTO

one_node : {ts rest : List Terminal} {x : Stmt} → ReadsPart g.statement ts x rest → nodes_of x ≡ 1 → AllBelow n.statement ts (nodes_of x)
one_node {ts = ts} reads e k small = at_number (omega (arith, e, small)) (ts, n.this_statement reads)

into_placed : {ts rest : List Terminal} {w : Bool} {ns : List Target} {q : Select} → ReadsPart g.statement ts (s.Into w ns q) rest
    → AllBelow n.statement ts (nodes_of (s.Into w ns q))
into_placed {ts = ts} {w = w} {ns = ns} {q = q} reads k small = (ts, n.target_of reads (omega (arith, counts.into_nodes w ns q, small)))

-- ---- declarations and blocks

no_decl : {ts : List Terminal} → AllPlaced g.decls ts [] ts
no_decl bound h k small = h k (omega (arith, small))

another_decl : {ts middle rest : List Terminal} {d : Decl} (ds : List Decl) → ReadsPart g.decl ts d middle → AllPlaced g.decls middle ds rest
    → AllPlaced g.decls ts (d ∷ ds) rest
another_decl {ts = ts} ds r later bound h k small =
    numbered (λ k. k < suc (length ds) + bound → Placed n.declarations ts k) (λ z. (ts, n.this_decl r))
    (λ j z. let place = later bound h j (omega (arith, z)) in (place.0, n.later_decl r place.1)) k small

plain_block : {ts : List Terminal} (label : Option (List ℕ)) (ss : List Stmt) (closing : Option (List ℕ)) → AllBelow n.statements ts (sum_by nodes_of ss)
    → (k : ℕ) → 1 + k < nodes_of (s.Block label [] ss closing) → Placed n.block (mark m.Begin ∷ ts) k
plain_block label ss closing h k small =
    let place = h k (omega (arith, counts.block_nodes label [] ss closing, small)) in (place.0, n.plain place.1)

past_begin : {ts : List Terminal} (bound : ℕ) → AllBelow n.statements ts bound → AllBelow n.declarations (mark m.Begin ∷ ts) bound
past_begin bound h k small = let place = h k small in (place.0, n.behind_decls place.1)

declaring_block : {ts middle : List Terminal} (label : Option (List ℕ)) (ds : List Decl) (ss : List Stmt) (closing : Option (List ℕ))
    → AllPlaced g.decls ts ds (mark m.Begin ∷ middle) → AllBelow n.statements middle (sum_by nodes_of ss)
    → (k : ℕ) → 1 + k < nodes_of (s.Block label ds ss closing) → Placed n.block (mark m.Declare ∷ ts) k
declaring_block label ds ss closing d h k small =
    let place = d (sum_by nodes_of ss) (past_begin (sum_by nodes_of ss) h) k (omega (arith, counts.block_nodes label ds ss closing, small)) in
    (place.0, n.declared place.1)

block_statement : {ts rest : List Terminal} {x : Stmt} (label : Option (List ℕ)) → ReadsPart g.statement (labelled label ts) x rest
    → ((k : ℕ) → 1 + k < nodes_of x → Placed n.block ts k) → AllBelow n.statement (labelled label ts) (nodes_of x)
block_statement {ts = ts} {x = x} label reads h k small =
    numbered (λ k. k < nodes_of x → Placed n.statement (labelled label ts) k) (λ z. (labelled label ts, n.this_statement reads))
    (λ j z. let place = h j z in (place.0, n.in_block label place.1)) k small

loop_statement : {ts rest : List Terminal} {x : Stmt} (label : Option (List ℕ)) → ReadsPart g.statement (labelled label ts) x rest
    → ((k : ℕ) → 1 + k < nodes_of x → Placed n.repeated ts k) → AllBelow n.statement (labelled label ts) (nodes_of x)
loop_statement {ts = ts} {x = x} label reads h k small =
    numbered (λ k. k < nodes_of x → Placed n.statement (labelled label ts) k) (λ z. (labelled label ts, n.this_statement reads))
    (λ j z. let place = h j z in (place.0, n.in_loop label place.1)) k small

body_of : {ts rest : List Terminal} {x : Stmt} (label : Option (List ℕ)) → ReadsPart g.body (labelled label ts) x rest
    → ((k : ℕ) → 1 + k < nodes_of x → Placed n.block ts k) → AllBelow n.body (labelled label ts) (nodes_of x)
body_of {ts = ts} {x = x} label reads h k small =
    numbered (λ k. k < nodes_of x → Placed n.body (labelled label ts) k) (λ z. (labelled label ts, n.this_body reads))
    (λ j z. let place = h j z in (place.0, n.in_body label place.1)) k small

loop_of : {ts middle : List Terminal} {how : LoopKind} (label : Option (List ℕ)) (ss : List Stmt) (closing : Option (List ℕ))
    → ReadsPart g.kind ts how (mark m.Loop ∷ middle) → AllBelow n.statements middle (sum_by nodes_of ss)
    → (k : ℕ) → 1 + k < nodes_of (s.Loop label how ss closing) → Placed n.repeated ts k
loop_of {how = how} label ss closing r h k small =
    let place = h k (omega (arith, counts.loop_nodes label how ss closing, small)) in (place.0, n.in_turns r place.1)

another_statement : {ts middle : List Terminal} {x : Stmt} (xs : List Stmt) → ReadsPart g.statement ts x middle → AllBelow n.statement ts (nodes_of x)
    → AllBelow n.statements middle (sum_by nodes_of xs) → AllBelow n.statements ts (sum_by nodes_of (x ∷ xs))
another_statement {ts = ts} {x = x} xs r first later k small =
    elim (below_or k (nodes_of x)) [
      | inl h ↦ (let place = first k h in (place.0, n.first_statement place.1))
      | inr h ↦ (let place = later h.0 (omega (arith, h.1, sum_by-cons nodes_of x xs, small)) in at_number h.1 (place.0, n.later_statement r place.1))
    ]

-- ---- arms

branch_of : {ts middle rest : List Terminal} {x : Expr} {ss : List Stmt} → ReadsPart g.branch ts (record { test = x; body = ss }) rest
    → Reads (at l.Or) ts x (mark m.Then ∷ middle)
    → AllBelow n.statements middle (sum_by nodes_of ss) → AllBelow n.arm ts (nodes_of_arm (record { test = x; body = ss }))
branch_of {ts = ts} {x = x} {ss = ss} reads test h k small =
    numbered (λ k. k < 1 + sum_by nodes_of ss → Placed n.arm ts k) (λ z. (ts, n.this_arm reads))
    (λ j z. let place = h j (omega (arith, z)) in (place.0, n.behind_test test place.1)) k (omega (
      arith,
      counts.arm_nodes
          (record { test = x; body = ss }),
      small,
    ))

no_elsif : {ts : List Terminal} → AllPlaced g.elsifs ts [] ts
no_elsif bound h before a r j small = let place = h j (omega (arith, small)) in (place.0, n.else_if r place.1)

if_placed : {ts middle : List Terminal} {a : Arm} (bound : ℕ) → ReadsPart g.branch ts a middle → AllBelow n.arm ts (nodes_of_arm a) → BehindIf middle bound
    → AllBelow n.if_arms ts (nodes_of_arm a + bound)
if_placed {ts = ts} {a = a} bound r first later k small =
    elim (below_or k (nodes_of_arm a)) [
      | inl h ↦ (let place = first k h in (place.0, n.first_if place.1))
      | inr h ↦ at_number h.1 (later ts a r h.0 (omega (arith, h.1, small)))
    ]

elsif : {ts middle rest : List Terminal} {a : Arm} (more : List Arm) (short : Bool) → ReadsPart g.branch ts a middle → AllBelow n.arm ts (nodes_of_arm a)
    → AllPlaced g.elsifs middle more rest → AllPlaced g.elsifs (mark (either short m.Elsif m.Elseif) ∷ ts) (a ∷ more) rest
elsif {a = a} more short r first later bound h before b t j small =
    let place = if_placed (sum_by nodes_of_arm more + bound) r first (later bound h) j (omega (arith, sum_by-cons nodes_of_arm a more, small)) in
    (place.0, n.later_if short t place.1)

no_when : {ts : List Terminal} → AllPlaced g.whens ts [] ts
no_when bound h before a r j small = let place = h j (omega (arith, small)) in (place.0, n.else_case r place.1)

case_placed : {ts middle : List Terminal} {a : Arm} (bound : ℕ) → ReadsPart g.branch ts a middle → AllBelow n.arm ts (nodes_of_arm a)
    → ((before : List Terminal) (b : Arm) → ReadsPart g.branch before b middle → (j : ℕ) → j < bound → Placed n.case_arms before (nodes_of_arm b + j))
    → AllBelow n.case_arms ts (nodes_of_arm a + bound)
case_placed {ts = ts} {a = a} bound r first later k small =
    elim (below_or k (nodes_of_arm a)) [
      | inl h ↦ (let place = first k h in (place.0, n.first_case place.1))
      | inr h ↦ at_number h.1 (later ts a r h.0 (omega (arith, h.1, small)))
    ]

when_of : {ts middle rest : List Terminal} {a : Arm} (more : List Arm) → ReadsPart g.branch ts a middle → AllBelow n.arm ts (nodes_of_arm a)
    → AllPlaced g.whens middle more rest → AllPlaced g.whens (mark m.When ∷ ts) (a ∷ more) rest
when_of {a = a} more r first later bound h before b t j small =
    let place = case_placed (sum_by nodes_of_arm more + bound) r first (later bound h) j (omega (arith, sum_by-cons nodes_of_arm a more, small)) in
    (place.0, n.later_case t place.1)

no_else : {ts : List Terminal} → AllBelow n.otherwise ts (nodes_of_else None)
no_else k small = absurd (omega (arith, counts.no_else, small))

else_of : {ts : List Terminal} (ss : List Stmt) → AllBelow n.statements ts (sum_by nodes_of ss)
    → AllBelow n.otherwise (mark m.Else ∷ ts) (nodes_of_else (Some ss))
else_of {ts = ts} ss h k small =
    numbered (λ k. k < 1 + sum_by nodes_of ss → Placed n.otherwise (mark m.Else ∷ ts) k) (λ z. (mark m.Else ∷ ts, n.this_else))
    (λ j z. let place = h j (omega (arith, z)) in (place.0, n.behind_else place.1)) k (omega (arith, counts.else_nodes ss, small))

if_of : {ts middle after rest : List Terminal} {a : Arm} (more : List Arm) (other : Option (List Stmt))
    → ReadsPart g.statement (mark m.If ∷ ts) (s.If (a ∷ more) other) rest
    → ReadsPart g.branch ts a middle → AllBelow n.arm ts (nodes_of_arm a) → AllPlaced g.elsifs middle more after
    → AllBelow n.otherwise after (nodes_of_else other)
    → AllBelow n.statement (mark m.If ∷ ts) (nodes_of (s.If (a ∷ more) other))
if_of {ts = ts} {a = a} more other reads r first later rest k small =
    numbered (λ k. k < 1 + (nodes_of_arm a + (sum_by nodes_of_arm more + nodes_of_else other))
    → Placed n.statement (mark m.If ∷ ts) k) (λ z. (mark m.If ∷ ts, n.this_statement reads))
    (λ j z. let place = if_placed (sum_by nodes_of_arm more + nodes_of_else other) r first (later (nodes_of_else other) rest) j (omega (arith, z)) in
    (place.0, n.in_if place.1))
    k (omega (arith, counts.if_nodes (a ∷ more) other, sum_by-cons nodes_of_arm a more, small))

cases_of : {ts middle after rest : List Terminal} {a : Arm} (more : List Arm) (other : Option (List Stmt))
    → ReadsPart g.statement (mark m.Case ∷ mark m.When ∷ ts) (s.Cases (a ∷ more) other) rest
    → ReadsPart g.branch ts a middle → AllBelow n.arm ts (nodes_of_arm a) → AllPlaced g.whens middle more after
    → AllBelow n.otherwise after (nodes_of_else other)
    → AllBelow n.statement (mark m.Case ∷ mark m.When ∷ ts) (nodes_of (s.Cases (a ∷ more) other))
cases_of {ts = ts} {a = a} more other reads r first later rest k small =
    numbered (λ k. k < 1 + (nodes_of_arm a + (sum_by nodes_of_arm more + nodes_of_else other)) → Placed n.statement (mark m.Case ∷ mark m.When ∷ ts) k)
    (λ z. (mark m.Case ∷ mark m.When ∷ ts, n.this_statement reads))
    (λ j z. let place = case_placed (sum_by nodes_of_arm more + nodes_of_else other) r first (later (nodes_of_else other) rest) j (omega (arith, z)) in
    (place.0, n.in_case place.1))
    k (omega (arith, counts.cases_nodes (a ∷ more) other, sum_by-cons nodes_of_arm a more, small))

-- ---- all parts

all_placed : {p : Part} {ts : List Terminal} {x : PartTree p} {rest : List Terminal} → ReadsPart p ts x rest → AllPlaced p ts x rest
all_placed g.no_default = tt
all_placed (g.default_of terminal e d) = tt
all_placed (g.decl_of t e d) = tt
all_placed g.no_decl = no_decl
all_placed (g.another_decl {ds = ds} d e) = another_decl ds d (all_placed e)
all_placed (g.plain_block {label = label} {ss = ss} closing d) = plain_block label ss closing (all_placed d)
all_placed (g.declaring_block {label = label} {ds = ds} {ss = ss} closing d e) = declaring_block label ds ss closing (all_placed d) (all_placed e)
all_placed (g.block_statement label d) = block_statement label (g.block_statement label d) (all_placed d)
all_placed (g.assignment {n = n} {x = x} terminal e d) = one_node (g.assignment terminal e d) (counts.assign_nodes n None x)
all_placed g.nothing = one_node g.nothing counts.nothing_nodes
all_placed (g.return_of {x = x} d) = one_node (g.return_of d) (counts.return_nodes x)
all_placed (g.branch_of d e) = branch_of (g.branch_of d e) d (all_placed e)
all_placed g.no_elsif = no_elsif
all_placed (g.elsif {more = more} short d e) = elsif more short d (all_placed d) (all_placed e)
all_placed g.no_when = no_when
all_placed (g.when_of {more = more} d e) = when_of more d (all_placed d) (all_placed e)
all_placed g.no_else = no_else
all_placed (g.else_of {ss = ss} d) = else_of ss (all_placed d)
all_placed (g.if_of {more = more} {other = other} d e f) = if_of more other (g.if_of d e f) d (all_placed d) (all_placed e) (all_placed f)
all_placed (g.cases_of {more = more} {other = other} d e f) = cases_of more other (g.cases_of d e f) d (all_placed d) (all_placed e) (all_placed f)
all_placed g.no_step = tt
all_placed (g.step_of d) = tt
all_placed g.plain_loop = tt
all_placed (g.while_loop e d) = tt
all_placed (g.for_loop e c d f) = tt
all_placed (g.loop_of {label = label} {ss = ss} closing d e) = loop_of label ss closing d (all_placed e)
all_placed (g.loop_statement label d) = loop_statement label (g.loop_statement label d) (all_placed d)
all_placed g.no_condition = tt
all_placed (g.condition_of d) = tt
all_placed (g.exit_of {x = x} label d) = one_node (g.exit_of label d) (counts.exit_nodes label x)
all_placed (g.continue_of {x = x} label d) = one_node (g.continue_of label d) (counts.continue_nodes label x)
all_placed (g.raise_message {z = z} w) = one_node (g.raise_message w) (counts.raise_nodes _)
all_placed (g.raise_state {z = z} w) = one_node (g.raise_state w) (counts.raise_nodes _)
all_placed g.last_target = tt
all_placed (g.another_target d) = tt
all_placed (g.into_of w d) = tt
all_placed (g.clauses_of a b c d) = tt
all_placed (g.select_into d e f) = into_placed (g.select_into d e f)
all_placed (g.list_into d e f) = into_placed (g.list_into d e f)
all_placed g.no_statement = λ k small. absurd (omega (arith, small))
all_placed (g.another_statement {xs = xs} d e) = another_statement xs d (all_placed d) (all_placed e)
all_placed (g.body_of label w d) = body_of label (g.body_of label w d) (all_placed d)
all_placed (g.parameter_of w t e) = tt
all_placed (g.last_parameter d) = tt
all_placed (g.another_parameter d e) = tt
all_placed g.no_parameter = tt
all_placed (g.signature_of d) = tt
all_placed g.language_name = tt
all_placed g.language_string = tt
all_placed g.as_quote = tt
all_placed (g.word_attribute e) = tt
all_placed g.strict = tt
all_placed g.returns_null = tt
all_placed g.called_on_null = tt
all_placed g.not_leakproof = tt
all_placed (g.parallel e) = tt
all_placed g.cost = tt
all_placed g.no_attribute = tt
all_placed (g.another_attribute d e) = tt
all_placed (g.function_of o q w t e may d f) = tt

pub have_places : {ts rest : List Terminal} {x : Stmt} → ReadsPart g.body ts x rest → (k : ℕ) → k < nodes_of x
    → (left : List Terminal) × NodeAt n.body k ts left
have_places d = all_placed d
