-- Each expression in a function's body is read from writable terminals that nest no deeper than the body may.
use Rattle.std.proofs.Common.{◌≡◌, ◌≤◌, ◌⊎◌, ℕ, zero, suc, Bool, true, false, List, [], ◌∷◌, ◌++◌, map, Option, refl, sym, ◌∙◌}
use Rattle.std.proofs.Common.{subst, arith, inl, inr, option_map}
use Rattle.std.specs.Prelude.{codes}
use Rattle.away_grammar.specs.declared.grammar.Mark.TheVariants as m
use Rattle.away_grammar.specs.declared.grammar.Level.TheVariants as l
use Rattle.away_trees.specs.declared.queries.Expr.{Expr}
use Rattle.away_trees.specs.declared.queries.Item.{Item}
use Rattle.away_trees.specs.declared.queries.Select.{Select}
use Rattle.away_trees.specs.declared.statements.Arm.{Arm}
use Rattle.away_trees.specs.declared.statements.Stmt.{Stmt}
use Rattle.away_trees.specs.StatementAlgebra.{stmt_of, branch_of}
use Rattle.away_trees.proofs.StatementEquations as eq
use Rattle.away_grammar.specs.Terminals.{Terminal, mark, name, string}
use Rattle.away_grammar.specs.Grammar.{at, items, Reads, not_null}
use Rattle.away_grammar.specs.FunctionGrammar as g
use Rattle.away_grammar.specs.FunctionGrammar.{Part, PartTree, ReadsPart, loop_opens, either, decl, decls, default, statement, statements, branch}
use Rattle.away_grammar.specs.FunctionGrammar.{elsifs, whens, otherwise, condition, targets, into, clauses, block, repeated, kind, step, body}
use Rattle.away_grammar.specs.FunctionGrammar.{parameter, parameters, signature, attribute_of, attributes, function}
use Rattle.sql_printer.specs.Writable.{AllWritable}
use Rattle.sql_printer.proofs.PrintWritable.{prints_clear}
use Rattle.plsql_parse.specs.Refusals.{most_nesting}
use Rattle.plsql_meaning.specs.Sight.{query_of}
use Rattle.block_forms.specs.Expressions.{Sources, in_turn, if_there, defaults, of_kind, of_else}
use Rattle.type_soundness.specs.Sorts.{Every}
use Rattle.type_soundness.proofs.Lists.{every_append}
use Rattle.cte_names.proofs.Sources.{texts}
use Rattle.cte_prints.specs.Derivation.{IsReadWithin}
use Rattle.cte_prints.specs.ReadsIn.{ReadsIn}
use Rattle.cte_prints.proofs.RoomLeft.{Room}
use Rattle.cte_prints.proofs.Passing.{plain_passes, perhaps_passes, fresh_passes, word_passes, not_null_passes, labelled_passes, name_passes}
use Rattle.cte_prints.proofs.Passing.{behind_perhaps, behind_name, default_plain, assign_plain, elsif_plain}
use Rattle.cte_prints.proofs.Reading.{Walk, walk}
use Rattle.cte_prints.proofs.ReadingDepth.{deepen}
use Rattle.cte_prints.proofs.ReadSelects.{select_read}

-- ---- the expressions of a part

abbrev pub of_stmt : Stmt → Sources
of_stmt x = stmt_of texts x

abbrev pub of_arm : Arm → Sources
of_arm x = branch_of texts x

abbrev pub sources_in : (p : Part) → PartTree p → Sources
sources_in decl d = if_there d.default
sources_in decls ds = defaults ds
sources_in default x = if_there x
sources_in statement x = of_stmt x
sources_in statements xs = in_turn (map of_stmt xs)
sources_in branch a = of_arm a
sources_in elsifs xs = in_turn (map of_arm xs)
sources_in whens xs = in_turn (map of_arm xs)
sources_in otherwise o = of_else (option_map (λ xs. map of_stmt xs) o)
sources_in condition x = if_there x
sources_in (block label) x = of_stmt x
sources_in (repeated label) x = of_stmt x
sources_in kind k = of_kind k
sources_in step x = if_there x
sources_in body x = of_stmt x
sources_in _ x = []

abbrev pub All : Sources → Type 0
All = Every (IsReadWithin most_nesting)

-- ---- what is left behind a part

-- Statements and declarations end with a semicolon. What stands before LOOP ends with no END, and has none.
abbrev pub Ends : Part → List Terminal → Bool → List Terminal → Bool → Type 0
Ends decl ts b rest c = c ≡ false
Ends decls ts b rest c = c ≡ false
Ends statement ts b rest c = c ≡ false
Ends statements ts b rest c = c ≡ false
Ends branch ts b rest c = c ≡ false
Ends targets ts b rest c = c ≡ false
Ends into ts b rest c = c ≡ false
Ends step ts b rest c = loop_opens ts b ≡ loop_opens rest c
Ends kind ts b rest c = (loop_opens rest c ≡ true) ⊎ (c ≡ false)
Ends _ ts b rest c = Unit {0}

-- As much room is left behind the part as before it, and what is left is writable. `b` and `behind` say whether END stands directly before the first terminals,
-- and before those that are left.
pub record PartWalk (p : Part) (r : ℕ) (b : Bool) (ts : List Terminal) (x : PartTree p) (rest : List Terminal) : Type 0 where
  pub behind : Bool
  pub room : Room rest r behind
  pub writable : AllWritable rest
  pub ends : Ends p ts b rest behind
  pub derivable : All (sources_in p x)

-- The clauses of a select have its expressions with the list that stands before them.
pub record ClausesWalk (r : ℕ) (q : Select) (list : List Item) (rest : List Terminal) : Type 0 where
  pub behind : Bool
  pub room : Room rest r behind
  pub writable : AllWritable rest
  pub whole : (ts after : List Terminal) → ReadsIn true r items ts list after → AllWritable ts → IsReadWithin (suc r) (query_of q)

-- Only what may be left out stands directly behind an END.
abbrev pub start : Part → Bool → Bool
start default b = b
start elsifs b = b
start whens b = b
start otherwise b = b
start step b = b
start condition b = b
start (clauses list) b = b
start _ b = false

-- Statements stand in a block, which is a bracket around them.
abbrev pub Within : Part → ℕ → Type 0
Within statement r = suc r ≤ most_nesting
Within statements r = suc r ≤ most_nesting
Within branch r = suc r ≤ most_nesting
Within elsifs r = suc r ≤ most_nesting
Within whens r = suc r ≤ most_nesting
Within otherwise r = suc r ≤ most_nesting
Within _ r = r ≤ most_nesting

-- the head of a function isn't walked
abbrev pub Walked : (p : Part) → ℕ → Bool → List Terminal → PartTree p → List Terminal → Type 0
Walked parameter r b ts x rest = Unit {0}
Walked parameters r b ts x rest = Unit {0}
Walked signature r b ts x rest = Unit {0}
Walked attribute_of r b ts x rest = Unit {0}
Walked attributes r b ts x rest = Unit {0}
Walked (function inside) r b ts x rest = Unit {0}
Walked (clauses list) r b ts x rest = ClausesWalk r x list rest
Walked p r b ts x rest = PartWalk p r b ts x rest

-- ---- steps

record ExprWalk (r : ℕ) (ts : List Terminal) (x : Expr) (rest : List Terminal) : Type 0 where
  pub behind : Bool
  pub room : Room rest r behind
  pub same : loop_opens ts false ≡ loop_opens rest behind
  pub writable : AllWritable rest
  pub read : IsReadWithin most_nesting x

expression : {ts : List Terminal} {x : Expr} {rest : List Terminal} → Reads (at l.Or) ts x rest → (r : ℕ) → r ≤ most_nesting → Room ts r false → AllWritable ts
    → ExprWalk r ts x rest
expression {ts = ts} {x = x} {rest = rest} d r le h k =
    let w : Walk (at l.Or) r false ts x rest = walk d r false h in
    record {
      behind = w.behind;
      room = w.room;
      same = w.same;
      writable = (prints_clear d k).1;
      read = record { terminals = ts; rest = rest; writable = k; reads = deepen r most_nesting le w.reads };
    }

less : (r : ℕ) → suc r ≤ most_nesting → r ≤ most_nesting
less r le = omega arith

deepened : (r : ℕ) {x : Expr} → suc r ≤ most_nesting → IsReadWithin (suc r) x → IsReadWithin most_nesting x
deepened r le h = record { terminals = h.terminals; rest = h.rest; writable = h.writable; reads = deepen (suc r) most_nesting le h.reads }

fresh : (ts : List Terminal) (r : ℕ) (b : Bool) → b ≡ false → Room ts r b → Room ts r false
fresh ts r b e h = subst (Room ts r) e h

-- a LOOP that opens one doesn't stand directly behind END
loop_fresh : (ts : List Terminal) (b : Bool) → (loop_opens (mark m.Loop ∷ ts) b ≡ true) ⊎ (b ≡ false) → b ≡ false
loop_fresh ts false e = refl
loop_fresh ts true (inl e) = cc
loop_fresh ts true (inr e) = e

joined : (u v : Sources) → All u → All v → All (u ++ v)
joined u v h k = every_append (IsReadWithin most_nesting) u v h k

by_parts : (u v : Sources) → u ≡ v → All v → All u
by_parts u v e h = subst All (sym e) h

branches : (a : Arm) (more : List Arm) (other : Option (List Stmt)) → All (of_arm a) → All (in_turn (map of_arm more)) → All (sources_in otherwise other)
    → All (in_turn (map of_arm (a ∷ more)) ++ sources_in otherwise other)
branches a more other h k l = joined (of_arm a ++ in_turn (map of_arm more)) (sources_in otherwise other) (joined (of_arm a) (in_turn (map of_arm more)) h k) l

-- ---- all parts

pub walked : {p : Part} {ts : List Terminal} {x : PartTree p} {rest : List Terminal} → ReadsPart p ts x rest → (r : ℕ) → Within p r → (b : Bool)
    → Room ts r (start p b) → AllWritable ts → Walked p r (start p b) ts x rest
walked g.no_default r le b h k = record { behind = b; room = h; writable = k; ends = tt; derivable = tt }
walked (g.default_of {ts = ts} terminal is d) r le b h k =
    let p = plain_passes terminal (default_plain terminal is) ts b in
    let w = expression d r le (p.room r h) (p.writable k) in
    record { behind = w.behind; room = w.room; writable = w.writable; ends = tt; derivable = (w.read, tt) }
walked (g.decl_of {ts = ts} {constant = constant} {v = v} t is d) r le b h k =
    let p = fresh_passes constant m.Constant refl (name t ∷ not_null v ts) in
    let q = not_null_passes v ts in
    let x = walked d r le false (q.room r (p.room r h)) (q.writable (p.writable k.1).1) in
    record { behind = false; room = x.room; writable = x.writable.1; ends = refl; derivable = x.derivable }
walked g.no_decl r le b h k = record { behind = false; room = h; writable = k; ends = refl; derivable = tt }
walked (g.another_decl {middle = middle} {d = one} {ds = more} d c) r le b h k =
    let x = walked d r le false h k in
    let y = walked c r le false (fresh middle r x.behind x.ends x.room) x.writable in
    record { behind = y.behind; room = y.room; writable = y.writable; ends = y.ends; derivable = joined (if_there one.default) (defaults more) x.derivable y.derivable }
walked (g.plain_block closing d) zero le b h k = absurd h
walked (g.plain_block {rest = rest} {label = label} {ss = ss} closing d) (suc r) le b h k =
    let x = walked d r le false h k.1 in
    let p = name_passes closing rest true in
    record {
      behind = behind_name closing true;
      room = p.room (suc r) x.room;
      writable = p.writable x.writable.1;
      ends = tt;
      derivable = by_parts _ _ (eq.of_block texts label [] ss closing) x.derivable;
    }
walked (g.declaring_block closing d c) zero le b h k = let x = walked d zero le false h k.1 in absurd x.room
walked (g.declaring_block {rest = rest} {label = label} {ds = ds} {ss = ss} closing d c) (suc r) le b h k =
    let x = walked d (suc r) le false h k.1 in
    let y = walked c r le false x.room x.writable.1 in
    let p = name_passes closing rest true in
    record {
      behind = behind_name closing true;
      room = p.room (suc r) y.room;
      writable = p.writable y.writable.1;
      ends = tt;
      derivable = by_parts _ _ (eq.of_block texts label ds ss closing) (joined (defaults ds) (in_turn (map of_stmt ss)) x.derivable y.derivable);
    }
walked (g.block_statement {ts = ts} label d) r le b h k =
    let p = labelled_passes label ts in
    let x = walked d r (less r le) false (p.room r h) (p.writable k) in
    record { behind = false; room = x.room; writable = x.writable.1; ends = refl; derivable = x.derivable }
walked (g.assignment {ts = ts} terminal is d) r le b h k =
    let p = plain_passes terminal (assign_plain terminal is) ts false in
    let w = expression d r (less r le) (p.room r h) k.1.1 in
    record { behind = false; room = w.room; writable = w.writable.1; ends = refl; derivable = (w.read, tt) }
walked g.nothing r le b h k = record { behind = false; room = h; writable = k.1.1; ends = refl; derivable = tt }
walked (g.return_of d) r le b h k =
    let w = expression d r (less r le) h k.1 in
    record { behind = false; room = w.room; writable = w.writable.1; ends = refl; derivable = (w.read, tt) }
walked (g.branch_of d c) r le b h k =
    let w = expression d r (less r le) h k in
    let y = walked c r le false w.room w.writable.1 in
    record { behind = y.behind; room = y.room; writable = y.writable; ends = y.ends; derivable = (w.read, y.derivable) }
walked g.no_elsif r le b h k = record { behind = b; room = h; writable = k; ends = tt; derivable = tt }
walked (g.elsif {ts = ts} {a = a} {more = more} short d c) r le b h k =
    let p = plain_passes (either short m.Elsif m.Elseif) (elsif_plain short) ts b in
    let x = walked d r le false (p.room r h) k.1 in
    let y = walked c r le x.behind x.room x.writable in
    record { behind = y.behind; room = y.room; writable = y.writable; ends = tt; derivable = joined (of_arm a) (in_turn (map of_arm more)) x.derivable y.derivable }
walked g.no_when r le b h k = record { behind = b; room = h; writable = k; ends = tt; derivable = tt }
walked (g.when_of {a = a} {more = more} d c) r le b h k =
    let x = walked d r le false h k.1 in
    let y = walked c r le x.behind x.room x.writable in
    record { behind = y.behind; room = y.room; writable = y.writable; ends = tt; derivable = joined (of_arm a) (in_turn (map of_arm more)) x.derivable y.derivable }
walked g.no_else r le b h k = record { behind = b; room = h; writable = k; ends = tt; derivable = tt }
walked (g.else_of d) r le b h k = let x = walked d r le false h k.1 in record { behind = x.behind; room = x.room; writable = x.writable; ends = tt; derivable = x.derivable }
walked (g.if_of d c e) zero le b h k = absurd h
walked (g.if_of {a = a} {more = more} {other = other} d c e) (suc r) le b h k =
    let x = walked d r (less (suc r) le) false h k.1 in
    let y = walked c r (less (suc r) le) x.behind x.room x.writable in
    let z = walked e r (less (suc r) le) y.behind y.room y.writable in
    record {
      behind = false;
      room = z.room;
      writable = z.writable.1.1.1;
      ends = refl;
      derivable = by_parts _ _ (eq.of_if texts (a ∷ more) other) (branches a more other x.derivable y.derivable z.derivable);
    }
walked (g.cases_of d c e) zero le b h k = absurd h
walked (g.cases_of {a = a} {more = more} {other = other} d c e) (suc r) le b h k =
    let x = walked d r (less (suc r) le) false h k.1.1 in
    let y = walked c r (less (suc r) le) x.behind x.room x.writable in
    let z = walked e r (less (suc r) le) y.behind y.room y.writable in
    record {
      behind = false;
      room = z.room;
      writable = z.writable.1.1.1;
      ends = refl;
      derivable = by_parts _ _ (eq.of_cases texts (a ∷ more) other) (branches a more other x.derivable y.derivable z.derivable);
    }
walked g.no_step r le b h k = record { behind = b; room = h; writable = k; ends = refl; derivable = tt }
walked (g.step_of d) r le b h k =
    let w = expression d r le h k.1 in
    record { behind = w.behind; room = w.room; writable = w.writable; ends = w.same; derivable = (w.read, tt) }
walked g.plain_loop r le b h k = record { behind = false; room = h; writable = k; ends = inr refl; derivable = tt }
walked (g.while_loop opens d) r le b h k =
    let w = expression d r le h k.1 in
    record { behind = w.behind; room = w.room; writable = w.writable; ends = inl (sym w.same ∙ opens); derivable = (w.read, tt) }
walked (g.for_loop {ts = ts} {reverse = reverse} opens d c e) r le b h k =
    let p = fresh_passes reverse m.Reverse refl ts in
    let w = expression d r le (p.room r h) (p.writable k.1.1.1) in
    let v = expression c r le w.room w.writable.1 in
    let z = walked e r le v.behind v.room v.writable in
    record { behind = z.behind; room = z.room; writable = z.writable; ends = inl (sym (w.same ∙ v.same ∙ z.ends) ∙ opens); derivable = (w.read, (v.read, z.derivable)) }
walked (g.loop_of {middle = middle} closing d c) zero le b h k =
    let x = walked d zero le false h k in
    absurd (fresh (mark m.Loop ∷ middle) zero x.behind (loop_fresh middle x.behind x.ends) x.room)
walked (g.loop_of {middle = middle} {rest = rest} {label = label} {how = how} {ss = ss} closing d c) (suc r) le b h k =
    let x = walked d (suc r) le false h k in
    let y = walked c r le false (fresh (mark m.Loop ∷ middle) (suc r) x.behind (loop_fresh middle x.behind x.ends) x.room) x.writable.1 in
    let p = name_passes closing rest false in
    record {
      behind = behind_name closing false;
      room = p.room (suc r) y.room;
      writable = p.writable y.writable.1.1;
      ends = tt;
      derivable = by_parts _ _ (eq.of_loop texts label how ss closing) (joined (of_kind how) (in_turn (map of_stmt ss)) x.derivable y.derivable);
    }
walked (g.loop_statement {ts = ts} label d) r le b h k =
    let p = labelled_passes label ts in
    let x = walked d r (less r le) false (p.room r h) (p.writable k) in
    record { behind = false; room = x.room; writable = x.writable.1; ends = refl; derivable = x.derivable }
walked g.no_condition r le b h k = record { behind = b; room = h; writable = k; ends = tt; derivable = tt }
walked (g.condition_of d) r le b h k =
    let w = expression d r le h k.1 in
    record { behind = w.behind; room = w.room; writable = w.writable; ends = tt; derivable = (w.read, tt) }
walked (g.exit_of {ts = ts} label d) r le b h k =
    let p = name_passes label ts false in
    let x = walked d r (less r le) (behind_name label false) (p.room r h) (p.writable k.1) in
    record { behind = false; room = x.room; writable = x.writable.1; ends = refl; derivable = x.derivable }
walked (g.continue_of {ts = ts} label d) r le b h k =
    let p = name_passes label ts false in
    let x = walked d r (less r le) (behind_name label false) (p.room r h) (p.writable k.1) in
    record { behind = false; room = x.room; writable = x.writable.1; ends = refl; derivable = x.derivable }
walked (g.raise_message {rest = rest} {z = z} w) r le b h k =
    let p = word_passes w (codes "exception") (string z ∷ mark m.Semicolon ∷ rest) in
    record { behind = false; room = p.room r h; writable = (p.writable k.1).1.1; ends = refl; derivable = tt }
walked (g.raise_state {rest = rest} {z = z} w) r le b h k =
    let p = word_passes w (codes "exception") (name (codes "sqlstate") ∷ string z ∷ mark m.Semicolon ∷ rest) in
    record { behind = false; room = p.room r h; writable = (p.writable k.1).1.1.1; ends = refl; derivable = tt }
walked g.last_target r le b h k = record { behind = false; room = h; writable = k.1; ends = refl; derivable = tt }
walked (g.another_target d) r le b h k =
    let x = walked d r le false h k.1.1 in
    record { behind = x.behind; room = x.room; writable = x.writable; ends = x.ends; derivable = tt }
walked (g.into_of {ts = ts} w d) r le b h k =
    let p = fresh_passes w m.Strict refl ts in
    let x = walked d r le false (p.room r h) (p.writable k) in
    record { behind = x.behind; room = x.room; writable = x.writable; ends = x.ends; derivable = tt }
walked (g.clauses_of {xs = xs} d c e f) r le b h k =
    let w = walk d r b h in
    let v = walk c r w.behind w.room in
    let y = walk e r v.behind v.room in
    let z = walk f r y.behind y.room in
    let first = (prints_clear d k).1 in
    let second = (prints_clear c first).1 in
    let third = (prints_clear e second).1 in
    record {
      behind = z.behind;
      room = z.room;
      writable = (prints_clear f third).1;
      whole = λ ts after a i. select_read a i w.reads k v.reads first y.reads second z.reads third;
    }
walked (g.select_into {after = after} {middle = middle} d c e) r le b h k =
    let x = walked d r (less r le) false h k.1.1 in
    let w = walk c r false (fresh after r x.behind x.ends x.room) in
    let z = walked e r (less r le) w.behind w.room (prints_clear c x.writable).1 in
    record { behind = false; room = z.room; writable = z.writable.1; ends = refl; derivable = (deepened r le (z.whole after middle w.reads x.writable), tt) }
walked (g.list_into {ts = ts} {after = after} {middle = middle} d c e) r le b h k =
    let w = walk d r false h in
    let x = walked c r (less r le) false w.room (prints_clear d k.1).1.1 in
    let z = walked e r (less r le) false (fresh middle r x.behind x.ends x.room) x.writable in
    record {
      behind = false;
      room = z.room;
      writable = z.writable.1;
      ends = refl;
      derivable = (deepened r le (z.whole ts (mark m.Into ∷ after) w.reads k.1), tt);
    }
walked g.no_statement r le b h k = record { behind = false; room = h; writable = k; ends = refl; derivable = tt }
walked (g.another_statement {middle = middle} {x = one} {xs = more} d c) r le b h k =
    let x = walked d r le false h k in
    let y = walked c r le false (fresh middle r x.behind x.ends x.room) x.writable in
    record { behind = y.behind; room = y.room; writable = y.writable; ends = y.ends; derivable = joined (of_stmt one) (in_turn (map of_stmt more)) x.derivable y.derivable }
walked (g.body_of {ts = ts} {rest = rest} label w d) r le b h k =
    let p = labelled_passes label ts in
    let x = walked d r le false (p.room r h) (p.writable k) in
    let q = perhaps_passes w m.Semicolon refl rest x.behind in
    record { behind = behind_perhaps w x.behind; room = q.room r x.room; writable = q.writable x.writable; ends = tt; derivable = x.derivable }
walked (g.parameter_of w t is) r le b h k = tt
walked (g.last_parameter d) r le b h k = tt
walked (g.another_parameter d c) r le b h k = tt
walked g.no_parameter r le b h k = tt
walked (g.signature_of d) r le b h k = tt
walked g.language_name r le b h k = tt
walked g.language_string r le b h k = tt
walked g.as_quote r le b h k = tt
walked (g.word_attribute is) r le b h k = tt
walked g.strict r le b h k = tt
walked g.returns_null r le b h k = tt
walked g.called_on_null r le b h k = tt
walked g.not_leakproof r le b h k = tt
walked (g.parallel is) r le b h k = tt
walked g.cost r le b h k = tt
walked g.no_attribute r le b h k = tt
walked (g.another_attribute d c) r le b h k = tt
walked (g.function_of o q w t is may d c) r le b h k = tt
