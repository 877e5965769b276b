-- What is read prints before LOOP as terminals that read as it, that are clear, and whose last one isn't END.
use Rattle.std.proofs.Common.{◌≡◌, ◌≤◌, refl, sym, ap, ◌∙◌, subst, Bool, true, false, if◌then◌else◌, nat_lt, List, [], ◌∷◌, ◌++◌, Some, None, arith, append_assoc}
use Rattle.std.proofs.lemmas.Bool.Decides.{nat_tests}
use Rattle.std.proofs.lemmas.Option.{same_Some}
use Rattle.away_grammar.specs.declared.grammar.Mark.{Mark}
use Rattle.away_grammar.specs.declared.grammar.Mark.TheVariants as m
use Rattle.away_grammar.specs.declared.grammar.Level.{Level}
use Rattle.away_grammar.specs.declared.grammar.Level.TheVariants as l
use Rattle.away_values.specs.declared.operators.ChainOp.{ChainOp}
use Rattle.away_values.specs.declared.operators.CmpOp.{CmpOp}
use Rattle.away_trees.specs.declared.queries.Expr.{Expr}
use Rattle.away_trees.specs.declared.queries.Expr.TheVariants as e
use Rattle.away_trees.proofs.Equations as eq
use Rattle.away_grammar.specs.Terminals.{Terminal, mark}
use Rattle.away_grammar.specs.Grammar.{Sort, at, links, Tree, Reads, IsChain, operands, operator_of, literal_of, rank, perhaps, chain, no_link, link, affirmed, negated, untested, tested, uncompared, compared, unranged, between, one_of, unsigned, signed, least, uncast, cast_once, cast_twice, number, text, literal, named, qualified, typed_parameter, short_parameter, parentheses, scalar, cast, exists, cases, cases_else, call_word, count_rows, call_empty, call}
use Rattle.away_grammar.specs.Printing.{Printed, placed, printed, printing, operator_mark, operator_level, comparison_mark}
use Rattle.sql_printer.specs.Writable.{AllWritable}
use Rattle.sql_printer.proofs.PrintLevels.{Back, place, loosen, least_rank}
use Rattle.sql_printer.proofs.PrintExpressions.{operator_is, comparison_is, perhaps_behind}
use Rattle.sql_printer.proofs.PrintBack.{PrintsBack, prints_back}
use Rattle.sql_printer.proofs.PrintClear.{Clear, Fine, a_mark, nothing, both, at_place, perhaps_not, operator_clear, comparison_clear}
use Rattle.sql_printer.proofs.PrintWritable.{PrintsClear, prints_clear}
use Rattle.function_printer.specs.Closed.{closed, closed_at, closed_chain}
use Rattle.function_printer.proofs.ClosedNodes as node
use Rattle.function_printer.proofs.OpenEnds as o
use Rattle.function_printer.proofs.OpenEnds.{EndsOpen, Open, front, closing, ends_open}

-- ---- an expression that ends at a place

pub record Closes (x : Expr) : Type 0 where
  pub own : Back x
  pub fine : Fine x
  pub back : (after : List Terminal) → Reads (at (printed x).level) (closed x ++ after) x after
  pub ends : EndsOpen (closed x)
  pub clear : Clear (closed x)

abbrev level_of : Printed → Level
level_of p = p.level

closes_by : (x : Expr) (ts : List Terminal) (level : Level) → closed x ≡ ts → (printed x).level ≡ level → Back x → Fine x
    → ((after : List Terminal) → Reads (at level) (ts ++ after) x after) → EndsOpen ts → Clear ts → Closes x
closes_by x ts level is same own fine back ends clear = record {
  own = own;
  fine = fine;
  back = λ after. subst (λ k. Reads (at k) (closed x ++ after) x after) (sym same) (subst (λ us. Reads (at level) (us ++ after) x after) (sym is) (back after));
  ends = subst EndsOpen (sym is) ends;
  clear = subst Clear (sym is) clear;
}

pub whole_is : (p : Printed) → placed l.Or p ≡ p.terminals
whole_is p =
    let low : rank l.Or ≤ rank p.level = least_rank p.level in
    let no : nat_lt (rank p.level) (rank l.Or) ≡ false = grind (arith, nat_tests, low) in
    ap (λ b. if b then mark m.Open ∷ (p.terminals ++ mark m.Close ∷ []) else p.terminals) no

-- what prints as elsewhere
as_whole : (x : Expr) → closed x ≡ placed l.Or (printed x) → Back x → Fine x → Open x → Closes x
as_whole x is own fine ends = closes_by x (printed x).terminals (printed x).level (is ∙ whole_is (printed x)) refl own fine own ends fine

-- what stands in parentheses
in_parentheses : (x : Expr) → closed x ≡ mark m.Open ∷ (placed l.Or (printed x) ++ mark m.Close ∷ []) → (printed x).level ≡ l.Primary → Back x
    → Fine x → Closes x
in_parentheses x is primary own fine =
    closes_by x (mark m.Open ∷ (placed l.Or (printed x) ++ mark m.Close ∷ [])) l.Primary is primary own fine
    (λ after. subst (λ ts. Reads (at l.Primary) (mark m.Open ∷ ts) x after) (sym (append_assoc (placed l.Or (printed x)) (mark m.Close ∷ []) after))
    (parentheses (place l.Or x (mark m.Close ∷ after) own)))
    (front (mark m.Open ∷ []) (front (placed l.Or (printed x)) closing))
    (a_mark m.Open refl (both (at_place l.Or x fine) (a_mark m.Close refl nothing)))

module _ (there : Level) (x : Expr) (c : Closes x) where
  reads_by : (after : List Terminal) (b : Bool) → nat_lt (rank (printed x).level) (rank there) ≡ b
      → Reads (at there) ((if b then placed there (printed x) else closed x) ++ after) x after
  reads_by after true h = place there x after c.own
  reads_by after false h = loosen there (printed x).level (let low : rank there ≤ rank (printed x).level = grind (arith, nat_tests) in low) (c.back after)

  pub at_reads : (after : List Terminal) → Reads (at there) (closed_at there x ++ after) x after
  at_reads after = reads_by after (nat_lt (rank (printed x).level) (rank there)) refl

  placed_ends : nat_lt (rank (printed x).level) (rank there) ≡ true → EndsOpen (placed there (printed x))
  placed_ends h =
      subst (λ b. EndsOpen (if b then mark m.Open ∷ ((printed x).terminals ++ mark m.Close ∷ []) else (printed x).terminals)) (sym h)
      (front (mark m.Open ∷ []) (front (printed x).terminals closing))

  ends_by : (b : Bool) → nat_lt (rank (printed x).level) (rank there) ≡ b → EndsOpen (if b then placed there (printed x) else closed x)
  ends_by true h = placed_ends h
  ends_by false h = c.ends

  pub at_ends : EndsOpen (closed_at there x)
  at_ends = ends_by (nat_lt (rank (printed x).level) (rank there)) refl

  clear_by : (b : Bool) → Clear (if b then placed there (printed x) else closed x)
  clear_by true = at_place there x c.fine
  clear_by false = c.clear

  pub at_clear : Clear (closed_at there x)
  at_clear = clear_by (nat_lt (rank (printed x).level) (rank there))

-- ---- nodes whose last part ends them

neg_closes : (x : Expr) → Closes x → Back (e.Neg x) → Fine (e.Neg x) → Closes (e.Neg x)
neg_closes x c own fine =
    closes_by (e.Neg x) (mark m.Minus ∷ closed_at l.Cast x) l.Sign (node.of_neg x) (ap level_of (eq.of_neg printing x)) own fine
    (λ after. signed (at_reads l.Cast x c after)) (front (mark m.Minus ∷ []) (at_ends l.Cast x c)) (a_mark m.Minus refl (at_clear l.Cast x c))

not_closes : (x : Expr) → Closes x → Back (e.Not x) → Fine (e.Not x) → Closes (e.Not x)
not_closes x c own fine =
    closes_by (e.Not x) (mark m.Not ∷ closed_at l.Is x) l.Not (node.of_not x) (ap level_of (eq.of_not printing x)) own fine
    (λ after. negated (at_reads l.Is x c after)) (front (mark m.Not ∷ []) (at_ends l.Is x c)) (a_mark m.Not refl (at_clear l.Is x c))

compare_closes : (p : CmpOp) (x y : Expr) → Back x → Fine x → Closes y → Back (e.Compare p x y) → Fine (e.Compare p x y) → Closes (e.Compare p x y)
compare_closes p x y back_x fine_x c own fine =
    closes_by (e.Compare p x y) (placed l.Range (printed x) ++ mark (comparison_mark p) ∷ closed_at l.Range y) l.Compare (node.of_compare p x y)
    (ap level_of (eq.of_compare printing p x y)) own fine
    (λ after. subst (λ ts. Reads (at l.Compare) ts (e.Compare p x y) after)
    (sym (append_assoc (placed l.Range (printed x)) (mark (comparison_mark p) ∷ closed_at l.Range y) after))
    (compared (comparison_mark p) (comparison_is p) (place l.Range x (mark (comparison_mark p) ∷ (closed_at l.Range y ++ after)) back_x)
    (at_reads l.Range y c after)))
    (front (placed l.Range (printed x)) (front (mark (comparison_mark p) ∷ []) (at_ends l.Range y c)))
    (both (at_place l.Range x fine_x) (a_mark (comparison_mark p) (comparison_clear p) (at_clear l.Range y c)))

perhaps_ends : (n : Bool) (s : Terminal) {ts : List Terminal} → EndsOpen ts → EndsOpen (perhaps n s ts)
perhaps_ends true s d = front (s ∷ []) d
perhaps_ends false s d = d

between_closes : (n : Bool) (x low high : Expr) → Back x → Fine x → Back low → Fine low → Closes high → Back (e.Between n x low high)
    → Fine (e.Between n x low high)
    → Closes (e.Between n x low high)
between_closes n x low high back_x fine_x back_low fine_low c own fine =
    closes_by (e.Between n x low high)
    (placed l.Concat (printed x) ++ perhaps n (mark m.Not) (mark m.Between ∷ (placed l.Concat (printed low) ++ mark m.And ∷ closed_at l.Concat high)))
    l.Range (node.of_between n x low high) (ap level_of (eq.of_between printing n x low high)) own fine
    (λ after.
    let upper = closed_at l.Concat high ++ after in
    let bounds = placed l.Concat (printed low) ++ mark m.And ∷ upper in
    simp (append_assoc, perhaps_behind)
    (between (place l.Concat x (perhaps n (mark m.Not) (mark m.Between ∷ bounds)) back_x) (place l.Concat low (mark m.And ∷ upper) back_low)
    (at_reads l.Concat high c after)))
    (front (placed l.Concat (printed x))
    (perhaps_ends n (mark m.Not) (front (mark m.Between ∷ []) (front (placed l.Concat (printed low)) (front (mark m.And ∷ []) (at_ends l.Concat high c))))))
    (both (at_place l.Concat x fine_x)
    (perhaps_not n (a_mark m.Between refl (both (at_place l.Concat low fine_low) (a_mark m.And refl (at_clear l.Concat high c))))))

-- ---- chains

record LinksClose (level : Level) (more : List (ChainOp × Expr)) : Type 0 where
  back : (after : List Terminal) → Reads (links level) (closed_chain level more ++ after) more after
  ends : EndsOpen (closed_chain level more)
  clear : Clear (closed_chain level more)

abbrev LinksCloseIfAny : Level → List (ChainOp × Expr) → Type 0
LinksCloseIfAny level [] = Unit {0}
LinksCloseIfAny level (x ∷ more) = LinksClose level (x ∷ more)

seen : (level : Level) (terminal : Mark) (p : ChainOp) → operator_of level terminal ≡ Some p → operator_of level (operator_mark p) ≡ Some p
seen level terminal p h = subst (λ k. operator_of level k ≡ Some p) (sym (operator_is level terminal p h).written) h

last_link : (level : Level) (p : ChainOp) (x : Expr) → operator_of level (operator_mark p) ≡ Some p → Closes x → LinksClose level ((p, x) ∷ [])
last_link level p x h c = record {
  back = λ after. link (operator_mark p) h (at_reads (operands level) x c after) no_link;
  ends = front (mark (operator_mark p) ∷ []) (at_ends (operands level) x c);
  clear = a_mark (operator_mark p) (operator_clear p) (at_clear (operands level) x c);
}

more_link : (level : Level) (p : ChainOp) (x : Expr) (y : ChainOp × Expr) (more : List (ChainOp × Expr))
    → operator_of level (operator_mark p) ≡ Some p → Back x → Fine x
    → LinksClose level (y ∷ more) → LinksClose level ((p, x) ∷ y ∷ more)
more_link level p x y more h own fine r = record {
  back = λ after.
      let first = placed (operands level) (printed x) in
      let tail = closed_chain level (y ∷ more) in
      subst (λ ts. Reads (links level) (mark (operator_mark p) ∷ ts) ((p, x) ∷ y ∷ more) after) (sym (append_assoc first tail after))
      (link (operator_mark p) h (place (operands level) x (tail ++ after) own) (r.back after));
  ends = front (mark (operator_mark p) ∷ placed (operands level) (printed x)) r.ends;
  clear = a_mark (operator_mark p) (operator_clear p) (both (at_place (operands level) x fine) r.clear);
}

chain_closes : (p : ChainOp) (first x : Expr) (more : List (ChainOp × Expr)) → IsChain (operator_level p) → Back first → Fine first
    → LinksClose (operator_level p) ((p, x) ∷ more) → Back (e.Chain first ((p, x) ∷ more)) → Fine (e.Chain first ((p, x) ∷ more))
    → Closes (e.Chain first ((p, x) ∷ more))
chain_closes p first x more is_chain back_first fine_first r own fine =
    let k = operator_level p in
    closes_by (e.Chain first ((p, x) ∷ more)) (placed (operands k) (printed first) ++ closed_chain k ((p, x) ∷ more)) k (node.of_chain first ((p, x) ∷ more))
    (ap level_of (eq.of_chain printing first ((p, x) ∷ more))) own fine
    (λ after. subst (λ ts. Reads (at (operator_level p)) ts (e.Chain first ((p, x) ∷ more)) after)
    (sym (append_assoc (placed (operands k) (printed first)) (closed_chain k ((p, x) ∷ more)) after))
    (chain is_chain (place (operands k) first (closed_chain k ((p, x) ∷ more) ++ after) back_first) (r.back after)))
    (front (placed (operands k) (printed first)) r.ends)
    (both (at_place (operands k) first fine_first) r.clear)

chain_of : (level : Level) (terminal : Mark) (p : ChainOp) (first x : Expr) (more : List (ChainOp × Expr)) → IsChain level
    → operator_of level terminal ≡ Some p → Back first → Fine first
    → LinksClose level ((p, x) ∷ more) → Back (e.Chain first ((p, x) ∷ more)) → Fine (e.Chain first ((p, x) ∷ more)) → Closes (e.Chain first ((p, x) ∷ more))
chain_of level terminal p first x more is_chain h back_first fine_first r own fine =
    let same : level ≡ operator_level p = sym (operator_is level terminal p h).level_is in
    chain_closes p first x more (subst IsChain same is_chain) back_first fine_first (subst (λ k. LinksClose k ((p, x) ∷ more)) same r) own fine

-- ---- all that is read

abbrev ClosesAs : (n : Sort) → Tree n → Type 0
ClosesAs (at level) t = Closes t
ClosesAs (links level) t = LinksCloseIfAny level t
ClosesAs _ t = Unit {0}

behind_not : (n : Bool) (ts : List Terminal) → AllWritable (perhaps n (mark m.Not) ts) → AllWritable ts
behind_not true ts h = h.1
behind_not false ts h = h

literal_whole : (terminal : Mark) (x : Expr) → literal_of terminal ≡ Some x → closed x ≡ placed l.Or (printed x)
literal_whole m.True x h = subst (λ y. closed y ≡ placed l.Or (printed y)) (same_Some _ _ h) refl
literal_whole m.False x h = subst (λ y. closed y ≡ placed l.Or (printed y)) (same_Some _ _ h) refl
literal_whole m.Null x h = subst (λ y. closed y ≡ placed l.Or (printed y)) (same_Some _ _ h) refl
literal_whole _ x h = absurd (cc h)

operator_read : {level : Level} {ts rest : List Terminal} {q : ChainOp} {x : Expr} {more : List (ChainOp × Expr)} → Reads (links level) ts ((q, x) ∷ more) rest
    → (terminal : Mark) × (operator_of level terminal ≡ Some q)
operator_read (link terminal k b c) = (terminal, k)

closes_with : {n : Sort} {ts : List Terminal} {t : Tree n} {rest : List Terminal} → Reads n ts t rest → AllWritable ts → PrintsBack n t
    → PrintsClear n t → ClosesAs n t
closes_with (chain {more = []} p d c) h own fine = closes_with d h own fine
closes_with (chain {level = level} {first = first} {more = (q, x) ∷ more} p d c) h own fine =
    let r = prints_clear d h in
    let found = operator_read c in
    chain_of level found.0 q first x more p found.1 (prints_back d) r.0 (closes_with c r.1 (prints_back c) (prints_clear c r.1).0) own fine
closes_with no_link h own fine = tt
closes_with (link {level = level} {o = q} {x = x} {more = []} terminal k d c) h own fine =
    last_link level q x (seen level terminal q k) (closes_with d h.1 (prints_back d) (prints_clear d h.1).0)
closes_with (link {level = level} {o = q} {x = x} {more = y ∷ more} terminal k d c) h own fine =
    let r = prints_clear d h.1 in
    more_link level q x y more (seen level terminal q k) (prints_back d) r.0 (closes_with c r.1 (prints_back c) (prints_clear c r.1).0)
closes_with (affirmed d) h own fine = closes_with d h own fine
closes_with (negated {x = x} d) h own fine = not_closes x (closes_with d h.1 (prints_back d) (prints_clear d h.1).0) own fine
closes_with (untested d) h own fine = closes_with d h own fine
closes_with (tested {x = x} {n = n} {test = test} terminal k d) h own fine = as_whole (e.Is x test n) refl own fine (o.is_open x test n)
closes_with (uncompared d) h own fine = closes_with d h own fine
closes_with (compared {x = x} {y = y} {o = p} terminal k d c) h own fine =
    let r = prints_clear d h in
    compare_closes p x y (prints_back d) r.0 (closes_with c r.1.1 (prints_back c) (prints_clear c r.1.1).0) own fine
closes_with (unranged d) h own fine = closes_with d h own fine
closes_with (between {x = x} {low = low} {high = high} {n = n} d b c) h own fine =
    let r = prints_clear d h in
    let s = prints_clear b (behind_not n _ r.1).1 in
    between_closes n x low high (prints_back d) r.0 (prints_back b) s.0 (closes_with c s.1.1 (prints_back c) (prints_clear c s.1.1).0) own fine
closes_with (one_of {x = x} {xs = xs} {n = n} d b) h own fine = as_whole (e.OneOf n x xs) refl own fine (o.one_of_open n x xs)
closes_with (unsigned d) h own fine = closes_with d h own fine
closes_with (signed {x = x} d) h own fine = neg_closes x (closes_with d h.1 (prints_back d) (prints_clear d h.1).0) own fine
closes_with least h own fine = as_whole _ refl own fine o.least_open
closes_with (uncast d) h own fine = closes_with d h own fine
closes_with (cast_once {x = x} {ty = ty} t k d) h own fine = as_whole (e.Cast x ty) refl own fine (o.cast_open x ty)
closes_with (cast_twice {x = x} {first = first} {second = second} t u k j d) h own fine =
    as_whole (e.Cast (e.Cast x first) second) refl own fine (o.cast_open (e.Cast x first) second)
closes_with (number {n = n} k) h own fine = as_whole _ refl own fine (o.number_open n)
closes_with (text {t = t}) h own fine = as_whole (e.Str t) refl own fine (o.text_open t)
closes_with (literal {x = x} terminal k) h own fine = as_whole x (literal_whole terminal x k) own fine (o.literal_open terminal x k)
closes_with (named {n = n}) h own fine = as_whole (e.Named n) refl own fine (o.named_open n)
closes_with (qualified {n = n} {c = c}) h own fine = as_whole (e.Dotted n c) refl own fine (o.qualified_open n c)
closes_with (typed_parameter {i = i} {ty = ty} t k) h own fine = as_whole (e.Param i ty) refl own fine (o.parameter_open i ty)
closes_with (short_parameter {i = i} {ty = ty} t k) h own fine = as_whole (e.Param i ty) refl own fine (o.parameter_open i ty)
closes_with (parentheses d) h own fine = closes_with d h.1 own fine
closes_with (scalar {q = q} d) h own fine = as_whole (e.Scalar q) refl own fine (o.scalar_open q)
closes_with (cast {x = x} {ty = ty} t k d) h own fine = as_whole (e.Cast x ty) refl own fine (o.cast_open x ty)
closes_with (exists {q = q} d) h own fine = as_whole (e.Exists q) refl own fine (o.exists_open q)
closes_with (cases {a = a} {more = more} d) h own fine =
    in_parentheses (e.Cases (a ∷ more) None) refl (ap level_of (eq.of_cases printing (a ∷ more) None)) own fine
closes_with (cases_else {a = a} {more = more} {x = x} d b) h own fine =
    in_parentheses (e.Cases (a ∷ more) (Some x)) refl (ap level_of (eq.of_cases printing (a ∷ more) (Some x))) own fine
closes_with (call_word {n = n} {xs = xs} terminal k d) h own fine = as_whole (e.Call n xs) refl own fine (o.call_open n xs)
closes_with count_rows h own fine = as_whole e.CountRows refl own fine o.count_open
closes_with (call_empty {n = n}) h own fine = as_whole (e.Call n []) refl own fine (o.call_open n [])
closes_with (call {n = n} {xs = xs} d) h own fine = as_whole (e.Call n xs) refl own fine (o.call_open n xs)
closes_with _ h own fine = tt

-- An expression that is read from writable terminals.
pub closes : {level : Level} {ts rest : List Terminal} {x : Expr} → Reads (at level) ts x rest → AllWritable ts → Closes x
closes d h = closes_with d h (prints_back d) (prints_clear d h).0

-- Such an expression reads, whatever follows.
pub closed_reads : {x : Expr} → Closes x → (after : List Terminal) → Reads (at l.Or) (closed x ++ after) x after
closed_reads {x = x} c after = loosen l.Or (printed x).level (least_rank (printed x).level) (c.back after)

pub closed_ends : {x : Expr} → Closes x → (before : List Terminal) → closed x ≡ before ++ mark m.End ∷ [] → ⊥
closed_ends c before e = ends_open c.ends before e
