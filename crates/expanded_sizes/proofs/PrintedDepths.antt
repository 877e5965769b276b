-- The printed terminals of a statement nest as deep as its parts say.
use Rattle.std.proofs.Common.{◌≡◌, refl, sym, ap, ◌∙◌, subst, ℕ, zero, suc, ◌+◌, ◌-◌, max, Bool, true, false, if◌then◌else◌, List, [], ◌∷◌, ◌++◌, map, Option, Some, None, append_assoc, codes, option_map, arith}
use Rattle.std.proofs.lemmas.List.{append-nil}
use Rattle.away_trees.specs.declared.queries.Expr.{Expr}
use Rattle.away_trees.specs.declared.queries.FromItem.{FromItem}
use Rattle.away_trees.specs.declared.queries.Item.{Item}
use Rattle.away_trees.specs.declared.queries.Key.{Key}
use Rattle.away_trees.specs.declared.queries.Select.{Select}
use Rattle.away_trees.specs.declared.queries.Expr.TheViews.{out-FromItem, out-Item, out-Key, out-Select}
use Rattle.away_trees.specs.declared.statements.Decl.{Decl}
use Rattle.away_trees.specs.declared.statements.LoopKind.{LoopKind}
use Rattle.away_trees.specs.declared.statements.LoopKind.TheVariants as kind
use Rattle.away_trees.specs.declared.statements.Raised.{Raised}
use Rattle.away_trees.specs.declared.statements.Raised.TheVariants as raised
use Rattle.away_trees.specs.declared.statements.Stmt.{Stmt}
use Rattle.away_trees.specs.declared.statements.Stmt.TheBlock as b
use Rattle.away_trees.specs.Algebra.{from_of, item_of, key_of, source_of}
use Rattle.away_trees.specs.StatementAlgebra.{stmt_of, stmts_of, branches_of, else_of}
use Rattle.away_grammar.specs.declared.grammar.Mark.TheVariants as m
use Rattle.away_grammar.specs.declared.grammar.Level.TheVariants as l
use Rattle.away_grammar.specs.Terminals.{Terminal, mark, name, string}
use Rattle.away_grammar.specs.Grammar.{perhaps, not_null}
use Rattle.away_grammar.specs.Printing.{joined, names_terminals, placed, printed, printing, type_name}
use Rattle.function_printer.specs.FunctionTerminals as f
use Rattle.function_printer.specs.FunctionTerminals.{clauses_of, condition_of, decl_of, decls_of, default_of, in_order, kind_of, label_of, list_of, name_of, printing_statements, range_of, semicolon, statement_terminals, target_names, whole}
use Rattle.expanded_sizes.specs.Depths as d
use Rattle.expanded_sizes.specs.Depths.{begins, counted, depth, ends_open, expr_depth, is_begin, is_end, loosening, most, role, select_depth}
use Rattle.expanded_sizes.specs.declared.depths.Role.{Role}
use Rattle.expanded_sizes.specs.declared.depths.Role.TheVariants.{Opens, Begins, Ends, Closes, Stays}
use Rattle.expanded_sizes.proofs.Balanced as bal
use Rattle.expanded_sizes.proofs.Balanced.{Balanced, AllBalanced, BalancedOption, depth_joins, whole_balanced, joins, more}
use Rattle.expanded_sizes.proofs.ClosedSame.{closed_balanced}
use Rattle.expanded_sizes.proofs.ExpandedDepths.{Flat, flat_end, flat_more, N, nested}

-- ---- what nests so deep, whatever follows

pub record Nests (xs : List Terminal) (n : ℕ) : Type 0 where
  pub is : (rest : List Terminal) → depth (xs ++ rest) ≡ max n (depth rest)

record ClosesOne (xs : List Terminal) : Type 0 where
  pub is : (rest : List Terminal) → depth (xs ++ rest) ≡ depth rest - 1

as_deep : {xs : List Terminal} {n k : ℕ} → n ≡ k → Nests xs n → Nests xs k
as_deep {xs} e h = subst (Nests xs) e h

pub nests_depth : {xs : List Terminal} {n : ℕ} → Nests xs n → depth xs ≡ n
nests_depth {xs} h = ap (λ u. depth u) (sym (append-nil xs)) ∙ (h.is [] ∙ omega arith)

none : Nests [] 0
none = record { is = λ rest. omega arith }

then_ : (xs : List Terminal) {ys : List Terminal} {n k : ℕ} → Nests xs n → Nests ys k → Nests (xs ++ ys) (max n k)
then_ xs {ys} {n} {k} h g = record {
  is = λ rest. ap (λ u. depth u) (append_assoc xs ys rest) ∙ (h.is (ys ++ rest) ∙ (ap (λ c. max n c) (g.is rest)
      ∙ omega arith));
}

one : (s : Terminal) {xs : List Terminal} {n : ℕ} → role s ≡ Stays → Nests xs n → Nests (s ∷ xs) n
one s {xs} stays h = record { is = λ rest. ap (λ r. counted (begins (xs ++ rest)) r (depth (xs ++ rest))) stays ∙ h.is rest }

flat : {xs : List Terminal} → Flat xs → Nests xs 0
flat flat_end = none
flat (flat_more {s} stays h) = one s stays (flat h)

-- what opens, and what closes that
opened : (s : Terminal) (xs : List Terminal) {ys : List Terminal} {n : ℕ} → ((before : Bool) (k : ℕ) → counted before (role s) k ≡ k + 1) → Nests xs n
    → ClosesOne ys → Nests (s ∷ (xs ++ ys)) (n + 1)
opened s xs {ys} {n} opens h g = record {
  is = λ rest. opens _ (depth ((xs ++ ys) ++ rest))
      ∙ (ap (λ u. depth u + 1) (append_assoc xs ys rest) ∙ (ap (λ c. c + 1) (h.is (ys ++ rest)) ∙ (ap (λ c. max n c + 1) (g.is rest) ∙ omega arith)));
}

-- an expression and what begins with no IF, LOOP or CASE
before : (e : Expr) {ys : List Terminal} {n : ℕ} → ((rest : List Terminal) → begins (ys ++ rest) ≡ false) → Nests ys n
    → Nests (whole e ++ ys) (max (expr_depth e) n)
before e {ys} {n} free h = record {
  is = λ rest. ap (λ u. depth u) (append_assoc (whole e) ys rest)
      ∙ (depth_joins (whole e) (ys ++ rest) (whole_balanced e) (free rest) ∙ (ap (λ c. max (expr_depth e) c) (h.is rest) ∙ omega arith));
}

end_here : Nests semicolon 0
end_here = one (mark m.Semicolon) refl none

ended : (e : Expr) → Nests (whole e ++ semicolon) (expr_depth e)
ended e = as_deep (omega arith) (before e (λ rest. refl) end_here)

-- ---- what doesn't end with END goes before anything

by_role : (r : Role) (b c : Bool) (n k : ℕ) → is_end r ≡ false → n ≡ k → counted b r n ≡ counted c r k
by_role Opens b c n k h e = ap (λ u. u + 1) e
by_role Begins b c n k h e = ap (λ u. u + 1) e
by_role Ends b c n k h e = absurd (cc h)
by_role Closes b c n k h e = ap (λ u. u - 1) e
by_role Stays b c n k h e = e

free_behind : (x : Terminal) (xs rest other : List Terminal) → ends_open (x ∷ xs) ≡ false → depth rest ≡ depth other
    → depth (x ∷ (xs ++ rest)) ≡ depth (x ∷ (xs ++ other))
free_behind x [] rest other h e = by_role (role x) (begins rest) (begins other) (depth rest) (depth other) h e
free_behind x (y ∷ ys) rest other h e = ap (λ n. counted (is_begin (role y)) (role x) n) (free_behind y ys rest other h e)

open_ones : ℕ → List Terminal
open_ones zero = []
open_ones (suc n) = mark m.Open ∷ open_ones n

open_depth : (n : ℕ) → depth (open_ones n) ≡ n
unfolding open_ones
open_depth zero = refl
open_depth (suc n) = ap (λ k. k + 1) (open_depth n) ∙ omega arith

open_free : (n : ℕ) → begins (open_ones n) ≡ false
unfolding open_ones
open_free zero = refl
open_free (suc n) = refl

firm : (xs : List Terminal) → Balanced xs → ends_open xs ≡ false → Nests xs (depth xs)
firm [] h free = none
firm (x ∷ xs) h free = record {
  is = λ rest. free_behind x xs rest (open_ones (depth rest)) free (sym (open_depth (depth rest)))
      ∙ (depth_joins (x ∷ xs) (open_ones (depth rest)) h (open_free (depth rest)) ∙ ap (λ n. max (depth (x ∷ xs)) n) (open_depth (depth rest)));
}

-- ---- declarations

default_nests : (o : Option Expr) → Nests (default_of o ++ semicolon) (depth (default_of o))
default_nests None = end_here
default_nests (Some e) = one (mark m.Assign) refl (ended e)

perhaps_nests : (c : Bool) {xs : List Terminal} {n : ℕ} → Nests xs n → Nests (perhaps c (mark m.Constant) xs) n
perhaps_nests true h = one (mark m.Constant) refl h
perhaps_nests false h = h

not_null_nests : (c : Bool) {xs : List Terminal} {n : ℕ} → Nests xs n → Nests (not_null c xs) n
not_null_nests true h = one (mark m.Not) refl (one (mark m.Null) refl h)
not_null_nests false h = h

decl_nests : (x : Decl) → Nests (decl_of x) (depth (default_of x.default))
decl_nests x = one (name x.name) refl (perhaps_nests x.constant (one (name (type_name x.ty)) refl (not_null_nests x.not_null (default_nests x.default))))

each_nests : (ds : List Decl) → Nests (in_order (map (λ x. decl_of x) ds)) (depth (in_order (map (λ x. decl_of x) ds)))
each_nests [] = none
each_nests (x ∷ xs) = let both = then_ (decl_of x) (decl_nests x) (each_nests xs) in as_deep (sym (nests_depth both)) both

decls_nests : (ds : List Decl) → Nests (decls_of ds) (depth (decls_of ds))
decls_nests [] = none
decls_nests (x ∷ xs) = one (mark m.Declare) refl (each_nests (x ∷ xs))

-- ---- the heads of loops

range_balanced : (e : Expr) (o : Option Expr) → Balanced (range_of e o)
range_balanced e None = closed_balanced e
range_balanced e (Some step) = joins (whole e) (whole_balanced e) (more refl (closed_balanced step)) refl

kind_balanced : (k : LoopKind) → Balanced (kind_of k)
kind_balanced kind.Plain = bal.nothing
kind_balanced (kind.While e) = more refl (closed_balanced e)
kind_balanced (kind.Count var reverse low last step) =
    more refl (more refl (more refl (bal.perhaps_balanced reverse m.Reverse refl (joins (whole low) (whole_balanced low) (more refl
    (range_balanced last step)) refl))))

one_if : Bool → ℕ
one_if c = if c then 1 else 0

if_one : (c : Bool) → one_if c ≡ 0 → c ≡ false
unfolding one_if
if_one true h = absurd (omega (arith, h))
if_one false h = refl

kind_nests : (k : LoopKind) → d.loose_head k ≡ 0 → Nests (kind_of k) (depth (kind_of k))
unfolding one_if
kind_nests k h = firm (kind_of k) (kind_balanced k) (if_one (ends_open (kind_of k)) h)

-- ---- selects

items_balanced : (xs : List Item) → AllBalanced (map (λ i. item_of printing i) xs)
items_balanced [] = tt
items_balanced (x ∷ xs) = (bal.alias_balanced (printed (out-Item x).expr) (out-Item x).alias (bal.expr_balanced (out-Item x).expr), items_balanced xs)

froms_balanced : (xs : List FromItem) → AllBalanced (map (λ i. from_of printing i) xs)
froms_balanced [] = tt
froms_balanced (x ∷ xs) = (
  bal.from_item_balanced (source_of printing (out-FromItem x).source) (out-FromItem x).alias (out-FromItem x).columns (bal.source_balanced
      (out-FromItem x).source),
  froms_balanced xs,
)

keys_balanced : (xs : List Key) → AllBalanced (map (λ k. key_of printing k) xs)
keys_balanced [] = tt
keys_balanced (x ∷ xs) = (
  joins (placed l.Or (printed (out-Key x).expr)) (whole_balanced (out-Key x).expr) (bal.perhaps_balanced (out-Key x).descending m.Desc refl bal.nothing)
      (bal.perhaps_apart (out-Key x).descending m.Desc [] refl refl),
  keys_balanced xs,
)

maybe_balanced : (o : Option Expr) → BalancedOption (option_map (λ e. printed e) o)
maybe_balanced None = tt
maybe_balanced (Some e) = bal.expr_balanced e

list_balanced : (q : Select) → Balanced (list_of q)
list_balanced q = bal.with_commas_balanced (map (λ i. item_of printing i) (out-Select q).list) (items_balanced (out-Select q).list)

clauses_balanced : (q : Select) → Balanced (clauses_of q)
clauses_balanced q =
    bal.clauses_balanced (map (λ i. from_of printing i) (out-Select q).from) (option_map (λ e. printed e) (out-Select q).filter) (map
    (λ k. key_of printing k) (out-Select q).order)
    (option_map (λ e. printed e) (out-Select q).limit) (froms_balanced (out-Select q).from) (maybe_balanced (out-Select q).filter) (keys_balanced
    (out-Select q).order)
    (maybe_balanced (out-Select q).limit)

-- what is balanced before what begins with no IF, LOOP or CASE
behind : (xs : List Terminal) {ys : List Terminal} {n : ℕ} → Balanced xs → ((rest : List Terminal) → begins (ys ++ rest) ≡ false) → Nests ys n
    → Nests (xs ++ ys) (max (depth xs) n)
behind xs {ys} {n} h free k = record {
  is = λ rest. ap (λ u. depth u) (append_assoc xs ys rest)
      ∙ (depth_joins xs (ys ++ rest) h (free rest) ∙ (ap (λ c. max (depth xs) c) (k.is rest) ∙ omega arith));
}

names_flat : (ns : List (List ℕ)) → Flat (names_terminals ns)
names_flat [] = flat_end
names_flat (n ∷ []) = flat_more refl flat_end
names_flat (n ∷ k ∷ ns) = flat_more refl (flat_more refl (names_flat (k ∷ ns)))

strict_nests : (c : Bool) {xs : List Terminal} {n : ℕ} → Nests xs n → Nests (perhaps c (mark m.Strict) xs) n
strict_nests true h = one (mark m.Strict) refl h
strict_nests false h = h

into_nests : (strict : Bool) (targets : List (List ℕ × Option ℕ)) (q : Select) → Nests (statement_terminals (b.Into strict targets q)) (select_depth q)
into_nests strict targets q =
    as_deep (omega arith) (one (mark m.Select) refl (behind (list_of q) (list_balanced q) (λ rest. refl) (one (mark m.Into) refl (strict_nests strict
    (then_ (names_terminals (target_names targets)) (flat (names_flat (target_names targets))) (behind (clauses_of q) (clauses_balanced q)
    (λ rest. refl) end_here))))))

-- ---- statements

label_flat : (o : Option (List ℕ)) → Flat (label_of o)
label_flat None = flat_end
label_flat (Some n) = flat_more refl (flat_more refl (flat_more refl flat_end))

end_block : (o : Option (List ℕ)) → ClosesOne (mark m.End ∷ (name_of o ++ semicolon))
end_block None = record { is = λ rest. refl }
end_block (Some n) = record { is = λ rest. refl }

end_if : ClosesOne (mark m.End ∷ mark m.If ∷ semicolon)
end_if = record { is = λ rest. omega arith }

end_case : ClosesOne (mark m.End ∷ mark m.Case ∷ semicolon)
end_case = record { is = λ rest. omega arith }

end_loop : (o : Option (List ℕ)) → ClosesOne (mark m.End ∷ mark m.Loop ∷ (name_of o ++ semicolon))
end_loop None = record { is = λ rest. omega arith }
end_loop (Some n) = record { is = λ rest. omega arith }

condition_nests : (o : Option Expr) → Nests (condition_of o ++ semicolon) (depth (condition_of o))
condition_nests None = end_here
condition_nests (Some e) = one (mark m.When) refl (ended e)

exit_nests : (label : Option (List ℕ)) (when : Option Expr) → Nests (name_of label ++ (condition_of when ++ semicolon)) (depth (condition_of when))
exit_nests None when = condition_nests when
exit_nests (Some n) when = one (name n) refl (condition_nests when)

raised_nests : (r : Raised) → Nests (f.raised_of r ++ semicolon) 0
raised_nests (raised.Message z) = one (string z) refl end_here
raised_nests (raised.State z) = one (name (codes "SQLSTATE")) refl (one (string z) refl end_here)

left_zero : (a c : ℕ) → max a c ≡ 0 → a ≡ 0
left_zero a c h = omega (arith, h)

right_zero : (a c : ℕ) → max a c ≡ 0 → c ≡ 0
right_zero a c h = omega (arith, h)

mutual
  pub statement_nests : (s : Stmt) → stmt_of loosening s ≡ 0 → Nests (statement_terminals s) (nested s)
  statement_nests (b.Block' label decls s body closing) h =
      as_deep (omega arith) (then_ (label_of label) (flat (label_flat label)) (then_ (decls_of decls) (decls_nests decls)
      (opened (mark m.Begin) (in_order (stmts_of printing_statements body)) (λ before k. refl) (rows_nest body h) (end_block closing))))
  statement_nests (b.Assign n slot e) h = one (name n) refl (one (mark m.Assign) refl (as_deep (omega arith) (ended e)))
  statement_nests (b.If' s arms other) h =
      let xs = joined (mark m.Elsif ∷ []) (branches_of printing_statements arms) in
      let ys = f.else_of (else_of printing_statements other) in
      let a = most (branches_of loosening arms) in
      let c = d.else_depth (else_of loosening other) in
      subst (λ u. Nests (mark m.If ∷ u) (nested (b.If' s arms other))) (append_assoc xs ys (mark m.End ∷ mark m.If ∷ semicolon))
      (opened (mark m.If) (xs ++ ys) (λ before k. refl) (then_ xs (arms_nest (mark m.Elsif) refl arms (left_zero a c h)) (else_nests other
      (right_zero a c h))) end_if)
  statement_nests (b.Cases' s arms other) h =
      let xs = joined (mark m.When ∷ []) (branches_of printing_statements arms) in
      let ys = f.else_of (else_of printing_statements other) in
      let a = most (branches_of loosening arms) in
      let c = d.else_depth (else_of loosening other) in
      subst (λ u. Nests (mark m.Case ∷ mark m.When ∷ u) (nested (b.Cases' s arms other))) (append_assoc xs ys (mark m.End ∷ mark m.Case ∷ semicolon))
      (opened (mark m.Case) (mark m.When ∷ (xs ++ ys)) (λ before k. refl)
      (one (mark m.When) refl (then_ xs (arms_nest (mark m.When) refl arms (left_zero a c h)) (else_nests other (right_zero a c h)))) end_case)
  statement_nests (b.Loop' label k s body closing) h =
      as_deep (omega arith) (then_ (label_of label) (flat (label_flat label))
      (then_ (kind_of k) (kind_nests k (left_zero (d.loose_head k) (most (stmts_of loosening body)) h))
      (opened (mark m.Loop) (in_order (stmts_of printing_statements body)) (λ before k. refl) (rows_nest body (right_zero (d.loose_head k) (most
      (stmts_of loosening body)) h)) (end_loop closing))))
  statement_nests (b.Exit label when) h = one (mark m.Exit) refl (exit_nests label when)
  statement_nests (b.Continue label when) h = one (mark m.Continue) refl (exit_nests label when)
  statement_nests (b.Return e) h = one (mark m.Return) refl (as_deep (omega arith) (ended e))
  statement_nests (b.Raise r) h = one (mark m.Raise) refl (one (name (codes "EXCEPTION")) refl (raised_nests r))
  statement_nests (b.Into strict targets q) h = into_nests strict targets q
  statement_nests b.Nothing h = one (mark m.Null) refl end_here

  rows_nest : {n : _} (r : b.Row_of-Stmt n) → most (stmts_of loosening r) ≡ 0 → Nests (in_order (stmts_of printing_statements r)) (most (stmts_of N r))
  rows_nest b.end_of-Stmt h = none
  rows_nest (b.more_of-Stmt s rest) h =
      then_ (statement_terminals s) (statement_nests s (left_zero (stmt_of loosening s) (most (stmts_of loosening rest)) h)) (rows_nest rest (right_zero
      (stmt_of loosening s) (most (stmts_of loosening rest)) h))

  arms_nest : {n : _} (between : Terminal) → role between ≡ Stays → (r : b.Row_of-Arm n) → most (branches_of loosening r) ≡ 0
      → Nests (joined (between ∷ []) (branches_of printing_statements r)) (most (branches_of N r))
  arms_nest between stays b.end_of-Arm h = none
  arms_nest between stays (b.more_of-Arm test s body b.end_of-Arm) h =
      as_deep (omega arith) (before test (λ rest. refl) (one (mark m.Then) refl (rows_nest body (left_zero (most (stmts_of loosening body)) 0 h))))
  arms_nest between stays (b.more_of-Arm test s body (b.more_of-Arm test2 s2 body2 rest)) h =
      let a = most (stmts_of loosening body) in
      let c = most (branches_of loosening (b.more_of-Arm test2 s2 body2 rest)) in
      then_ (whole test ++ mark m.Then ∷ in_order (stmts_of printing_statements body)) (before test (λ rest. refl) (one (mark m.Then) refl (rows_nest body
      (left_zero a c h))))
      (one between stays (arms_nest between stays (b.more_of-Arm test2 s2 body2 rest) (right_zero a c h)))

  else_nests : (o : b.Held-Stmt-If-1) → d.else_depth (else_of loosening o) ≡ 0 → Nests (f.else_of (else_of printing_statements o)) (d.else_depth (else_of N o))
  else_nests b.None' h = none
  else_nests (b.Some' s body) h = one (mark m.Else) refl (rows_nest body h)
