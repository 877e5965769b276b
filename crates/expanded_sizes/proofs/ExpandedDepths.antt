-- A body in which calls are expanded nests as deep as its parts say.
use Rattle.std.proofs.Common.{◌≡◌, refl, ap, ◌∙◌, ℕ, zero, suc, ◌+◌, max, Bool, true, false, List, [], ◌∷◌, ◌++◌, length, map, Option, Some, None, append_assoc, arith}
use Rattle.away_values.specs.declared.types.Ty.{Ty}
use Rattle.away_trees.specs.declared.queries.Expr.{Expr}
use Rattle.away_trees.specs.declared.queries.Expr.TheBlock as b
use Rattle.away_trees.specs.declared.statements.Decl.{Decl}
use Rattle.away_trees.specs.declared.statements.Function.{Function}
use Rattle.away_trees.specs.declared.statements.Stmt.{Stmt}
use Rattle.away_trees.specs.declared.statements.Stmt.TheVariants as stmt
use Rattle.away_trees.specs.StatementAlgebra.{StatementAlgebra, stmt_of}
use Rattle.away_trees.specs.StatementEquations.{StatementSteps, statement_algebra}
use Rattle.away_trees.proofs.StatementEquations.{of_block, of_if}
use Rattle.away_trees.proofs.Equations as eq
use Rattle.away_grammar.specs.declared.grammar.Level.TheVariants as l
use Rattle.away_grammar.specs.Terminals.{Terminal}
use Rattle.away_grammar.specs.Printing.{links_terminals, placed, printed, printing}
use Rattle.away_names.specs.declared.scope.Variable.{Variable}
use Rattle.away_names.specs.Lookups.{Name}
use Rattle.call_meaning.specs.Calls.{Called}
use Rattle.call_expand.specs.declared.made.Made.{Made}
use Rattle.call_expand.specs.declared.made.Back.{Back}
use Rattle.call_expand.specs.declared.made.Back.TheVariants.{Whole, Into}
use Rattle.call_expand.specs.declared.made.Seen.{Seen}
use Rattle.call_expand.specs.Moving as mv
use Rattle.call_expand.specs.Moving.{By}
use Rattle.call_expand.specs.Expanding as e
use Rattle.call_expand.specs.Expanding.{call_place, function_at, names_of}
use Rattle.moved_names.specs.Renamed.{name_at, moved}
use Rattle.function_printer.specs.FunctionTerminals.{decl_of, decls_of, in_order, semicolon, whole}
use Rattle.expanded_sizes.specs.Depths as d
use Rattle.expanded_sizes.specs.Depths.{around_return, call_depth, depth, expanded_depth, expr_depth, given_depth, most, most_by, place_depth, role, strict_depth}
use Rattle.expanded_sizes.specs.declared.depths.Role.TheVariants.{Stays}
use Rattle.expanded_sizes.proofs.Balanced.{depth_joins, whole_balanced}
use Rattle.expanded_sizes.proofs.ExpandedWeights.{is_inside}
use Rattle.expanded_sizes.proofs.Moved.{Agree, moved_same}
use Rattle.expanded_sizes.proofs.PartsSame.{condition_depth, decls_depth, kind_depth, select_same_depth, without_declare}
use Rattle.expanded_sizes.proofs.SameDepths.{renamed_depth}

-- ---- lists

pub most_joined : {A : Type 0} (f : A → ℕ) (xs ys : List A) → most (map f (xs ++ ys)) ≡ max (most (map f xs)) (most (map f ys))
most_joined f [] ys = omega arith
most_joined f (x ∷ xs) ys = ap (λ n. max (f x) n) (most_joined f xs ys) ∙ omega arith

-- ---- the test of a STRICT function opens nothing but its IF

pub data Flat : List Terminal → Type 0 where
  flat_end : Flat []
  flat_more : {s : Terminal} {ss : List Terminal} → role s ≡ Stays → Flat ss → Flat (s ∷ ss)

pub flat_joins : (xs : List Terminal) {ys : List Terminal} → Flat xs → Flat ys → Flat (xs ++ ys)
flat_joins [] flat_end k = k
flat_joins (x ∷ xs) (flat_more h f) k = flat_more h (flat_joins xs f k)

pub flat_depth : {xs : List Terminal} → Flat xs → depth xs ≡ 0
flat_depth flat_end = refl
flat_depth (flat_more {s} {ss} h f) = ap (λ r. d.counted (d.begins ss) r (depth ss)) h ∙ flat_depth f

module _ (names : List Name) where
  null_flat : (k : ℕ) → Flat (placed l.And (printed (e.is_null names k)))
  unfolding b.hidden-the_row-Expr-0 denote.Hole.Carrier.hidden
  null_flat k = flat_more refl (flat_more refl (flat_more refl flat_end))

  nulls_flat : (n k : ℕ) → Flat (links_terminals l.Or (map (λ x. eq.link_of printing x) (e.further_nulls names n k)))
  nulls_flat zero k = flat_end
  nulls_flat (suc n) k = flat_more refl (flat_joins (placed l.And (printed (e.is_null names k))) (null_flat k) (nulls_flat n (suc k)))

  one_depth : (k : ℕ) → expr_depth (e.is_null names k) ≡ 0
  unfolding b.hidden-the_row-Expr-0 denote.Hole.Carrier.hidden
  one_depth k = refl

  among_depth : (n k : ℕ) → expr_depth (e.null_among names n k) ≡ 0
  among_depth zero k = one_depth k
  among_depth (suc n) k =
      ap (λ p. depth (placed l.Or p)) (eq.of_chain printing (e.is_null names k) (e.further_nulls names (suc n) (suc k)))
      ∙ flat_depth (flat_joins (placed l.And (printed (e.is_null names k))) (null_flat k) (nulls_flat (suc n) (suc k)))

-- how deep a statement nests in which no call stands
abbrev pub steps : StatementSteps ℕ ℕ
steps = record { stmt = d.statement expr_depth expr_depth; arm = d.branch expr_depth expr_depth }

abbrev pub N : StatementAlgebra
N = statement_algebra steps

abbrev pub nested : Stmt → ℕ
nested s = stmt_of N s

-- ---- blocks that are made

strict_nests : (names : List Name) (strict : Bool) (n k : ℕ) (end : Stmt) → nested end ≡ 0
    → most (map (λ s. stmt_of N s) (e.strict_test names strict n k end)) ≡ strict_depth strict n
strict_nests names false n k end is = refl
strict_nests names true zero k end is = refl
strict_nests names true (suc n) k end is =
    let form = of_if N (record { test = e.null_among names n k; body = end ∷ [] } ∷ []) None in
    ap (λ u. max u 0) form ∙ ((λ i. max (max (max (max (among_depth names n k i) (max (is i) 0)) 0) 0 + 1) 0) ∙ omega arith)

back_nests : (names : List Name) (back : Back) (x : Expr) → nested (e.returned_by names back x) ≡ expr_depth x + around_return (is_inside back)
back_nests names Whole x = omega arith
back_nests names (Into r k) x =
    of_block N None [] (stmt.Assign (name_at names r) None x ∷ stmt.Exit (Some (name_at names k)) None ∷ []) None ∙ omega arith

module _ (names : List Name) (variables : List Variable) where
  -- the parameters of a call with its arguments
  given_nests : (k : ℕ) (ps : List (Name × Ty)) (args : List Expr)
      → depth (in_order (map (λ x. decl_of x) (e.arguments names variables k ps args))) ≡ given_depth (length ps) args
  given_nests k [] args = refl
  given_nests k (p ∷ ps) [] = refl
  given_nests k (p ∷ ps) (a ∷ args) =
      let rest = in_order (map (λ x. decl_of x) (e.arguments names variables (suc k) ps args)) in
      let x = mv.moved_expr names variables a in
      ap (λ u. depth u) (append_assoc (whole x) semicolon rest)
      ∙ (depth_joins (whole x) (semicolon ++ rest) (whole_balanced x) refl
      ∙ (λ i. max (renamed_depth (moved names variables) a i) (given_nests (suc k) ps args i)))

-- the parts of the block that a call becomes
block_nests : (total block within test body end given tested inner tail declared params : ℕ) → total ≡ max declared (max block (max end 0) + 1)
    → declared ≡ 0 → block ≡ max params (within + 1)
    → within ≡ max test (max body (max 0 0)) → params ≡ given → test ≡ tested → body ≡ inner → end ≡ tail
    → total ≡ max (max given (max tested inner + 1)) tail + 1
block_nests total block within test body end given tested inner tail declared params outer none inside parts as_deep is called ends =
    omega (arith, outer, none, inside, parts, as_deep, is, called, ends)

call_nests : (names : List Name) (g : Function) (params : List Decl) (k given : ℕ) (body : Made Stmt) (inner tail : ℕ) (end : Stmt)
    → depth (decls_of params) ≡ given → nested body.it ≡ inner → nested end ≡ tail
    → nested (e.call_block names g params k body end).it ≡ max (max given (max (strict_depth g.strict (length g.params)) inner + 1)) tail + 1
call_nests names g params k given body inner tail end as_deep is ends =
    let label = Some (name_at names (suc k)) in
    let test = e.strict_test names g.strict (length g.params) (suc (suc k)) (stmt.Exit label None) in
    let within = test ++ (body.it ∷ e.falls_off ∷ []) in
    let block : Stmt = stmt.Block label params within None in
    block_nests (nested (e.call_block names g params k body end).it) (nested block) (most (map (λ s. stmt_of N s) within)) (most (map (λ s. stmt_of N s) test))
    (nested body.it) (nested end) given (strict_depth g.strict (length g.params)) inner tail (depth (decls_of (e.plain_decl names k g.result None ∷ [])))
    (depth (decls_of params))
    (of_block N None (e.plain_decl names k g.result None ∷ []) (block ∷ end ∷ []) None) refl (of_block N label params within None)
    (most_joined (λ s. stmt_of N s) test (body.it ∷ e.falls_off ∷ [])) as_deep
    (strict_nests names g.strict (length g.params) (suc (suc k)) (stmt.Exit label None) refl) is ends

-- ---- all bodies

module _ (names : List Name) (fs : List Function) (calls : ℕ) (deeper : (i : ℕ) (back : Back) (seen : Seen) (k : ℕ)
    → nested (e.expanded_body names fs calls i back seen k).it ≡ expanded_depth fs calls (is_inside back) i) where
  place_nests : (o : Option Called) (x : Expr) (goes_on : Expr → Stmt) (tail : ℕ) (seen : Seen) (k : ℕ) → ((y : Expr)
      → nested (goes_on y) ≡ expr_depth y + tail)
      → nested (e.placed names fs (e.expanded_body names fs calls) o x goes_on seen k).it ≡ place_depth fs (expanded_depth fs calls true) tail x o
  place_nests None x goes_on tail seen k is = is (mv.moved_expr names seen.variables x) ∙ ap (λ n. n + tail) (renamed_depth (moved names seen.variables) x)
  place_nests (Some c) x goes_on tail seen k is =
      let g = function_at fs c.part in
      let params = e.arguments names seen.variables (suc (suc k)) g.params c.args in
      call_nests names g params k (given_depth (length g.params) c.args)
      (e.expanded_body names fs calls c.part (Into k (suc k)) (mv.seeing_params (suc (suc k)) g.params) (e.behind_params names k g))
      (expanded_depth fs calls true c.part) tail (goes_on (e.variable names k))
      (without_declare names params ∙ given_nests names seen.variables (suc (suc k)) g.params c.args)
      (deeper c.part (Into k (suc k)) (mv.seeing_params (suc (suc k)) g.params) (e.behind_params names k g)) (is (e.variable names k) ∙ omega arith)

  abbrev placed_steps : Bool → StatementSteps ℕ ℕ
  placed_steps inside = record {
    stmt = d.statement (λ x. place_depth fs (expanded_depth fs calls true) 0 x (call_place (names_of fs) x))
        (λ x. place_depth fs (expanded_depth fs calls true) (around_return inside) x (call_place (names_of fs) x));
    arm = d.branch (λ x. place_depth fs (expanded_depth fs calls true) 0 x (call_place (names_of fs) x))
        (λ x. place_depth fs (expanded_depth fs calls true) (around_return inside) x (call_place (names_of fs) x));
  }

  agree : (back : Back) → Agree names steps (placed_steps (is_inside back)) (e.assigned names fs (e.expanded_body names fs calls))
      (e.returned names fs (e.expanded_body names fs calls) back)
  agree back = record {
    block = λ label k decls variables at xs closing c. ap (λ n. max n (most xs + 1)) (decls_depth names decls variables at);
    assign = λ n slot x seen k. place_nests (call_place (names_of fs) x) x (λ y. stmt.Assign (moved names seen.variables n) None y) 0 seen k (λ y. omega arith);
    if_ = λ xs other. refl;
    cases = λ xs other. refl;
    loop = λ label k head seen at xs closing c. ap (λ n. max n (most xs + 1)) (kind_depth names head seen at);
    exit = λ label k variables when. condition_depth names variables when;
    continue = λ label k variables when. condition_depth names variables when;
    return = λ x seen k. place_nests (call_place (names_of fs) x) x (e.returned_by names back) (around_return (is_inside back)) seen k (back_nests names back);
    raise = λ r. refl;
    into = λ strict targets variables query. select_same_depth (moved names variables) query;
    nothing = refl;
    arm = λ test variables xs. ap (λ n. max n (most xs)) (renamed_depth (moved names variables) test);
  }

pub body_nests : (names : List Name) (fs : List Function) (calls i : ℕ) (back : Back) (seen : Seen) (k : ℕ)
    → nested (e.expanded_body names fs calls i back seen k).it ≡ expanded_depth fs calls (is_inside back) i
body_nests names fs zero i back seen k = refl
body_nests names fs (suc calls) i back seen k =
    let deeper = body_nests names fs calls in
    moved_same names steps (placed_steps names fs calls deeper (is_inside back)) (e.assigned names fs (e.expanded_body names fs calls))
    (e.returned names fs (e.expanded_body names fs calls) back) (agree names fs calls deeper back) (function_at fs i).body seen k
