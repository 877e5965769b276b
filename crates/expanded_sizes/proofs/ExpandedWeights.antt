-- A body in which calls are expanded weighs what its parts do.
use Rattle.std.proofs.Common.{◌≡◌, refl, sym, ap, ◌∙◌, ℕ, zero, suc, ◌+◌, ◌*◌, Bool, true, false, List, [], ◌∷◌, ◌++◌, fold, length, map, min, sum, Option, Some, None, arith}
use Rattle.std.proofs.lemmas.List.Sums.{sum_by-cons}
use Rattle.away_values.specs.declared.types.Ty.{Ty}
use Rattle.away_trees.specs.declared.queries.Expr.{Expr}
use Rattle.away_trees.specs.declared.statements.Decl.{Decl}
use Rattle.away_trees.specs.declared.statements.Function.{Function}
use Rattle.away_trees.specs.declared.statements.LoopKind.{LoopKind}
use Rattle.away_trees.specs.declared.statements.LoopKind.TheVariants as kind
use Rattle.away_trees.specs.declared.statements.Stmt.{Stmt}
use Rattle.away_trees.specs.declared.statements.Stmt.TheVariants as stmt
use Rattle.away_trees.specs.StatementAlgebra.{StatementAlgebra, stmt_of}
use Rattle.away_trees.specs.StatementEquations.{StatementSteps, statement_algebra}
use Rattle.away_trees.proofs.StatementEquations.{of_block, of_if}
use Rattle.away_names.specs.declared.scope.Variable.{Variable}
use Rattle.away_names.specs.Lookups.{Name}
use Rattle.call_meaning.specs.Calls.{Called}
use Rattle.call_expand.specs.declared.made.Made.{Made}
use Rattle.call_expand.specs.declared.made.Back.{Back}
use Rattle.call_expand.specs.declared.made.Back.TheVariants.{Whole, Into}
use Rattle.call_expand.specs.declared.made.Declared.{Declared}
use Rattle.call_expand.specs.declared.made.Seen.{Seen}
use Rattle.call_expand.specs.Moving as m
use Rattle.call_expand.specs.Moving.{By}
use Rattle.call_expand.specs.Expanding as e
use Rattle.call_expand.specs.Expanding.{call_place, function_at, names_of}
use Rattle.moved_names.specs.Renamed.{name_at, moved}
use Rattle.expanded_sizes.specs.Sizes as sizes
use Rattle.expanded_sizes.specs.Sizes.{expanded_weight, of_place, of_return, of_strict_test}
use Rattle.expanded_sizes.specs.declared.weights.Weights.{Weights}
use Rattle.expanded_sizes.proofs.Moved.{Agree, moved_same}

-- whether a body is a callee's
abbrev pub is_inside : Back → Bool
is_inside Whole = false
is_inside (Into r l) = true

-- ---- lists

sum_joined : {A : Type 0} (f : A → ℕ) (xs ys : List A) → sum (map f (xs ++ ys)) ≡ sum (map f xs) + sum (map f ys)
sum_joined f [] ys = omega arith
sum_joined f (x ∷ xs) ys =
    let all = sum_by-cons (λ n. n) (f x) (map f (xs ++ ys)) in
    let some = sum_by-cons (λ n. n) (f x) (map f xs) in
    all ∙ (ap (λ n. f x + n) (sum_joined f xs ys) ∙ (omega arith ∙ ap (λ n. n + sum (map f ys)) (sym some)))

one_longer : {A : Type 0} (xs : List A) (x : A) → length (xs ++ x ∷ []) ≡ length xs + 1
one_longer [] x = refl
one_longer (y ∷ ys) x = let more = one_longer ys x in omega (arith, more)

targets_as_many : (to : Name × Option ℕ → Name × Option ℕ) (xs : List (Name × Option ℕ)) → length (map to xs) ≡ length xs
targets_as_many to [] = refl
targets_as_many to (x ∷ xs) = ap (λ n. suc n) (targets_as_many to xs)

decls_from : (names : List Name) (ds : List Decl) (a : Declared) → length (fold (m.with_decl names) a ds).it ≡ length a.it + length ds
decls_from names [] a = omega arith
decls_from names (d ∷ ds) a =
    let more = decls_from names ds (m.with_decl names a d) in
    let one = one_longer a.it (m.moved_decl names a.variables a.next d) in
    omega (arith, more, one)

pub decls_as_many : (names : List Name) (ds : List Decl) (variables : List Variable) (k : ℕ) → length (m.moved_decls names ds variables k).it ≡ length ds
decls_as_many names ds variables k = let all = decls_from names ds (record { it = []; variables = variables; next = k }) in omega (arith, all)

arguments_as_many : (names : List Name) (variables : List Variable) (k : ℕ) (ps : List (Name × Ty)) (args : List Expr)
    → length (e.arguments names variables k ps args) ≡ min (length ps) (length args)
arguments_as_many names variables k [] args = omega arith
arguments_as_many names variables k (p ∷ ps) [] = omega arith
arguments_as_many names variables k (p ∷ ps) (a ∷ args) = let more = arguments_as_many names variables (suc k) ps args in omega (arith, more)

-- the parts of the block that a call becomes
block_sum : (total block within test body end st dec n given tested inner tail : ℕ) → total ≡ st + (1 * dec + (0 + block + end))
    → block ≡ st + (n * dec + within)
    → within ≡ test + (0 + body + st) → n ≡ given → test ≡ tested → body ≡ inner → end ≡ tail
    → total ≡ st + dec + st + st + given * dec + tested + inner + tail
block_sum total block within test body end st dec n given tested inner tail outer inside parts as_many is called ends =
    let count : n * dec ≡ given * dec = ap (λ k. k * dec) as_many in
    omega (arith, outer, inside, parts, count, is, called, ends)

module _ (w : Weights) where
  plain : Expr → ℕ
  plain e = w.statement

  -- what a statement weighs in which no call stands
  abbrev pub steps : StatementSteps ℕ ℕ
  steps = record { stmt = sizes.statement w (λ x. w.statement) (λ x. w.statement); arm = sizes.branch w (λ x. w.statement) (λ x. w.statement) }

  abbrev W : StatementAlgebra
  W = statement_algebra steps

  abbrev pub weight : Stmt → ℕ
  weight s = stmt_of W s

  -- ---- blocks that are made

  strict_weight : (names : List Name) (strict : Bool) (n k : ℕ) (end : Stmt) → weight end ≡ w.statement
      → sum (map (λ s. stmt_of W s) (e.strict_test names strict n k end)) ≡ of_strict_test w strict n
  strict_weight names false n k end is = refl
  strict_weight names true zero k end is = refl
  strict_weight names true (suc n) k end is =
      let form = of_if W (record { test = e.null_among names n k; body = end ∷ [] } ∷ []) None in
      omega (arith, form, is)

  back_weight : (names : List Name) (back : Back) (x : Expr) → weight (e.returned_by names back x) ≡ of_return w (is_inside back)
  back_weight names Whole x = refl
  back_weight names (Into r l) x =
      of_block W None [] (stmt.Assign (name_at names r) None x ∷ stmt.Exit (Some (name_at names l)) None ∷ []) None ∙ omega arith

  block_weight : (names : List Name) (g : Function) (params : List Decl) (k given : ℕ) (body : Made Stmt) (inner tail : ℕ) (end : Stmt)
      → length params ≡ given → weight body.it ≡ inner → weight end ≡ tail
      → weight (e.call_block names g params k body end).it ≡ sizes.of_frame w g.strict (length g.params) given + inner + tail
  block_weight names g params k given body inner tail end as_many is ends =
      let l = Some (name_at names (suc k)) in
      let test = e.strict_test names g.strict (length g.params) (suc (suc k)) (stmt.Exit l None) in
      let within = test ++ (body.it ∷ e.falls_off ∷ []) in
      let block : Stmt = stmt.Block l params within None in
      block_sum (weight (e.call_block names g params k body end).it) (weight block) (sum (map (λ s. stmt_of W s) within)) (sum (map (λ s. stmt_of W s) test))
      (weight body.it) (weight end) w.statement w.declaration (length params) given (of_strict_test w g.strict (length g.params)) inner tail
      (of_block W None (e.plain_decl names k g.result None ∷ []) (block ∷ end ∷ []) None) (of_block W l params within None)
      (sum_joined (λ s. stmt_of W s) test (body.it ∷ e.falls_off ∷ [])) as_many
      (strict_weight names g.strict (length g.params) (suc (suc k)) (stmt.Exit l None) refl) is ends

  -- ---- all bodies

  head_weight : (names : List Name) (head : LoopKind) (seen : Seen) (k : ℕ) → sizes.of_kind w (m.moved_head names head seen k) ≡ sizes.of_kind w head
  head_weight names kind.Plain seen k = refl
  head_weight names (kind.While x) seen k = refl
  head_weight names (kind.Count var reverse first last step) seen k = refl

  module _ (names : List Name) (fs : List Function) (depth : ℕ) (deeper : (i : ℕ) (back : Back) (seen : Seen) (k : ℕ)
      → weight (e.expanded_body names fs depth i back seen k).it ≡ expanded_weight w fs depth (is_inside back) i) where
    place_weight : (o : Option Called) (x : Expr) (goes_on : Expr → Stmt) (tail : ℕ) (seen : Seen) (k : ℕ) → ((y : Expr) → weight (goes_on y) ≡ tail)
        → weight (e.placed names fs (e.expanded_body names fs depth) o x goes_on seen k).it ≡ of_place w fs (expanded_weight w fs depth true) tail o
    place_weight None x goes_on tail seen k is = is (m.moved_expr names seen.variables x)
    place_weight (Some c) x goes_on tail seen k is =
        let g = function_at fs c.part in
        let params = e.arguments names seen.variables (suc (suc k)) g.params c.args in
        block_weight names g params k (min (length g.params) (length c.args))
        (e.expanded_body names fs depth c.part (Into k (suc k)) (m.seeing_params (suc (suc k)) g.params) (e.behind_params names k g))
        (expanded_weight w fs depth true c.part) tail (goes_on (e.variable names k)) (arguments_as_many names seen.variables (suc (suc k)) g.params c.args)
        (deeper c.part (Into k (suc k)) (m.seeing_params (suc (suc k)) g.params) (e.behind_params names k g)) (is (e.variable names k))

    abbrev placed_steps : Bool → StatementSteps ℕ ℕ
    placed_steps inside = record {
      stmt = sizes.statement w (λ x. of_place w fs (expanded_weight w fs depth true) w.statement (call_place (names_of fs) x))
          (λ x. of_place w fs (expanded_weight w fs depth true) (of_return w inside) (call_place (names_of fs) x));
      arm = sizes.branch w (λ x. of_place w fs (expanded_weight w fs depth true) w.statement (call_place (names_of fs) x))
          (λ x. of_place w fs (expanded_weight w fs depth true) (of_return w inside) (call_place (names_of fs) x));
    }

    agree : (back : Back) → Agree names steps (placed_steps (is_inside back)) (e.assigned names fs (e.expanded_body names fs depth))
        (e.returned names fs (e.expanded_body names fs depth) back)
    agree back = record {
      block = λ label l decls variables k xs closing c. ap (λ n. w.statement + (n * w.declaration + sum xs)) (decls_as_many names decls variables k);
      assign = λ n slot x seen k. place_weight (call_place (names_of fs) x) x (λ y. stmt.Assign (moved names seen.variables n) None y) w.statement seen k
          (λ y. refl);
      if_ = λ xs other. refl;
      cases = λ xs other. refl;
      loop = λ label l head seen k xs closing c. ap (λ n. w.statement + (n + sum xs)) (head_weight names head seen k);
      exit = λ label l variables when. refl;
      continue = λ label l variables when. refl;
      return = λ x seen k. place_weight (call_place (names_of fs) x) x (e.returned_by names back) (of_return w (is_inside back)) seen k
          (back_weight names back);
      raise = λ r. refl;
      into = λ strict targets variables query. ap (λ n. w.statement + n * w.target) (targets_as_many (m.moved_target names variables) targets);
      nothing = refl;
      arm = λ test variables xs. refl;
    }

  pub body_weighs : (names : List Name) (fs : List Function) (depth i : ℕ) (back : Back) (seen : Seen) (k : ℕ)
      → weight (e.expanded_body names fs depth i back seen k).it ≡ expanded_weight w fs depth (is_inside back) i
  body_weighs names fs zero i back seen k = refl
  body_weighs names fs (suc depth) i back seen k =
      let deeper = body_weighs names fs depth in
      moved_same names steps (placed_steps names fs depth deeper (is_inside back)) (e.assigned names fs (e.expanded_body names fs depth))
      (e.returned names fs (e.expanded_body names fs depth) back) (agree names fs depth deeper back) (function_at fs i).body seen k
