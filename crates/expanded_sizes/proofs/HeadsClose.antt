-- No head of a loop ends with END in a function in which calls are expanded, where none does in the functions of the program.
use Rattle.std.proofs.Common.{◌≡◌, refl, sym, ap, ◌∙◌, ℕ, zero, suc, max, Bool, true, false, if◌then◌else◌, List, [], ◌∷◌, ◌++◌, length, map, Option, Some, None, arith}
use Rattle.away_trees.specs.declared.queries.Expr.{Expr}
use Rattle.away_trees.specs.declared.statements.Decl.{Decl}
use Rattle.away_trees.specs.declared.statements.Function.{Function}
use Rattle.away_trees.specs.declared.statements.LoopKind.{LoopKind}
use Rattle.away_trees.specs.declared.statements.Stmt.{Stmt}
use Rattle.away_trees.specs.declared.statements.Stmt.TheVariants as stmt
use Rattle.away_trees.specs.StatementAlgebra.{StatementAlgebra, stmt_of}
use Rattle.away_trees.specs.StatementEquations.{StatementSteps, statement_algebra}
use Rattle.away_trees.proofs.StatementEquations.{of_block, of_if}
use Rattle.away_grammar.specs.Terminals.{Terminal}
use Rattle.away_names.specs.Lookups.{Name}
use Rattle.call_meaning.specs.Calls.{Called}
use Rattle.call_expand.specs.declared.made.Made.{Made}
use Rattle.call_expand.specs.declared.made.Back.{Back}
use Rattle.call_expand.specs.declared.made.Back.TheVariants.{Whole, Into}
use Rattle.call_expand.specs.declared.made.Seen.{Seen}
use Rattle.call_expand.specs.Moving as mv
use Rattle.call_expand.specs.Expanding as e
use Rattle.call_expand.specs.Expanding.{call_place, function_at, names_of}
use Rattle.moved_names.specs.Renamed.{name_at, moved}
use Rattle.function_printer.specs.FunctionTerminals.{kind_of}
use Rattle.expanded_sizes.specs.Depths.{HeadsClose, ends_open, is_end, loose_branch, loose_head, loose_statement, most}
use Rattle.expanded_sizes.specs.declared.depths.Role.{Role}
use Rattle.expanded_sizes.proofs.ExpandedDepths.{most_joined}
use Rattle.expanded_sizes.proofs.Moved.{Agree, moved_same}
use Rattle.expanded_sizes.proofs.PartsSame.{kind_same}
use Rattle.expanded_sizes.proofs.SameRoles.{Same, roles}

-- ---- the last terminal by its role

abbrev ends_by : List Role → Bool
ends_by [] = false
ends_by (r ∷ []) = is_end r
ends_by (r ∷ s ∷ rs) = ends_by (s ∷ rs)

ends_is : (xs : List Terminal) → ends_open xs ≡ ends_by (roles xs)
ends_is [] = refl
ends_is (x ∷ []) = refl
ends_is (x ∷ y ∷ xs) = ends_is (y ∷ xs)

ends_same : (xs ys : List Terminal) → Same xs ys → ends_open xs ≡ ends_open ys
ends_same xs ys h = ends_is xs ∙ (ap (λ rs. ends_by rs) h.is ∙ sym (ends_is ys))

one_if : Bool → ℕ
one_if c = if c then 1 else 0

head_same : (names : List Name) (head : LoopKind) (seen : Seen) (k : ℕ) → loose_head (mv.moved_head names head seen k) ≡ loose_head head
unfolding one_if
head_same names head seen k = ap one_if (ends_same (kind_of (mv.moved_head names head seen k)) (kind_of head) (kind_same names head seen k))

-- ---- blocks that are made

abbrev steps : StatementSteps ℕ ℕ
steps = record { stmt = loose_statement; arm = loose_branch }

abbrev L : StatementAlgebra
L = statement_algebra steps

abbrev loose : Stmt → ℕ
loose s = stmt_of L s

strict_closes : (names : List Name) (strict : Bool) (n k : ℕ) (end : Stmt) → loose end ≡ 0
    → most (map (λ s. stmt_of L s) (e.strict_test names strict n k end)) ≡ 0
strict_closes names false n k end is = refl
strict_closes names true zero k end is = refl
strict_closes names true (suc n) k end is =
    ap (λ u. max u 0) (of_if L (record { test = e.null_among names n k; body = end ∷ [] } ∷ []) None) ∙ ((λ i. max (max (max (max (is i) 0) 0) 0) 0)
    ∙ omega arith)

back_closes : (names : List Name) (back : Back) (x : Expr) → loose (e.returned_by names back x) ≡ 0
back_closes names Whole x = refl
back_closes names (Into r k) x = of_block L None [] (stmt.Assign (name_at names r) None x ∷ stmt.Exit (Some (name_at names k)) None ∷ []) None ∙ omega arith

block_sum : (total block within test body end : ℕ) → total ≡ max block (max end 0) → block ≡ within → within ≡ max test (max body (max 0 0)) → test ≡ 0
    → body ≡ 0 → end ≡ 0 → total ≡ 0
block_sum total block within test body end outer inside parts is called ends = omega (arith, outer, inside, parts, is, called, ends)

call_closes : (names : List Name) (g : Function) (params : List Decl) (k : ℕ) (body : Made Stmt) (end : Stmt) → loose body.it ≡ 0 → loose end ≡ 0
    → loose (e.call_block names g params k body end).it ≡ 0
call_closes names g params k body end is ends =
    let label = Some (name_at names (suc k)) in
    let test = e.strict_test names g.strict (length g.params) (suc (suc k)) (stmt.Exit label None) in
    let within = test ++ (body.it ∷ e.falls_off ∷ []) in
    let block : Stmt = stmt.Block label params within None in
    block_sum (loose (e.call_block names g params k body end).it) (loose block) (most (map (λ s. stmt_of L s) within)) (most (map
    (λ s. stmt_of L s) test)) (loose body.it) (loose end)
    (of_block L None (e.plain_decl names k g.result None ∷ []) (block ∷ end ∷ []) None) (of_block L label params within None)
    (most_joined (λ s. stmt_of L s) test (body.it ∷ e.falls_off ∷ []))
    (strict_closes names g.strict (length g.params) (suc (suc k)) (stmt.Exit label None) refl) is ends

-- ---- all bodies

module _ (names : List Name) (fs : List Function) (each : (i : ℕ) → HeadsClose (function_at fs i).body) where
  module _ (calls : ℕ) (deeper : (i : ℕ) (back : Back) (seen : Seen) (k : ℕ) → loose (e.expanded_body names fs calls i back seen k).it ≡ 0) where
    place_closes : (o : Option Called) (x : Expr) (goes_on : Expr → Stmt) (seen : Seen) (k : ℕ) → ((y : Expr) → loose (goes_on y) ≡ 0)
        → loose (e.placed names fs (e.expanded_body names fs calls) o x goes_on seen k).it ≡ 0
    place_closes None x goes_on seen k is = is (mv.moved_expr names seen.variables x)
    place_closes (Some c) x goes_on seen k is =
        let g = function_at fs c.part in
        call_closes names g (e.arguments names seen.variables (suc (suc k)) g.params c.args) k
        (e.expanded_body names fs calls c.part (Into k (suc k)) (mv.seeing_params (suc (suc k)) g.params) (e.behind_params names k g)) (goes_on
        (e.variable names k))
        (deeper c.part (Into k (suc k)) (mv.seeing_params (suc (suc k)) g.params) (e.behind_params names k g)) (is (e.variable names k))

    agree : (back : Back) → Agree names steps steps (e.assigned names fs (e.expanded_body names fs calls)) (e.returned names fs
        (e.expanded_body names fs calls) back)
    agree back = record {
      block = λ label k decls variables at xs closing c. refl;
      assign = λ n slot x seen k. place_closes (call_place (names_of fs) x) x (λ y. stmt.Assign (moved names seen.variables n) None y) seen k (λ y. refl);
      if_ = λ xs other. refl;
      cases = λ xs other. refl;
      loop = λ label k head seen at xs closing c. ap (λ n. max n (most xs)) (head_same names head seen at);
      exit = λ label k variables when. refl;
      continue = λ label k variables when. refl;
      return = λ x seen k. place_closes (call_place (names_of fs) x) x (e.returned_by names back) seen k (back_closes names back);
      raise = λ r. refl;
      into = λ strict targets variables query. refl;
      nothing = refl;
      arm = λ test variables xs. refl;
    }

  pub body_closes : (calls i : ℕ) (back : Back) (seen : Seen) (k : ℕ) → HeadsClose (e.expanded_body names fs calls i back seen k).it
  body_closes zero i back seen k = refl
  body_closes (suc calls) i back seen k =
      let deeper = body_closes calls in
      moved_same names steps steps (e.assigned names fs (e.expanded_body names fs calls)) (e.returned names fs (e.expanded_body names fs calls) back)
      (agree calls deeper back)
      (function_at fs i).body seen k ∙ each i
