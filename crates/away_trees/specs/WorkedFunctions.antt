-- Two functions as trees, for worked examples.
use Rattle.std.specs.Prelude.{ℕ, List, [], ◌∷◌, Some, None, codes, pos, false}
use Rattle.away_values.specs.declared.operators.ChainOp.TheVariants as chain
use Rattle.away_values.specs.declared.operators.IntOp.{IntOp}
use Rattle.away_values.specs.declared.operators.IntOp.TheVariants as int
use Rattle.away_values.specs.declared.operators.CmpOp.TheVariants as cmp
use Rattle.away_values.specs.declared.types.Ty.TheVariants as ty
use Rattle.away_trees.specs.declared.queries.Expr.{Expr}
use Rattle.away_trees.specs.declared.queries.Expr.TheVariants as expr
use Rattle.away_trees.specs.declared.queries.Source.TheVariants as source
use Rattle.away_trees.specs.declared.queries.Query.{Query}
use Rattle.away_trees.specs.declared.queries.Expr.TheViews.{
  roll-Item,
  roll-FromItem,
  roll-Select,
  roll-Query,
}
use Rattle.away_trees.specs.declared.statements.LoopKind.TheVariants as kind
use Rattle.away_trees.specs.declared.statements.Stmt.{Stmt}
use Rattle.away_trees.specs.declared.statements.Stmt.TheVariants as stmt
use Rattle.away_trees.specs.declared.statements.Function.{Function}

abbrev arithmetic : IntOp → Expr → Expr → Expr
arithmetic op x y = expr.Chain x ((chain.Int op, y) ∷ [])

abbrev n : Expr
n = expr.Named (codes "n")

abbrev literal : ℕ → Expr
literal k = expr.Int (pos k)

abbrev assign : List ℕ → Expr → Stmt
assign name e = stmt.Assign name None e

-- collatz(n bigint) RETURNS bigint
--   DECLARE steps bigint := 0;
--   BEGIN
--     WHILE n <> 1 LOOP
--       IF n % 2 = 0 THEN n := n / 2; ELSE n := 3 * n + 1; END IF;
--       steps := steps + 1;
--     END LOOP;
--     RETURN steps;
--   END;
abbrev halved_or_tripled : Stmt
halved_or_tripled = stmt.If
    (record {
      test = expr.Compare cmp.Eq (arithmetic int.Rem n (literal 2)) (literal 0);
      body = assign (codes "n")
          (arithmetic int.Div n (literal 2)) ∷ [];
    } ∷ [])
    (Some (assign (codes "n") (arithmetic int.Add (arithmetic int.Mul (literal 3) n) (literal 1)) ∷ []))

abbrev one_step_more : Stmt
one_step_more = assign (codes "steps") (arithmetic int.Add (expr.Named (codes "steps")) (literal 1))

abbrev pub collatz : Function
collatz = record {
  name = codes "collatz";
  strict = false;
  params = (codes "n", ty.Bigint) ∷ [];
  result = ty.Bigint;
  body = stmt.Block None
      (record { name = codes "steps"; ty = ty.Bigint; constant = false; not_null = false; default = Some (literal 0) } ∷ [])
      (stmt.Loop None (kind.While (expr.Compare cmp.Ne n (literal 1))) (halved_or_tripled ∷ one_step_more ∷ []) None
      ∷ stmt.Return (expr.Named (codes "steps")) ∷ [])
      None;
}

-- walk(lim bigint) RETURNS bigint
--   DECLARE best bigint; total bigint := 0;
--   BEGIN
--     <<outer_loop>>
--     FOR s IN 0..99 LOOP
--       best := (SELECT max(r.cost) FROM route r WHERE r.src = s);
--       FOR d IN 0..9 LOOP
--         total := total + COALESCE(best, 0);
--         EXIT outer_loop WHEN total > lim;
--       END LOOP;
--     END LOOP;
--     RETURN total;
--   END;
abbrev total : Expr
total = expr.Named (codes "total")

abbrev dearest : Query
dearest = roll-Query (record {
  recursive = None;
  selects = roll-Select (record {
    list = roll-Item (record { expr = expr.Call (codes "max") (expr.Dotted (codes "r") (codes "cost") ∷ []); alias = None }) ∷ [];
    from = roll-FromItem (record { source = source.Table (codes "route"); alias = codes "r"; columns = [] }) ∷ [];
    filter = Some (expr.Compare cmp.Eq (expr.Dotted (codes "r") (codes "src")) (expr.Named (codes "s")));
    order = [];
    limit = None;
  }) ∷ [];
})

abbrev inner_loop : Stmt
inner_loop = stmt.Loop None (kind.Count (codes "d") false (literal 0) (literal 9) None)
    (assign (codes "total") (arithmetic int.Add total (expr.Call (codes "coalesce") (expr.Named (codes "best") ∷ literal 0 ∷ [])))
    ∷ stmt.Exit (Some (codes "outer_loop")) (Some (expr.Compare cmp.Gt total (expr.Named (codes "lim")))) ∷ [])
    None

abbrev pub walk : Function
walk = record {
  name = codes "walk";
  strict = false;
  params = (codes "lim", ty.Bigint) ∷ [];
  result = ty.Bigint;
  body = stmt.Block None
      (record { name = codes "best"; ty = ty.Bigint; constant = false; not_null = false; default = None }
      ∷ record { name = codes "total"; ty = ty.Bigint; constant = false; not_null = false; default = Some (literal 0) } ∷ [])
      (stmt.Loop (Some (codes "outer_loop")) (kind.Count (codes "s") false (literal 0) (literal 99) None)
      (assign (codes "best") (expr.Scalar dearest) ∷ inner_loop ∷ []) None
      ∷ stmt.Return total ∷ [])
      None;
}
