-- The terminals of worked functions, token by token.
use Rattle.std.specs.Prelude.{ℕ, List, [], ◌∷◌, Some, None, codes, pos, true, false}
use Rattle.away_grammar.specs.declared.tokens.TokenKind.TheVariants.{Word, Integer, Symbol, Dollar}
use Rattle.away_values.specs.declared.types.Ty.TheVariants as ty
use Rattle.away_trees.specs.declared.queries.Expr.{Expr}
use Rattle.away_trees.specs.declared.queries.Expr.TheVariants as e
use Rattle.away_trees.specs.declared.queries.Expr.TheViews.{
  roll-Item,
  roll-FromItem,
  roll-Key,
  roll-Select,
}
use Rattle.away_trees.specs.declared.queries.Source.TheVariants as source
use Rattle.away_trees.specs.declared.queries.FromItem.{FromItem}
use Rattle.away_trees.specs.declared.queries.Item.{Item}
use Rattle.away_trees.specs.declared.statements.LoopKind.TheVariants as k
use Rattle.away_trees.specs.declared.statements.Raised.TheVariants as r
use Rattle.away_trees.specs.declared.statements.Stmt.{Stmt}
use Rattle.away_trees.specs.declared.statements.Stmt.TheVariants as s
use Rattle.away_grammar.specs.Terminals.{Terminal, string, terminal_by_kind}

-- a word, a symbol, an integer and a dollar quote, as they are written
abbrev w : List ℕ → Terminal
w z = terminal_by_kind Word z

abbrev y : List ℕ → Terminal
y z = terminal_by_kind Symbol z

abbrev i : List ℕ → Terminal
i z = terminal_by_kind Integer z

abbrev d : List ℕ → Terminal
d z = terminal_by_kind Dollar z

-- CREATE FUNCTION collatz(n bigint) RETURNS bigint LANGUAGE plpgsql AS $$ $$;
abbrev pub collatz_outer : List Terminal
collatz_outer =
    w (codes "CREATE") ∷ w (codes "FUNCTION") ∷ w (codes "collatz") ∷ y (codes "(") ∷ w (codes "n") ∷ w (codes "bigint") ∷ y (codes ")")
    ∷ w (codes "RETURNS") ∷ w (codes "bigint") ∷ w (codes "LANGUAGE") ∷ w (codes "plpgsql") ∷ w (codes "AS") ∷ d (codes "$$ $$") ∷ y (codes ";") ∷ []

-- DECLARE steps bigint := 0;
-- BEGIN
--   WHILE n <> 1 LOOP
--     IF n % 2 = 0 THEN n := n / 2; ELSE n := 3 * n + 1; END IF;
--     steps := steps + 1;
--   END LOOP;
--   RETURN steps;
-- END;
abbrev pub collatz_body : List Terminal
collatz_body =
    w (codes "DECLARE") ∷ w (codes "steps") ∷ w (codes "bigint") ∷ y (codes ":=") ∷ i (codes "0") ∷ y (codes ";") ∷ w (codes "BEGIN")
    ∷ w (codes "WHILE") ∷ w (codes "n") ∷ y (codes "<>") ∷ i (codes "1") ∷ w (codes "LOOP") ∷ w (codes "IF") ∷ w (codes "n") ∷ y (codes "%")
    ∷ i (codes "2") ∷ y (codes "=") ∷ i (codes "0") ∷ w (codes "THEN") ∷ w (codes "n") ∷ y (codes ":=") ∷ w (codes "n") ∷ y (codes "/")
    ∷ i (codes "2") ∷ y (codes ";") ∷ w (codes "ELSE") ∷ w (codes "n") ∷ y (codes ":=") ∷ i (codes "3") ∷ y (codes "*") ∷ w (codes "n")
    ∷ y (codes "+") ∷ i (codes "1") ∷ y (codes ";") ∷ w (codes "END") ∷ w (codes "IF") ∷ y (codes ";") ∷ w (codes "steps") ∷ y (codes ":=")
    ∷ w (codes "steps") ∷ y (codes "+") ∷ i (codes "1") ∷ y (codes ";") ∷ w (codes "END") ∷ w (codes "LOOP") ∷ y (codes ";") ∷ w (codes "RETURN")
    ∷ w (codes "steps") ∷ y (codes ";") ∷ w (codes "END") ∷ y (codes ";") ∷ []

-- CREATE OR REPLACE FUNCTION public.walk(lim bigint) RETURNS bigint AS $$ $$ LANGUAGE 'plpgsql'
-- STABLE CALLED ON NULL INPUT NOT LEAKPROOF PARALLEL SAFE COST 100
abbrev pub walk_outer : List Terminal
walk_outer =
    w (codes "CREATE") ∷ w (codes "OR") ∷ w (codes "REPLACE") ∷ w (codes "FUNCTION") ∷ w (codes "public") ∷ y (codes ".") ∷ w (codes "walk")
    ∷ y (codes "(") ∷ w (codes "lim") ∷ w (codes "bigint") ∷ y (codes ")") ∷ w (codes "RETURNS") ∷ w (codes "bigint") ∷ w (codes "AS")
    ∷ d (codes "$$ $$") ∷ w (codes "LANGUAGE") ∷ string (codes "plpgsql") ∷ w (codes "STABLE") ∷ w (codes "CALLED") ∷ w (codes "ON")
    ∷ w (codes "NULL") ∷ w (codes "INPUT") ∷ w (codes "NOT") ∷ w (codes "LEAKPROOF") ∷ w (codes "PARALLEL") ∷ w (codes "SAFE") ∷ w (codes "COST")
    ∷ i (codes "100") ∷ []

-- DECLARE best bigint; total bigint := 0;
-- BEGIN
--   <<outer_loop>>
--   FOR s IN 0..99 LOOP
--     best := (SELECT max(r.cost) FROM route r WHERE r.src = s);
--     FOR d IN 0..9 LOOP
--       total := total + COALESCE(best, 0);
--       EXIT outer_loop WHEN total > lim;
--     END LOOP;
--   END LOOP;
--   RETURN total;
-- END;
abbrev pub walk_body : List Terminal
walk_body =
    w (codes "DECLARE") ∷ w (codes "best") ∷ w (codes "bigint") ∷ y (codes ";") ∷ w (codes "total") ∷ w (codes "bigint") ∷ y (codes ":=")
    ∷ i (codes "0") ∷ y (codes ";") ∷ w (codes "BEGIN") ∷ y (codes "<<") ∷ w (codes "outer_loop") ∷ y (codes ">>") ∷ w (codes "FOR") ∷ w (codes "s")
    ∷ w (codes "IN") ∷ i (codes "0") ∷ y (codes "..") ∷ i (codes "99") ∷ w (codes "LOOP") ∷ w (codes "best") ∷ y (codes ":=") ∷ y (codes "(")
    ∷ w (codes "SELECT") ∷ w (codes "max") ∷ y (codes "(") ∷ w (codes "r") ∷ y (codes ".") ∷ w (codes "cost") ∷ y (codes ")") ∷ w (codes "FROM")
    ∷ w (codes "route") ∷ w (codes "r") ∷ w (codes "WHERE") ∷ w (codes "r") ∷ y (codes ".") ∷ w (codes "src") ∷ y (codes "=") ∷ w (codes "s")
    ∷ y (codes ")") ∷ y (codes ";") ∷ w (codes "FOR") ∷ w (codes "d") ∷ w (codes "IN") ∷ i (codes "0") ∷ y (codes "..") ∷ i (codes "9")
    ∷ w (codes "LOOP") ∷ w (codes "total") ∷ y (codes ":=") ∷ w (codes "total") ∷ y (codes "+") ∷ w (codes "COALESCE") ∷ y (codes "(")
    ∷ w (codes "best") ∷ y (codes ",") ∷ i (codes "0") ∷ y (codes ")") ∷ y (codes ";") ∷ w (codes "EXIT") ∷ w (codes "outer_loop") ∷ w (codes "WHEN")
    ∷ w (codes "total") ∷ y (codes ">") ∷ w (codes "lim") ∷ y (codes ";") ∷ w (codes "END") ∷ w (codes "LOOP") ∷ y (codes ";") ∷ w (codes "END")
    ∷ w (codes "LOOP") ∷ y (codes ";") ∷ w (codes "RETURN") ∷ w (codes "total") ∷ y (codes ";") ∷ w (codes "END") ∷ y (codes ";") ∷ []

-- <<top>>
-- DECLARE a CONSTANT bigint NOT NULL DEFAULT 1; b text;
-- BEGIN
--   NULL;
--   BEGIN b = 'x'; END;
--   CASE WHEN a THEN RETURN 1; WHEN b THEN ELSE RAISE EXCEPTION 'no'; END CASE;
--   IF a THEN ELSIF b THEN RAISE SQLSTATE '22012'; ELSEIF a THEN END IF;
--   <<inner>> LOOP CONTINUE inner; EXIT WHEN a; END LOOP inner;
--   FOR k IN REVERSE a..1 BY 2 LOOP END LOOP;
--   WHILE (CASE WHEN a THEN b END) LOOP END LOOP;
-- END top
abbrev pub many_terminals : List Terminal
many_terminals =
    y (codes "<<") ∷ w (codes "top") ∷ y (codes ">>") ∷ w (codes "DECLARE") ∷ w (codes "a") ∷ w (codes "CONSTANT") ∷ w (codes "bigint")
    ∷ w (codes "NOT") ∷ w (codes "NULL") ∷ w (codes "DEFAULT") ∷ i (codes "1") ∷ y (codes ";") ∷ w (codes "b") ∷ w (codes "text") ∷ y (codes ";")
    ∷ w (codes "BEGIN") ∷ w (codes "NULL") ∷ y (codes ";") ∷ w (codes "BEGIN") ∷ w (codes "b") ∷ y (codes "=") ∷ string (codes "x") ∷ y (codes ";")
    ∷ w (codes "END") ∷ y (codes ";") ∷ w (codes "CASE") ∷ w (codes "WHEN") ∷ w (codes "a") ∷ w (codes "THEN") ∷ w (codes "RETURN") ∷ i (codes "1")
    ∷ y (codes ";") ∷ w (codes "WHEN") ∷ w (codes "b") ∷ w (codes "THEN") ∷ w (codes "ELSE") ∷ w (codes "RAISE") ∷ w (codes "EXCEPTION")
    ∷ string (codes "no") ∷ y (codes ";") ∷ w (codes "END") ∷ w (codes "CASE") ∷ y (codes ";") ∷ w (codes "IF") ∷ w (codes "a") ∷ w (codes "THEN")
    ∷ w (codes "ELSIF") ∷ w (codes "b") ∷ w (codes "THEN") ∷ w (codes "RAISE") ∷ w (codes "SQLSTATE") ∷ string (codes "22012") ∷ y (codes ";")
    ∷ w (codes "ELSEIF") ∷ w (codes "a") ∷ w (codes "THEN") ∷ w (codes "END") ∷ w (codes "IF") ∷ y (codes ";") ∷ y (codes "<<") ∷ w (codes "inner")
    ∷ y (codes ">>") ∷ w (codes "LOOP") ∷ w (codes "CONTINUE") ∷ w (codes "inner") ∷ y (codes ";") ∷ w (codes "EXIT") ∷ w (codes "WHEN")
    ∷ w (codes "a") ∷ y (codes ";") ∷ w (codes "END") ∷ w (codes "LOOP") ∷ w (codes "inner") ∷ y (codes ";") ∷ w (codes "FOR") ∷ w (codes "k")
    ∷ w (codes "IN") ∷ w (codes "REVERSE") ∷ w (codes "a") ∷ y (codes "..") ∷ i (codes "1") ∷ w (codes "BY") ∷ i (codes "2") ∷ w (codes "LOOP")
    ∷ w (codes "END") ∷ w (codes "LOOP") ∷ y (codes ";") ∷ w (codes "WHILE") ∷ y (codes "(") ∷ w (codes "CASE") ∷ w (codes "WHEN") ∷ w (codes "a")
    ∷ w (codes "THEN") ∷ w (codes "b") ∷ w (codes "END") ∷ y (codes ")") ∷ w (codes "LOOP") ∷ w (codes "END") ∷ w (codes "LOOP") ∷ y (codes ";")
    ∷ w (codes "END") ∷ w (codes "top") ∷ []

-- what it reads as
abbrev a : Expr
a = e.Named (codes "a")

abbrev b : Expr
b = e.Named (codes "b")

abbrev pub many_statements : Stmt
many_statements = s.Block (Some (codes "top"))
    (record { name = codes "a"; ty = ty.Bigint; constant = true; not_null = true; default = Some (e.Int (pos 1)) }
    ∷ record { name = codes "b"; ty = ty.Text; constant = false; not_null = false; default = None } ∷ [])
    (s.Nothing
    ∷ s.Block None [] (s.Assign (codes "b") None (e.Str (codes "x")) ∷ []) None
    ∷ s.Cases (record { test = a; body = s.Return (e.Int (pos 1)) ∷ [] }
    ∷ record { test = b; body = [] } ∷ []) (Some (s.Raise (r.Message (codes "no")) ∷ []))
    ∷ s.If (record { test = a; body = [] }
    ∷ record { test = b; body = s.Raise (r.State (codes "22012")) ∷ [] }
    ∷ record { test = a; body = [] } ∷ []) None
    ∷ s.Loop (Some (codes "inner")) k.Plain (s.Continue (Some (codes "inner")) None ∷ s.Exit None (Some a) ∷ []) (Some (codes "inner"))
    ∷ s.Loop None (k.Count (codes "k") true a (e.Int (pos 1)) (Some (e.Int (pos 2)))) [] None
    ∷ s.Loop None (k.While (e.Cases ((a, b) ∷ []) None)) [] None
    ∷ [])
    (Some (codes "top"))

-- BEGIN
--   SELECT INTO STRICT a, b -1, a;
--   SELECT a AS c INTO b FROM t WHERE a ORDER BY b DESC LIMIT 1;
-- END
abbrev pub into_terminals : List Terminal
into_terminals =
    w (codes "BEGIN") ∷ w (codes "SELECT") ∷ w (codes "INTO") ∷ w (codes "STRICT") ∷ w (codes "a")
    ∷ y (codes ",") ∷ w (codes "b") ∷ y (codes "-") ∷ i (codes "1") ∷ y (codes ",")
    ∷ w (codes "a") ∷ y (codes ";")
    ∷ w (codes "SELECT") ∷ w (codes "a") ∷ w (codes "AS") ∷ w (codes "c") ∷ w (codes "INTO")
    ∷ w (codes "b") ∷ w (codes "FROM") ∷ w (codes "t") ∷ w (codes "WHERE") ∷ w (codes "a")
    ∷ w (codes "ORDER") ∷ w (codes "BY") ∷ w (codes "b") ∷ w (codes "DESC") ∷ w (codes "LIMIT")
    ∷ i (codes "1") ∷ y (codes ";") ∷ w (codes "END") ∷ []

abbrev unnamed : Expr → Item
unnamed x = roll-Item (record { expr = x; alias = None })

abbrev table_t : FromItem
table_t = roll-FromItem (record {
  source = source.Table (codes "t");
  alias = codes "t";
  columns = [];
})

abbrev pub into_statements : Stmt
into_statements = s.Block None []
    (s.Into true ((codes "a", None) ∷ (codes "b", None) ∷ [])
    (roll-Select (record {
      list = unnamed (e.Neg (e.Int (pos 1))) ∷ unnamed a ∷ [];
      from = [];
      filter = None;
      order = [];
      limit = None;
    }))
    ∷ s.Into false ((codes "b", None) ∷ [])
    (roll-Select (record {
      list = roll-Item (record { expr = a; alias = Some (codes "c") }) ∷ [];
      from = table_t ∷ [];
      filter = Some a;
      order = roll-Key (record { expr = b; descending = true }) ∷ [];
      limit = Some (e.Int (pos 1));
    }))
    ∷ [])
    None

-- BEGIN SELECT INTO a, b FROM t; END: the second name is a target
abbrev pub unlisted_terminals : List Terminal
unlisted_terminals =
    w (codes "BEGIN") ∷ w (codes "SELECT") ∷ w (codes "INTO") ∷ w (codes "a") ∷ y (codes ",")
    ∷ w (codes "b") ∷ w (codes "FROM") ∷ w (codes "t") ∷ y (codes ";") ∷ w (codes "END") ∷ []

-- The END before LOOP belongs to END LOOP, so nothing ends the CASE.
-- BEGIN
--   WHILE CASE WHEN a THEN b END LOOP END LOOP;
-- END
abbrev pub unpaired_terminals : List Terminal
unpaired_terminals =
    w (codes "BEGIN") ∷ w (codes "WHILE") ∷ w (codes "CASE") ∷ w (codes "WHEN") ∷ w (codes "a") ∷ w (codes "THEN") ∷ w (codes "b") ∷ w (codes "END")
    ∷ w (codes "LOOP") ∷ w (codes "END") ∷ w (codes "LOOP") ∷ y (codes ";") ∷ w (codes "END") ∷ []
