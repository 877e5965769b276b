-- Worked examples of printed functions.
use Rattle.std.specs.Prelude.{◌≡◌, true, false, [], ◌∷◌, Some, None, codes}
use Rattle.away_values.specs.declared.operators.CmpOp.TheVariants as cmp
use Rattle.away_values.specs.declared.operators.ChainOp.TheVariants as chain
use Rattle.away_values.specs.declared.operators.IntOp.TheVariants as int
use Rattle.away_values.specs.declared.types.Ty.TheVariants as ty
use Rattle.away_trees.specs.declared.queries.Expr.{Expr}
use Rattle.away_trees.specs.declared.queries.Expr.TheVariants as e
use Rattle.away_trees.specs.declared.queries.Expr.TheViews.{
  roll-Item,
  roll-FromItem,
  roll-Key,
  roll-Select,
}
use Rattle.away_trees.specs.declared.queries.Source.TheVariants as source
use Rattle.away_trees.specs.declared.statements.LoopKind.TheVariants as k
use Rattle.away_trees.specs.declared.statements.Raised.TheVariants as r
use Rattle.away_trees.specs.declared.statements.Stmt.TheVariants as s
use Rattle.away_trees.specs.declared.statements.Function.{Function}
use Rattle.function_printer.specs.FunctionTexts.{expression_text, function_text}
use Rattle.function_printer.specs.Tags.{free_mark}

-- ---- functions

-- f(a bigint) RETURNS bigint
--   BEGIN RETURN a; END
abbrev echo : Function
echo = record {
  name = codes "f";
  strict = true;
  params = (codes "a", ty.Bigint) ∷ [];
  result = ty.Bigint;
  body = s.Block None [] (s.Return (e.Named (codes "a")) ∷ []) None;
}

-- f() RETURNS text
--   << top >>
--   DECLARE a CONSTANT text NOT NULL := 'it''s'; b bigint;
--   BEGIN
--     WHILE CASE WHEN b THEN a END LOOP EXIT top WHEN b; CONTINUE; END LOOP;
--     IF a THEN NULL; ELSIF b THEN RAISE 'no'; ELSE RAISE SQLSTATE '22012'; END IF;
--     CASE WHEN a THEN WHEN b THEN END CASE;
--   END top
abbrev many : Function
many = record {
  name = codes "f";
  strict = false;
  params = [];
  result = ty.Text;
  body = s.Block (Some (codes "top"))
      (record {
        name = codes "a";
        ty = ty.Text;
        constant = true;
        not_null = true;
        default = Some (e.Str (codes "it's"));
      }
      ∷ record {
        name = codes "b";
        ty = ty.Bigint;
        constant = false;
        not_null = false;
        default = None;
      } ∷ [])
      (s.Loop None (k.While (e.Cases ((e.Named (codes "b"), e.Named (codes "a")) ∷ []) None))
      (s.Exit (Some (codes "top")) (Some (e.Named (codes "b"))) ∷ s.Continue None None ∷ []) None
      ∷ s.If (record { test = e.Named (codes "a"); body = s.Nothing ∷ [] }
      ∷ record { test = e.Named (codes "b"); body = s.Raise (r.Message (codes "no")) ∷ [] } ∷ [])
      (Some (s.Raise (r.State (codes "22012")) ∷ []))
      ∷ s.Cases (record { test = e.Named (codes "a"); body = [] }
      ∷ record { test = e.Named (codes "b"); body = [] } ∷ []) None
      ∷ [])
      (Some (codes "top"));
}

-- f(a bigint, b integer) RETURNS integer
--   BEGIN
--     FOR k IN REVERSE a..b BY CASE WHEN a THEN b END LOOP NULL; END LOOP;
--     SELECT INTO STRICT a, b t.k AS c, t.v FROM t AS u WHERE a ORDER BY b DESC LIMIT a;
--   END
abbrev read : Function
read = record {
  name = codes "f";
  strict = false;
  params = (codes "a", ty.Bigint) ∷ (codes "b", ty.Integer) ∷ [];
  result = ty.Integer;
  body = s.Block None []
      (s.Loop None (k.Count (codes "k") true (e.Named (codes "a")) (e.Named (codes "b"))
      (Some (e.Cases ((e.Named (codes "a"), e.Named (codes "b")) ∷ []) None))) (s.Nothing ∷ []) None
      ∷ s.Into true ((codes "a", None) ∷ (codes "b", None) ∷ [])
      (roll-Select (record {
        list = roll-Item (record {
          expr = e.Dotted (codes "t") (codes "k");
          alias = Some (codes "c");
        })
            ∷ roll-Item (record { expr = e.Dotted (codes "t") (codes "v"); alias = None }) ∷ [];
        from = roll-FromItem (record {
          source = source.Table (codes "t");
          alias = codes "u";
          columns = [];
        }) ∷ [];
        filter = Some (e.Named (codes "a"));
        order = roll-Key (record { expr = e.Named (codes "b"); descending = true }) ∷ [];
        limit = Some (e.Named (codes "a"));
      }))
      ∷ [])
      None;
}

pub record FunctionsPrint : Type 0 where
  pub short : function_text echo ≡
      codes "CREATE FUNCTION public.f(a bigint) RETURNS bigint LANGUAGE plpgsql STRICT AS $$ BEGIN RETURN a ; END ; $$ ;\n"
  pub long : function_text many ≡
      codes "CREATE FUNCTION public.f() RETURNS text LANGUAGE plpgsql AS $$ << top >> DECLARE a CONSTANT text NOT NULL := 'it''s' ; b bigint ; BEGIN WHILE (CASE WHEN b THEN a END) LOOP EXIT top WHEN b ; CONTINUE ; END LOOP ; IF a THEN NULL ; ELSIF b THEN RAISE EXCEPTION 'no' ; ELSE RAISE EXCEPTION SQLSTATE '22012' ; END IF ; CASE WHEN a THEN WHEN b THEN END CASE ; END top ; $$ ;\n"
  pub into : function_text read ≡
      codes "CREATE FUNCTION public.f(a bigint, b integer) RETURNS integer LANGUAGE plpgsql AS $$ BEGIN FOR k IN REVERSE a .. b BY (CASE WHEN a THEN b END) LOOP NULL ; END LOOP ; SELECT t.k AS c, t.v INTO STRICT a, b FROM t AS u WHERE a ORDER BY b DESC LIMIT a ; END ; $$ ;\n"

-- ---- expressions

abbrev a_case : Expr
a_case = e.Cases ((e.Named (codes "a"), e.Named (codes "b")) ∷ []) None

abbrev compared : Expr
compared = e.Compare cmp.Eq a_case a_case

abbrev added : Expr
added = e.Chain a_case ((chain.Int int.Add, a_case) ∷ (chain.Int int.Sub, a_case) ∷ [])

pub record CasesAreClosed : Type 0 where
  pub first : expression_text a_case false ≡ codes "CASE WHEN a THEN b END"
  pub alone : expression_text a_case true ≡ codes "(CASE WHEN a THEN b END)"
  pub last : expression_text compared true
      ≡ codes "CASE WHEN a THEN b END = (CASE WHEN a THEN b END)"
  pub linked : expression_text added true
      ≡ codes "CASE WHEN a THEN b END + CASE WHEN a THEN b END - (CASE WHEN a THEN b END)"
  pub inside : expression_text (e.Not compared) true
      ≡ codes "NOT CASE WHEN a THEN b END = (CASE WHEN a THEN b END)"
  pub tested : expression_text (e.Not (e.Chain compared ((chain.Or, a_case) ∷ []))) true
      ≡ codes "NOT (CASE WHEN a THEN b END = CASE WHEN a THEN b END OR CASE WHEN a THEN b END)"

-- ---- marks

pub record FirstFree : Type 0 where
  pub none : free_mark (codes " RETURN a ; ") ≡ codes "$$"
  pub one : free_mark (codes "a $$ b") ≡ codes "$q1$"
  pub two : free_mark (codes "$$ $q1$") ≡ codes "$q2$"
