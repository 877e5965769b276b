-- The grammar of functions: which terminals read as which tree. A constructor is a production.
--
-- The productions are those of PostgreSQL's manual (CREATE FUNCTION; PL/pgSQL: Basic Statements,
-- Control Structures, Errors and Messages), cut down to this profile. A file has two lists of
-- terminals: the outer one, of the whole file, reads as a function around a body, and the one of
-- the inside of its dollar quote reads as that body.
use Rattle.std.specs.Prelude.{
  ◌≡◌,
  ℕ,
  Bool,
  true,
  false,
  not,
  List,
  [],
  ◌∷◌,
  Option,
  Some,
  None,
  codes,
}
use Rattle.std.specs.List.{list_any}
use Rattle.away_grammar.specs.declared.grammar.Mark.{Mark}
use Rattle.away_grammar.specs.declared.grammar.Mark.TheVariants as m
use Rattle.away_grammar.specs.declared.grammar.Level.TheVariants as l
use Rattle.away_grammar.specs.declared.grammar.Attribute.{Attribute}
use Rattle.away_grammar.specs.declared.grammar.Attribute.TheVariants as attribute
use Rattle.away_values.specs.declared.types.Ty.{Ty}
use Rattle.away_trees.specs.declared.queries.Expr.{Expr}
use Rattle.away_trees.specs.declared.queries.Expr.TheViews.{roll-Select}
use Rattle.away_trees.specs.declared.queries.FromItem.{FromItem}
use Rattle.away_trees.specs.declared.queries.Item.{Item}
use Rattle.away_trees.specs.declared.queries.Key.{Key}
use Rattle.away_trees.specs.declared.queries.Select.{Select}
use Rattle.away_trees.specs.declared.statements.Decl.{Decl}
use Rattle.away_trees.specs.declared.statements.Arm.{Arm}
use Rattle.away_trees.specs.declared.statements.LoopKind.{LoopKind}
use Rattle.away_trees.specs.declared.statements.LoopKind.TheVariants as k
use Rattle.away_trees.specs.declared.statements.Raised.TheVariants as r
use Rattle.away_trees.specs.declared.statements.Stmt.{Stmt}
use Rattle.away_trees.specs.declared.statements.Stmt.TheVariants as s
use Rattle.away_trees.specs.declared.statements.Function.{Function}
use Rattle.away_grammar.specs.Terminals.{
  Terminal,
  mark,
  name,
  integer,
  string,
  quote,
  token_terminals,
}
use Rattle.away_grammar.specs.Grammar.{
  at,
  items,
  from_clause,
  where_clause,
  order_clause,
  limit_clause,
  Reads,
  perhaps,
  schema_qualified,
  not_null,
  type_named,
}
use Rattle.away_grammar.specs.Tokens.{Lexeme}
use Rattle.away_grammar.specs.FunctionFile.{LexesFile}
pub use Rattle.away_grammar.specs.Attributes.{
  times,
  is_language,
  is_body,
  is_volatility,
  is_null_input,
  is_leakproof,
  is_parallel,
  is_cost,
  may_stand,
  makes_strict,
  one_word,
  may_run,
}

-- ---- what may be written

-- `<< name >>`, where it is written
abbrev pub labelled : Option (List ℕ) → List Terminal → List Terminal
labelled None ts = ts
labelled (Some n) ts = mark m.LabelOpen ∷ name n ∷ mark m.LabelClose ∷ ts

-- the name, where it is written
abbrev pub perhaps_name : Option (List ℕ) → List Terminal → List Terminal
perhaps_name None ts = ts
perhaps_name (Some n) ts = name n ∷ ts

abbrev pub or_replace : Bool → List Terminal → List Terminal
or_replace true ts = mark m.Or ∷ name (codes "replace") ∷ ts
or_replace false ts = ts

-- one mark or the other
abbrev pub either : Bool → Mark → Mark → Mark
either true first second = first
either false first second = second

-- the marks before the value of a declaration
abbrev pub gives_default : Mark → Bool
gives_default m.Assign = true
gives_default m.Equal = true
gives_default m.Default = true
gives_default _ = false

-- the marks before the value of an assignment
abbrev pub assigns : Mark → Bool
assigns m.Assign = true
assigns m.Equal = true
assigns _ = false

-- END directly before LOOP is one closing word, `END LOOP`. Whether a LOOP stands among the
-- terminals and the first one isn't of such a word; `behind` says whether END stands directly
-- before the terminals.
abbrev pub mark_opens_loop : Mark → (Bool → Bool) → Bool → Bool
mark_opens_loop m.Loop later behind = not behind
mark_opens_loop m.End later behind = later true
mark_opens_loop _ later behind = later false

abbrev pub loop_opens : List Terminal → Bool → Bool
loop_opens [] behind = false
loop_opens (mark terminal ∷ ts) behind = mark_opens_loop terminal (loop_opens ts) behind
loop_opens (_ ∷ ts) behind = loop_opens ts false

-- An expression has no LOOP, so what stands before the LOOP that opens a loop doesn't end with an
-- END.
abbrev pub opens_loop : List Terminal → Bool
opens_loop ts = loop_opens ts false

-- a target of INTO, which has no slot before names are resolved
abbrev pub Target : Type 0
Target = List ℕ × Option ℕ

-- ---- the grammar

-- what is read
pub data Part : Type 0 where
  decl : Part
  decls : Part
  -- what stands behind a name in a declaration, its value
  default : Part
  statement : Part
  statements : Part
  -- a condition, THEN and its statements
  branch : Part
  elsifs : Part
  whens : Part
  otherwise : Part
  -- WHEN and a condition
  condition : Part
  targets : Part
  -- what stands behind INTO: whether it is STRICT, and its targets
  into : Part
  -- what stands behind a list and the INTO with it: the other clauses of the select
  clauses : List Item → Part
  -- a block behind its label
  block : Option (List ℕ) → Part
  -- a loop behind its label
  repeated : Option (List ℕ) → Part
  -- what stands before LOOP
  kind : Part
  -- BY and a number
  step : Part
  -- a whole body
  body : Part
  parameter : Part
  parameters : Part
  -- the parameters with their parentheses
  signature : Part
  attribute_of : Part
  attributes : Part
  -- a whole file, around the body
  function : Stmt → Part

abbrev pub PartTree : Part → Type 0
PartTree decl = Decl
PartTree decls = List Decl
PartTree default = Option Expr
PartTree statement = Stmt
PartTree statements = List Stmt
PartTree branch = Arm
PartTree elsifs = List Arm
PartTree whens = List Arm
PartTree otherwise = Option (List Stmt)
PartTree condition = Option Expr
PartTree targets = List Target
PartTree into = Bool × List Target
PartTree (clauses list) = Select
PartTree (block label) = Stmt
PartTree (repeated label) = Stmt
PartTree kind = LoopKind
PartTree step = Option Expr
PartTree body = Stmt
PartTree parameter = List ℕ × Ty
PartTree parameters = List (List ℕ × Ty)
PartTree signature = List (List ℕ × Ty)
PartTree attribute_of = Attribute
PartTree attributes = List Attribute
PartTree (function inside) = Function

-- As this part, the terminals of the first list up to the second list read as the tree.
pub data ReadsPart : (p : Part) → List Terminal → PartTree p → List Terminal → Type 0 where
  -- [(:= | = | DEFAULT) expr]
  no_default : {ts : List Terminal} → ReadsPart default ts None ts
  default_of : {ts rest : List Terminal} {x : Expr} (terminal : Mark) → gives_default terminal ≡ true → Reads (at l.Or) ts x rest
      → ReadsPart default (mark terminal ∷ ts) (Some x) rest
  -- name [CONSTANT] type [NOT NULL] [(:= | = | DEFAULT) expr] ;
  decl_of : {ts rest : List Terminal} {n : List ℕ} {ty : Ty} {constant v : Bool} {x : Option Expr} (t : List ℕ) → type_named t ≡ Some ty
      → ReadsPart default ts x (mark m.Semicolon ∷ rest)
      → ReadsPart decl (name n ∷ perhaps constant (mark m.Constant) (name t ∷ not_null v ts))
      (record { name = n; ty = ty; constant = constant; not_null = v; default = x }) rest
  no_decl : {ts : List Terminal} → ReadsPart decls ts [] ts
  another_decl : {ts middle rest : List Terminal} {d : Decl} {ds : List Decl} → ReadsPart decl ts d middle → ReadsPart decls middle ds rest
      → ReadsPart decls ts (d ∷ ds) rest
  -- [<< name >>] [DECLARE {decl}] BEGIN {stmt} END [name]
  plain_block : {ts rest : List Terminal} {label : Option (List ℕ)} {ss : List Stmt} (closing : Option (List ℕ))
      → ReadsPart statements ts ss (mark m.End ∷ perhaps_name closing rest)
      → ReadsPart (block label) (mark m.Begin ∷ ts) (s.Block label [] ss closing) rest
  declaring_block : {ts middle rest : List Terminal} {label : Option (List ℕ)} {ds : List Decl} {ss : List Stmt} (closing : Option (List ℕ))
      → ReadsPart decls ts ds (mark m.Begin ∷ middle) → ReadsPart statements middle ss (mark m.End ∷ perhaps_name closing rest)
      → ReadsPart (block label) (mark m.Declare ∷ ts) (s.Block label ds ss closing) rest
  block_statement : {ts rest : List Terminal} {x : Stmt} (label : Option (List ℕ)) → ReadsPart (block label) ts x (mark m.Semicolon ∷ rest)
      → ReadsPart statement (labelled label ts) x rest
  -- name (:= | =) expr ;
  assignment : {ts rest : List Terminal} {n : List ℕ} {x : Expr} (terminal : Mark)
      → assigns terminal ≡ true → Reads (at l.Or) ts x (mark m.Semicolon ∷ rest)
      → ReadsPart statement (name n ∷ mark terminal ∷ ts) (s.Assign n None x) rest
  nothing : {rest : List Terminal} → ReadsPart statement (mark m.Null ∷ mark m.Semicolon ∷ rest) s.Nothing rest
  return_of : {ts rest : List Terminal} {x : Expr} → Reads (at l.Or) ts x (mark m.Semicolon ∷ rest)
      → ReadsPart statement (mark m.Return ∷ ts) (s.Return x) rest
  -- expr THEN {stmt}
  branch_of : {ts middle rest : List Terminal} {x : Expr} {ss : List Stmt}
      → Reads (at l.Or) ts x (mark m.Then ∷ middle) → ReadsPart statements middle ss rest
      → ReadsPart branch ts (record { test = x; body = ss }) rest
  -- {(ELSIF | ELSEIF) expr THEN {stmt}}
  no_elsif : {ts : List Terminal} → ReadsPart elsifs ts [] ts
  elsif : {ts middle rest : List Terminal} {a : Arm} {more : List Arm} (short : Bool)
      → ReadsPart branch ts a middle → ReadsPart elsifs middle more rest
      → ReadsPart elsifs (mark (either short m.Elsif m.Elseif) ∷ ts) (a ∷ more) rest
  -- {WHEN expr THEN {stmt}}
  no_when : {ts : List Terminal} → ReadsPart whens ts [] ts
  when_of : {ts middle rest : List Terminal} {a : Arm} {more : List Arm} → ReadsPart branch ts a middle → ReadsPart whens middle more rest
      → ReadsPart whens (mark m.When ∷ ts) (a ∷ more) rest
  -- [ELSE {stmt}]
  no_else : {ts : List Terminal} → ReadsPart otherwise ts None ts
  else_of : {ts rest : List Terminal} {ss : List Stmt} → ReadsPart statements ts ss rest → ReadsPart otherwise (mark m.Else ∷ ts) (Some ss) rest
  if_of : {ts middle after rest : List Terminal} {a : Arm} {more : List Arm} {other : Option (List Stmt)}
      → ReadsPart branch ts a middle → ReadsPart elsifs middle more after
      → ReadsPart otherwise after other (mark m.End ∷ mark m.If ∷ mark m.Semicolon ∷ rest)
      → ReadsPart statement (mark m.If ∷ ts) (s.If (a ∷ more) other) rest
  cases_of : {ts middle after rest : List Terminal} {a : Arm} {more : List Arm} {other : Option (List Stmt)}
      → ReadsPart branch ts a middle → ReadsPart whens middle more after
      → ReadsPart otherwise after other (mark m.End ∷ mark m.Case ∷ mark m.Semicolon ∷ rest)
      → ReadsPart statement (mark m.Case ∷ mark m.When ∷ ts) (s.Cases (a ∷ more) other) rest
  -- [BY expr]
  no_step : {ts : List Terminal} → ReadsPart step ts None ts
  step_of : {ts rest : List Terminal} {x : Expr} → Reads (at l.Or) ts x rest → ReadsPart step (mark m.By ∷ ts) (Some x) rest
  -- [WHILE expr | FOR name IN [REVERSE] expr .. expr [BY expr]]
  plain_loop : {ts : List Terminal} → ReadsPart kind ts k.Plain ts
  while_loop : {ts rest : List Terminal} {x : Expr} → opens_loop ts ≡ true
      → Reads (at l.Or) ts x rest → ReadsPart kind (mark m.While ∷ ts) (k.While x) rest
  for_loop : {ts after middle rest : List Terminal} {n : List ℕ} {reverse : Bool} {first last : Expr} {x : Option Expr}
      → opens_loop ts ≡ true → Reads (at l.Or) ts first (mark m.Dots ∷ after) → Reads (at l.Or) after last middle → ReadsPart step middle x rest
      → ReadsPart kind (mark m.For ∷ name n ∷ mark m.In ∷ perhaps reverse (mark m.Reverse) ts) (k.Count n reverse first last x) rest
  -- [<< name >>] [WHILE .. | FOR ..] LOOP {stmt} END LOOP [name] ;
  loop_of : {ts middle rest : List Terminal} {label : Option (List ℕ)} {how : LoopKind} {ss : List Stmt} (closing : Option (List ℕ))
      → ReadsPart kind ts how (mark m.Loop ∷ middle) → ReadsPart statements middle ss (mark m.End ∷ mark m.Loop ∷ perhaps_name closing rest)
      → ReadsPart (repeated label) ts (s.Loop label how ss closing) rest
  loop_statement : {ts rest : List Terminal} {x : Stmt} (label : Option (List ℕ)) → ReadsPart (repeated label) ts x (mark m.Semicolon ∷ rest)
      → ReadsPart statement (labelled label ts) x rest
  -- [WHEN expr]
  no_condition : {ts : List Terminal} → ReadsPart condition ts None ts
  condition_of : {ts rest : List Terminal} {x : Expr} → Reads (at l.Or) ts x rest → ReadsPart condition (mark m.When ∷ ts) (Some x) rest
  -- (EXIT | CONTINUE) [name] [WHEN expr] ;
  exit_of : {ts rest : List Terminal} {x : Option Expr} (label : Option (List ℕ)) → ReadsPart condition ts x (mark m.Semicolon ∷ rest)
      → ReadsPart statement (mark m.Exit ∷ perhaps_name label ts) (s.Exit label x) rest
  continue_of : {ts rest : List Terminal} {x : Option Expr} (label : Option (List ℕ)) → ReadsPart condition ts x (mark m.Semicolon ∷ rest)
      → ReadsPart statement (mark m.Continue ∷ perhaps_name label ts) (s.Continue label x) rest
  -- RAISE [exception] (string | sqlstate string) ;
  raise_message : {rest : List Terminal} {z : List ℕ} (w : Bool)
      → ReadsPart statement (mark m.Raise ∷ perhaps w (name (codes "exception")) (string z ∷ mark m.Semicolon ∷ rest)) (s.Raise (r.Message z)) rest
  raise_state : {rest : List Terminal} {z : List ℕ} (w : Bool)
      → ReadsPart statement (mark m.Raise ∷ perhaps w (name (codes "exception")) (name (codes "sqlstate") ∷ string z ∷ mark m.Semicolon ∷ rest))
      (s.Raise (r.State z)) rest
  -- name {, name}, up to the first token that is no comma
  last_target : {rest : List Terminal} {n : List ℕ}
      → ReadsPart targets (name n ∷ rest) ((n, None) ∷ []) rest
  another_target : {middle rest : List Terminal} {n : List ℕ} {ns : List Target}
      → ReadsPart targets middle ns rest
      → ReadsPart targets (name n ∷ mark m.Comma ∷ middle) ((n, None) ∷ ns) rest
  -- [STRICT] name {, name}
  into_of : {ts rest : List Terminal} {ns : List Target} (w : Bool) → ReadsPart targets ts ns rest
      → ReadsPart into (perhaps w (mark m.Strict) ts) (w, ns) rest
  -- [FROM from {, from}] [WHERE expr] [ORDER BY key {, key}] [LIMIT expr]
  clauses_of : {ts after middle before rest : List Terminal} {xs : List Item}
      {fs : List FromItem} {w : Option Expr} {ks : List Key} {n : Option Expr}
      → Reads from_clause ts fs after → Reads where_clause after w middle
      → Reads order_clause middle ks before → Reads limit_clause before n rest
      → ReadsPart (clauses xs) ts
      (roll-Select (record { list = xs; from = fs; filter = w; order = ks; limit = n })) rest
  -- SELECT INTO [STRICT] name {, name} item {, item} clauses ;
  select_into : {ts after middle rest : List Terminal} {w : Bool} {ns : List Target}
      {xs : List Item} {q : Select}
      → ReadsPart into ts (w, ns) after → Reads items after xs middle
      → ReadsPart (clauses xs) middle q (mark m.Semicolon ∷ rest)
      → ReadsPart statement (mark m.Select ∷ mark m.Into ∷ ts) (s.Into w ns q) rest
  -- SELECT item {, item} INTO [STRICT] name {, name} clauses ;
  list_into : {ts after middle rest : List Terminal} {w : Bool} {ns : List Target}
      {xs : List Item} {q : Select}
      → Reads items ts xs (mark m.Into ∷ after) → ReadsPart into after (w, ns) middle
      → ReadsPart (clauses xs) middle q (mark m.Semicolon ∷ rest)
      → ReadsPart statement (mark m.Select ∷ ts) (s.Into w ns q) rest
  -- {stmt}
  no_statement : {ts : List Terminal} → ReadsPart statements ts [] ts
  another_statement : {ts middle rest : List Terminal} {x : Stmt} {xs : List Stmt}
      → ReadsPart statement ts x middle → ReadsPart statements middle xs rest
      → ReadsPart statements ts (x ∷ xs) rest
  -- block [;]
  body_of : {ts rest : List Terminal} {x : Stmt} (label : Option (List ℕ)) (w : Bool)
      → ReadsPart (block label) ts x (perhaps w (mark m.Semicolon) rest)
      → ReadsPart body (labelled label ts) x rest
  -- [IN] name type
  parameter_of : {rest : List Terminal} {n : List ℕ} {ty : Ty} (w : Bool) (t : List ℕ) → type_named t ≡ Some ty
      → ReadsPart parameter (perhaps w (mark m.In) (name n ∷ name t ∷ rest)) (n, ty) rest
  last_parameter : {ts rest : List Terminal} {x : List ℕ × Ty} → ReadsPart parameter ts x rest → ReadsPart parameters ts (x ∷ []) rest
  another_parameter : {ts middle rest : List Terminal} {x : List ℕ × Ty} {xs : List (List ℕ × Ty)} → ReadsPart parameter ts x (mark m.Comma ∷ middle)
      → ReadsPart parameters middle xs rest
      → ReadsPart parameters ts (x ∷ xs) rest
  no_parameter : {rest : List Terminal} → ReadsPart signature (mark m.Open ∷ mark m.Close ∷ rest) [] rest
  signature_of : {ts rest : List Terminal} {xs : List (List ℕ × Ty)} → ReadsPart parameters ts xs (mark m.Close ∷ rest)
      → ReadsPart signature (mark m.Open ∷ ts) xs rest
  -- LANGUAGE (plpgsql | 'plpgsql') | AS dollar quote | IMMUTABLE | STABLE | VOLATILE | STRICT |
  -- RETURNS NULL ON NULL INPUT | CALLED ON NULL INPUT | [NOT] LEAKPROOF | PARALLEL (SAFE |
  -- RESTRICTED | UNSAFE) | COST integer
  language_name : {rest : List Terminal} → ReadsPart attribute_of (name (codes "language") ∷ name (codes "plpgsql") ∷ rest) attribute.Language rest
  language_string : {rest : List Terminal} → ReadsPart attribute_of
      (name (codes "language") ∷ string (codes "plpgsql") ∷ rest) attribute.Language rest
  as_quote : {rest : List Terminal} {z : List ℕ} → ReadsPart attribute_of (mark m.As ∷ quote z ∷ rest) attribute.Body rest
  word_attribute : {rest : List Terminal} {z : List ℕ} {a : Attribute} → one_word z ≡ Some a → ReadsPart attribute_of (name z ∷ rest) a rest
  strict : {rest : List Terminal} → ReadsPart attribute_of (mark m.Strict ∷ rest) (attribute.NullInput true) rest
  returns_null : {rest : List Terminal} → ReadsPart attribute_of
      (name (codes "returns") ∷ mark m.Null ∷ mark m.On ∷ mark m.Null ∷ name (codes "input")
      ∷ rest) (attribute.NullInput true) rest
  called_on_null : {rest : List Terminal} → ReadsPart attribute_of (name (codes "called") ∷ mark m.On ∷ mark m.Null ∷ name (codes "input")
      ∷ rest) (attribute.NullInput false) rest
  not_leakproof : {rest : List Terminal} → ReadsPart attribute_of (mark m.Not ∷ name (codes "leakproof") ∷ rest) attribute.Leakproof rest
  parallel : {rest : List Terminal} {z : List ℕ} → may_run z ≡ true
      → ReadsPart attribute_of (name (codes "parallel") ∷ name z ∷ rest) attribute.Parallel rest
  cost : {rest : List Terminal} {n : ℕ} → ReadsPart attribute_of (name (codes "cost") ∷ integer n ∷ rest) attribute.Cost rest
  no_attribute : {ts : List Terminal} → ReadsPart attributes ts [] ts
  another_attribute : {ts middle rest : List Terminal} {a : Attribute} {found : List Attribute} → ReadsPart attribute_of ts a middle
      → ReadsPart attributes middle found rest → ReadsPart attributes ts (a ∷ found) rest
  -- CREATE [OR REPLACE] FUNCTION [public .] name ( [param {, param}] ) RETURNS type {attr} [;]
  function_of : {ts after rest : List Terminal} {inside : Stmt} {n : List ℕ} {xs : List (List ℕ
      × Ty)} {ty : Ty} {found : List Attribute} (o q w : Bool) (t : List ℕ)
      → type_named t ≡ Some ty → may_stand found ≡ true
      → ReadsPart signature ts xs (name (codes "returns") ∷ name t ∷ after) → ReadsPart attributes after found (perhaps w (mark m.Semicolon) rest)
      → ReadsPart (function inside) (mark m.Create ∷ or_replace o (name (codes "function") ∷ schema_qualified q (name n ∷ ts)))
      (record { name = n; strict = list_any makes_strict found; params = xs; result = ty; body = inside }) rest

-- What a file's bytes read as: a function, where nothing is left of either list.
pub record ReadsFunction (z : List ℕ) (f : Function) : Type 0 where
  pub outer : List Lexeme
  pub inner : List Lexeme
  pub inside : Stmt
  pub lexes : LexesFile z outer inner None
  pub reads_body : ReadsPart body (token_terminals inner) inside []
  pub reads_function : ReadsPart (function inside) (token_terminals outer) f []
