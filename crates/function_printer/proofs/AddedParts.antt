-- What the printer adds for parts that hold no tree of statements, by what it adds for their own parts.
use Rattle.std.proofs.Common.{◌≡◌, ℕ, refl, sym, ap, ◌∙◌, Bool, true, false, List, [], ◌∷◌, ◌++◌, map, Option, option_map, codes}
use Rattle.away_grammar.specs.declared.grammar.Mark.TheVariants as m
use Rattle.away_values.specs.declared.types.Ty.{Ty}
use Rattle.away_trees.specs.declared.queries.Expr.{Expr}
use Rattle.away_trees.specs.declared.queries.Expr.TheViews.{out-Select}
use Rattle.away_trees.specs.declared.queries.FromItem.{FromItem}
use Rattle.away_trees.specs.declared.queries.Key.{Key}
use Rattle.away_trees.specs.declared.queries.Select.{Select}
use Rattle.away_trees.specs.declared.statements.Decl.{Decl}
use Rattle.away_trees.specs.declared.statements.LoopKind.{LoopKind}
use Rattle.away_trees.specs.declared.statements.LoopKind.TheVariants as k
use Rattle.away_trees.specs.declared.statements.Stmt.TheVariants as s
use Rattle.away_trees.specs.declared.statements.Function.{Function}
use Rattle.away_trees.specs.Algebra.{from_of, key_of}
use Rattle.away_grammar.specs.Terminals.{Terminal, mark, name, quote}
use Rattle.away_grammar.specs.Grammar.{not_null, perhaps}
use Rattle.away_grammar.specs.FunctionGrammar.{Target}
use Rattle.away_grammar.specs.Printing.{from_terminals, limit_terminals, name_alone, names_terminals, order_terminals, printed, printing, type_name, where_terminals, with_commas}
use Rattle.sql_printer.proofs.PrintExpressions.{perhaps_behind}
use Rattle.function_printer.specs.FunctionTerminals as f
use Rattle.function_printer.specs.FunctionTerminals.{function_terminals, parameter_terminals, semicolon, statement_terminals, whole}

-- ---- lists

abbrev pub target_alone : Target → List Terminal
target_alone t = name t.0 ∷ []

targets_are : (ts : List Target) → map target_alone ts ≡ map name_alone (f.target_names ts)
targets_are [] = refl
targets_are (t ∷ ts) = ap (λ xs. target_alone t ∷ xs) (targets_are ts)

pub targets_terminals : (ts : List Target) → with_commas (map target_alone ts) ≡ names_terminals (f.target_names ts)
targets_terminals ts = ap with_commas (targets_are ts)

-- ---- declarations

decl_by : (constant null : Bool) (n t : Terminal) (rest : List Terminal)
    → n ∷ (perhaps constant (mark m.Constant) [] ++ t ∷ (perhaps null (mark m.Not) [] ++ (perhaps null (mark m.Null) [] ++ rest))) ≡ n ∷ perhaps constant (mark m.Constant) (t ∷ not_null null rest)
decl_by true true n t rest = refl
decl_by true false n t rest = refl
decl_by false true n t rest = refl
decl_by false false n t rest = refl

pub decl_terminals : {ty : List ℕ} (d : Decl) → ty ≡ type_name d.ty
    → name d.name ∷ (perhaps d.constant (mark m.Constant) [] ++ name ty ∷ (perhaps d.not_null (mark m.Not) [] ++ (perhaps d.not_null (mark m.Null) [] ++ (f.default_of d.default ++ semicolon)))) ≡ f.decl_of d
decl_terminals {ty = ty} d is = decl_by d.constant d.not_null (name d.name) (name ty) (f.default_of d.default ++ semicolon)
    ∙ ap (λ t. name d.name ∷ perhaps d.constant (mark m.Constant) (name t ∷ not_null d.not_null (f.default_of d.default ++ semicolon))) is

-- ---- loops

pub count_terminals : {n : List ℕ} {reverse : Bool} {first last : Expr} {step : Option Expr} (z : LoopKind) → z ≡ k.Count n reverse first last step
    → mark m.For ∷ name n ∷ mark m.In ∷ (perhaps reverse (mark m.Reverse) [] ++ (whole first ++ mark m.Dots ∷ f.range_of last step)) ≡ f.kind_of z
count_terminals {n = n} {reverse = reverse} {first = first} {last = last} {step = step} z p =
    ap (λ ts. mark m.For ∷ name n ∷ mark m.In ∷ ts) (perhaps_behind reverse (mark m.Reverse) [] (whole first ++ mark m.Dots ∷ f.range_of last step)) ∙ sym (ap f.kind_of p)

-- ---- SELECT INTO

pub clauses_terminals : {fs : List FromItem} {ks : List Key} (q : Select) → fs ≡ (out-Select q).from → ks ≡ (out-Select q).order
    → from_terminals (map (from_of printing) fs) ++ (where_terminals (option_map printed (out-Select q).filter) ++ (order_terminals (map (key_of printing) ks) ++ limit_terminals (option_map printed (out-Select q).limit)))
    ≡ f.clauses_of q
clauses_terminals {fs = fs} {ks = ks} q h k =
    let o = out-Select q in
    let all : List FromItem → List Key → List Terminal = λ a b. from_terminals (map (from_of printing) a) ++ (where_terminals (option_map printed o.filter) ++ (order_terminals (map (key_of printing) b) ++ limit_terminals (option_map printed o.limit))) in
    ap (λ a. all a ks) h ∙ ap (all o.from) k

pub into_terminals : (strict : Bool) (targets : List Target) (q : Select)
    → mark m.Select ∷ (f.list_of q ++ mark m.Into ∷ (perhaps strict (mark m.Strict) [] ++ (names_terminals (f.target_names targets) ++ (f.clauses_of q ++ semicolon)))) ≡ statement_terminals (s.Into strict targets q)
into_terminals strict targets q =
    ap (λ ts. mark m.Select ∷ (f.list_of q ++ mark m.Into ∷ ts)) (perhaps_behind strict (mark m.Strict) [] (names_terminals (f.target_names targets) ++ (f.clauses_of q ++ semicolon)))

-- ---- a function

pub own_terminals : {ps : List (List ℕ × Ty)} {ty : List ℕ} (function : Function) (body : List ℕ) → ps ≡ function.params → ty ≡ type_name function.result
    → mark m.Create ∷ name (codes "FUNCTION") ∷ name (codes "public") ∷ mark m.Dot ∷ name function.name ∷ mark m.Open
    ∷ (with_commas (map (λ p. parameter_terminals p) ps) ++ mark m.Close ∷ name (codes "RETURNS") ∷ name ty ∷ name (codes "LANGUAGE") ∷ name (codes "plpgsql")
    ∷ (perhaps function.strict (mark m.Strict) [] ++ mark m.As ∷ quote body ∷ semicolon))
    ≡ function_terminals function body
own_terminals {ps = ps} {ty = ty} function body p q =
    let all : List (List ℕ × Ty) → List ℕ → List Terminal → List Terminal = λ xs t ts. mark m.Create ∷ name (codes "FUNCTION") ∷ name (codes "public") ∷ mark m.Dot ∷ name function.name ∷ mark m.Open
    ∷ (with_commas (map (λ p. parameter_terminals p) xs) ++ mark m.Close ∷ name (codes "RETURNS") ∷ name t ∷ name (codes "LANGUAGE") ∷ name (codes "plpgsql") ∷ ts) in
    let last = perhaps_behind function.strict (mark m.Strict) [] (mark m.As ∷ quote body ∷ semicolon) in
    ap (λ xs. all xs ty (perhaps function.strict (mark m.Strict) [] ++ mark m.As ∷ quote body ∷ semicolon)) p
    ∙ ap (λ t. all function.params t (perhaps function.strict (mark m.Strict) [] ++ mark m.As ∷ quote body ∷ semicolon)) q
    ∙ ap (λ ts. all function.params (type_name function.result) ts) last
