-- What the plans of bodies give, the grammar reads.
use Rattle.std.proofs.Common.{ℕ, Bool, true, false, List, [], ◌∷◌, Option, Some, None, refl}
use Rattle.std.specs.Prelude.{codes}
use Rattle.away_grammar.specs.declared.grammar.Mark.{Mark}
use Rattle.away_grammar.specs.declared.grammar.Mark.TheVariants as m
use Rattle.away_trees.specs.declared.queries.Item.{Item}
use Rattle.away_trees.specs.declared.statements.Raised.TheVariants as r
use Rattle.away_trees.specs.declared.statements.Stmt.TheVariants as s
use Rattle.away_grammar.specs.Terminals.{Terminal, mark, name}
use Rattle.away_grammar.specs.Grammar.{perhaps}
use Rattle.away_grammar.specs.FunctionGrammar as g
use Rattle.away_grammar.specs.FunctionGrammar.{Part, decl, decls, default, statement, statements, branch, elsifs, whens, otherwise, condition, targets, into, clauses, block, repeated, kind, step, body, labelled}
use Rattle.sql_text.specs.Plans.{done}
use Rattle.sql_text.proofs.Holds.{Nothing, here, name_taken, type_taken}
use Rattle.plsql_parse.specs.Sorts.{ReadsAny}
use Rattle.plsql_parse.specs.Bodies.{default_plan, typed_plan, decl_plan, decls_plan, statement_plan, statements_plan, branch_plan, elsifs_plan, whens_plan, otherwise_plan, condition_plan, block_plan, repeated_plan, counted_plan, kind_plan, step_plan, text_plan, raised_plan, left_plan, marked_plan, statement_by, labelled_plan, outermost_plan, body_plan, targets_plan, into_plan, clauses_plan}
use Rattle.plsql_parse.proofs.HoldsMore.{PartHolds, beside, maybe_name_holds, eat_word_holds, string_taken}

-- ---- declarations

pub default_holds : PartHolds default default_plan Nothing here
default_holds = (λ x ts k. g.default_of m.Assign refl k.2, (λ x ts k. g.default_of m.Equal refl k.2, (λ x ts k. g.default_of m.Default refl k.2, λ ts k. g.no_default)))

typed_holds : (n : List ℕ) (constant : Bool) → PartHolds decl (typed_plan n constant) Nothing (λ ts k. name n ∷ perhaps constant (mark m.Constant) ts)
typed_holds n constant = (
  tt,
  type_taken ReadsAny _ _ _ (λ t ty is. (
    (λ x. (λ ts k. g.decl_of {constant = constant} {v = true} t is k.2, tt), tt),
    λ x. (λ ts k. g.decl_of {constant = constant} {v = false} t is k.2, tt),
  )),
)

pub decl_holds : PartHolds decl decl_plan Nothing here
decl_holds = (tt, name_taken ReadsAny _ _ _ (λ n. (typed_holds n true, typed_holds n false)))

pub decls_hold : PartHolds decls decls_plan Nothing here
decls_hold = (λ d ds ts k. g.another_decl k.1.2 k.2, λ ts k. g.no_decl)

-- ---- blocks and loops

pub block_holds : (label : Option (List ℕ)) → PartHolds (block label) (block_plan label) Nothing here
block_holds label = (
  λ ds. (λ ss. (maybe_name_holds _ _ (λ closing. done (s.Block label ds ss closing)) (λ closing ts k. g.declaring_block closing k.1.2 k.2), tt), tt),
  (λ ss. (maybe_name_holds _ _ (λ closing. done (s.Block label [] ss closing)) (λ closing ts k. g.plain_block closing k.2), tt), tt),
)

pub repeated_holds : (label : Option (List ℕ)) → PartHolds (repeated label) (repeated_plan label) Nothing here
repeated_holds label how = (λ ss. ((maybe_name_holds _ _ (λ closing. done (s.Loop label how ss closing)) (λ closing ts k. g.loop_of closing k.1.2 k.2), tt), tt), tt)

counted_holds : (n : List ℕ) (reverse : Bool) → PartHolds kind (counted_plan n reverse) Nothing (λ ts k. mark m.For ∷ name n ∷ mark m.In ∷ perhaps reverse (mark m.Reverse) ts)
counted_holds n reverse = (λ first. (λ last x ts k. g.for_loop {reverse = reverse} k.1.1.1.0 k.1.1.2 k.1.2 k.2, tt), tt)

pub kind_holds : PartHolds kind kind_plan Nothing here
kind_holds = (
  (λ x ts k. g.while_loop k.1.0 k.2, tt),
  ((tt, name_taken ReadsAny _ _ _ (λ n. ((counted_holds n true, counted_holds n false), tt))), λ ts k. g.plain_loop),
)

pub step_holds : PartHolds step step_plan Nothing here
step_holds = (λ x ts k. g.step_of k.2, λ ts k. g.no_step)

-- ---- statements

pub branch_holds : PartHolds branch branch_plan Nothing here
branch_holds x = (λ ss ts k. g.branch_of k.1.2 k.2, tt)

pub elsifs_hold : PartHolds elsifs elsifs_plan Nothing here
elsifs_hold = (λ a more ts k. g.elsif true k.1.2 k.2, (λ a more ts k. g.elsif false k.1.2 k.2, λ ts k. g.no_elsif))

pub whens_hold : PartHolds whens whens_plan Nothing here
whens_hold = (λ a more ts k. g.when_of k.1.2 k.2, λ ts k. g.no_when)

pub otherwise_holds : PartHolds otherwise otherwise_plan Nothing here
otherwise_holds = (λ ss ts k. g.else_of k.2, λ ts k. g.no_else)

pub condition_holds : PartHolds condition condition_plan Nothing here
condition_holds = (λ x ts k. g.condition_of k.2, λ ts k. g.no_condition)

pub targets_hold : PartHolds targets targets_plan Nothing here
targets_hold = (tt, name_taken ReadsAny _ _ _ (λ n. (λ ns ts k. g.another_target k.2, λ ts k. g.last_target)))

pub into_holds : PartHolds into into_plan Nothing here
into_holds = (λ ns ts k. g.into_of true k.2, λ ns ts k. g.into_of false k.2)

pub clauses_hold : (list : List Item) → PartHolds (clauses list) (clauses_plan list) Nothing here
clauses_hold list fs w ks n = λ ts k. g.clauses_of k.1.1.1.2 k.1.1.2 k.1.2 k.2

raised_holds : (w : Bool) → PartHolds statement raised_plan Nothing (λ ts k. mark m.Raise ∷ perhaps w (name (codes "exception")) ts)
raised_holds w =
    eat_word_holds Nothing (λ ts k. mark m.Raise ∷ perhaps w (name (codes "exception")) ts) (codes "sqlstate") (text_plan r.State) (text_plan r.Message)
    (tt, string_taken _ _ _ (λ z. (λ ts k. g.raise_state w, tt)))
    (tt, string_taken _ _ _ (λ z. (λ ts k. g.raise_message w, tt)))

mark_holds : (terminal : Mark) → PartHolds statement (marked_plan terminal) Nothing (λ ts k. mark terminal ∷ ts)
mark_holds m.Null = (λ ts k. g.nothing, tt)
mark_holds m.Return = λ x. (λ ts k. g.return_of k.2, tt)
mark_holds m.If = λ a more other. (((λ ts k. g.if_of k.1.1.2 k.1.2 k.2, tt), tt), tt)
mark_holds m.Case = (λ a more other. (((λ ts k. g.cases_of k.1.1.2 k.1.2 k.2, tt), tt), tt), tt)
mark_holds m.Exit = maybe_name_holds Nothing (λ ts k. mark m.Exit ∷ ts) (λ label. left_plan (s.Exit label)) (λ label x. (λ ts k. g.exit_of label k.2, tt))
mark_holds m.Continue = maybe_name_holds Nothing (λ ts k. mark m.Continue ∷ ts) (λ label. left_plan (s.Continue label)) (λ label x. (λ ts k. g.continue_of label k.2, tt))
mark_holds m.Raise = eat_word_holds Nothing (λ ts k. mark m.Raise ∷ ts) (codes "exception") raised_plan raised_plan (raised_holds true) (raised_holds false)
mark_holds m.Select = (
  λ x list q. (λ ts k. g.select_into k.1.1.2 k.1.2 k.2, tt),
  λ list. (λ x q. (λ ts k. g.list_into k.1.1.2 k.1.2 k.2, tt), tt),
)
mark_holds _ = tt

statement_taken : (s : Terminal) → PartHolds statement (statement_by (Some s)) Nothing (λ ts k. s ∷ ts)
statement_taken (name n) = (λ x. (λ ts k. g.assignment m.Assign refl k.2, tt), (λ x. (λ ts k. g.assignment m.Equal refl k.2, tt), tt))
statement_taken (mark terminal) = mark_holds terminal
statement_taken _ = tt

labelled_holds : (label : Option (List ℕ)) → PartHolds statement (labelled_plan label) Nothing (λ ts k. labelled label ts)
labelled_holds label = (λ x. (λ ts k. g.block_statement label k.2, tt), λ x. (λ ts k. g.loop_statement label k.2, tt))

pub statement_holds : PartHolds statement statement_plan Nothing here
statement_holds = (
  (tt, name_taken ReadsAny _ _ _ (λ n. (labelled_holds (Some n), tt))),
  (beside _ Nothing here (labelled_plan None) (labelled_holds None), (tt, statement_taken)),
)

pub statements_hold : PartHolds statements statements_plan Nothing here
statements_hold = (λ ts k. g.no_statement, λ x xs ts k. g.another_statement k.1.2 k.2)

-- ---- bodies

outermost_holds : (label : Option (List ℕ)) → PartHolds body (outermost_plan label) Nothing (λ ts k. labelled label ts)
outermost_holds label x = (λ ts k. g.body_of label true k.2, λ ts k. g.body_of label false k.2)

pub body_holds : PartHolds body body_plan Nothing here
body_holds = ((tt, name_taken ReadsAny _ _ _ (λ n. (outermost_holds (Some n), tt))), outermost_holds None)
