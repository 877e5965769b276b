-- Expressions with names again that don't name the recursive table, by their parts.
use Rattle.std.proofs.Common.{◌≡◌, ap, ◌∙◌, ℕ, ℤ, Bool, false, List, [], ◌∷◌, map, Option, Some, option_map}
use Rattle.away_values.specs.declared.types.Ty.{Ty}
use Rattle.away_values.specs.declared.operators.ChainOp.{ChainOp}
use Rattle.away_values.specs.declared.operators.CmpOp.{CmpOp}
use Rattle.away_values.specs.declared.operators.IsTest.{IsTest}
use Rattle.away_trees.specs.declared.queries.Col.{Col}
use Rattle.away_trees.specs.declared.queries.Expr.{Expr}
use Rattle.away_trees.specs.declared.queries.Expr.TheVariants as expr
use Rattle.away_trees.specs.declared.queries.Query.{Query}
use Rattle.away_names.specs.declared.rule.Rule.TheVariants as rule
use Rattle.away_names.specs.declared.note.Noted.{Noted}
use Rattle.away_names.specs.declared.note.Note.{Note}
use Rattle.away_names.specs.declared.scope.Hit.{Hit}
use Rattle.away_names.specs.Lookups.{Name, Scope, column_qualified}
use Rattle.away_names.specs.Naming as n
use Rattle.away_names.specs.Notes.{clean, joined, also, each, held}
use Rattle.away_names.specs.Trees.{named_expr, named_query}
use Rattle.away_names.specs.NamingLists.{named_in, named_link, named_arm}
use Rattle.away_names.proofs.NamingRules as r
use Rattle.qualified_names.specs.Sight.{reference}
use Rattle.qualified_names.specs.Trees.{qualified_expr, qualified_shown, qualified_in, qualified_link, qualified_arm}
use Rattle.qualified_names.proofs.QualifyingRules as d
use Rattle.qualified_names.proofs.Gives.{Every, EveryOption}
use Rattle.cte_names.proofs.Silence.{IsSilent, clean_silent, both_silent, breaks_silent, written_silent, called_silent, each_silent, held_silent}

abbrev pub Silent : Scope → Expr → Type 0
Silent s e = IsSilent (named_expr (qualified_expr e s.levels) s).note

abbrev pub SilentQuery : Scope → Query → Type 0
SilentQuery s q = IsSilent (named_query (qualified_shown q s.levels).it s).note

-- by what the expression is with names, and what that stands for
by : (s : Scope) (e w : Expr) (z : Noted Expr) → qualified_expr e s.levels ≡ w → named_expr w s ≡ z → IsSilent z.note → Silent s e
by s e w z is stands h = ap (λ w. (named_expr w s).note.refers) is ∙ (ap (λ (z : Noted Expr). z.note.refers) stands ∙ h)

-- ---- leaves

pub int_silent : (s : Scope) (x : ℤ) → Silent s (expr.Int x)
int_silent s x = by s _ _ _ (d.int_is x s.levels) (r.int_is x s) clean_silent

pub str_silent : (s : Scope) (x : List ℕ) → Silent s (expr.Str x)
str_silent s x = by s _ _ _ (d.str_is x s.levels) (r.str_is x s) clean_silent

pub bool_silent : (s : Scope) (x : Bool) → Silent s (expr.Bool x)
bool_silent s x = by s _ _ _ (d.bool_is x s.levels) (r.bool_is x s) clean_silent

pub null_silent : (s : Scope) → Silent s expr.Null
null_silent s = by s _ _ _ (d.null_is s.levels) (r.null_is s) clean_silent

pub rows_silent : (s : Scope) → Silent s expr.CountRows
rows_silent s = by s _ _ _ (d.countrows_is s.levels) (r.countrows_is s) clean_silent

pub param_silent : (s : Scope) (i : ℕ) (t : Ty) → Silent s (expr.Param i t)
param_silent s i t = by s _ _ _ (d.param_is i t s.levels) (r.param_is i t s) (breaks_silent rule.Names s.in_function)

pub column_silent : (s : Scope) (c : Col) (a x : Name) → reference s.levels c ≡ expr.Dotted a x
    → column_qualified a x s.levels ≡ Some (record { column = c; many = false }) → Silent s (expr.Column c)
unfolding n.qualified n.qualified_by
column_silent s c a x is found =
    by s _ _ _ (d.column_is c s.levels ∙ is)
    (r.qualified_is a x s ∙ ap (λ (o : Option Hit). also (joined (n.written s a) (n.written s x)) (n.qualified_by a x o)) found)
    (both_silent (joined (n.written s a) (n.written s x)) clean
    (both_silent (n.written s a) (n.written s x) (written_silent s a) (written_silent s x)) clean_silent)

-- ---- one part

pub neg_silent : (s : Scope) (x : Expr) → Silent s x → Silent s (expr.Neg x)
neg_silent s x h = by s _ _ _ (d.neg_is x s.levels) (r.neg_is _ s) h

pub not_silent : (s : Scope) (x : Expr) → Silent s x → Silent s (expr.Not x)
not_silent s x h = by s _ _ _ (d.not_is x s.levels) (r.not_is _ s) h

pub is_silent : (s : Scope) (x : Expr) (t : IsTest) (v : Bool) → Silent s x → Silent s (expr.Is x t v)
is_silent s x t v h = by s _ _ _ (d.is_is x t v s.levels) (r.is_is _ t v s) h

pub cast_silent : (s : Scope) (x : Expr) (t : Ty) → Silent s x → Silent s (expr.Cast x t)
cast_silent s x t h = by s _ _ _ (d.cast_is x t s.levels) (r.cast_is _ t s) h

-- ---- more parts

every_link : (s : Scope) (ls : List (ChainOp × Expr)) → Every (λ l. Silent s l.1) ls → Every (λ l. IsSilent (named_link s (qualified_link s.levels l)).note) ls
every_link s [] h = tt
every_link s (l ∷ ls) h = (h.0, every_link s ls h.1)

every_arm : (s : Scope) (as_ : List (Expr × Expr)) → Every (λ a. Silent s a.0 × Silent s a.1) as_
    → Every (λ a. IsSilent (named_arm s (qualified_arm s.levels a)).note) as_
every_arm s [] h = tt
every_arm s (a ∷ as_) h =
    (both_silent (named_expr (qualified_expr a.0 s.levels) s).note (named_expr (qualified_expr a.1 s.levels) s).note h.0.0 h.0.1, every_arm s as_ h.1)

abbrev note_of : Scope → Expr → Note
note_of s x = (named_expr (qualified_expr x s.levels) s).note

pub chain_silent : (s : Scope) (x : Expr) (ls : List (ChainOp × Expr)) → Silent s x → Every (λ l. Silent s l.1) ls → Silent s (expr.Chain x ls)
chain_silent s x ls h k =
    by s _ _ _ (d.chain_is x ls s.levels) (r.chain_is _ _ s)
    (both_silent (note_of s x) _ h (each_silent (named_link s) (qualified_link s.levels) ls (every_link s ls k)))

pub compare_silent : (s : Scope) (op : CmpOp) (x y : Expr) → Silent s x → Silent s y → Silent s (expr.Compare op x y)
compare_silent s op x y h k = by s _ _ _ (d.compare_is op x y s.levels) (r.compare_is op _ _ s) (both_silent (note_of s x) (note_of s y) h k)

pub between_silent : (s : Scope) (v : Bool) (x y z : Expr) → Silent s x → Silent s y → Silent s z → Silent s (expr.Between v x y z)
between_silent s v x y z h k l =
    by s _ _ _ (d.between_is v x y z s.levels) (r.between_is v _ _ _ s)
    (both_silent (note_of s x) (joined (note_of s y) (note_of s z)) h (both_silent (note_of s y) (note_of s z) k l))

pub oneof_silent : (s : Scope) (v : Bool) (x : Expr) (es : List Expr) → Silent s x → Every (Silent s) es → Silent s (expr.OneOf v x es)
oneof_silent s v x es h k =
    by s _ _ _ (d.oneof_is v x es s.levels) (r.oneof_is v _ _ s) (both_silent (note_of s x) _ h (each_silent (named_in s) (qualified_in s.levels) es k))

pub cases_silent : (s : Scope) (as_ : List (Expr × Expr)) (o : Option Expr) → Every (λ a. Silent s a.0 × Silent s a.1) as_ → EveryOption (Silent s) o
    → Silent s (expr.Cases as_ o)
cases_silent s as_ o h k =
    by s _ _ _ (d.cases_is as_ o s.levels) (r.cases_is _ _ s)
    (both_silent (each (named_arm s) (map (qualified_arm s.levels) as_)).note (held (named_in s) (option_map (qualified_in s.levels) o)).note
    (each_silent (named_arm s) (qualified_arm s.levels) as_ (every_arm s as_ h)) (held_silent (named_in s) (qualified_in s.levels) o k))

pub call_silent : (s : Scope) (name : Name) (es : List Expr) → Every (Silent s) es → Silent s (expr.Call name es)
call_silent s name es k =
    by s _ _ _ (d.call_is name es s.levels) (r.call_is name _ s)
    (both_silent (n.called s name) (each (named_in s) (map (qualified_in s.levels) es)).note (called_silent s name)
    (each_silent (named_in s) (qualified_in s.levels) es k))

pub scalar_silent : (s : Scope) (q : Query) → SilentQuery s q → Silent s (expr.Scalar q)
scalar_silent s q h = by s _ _ _ (d.scalar_is q s.levels) (r.scalar_is _ s) h

pub exists_silent : (s : Scope) (q : Query) → SilentQuery s q → Silent s (expr.Exists q)
exists_silent s q h = by s _ _ _ (d.exists_is q s.levels) (r.exists_is _ s) h
