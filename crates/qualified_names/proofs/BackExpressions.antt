-- Expressions that are read back, by their parts.
use Rattle.std.proofs.Common.{◌≡◌, refl, ap, sym, subst, ◌∙◌, ℕ, ℤ, Bool, true, false, List, [], ◌∷◌, map, Option, Some, None, option_map}
use Rattle.std.specs.Prelude.{is_some, not}
use Rattle.away_values.specs.declared.types.Ty.{Ty}
use Rattle.away_trees.specs.declared.queries.Col.{Col}
use Rattle.away_values.specs.declared.operators.ChainOp.{ChainOp}
use Rattle.away_values.specs.declared.operators.CmpOp.{CmpOp}
use Rattle.away_values.specs.declared.operators.IsTest.{IsTest}
use Rattle.away_trees.specs.declared.queries.Expr.{Expr}
use Rattle.away_trees.specs.declared.queries.Expr.TheVariants as expr
use Rattle.away_trees.specs.declared.queries.Query.{Query}
use Rattle.away_names.specs.declared.rule.Rule.TheVariants as rule
use Rattle.away_names.specs.declared.note.Noted.{Noted}
use Rattle.away_names.specs.declared.note.Shown.{Shown}
use Rattle.away_names.specs.declared.scope.Hit.{Hit}
use Rattle.away_names.specs.Functions.{function}
use Rattle.away_names.specs.Lookups.{Name, Scope, column_qualified}
use Rattle.away_names.specs.Naming as n
use Rattle.away_names.specs.Notes.{joined, breaks, mapped, also, each, held}
use Rattle.away_names.specs.Trees.{named_expr, named_query, last_of, alone_of}
use Rattle.away_names.specs.NamingLists.{named_in, named_link, named_arm}
use Rattle.away_names.proofs.NamingRules as r
use Rattle.elaboration.specs.Marks.{plain_op}
use Rattle.qualified_names.specs.Sight.{reference, own_name}
use Rattle.qualified_names.specs.Trees.{qualified_expr, qualified_shown, qualified_in, qualified_link, qualified_arm}
use Rattle.qualified_names.proofs.QualifyingRules as d
use Rattle.qualified_names.proofs.Gives.{Gives, Every, EveryOption, both_quiet, unbroken, written_quiet, same_gives, pure_gives, mapped_gives, also_gives, paired_gives, each_gives, held_gives}

-- The written expression stands for the other; a column's own name is that of the written one; and no name stands alone.
pub record Spells (s : Scope) (w e : Expr) : Type 0 where
  pub gives : Gives (named_expr w s) e
  pub called : n.shown e (last_of w) ≡ own_name w
  pub alone : alone_of w ≡ None

abbrev pub Back : Scope → Expr → Type 0
Back s e = Spells s (qualified_expr e s.levels) e

abbrev pub BackQuery : Scope → Query → Type 0
BackQuery s q =
    let x : Shown Query = qualified_shown q s.levels in
    let y : Noted (Shown Query) = named_query x.it s in
    (y.it.it ≡ q) × (y.it.names ≡ x.names) × (y.note.least ≡ None)

by : (s : Scope) (e w : Expr) → qualified_expr e s.levels ≡ w → Spells s w e → Back s e
by s e w is h = subst (λ w. Spells s w e) (sym is) h

-- ---- leaves

pub int_back : (s : Scope) (x : ℤ) → Back s (expr.Int x)
unfolding n.shown last_of alone_of
int_back s x = by s _ _ (d.int_is x s.levels) (record { gives = same_gives _ _ _ (r.int_is x s) (pure_gives _); called = refl; alone = refl })

pub str_back : (s : Scope) (x : List ℕ) → Back s (expr.Str x)
unfolding n.shown last_of alone_of
str_back s x = by s _ _ (d.str_is x s.levels) (record { gives = same_gives _ _ _ (r.str_is x s) (pure_gives _); called = refl; alone = refl })

pub bool_back : (s : Scope) (x : Bool) → Back s (expr.Bool x)
unfolding n.shown last_of alone_of
bool_back s x = by s _ _ (d.bool_is x s.levels) (record { gives = same_gives _ _ _ (r.bool_is x s) (pure_gives _); called = refl; alone = refl })

pub null_back : (s : Scope) → Back s expr.Null
unfolding n.shown last_of alone_of
null_back s = by s _ _ (d.null_is s.levels) (record { gives = same_gives _ _ _ (r.null_is s) (pure_gives _); called = refl; alone = refl })

pub rows_back : (s : Scope) → Back s expr.CountRows
unfolding n.shown last_of alone_of
rows_back s = by s _ _ (d.countrows_is s.levels) (record { gives = same_gives _ _ _ (r.countrows_is s) (pure_gives _); called = refl; alone = refl })

pub param_back : (s : Scope) (i : ℕ) (t : Ty) → s.in_function ≡ false → Back s (expr.Param i t)
unfolding n.shown last_of alone_of
param_back s i t h =
    by s _ _ (d.param_is i t s.levels)
    (record { gives = same_gives _ _ _ (r.param_is i t s) (refl, ap (λ b. (breaks rule.Names b).least) h ∙ unbroken rule.Names); called = refl; alone = refl })

pub column_back : (s : Scope) (c : Col) (a x : Name) → s.in_function ≡ false → reference s.levels c ≡ expr.Dotted a x
    → column_qualified a x s.levels ≡ Some (record { column = c; many = false }) → Back s (expr.Column c)
unfolding n.shown last_of alone_of n.qualified n.qualified_by
column_back s c a x h is found =
    by s _ _ (d.column_is c s.levels ∙ is)
    (record {
      gives = same_gives _ _ _ (r.qualified_is a x s ∙ ap (λ (o : Option Hit). also (joined (n.written s a) (n.written s x)) (n.qualified_by a x o)) found)
          (also_gives _ _ _ (both_quiet _ _ (written_quiet s a h) (written_quiet s x h)) (pure_gives (expr.Column c)));
      called = refl;
      alone = refl;
    })

-- ---- one part

pub neg_back : (s : Scope) (x : Expr) → Back s x → Back s (expr.Neg x)
unfolding n.shown last_of alone_of
neg_back s x h = by s _ _ (d.neg_is x s.levels) (record { gives = same_gives _ _ _ (r.neg_is _ s) (mapped_gives (λ e. expr.Neg e) (named_expr (qualified_expr x s.levels) s) x h.gives); called = refl; alone = refl })

pub not_back : (s : Scope) (x : Expr) → Back s x → Back s (expr.Not x)
unfolding n.shown last_of alone_of
not_back s x h = by s _ _ (d.not_is x s.levels) (record { gives = same_gives _ _ _ (r.not_is _ s) (mapped_gives (λ e. expr.Not e) (named_expr (qualified_expr x s.levels) s) x h.gives); called = refl; alone = refl })

pub is_back : (s : Scope) (x : Expr) (t : IsTest) (v : Bool) → Back s x → Back s (expr.Is x t v)
unfolding n.shown last_of alone_of
is_back s x t v h = by s _ _ (d.is_is x t v s.levels) (record { gives = same_gives _ _ _ (r.is_is _ t v s) (mapped_gives (λ e. expr.Is e t v) (named_expr (qualified_expr x s.levels) s) x h.gives); called = refl; alone = refl })

pub cast_back : (s : Scope) (x : Expr) (t : Ty) → Back s x → Back s (expr.Cast x t)
unfolding n.shown last_of alone_of
cast_back s x t h = by s _ _ (d.cast_is x t s.levels) (record { gives = same_gives _ _ _ (r.cast_is _ t s) (mapped_gives (λ e. expr.Cast e t) (named_expr (qualified_expr x s.levels) s) x h.gives); called = refl; alone = refl })

-- ---- lists of parts

every_gives : (s : Scope) (es : List Expr) → Every (Back s) es → Every (λ e. Gives (named_in s (qualified_in s.levels e)) e) es
every_gives s [] h = tt
every_gives s (e ∷ es) h = (h.0.gives, every_gives s es h.1)

-- a link without a mark
abbrev pub LinkBack : Scope → ChainOp × Expr → Type 0
LinkBack s l = (plain_op l.0 ≡ l.0) × Back s l.1

every_link : (s : Scope) (ls : List (ChainOp × Expr)) → Every (LinkBack s) ls → Every (λ l. Gives (named_link s (qualified_link s.levels l)) l) ls
every_link s [] h = tt
every_link s (l ∷ ls) h = (
  subst (λ op. Gives (named_link s (op, qualified_expr l.1 s.levels)) l) (sym h.0.0)
      (mapped_gives (λ (e : Expr). (l.0, e)) (named_expr (qualified_expr l.1 s.levels) s) l.1 h.0.1.gives),
  every_link s ls h.1,
)

every_arm : (s : Scope) (as_ : List (Expr × Expr)) → Every (λ a. Back s a.0 × Back s a.1) as_ → Every (λ a. Gives (named_arm s (qualified_arm s.levels a)) a) as_
every_arm s [] h = tt
every_arm s (a ∷ as_) h = (paired_gives (λ (x y : Expr). (x, y)) _ _ _ _ h.0.0.gives h.0.1.gives, every_arm s as_ h.1)

option_gives : (s : Scope) (o : Option Expr) → EveryOption (Back s) o → EveryOption (λ e. Gives (named_in s (qualified_in s.levels e)) e) o
option_gives s None h = tt
option_gives s (Some e) h = h.gives

pub maybe_back : (s : Scope) (o : Option Expr) → EveryOption (Back s) o → Gives (held (named_in s) (option_map (qualified_in s.levels) o)) o
maybe_back s o h = held_gives (named_in s) (qualified_in s.levels) o (option_gives s o h)

all_back : (s : Scope) (es : List Expr) → Every (Back s) es → Gives (each (named_in s) (map (qualified_in s.levels) es)) es
all_back s es h = each_gives (named_in s) (qualified_in s.levels) es (every_gives s es h)

pub chain_back : (s : Scope) (x : Expr) (ls : List (ChainOp × Expr)) → Back s x → Every (LinkBack s) ls → Back s (expr.Chain x ls)
unfolding n.shown last_of alone_of
chain_back s x ls h k =
    by s _ _ (d.chain_is x ls s.levels)
    (record {
      gives = same_gives _ _ _ (r.chain_is _ _ s) (paired_gives (λ e links. expr.Chain e links) _ _ _ _ h.gives (each_gives (named_link s) (qualified_link s.levels) ls (every_link s ls k)));
      called = refl;
      alone = refl;
    })

pub compare_back : (s : Scope) (op : CmpOp) (x y : Expr) → Back s x → Back s y → Back s (expr.Compare op x y)
unfolding n.shown last_of alone_of
compare_back s op x y h k =
    by s _ _ (d.compare_is op x y s.levels)
    (record { gives = same_gives _ _ _ (r.compare_is op _ _ s) (paired_gives (λ a b. expr.Compare op a b) _ _ _ _ h.gives k.gives); called = refl; alone = refl })

pub between_back : (s : Scope) (v : Bool) (x y z : Expr) → Back s x → Back s y → Back s z → Back s (expr.Between v x y z)
unfolding n.shown last_of alone_of
between_back s v x y z h k l =
    by s _ _ (d.between_is v x y z s.levels)
    (record {
      gives = same_gives _ _ _ (r.between_is v _ _ _ s)
          (paired_gives (λ e (range : Expr × Expr). expr.Between v e range.0 range.1) _ _ _ _ h.gives (paired_gives (λ (low high : Expr). (low, high)) _ _ _ _ k.gives l.gives));
      called = refl;
      alone = refl;
    })

pub oneof_back : (s : Scope) (v : Bool) (x : Expr) (es : List Expr) → Back s x → Every (Back s) es → Back s (expr.OneOf v x es)
unfolding n.shown last_of alone_of
oneof_back s v x es h k =
    by s _ _ (d.oneof_is v x es s.levels)
    (record { gives = same_gives _ _ _ (r.oneof_is v _ _ s) (paired_gives (λ e choices. expr.OneOf v e choices) _ _ _ _ h.gives (all_back s es k)); called = refl; alone = refl })

pub cases_back : (s : Scope) (as_ : List (Expr × Expr)) (o : Option Expr) → Every (λ a. Back s a.0 × Back s a.1) as_ → EveryOption (Back s) o → Back s (expr.Cases as_ o)
unfolding n.shown last_of alone_of
cases_back s as_ o h k =
    by s _ _ (d.cases_is as_ o s.levels)
    (record {
      gives = same_gives _ _ _ (r.cases_is _ _ s) (paired_gives (λ arms other. expr.Cases arms other) _ _ _ _ (each_gives (named_arm s) (qualified_arm s.levels) as_ (every_arm s as_ h)) (maybe_back s o k));
      called = refl;
      alone = refl;
    })

pub call_back : (s : Scope) (name : Name) (es : List Expr) → s.in_function ≡ false → is_some (function name) ≡ true → Every (Back s) es → Back s (expr.Call name es)
unfolding n.shown last_of alone_of n.called
call_back s name es h known k =
    by s _ _ (d.call_is name es s.levels)
    (record {
      gives = same_gives _ _ _ (r.call_is name _ s)
          (also_gives _ _ _ (both_quiet _ _ (written_quiet s name h) (ap (λ b. (breaks rule.Names (not b)).least) known ∙ unbroken rule.Names)) (mapped_gives (λ es. expr.Call name es) (each (named_in s) (map (qualified_in s.levels) es)) es (all_back s es k)));
      called = refl;
      alone = refl;
    })

-- ---- subqueries

query_gives : (s : Scope) (q : Query) (f : Query → Expr) → BackQuery s q → Gives (mapped (λ (x : Shown Query). f x.it) (named_query (qualified_shown q s.levels).it s)) (f q)
query_gives s q f h = (ap f h.0, h.2)

pub scalar_back : (s : Scope) (q : Query) → BackQuery s q → Back s (expr.Scalar q)
unfolding n.shown last_of alone_of
scalar_back s q h = by s _ _ (d.scalar_is q s.levels) (record { gives = same_gives _ _ _ (r.scalar_is _ s) (query_gives s q (λ q. expr.Scalar q) h); called = refl; alone = refl })

pub exists_back : (s : Scope) (q : Query) → BackQuery s q → Back s (expr.Exists q)
unfolding n.shown last_of alone_of
exists_back s q h = by s _ _ (d.exists_is q s.levels) (record { gives = same_gives _ _ _ (r.exists_is _ s) (query_gives s q (λ q. expr.Exists q) h); called = refl; alone = refl })
