-- The literal NULL alone has the kind of NULL.
use Rattle.std.proofs.Common.{◌≡◌, refl, ap, sym, subst, Bool, true, false, ◌||◌, List, [], ◌∷◌, Option, Some, None}
use Rattle.away_values.specs.declared.types.Ty.{Ty}
use Rattle.away_values.specs.declared.types.Ty.TheVariants as ty
use Rattle.away_values.specs.declared.operators.ChainOp.{ChainOp}
use Rattle.away_values.specs.declared.operators.ChainOp.TheVariants as chain
use Rattle.away_trees.specs.declared.queries.Expr.{Expr}
use Rattle.away_trees.specs.declared.queries.Expr.TheBlock as b
use Rattle.away_trees.specs.Algebra.{expr_of, links_of}
use Rattle.away_names.specs.declared.function.Known.{Known}
use Rattle.away_names.specs.declared.function.Known.TheVariants as known
use Rattle.away_names.specs.Functions.{function}
use Rattle.away_typing.specs.declared.kind.Kind.{Kind}
use Rattle.away_typing.specs.declared.kind.Kind.TheVariants.{Null, Of, Sum, Wrong}
use Rattle.away_typing.specs.Kinds.{same, only_if, fits, sum_kind, settled}
use Rattle.away_typing.specs.Typing as typing
use Rattle.away_typing.specs.Typing.{Places, Shape, kind_at, column, pair, chained, cast_kind, castable, call_kind, called, scalar_kind, exists_kind}
use Rattle.elaboration.specs.Converting.{assignable, converts}
use Rattle.cte_types.specs.Linked.{AreLinks, IsLinked}

-- whether it is the literal NULL
abbrev pub is_null : Expr → Bool
is_null b.Null = true
is_null _ = false

abbrev IsNull : Kind → Type 0
IsNull Null = Unit {0}
IsNull _ = ⊥

null_is : (k : Kind) → k ≡ Null → IsNull k
null_is k h = subst IsNull (sym h) tt

only_not : (t : Bool) (k : Kind) → (IsNull k → ⊥) → IsNull (only_if t k) → ⊥
unfolding only_if
only_not true k h n = h n
only_not false k h n = n

type_not : (t : Ty) → IsNull (Of t) → ⊥
type_not ty.Bigint n = n
type_not ty.Boolean n = n
type_not ty.Text n = n
type_not ty.Integer n = n

place_not : (o : Option Ty) → IsNull (kind_at o) → ⊥
unfolding kind_at
place_not None n = n
place_not (Some t) n = type_not t n

pair_not : (op : ChainOp) (j k : Kind) → IsNull (pair op j k) → ⊥
unfolding pair
pair_not chain.Or j k n = only_not _ (Of ty.Boolean) (λ n. n) n
pair_not chain.And j k n = only_not _ (Of ty.Boolean) (λ n. n) n
pair_not chain.Concat j k n = only_not _ (Of ty.Text) (λ n. n) n
pair_not (chain.Int op) j k n = only_not _ (Of ty.Bigint) (λ n. n) n
pair_not (chain.Small op) j k n = only_not _ (Of ty.Integer) (λ n. n) n

chained_not : (p : Places) (ls : List (ChainOp × typing.Term)) (k : Kind) → (IsNull k → ⊥) → IsNull (chained p ls k) → ⊥
chained_not p [] k h n = h n
chained_not p (l ∷ ls) k h n = chained_not p ls (pair l.0 k (l.1 p)) (pair_not l.0 k (l.1 p)) n

cast_not : (t : Ty) (k : Kind) → IsNull (cast_kind t k) → ⊥
unfolding cast_kind
cast_not t Null n = type_not t n
cast_not ty.Bigint Sum n = n
cast_not ty.Boolean Sum n = n
cast_not ty.Text Sum n = n
cast_not ty.Integer Sum n = n
cast_not t Wrong n = n
cast_not t (Of u) n = only_not (castable u t) (Of t) (type_not t) n

settled_not : (k : Kind) → IsNull (settled k) → ⊥
unfolding settled
settled_not Null n = n
settled_not (Of t) n = n
settled_not Sum n = n
settled_not Wrong n = n

one_not : (f : List Kind → Kind) → (IsNull (f []) → ⊥) → ((j : Kind) → IsNull (f (j ∷ [])) → ⊥)
    → ((j k : Kind) (ks : List Kind) → IsNull (f (j ∷ k ∷ ks)) → ⊥) → (ks : List Kind) → IsNull (f ks) → ⊥
one_not f none one more [] n = none n
one_not f none one more (j ∷ []) n = one j n
one_not f none one more (j ∷ k ∷ ks) n = more j k ks n

substr_not : (ks : List Kind) → IsNull (call_kind known.Substr ks) → ⊥
unfolding call_kind
substr_not [] n = n
substr_not (j ∷ []) n = n
substr_not (j ∷ k ∷ []) n = n
substr_not (j ∷ k ∷ l ∷ []) n = only_not _ (Of ty.Text) (λ n. n) n
substr_not (j ∷ k ∷ l ∷ m ∷ ks) n = n

sum_not : (k : Kind) → IsNull (sum_kind k) → ⊥
unfolding sum_kind
sum_not Null n = n
sum_not (Of ty.Bigint) n = n
sum_not (Of ty.Integer) n = n
sum_not (Of ty.Boolean) n = n
sum_not (Of ty.Text) n = n
sum_not Sum n = n
sum_not Wrong n = n

call_not : (f : Known) (ks : List Kind) → IsNull (call_kind f ks) → ⊥
unfolding call_kind
call_not known.Coalesce ks n = settled_not _ n
call_not known.Greatest ks n = settled_not _ n
call_not known.Least ks n = settled_not _ n
call_not known.Length ks n = one_not (call_kind known.Length) (λ n. n) (λ j n. only_not _ (Of ty.Integer) (λ n. n) n) (λ j k ks n. n) ks n
call_not known.Substr ks n = substr_not ks n
call_not known.Count ks n = one_not (call_kind known.Count) (λ n. n) (λ j n. only_not _ (Of ty.Bigint) (λ n. n) n) (λ j k ks n. n) ks n
call_not known.BoolAnd ks n = one_not (call_kind known.BoolAnd) (λ n. n) (λ j n. only_not _ (Of ty.Boolean) (λ n. n) n) (λ j k ks n. n) ks n
call_not known.BoolOr ks n = one_not (call_kind known.BoolOr) (λ n. n) (λ j n. only_not _ (Of ty.Boolean) (λ n. n) n) (λ j k ks n. n) ks n
call_not known.Min ks n = one_not (call_kind known.Min) (λ n. n) (λ j n. only_not _ (settled j) (settled_not j) n) (λ j k ks n. n) ks n
call_not known.Max ks n = one_not (call_kind known.Max) (λ n. n) (λ j n. only_not _ (settled j) (settled_not j) n) (λ j k ks n. n) ks n
call_not known.Sum ks n = one_not (call_kind known.Sum) (λ n. n) sum_not (λ j k ks n. n) ks n

called_not : (o : Option Known) (ks : List Kind) → IsNull (called o ks) → ⊥
unfolding called
called_not None ks n = n
called_not (Some f) ks n = call_not f ks n

scalar_not : (s : Shape) → IsNull (scalar_kind s) → ⊥
unfolding scalar_kind
scalar_not None n = n
scalar_not (Some []) n = n
scalar_not (Some (t ∷ [])) n = n
scalar_not (Some (t ∷ u ∷ ts)) n = n

exists_not : (s : Shape) → IsNull (exists_kind s) → ⊥
unfolding exists_kind
exists_not s n = only_not _ (Of ty.Boolean) (λ n. n) n

links_not : {m : _} (p : Places) (k : Kind) (links : b.Row_of-Expr-Chain-1-2 m) → AreLinks links → IsNull (chained p (links_of typing.typing links) k) → ⊥
links_not p k b.end_of-Expr-Chain-1-2 l n = l
links_not p k (b.more_of-Expr-Chain-1-2 op y rest) l n =
    chained_not p (links_of typing.typing rest) (pair op k (expr_of typing.typing y p)) (pair_not op k (expr_of typing.typing y p)) n

not_null : (e : Expr) (p : Places) → IsLinked e → is_null e ≡ false → IsNull (expr_of typing.typing e p) → ⊥
unfolding column
not_null (b.Int x) p l e n = n
not_null (b.Str t) p l e n = n
not_null (b.Bool v) p l e n = n
not_null b.Null p l e n = cc
not_null (b.Named x) p l e n = n
not_null (b.Dotted x y) p l e n = n
not_null (b.Slot i) p l e n = place_not _ n
not_null (b.Column c) p l e n = place_not _ n
not_null (b.Param i t) p l e n = type_not t n
not_null (b.Neg' s x) p l e n = only_not _ (Of ty.Bigint) (λ n. n) n
not_null (b.NegSmall' s x) p l e n = only_not _ (Of ty.Integer) (λ n. n) n
not_null (b.Not' s x) p l e n = only_not _ (Of ty.Boolean) (λ n. n) n
not_null (b.Is' s x test v) p l e n = only_not _ (Of ty.Boolean) (λ n. n) n
not_null (b.Chain' s x t links) p l e n = links_not p _ links l n
not_null (b.Compare' op s x t y) p l e n = only_not _ (Of ty.Boolean) (λ n. n) n
not_null (b.Between' v s x t y u z) p l e n = only_not _ (Of ty.Boolean) (λ n. n) n
not_null (b.OneOf' v s x t choices) p l e n = only_not _ (Of ty.Boolean) (λ n. n) n
not_null (b.Cast' s x t) p l e n = cast_not t _ n
not_null (b.Cases' s arms other) p l e n = only_not _ (settled _) (settled_not _) n
not_null (b.Call' name s es) p l e n = called_not (function name) _ n
not_null b.CountRows p l e n = n
not_null (b.Scalar' s q) p l e n = scalar_not _ n
not_null (b.Exists' s q) p l e n = exists_not _ n

same_is : (t u : Ty) → same t u ≡ true → u ≡ t
unfolding same
same_is ty.Bigint ty.Bigint h = refl
same_is ty.Boolean ty.Boolean h = refl
same_is ty.Text ty.Text h = refl
same_is ty.Integer ty.Integer h = refl
same_is _ _ h = cc

fitting : (t : Ty) (k : Kind) → (IsNull k → ⊥) → fits t k ≡ true → k ≡ Of t
unfolding fits
fitting t Null h f = absurd (h tt)
fitting t (Of u) h f = ap (λ t. Of t) (same_is t u f)
fitting t Sum h f = cc
fitting t Wrong h f = cc

-- what fits a type and isn't the literal NULL is of the type
pub kind_exact : (e : Expr) (p : Places) (t : Ty) → IsLinked e → is_null e ≡ false → fits t (expr_of typing.typing e p) ≡ true
    → expr_of typing.typing e p ≡ Of t
kind_exact e p t l n f = fitting t (expr_of typing.typing e p) (not_null e p l n) f

-- ---- what stands for the other type of numbers too

-- the type of a kind; the literal NULL has that which is asked for
abbrev pub own_type : Ty → Kind → Ty
own_type t (Of u) = u
own_type t _ = t

owning : (t : Ty) (k : Kind) → (IsNull k → ⊥) → assignable t k ≡ true → k ≡ Of (own_type t k)
unfolding assignable converts fits
owning t Null h f = absurd (h tt)
owning t (Of u) h f = refl
owning ty.Bigint Sum h f = cc
owning ty.Boolean Sum h f = cc
owning ty.Text Sum h f = cc
owning ty.Integer Sum h f = cc
owning ty.Bigint Wrong h f = cc
owning ty.Boolean Wrong h f = cc
owning ty.Text Wrong h f = cc
owning ty.Integer Wrong h f = cc

-- what is assignable and isn't the literal NULL is of its own type
pub kind_own : (e : Expr) (p : Places) (t : Ty) → IsLinked e → is_null e ≡ false → assignable t (expr_of typing.typing e p) ≡ true
    → expr_of typing.typing e p ≡ Of (own_type t (expr_of typing.typing e p))
kind_own e p t l n f = owning t (expr_of typing.typing e p) (not_null e p l n) f

left_if : (a b : Bool) → (a || b) ≡ true → b ≡ false → a ≡ true
left_if true b h k = refl
left_if false b h k = cc

-- what is not converted is of the type
pub own_fits : (t : Ty) (k : Kind) → assignable t k ≡ true → converts t k ≡ false → own_type t k ≡ t
unfolding assignable fits
own_fits t Null h c = refl
own_fits t Sum h c = refl
own_fits t Wrong h c = refl
own_fits t (Of u) h c = same_is t u (left_if (same t u) (converts t (Of u)) h c)

-- what is converted is of the type under a cast
pub own_cast : (t : Ty) (k : Kind) → converts t k ≡ true → cast_kind t (Of (own_type t k)) ≡ Of t
unfolding converts cast_kind castable only_if same
own_cast ty.Integer (Of ty.Bigint) h = refl
own_cast ty.Bigint (Of ty.Integer) h = refl
own_cast ty.Integer (Of ty.Integer) h = cc
own_cast ty.Integer (Of ty.Boolean) h = cc
own_cast ty.Integer (Of ty.Text) h = cc
own_cast ty.Integer Null h = cc
own_cast ty.Integer Sum h = cc
own_cast ty.Integer Wrong h = cc
own_cast ty.Bigint (Of ty.Bigint) h = cc
own_cast ty.Bigint (Of ty.Boolean) h = cc
own_cast ty.Bigint (Of ty.Text) h = cc
own_cast ty.Bigint Null h = cc
own_cast ty.Bigint Sum h = cc
own_cast ty.Bigint Wrong h = cc
own_cast ty.Boolean k h = cc
own_cast ty.Text k h = cc
