-- What is like a node can be derived, where what is like its parts can be.
use Rattle.std.proofs.Common.{◌≡◌, ℕ, ℤ, suc, Bool, true, false, List, [], ◌∷◌, Some, None, refl, sym, subst}
use Rattle.std.proofs.lemmas.Option.{same_Some}
use Rattle.away_grammar.specs.declared.grammar.Mark.{Mark}
use Rattle.away_grammar.specs.declared.grammar.Mark.TheVariants as m
use Rattle.away_grammar.specs.declared.grammar.Level.{Level}
use Rattle.away_grammar.specs.declared.grammar.Level.TheVariants as l
use Rattle.away_values.specs.declared.types.Ty.{Ty}
use Rattle.away_values.specs.declared.types.Ty.TheVariants as types
use Rattle.away_values.specs.Operators.{literal_type}
use Rattle.away_values.specs.declared.operators.ChainOp.{ChainOp}
use Rattle.away_values.specs.declared.operators.CmpOp.{CmpOp}
use Rattle.away_values.specs.declared.operators.IsTest.{IsTest}
use Rattle.away_trees.specs.declared.queries.Expr.{Expr}
use Rattle.away_trees.specs.declared.queries.Expr.TheVariants as e
use Rattle.away_trees.specs.declared.queries.Expr.TheOpen as ex
use Rattle.away_trees.specs.declared.queries.Query.{Query}
use Rattle.away_grammar.specs.Terminals.{name, string}
use Rattle.away_grammar.specs.Grammar.{at, links, list, arms, query, operands, comparison_of, test_of, literal_of, called, type_named, IsChain, is_number}
use Rattle.away_grammar.specs.Printing.{type_name}
use Rattle.sql_printer.specs.Writable.{Writable}
use Rattle.sql_printer.proofs.PrintClear.{type_writable}
use Rattle.cte_prints.specs.Derivable.{Derivable}
use Rattle.cte_prints.specs.Like.{IsLike, value, values, links as link_list, arms as arm_list, maybe, query as whole_query}
use Rattle.cte_prints.specs.Like as k
use Rattle.cte_prints.proofs.Shapes.{LikeNull, alone, cast_to, LikeName, column, LikeOne, one, LikeTwo, two, LikeThree, three, LikeChain, chain, LikeChoice}
use Rattle.cte_prints.proofs.Shapes.{choice, LikeCases, cases, LikeCall, call, LikeWhole, whole}
use Rattle.cte_prints.proofs.Shapes.{shape, see_int, see_str, see_bool, see_null, see_cast}
use Rattle.cte_prints.proofs.DeriveNodes as derive
use Rattle.cte_prints.proofs.DeriveNodes.{deepened}
use Rattle.cte_prints.proofs.DeriveLevels.{at_or}

-- ---- casts

-- The name that a type prints as is its name.
pub castable_name : (t : Ty) → type_named (type_name t) ≡ Some t
unfolding type_named
castable_name types.Bigint = refl
castable_name types.Boolean = refl
castable_name types.Text = refl
castable_name types.Integer = refl

pub derive_cast_to : {d : ℕ} {x : Expr} (t : Ty) → Derivable d (at l.Or) x → Derivable (suc d) (at l.Primary) (e.Cast x t)
derive_cast_to t c = derive.derive_cast (type_name t) (castable_name t) (type_writable t) c

-- ---- what stands alone

pub int_derivable : {d : ℕ} {u : Expr} (n : ℤ) (level : Level) → Derivable d (at level) (e.Int n) → IsLike value (e.Int n) u → Derivable (suc d) (at l.Primary) u
int_derivable {d = d} {u = u} n level c j =
    subst (λ u. Derivable (suc d) (at l.Primary) u) (sym (shape _ u (ex.Int n) (see_int n) j)) (derive_cast_to (literal_type n) (at_or level c))

pub str_derivable : {d : ℕ} {u : Expr} (t : List ℕ) → Writable (string t) → IsLike value (e.Str t) u → Derivable (suc d) (at l.Primary) u
str_derivable {d = d} {u = u} t h j =
    subst (λ u. Derivable (suc d) (at l.Primary) u) (sym (shape _ u (ex.Str t) (see_str t) j)) (derive_cast_to types.Text (at_or l.Primary (derive.derive_text h)))

bool_derivable : {d : ℕ} {u : Expr} (v : Bool) → Derivable d (at l.Primary) (e.Bool v) → IsLike value (e.Bool v) u → Derivable (suc d) (at l.Primary) u
bool_derivable {d = d} {u = u} v c j =
    subst (λ u. Derivable (suc d) (at l.Primary) u) (sym (shape _ u (ex.Bool v) (see_bool v) j)) (derive_cast_to types.Boolean (at_or l.Primary c))

null_by : {d : ℕ} {u : Expr} → LikeNull u → Derivable (suc d) (at l.Primary) u
null_by alone = derive.derive_literal m.Null refl
null_by (cast_to t) = derive_cast_to t (at_or l.Primary (derive.derive_literal m.Null refl))

null_derivable : {d : ℕ} {u : Expr} → IsLike value e.Null u → Derivable (suc d) (at l.Primary) u
null_derivable {u = u} j = null_by (shape _ u ex.Null see_null j)

pub literal_derivable : {d : ℕ} (terminal : Mark) (x u : Expr) → literal_of terminal ≡ Some x → IsLike value x u → Derivable (suc d) (at l.Primary) u
literal_derivable m.True x u h j = bool_derivable true (derive.derive_literal m.True refl) (subst (λ x. IsLike value x u) (sym (same_Some _ _ h)) j)
literal_derivable m.False x u h j = bool_derivable false (derive.derive_literal m.False refl) (subst (λ x. IsLike value x u) (sym (same_Some _ _ h)) j)
literal_derivable m.Null x u h j = null_derivable (subst (λ x. IsLike value x u) (sym (same_Some _ _ h)) j)
literal_derivable _ x u h j = absurd (cc h)

pub name_writable : {d : ℕ} {u : Expr} → LikeName u → Derivable d (at l.Primary) u
name_writable (column a c h j) = derive.derive_qualified h j

-- ---- nodes with parts

pub chain_derivable : {d : ℕ} {level : Level} {x u : Expr} {y : ChainOp × Expr} {ys : List (ChainOp × Expr)} → LikeChain x (y ∷ ys) u → IsChain level
    → ((v : Expr) → IsLike value x v → Derivable d (at (operands level)) v)
    → ((vs : List (ChainOp × Expr)) → IsLike link_list (y ∷ ys) vs → Derivable d (links level) vs)
    → Derivable d (at level) u
chain_derivable (chain {u = v} h (k.one_link o i j)) p c b = derive.derive_chain p (c v h) (b _ (k.one_link o i j))

pub not_derivable : {d : ℕ} {x u : Expr} → LikeOne (λ x. e.Not x) x u → ((v : Expr) → IsLike value x v → Derivable d (at l.Is) v) → Derivable d (at l.Not) u
not_derivable (one {u = v} h) c = derive.derive_not (c v h)

pub is_derivable : {d : ℕ} {x u : Expr} {test : IsTest} (v : Bool) (terminal : Mark) → test_of terminal ≡ Some test → LikeOne (λ x. e.Is x test v) x u
    → ((w : Expr) → IsLike value x w → Derivable d (at l.Compare) w) → Derivable d (at l.Is) u
is_derivable v terminal g (one {u = w} h) c = derive.derive_is v terminal g (c w h)

pub compare_derivable : {d : ℕ} {x y u : Expr} {o : CmpOp} (terminal : Mark) → comparison_of terminal ≡ Some o → LikeTwo (λ x y. e.Compare o x y) x y u
    → ((v : Expr) → IsLike value x v → Derivable d (at l.Range) v) → ((v : Expr) → IsLike value y v → Derivable d (at l.Range) v) → Derivable d (at l.Compare) u
compare_derivable terminal g (two {u = v} {v = w} h j) c b = derive.derive_compare terminal g (c v h) (b w j)

pub between_derivable : {d : ℕ} {x y z u : Expr} (n : Bool) → LikeThree (λ x y z. e.Between n x y z) x y z u
    → ((v : Expr) → IsLike value x v → Derivable d (at l.Concat) v) → ((v : Expr) → IsLike value y v → Derivable d (at l.Concat) v)
    → ((v : Expr) → IsLike value z v → Derivable d (at l.Concat) v) → Derivable d (at l.Range) u
between_derivable n (three {u = p} {v = q} {w = r} h i j) c b a = derive.derive_between n (c p h) (b q i) (a r j)

pub one_of_derivable : {d : ℕ} {x u : Expr} {xs : List Expr} (n : Bool) → LikeChoice n x xs u → ((v : Expr) → IsLike value x v → Derivable (suc d) (at l.Concat) v)
    → ((vs : List Expr) → IsLike values xs vs → Derivable d list vs) → Derivable (suc d) (at l.Range) u
one_of_derivable n (choice {u = v} {us = vs} h j) c b = derive.derive_one_of n (c v h) (b vs j)

pub neg_derivable : {d : ℕ} {x u : Expr} → LikeOne (λ x. e.Neg x) x u → ((v : Expr) → IsLike value x v → Derivable d (at l.Cast) v) → Derivable d (at l.Sign) u
neg_derivable (one {u = v} h) c = derive.derive_neg (c v h)

pub cast_derivable : {d : ℕ} {x u : Expr} (t : Ty) → LikeOne (λ x. e.Cast x t) x u → ((v : Expr) → IsLike value x v → Derivable d (at l.Or) v)
    → Derivable (suc d) (at l.Primary) u
cast_derivable t (one {u = v} h) c = derive_cast_to t (c v h)

-- two casts, one round the other
pub casts_derivable : {d : ℕ} {x u : Expr} (t s : Ty) → LikeOne (λ x. e.Cast x s) (e.Cast x t) u
    → ((v : Expr) → IsLike value x v → Derivable d (at l.Or) v) → Derivable (suc (suc d)) (at l.Primary) u
casts_derivable {x = x} t s h c = cast_derivable s h (λ v j. at_or l.Primary (cast_derivable t (shape (e.Cast x t) v (ex.Cast x t) (see_cast x t) j) c))

pub scalar_derivable : {d : ℕ} {q : Query} {u : Expr} → LikeWhole (λ q. e.Scalar q) q u → ((p : Query) → IsLike whole_query q p → Derivable d query p)
    → Derivable (suc d) (at l.Primary) u
scalar_derivable (whole {p = p} h) c = derive.derive_scalar (c p h)

pub exists_derivable : {d : ℕ} {q : Query} {u : Expr} → LikeWhole (λ q. e.Exists q) q u → ((p : Query) → IsLike whole_query q p → Derivable d query p)
    → Derivable (suc d) (at l.Primary) u
exists_derivable (whole {p = p} h) c = derive.derive_exists (c p h)

pub cases_derivable : {d : ℕ} {a : Expr × Expr} {more : List (Expr × Expr)} {u : Expr} → LikeCases (a ∷ more) None u
    → ((vs : List (Expr × Expr)) → IsLike arm_list (a ∷ more) vs → Derivable d arms vs) → Derivable (suc d) (at l.Primary) u
cases_derivable (cases (k.one_arm h i j) k.nothing) c = derive.derive_cases (c _ (k.one_arm h i j))

pub cases_else_derivable : {d : ℕ} {a : Expr × Expr} {more : List (Expr × Expr)} {x u : Expr} → LikeCases (a ∷ more) (Some x) u
    → ((vs : List (Expr × Expr)) → IsLike arm_list (a ∷ more) vs → Derivable d arms vs) → ((v : Expr) → IsLike value x v → Derivable d (at l.Or) v)
    → Derivable (suc d) (at l.Primary) u
cases_else_derivable (cases (k.one_arm h i j) (k.something g)) c b = derive.derive_cases_else (c _ (k.one_arm h i j)) (b _ g)

pub call_word_derivable : {d : ℕ} {n : List ℕ} {xs : List Expr} {u : Expr} (terminal : Mark) → called terminal ≡ Some n → LikeCall n xs u
    → ((vs : List Expr) → IsLike values xs vs → Derivable d list vs) → Derivable (suc d) (at l.Primary) u
call_word_derivable terminal g (call {us = vs} h) c = derive.derive_call_word terminal g (c vs h)

pub call_derivable : {d : ℕ} {n : List ℕ} {xs : List Expr} {u : Expr} → Writable (name n) → LikeCall n xs u
    → ((vs : List Expr) → IsLike values xs vs → Derivable d list vs)
    → Derivable (suc d) (at l.Primary) u
call_derivable g (call {us = vs} h) c = derive.derive_call g (c vs h)

pub call_empty_derivable : {d : ℕ} {n : List ℕ} {u : Expr} → Writable (name n) → LikeCall n [] u → Derivable (suc d) (at l.Primary) u
call_empty_derivable g (call k.no_value) = derive.derive_call_empty g

-- ---- keys

-- No integer stays alone.
pub never_number : {x u : Expr} → IsLike value x u → is_number u ≡ false
never_number (k.int n) = refl
never_number (k.str t) = refl
never_number (k.bool v) = refl
never_number k.null = refl
never_number (k.null_as t) = refl
never_number (k.named n a c h j) = refl
never_number (k.qualified b n a c h j) = refl
never_number (k.neg h) = refl
never_number (k.not h) = refl
never_number (k.is t v h) = refl
never_number (k.chain h j) = refl
never_number (k.compare o h j) = refl
never_number (k.between v h j l) = refl
never_number (k.one_of v h j) = refl
never_number (k.cast t h) = refl
never_number (k.cases h j) = refl
never_number (k.call n h) = refl
never_number k.count_rows = refl
never_number (k.scalar h) = refl
never_number (k.exists h) = refl
