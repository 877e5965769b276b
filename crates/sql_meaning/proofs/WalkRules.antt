-- The steps of each walk over a list: what is left at its end, and what its next item leaves.
use Rattle.std.proofs.Common.{◌≡◌, refl, sym, ◌∙◌, ap, ℕ, true, false, if◌then◌else◌, List, [], ◌∷◌, ◌++◌, length, map, Some, None, Ok, Err, append_assoc, rules, ◌<◌, ◌≤◌, ◌+◌, get_or, drop}
use Rattle.std.proofs.lemmas.List.{drop_more, drop_all}
use Rattle.away_values.specs.declared.values.Value.{Value}
use Rattle.away_values.specs.declared.values.Value.TheVariants as val
use Rattle.away_values.specs.declared.operators.ChainOp.{ChainOp}
use Rattle.away_values.specs.declared.operators.ChainOp.TheVariants as chain
use Rattle.away_values.specs.declared.operators.CmpOp.TheVariants as cmp
use Rattle.away_trees.specs.declared.queries.Expr.{Expr}
use Rattle.away_values.specs.Results.{Or, and_then, mapped, each, each_joined}
use Rattle.away_values.specs.Operators.{compare, is_true, is_null}
use Rattle.sql_meaning.specs.Context.{Context, Frame, at_row}
use Rattle.sql_meaning.specs.Gives.{value_of, after, each_of, joined_of, chain_of, among_of, known_of, arms_of, arguments_at, decided_by}
use Rattle.sql_meaning.specs.Meaning.{value}
use Rattle.sql_meaning.specs.Parts.{chained, pair}
use Rattle.sql_meaning.proofs.GivesRules.{gives_rules}

-- the item that a loop takes stands before what it leaves
pub next_item : {A : Type 0} (xs : List A) (i : ℕ) (x : A) → i < length xs → get_or xs i x ∷ drop (i + 1) xs ≡ drop i xs
next_item xs i x h = sym (drop_more xs i x h)

pub none_left : {A : Type 0} (xs : List A) (i : ℕ) → length xs ≤ i → drop i xs ≡ []
none_left xs i h = drop_all i xs h

then_then : {A B C : Type 0} (m : Or A) (f : A → Or B) (g : B → Or C) → and_then (and_then m f) g ≡ and_then m (λ a. and_then (f a) g)
then_then (Ok a) f g = refl
then_then (Err c) f g = refl

pair_goes : (op : ChainOp) (v : Value) → decided_by op v ≡ false → (m : Or Value) → pair op v m ≡ and_then m (λ w. pair op v (Ok w))
pair_goes op v h (Ok w) = refl
pair_goes chain.And v h (Err c) = ap (λ b. if b then Ok (val.Bool false) else Err c) h
pair_goes chain.Or v h (Err c) = ap (λ b. if b then Ok (val.Bool true) else Err c) h
pair_goes chain.Concat v h (Err c) = refl
pair_goes (chain.Int op) v h (Err c) = refl
pair_goes (chain.Small op) v h (Err c) = refl

pair_stops : (op : ChainOp) (v : Value) → decided_by op v ≡ true → (m : Or Value) → pair op v m ≡ Ok v
pair_stops chain.And (val.Bool false) h m = refl
pair_stops chain.And (val.Bool true) h m = cc
pair_stops chain.And val.Null h m = cc
pair_stops chain.And (val.Int n) h m = cc
pair_stops chain.And (val.Text t) h m = cc
pair_stops chain.Or (val.Bool true) h m = refl
pair_stops chain.Or (val.Bool false) h m = cc
pair_stops chain.Or val.Null h m = cc
pair_stops chain.Or (val.Int n) h m = cc
pair_stops chain.Or (val.Text t) h m = cc
pair_stops chain.Concat v h m = cc
pair_stops (chain.Int op) v h m = cc
pair_stops (chain.Small op) v h m = cc

after_then : {A : Type 0} (done : List A) (m : Or A) (rest : Or (List A)) → after done (and_then m (λ y. mapped (λ ys. y ∷ ys) rest)) ≡ and_then m (λ y. after (done ++ y ∷ []) rest)
unfolding after
after_then done (Err c) rest = refl
after_then done (Ok y) (Err c) = refl
after_then done (Ok y) (Ok ys) = ap (λ l. Ok l) (sym (append_assoc done (y ∷ []) ys))

after_joined : {A : Type 0} (done : List A) (m : Or (List A)) (rest : Or (List A)) → after done (and_then m (λ ys. mapped (λ zs. ys ++ zs) rest)) ≡ and_then m (λ ys. after (done ++ ys) rest)
unfolding after
after_joined done (Err c) rest = refl
after_joined done (Ok y) (Err c) = refl
after_joined done (Ok y) (Ok ys) = ap (λ l. Ok l) (sym (append_assoc done y ys))

pub chain_none : (cx : Context) (v : Value) → chain_of cx [] v ≡ Ok v
unfolding chain_of
chain_none cx v = refl

pub chain_goes : (cx : Context) (l : ChainOp × Expr) (links : List (ChainOp × Expr)) (v : Value) → decided_by l.0 v ≡ false → chain_of cx (l ∷ links) v ≡ and_then (value_of cx l.1) (λ w. and_then (pair l.0 v (Ok w)) (chain_of cx links))
unfolding chain_of value_of
chain_goes cx l links v h = ap (λ p. and_then p (chained (map (λ l. (l.0, value l.1 cx)) links))) (pair_goes l.0 v h (value l.1 cx)) ∙ then_then (value l.1 cx) (λ w. pair l.0 v (Ok w)) (chained (map (λ l. (l.0, value l.1 cx)) links))

pub chain_stops : (cx : Context) (l : ChainOp × Expr) (links : List (ChainOp × Expr)) (v : Value) → decided_by l.0 v ≡ true → chain_of cx (l ∷ links) v ≡ chain_of cx links v
unfolding chain_of
chain_stops cx l links v h = ap (λ p. and_then p (chained (map (λ l. (l.0, value l.1 cx)) links))) (pair_stops l.0 v h (value l.1 cx))

pub among_none : (cx : Context) (v so_far : Value) → among_of cx v [] so_far ≡ Ok so_far
unfolding among_of
among_none cx v so_far = refl

pub among_more : (cx : Context) (v so_far : Value) (c : Expr) (cs : List Expr) → among_of cx v (c ∷ cs) so_far ≡ and_then (value_of cx c) (λ w. if is_true (compare cmp.Eq v w) then Ok (val.Bool true) else among_of cx v cs (if is_null (compare cmp.Eq v w) then val.Null else so_far))
unfolding among_of value_of
among_more cx v so_far c cs = refl

pub known_none : (cx : Context) → known_of cx [] ≡ Ok val.Null
unfolding known_of
known_none cx = refl

pub known_more : (cx : Context) (e : Expr) (es : List Expr) → known_of cx (e ∷ es) ≡ and_then (value_of cx e) (λ v. if is_null v then known_of cx es else Ok v)
unfolding known_of value_of
known_more cx e es = refl

pub arms_none : (cx : Context) → arms_of cx [] ≡ Ok None
unfolding arms_of
arms_none cx = refl

pub arms_more : (cx : Context) (arm : Expr × Expr) (arms : List (Expr × Expr)) → arms_of cx (arm ∷ arms) ≡ and_then (value_of cx arm.0) (λ b. if is_true b then mapped (λ v. Some v) (value_of cx arm.1) else arms_of cx arms)
unfolding arms_of value_of
arms_more cx arm arms = refl

pub arguments_are : (cx : Context) (es : List Expr) (frame : Frame) → arguments_at cx es frame ≡ each_of (value_of (at_row frame cx)) es
unfolding arguments_at
arguments_are cx es frame = refl

pub after_none : {A : Type 0} (m : Or (List A)) → after [] m ≡ m
unfolding after
after_none (Ok a) = refl
after_none (Err c) = refl

pub each_end : {A B : Type 0} (f : A → Or B) (done : List B) → after done (each_of f []) ≡ Ok done
unfolding after each_of
each_end f done = ap (λ l. Ok l) (search rules)

pub each_more : {A B : Type 0} (f : A → Or B) (done : List B) (x : A) (xs : List A) → after done (each_of f (x ∷ xs)) ≡ and_then (f x) (λ y. after (done ++ y ∷ []) (each_of f xs))
unfolding after each_of
each_more f done x xs = after_then done (f x) (each f xs)

pub joined_end : {A B : Type 0} (f : A → Or (List B)) (done : List B) → after done (joined_of f []) ≡ Ok done
unfolding after joined_of
joined_end f done = ap (λ l. Ok l) (search rules)

pub joined_more : {A B : Type 0} (f : A → Or (List B)) (done : List B) (x : A) (xs : List A) → after done (joined_of f (x ∷ xs)) ≡ and_then (f x) (λ ys. after (done ++ ys) (joined_of f xs))
unfolding after joined_of
joined_more f done x xs = after_joined done (f x) (each_joined f xs)

pub ruleset chain_rules = (gives_rules, next_item, none_left, chain_none, chain_goes, chain_stops)

pub ruleset among_rules = (gives_rules, next_item, none_left, among_none, among_more)

pub ruleset known_rules = (gives_rules, next_item, none_left, known_none, known_more)

pub ruleset arms_rules = (gives_rules, next_item, none_left, arms_none, arms_more)

pub ruleset each_rules = (gives_rules, next_item, none_left, after_none, each_end, each_more)

pub ruleset joined_rules = (gives_rules, arguments_are, next_item, none_left, after_none, joined_end, joined_more)
