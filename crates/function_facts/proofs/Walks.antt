-- Along a function's statements the slots in sight are those of the variables that names see.
use Rattle.std.proofs.Common.{◌≡◌, refl, sym, ap, subst, ◌∙◌, ℕ, ◌+◌, arith, Bool, List, [], ◌∷◌, ◌++◌, map, fold, length, Option, Some, None}
use Rattle.away_values.specs.declared.types.Ty.{Ty}
use Rattle.away_trees.specs.declared.queries.Expr.{Expr}
use Rattle.away_trees.specs.declared.queries.Select.{Select}
use Rattle.away_trees.specs.declared.statements.Decl.{Decl}
use Rattle.away_names.specs.declared.scope.Variable.{Variable}
use Rattle.away_names.specs.Lookups.{Name, Scope}
use Rattle.away_names.specs.Notes.{held}
use Rattle.away_names.specs.Trees.{named_expr, named_select}
use Rattle.away_types.specs.declared.resolved.Declared.{Declared}
use Rattle.away_types.specs.declared.slots.Slots.{Slots}
use Rattle.away_types.specs.Statements as n
use Rattle.away_types.specs.Statements.{Spot, By, resolving, with_variable, with_slot, with_hidden}
use Rattle.type_soundness.specs.Sorts.{Every}
use Rattle.type_soundness.proofs.CleanNotes.{Clean, clean_parts}
use Rattle.type_soundness.proofs.Lists.{every_append}
use Rattle.function_facts.specs.Sight as sight
use Rattle.function_facts.specs.Sight.{Sighted, Walked, Walk, walking}
use Rattle.function_facts.specs.InSight.{ReadsInSight}
use Rattle.function_facts.proofs.Names.{slots_of}
use Rattle.function_facts.proofs.TreesInSight.{expr_seen, into_seen}

-- ---- numbers and lists

pub length_push : {A : Type 0} (xs : List A) (x : A) → length (xs ++ x ∷ []) ≡ length xs + 1
length_push [] x = refl
length_push (y ∷ ys) x = omega (arith, length_push ys x)

pub map_push : {A B : Type 0} (f : A → B) (xs : List A) (x : A) → map f (xs ++ x ∷ []) ≡ map f xs ++ f x ∷ []
map_push f [] x = refl
map_push f (y ∷ ys) x = ap (λ zs. f y ∷ zs) (map_push f ys x)

pub fold_push : {A B : Type 0} (g : B → A → B) (a : B) (xs : List A) (x : A) → fold g a (xs ++ x ∷ []) ≡ g (fold g a xs) x
fold_push g a [] x = refl
fold_push g a (y ∷ ys) x = fold_push g (g a y) ys x

-- ---- what has been walked

-- all its expressions read slots in sight, and the slots that are taken are those of the variables so far
pub record Good (w : Walked) (slots : Slots) : Type 0 where
  pub exprs : Every ReadsInSight w.exprs
  pub next : w.next ≡ length slots.shown

pub good_none : (next : ℕ) (seen : List ℕ) (slots : Slots) → next ≡ length slots.shown → Good (sight.no_expr next seen) slots
good_none next seen slots e = record { exprs = tt; next = e }

pub good_behind : (v w : Walked) (slots : Slots) → Every ReadsInSight v.exprs → Good w slots → Good (sight.behind v w) slots
good_behind v w slots h g = record { exprs = every_append ReadsInSight v.exprs w.exprs h g.exprs; next = g.next }

-- ---- expressions

pub expr_read : (e : Expr) (scope : Scope) (next : ℕ) → Clean (named_expr e scope).note → Every ReadsInSight (sight.one_expr (named_expr e scope).it next (slots_of scope.variables)).exprs
unfolding named_expr
expr_read e scope next c = (expr_seen e scope c 0, tt)

pub maybe_read : (o : Option Expr) (scope : Scope) (next : ℕ) → Clean (held (λ e. named_expr e scope) o).note → Every ReadsInSight (sight.maybe_expr (held (λ e. named_expr e scope) o).it next (slots_of scope.variables)).exprs
maybe_read None scope next c = tt
maybe_read (Some e) scope next c = expr_read e scope next c

pub into_read : (x : Select) (scope : Scope) (next : ℕ) → Clean (named_select x scope).note → Every ReadsInSight (sight.one_expr (sight.query_of (named_select x scope).it.it) next (slots_of scope.variables)).exprs
unfolding named_select
into_read x scope next c = (into_seen x scope c 0, tt)

pub maybe_next : (o : Option Expr) (next : ℕ) (seen : List ℕ) → (sight.maybe_expr o next seen).next ≡ next
maybe_next None next seen = refl
maybe_next (Some e) next seen = refl

-- ---- declarations

pub record GoodDeclared (d : sight.Declared) (done : Declared) : Type 0 where
  pub walked : Good d.walked done.slots
  pub sight : d.sight ≡ slots_of done.variables

pub shown_push : (t : Ty) (not_null : Bool) (slots : Slots) → length (with_slot t not_null slots).shown ≡ length slots.shown + 1
unfolding with_slot
shown_push t not_null slots = length_push slots.shown (record { ty = t; not_null = not_null })

pub slots_push : (name : Name) (constant : Bool) (slots : Slots) (vs : List Variable) → slots_of (with_variable name constant slots vs) ≡ slots_of vs ++ length slots.shown ∷ []
unfolding with_variable
slots_push name constant slots vs = map_push (λ (v : Variable). v.slot) vs (record { name = name; slot = length slots.shown; constant = constant })

decl_good : (scope : Scope) (d : Decl) (acc : Declared) (w : sight.Declared) → GoodDeclared w acc → Clean (n.with_declared scope acc d).note → GoodDeclared (sight.with_decl w (n.declared d (n.seeing acc.variables scope)).it) (n.with_declared scope acc d)
decl_good scope d acc w g c =
    let x = n.declared d (n.seeing acc.variables scope) in
    let both = clean_parts acc.note x.note c in
    let names = clean_parts _ _ both.1 in
    let rest = clean_parts _ _ names.1 in
    record {
      walked = record {
        exprs = every_append ReadsInSight w.walked.exprs (sight.maybe_expr x.it.default w.walked.next w.sight).exprs g.walked.exprs
            (subst (λ seen. Every ReadsInSight (sight.maybe_expr x.it.default w.walked.next seen).exprs) (sym g.sight) (maybe_read d.default (n.seeing acc.variables scope) w.walked.next rest.1));
        next = ap (λ k. k + 1) g.walked.next ∙ sym (shown_push d.ty d.not_null acc.slots);
      };
      sight = (λ i. g.sight i ++ g.walked.next i ∷ []) ∙ sym (slots_push d.name d.constant acc.slots acc.variables);
    }

decls_good : (scope : Scope) (next : ℕ) (seen : List ℕ) (ds : List Decl) (acc : Declared) → (Clean acc.note → GoodDeclared (sight.declared acc.it next seen) acc) → Clean (fold (n.with_declared scope) acc ds).note → GoodDeclared (sight.declared (fold (n.with_declared scope) acc ds).it next seen) (fold (n.with_declared scope) acc ds)
decls_good scope next seen [] acc g c = g c
decls_good scope next seen (d ∷ ds) acc g c =
    let x = n.declared d (n.seeing acc.variables scope) in
    decls_good scope next seen ds (n.with_declared scope acc d)
    (λ c. subst (λ w. GoodDeclared w (n.with_declared scope acc d))
    (sym (fold_push sight.with_decl (record { walked = sight.no_expr next seen; sight = seen }) acc.it x.it))
    (decl_good scope d acc (sight.declared acc.it next seen) (g (clean_parts acc.note x.note c).0) c)) c

pub declared_good : (scope : Scope) (ds : List Decl) (slots : Slots) → Clean (n.declared_all ds scope slots).note → GoodDeclared (sight.declared (n.declared_all ds scope slots).it (length slots.shown) (slots_of scope.variables)) (n.declared_all ds scope slots)
declared_good scope ds slots c =
    decls_good scope (length slots.shown) (slots_of scope.variables) ds (n.none_declared scope slots)
    (λ c. record { walked = good_none (length slots.shown) (slots_of scope.variables) slots refl; sight = refl }) c
