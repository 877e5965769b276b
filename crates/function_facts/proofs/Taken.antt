-- Along a function's statements its variables and FORs take slots, and what is read or set has a slot that is taken.
use Rattle.std.proofs.Common.{◌≡◌, refl, sym, ap, subst, ◌∙◌, ℕ, ◌*◌, ◌<◌, ◌≤◌, arith, append_assoc, append-nil, length-append, Bool, true, List, [], ◌∷◌, ◌++◌, map, flat_map, fold, length, replicate, Option, Some, None}
use Rattle.std.proofs.lemmas.Grind.{flat_map-append}
use Rattle.std.proofs.lemmas.List.{map-append, replicate-append-replicate}
use Rattle.away_values.specs.declared.types.Ty.{Ty}
use Rattle.away_values.specs.declared.types.Ty.TheVariants as ty
use Rattle.away_trees.specs.declared.queries.Expr.{Expr}
use Rattle.away_trees.specs.declared.queries.Select.{Select}
use Rattle.away_trees.specs.declared.statements.Decl.{Decl}
use Rattle.away_names.specs.declared.scope.Variable.{Variable}
use Rattle.away_names.specs.Lookups.{Name, Scope}
use Rattle.away_names.specs.Notes.{held}
use Rattle.away_names.specs.Trees.{named_expr, named_select}
use Rattle.away_types.specs.declared.resolved.Declared.{Declared}
use Rattle.away_types.specs.declared.slots.Slot.{Slot}
use Rattle.away_types.specs.declared.slots.Slots.{Slots}
use Rattle.away_types.specs.Statements as n
use Rattle.away_types.specs.Statements.{with_variable, with_slot}
use Rattle.sql_meaning.specs.Reads.{reads}
use Rattle.select_into.specs.Entries.{Target}
use Rattle.plsql_meaning.specs.Sight.{query_of}
use Rattle.block_forms.specs.Expressions.{if_there}
use Rattle.block_forms.specs.Intos.{Into}
use Rattle.block_forms.specs.Slots.{slot, types_of, hidden_slot}
use Rattle.type_soundness.specs.Sorts.{Every}
use Rattle.type_soundness.proofs.CleanNotes.{Clean, clean_parts}
use Rattle.type_soundness.proofs.Lists.{every_append}
use Rattle.function_facts.proofs.Walks.{map_push, shown_push}
use Rattle.function_facts.proofs.SlotLookups.{IsBelow, below_more, VariablesBelow, Within}
use Rattle.function_facts.proofs.SlotsOfTrees.{expr_below, into_below}
use Rattle.function_facts.proofs.Found.{Found, still, behind, all, all_push, found_decl}

-- ---- below a greater number

pub every_more : {A : Type 0} (P Q : A → Type 0) → ((x : A) → P x → Q x) → (xs : List A) → Every P xs → Every Q xs
every_more P Q go [] h = tt
every_more P Q go (x ∷ xs) h = (go x h.0, every_more P Q go xs h.1)

abbrev pub SourceBelow : ℕ → Expr → Type 0
SourceBelow slots e = Every (IsBelow slots) (reads e)

pub source_more : (a b : ℕ) → a ≤ b → (e : Expr) → SourceBelow a e → SourceBelow b e
source_more a b l e h = every_more (IsBelow a) (IsBelow b) (below_more a b l) (reads e) h

pub variables_more : (a b : ℕ) → a ≤ b → (vs : List Variable) → VariablesBelow a vs → VariablesBelow b vs
variables_more a b l vs h = every_more (λ (v : Variable). v.slot < a) (λ (v : Variable). v.slot < b) (λ v k. omega (arith, l, k)) vs h

-- a place in a function under no select
abbrev pub Placed : ℕ → Scope → Type 0
Placed slots s = Within slots s × (s.levels ≡ [])

pub placed_more : (a b : ℕ) → a ≤ b → (s : Scope) → Placed a s → Placed b s
placed_more a b l s p = ((p.0.0, variables_more a b l s.variables p.0.1), p.1)

-- ---- what takes its slots

abbrev pub hidden_slots : ℕ → List Slot
hidden_slots fors = replicate (3 * fors) (slot ty.Integer)

abbrev pub targets_in : List Into → List Target
targets_in is = flat_map (λ (i : Into). i.targets) is

-- one for each target
abbrev pub target_slots : List Slot → List Into → List Slot
target_slots shown is = map (hidden_slot (types_of shown)) (targets_in is)

-- the select of a SELECT INTO reads slots below a number
abbrev pub IntoBelow : ℕ → Into → Type 0
IntoBelow slots i = SourceBelow slots (query_of i.query)

-- a target's type is that of its variable whatever slots come later
pub record Takes (f : Found) (before after : Slots) : Type 0 where
  pub shown : after.shown ≡ before.shown ++ f.variables
  pub hidden : after.hidden ≡ before.hidden ++ hidden_slots f.fors
  pub picked : (later : List Slot) → after.picked ≡ before.picked ++ target_slots (after.shown ++ later) f.intos
  pub many : f.many ≡ length f.variables
  pub intos : Every (IntoBelow (length after.shown)) f.intos
  pub targets : Every (λ t. t < length after.shown) f.targets
  pub sources : Every (SourceBelow (length after.shown)) f.sources

pub grows : (f : Found) (before after : Slots) → Takes f before after → length before.shown ≤ length after.shown
grows f before after t = let e = ap (λ (xs : List Slot). length xs) t.shown ∙ length-append before.shown f.variables in omega (arith, e)

pub none_hidden : (xs : List Slot) → xs ≡ xs ++ hidden_slots 0
none_hidden xs = sym (append-nil xs)

pub none_picked : (xs : List Slot) → xs ≡ xs ++ []
none_picked xs = sym (append-nil xs)

into_more : (a b : ℕ) → a ≤ b → (i : Into) → IntoBelow a i → IntoBelow b i
into_more a b l i h = source_more a b l (query_of i.query) h

targets_behind : (shown : List Slot) (xs ys : List Into) → target_slots shown (xs ++ ys) ≡ target_slots shown xs ++ target_slots shown ys
targets_behind shown xs ys =
    ap (map (hidden_slot (types_of shown))) (flat_map-append (λ (i : Into). i.targets) xs ys) ∙ map-append (hidden_slot (types_of shown)) (targets_in xs) (targets_in ys)

pub takes_none : (targets : List ℕ) (sources : List Expr) (slots : Slots) → Every (λ t. t < length slots.shown) targets → Every (SourceBelow (length slots.shown)) sources → Takes (still targets sources) slots slots
takes_none targets sources slots t s = record { shown = sym (append-nil slots.shown); hidden = none_hidden slots.hidden; picked = λ later. none_picked slots.picked; many = refl; intos = tt; targets = t; sources = s }

pub takes_behind : (a b : Found) (first between last : Slots) → Takes a first between → Takes b between last → Takes (behind a b) first last
takes_behind a b first between last s t =
    let l = grows b between last t in
    record {
      shown = t.shown ∙ (ap (λ xs. xs ++ b.variables) s.shown ∙ append_assoc first.shown a.variables b.variables);
      hidden = t.hidden ∙ (ap (λ xs. xs ++ hidden_slots b.fors) s.hidden ∙ (append_assoc first.hidden (hidden_slots a.fors) (hidden_slots b.fors)
          ∙ ap (λ xs. first.hidden ++ xs) (replicate-append-replicate (3 * a.fors) (3 * b.fors) (slot ty.Integer) ∙ ap (λ k. replicate k (slot ty.Integer)) (omega arith))));
      picked = λ later.
          let next = b.variables ++ later in
          let same : between.shown ++ next ≡ last.shown ++ later = sym (append_assoc between.shown b.variables later) ∙ ap (λ xs. xs ++ later) (sym t.shown) in
          t.picked later
          ∙ (ap (λ xs. xs ++ target_slots (last.shown ++ later) b.intos) (s.picked next ∙ ap (λ xs. first.picked ++ target_slots xs a.intos) same)
          ∙ (append_assoc first.picked (target_slots (last.shown ++ later) a.intos) (target_slots (last.shown ++ later) b.intos)
          ∙ ap (λ xs. first.picked ++ xs) (sym (targets_behind (last.shown ++ later) a.intos b.intos))));
      many = omega (arith, s.many, t.many, length-append a.variables b.variables);
      intos = every_append (IntoBelow (length last.shown)) a.intos b.intos (every_more (IntoBelow (length between.shown)) (IntoBelow (length last.shown)) (into_more (length between.shown) (length last.shown) l) a.intos s.intos) t.intos;
      targets = every_append (λ t. t < length last.shown) a.targets b.targets (every_more (λ t. t < length between.shown) (λ t. t < length last.shown) (λ x h. omega (arith, l, h)) a.targets s.targets) t.targets;
      sources = every_append (SourceBelow (length last.shown)) a.sources b.sources (every_more (SourceBelow (length between.shown)) (SourceBelow (length last.shown)) (source_more (length between.shown) (length last.shown) l) a.sources s.sources) t.sources;
    }

pub takes_push : {A : Type 0} (f : A → Found) (xs : List A) (x : A) (first between last : Slots) → Takes (all (map f xs)) first between → Takes (f x) between last → Takes (all (map f (xs ++ x ∷ []))) first last
takes_push f xs x first between last s t = subst (λ y. Takes y first last) (sym (ap all (map_push f xs x) ∙ all_push (map f xs) (f x))) (takes_behind (all (map f xs)) (f x) first between last s t)

-- ---- expressions

pub expr_taken : (slots : ℕ) (e : Expr) (scope : Scope) → Placed slots scope → Clean (named_expr e scope).note → SourceBelow slots (named_expr e scope).it
expr_taken slots e scope p c = expr_below slots e scope p.0 p.1 c

pub into_taken : (slots : ℕ) (x : Select) (scope : Scope) → Placed slots scope → Clean (named_select x scope).note → SourceBelow slots (query_of (named_select x scope).it.it)
into_taken slots x scope p c = into_below slots x scope p.0 p.1 c

pub maybe_taken : (slots : ℕ) (o : Option Expr) (scope : Scope) → Placed slots scope → Clean (held (λ e. named_expr e scope) o).note → Every (SourceBelow slots) (if_there (held (λ e. named_expr e scope) o).it)
maybe_taken slots None scope p c = tt
maybe_taken slots (Some e) scope p c = (expr_taken slots e scope p c, tt)

-- ---- declarations

-- a variable more in sight, whose slot is the next one
pub variable_taken : (name : Name) (constant : Bool) (t : Ty) (not_null : Bool) (slots : Slots) (vs : List Variable) → VariablesBelow (length slots.shown) vs → VariablesBelow (length (with_slot t not_null slots).shown) (with_variable name constant slots vs)
unfolding with_variable
variable_taken name constant t not_null slots vs h =
    let l = shown_push t not_null slots in
    every_append (λ (v : Variable). v.slot < length (with_slot t not_null slots).shown) vs (record { name = name; slot = length slots.shown; constant = constant } ∷ [])
    (variables_more (length slots.shown) (length (with_slot t not_null slots).shown) (omega (arith, l)) vs h) (omega (arith, l), tt)

pub record DeclaredTakes (before : Slots) (d : Declared) : Type 0 where
  pub takes : Takes (all (map found_decl d.it)) before d.slots
  pub in_sight : VariablesBelow (length d.slots.shown) d.variables

slot_taken : (d : Decl) (slots : Slots) → Every (SourceBelow (length slots.shown)) (if_there d.default) → Takes (found_decl d) slots (with_slot d.ty d.not_null slots)
unfolding with_slot
slot_taken d slots h =
    let l = shown_push d.ty d.not_null slots in
    record {
      shown = refl;
      hidden = none_hidden slots.hidden;
      picked = λ later. none_picked slots.picked;
      many = refl;
      intos = tt;
      targets = tt;
      sources = every_more (SourceBelow (length slots.shown)) (SourceBelow (length (with_slot d.ty d.not_null slots).shown)) (source_more (length slots.shown) (length (with_slot d.ty d.not_null slots).shown) (omega (arith, l))) (if_there d.default) h;
    }

-- the scope's variables are not asked for: a default sees those of the declarations before it
decl_taken : (scope : Scope) (d : Decl) (before : Slots) (acc : Declared) → scope.in_function ≡ true → scope.levels ≡ [] → DeclaredTakes before acc → Clean (n.with_declared scope acc d).note → DeclaredTakes before (n.with_declared scope acc d)
decl_taken scope d before acc f l g c =
    let x = n.declared d (n.seeing acc.variables scope) in
    let rest = clean_parts _ _ (clean_parts _ _ (clean_parts acc.note x.note c).1).1 in
    record {
      takes = takes_push found_decl acc.it x.it before acc.slots (with_slot d.ty d.not_null acc.slots) g.takes
          (slot_taken x.it acc.slots (maybe_taken (length acc.slots.shown) d.default (n.seeing acc.variables scope) ((f, g.in_sight), l) rest.1));
      in_sight = variable_taken d.name d.constant d.ty d.not_null acc.slots acc.variables g.in_sight;
    }

decls_taken : (scope : Scope) (before : Slots) (ds : List Decl) (acc : Declared) → scope.in_function ≡ true → scope.levels ≡ [] → (Clean acc.note → DeclaredTakes before acc) → Clean (fold (n.with_declared scope) acc ds).note → DeclaredTakes before (fold (n.with_declared scope) acc ds)
decls_taken scope before [] acc f l g c = g c
decls_taken scope before (d ∷ ds) acc f l g c =
    let x = n.declared d (n.seeing acc.variables scope) in
    decls_taken scope before ds (n.with_declared scope acc d) f l (λ c. decl_taken scope d before acc f l (g (clean_parts acc.note x.note c).0) c) c

pub declared_taken : (scope : Scope) (ds : List Decl) (slots : Slots) → Placed (length slots.shown) scope → Clean (n.declared_all ds scope slots).note → DeclaredTakes slots (n.declared_all ds scope slots)
declared_taken scope ds slots p c = decls_taken scope slots ds (n.none_declared scope slots) p.0.0 p.1 (λ c. record { takes = takes_none [] [] slots tt tt; in_sight = p.0.1 }) c
