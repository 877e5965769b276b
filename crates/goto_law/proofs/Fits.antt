-- When a statement's blocks fit what it does; and the same of statements in a row, of arms and of ELSE.
use Rattle.std.proofs.Common.{◌≡◌, ℕ, suc, ◌+◌, ◌*◌, ◌<◌, ◌≤◌, List, [], ◌∷◌, ◌++◌, length, Option, Some, None, refl, sym, ◌∙◌, subst, arith}
use Rattle.std.proofs.lemmas.List.{length-append}
use Rattle.away_values.specs.declared.values.Class.{Class}
use Rattle.away_trees.specs.declared.queries.Expr.{Expr}
use Rattle.type_soundness.specs.Sorts.{Every}
use Rattle.type_soundness.proofs.Lists.{every_left, every_right}
use Rattle.plsql_meaning.specs.Outcomes.{Env, Outcome, normal, faults, done, Step}
use Rattle.plsql_meaning.specs.Statements.{StatementMeaning, ArmMeaning, row_vars, in_row, arms_vars, in_arms, else_vars, in_else}
use Rattle.block_forms.specs.declared.places.Position.{Position}
use Rattle.block_forms.specs.Around.{Around}
use Rattle.block_forms.specs.Expressions.{Sources, in_turn, of_else}
use Rattle.block_forms.specs.Intos.{Into, row_intos, else_intos}
use Rattle.block_forms.specs.Laid.{Laid, LaidArm, after, a_node, with_expr, row_size, arms_size, else_size, first_block, row_parts, arms_parts, lack, else_parts}
use Rattle.block_forms.specs.OwnSlots.{IsInto}
use Rattle.block_forms.specs.Patterns.{Part, node, no_of}
use Rattle.block_forms.specs.Patterns as form
use Rattle.block_forms.specs.Targets.{Targets, row_targets, else_targets}
use Rattle.goto_law.proofs.Entries.{entries_at, entries_left, entries_right}
use Rattle.goto_law.proofs.Known.{Sides, width, GoesIn, AllStandIn, Entries, Known}
use Rattle.goto_law.proofs.Parts.{left, right}
use Rattle.goto_law.proofs.Steps.{at_next, at_fault, lighter, heavier, in_order, at_choice}
use Rattle.goto_law.proofs.Stretches.{stays, fails_there}

-- slots that are set are below a number
abbrev pub AllBelow : ℕ → Targets → Type 0
AllBelow slots [] = Unit {0}
AllBelow slots (t ∷ ts) = (t < slots) × AllBelow slots ts

pub below_left : (slots : ℕ) (ts us : Targets) → AllBelow slots (ts ++ us) → AllBelow slots ts
below_left slots [] us x = tt
below_left slots (t ∷ ts) us x = (x.0, below_left slots ts us x.1)

pub below_right : (slots : ℕ) (ts us : Targets) → AllBelow slots (ts ++ us) → AllBelow slots us
below_right slots [] us x = x
below_right slots (t ∷ ts) us x = below_right slots ts us x.1

-- how a piece of text without an ELSE ends where no arm is taken
abbrev pub without_arm : Option Class → Outcome
without_arm None = normal
without_arm (Some c) = faults c

module _ (s : Sides) where
  -- A piece of text has its slots, its FORs and its targets of INTO at its place, its expressions stand in the table, what it sets are the function's
  -- variables, and its selects read these alone.
  pub record Has (p size : Position) (es : Sources) (ts : Targets) (is : List Into) : Type 0 where
    pub slots : p.slot + size.slot ≤ width s
    pub fors : width s + 3 * (p.fors + size.fors) ≤ s.form.numbers.targets
    pub targets : s.form.numbers.targets + (p.targets + size.targets) ≤ width s + s.hidden
    pub entries : Entries s p.expr es
    pub sets : AllBelow (width s) ts
    pub intos : Every (IsInto (width s)) is

  -- a piece of text at a place and its first slot, whose parts stand in the form, with the variables with which it begins
  pub record Begun (p : Position) (slot : ℕ) (size : Position) (es : Sources) (ts : Targets) (is : List Into) (parts : List Part)
      (env hid : Env) : Type 0 where
    pub placed : slot ≡ p.slot
    pub has : Has p size es ts is
    pub stand : AllStandIn s parts
    pub wide : length env ≡ width s
    pub long : length hid ≡ s.hidden

  -- the blocks of a statement do what it does
  pub record Fits (x : Laid) (m : StatementMeaning) (es : Sources) (ts : Targets) (is : List Into) : Type 0 where
    pub slots : x.size.slot ≡ m.vars
    pub exprs : x.size.expr ≡ length es
    pub goes : Known s → (p : Position) (slot : ℕ) (around : Around) (next : ℕ) (env hid : Env) (n : ℕ)
        → Begun p slot x.size es ts is (x.parts s.form p around next) env hid
        → GoesIn s around next (node s.form.goto p.node) env hid (3 * p.fors) n (15 * x.size.node) (m.run slot env n)

  pub record RowFits (xs : List Laid) (ms : List StatementMeaning) (es : List Sources) (ts : List Targets) (is : List (List Into)) : Type 0 where
    pub slots : (row_size xs).slot ≡ row_vars ms
    pub exprs : (row_size xs).expr ≡ length (in_turn es)
    pub goes : Known s → (p : Position) (slot : ℕ) (around : Around) (next : ℕ) (env hid : Env) (n : ℕ)
        → Begun p slot (row_size xs) (in_turn es) (row_targets ts) (row_intos is) (row_parts s.form xs p around next) env hid
        → GoesIn s around next (first_block s.form (length xs) p.node next) env hid (3 * p.fors) n (15 * (row_size xs).node) (in_row ms slot env n)

  -- arms, where what follows them is known
  pub record ArmsFit (xs : List LaidArm) (ms : List ArmMeaning) (es : List Sources) (ts : List Targets) (is : List (List Into)) : Type 0 where
    pub slots : (arms_size xs).slot ≡ arms_vars ms
    pub exprs : (arms_size xs).expr ≡ length (in_turn es)
    pub goes : Known s → (p : Position) (slot last ho : ℕ) (around : Around) (next b w : ℕ) (other : ℕ → Step) (env hid : Env) (n : ℕ)
        → last ≡ slot + arms_vars ms → 3 * (p.fors + (arms_size xs).fors) ≤ ho
        → Begun p slot (arms_size xs) (in_turn es) (row_targets ts) (row_intos is) (arms_parts s.form xs p around next b) env hid
        → GoesIn s around next (lack s.form xs b) env hid ho n w (other last env n)
        → GoesIn s around next b env hid (3 * p.fors) n (15 * (arms_size xs).node + w) (in_arms s.set ms other slot env n)

  pub record ElseFits (x : Option (List Laid)) (m : Option (List StatementMeaning)) (es : Option (List Sources))
      (ts : Option (List Targets)) (is : Option (List (List Into))) : Type 0 where
    pub slots : (else_size x).slot ≡ else_vars m
    pub exprs : (else_size x).expr ≡ length (of_else es)
    pub goes : Known s → (p : Position) (slot : ℕ) (around : Around) (next b : ℕ) (without : Option Class) (env hid : Env) (n : ℕ)
        → Begun p slot (else_size x) (of_else es) (else_targets ts) (else_intos is) (else_parts s.form x without p around next b) env hid
        → GoesIn s around next b env hid (3 * p.fors) n (15 * (else_size x).node + 1) (in_else s.set m (without_arm without) slot env n)

  -- ---- rows

  pub no_row : RowFits [] [] [] [] []
  no_row = record { slots = refl; exprs = refl; goes = λ known p slot around next env hid n begun. at_next refl stays }

  pub more_row : (x : Laid) (m : StatementMeaning) (e : Sources) (t : Targets) (xs : List Laid) (ms : List StatementMeaning) (es : List Sources)
      (ts : List Targets) (u : List Into) (is : List (List Into))
      → Fits x m e t u → RowFits xs ms es ts is → RowFits (x ∷ xs) (m ∷ ms) (e ∷ es) (t ∷ ts) (u ∷ is)
  more_row x m e t xs ms es ts u is f r = record {
    slots = omega (arith, f.slots, r.slots);
    exprs = omega (arith, f.exprs, r.exprs, length-append e (in_turn es));
    goes = λ known p slot around next env hid n begun.
        let middle = first_block s.form (length xs) (p.node + x.size.node) next in
        let front_parts = x.parts s.form p around middle in
        let back_parts = row_parts s.form xs (after p x.size) around next in
        let here : Has p x.size e t u = record {
          slots = omega (arith, begun.has.slots);
          fors = omega (arith, begun.has.fors);
          targets = omega (arith, begun.has.targets);
          entries = entries_left s p.expr e (in_turn es) begun.has.entries;
          sets = below_left (width s) t (row_targets ts) begun.has.sets;
          intos = every_left (IsInto (width s)) u (row_intos is) begun.has.intos;
        } in
        let there : Has (after p x.size) (row_size xs) (in_turn es) (row_targets ts) (row_intos is) = record {
          slots = omega (arith, begun.has.slots);
          fors = omega (arith, begun.has.fors);
          targets = omega (arith, begun.has.targets);
          entries = entries_right s p.expr (p.expr + x.size.expr) e (in_turn es) begun.has.entries (omega (arith, f.exprs));
          sets = below_right (width s) t (row_targets ts) begun.has.sets;
          intos = every_right (IsInto (width s)) u (row_intos is) begun.has.intos;
        } in
        in_order (in_row ms (slot + m.vars))
        (f.goes known p slot around middle env hid n (record {
          placed = begun.placed;
          has = here;
          stand = left s.form.goto.blocks front_parts back_parts begun.stand;
          wide = begun.wide;
          long = begun.long;
        }))
        (omega arith) (omega arith)
        (λ e' i' k same same'. r.goes known (after p x.size) (slot + m.vars) around next e' i' k (record {
          placed = omega (arith, begun.placed, f.slots);
          has = there;
          stand = right s.form.goto.blocks front_parts back_parts begun.stand;
          wide = same ∙ begun.wide;
          long = same' ∙ begun.long;
        }))
        (omega arith);
  }

  -- ---- arms

  pub no_arms : ArmsFit [] [] [] [] []
  no_arms = record {
    slots = refl;
    exprs = refl;
    goes = λ known p slot last ho around next b w other env hid n is le begun go.
        lighter (subst (λ j. GoesIn s around next b env hid ho n w (other j env n)) (omega (arith, is)) go) (omega (arith, le)) (omega arith);
  }

  abbrev pub laid_arm : Expr → List Laid → LaidArm
  laid_arm test body = record { test = test; size = after with_expr (row_size body); body = body }

  abbrev pub meant_arm : Expr → List StatementMeaning → ArmMeaning
  meant_arm test body = record { test = test; vars = row_vars body; run = in_row body }

  pub more_arms : (test : Expr) (x : List Laid) (m : List StatementMeaning) (e : List Sources) (t : List Targets) (xs : List LaidArm)
      (ms : List ArmMeaning)
      (es : List Sources) (ts : List Targets) (u : List (List Into)) (is : List (List Into)) → RowFits x m e t u → ArmsFit xs ms es ts is
      → ArmsFit (laid_arm test x ∷ xs) (meant_arm test m ∷ ms) ((test ∷ in_turn e) ∷ es) (row_targets t ∷ ts) (row_intos u ∷ is)
  more_arms test x m e t xs ms es ts u is f r = record {
    slots = omega (arith, f.slots, r.slots);
    exprs = omega (arith, f.exprs, r.exprs, length-append (in_turn e) (in_turn es));
    goes = λ known p slot last ho around next b w other env hid n same le begun go.
        let inside = after p with_expr in
        let behind = after p (after with_expr (row_size x)) in
        let front_parts = row_parts s.form x inside around next in
        let back_parts = arms_parts s.form xs behind around next (no_of s.form.goto b) in
        let here : Has inside (row_size x) (in_turn e) (row_targets t) (row_intos u) = record {
          slots = omega (arith, begun.has.slots);
          fors = omega (arith, begun.has.fors);
          targets = omega (arith, begun.has.targets);
          entries =
              entries_at s (suc p.expr) (p.expr + 1) (in_turn e) (entries_left s (suc p.expr) (in_turn e) (in_turn es) begun.has.entries.1)
              (omega arith);
          sets = below_left (width s) (row_targets t) (row_targets ts) begun.has.sets;
          intos = every_left (IsInto (width s)) (row_intos u) (row_intos is) begun.has.intos;
        } in
        let there : Has behind (arms_size xs) (in_turn es) (row_targets ts) (row_intos is) = record {
          slots = omega (arith, begun.has.slots);
          fors = omega (arith, begun.has.fors);
          targets = omega (arith, begun.has.targets);
          entries =
              entries_right s (suc p.expr) (p.expr + (1 + (row_size x).expr)) (in_turn e) (in_turn es) begun.has.entries.1 (omega (arith, f.exprs));
          sets = below_right (width s) (row_targets t) (row_targets ts) begun.has.sets;
          intos = every_right (IsInto (width s)) (row_intos u) (row_intos is) begun.has.intos;
        } in
        let body = f.goes known inside slot around next env hid n (record {
          placed = omega (arith, begun.placed);
          has = here;
          stand = left s.form.goto.blocks front_parts back_parts begun.stand.1.1;
          wide = begun.wide;
          long = begun.long;
        }) in
        let rest = r.goes known behind (slot + row_vars m) last ho around next (no_of s.form.goto b) w other env hid n (omega (arith, same))
        (omega (arith, le)) (record {
          placed = omega (arith, begun.placed, f.slots);
          has = there;
          stand = right s.form.goto.blocks front_parts back_parts begun.stand.1.1;
          wide = begun.wide;
          long = begun.long;
        }) go in
        at_choice {v = 15 * (row_size x).node} {w = 15 * (arms_size xs).node + w} (form.source_term p.expr test) (s.set.value test env)
        (in_row m slot) (in_arms s.set ms other (slot + row_vars m))
        (known.sources p.expr test begun.has.entries.0 env hid begun.wide) begun.stand.1.0
        (lighter body (omega arith) (omega arith)) (lighter rest (omega arith) (omega arith)) (omega arith) (omega arith);
  }

  -- ---- ELSE

  no_else_goes : (p : Position) (around : Around) (next b : ℕ) (without : Option Class) (env hid : Env) (n : ℕ)
      → AllStandIn s (else_parts s.form None without p around next b)
      → GoesIn s around next b env hid (3 * p.fors) n 1 (done (without_arm without) env n)
  no_else_goes p around next b None env hid n stand =
      subst (λ c. GoesIn s around next c env hid (3 * p.fors) n 1 (done normal env n)) (sym stand.0)
      (heavier {v = 0} (at_next refl stays) (omega arith))
  no_else_goes p around next b (Some c) env hid n stand = at_fault (fails_there stand.0)

  pub no_else : ElseFits None None None None None
  no_else = record {
    slots = refl;
    exprs = refl;
    goes = λ known p slot around next b without env hid n begun. no_else_goes p around next b without env hid n begun.stand;
  }

  pub some_else : (x : List Laid) (m : List StatementMeaning) (e : List Sources) (t : List Targets) (u : List (List Into)) → RowFits x m e t u
      → ElseFits (Some x) (Some m) (Some e) (Some t) (Some u)
  some_else x m e t u f = record {
    slots = omega (arith, f.slots);
    exprs = omega (arith, f.exprs);
    goes = λ known p slot around next b without env hid n begun.
        let here : Has (after p a_node) (row_size x) (in_turn e) (row_targets t) (row_intos u) = record {
          slots = omega (arith, begun.has.slots);
          fors = omega (arith, begun.has.fors);
          targets = omega (arith, begun.has.targets);
          entries = entries_at s p.expr (p.expr + 0) (in_turn e) begun.has.entries (omega arith);
          sets = begun.has.sets;
          intos = begun.has.intos;
        } in
        let body = f.goes known (after p a_node) slot around next env hid n (record {
          placed = omega (arith, begun.placed);
          has = here;
          stand = begun.stand.1.1;
          wide = begun.wide;
          long = begun.long;
        }) in
        subst (λ c. GoesIn s around next c env hid (3 * p.fors) n (15 * (1 + (row_size x).node) + 1) (in_row m slot env n)) (sym begun.stand.1.0)
        (lighter body (omega arith) (omega arith));
  }
