-- The blocks of declarations, of BEGIN and END, and of IF and CASE fit what these do.
use Rattle.std.proofs.Common.{◌≡◌, ℕ, suc, ◌+◌, ◌*◌, List, [], ◌∷◌, ◌++◌, length, Option, Some, None, refl, sym, ◌∙◌, subst, arith}
use Rattle.std.proofs.lemmas.List.{length-append}
use Rattle.away_values.specs.declared.types.Ty.{Ty}
use Rattle.away_values.specs.declared.values.Class.{Class}
use Rattle.away_trees.specs.declared.queries.Expr.{Expr}
use Rattle.away_trees.specs.declared.statements.Decl.{Decl}
use Rattle.away_trees.specs.declared.statements.Stmt.TheOpen as st
use Rattle.type_soundness.proofs.Lists.{every_left, every_right}
use Rattle.plsql_meaning.specs.Outcomes.{Env, Label, and_then, close, case_not_found}
use Rattle.plsql_meaning.specs.Statements.{StatementMeaning, ArmMeaning, arms_vars, else_vars, in_arms, in_else, in_row, initial, put, declare}
use Rattle.block_forms.specs.declared.places.Position.{Position}
use Rattle.block_forms.specs.Around.{Around}
use Rattle.block_forms.specs.Expressions.{Sources, if_there, in_turn, of_else, defaults}
use Rattle.block_forms.specs.Intos.{Into, row_intos, else_intos}
use Rattle.block_forms.specs.Laid.{Laid, LaidArm, after, a_node, row_size, arms_size, else_size, decl_size, decls_size, first_block, row_parts, default_term, decl_parts, decls_parts, arms_parts, else_parts, branch_parts, inside_of, block_parts, lack}
use Rattle.block_forms.specs.OwnSlots.{IsInto}
use Rattle.block_forms.specs.Patterns.{Part, node}
use Rattle.block_forms.specs.Targets.{Targets, row_targets, else_targets}
use Rattle.goto_law.proofs.Assignments.{slot_goes}
use Rattle.goto_law.proofs.Entries.{entries_at, entries_left, entries_right}
use Rattle.goto_law.proofs.Fits.{Has, Begun, RowFits, ArmsFit, ElseFits, below_left, below_right, without_arm}
use Rattle.goto_law.proofs.Known.{Sides, width, GoesIn, value_of, Entries, Known}
use Rattle.goto_law.proofs.LeafFits.{LayerFits}
use Rattle.goto_law.proofs.Parts.{left, right}
use Rattle.goto_law.proofs.Steps.{of_block, at_next, lighter, in_order, closes}
use Rattle.goto_law.proofs.Stretches.{stays}

-- ---- sizes of declarations

decl_exprs : (d : Decl) → (decl_size d).expr ≡ length (if_there d.default)
decl_exprs d = go d.default
  where
    go : (o : Option Expr) → (decl_size (record d { default = o })).expr ≡ length (if_there o)
    go None = refl
    go (Some e) = refl

decls_exprs : (ds : List Decl) → (decls_size ds).expr ≡ length (defaults ds)
decls_exprs [] = refl
decls_exprs (d ∷ ds) = omega (arith, decl_exprs d, decls_exprs ds, length-append (if_there d.default) (defaults ds))

decls_slots : (ds : List Decl) → (decls_size ds).slot ≡ length ds
decls_slots [] = refl
decls_slots (d ∷ ds) = omega (arith, decls_slots ds)

module _ (s : Sides) where
  -- ---- declarations

  default_is : Known s → (d : Option Expr) (t : Ty) (k : ℕ) (env hid : Env) → length env ≡ width s → Entries s k (if_there d)
      → value_of s (default_term s.form d t k) (env ++ hid) ≡ initial s.set.value d env
  default_is known None t k env hid wide entries = known.nulls t (env ++ hid)
  default_is known (Some e) t k env hid wide entries = known.sources k e entries.0 env hid wide

  decls_go : Known s → (ds : List Decl) (p : Position) (slot : ℕ) (around : Around) (next : ℕ) (env hid : Env) (n : ℕ)
      → Begun s p slot (decls_size ds) (defaults ds) [] [] (decls_parts s.form ds p next) env hid
      → GoesIn s around next (first_block s.form (length ds) p.node next) env hid (3 * p.fors) n (15 * (decls_size ds).node)
      (declare s.set ds slot env n)
  decls_go known [] p slot around next env hid n begun = at_next refl stays
  decls_go known (d ∷ ds) p slot around next env hid n begun =
      in_order {v = 15} (declare s.set ds (suc slot)) (subst (λ j. First j) (sym begun.placed) first) (omega arith) (omega arith)
      (λ e i k same same'. decls_go known ds behind (suc slot) around next e i k (record {
        placed = omega (arith, begun.placed);
        has = there;
        stand = right s.form.goto.blocks front_parts back_parts begun.stand;
        wide = same ∙ begun.wide;
        long = same' ∙ begun.long;
      }))
      (omega arith)
    where
      behind : Position
      behind = after p (decl_size d)

      middle : ℕ
      middle = first_block s.form (length ds) (p.node + 1) next

      front_parts : List Part
      front_parts = decl_parts s.form d p middle

      back_parts : List Part
      back_parts = decls_parts s.form ds behind next

      there : Has s behind (decls_size ds) (defaults ds) [] []
      there = record {
        slots = omega (arith, begun.has.slots);
        fors = omega (arith, begun.has.fors);
        targets = omega (arith, begun.has.targets);
        entries =
            entries_right s p.expr (p.expr + (decl_size d).expr) (if_there d.default) (defaults ds) begun.has.entries (omega (arith, decl_exprs d));
        sets = tt;
        intos = tt;
      }

      First : ℕ → Type 0
      First j = GoesIn s around middle (node s.form.goto p.node) env hid (3 * p.fors) n 15 (put s.set j (initial s.set.value d.default env) env n)

      first : First p.slot
      first =
          slot_goes s known around middle (node s.form.goto p.node) p.slot (default_term s.form d.default d.ty p.expr) env hid (3 * p.fors) n
          (omega (arith, begun.has.slots, begun.wide))
          (initial s.set.value d.default env) (default_is known d.default d.ty p.expr env hid begun.wide
          (entries_left s p.expr (if_there d.default) (defaults ds) begun.has.entries))
          (left s.form.goto.blocks front_parts back_parts begun.stand)

  -- ---- a block

  module _ (label : Label) (ds : List Decl) (x : List Laid) (m : List StatementMeaning) (e : List Sources) (t : List Targets)
      (u : List (List Into)) (f : RowFits s x m e t u) where
    block_goes : Known s → (p : Position) (slot : ℕ) (around : Around) (next : ℕ) (env hid : Env) (n : ℕ)
        → Begun s p slot (after (after a_node (decls_size ds)) (row_size x)) (defaults ds ++ in_turn e) (row_targets t) (row_intos u)
        (block_parts s.form label ds x p around next) env hid
        → GoesIn s around next (node s.form.goto p.node) env hid (3 * p.fors) n (15 * (1 + (decls_size ds).node + (row_size x).node))
        (close label (and_then (declare s.set ds slot env n) (in_row m (slot + length ds))))
    block_goes known p slot around next env hid n begun =
        subst (λ b. GoesIn s around next b env hid (3 * p.fors) n (15 * (1 + (decls_size ds).node + (row_size x).node))
        (close label (and_then (declare s.set ds slot env n) (in_row m (slot + length ds))))) (sym begun.stand.0)
        (closes label (in_order {v = 15 * (decls_size ds).node} {w = 15 * (row_size x).node} (in_row m (slot + length ds)) declares (omega arith)
        (omega arith) body (omega arith)))
      where
        inside : Position
        inside = inside_of s.form ds p

        middle : ℕ
        middle = first_block s.form (length x) inside.node next

        front_parts : List Part
        front_parts = decls_parts s.form ds (after p a_node) middle

        back_parts : List Part
        back_parts = row_parts s.form x inside (of_block label next around) next

        declares : GoesIn s (of_block label next around) middle (first_block s.form (length ds) (p.node + 1) middle) env hid (3 * (p.fors + 0)) n
            (15 * (decls_size ds).node) (declare s.set ds slot env n)
        declares = decls_go known ds (after p a_node) slot (of_block label next around) middle env hid n (record {
          placed = omega (arith, begun.placed);
          has = record {
            slots = omega (arith, begun.has.slots);
            fors = omega (arith, begun.has.fors);
            targets = omega (arith, begun.has.targets);
            entries =
                entries_at s p.expr (p.expr + 0) (defaults ds) (entries_left s p.expr (defaults ds) (in_turn e) begun.has.entries) (omega arith);
            sets = tt;
            intos = tt;
          };
          stand = left s.form.goto.blocks front_parts back_parts begun.stand.1;
          wide = begun.wide;
          long = begun.long;
        })

        body : (e' i : Env) (k : ℕ) → length e' ≡ length env → length i ≡ length hid
            → GoesIn s (of_block label next around) next middle e' i (3 * (p.fors + (0 + (decls_size ds).fors))) k (15 * (row_size x).node)
            (in_row m (slot + length ds) e' k)
        body e' i k same same' = f.goes known inside (slot + length ds) (of_block label next around) next e' i k (record {
          placed = omega (arith, begun.placed, decls_slots ds);
          has = record {
            slots = omega (arith, begun.has.slots);
            fors = omega (arith, begun.has.fors);
            targets = omega (arith, begun.has.targets);
            entries =
                entries_right s p.expr (p.expr + (0 + (decls_size ds).expr)) (defaults ds) (in_turn e) begun.has.entries
                (omega (arith, decls_exprs ds));
            sets = begun.has.sets;
            intos = begun.has.intos;
          };
          stand = right s.form.goto.blocks front_parts back_parts begun.stand.1;
          wide = same ∙ begun.wide;
          long = same' ∙ begun.long;
        })

    pub block_fits : (closing : Label) → LayerFits s (st.Block label ds x closing) (st.Block label ds m closing) (st.Block label ds e closing)
        (st.Block label ds t closing) (st.Block label ds u closing)
    block_fits closing = record {
      slots = omega (arith, decls_slots ds, f.slots);
      exprs = omega (arith, decls_exprs ds, f.exprs, length-append (defaults ds) (in_turn e));
      goes = block_goes;
    }

  -- ---- IF and CASE

  module _ (x : List LaidArm) (m : List ArmMeaning) (e : List Sources) (t : List Targets) (xo : Option (List Laid))
      (mo : Option (List StatementMeaning)) (eo : Option (List Sources))
      (to : Option (List Targets)) (u : List (List Into)) (uo : Option (List (List Into))) (f : ArmsFit s x m e t u)
      (fo : ElseFits s xo mo eo to uo) where
    abbrev size : Position
    size = after (after a_node (arms_size x)) (else_size xo)

    branch_go : (without : Option Class) → Known s → (p : Position) (slot : ℕ) (around : Around) (next : ℕ) (env hid : Env) (n : ℕ)
        → Begun s p slot size (in_turn e ++ of_else eo) (row_targets t ++ else_targets to) (row_intos u ++ else_intos uo)
        (branch_parts s.form x xo without p around next) env hid
        → GoesIn s around next (node s.form.goto p.node) env hid (3 * p.fors) n (15 * size.node)
        (in_arms s.set m (in_else s.set mo (without_arm without)) slot env n)
    branch_go without known p slot around next env hid n begun =
        lighter
        (f.goes known (after p a_node) slot (slot + arms_vars m) (3 * behind.fors) around next b (15 * (else_size xo).node + 1)
        (in_else s.set mo (without_arm without)) env hid n refl (omega arith) (record {
          placed = omega (arith, begun.placed);
          has = here;
          stand = left s.form.goto.blocks front_parts back_parts begun.stand;
          wide = begun.wide;
          long = begun.long;
        })
        (fo.goes known behind (slot + arms_vars m) around next (lack s.form x b) without env hid n (record {
          placed = omega (arith, begun.placed, f.slots);
          has = there;
          stand = right s.form.goto.blocks front_parts back_parts begun.stand;
          wide = begun.wide;
          long = begun.long;
        })))
        (omega arith) (omega arith)
      where
        b : ℕ
        b = node s.form.goto p.node

        behind : Position
        behind = after p (after a_node (arms_size x))

        front_parts : List Part
        front_parts = arms_parts s.form x (after p a_node) around next b

        back_parts : List Part
        back_parts = else_parts s.form xo without behind around next (lack s.form x b)

        here : Has s (after p a_node) (arms_size x) (in_turn e) (row_targets t) (row_intos u)
        here = record {
          slots = omega (arith, begun.has.slots);
          fors = omega (arith, begun.has.fors);
          targets = omega (arith, begun.has.targets);
          entries = entries_at s p.expr (p.expr + 0) (in_turn e) (entries_left s p.expr (in_turn e) (of_else eo) begun.has.entries) (omega arith);
          sets = below_left (width s) (row_targets t) (else_targets to) begun.has.sets;
          intos = every_left (IsInto (width s)) (row_intos u) (else_intos uo) begun.has.intos;
        }

        there : Has s behind (else_size xo) (of_else eo) (else_targets to) (else_intos uo)
        there = record {
          slots = omega (arith, begun.has.slots);
          fors = omega (arith, begun.has.fors);
          targets = omega (arith, begun.has.targets);
          entries = entries_right s p.expr (p.expr + (0 + (arms_size x).expr)) (in_turn e) (of_else eo) begun.has.entries (omega (arith, f.exprs));
          sets = below_right (width s) (row_targets t) (else_targets to) begun.has.sets;
          intos = every_right (IsInto (width s)) (row_intos u) (else_intos uo) begun.has.intos;
        }

    slots_are : size.slot ≡ arms_vars m + else_vars mo
    slots_are = omega (arith, f.slots, fo.slots)

    exprs_are : size.expr ≡ length (in_turn e ++ of_else eo)
    exprs_are = omega (arith, f.exprs, fo.exprs, length-append (in_turn e) (of_else eo))

    pub if_fits : LayerFits s (st.If x xo) (st.If m mo) (st.If e eo) (st.If t to) (st.If u uo)
    if_fits = record { slots = slots_are; exprs = exprs_are; goes = branch_go None }

    pub cases_fit : LayerFits s (st.Cases x xo) (st.Cases m mo) (st.Cases e eo) (st.Cases t to) (st.Cases u uo)
    cases_fit = record { slots = slots_are; exprs = exprs_are; goes = branch_go (Some case_not_found) }
