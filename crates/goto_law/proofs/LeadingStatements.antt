-- The parts of statements in a row, of arms, of ELSE and of a block lead to blocks of the form.
use Rattle.std.proofs.Common.{ℕ, ◌+◌, ◌<◌, Bool, true, false, List, [], ◌∷◌, ◌++◌, length, slice_get, Option, Some, None, sym, subst}
use Rattle.away_values.specs.declared.types.Ty.{Ty}
use Rattle.away_values.specs.declared.types.Ty.TheVariants as ty
use Rattle.away_values.specs.declared.values.Class.{Class}
use Rattle.away_trees.specs.declared.queries.Expr.{Expr}
use Rattle.away_trees.specs.declared.statements.Decl.{Decl}
use Rattle.away_types.specs.declared.slots.Slot.{Slot}
use Rattle.plsql_meaning.specs.Outcomes.{Label}
use Rattle.block_forms.specs.declared.forms.Term.{Term}
use Rattle.block_forms.specs.declared.places.Position.{Position}
use Rattle.block_forms.specs.Around.{Around}
use Rattle.block_forms.specs.Laid.{Setting, Laid, LaidArm, after, a_node, with_expr, decl_size, row_size, arms_size, first_block, row_parts, arms_parts, lack, lack_parts, else_parts, branch_parts, inside_of, default_term, decl_parts, decls_parts, block_parts}
use Rattle.block_forms.specs.Lowered.{AllStand}
use Rattle.block_forms.specs.Patterns.{Part, node, no_of, set_parts, slot_parts, leave_parts, exit_parts}
use Rattle.block_forms.proofs.Exits.{exit_leaves}
use Rattle.goto_law.proofs.Leading.{in_list, lead_both, Led, AroundWithin, block_within}
use Rattle.goto_law.proofs.Parts.{left, right}

module _ (s : Setting) where
  abbrev pub Stand : List Part → Type 0
  Stand ps = AllStand s.goto.blocks ps

  abbrev pub Within : ℕ → Type 0
  Within b = b < length s.goto.blocks

  abbrev pub IsLed : ℕ → List Part → Type 0
  IsLed b ps = Led s.goto.blocks b ps

  -- what follows is a block of the form, and so are those to which EXIT and CONTINUE lead
  pub record Onward (around : Around) (next : ℕ) : Type 0 where
    pub follows : Within next
    pub leaves : AroundWithin s.goto.blocks s.goto.finish around

  pub record StatementLeads (x : Laid) : Type 0 where
    pub goes : (p : Position) (around : Around) (next : ℕ) → Stand (x.parts s p around next) → Onward around next
        → IsLed (node s.goto p.node) (x.parts s p around next)

  pub record RowLeads (xs : List Laid) : Type 0 where
    pub goes : (p : Position) (around : Around) (next : ℕ) → Stand (row_parts s xs p around next) → Onward around next
        → IsLed (first_block s (length xs) p.node next) (row_parts s xs p around next)

  pub record ArmsLead (xs : List LaidArm) : Type 0 where
    pub goes : (p : Position) (around : Around) (next c : ℕ) → Stand (arms_parts s xs p around next c) → Onward around next → Within (lack s xs c)
        → IsLed c (arms_parts s xs p around next c)

  pub record ElseLeads (x : Option (List Laid)) : Type 0 where
    pub goes : (p : Position) (around : Around) (next c : ℕ) (without : Option Class) → Stand (else_parts s x without p around next c)
        → Onward around next → IsLed c (else_parts s x without p around next c)

  -- parts in front, and parts behind that begin somewhere
  pub both : (c d : ℕ) (ps qs : List Part) → IsLed c ps → IsLed d qs → IsLed c (ps ++ qs)
  both c d ps qs h k = record { begins = h.begins; parts = lead_both s.goto.blocks ps qs h.parts k.parts }

  -- ---- setting a slot, and leaving

  pub set_leads : (strict : Bool) (t : Ty) (c slot next : ℕ) (e : Term) → Stand (set_parts s.goto s.numbers strict t c slot e next) → Within next
      → IsLed c (set_parts s.goto s.numbers strict t c slot e next)
  set_leads false t c slot next e stand h = record { begins = in_list s.goto.blocks c _ stand.0; parts = (h, tt) }
  set_leads true t c slot next e stand h = record {
    begins = in_list s.goto.blocks c _ stand.0;
    parts = (in_list s.goto.blocks _ _ stand.1.0, ((in_list s.goto.blocks _ _ stand.1.1.0, h), (tt, tt)));
  }

  pub slot_leads : (o : Option Slot) (c slot next : ℕ) (e : Term) → Stand (slot_parts s.goto s.numbers o c slot e next) → Within next
      → IsLed c (slot_parts s.goto s.numbers o c slot e next)
  slot_leads None c slot next e stand h = set_leads false ty.Bigint c slot next e stand h
  slot_leads (Some x) c slot next e stand h = set_leads x.not_null x.ty c slot next e stand h

  pub leave_leads : (when : Option Expr) (k c to next : ℕ) → Stand (leave_parts s.goto s.numbers when k c to next) → Within to → Within next
      → IsLed c (leave_parts s.goto s.numbers when k c to next)
  leave_leads None k c to next stand ht hn = record { begins = in_list s.goto.blocks c _ stand.0; parts = (ht, tt) }
  leave_leads (Some e) k c to next stand ht hn = record { begins = in_list s.goto.blocks c _ stand.0; parts = ((ht, hn), tt) }

  pub exit_leads : (when : Option Expr) (k c to next : ℕ) → Stand (exit_parts s.goto s.numbers when k c to next) → Within to → Within next
      → IsLed c (exit_parts s.goto s.numbers when k c to next)
  exit_leads when k c to next stand ht hn =
      let same = exit_leaves s.goto s.numbers when k c to next stand in
      subst (IsLed c) (sym same) (leave_leads when k c to next (subst Stand same stand) ht hn)

  -- ---- rows, arms and ELSE

  pub no_row : RowLeads []
  no_row = record { goes = λ p around next stand on. record { begins = on.follows; parts = tt } }

  pub more_row : (x : Laid) (xs : List Laid) → StatementLeads x → RowLeads xs → RowLeads (x ∷ xs)
  more_row x xs f r = record {
    goes = λ p around next stand on.
        let middle = first_block s (length xs) (p.node + x.size.node) next in
        let front_parts = x.parts s p around middle in
        let back_parts = row_parts s xs (after p x.size) around next in
        let back = r.goes (after p x.size) around next (right s.goto.blocks front_parts back_parts stand) on in
        let front = f.goes p around middle (left s.goto.blocks front_parts back_parts stand) (record { follows = back.begins; leaves = on.leaves }) in
        both (node s.goto p.node) middle front_parts back_parts front back;
  }

  pub no_arms : ArmsLead []
  no_arms = record { goes = λ p around next c stand on lacks. record { begins = lacks; parts = tt } }

  abbrev pub laid_arm : Expr → List Laid → LaidArm
  laid_arm test body = record { test = test; size = after with_expr (row_size body); body = body }

  pub more_arms : (test : Expr) (x : List Laid) (xs : List LaidArm) → RowLeads x → ArmsLead xs → ArmsLead (laid_arm test x ∷ xs)
  more_arms test x xs f r = record {
    goes = λ p around next c stand on lacks.
        let inside = after p with_expr in
        let rest = after p (after with_expr (row_size x)) in
        let front_parts = row_parts s x inside around next in
        let back_parts = arms_parts s xs rest around next (no_of s.goto c) in
        let front = f.goes inside around next (left s.goto.blocks front_parts back_parts stand.1.1) on in
        let back = r.goes rest around next (no_of s.goto c) (right s.goto.blocks front_parts back_parts stand.1.1) on lacks in
        record {
          begins = in_list s.goto.blocks c _ stand.1.0;
          parts = (tt, ((front.begins, back.begins), lead_both s.goto.blocks front_parts back_parts front.parts back.parts));
        };
  }

  pub no_else : ElseLeads None
  no_else = record { goes = λ p around next c without stand on. lacks next c without on.follows stand }
    where
      lacks : (next c : ℕ) (without : Option Class) → Within next → Stand (lack_parts s without c next) → IsLed c (lack_parts s without c next)
      lacks next c None h stand = record { begins = subst Within (sym stand.0) h; parts = (tt, tt) }
      lacks next c (Some x) h stand = record { begins = in_list s.goto.blocks c _ stand.0; parts = (tt, tt) }

  pub some_else : (x : List Laid) → RowLeads x → ElseLeads (Some x)
  some_else x f = record {
    goes = λ p around next c without stand on.
        let body = f.goes (after p a_node) around next stand.1.1 on in
        record { begins = subst Within (sym stand.1.0) body.begins; parts = (tt, (tt, body.parts)) };
  }

  pub branch_leads : (x : List LaidArm) (xo : Option (List Laid)) → ArmsLead x → ElseLeads xo → (without : Option Class) (p : Position) (around : Around)
      (next : ℕ) → Stand (branch_parts s x xo without p around next) → Onward around next
      → IsLed (node s.goto p.node) (branch_parts s x xo without p around next)
  branch_leads x xo f fo without p around next stand on =
      let c = node s.goto p.node in
      let rest = after p (after a_node (arms_size x)) in
      let front_parts = arms_parts s x (after p a_node) around next c in
      let back_parts = else_parts s xo without rest around next (lack s x c) in
      let back = fo.goes rest around next (lack s x c) without (right s.goto.blocks front_parts back_parts stand) on in
      let front = f.goes (after p a_node) around next c (left s.goto.blocks front_parts back_parts stand) on back.begins in
      both c (lack s x c) front_parts back_parts front back

  -- ---- a block

  decls_lead : (ds : List Decl) (p : Position) (next : ℕ) → Stand (decls_parts s ds p next) → Within next
      → IsLed (first_block s (length ds) p.node next) (decls_parts s ds p next)
  decls_lead [] p next stand h = record { begins = h; parts = tt }
  decls_lead (d ∷ ds) p next stand h =
      let middle = first_block s (length ds) (p.node + 1) next in
      let front_parts = decl_parts s d p middle in
      let back_parts = decls_parts s ds (after p (decl_size d)) next in
      let back = decls_lead ds (after p (decl_size d)) next (right s.goto.blocks front_parts back_parts stand) h in
      let front = slot_leads (slice_get s.slots p.slot) (node s.goto p.node) p.slot middle (default_term s d.default d.ty p.expr)
      (left s.goto.blocks front_parts back_parts stand) back.begins in
      both (node s.goto p.node) middle front_parts back_parts front back

  pub block_leads : (label : Label) (ds : List Decl) (x : List Laid) → RowLeads x → (p : Position) (around : Around) (next : ℕ)
      → Stand (block_parts s label ds x p around next) → Onward around next
      → IsLed (node s.goto p.node) (block_parts s label ds x p around next)
  block_leads label ds x f p around next stand on =
      let inside = inside_of s ds p in
      let inner : Around = record { label = label; exit = next; again = None } ∷ around in
      let middle = first_block s (length x) inside.node next in
      let front_parts = decls_parts s ds (after p a_node) middle in
      let back_parts = row_parts s x inside inner next in
      let back = f.goes inside inner next (right s.goto.blocks front_parts back_parts stand.1) (record {
        follows = on.follows;
        leaves = block_within s.goto.blocks s.goto.finish around label next on.follows on.leaves;
      }) in
      let front = decls_lead ds (after p a_node) middle (left s.goto.blocks front_parts back_parts stand.1) back.begins in
      record {
        begins = subst Within (sym stand.0) front.begins;
        parts = (tt, lead_both s.goto.blocks front_parts back_parts front.parts back.parts);
      }
