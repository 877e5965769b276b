-- Terms that are one name: the reference is the name's, and so is the value.
use Rattle.std.proofs.Common.{◌≡◌, refl, ap, ◌∙◌, ℕ, true, List, Option, Some, None, Ok}
use Rattle.std.proofs.lemmas.Bool.{eqb-true}
use Rattle.std.proofs.lemmas.Option.{same_Some}
use Rattle.away_trees.specs.declared.queries.Expr.{Expr}
use Rattle.away_trees.specs.declared.queries.Expr.TheVariants as expr
use Rattle.away_values.specs.declared.types.Ty.{Ty}
use Rattle.away_values.specs.declared.values.Value.{Value}
use Rattle.away_values.specs.declared.values.Value.TheVariants as val
use Rattle.sql_meaning.specs.Meaning.{value}
use Rattle.sql_meaning.specs.OneReturn.{body}
use Rattle.sql_meaning.specs.Reads.{slots_of}
use Rattle.block_forms.specs.declared.forms.Term.{Term}
use Rattle.call_forms.specs.Scopes.{Scope, paired}
use Rattle.cte_law.proofs.ScopesAlike.{at_held}
use Rattle.cte_law.proofs.Worlds.{World, expr_in, value_in, held_in, value_is}
use Rattle.turn_template.specs.TurnTemplate.{Ref, no_ref, placed_ref, slot_in, name_at, passed, is_name}
use Rattle.turn_law.proofs.RowCells.{paired_named}

-- a slot, for which this name stands
pub record IsNamed (e : Expr) (ns : List ℕ) (n : ℕ) : Type 0 where
  pub slot : ℕ
  pub is : e ≡ expr.Slot slot
  pub named : passed (slots_of e) ns slot ≡ Some n

slot_is : (e : Expr) (i : ℕ) → slot_in e ≡ Some i → e ≡ expr.Slot i
slot_is (expr.Slot j) i h = ap expr.Slot (same_Some j i h)
slot_is e i h = absurd (cc)

pub is_named : (e : Expr) (ns : List ℕ) (n : ℕ) → is_name (name_at (slots_of e) ns (slot_in e)) n ≡ true → IsNamed e ns n
is_named e ns n h = by (slot_in e) refl h
  where
    found : (i : ℕ) → slot_in e ≡ Some i → (o : Option ℕ) → passed (slots_of e) ns i ≡ o → is_name o n ≡ true → IsNamed e ns n
    found i p None q k = absurd (cc)
    found i p (Some m) q k = record { slot = i; is = slot_is e i p; named = q ∙ ap Some (eqb-true m n k) }

    by : (o : Option ℕ) → slot_in e ≡ o → is_name (name_at (slots_of e) ns o) n ≡ true → IsNamed e ns n
    by None p k = absurd (cc)
    by (Some i) p k = found i p (passed (slots_of e) ns i) refl k

pub named_ref : (refs : Scope Ref) (ty : Ty) (e : Expr) (ns : List ℕ) (n : ℕ) → IsNamed e ns n
    → placed_ref ty (paired refs no_ref (slots_of e) ns) e 0 ≡ refs n 0
named_ref refs ty e ns n h =
    ap (λ x. placed_ref ty (paired refs no_ref (slots_of e) ns) x 0) h.is ∙ ap (λ (x : Ref). x 0) (paired_named refs no_ref (slots_of e) ns h.slot n h.named)

pub named_value : (w : World) (t : Term) (s : Scope Value) (n : ℕ) → IsNamed (expr_in w t) t.names n → value_in w t s ≡ Ok (s n)
named_value w t s n h =
    value_is w t s
    ∙ (ap (λ x. value x (body w.tables (held_in w t s))) h.is
    ∙ ap Ok (at_held s (slots_of (expr_in w t)) t.names h.slot ∙ paired_named s val.Null (slots_of (expr_in w t)) t.names h.slot n h.named))
