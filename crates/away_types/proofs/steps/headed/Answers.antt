use Rattle.std.proofs.Common.{◌≡◌, ap, sym, ◌∙◌, false, Option}
use Rattle.away_values.specs.declared.types.Ty.TheVariants.{Integer}
use Rattle.away_trees.specs.declared.queries.Expr.{Expr}
use Rattle.away_trees.specs.declared.statements.LoopKind.TheVariants as kind
use Rattle.away_names.specs.declared.note.Noted.{Noted}
use Rattle.away_names.specs.Lookups.{Scope}
use Rattle.away_names.specs.Naming.{written}
use Rattle.away_names.specs.Notes.{joined, held}
use Rattle.away_names.specs.Places.{scope}
use Rattle.away_names.specs.Trees.{named_expr}
use Rattle.away_types.specs.declared.resolved.Headed.{Headed}
use Rattle.away_types.specs.declared.slots.Slots.{Slots}
use Rattle.away_types.specs.Statements.{headed, with_hidden, with_slot, with_variable}
use Rattle.away_types.proofs.steps.headed.Goals as goal

pub returns-in_ok-with_hidden-in-Count : goal.returns-in_ok-with_hidden-in-Count
returns-in_ok-with_hidden-in-Count c =
    let s : Scope = scope c.args.s.now in
    let slots : Slots = c.args.slots in
    let a : Noted Expr = named_expr c.in-Count.first s in
    let b : Noted Expr = named_expr c.in-Count.last s in
    let o : Noted (Option Expr) = held (λ e. named_expr e s) c.in-Count.step in
    let its : c.in_ok-new-in-Count.field-0 ≡ kind.Count c.in-Count.var c.in-Count.reverse a.it b.it o.it =
    c.in_ok-new-in-Count.ensures
    ∙ (λ i. kind.Count (c.in_ok-name-in-Count.ensures i) c.in-Count.reverse (ap (λ (x : Noted Expr). x.it) c.in_ok-a-in-Count.ensures i) (ap (λ (x : Noted Expr). x.it) c.in_ok-b-in-Count.ensures i)
    (ap (λ (x : Noted (Option Expr)). x.it) c.in_ok-c-in-Count.ensures i)) in
    let variables : c.in_ok-variables-in-Count.variables ≡ with_variable c.in-Count.var false slots s.variables =
    c.in_ok-variables-in-Count.ensures ∙ ap (with_variable c.in-Count.var false slots) c.in_ok-variables.ensures in
    let ends : c.joined.result ≡ joined b.note o.note =
    c.joined.ensures ∙ (λ i. joined (ap (λ (x : Noted Expr). x.note) c.in_ok-b-in-Count.ensures i) (ap (λ (x : Noted (Option Expr)). x.note) c.in_ok-c-in-Count.ensures i)) in
    let bounds : c.joined-in-Count.result ≡ joined a.note (joined b.note o.note) =
    c.joined-in-Count.ensures ∙ (λ i. joined (ap (λ (x : Noted Expr). x.note) c.in_ok-a-in-Count.ensures i) (ends i)) in
    let note : c.joined-in-Count-2.result ≡ joined (written s c.in-Count.var) (joined a.note (joined b.note o.note)) =
    c.joined-in-Count-2.ensures ∙ (λ i. joined (c.written.ensures i) (bounds i)) in
    let hidden : c.in_ok-with_hidden-in-Count.field-0 ≡ with_hidden (with_slot Integer false slots) =
    c.in_ok-with_hidden-in-Count.ensures ∙ ap with_hidden c.in_ok-slots-in-Count.ensures in
    let here : Headed = record {
      it = c.in_ok-new-in-Count.field-0;
      variables = c.in_ok-variables-in-Count.variables;
      note = c.joined-in-Count-2.result;
      slots = c.in_ok-with_hidden-in-Count.field-0;
    } in
    let whole : here ≡ headed (kind.Count c.in-Count.var c.in-Count.reverse c.in-Count.first c.in-Count.last c.in-Count.step) s slots =
    (λ i. record { it = its i; variables = variables i; note = note i; slots = hidden i }) in
    whole ∙ ap (λ k. headed k s slots) (sym c.in-Count.is)
