use Rattle.std.proofs.Common.{◌≡◌, sym, ◌∙◌, rules, arith, ℕ, suc, ◌<◌, Bool, false, List, [], length, get_or, is_lt}
use Rattle.std.proofs.Math.Numerals.{add-one}
use Rattle.std.specs.List.Sorted.{IsSortedBy}
use Rattle.std.proofs.lemmas.Result.{on_ok_weaker}
use Rattle.std.proofs.lemmas.List.Sorted.{ranks_by}
use Rattle.std.proofs.lemmas.Fn.{always_returns_same}
use Rattle.std.specs.Cmp.{IsStrictWeakOrder}
use Rattle.away_values.specs.declared.values.Value.{Value}
use Rattle.sql_meaning.specs.Ordered.{IsOrder, Keyed}
use Rattle.sql_meaning.specs.Selects.{sorted}
use Rattle.sql_meaning.proofs.Sorting as meant
use Rattle.sql_meaning.specs.KeyOrder.{keys_cmp}
use Rattle.sql_meaning.proofs.KeyOrders.{keys_cmp_total}
use Rattle.lateral_rows.proofs.StableSorts.{only_one, in_order}
use Rattle.lateral_rows.proofs.ordering.sort_keyed.Goals as goal

next_of : {X : Type 0} (lt : X → X → Bool) (xs : List X) → IsSortedBy lt xs → (k : ℕ) (d : X) → suc k < length xs → lt (get_or xs (suc k) d) (get_or xs k d) ≡ false
next_of lt xs up k d l = rw (← add-one) (up k d (omega arith) (omega arith))

pub returns : goal.returns
returns c =
    let ds = c.args.descending.now in
    let lt = λ (x : Keyed) (y : Keyed). is_lt (keys_cmp ds x.0 y.0) in
    let o : IsStrictWeakOrder lt = ranks_by (keys_cmp_total ds) (λ (x : Keyed). x.0) in
    let before = λ (a : List Value) (b : List Value). is_lt (keys_cmp ds a b) in
    let order : IsOrder before = record { never_both = λ a b. o.one_way (a, []) (b, []); passes_on = λ a b x h g. o.chain (x, []) (b, []) (a, []) g h } in
    on_ok_weaker c.sort_by.result
    (λ up. only_one lt o _ (sorted before c.args.rows.now.items) (in_order lt o _ (λ k d l. next_of lt _ (up lt o (always_returns_same _ _ _ (λ a r f k. search rules))) k d l)) (meant.in_order before order c.args.rows.now.items)
    (λ x. c.sort_by.ensures.stable lt o (always_returns_same _ _ _ (λ a r f k. search rules)) x ∙ sym (meant.stable before order x.0 c.args.rows.now.items)))
    c.sort_by.ensures.sorted
