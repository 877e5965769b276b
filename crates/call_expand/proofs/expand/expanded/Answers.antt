use Rattle.std.proofs.Common.{◌≡◌, refl, ap, sym, subst, ◌∙◌, ◌≤◌, length, arith}
use Rattle.call_expand.specs.Expanding.{IsExpansion, function_at, main_body}
use Rattle.call_expand.specs.Moving.{moved_params}
use Rattle.call_expand.proofs.ExpandingRules.{is_expansion, main_is, some_is}
use Rattle.call_expand.proofs.expand.expanded.Goals as goal

pub returns : goal.returns
returns c =
    let s = c.args.s.now in
    let fs = c.args.fs in
    let f = c.in-Some.f.now in
    let names = c.in_ok-names.names in
    let m = c.in_ok-body.field-0 in
    let first : f ≡ function_at fs.now 0 = some_is _ c.function_at.result c.in-Some.f c.in-Some.is c.function_at.ensures in
    let walked : m ≡ main_body names fs.now =
    c.in_ok-body.ensures
    ∙ (main_is c.as_slice.result.now fs _ c.len.result f refl first c.len.ensures
    ∙ ap (λ ns. main_body ns fs.now) c.as_slice.ensures) in
    let few : m.next ≤ length names = omega (arith, c.in_ok-body.used-is, c.if-used-len.false, c.len-2.ensures) in
    let params = c.in_ok-moved_params.ensures ∙ (λ i. moved_params (c.as_slice-2.ensures i) 0 (c.as_slice-3.ensures i)) in
    subst (λ g. IsExpansion s fs.now g) (λ i. record { name = sym c.in_ok-copy.ensures i; strict = f.strict; params = sym params i; result = f.result; body = m.it })
    (is_expansion s fs.now f names m c.in_ok-names.ensures.are first walked few)
