-- Calls that may be replaced are refused by nothing.
use Rattle.std.proofs.Common.{◌≡◌, ◌∙◌, refl, sym, subst, ℕ, List, true, false, Some, None}
use Rattle.away_trees.specs.declared.queries.Query.{Query}
use Rattle.away_trees.specs.declared.queries.Select.{Select}
use Rattle.away_trees.specs.declared.schemas.Schema.{Schema}
use Rattle.away_trees.specs.declared.statements.Function.{Function}
use Rattle.block_forms.specs.declared.forms.Goto.{Goto}
use Rattle.inline_calls.specs.Forms.{HasForm, calling, misplaces}
use Rattle.inline_calls.specs.Judged.{calls_note}
use Rattle.inline_calls.specs.Refusing.{AreCalls, RefusesCalls}
use Rattle.inline_calls.specs.declared.refusals.CallsRefusal.{CallsRefusal}
use Rattle.inline_calls.specs.declared.refusals.CallsRefusal.TheVariants as calls
use Rattle.inline_calls.specs.declared.refusals.InlineRefusal.{InlineRefusal}
use Rattle.inline_calls.specs.declared.refusals.InlineRefusal.TheVariants as refusal
use Rattle.inline_law.specs.Filled.{CallingSelect}
use Rattle.away_top.specs.declared.status.Status.{Status}
use Rattle.away_top.specs.declared.status.Status.TheVariants.{Refused}
use Rattle.away_top.specs.Files.{callable_of}
use Rattle.away_top.specs.InlineCourse.{IsRefusedOf, MayBeInlined, ToldAs}

-- a refusal is told as one
pub told_refused : (query func : List ℕ) (e : InlineRefusal) (status : Status) (output : List ℕ) → ToldAs query func e status output → status ≡ Refused
told_refused query func refusal.Form status output told = told.0
told_refused query func refusal.Place status output told = told.0
told_refused query func (refusal.Rule broken) status output told = told.0
told_refused query func refusal.Faults status output told = told.0
told_refused query func (refusal.Nesting found) status output told = told.0
told_refused query func refusal.NoMemory status output told = absurd told

module _ (s : Schema) (f : Function) (goto : Goto) (q : Query) (c : CallingSelect) (are : AreCalls s f goto q c) where
  -- the select of a query is one
  one_select : (x : Select) → HasForm f q x → x ≡ are.select
  one_select x form = let same : Some x ≡ Some are.select = sym form.single ∙ are.form.single in cc

  pub calls_unrefused : (e : CallsRefusal) → RefusesCalls s f goto q e → e ≡ calls.NoMemory
  calls_unrefused calls.Form refuses = absurd (refuses are.select are.form)
  calls_unrefused calls.Place r =
      absurd (let wrong : true ≡ false = sym r.misplaced ∙ (subst (λ x. misplaces f (calling f x) ≡ false) (sym (one_select r.select r.form)) are.places) in cc)
  calls_unrefused (calls.Rule rule) r =
      absurd (let wrong : Some rule ≡ None = sym r.broken ∙ (subst (λ x. (calls_note s f (calling f x)).least ≡ None) (sym (one_select r.select r.form)) are.unbroken) in cc)
  calls_unrefused calls.Faults r = absurd (are.no_fails r.fails)
  calls_unrefused calls.NoMemory r = refl

module _ (s : Schema) (q : Query) (written : Function) (may : MayBeInlined s q written) (query func : List ℕ) where
  pub told_no_refusal : (e : InlineRefusal) (status : Status) (output : List ℕ) → IsRefusedOf s q (callable_of s written) e → ToldAs query func e status output → ⊥
  told_no_refusal refusal.Form status output is told =
      let c = may.calls is.forms is.are in
      let wrong : calls.Form ≡ calls.NoMemory = calls_unrefused s (callable_of s written).function is.forms.goto q c.0 c.1 calls.Form is.refuses in
      cc
  told_no_refusal refusal.Place status output is told =
      let c = may.calls is.forms is.are in
      let wrong : calls.Place ≡ calls.NoMemory = calls_unrefused s (callable_of s written).function is.forms.goto q c.0 c.1 calls.Place is.refuses in
      cc
  told_no_refusal (refusal.Rule rule) status output is told =
      let c = may.calls is.forms is.are in
      let wrong : calls.Rule rule ≡ calls.NoMemory = calls_unrefused s (callable_of s written).function is.forms.goto q c.0 c.1 (calls.Rule rule) is.refuses in
      cc
  told_no_refusal refusal.Faults status output is told =
      let c = may.calls is.forms is.are in
      let wrong : calls.Faults ≡ calls.NoMemory = calls_unrefused s (callable_of s written).function is.forms.goto q c.0 c.1 calls.Faults is.refuses in
      cc
  told_no_refusal (refusal.Nesting found) status output is told = may.small is.forms is.are found is.refuses
  told_no_refusal refusal.NoMemory status output is told = told
