-- What the table of callers tells, and which blocks are labels whatever their depth.
use Rattle.std.proofs.Common.{◌≡◌, ◌⊎◌, ℕ, zero, suc, ◌+◌, ◌<◌, ◌≤◌, Bool, true, false, ◌||◌, List, [], ◌∷◌, length, get_or, replicate, refl, sym, ap, ◌∙◌, subst, inl, inr, arith}
use Rattle.std.specs.Prelude.{slice_get, nat_eq}
use Rattle.std.proofs.lemmas.Bool.{eqb-true, eqb-false, eq-eqb}
use Rattle.std.proofs.lemmas.List.{length-set, length-replicate, get_or-replicate, get_or-set_same, get_or-set_other}
use Rattle.std.proofs.lemmas.Option.{slice_get-get_or}
use Rattle.block_forms.specs.declared.forms.Goto.{Goto}
use Rattle.block_forms.specs.Lowered.{one_of}
use Rattle.block_forms.specs.Runs.{is_head}
use Rattle.call_forms.specs.declared.forms.CallEnd.{CallEnd}
use Rattle.call_forms.specs.declared.forms.AnfBlock.{AnfBlock}
use Rattle.call_forms.specs.declared.forms.CallEnd.TheVariants.{Go, Pick, Return, Fail}
use Rattle.call_forms.specs.Merged.{end_calls, calls_to}
use Rattle.tail_rec.specs.declared.callers.Callers.{Callers}
use Rattle.tail_rec.specs.declared.callers.Callers.TheVariants.{No, Several}
use Rattle.tail_rec.specs.Callers.{one_more, with_call, with_end, with_ends, callers_of, is_several, several_there, has_several, is_head_of, is_firm}

-- so many calls more
abbrev more : ℕ → Callers → Callers
more zero c = c
more (suc k) c = more k (one_more c)

more_sum : (m n : ℕ) (c : Callers) → more (m + n) c ≡ more n (more m c)
more_sum zero n c = ap (λ k. more k c) (let e : 0 + n ≡ n = omega arith in e)
more_sum (suc m) n c = ap (λ k. more k c) (let e : suc m + n ≡ suc (m + n) = omega arith in e) ∙ more_sum m n (one_more c)

-- ---- the table

call_long : (c : ℕ) (table : List Callers) → length (with_call c table) ≡ length table
call_long c table = length-set table c (one_more (get_or table c No))

call_at : (c b : ℕ) (table : List Callers) → b < length table → get_or (with_call c table) b No ≡ more (one_of (nat_eq c b)) (get_or table b No)
call_at c b table lt = by (nat_eq c b) refl
  where
    by : (t : Bool) → nat_eq c b ≡ t → get_or (with_call c table) b No ≡ more (one_of t) (get_or table b No)
    by true e =
        let same : c ≡ b = eqb-true c b e in
        ap (λ k. get_or (with_call k table) b No) same ∙ get_or-set_same table b (one_more (get_or table b No)) No lt
    by false e = get_or-set_other table c b (one_more (get_or table c No)) No (λ q. eqb-false c b e (sym q))

end_long : (e : CallEnd) (table : List Callers) → length (with_end e table) ≡ length table
end_long (Go c) table = call_long c.target table
end_long (Pick t x y) table = call_long y.target (with_call x.target table) ∙ call_long x.target table
end_long (Return t) table = refl
end_long (Fail c) table = refl

end_at : (e : CallEnd) (b : ℕ) (table : List Callers) → b < length table → get_or (with_end e table) b No ≡ more (end_calls b e) (get_or table b No)
end_at (Go c) b table lt = call_at c.target b table lt
end_at (Pick t x y) b table lt =
    call_at y.target b (with_call x.target table) (subst (λ n. b < n) (sym (call_long x.target table)) lt)
    ∙ ap (more (one_of (nat_eq y.target b))) (call_at x.target b table lt)
    ∙ sym (more_sum (one_of (nat_eq x.target b)) (one_of (nat_eq y.target b)) (get_or table b No))
end_at (Return t) b table lt = refl
end_at (Fail c) b table lt = refl

ends_long : (xs : List AnfBlock) (table : List Callers) → length (with_ends xs table) ≡ length table
ends_long [] table = refl
ends_long (x ∷ xs) table = ends_long xs (with_end x.end table) ∙ end_long x.end table

ends_at : (xs : List AnfBlock) (b : ℕ) (table : List Callers) → b < length table → get_or (with_ends xs table) b No ≡ more (calls_to b xs) (get_or table b No)
ends_at [] b table lt = refl
ends_at (x ∷ xs) b table lt =
    ends_at xs b (with_end x.end table) (subst (λ n. b < n) (sym (end_long x.end table)) lt)
    ∙ ap (more (calls_to b xs)) (end_at x.end b table lt)
    ∙ sym (more_sum (end_calls b x.end) (calls_to b xs) (get_or table b No))

callers_long : (xs : List AnfBlock) → length (callers_of xs) ≡ length xs
callers_long xs = ends_long xs (replicate (length xs) No) ∙ length-replicate (length xs) No

callers_at : (xs : List AnfBlock) (b : ℕ) → b < length xs → get_or (callers_of xs) b No ≡ more (calls_to b xs) No
callers_at xs b lt =
    ends_at xs b (replicate (length xs) No) (subst (λ n. b < n) (sym (length-replicate (length xs) No)) lt)
    ∙ ap (more (calls_to b xs)) (get_or-replicate (length xs) b No No lt)

-- ---- several calls

stays_several : (k : ℕ) → more k Several ≡ Several
stays_several zero = refl
stays_several (suc k) = stays_several k

several_is : (k : ℕ) → is_several (more k No) ≡ true → 2 ≤ k
several_is zero e = absurd (let no : ⊥ = cc in no)
several_is (suc zero) e = absurd (let no : ⊥ = cc in no)
several_is (suc (suc k)) e = omega arith

not_several : (k : ℕ) → is_several (more k No) ≡ false → k ≤ 1
not_several zero e = omega arith
not_several (suc zero) e = omega arith
not_several (suc (suc k)) e = absurd (no (ap is_several (stays_several k)) e)
  where
    no : {b : Bool} → b ≡ true → b ≡ false → ⊥
    no p q = cc

has_is : (xs : List AnfBlock) (b : ℕ) → b < length xs → has_several (callers_of xs) b ≡ is_several (more (calls_to b xs) No)
has_is xs b lt =
    ap several_there (slice_get-get_or (callers_of xs) b No (subst (λ n. b < n) (sym (callers_long xs)) lt))
    ∙ ap is_several (callers_at xs b lt)

-- ---- firm labels

or_cases : (a b : Bool) → (a || b) ≡ true → (a ≡ true) ⊎ (b ≡ true)
or_cases true b e = inl refl
or_cases false b e = inr e

or_neither : (a b : Bool) → (a || b) ≡ false → (a ≡ false) × (b ≡ false)
or_neither true b e = absurd (let no : ⊥ = cc in no)
or_neither false b e = (refl, e)

pub or_first : (a b : Bool) → a ≡ true → (a || b) ≡ true
or_first a b e = ap (λ c. c || b) e

-- why a block is a label whatever its depth
pub data FirmReason (g : Goto) (xs : List AnfBlock) (b : ℕ) : Type 0 where
  is_entry : b ≡ g.entry → FirmReason g xs b
  has_head : is_head (slice_get g.blocks b) ≡ true → FirmReason g xs b
  has_calls : 2 ≤ calls_to b xs → FirmReason g xs b

module _ (g : Goto) (xs : List AnfBlock) (b : ℕ) (lt : b < length xs) where
  pub firm_reason : is_firm g (callers_of xs) b ≡ true → FirmReason g xs b
  firm_reason e = elim (or_cases (nat_eq b g.entry) (is_head_of g b || has_several (callers_of xs) b) e) [
    | inl q ↦ is_entry (eqb-true b g.entry q)
    | inr q ↦ elim (or_cases (is_head_of g b) (has_several (callers_of xs) b) q) [
      | inl h ↦ has_head h
      | inr h ↦ has_calls (several_is (calls_to b xs) (sym (has_is xs b lt) ∙ h))
    ]
  ]

  pub no_head : is_firm g (callers_of xs) b ≡ false → is_head (slice_get g.blocks b) ≡ false
  no_head e = (or_neither (is_head_of g b) (has_several (callers_of xs) b) (or_neither (nat_eq b g.entry) (is_head_of g b || has_several (callers_of xs) b) e).1).0

  pub few_calls : is_firm g (callers_of xs) b ≡ false → calls_to b xs ≤ 1
  few_calls e =
      let rest = (or_neither (is_head_of g b) (has_several (callers_of xs) b) (or_neither (nat_eq b g.entry) (is_head_of g b || has_several (callers_of xs) b) e).1).1 in
      not_several (calls_to b xs) (sym (has_is xs b lt) ∙ rest)

pub entry_firm : (g : Goto) (callers : List Callers) → is_firm g callers g.entry ≡ true
entry_firm g callers = or_first (nat_eq g.entry g.entry) (is_head_of g g.entry || has_several callers g.entry) (eq-eqb g.entry g.entry refl)
