-- Classes in the order of their codes, and the classes with which marked blocks fail.
use Rattle.std.proofs.Common.{◌≡◌, ◌⊎◌, refl, sym, ap, ◌∙◌, subst, ℕ, zero, suc, ◌+◌, ◌≤◌, Bool, true, List, [], ◌∷◌, length, Some, None, arith, inl, inr, drop}
use Rattle.std.specs.Prelude.{Option, slice_get}
use Rattle.std.specs.declared.cmp.Ordering.{Ordering}
use Rattle.std.specs.declared.cmp.Ordering.TheVariants.{Less, Equal, Greater}
use Rattle.std.specs.Option.{option_map}
use Rattle.std.specs.Ordering.{ordering_reverse, is_eq}
use Rattle.std.proofs.Math.Nat.{eq-or-lt_of_le}
use Rattle.std.proofs.lemmas.Bool.{false≢true}
use Rattle.std.proofs.lemmas.Cmp.{nat_list_cmp_total, tied_itself}
use Rattle.std.proofs.lemmas.Map.Lookups.{exact_bytes}
use Rattle.away_values.specs.declared.values.Class.{Class}
use Rattle.block_forms.specs.declared.forms.Block.{Block}
use Rattle.block_forms.specs.declared.forms.End.{End}
use Rattle.block_forms.specs.declared.forms.End.TheVariants.{Jump, Branch, Return, Fail}
use Rattle.block_forms.specs.declared.forms.Goto.{Goto}
use Rattle.inline_law.specs.Fails.{Fails, IsFail}
use Rattle.inline_calls.specs.Faults.{Among, AreFaults, AreNoneOfReplaced, AreNoneWithoutFails, AreSomeOfRefused, Ascend, FailsBy, IsBefore, StandOnce, compared}
use Rattle.inline_calls.specs.MarkedFaults.{AreMarkedBelow, MarkedFailsBy, behind, class_of, place, put_at, with_class}
use Rattle.inline_calls.specs.Marks.{AreReached, marked}
use Rattle.inline_calls.proofs.FailRules.{got_inside}

some_is : {A : Type 0} {x y : A} → Some x ≡ Some y → x ≡ y
some_is e = cc

-- ---- a place among classes

abbrev as_class : List ℕ → Class
as_class k = record { code = k }

same_class : (c d : Class) → c.code ≡ d.code → c ≡ d
same_class c d e = ap as_class e

-- how many come before the class, where the first i do
abbrev pub place_from : Class → List Class → ℕ → Option ℕ
place_from c cs i = option_map (λ n. i + n) (place c (drop i cs))

within_by : (n : ℕ) (o : Ordering) (p : Option ℕ) → ((k : ℕ) → p ≡ Some k → k ≤ n) → (i : ℕ) → behind o p ≡ Some i → i ≤ suc n
within_by n Less None rest i e = absurd (cc)
within_by n Less (Some k) rest i e = let le = rest k refl in let q : suc k ≡ i = some_is e in omega (arith, le, q)
within_by n Equal p rest i e = absurd (cc)
within_by n Greater p rest i e = let q : 0 ≡ i = some_is e in omega (arith, q)

pub place_within : (c : Class) (cs : List Class) (i : ℕ) → place c cs ≡ Some i → i ≤ length cs
place_within c [] i e = let q : 0 ≡ i = some_is e in omega (arith, q)
place_within c (d ∷ ds) i e = within_by (length ds) (compared d c) (place c ds) (place_within c ds) i e

-- ---- a class more

pub record Added (c : Class) (old new : List Class) : Type 0 where
  pub has : Among c new
  pub kept : (d : Class) → Among d old → Among d new
  pub only : (d : Class) → Among d new → (d ≡ c) ⊎ Among d old
  pub before : (d : Class) → IsBefore d old → compared d c ≡ Less → IsBefore d new
  pub ascend : Ascend old → Ascend new

earlier : (c d : Class) → compared c d ≡ Less → (ds : List Class) → IsBefore d ds → IsBefore c ds
earlier c d is [] b = tt
earlier c d is (e ∷ es) b = (nat_list_cmp_total.trans c.code d.code e.code is b.0, earlier c d is es b.1)

alone : (c : Class) → Added c [] (c ∷ [])
alone c = record {
  has = inl refl;
  kept = λ d m. absurd m;
  only = λ d m. m;
  before = λ d b l. (l, tt);
  ascend = λ a. (tt, tt);
}

module _ (c d : Class) (ds : List Class) where
  behind_one : (new : List Class) → compared d c ≡ Less → Added c ds new → Added c (d ∷ ds) (d ∷ new)
  behind_one new is rest = record {
    has = inr rest.has;
    kept = λ x m. elim m [ inl e ↦ inl e | inr in_rest ↦ inr (rest.kept x in_rest) ];
    only = λ x m. elim m [
      | inl e ↦ inr (inl e)
      | inr in_rest ↦ elim (rest.only x in_rest) [ inl e ↦ inl e | inr old ↦ inr (inr old) ]
    ];
    before = λ x b l. (b.0, rest.before x b.1 l);
    ascend = λ a. (rest.before d a.0 is, rest.ascend a.1);
  }

  already : c ≡ d → Added c (d ∷ ds) (d ∷ ds)
  already e = record {
    has = inl e;
    kept = λ x m. m;
    only = λ x m. inr m;
    before = λ x b l. b;
    ascend = λ a. a;
  }

  in_front : compared c d ≡ Less → Added c (d ∷ ds) (c ∷ d ∷ ds)
  in_front is = record {
    has = inl refl;
    kept = λ x m. inr m;
    only = λ x m. m;
    before = λ x b l. (l, b);
    ascend = λ a. ((is, earlier c d is ds a.0), a);
  }

  put_behind : (p : Option ℕ) → put_at c (d ∷ ds) (option_map (λ n. suc n) p) ≡ d ∷ put_at c ds p
  put_behind None = refl
  put_behind (Some i) = refl

  by_order : (o : Ordering) → compared d c ≡ o → Added c ds (with_class c ds) → Added c (d ∷ ds) (put_at c (d ∷ ds) (behind o (place c ds)))
  by_order Less is rest = subst (Added c (d ∷ ds)) (sym (put_behind (place c ds))) (behind_one (with_class c ds) is rest)
  by_order Equal is rest = already (sym (same_class d c (exact_bytes d.code c.code is)))
  by_order Greater is rest = in_front (nat_list_cmp_total.antisymm c.code d.code ∙ ap ordering_reverse is)

pub added : (c : Class) (cs : List Class) → Added c cs (with_class c cs)
added c [] = alone c
added c (d ∷ ds) = by_order c d ds (compared d c) refl (added c ds)

-- ---- the classes of marked blocks

module _ (blocks : List Block) (marks : List Bool) where
  module _ (b : ℕ) (classes : List Class) (are : AreMarkedBelow blocks marks b classes) where
    wider : (c : Class) → MarkedFailsBy blocks marks b c → MarkedFailsBy blocks marks (b + 1) c
    wider c m = record { number = m.number; block = m.block; below = let lt = m.below in omega (arith, lt); is_marked = m.is_marked; is = m.is; fails = m.fails }

    -- it is the last one, or one before
    parted : (c : Class) (m : MarkedFailsBy blocks marks (b + 1) c) → (m.number ≡ b) ⊎ MarkedFailsBy blocks marks b c
    parted c m = elim (eq-or-lt_of_le {n = m.number} {m = b} (let lt = m.below in omega (arith, lt))) [
      | inl q ↦ inl q
      | inr less ↦ inr (record { number = m.number; block = m.block; below = less; is_marked = m.is_marked; is = m.is; fails = m.fails })
    ]

    pub marked_skips : (marked marks b ≡ true → (x : Block) → slice_get blocks b ≡ Some x → class_of x.end ≡ None) → AreMarkedBelow blocks marks (b + 1) classes
    marked_skips none_there = record {
      each = λ c. (
        λ among. wider c ((are.each c).0 among),
        λ m. elim (parted c m) [
          | inl q ↦
              let none = none_there (subst (λ v. marked marks v ≡ true) q m.is_marked) m.block (subst (λ v. slice_get blocks v ≡ Some m.block) q m.is) in
              absurd (let wrong : None ≡ Some c = sym none ∙ ap class_of m.fails in cc)
          | inr old ↦ (are.each c).1 old
        ],
      );
      ascend = are.ascend;
    }

    module _ (x : Block) (is : slice_get blocks b ≡ Some x) where
      pub skips_here : class_of x.end ≡ None → AreMarkedBelow blocks marks (b + 1) classes
      skips_here none = marked_skips (λ m y is_y. ap (λ (z : Block). class_of z.end) (some_is (sym is_y ∙ is)) ∙ none)

      at_last : (c : Class) (m : MarkedFailsBy blocks marks (b + 1) c) → m.number ≡ b → x.end ≡ Fail c
      at_last c m q = ap (λ (y : Block). y.end) (some_is (sym is ∙ subst (λ v. slice_get blocks v ≡ Some m.block) q m.is)) ∙ m.fails

      pub marked_takes : (c : Class) (new : List Class) → marked marks b ≡ true → class_of x.end ≡ Some c → new ≡ with_class c classes → AreMarkedBelow blocks marks (b + 1) new
      marked_takes c new m told e = subst (AreMarkedBelow blocks marks (b + 1)) (sym e) (record {
        each = λ d. (
          λ among. elim ((added c classes).only d among) [
            | inl q ↦ record { number = b; block = x; below = omega arith; is_marked = m; is = is; fails = fail_of x.end c told ∙ ap Fail (sym q) }
            | inr old ↦ wider d ((are.each d).0 old)
          ],
          λ m. elim (parted d m) [
            | inl q ↦ subst (λ k. Among k (with_class c classes)) (some_is (sym told ∙ ap class_of (at_last d m q))) (added c classes).has
            | inr old ↦ (added c classes).kept d ((are.each d).1 old)
          ],
        );
        ascend = (added c classes).ascend are.ascend;
      })
        where
          fail_of : (end : End) (c : Class) → class_of end ≡ Some c → end ≡ Fail c
          fail_of (Fail d) c e = ap Fail (some_is e)
          fail_of (Jump d) c e = absurd (cc)
          fail_of (Branch t a d) c e = absurd (cc)
          fail_of (Return t) c e = absurd (cc)

pub faults_from : (goto : Goto) (marks : List Bool) (classes : List Class) → AreReached goto marks → AreMarkedBelow goto.blocks marks (length goto.blocks) classes → AreFaults goto classes
faults_from goto marks classes reached are = record {
  each = λ c. (
    λ among. let m = (are.each c).0 among in record { number = m.number; block = m.block; reached = reached.only m.number m.is_marked; is = m.is; fails = m.fails },
    λ f.
        let lt = got_inside goto.blocks f.number f.block f.is in
        (are.each c).1 (record { number = f.number; block = f.block; below = lt; is_marked = reached.all f.number f.reached lt; is = f.is; fails = f.fails }),
  );
  ascend = are.ascend;
}

-- ---- laws

comes_before : (c d : Class) (ds : List Class) → IsBefore c ds → Among d ds → compared c d ≡ Less
comes_before c d [] b m = absurd m
comes_before c d (e ∷ es) b (inl q) = ap (compared c) q ∙ b.0
comes_before c d (e ∷ es) b (inr m) = comes_before c d es b.1 m

among_at : (cs : List Class) (i : ℕ) (c : Class) → slice_get cs i ≡ Some c → Among c cs
among_at [] i c e = absurd (cc)
among_at (d ∷ ds) zero c e = inl (sym (some_is e))
among_at (d ∷ ds) (suc i) c e = inr (among_at ds i c e)

not_again : (c d : Class) (ds : List Class) (i : ℕ) → IsBefore d ds → d ≡ c → slice_get ds i ≡ Some c → ⊥
not_again c d ds i b q e =
    let less : compared c c ≡ Less = subst (λ k. compared k c ≡ Less) q (comes_before d c ds b (among_at ds i c e)) in
    let wrong : Less ≡ Equal = sym less ∙ tied_itself nat_list_cmp_total c.code in
    false≢true (ap is_eq wrong)

once : (cs : List Class) → Ascend cs → (i j : ℕ) (c : Class) → slice_get cs i ≡ Some c → slice_get cs j ≡ Some c → i ≡ j
once [] a i j c e f = absurd (cc)
once (d ∷ ds) a zero zero c e f = refl
once (d ∷ ds) a zero (suc j) c e f = absurd (not_again c d ds j a.0 (some_is e) f)
once (d ∷ ds) a (suc i) zero c e f = absurd (not_again c d ds i a.0 (some_is f) e)
once (d ∷ ds) a (suc i) (suc j) c e f = ap suc (once ds a.1 i j c e f)

pub stand_once : StandOnce
stand_once goto classes are i j c e f = once classes are.ascend i j c e f

by_class : (end : End) → IsFail end → (c : Class) × (end ≡ Fail c)
by_class (Fail c) f = (c, refl)
by_class (Jump d) f = absurd f
by_class (Branch t a d) f = absurd f
by_class (Return t) f = absurd f

fails_so : (goto : Goto) (c : Class) → FailsBy goto c → Fails goto
fails_so goto c f = record { number = f.number; block = f.block; reached = f.reached; is = f.is; fails = subst IsFail (sym f.fails) tt }

none_where : (goto : Goto) (classes : List Class) → AreFaults goto classes → (Fails goto → ⊥) → classes ≡ []
none_where goto [] are never = refl
none_where goto (c ∷ cs) are never = absurd (never (fails_so goto c ((are.each c).0 (inl refl))))

pub are_none : AreNoneWithoutFails
are_none goto classes are = (
  λ e f.
      let by = by_class f.block.end f.fails in
      subst (Among by.0) e ((are.each by.0).1 (record { number = f.number; block = f.block; reached = f.reached; is = f.is; fails = by.1 })),
  none_where goto classes are,
)

pub some_of_refused : AreSomeOfRefused
some_of_refused s f goto q classes are refuses e = (are_none goto classes are).0 e refuses.fails

pub none_of_replaced : AreNoneOfReplaced
none_of_replaced s f goto q c classes are calls = (are_none goto classes are).1 calls.no_fails
