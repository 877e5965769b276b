use Rattle.std.proofs.Common.{rules, ◌≡◌, ◌∷◌, length, [], ◌++◌, refl, sym, subst, ap, ◌∙◌, arith}
use Rattle.std.specs.Str.{chars, IsUtf8}
use Rattle.std.proofs.lemmas.Str.{chars-nil, chars_past_char, IsUtf8-past_char}
use Rattle.std.proofs.lemmas.List.{append_assoc, length-append}
use Rattle.std.proofs.lemmas.Bool.Decides.{Decides-eqb}
use Rattle.cte_reads.proofs.TextOfClass.{one_more, other, longer, whole, shorter, none_left}
use Rattle.cte_reads.proofs.reading.is_code.Goals as goal
use Rattle.cte_reads.proofs.reading.is_code.Goals.{then-count-ge5-via-then-count-ge5, then-count-ge5-via-else-count-ge5+then-from}

pub loop-c-init : goal.loop-c-init
loop-c-init c =
    let rest : c.into_iter-c-iterator.result.rest.now ≡ c.text.result.now = ap (λ s. s.rest.now) c.into_iter-c-iterator.ensures.into_iter_gives ∙ c.chars-c-items.ensures.rest in
    record {
      text = sym c.text.ensures.value ∙ ap chars (sym rest);
      code = refl;
      count = refl;
      most = omega arith;
      utf8 = subst IsUtf8 (sym rest) c.text.utf8;
    }

pub returns-then-count-ge5 : goal.returns-then-count-ge5
returns-then-count-ge5 c =
    let held = c.loop-c.invariant in
    let next : chars c.loop-c.c-iterator.rest.now ≡ c.in-Some.c ∷ chars c.next.new.self.rest.now = chars_past_char _ _ c.in-Some.c held.utf8 c.in-Some.ensures.steps.0 in
    let text : c.args.text.now ≡ c.loop-c.yielded ++ (c.in-Some.c ∷ chars c.next.new.self.rest.now) = held.text ∙ ap (λ z. c.loop-c.yielded ++ z) next in
    let never : c.args.text.now ≡ c.args.class.code → ⊥ = elim c.then-count-ge5.branch [
      | then-count-ge5-via-then-count-ge5 w ↦ longer _ _ _ _ _ _ text held.code (search rules)
      | then-count-ge5-via-else-count-ge5+then-from w ↦ other _ _ _ _ _ _ text held.code (search rules) (λ e. w.if-from.true (w.from.ensures ∙ (e ∙ sym w.from-else-count-ge5.ensures)))
    ] in
    (λ no. absurd (cc), λ e. absurd (never e))

pub loop-c-preserved : goal.loop-c-preserved
loop-c-preserved c =
    let held = c.loop-c.invariant in
    let next : chars c.loop-c.c-iterator.rest.now ≡ c.in-Some.c ∷ chars c.next.new.self.rest.now = chars_past_char _ _ c.in-Some.c held.utf8 c.in-Some.ensures.steps.0 in
    record {
      text = held.text ∙ (ap (λ z. c.loop-c.yielded ++ z) next ∙ sym (append_assoc c.loop-c.yielded (c.in-Some.c ∷ []) (chars c.next.new.self.rest.now)));
      code = one_more c.args.class.code c.loop-c.yielded c.loop-c.count c.in-Some.c held.code (search rules) (sym c.from.ensures ∙ (c.if-from.false ∙ c.from-else-count-ge5.ensures));
      count = omega (arith, held.count, length-append c.loop-c.yielded (c.in-Some.c ∷ []));
      most = omega (arith, c.if-count-ge5.false);
      utf8 = IsUtf8-past_char _ _ c.in-Some.c held.utf8 c.in-Some.ensures.steps.0;
    }

pub returns : goal.returns
returns c =
    let held = c.loop-c.invariant in
    let none : chars c.loop-c.c-iterator.rest.now ≡ [] = ap chars (none_left c.loop-c.c-iterator.rest.now c.in-None.ensures.steps.0.0) ∙ chars-nil in
    let text : c.args.text.now ≡ c.loop-c.yielded ++ [] = held.text ∙ ap (λ z. c.loop-c.yielded ++ z) none in
    let five : length c.args.class.code ≡ 5 = search rules in (
      λ y. whole _ _ _ _ text held.code (omega (arith, five, (Decides-eqb c.loop-c.count 5).0 y)),
      λ e. (Decides-eqb c.loop-c.count 5).1 (omega (arith, five, held.most, shorter _ _ _ c.loop-c.count text held.code e)),
    )
