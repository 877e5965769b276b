use Rattle.std.proofs.Common.{◌≡◌, ◌∙◌, sym, ap, subst, map, List, Some, None, ◌∷◌, [], ◌++◌, append_assoc, Ok, Err}
use Rattle.std.proofs.lemmas.List.{map-append}
use Rattle.std.specs.Prelude.{Result, is_ok, is_err, if◌then◌else◌, false}
use Rattle.away_grammar.specs.Tokens.{Lexes}
use Rattle.away_grammar.specs.FunctionFile.{first_dollar}
use Rattle.away_lex.specs.Lexed.{Gives, seen}
use Rattle.away_lex.proofs.Parts.{part_whole, part_cut, none_more}
use Rattle.away_lex.proofs.function_file.part_tokens.Goals as goal

pub returns-then-is_dollar-clause-err : goal.returns-then-is_dollar-clause-err
returns-then-is_dollar-clause-err c =
    let xs = map seen c.loop-item.list.items in
    let t = c.in-Ok.token in
    let gives = subst (λ r. Gives c.loop-item.left (Some r) c.next.new.self) c.in-Ok.is c.in-Some.ensures.gives in
    part_cut c.args.start c.args.text.now xs (seen t) c.next.new.self c.loop-item.invariant.plain (sym c.is_dollar.ensures ∙ c.if-is_dollar.true)
    (λ ts bad h. c.loop-item.invariant.reads (seen t ∷ ts) bad (gives ts bad h))

pushed : {A E X : Type 0} (r : Result A E) (xs ys items : List X) → is_err r ≡ false → items ≡ (if is_ok r then ys else xs) → items ≡ ys
pushed (Ok a) xs ys items h e = e
pushed (Err b) xs ys items h e = absurd (cc)

pub loop-item-preserved : goal.loop-item-preserved
loop-item-preserved c =
    let xs = map seen c.loop-item.list.items in
    let t = c.in-Ok.token in
    let gives = subst (λ r. Gives c.loop-item.left (Some r) c.next.new.self) c.in-Ok.is c.in-Some.ensures.gives in
    let items : map seen c.push.new.self.items ≡ xs ++ (seen t ∷ []) = ap (map seen) (pushed c.push.result c.loop-item.list.items (c.loop-item.list.items ++ c.in-Ok.token ∷ []) c.push.new.self.items (sym c.is_err.ensures.value ∙ c.if-is_err.false) c.push.ensures.items) ∙ map-append seen c.loop-item.list.items (c.in-Ok.token ∷ []) in
    record {
      reads = λ ts bad h. subst (λ l. Lexes c.args.start c.args.text.now l bad) (sym (ap (λ l. l ++ ts) items ∙ append_assoc xs (seen t ∷ []) ts)) (c.loop-item.invariant.reads (seen t ∷ ts) bad (gives ts bad h));
      plain = ap first_dollar items ∙ none_more xs (seen t) c.loop-item.invariant.plain (sym c.is_dollar.ensures ∙ c.if-is_dollar.false);
    }

pub returns-in-Err-clause-err : goal.returns-in-Err-clause-err
returns-in-Err-clause-err c =
    let xs = map seen c.loop-item.list.items in
    let gives = subst (λ r. Gives c.loop-item.left (Some r) c.next.new.self) c.in-Err.is c.in-Some.ensures.gives in
    (xs, part_whole c.args.start c.args.text.now xs (Some c.in-Err.bad.offset) c.loop-item.invariant.plain (c.loop-item.invariant.reads [] (Some c.in-Err.bad.offset) gives.0))

pub returns-clause-ok : goal.returns-clause-ok
returns-clause-ok c =
    let xs = map seen c.loop-item.list.items in
    let gives = subst (λ r. Gives c.loop-item.left r c.next.new.self) c.in_default.is c.next.ensures.gives in
    part_whole c.args.start c.args.text.now xs None c.loop-item.invariant.plain (c.loop-item.invariant.reads [] None gives.0)
