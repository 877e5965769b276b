-- Between two numbers a list comes to nest too deep.
use Rattle.std.proofs.Common.{false, nat_eq, get_or, option_map, ◌≡◌, ◌<◌, ◌≤◌, ℕ, zero, suc, ◌+◌, List, [], length, take, map, refl, sym, ap, ◌∙◌, subst, arith}
use Rattle.std.proofs.lemmas.List.{take-map, take_all}
use Rattle.std.proofs.lemmas.Option.{slice_get-map, slice_get-get_or}
use Rattle.away_grammar.specs.Nesting.{IsNesting, opened, closed}
use Rattle.away_lex.specs.Lexed.{seen}
use Rattle.away_lex.specs.declared.slices.Token.{Token}
use Rattle.plsql_parse.specs.Refusals.{most_nesting}
use Rattle.function_places.specs.LimitPlaces.{IsTooDeep, StartsDeep}

-- the list nests no deeper than the limit before the first number, and deeper before the second
pub record Between (list : List Token) (limit low high : ℕ) : Type 0 where
  pub rises : low < high
  pub within : high ≤ length list
  pub before : ℕ
  pub with_it : ℕ
  pub nests_before : IsNesting (map seen (take low list)) before
  pub nests_with_it : IsNesting (map seen (take high list)) with_it
  pub fits : before ≤ limit
  pub exceeds : limit < with_it

-- nothing nests
most_none : (at : ℕ) → opened (take at []) ≤ 0 + closed (take at [])
most_none zero = omega arith
most_none (suc at) = omega arith

none_nests : IsNesting [] 0
none_nests = record { most = most_none; reached = (0, refl) }

pub at_first : (list : List Token) (limit n : ℕ) → 0 < length list → IsNesting (map seen list) n → limit < n → Between list limit 0 (length list)
at_first list limit n some nests deep = record {
  rises = some;
  within = omega arith;
  before = 0;
  with_it = n;
  nests_before = none_nests;
  nests_with_it = subst (λ l. IsNesting (map seen l) n) (sym (take_all (length list) list (omega arith))) nests;
  fits = omega arith;
  exceeds = deep;
}

pub no_deeper : {list : List Token} {limit low high : ℕ} (middle n : ℕ) → Between list limit low high → middle < high → IsNesting (map seen (take middle list)) n → n ≤ limit → Between list limit middle high
no_deeper middle n b lt nests fits = record {
  rises = lt;
  within = b.within;
  before = n;
  with_it = b.with_it;
  nests_before = nests;
  nests_with_it = b.nests_with_it;
  fits = fits;
  exceeds = b.exceeds;
}

pub deeper : {list : List Token} {limit low high : ℕ} (middle n : ℕ) → Between list limit low high → low < middle → middle ≤ length list → IsNesting (map seen (take middle list)) n → limit < n → Between list limit low middle
deeper middle n b lt le nests deep = record {
  rises = lt;
  within = le;
  before = b.before;
  with_it = n;
  nests_before = b.nests_before;
  nests_with_it = nests;
  fits = b.fits;
  exceeds = deep;
}

-- where no number is between them, the first is that of the token
pub at_last : {list : List Token} {limit low high : ℕ} → Between list limit low high → high ≤ low + 1 → IsTooDeep (map seen list) limit low
at_last {list = list} {low = low} {high = high} b le =
    let next : high ≡ low + 1 = let up : low < high = b.rises in omega arith in record {
      before = b.before;
      with_it = b.with_it;
      nests_before = subst (λ l. IsNesting l b.before) (sym (take-map seen low list)) b.nests_before;
      nests_with_it = subst (λ l. IsNesting l b.with_it) (ap (λ n. map seen (take n list)) next ∙ sym (take-map seen (low + 1) list)) b.nests_with_it;
      fits = b.fits;
      exceeds = b.exceeds;
    }

-- ---- the token of that number

-- a list that isn't empty
pub some_tokens : (n : ℕ) → false ≡ nat_eq n 0 → 0 < n
some_tokens zero e = absurd (cc e)
some_tokens (suc n) e = omega arith

pub starts_deep : (inner : List Token) (number : ℕ) (d : Token) → number < length inner → IsTooDeep (map seen inner) most_nesting number → StartsDeep (map seen inner) (get_or inner number d).start
starts_deep inner number d lt deep = record {
  number = number;
  here = seen (get_or inner number d);
  stands = slice_get-map seen inner number ∙ ap (option_map seen) (slice_get-get_or inner number d lt);
  too_deep = deep;
  offset_is = refl;
}
