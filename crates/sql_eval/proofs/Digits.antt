-- The number that digits write, as far as they are read.
use Rattle.std.proofs.Common.{◌≡◌, ℕ, ◌+◌, ◌*◌, ◌<◌, ◌≤◌, List, length, take, get_or, subst, lit≤}
use Rattle.std.specs.Str.Parse.{digits_value}
use Rattle.std.specs.Char.{digit_value}
use Rattle.std.proofs.lemmas.Int.Digits.{digits_value_more}
use Rattle.std.proofs.lemmas.Str.Parse.{digits_value-take-le}

pub one_more : (bs : List ℕ) (i : ℕ) → i < length bs → digits_value 10 (take (i + 1) bs) ≡ digits_value 10 (take i bs) * 10 + digit_value (get_or bs i 0)
one_more bs i h = digits_value_more 10 bs i h

pub at_least : (bs : List ℕ) (i : ℕ) → i < length bs → digits_value 10 (take i bs) * 10 + digit_value (get_or bs i 0) ≤ digits_value 10 bs
at_least bs i h = subst (λ n. n ≤ digits_value 10 bs) (digits_value_more 10 bs i h) (digits_value-take-le 10 bs (i + 1) (lit≤ tt))

pub ruleset digit_rules = (one_more, at_least)
