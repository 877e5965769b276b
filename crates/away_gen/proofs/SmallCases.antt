-- Each case is small.
use Rattle.std.proofs.Common.{◌≡◌, ℕ, ◌+◌, ◌*◌, ◌/◌, ◌^◌, ◌<◌, length, arith, ap, refl, suc, zero}
use Rattle.std.proofs.lemmas.Nat.{mod_below}
use Rattle.std.specs.List.{AllByRecursion}
use Rattle.away_gen.specs.Draws.{after, draw, in_turn, upper}
use Rattle.away_gen.specs.Parts.{parts_of, row_from, statement_from}
use Rattle.away_gen.specs.Small.{IsSmall, IsSmallRow, IsSmallStatement}

draw_below : (place m state : ℕ) → 0 < m → draw place m state < m
unfolding upper
draw_below place m state some = mod_below (after place state / 2 ^ 33) m some

length-in_turn : {A : Type 0} (make : ℕ → A) (draws count state : ℕ) → length (in_turn make draws count state) ≡ count
length-in_turn make draws zero state = refl
length-in_turn make draws (suc count) state = ap suc (length-in_turn make draws count (after draws state))

all_in_turn : {A : Type 0} (P : A → Type 0) (make : ℕ → A) (draws count state : ℕ) → ((s : ℕ) → P (make s))
    → AllByRecursion P (in_turn make draws count state)
all_in_turn P make draws zero state each = tt
all_in_turn P make draws (suc count) state each = (each state, all_in_turn P make draws count (after draws state) each)

small_row : (state : ℕ) → IsSmallRow (row_from state)
small_row state =
    record {
      src = draw_below 1 10 state (omega arith);
      dst = draw_below 2 10 state (omega arith);
      cost = draw_below 3 1000 state (omega arith);
    }

small_statement : (state : ℕ) → IsSmallStatement (statement_from state)
small_statement state =
    let constant : draw 4 99 state < 99 = draw_below 4 99 state (omega arith) in
    record {
      target = draw_below 2 4 state (omega arith);
      source = draw_below 3 4 state (omega arith);
      positive = omega arith;
      constant = omega arith;
    }

pub small : (number : ℕ) → IsSmall (parts_of number)
small number =
    let count = 50 + draw 1 50 number in
    let table = after 1 number in
    let arguments = after (3 * count) table in
    let function = after 2 arguments in
    let statements = 40 + draw 1 24 function in
    let rows_below : draw 1 50 number < 50 = draw_below 1 50 number (omega arith) in
    let statements_below : draw 1 24 function < 24 = draw_below 1 24 function (omega arith) in
    let rows_are : length (in_turn row_from 3 count table) ≡ count = length-in_turn row_from 3 count table in
    let statements_are : length (in_turn statement_from 4 statements (after 1 function)) ≡ statements =
    length-in_turn statement_from 4 statements (after 1 function) in
    record {
      rows = (omega arith, omega arith);
      each_row = all_in_turn IsSmallRow row_from 3 count table small_row;
      first = draw_below 1 1000 arguments (omega arith);
      second = draw_below 2 1000 arguments (omega arith);
      statements = (omega arith, omega arith);
      each_statement = all_in_turn IsSmallStatement statement_from 4 statements (after 1 function) small_statement;
    }
