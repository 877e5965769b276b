-- What is asked of each part of a pattern.
use Rattle.std.specs.Prelude.{
  ◌≡◌,
  ℕ,
  Bool,
  true,
  false,
  not,
  ◌&&◌,
  List,
  slice_get,
  Option,
  Some,
  None,
  nat_eq,
  bytes_eq,
}
use Rattle.goto_check.specs.declared.asking.Question.{Question}
use Rattle.goto_check.specs.declared.asking.Question.TheVariants as question
use Rattle.goto_check.specs.declared.asking.Asking.{Asking}
use Rattle.block_forms.specs.declared.places.Numbers.{Numbers}
use Rattle.block_forms.specs.declared.forms.Term.{Term}
use Rattle.block_forms.specs.declared.forms.End.{End}
use Rattle.block_forms.specs.declared.forms.Block.{Block}
use Rattle.block_forms.specs.declared.forms.End.TheVariants.{Jump, Branch, Return, Fail}
use Rattle.block_forms.specs.Forms.{Assignment}
use Rattle.block_forms.specs.Laid.{Setting, setting_of}
use Rattle.block_forms.specs.Patterns.{Part, own, shared, same, never}

-- ---- whether two blocks are equal

abbrev pub is_term : Term → Term → Bool
is_term t u = nat_eq t.expr u.expr && bytes_eq t.names u.names

abbrev pub is_flag : Bool → Bool → Bool
is_flag true b = b
is_flag false b = not b

abbrev pub is_set : Assignment → Assignment → Bool
is_set None None = true
is_set None (Some b) = false
is_set (Some a) None = false
is_set (Some a) (Some b) = nat_eq a.0 b.0 && is_term a.1 b.1

abbrev pub is_end : End → End → Bool
is_end (Jump a) (Jump b) = nat_eq a b
is_end (Jump a) (Branch t y n) = false
is_end (Jump a) (Return t) = false
is_end (Jump a) (Fail c) = false
is_end (Branch t y n) (Jump a) = false
is_end (Branch t y n) (Branch u v m) = is_term t u && (nat_eq y v && nat_eq n m)
is_end (Branch t y n) (Return u) = false
is_end (Branch t y n) (Fail c) = false
is_end (Return t) (Jump a) = false
is_end (Return t) (Branch u y n) = false
is_end (Return t) (Return u) = is_term t u
is_end (Return t) (Fail c) = false
is_end (Fail c) (Jump a) = false
is_end (Fail c) (Branch u y n) = false
is_end (Fail c) (Return u) = false
is_end (Fail c) (Fail d) = bytes_eq c.code d.code

abbrev pub is_block : Block → Block → Bool
is_block x y = is_flag x.head y.head && (is_set x.set y.set && is_end x.end y.end)

abbrev pub is_found : Option Block → Block → Bool
is_found None y = false
is_found (Some x) y = is_block x y

-- ---- answers

-- whether a part fails to stand, whether a block is its own, whether it is one that the part may
-- share, or whether the part has a block
abbrev pub says_yes : List Block → Question → Part → Bool
says_yes blocks question.Fails (own b x) = not (is_found (slice_get blocks b) x)
says_yes blocks question.Fails (shared b x) = not (is_found (slice_get blocks b) x)
says_yes blocks question.Fails (same a b) = not (nat_eq a b)
says_yes blocks question.Fails never = true
says_yes blocks (question.Owns c) (own b x) = nat_eq b c
says_yes blocks (question.Owns c) (shared b x) = false
says_yes blocks (question.Owns c) (same a b) = false
says_yes blocks (question.Owns c) never = false
says_yes blocks (question.Shares c) (own b x) = false
says_yes blocks (question.Shares c) (shared b x) = nat_eq b c
says_yes blocks (question.Shares c) (same a b) = false
says_yes blocks (question.Shares c) never = false
says_yes blocks question.Which (own b x) = true
says_yes blocks question.Which (shared b x) = true
says_yes blocks question.Which (same a b) = false
says_yes blocks question.Which never = false

-- ---- where it is asked

abbrev pub numbers_in : Asking → Numbers
numbers_in a = record { fixed = a.fixed; counters = a.counters; targets = a.targets }

abbrev pub setting_in : Asking → Setting
setting_in a = setting_of a.goto.now a.slots.now (numbers_in a)

-- a block is the one that follows, where a part that fails is asked for; who has a block is told
-- without what follows it
abbrev pub IsAsked : Asking → ℕ → ℕ → Type 0
IsAsked a x y = a.question ≡ question.Fails → x ≡ y
