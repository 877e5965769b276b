-- A list of slots against those that a text reads in turn: each is one that the list had before, or
-- the next one.
use Rattle.std.specs.Prelude.{
  ℕ,
  ◌+◌,
  ◌&&◌,
  List,
  [],
  ◌∷◌,
  ◌++◌,
  fold,
  filter_map,
  flat_map,
  length,
  Option,
  Some,
  None,
  if◌then◌else◌,
  nat_eq,
  nat_lt,
}
use Rattle.away_values.specs.declared.operators.ChainOp.{ChainOp}
use Rattle.away_trees.specs.declared.queries.Expr.{Expr}
use Rattle.away_trees.specs.declared.queries.FromItem.{FromItem}
use Rattle.away_trees.specs.declared.queries.Item.{Item}
use Rattle.away_trees.specs.declared.queries.Key.{Key}
use Rattle.away_trees.specs.declared.queries.Select.{Select}
use Rattle.away_trees.specs.Algebra.{expr_of, item_of, from_of, key_of, select_of}
use Rattle.sql_meaning.specs.Reads.{Read, reading, slot_of}

-- the first place of a slot, or the length of the list
abbrev pub first_place : List ℕ → ℕ → ℕ
first_place [] x = 0
first_place (y ∷ ys) x = if nat_eq x y then 0 else 1 + first_place ys x

-- one slot, where so many of the list have been
abbrev pub pass_from : List ℕ → ℕ → ℕ → Option ℕ
pass_from names k x =
    if nat_lt (first_place names x) k then Some k else (if nat_eq (first_place names x) k && nat_lt k (length names) then Some (k + 1) else None)

abbrev pub pass : List ℕ → Option ℕ → ℕ → Option ℕ
pass names None x = None
pass names (Some k) x = pass_from names k x

-- how many of the list have been after what is read, or None where a slot wasn't as it had to be
unfoldable pub passed : List ℕ → Option ℕ → List Read → Option ℕ
passed names k rs = fold (pass names) k (filter_map slot_of rs)

-- ---- what lists of parts read

abbrev pub exprs_read : ℕ → List Expr → List Read
exprs_read d es = flat_map (λ e. expr_of reading e d) es

abbrev pub links_read : ℕ → List (ChainOp × Expr) → List Read
links_read d ls = flat_map (λ (l : ChainOp × Expr). expr_of reading l.1 d) ls

abbrev pub arms_read : ℕ → List (Expr × Expr) → List Read
arms_read d arms = flat_map (λ (a : Expr × Expr). expr_of reading a.0 d ++ expr_of reading a.1 d) arms

abbrev pub option_reads : ℕ → Option Expr → List Read
option_reads d None = []
option_reads d (Some e) = expr_of reading e d

abbrev pub items_read : ℕ → List Item → List Read
items_read d items = flat_map (λ i. item_of reading i d) items

abbrev pub froms_read : ℕ → List FromItem → List Read
froms_read d froms = flat_map (λ f. from_of reading f d) froms

abbrev pub keys_read : ℕ → List Key → List Read
keys_read d keys = flat_map (λ k. key_of reading k d) keys

abbrev pub selects_read : ℕ → List Select → List Read
selects_read d selects = flat_map (λ s. select_of reading s d) selects
