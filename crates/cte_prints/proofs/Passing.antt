-- Terminals that open and close nothing leave the room as it is.
use Rattle.std.proofs.Common.{◌≡◌, ℕ, Bool, true, false, List, ◌∷◌, Option, Some, None, refl}
use Rattle.away_values.specs.declared.operators.ChainOp.{ChainOp}
use Rattle.away_values.specs.declared.operators.CmpOp.{CmpOp}
use Rattle.away_values.specs.declared.operators.IsTest.{IsTest}
use Rattle.away_trees.specs.declared.queries.Expr.{Expr}
use Rattle.away_grammar.specs.declared.grammar.Mark.{Mark}
use Rattle.away_grammar.specs.declared.grammar.Mark.TheVariants as m
use Rattle.away_grammar.specs.declared.grammar.Level.{Level}
use Rattle.away_grammar.specs.declared.grammar.Level.TheVariants as l
use Rattle.away_grammar.specs.Terminals.{Terminal, mark, name}
use Rattle.away_grammar.specs.Grammar.{operator_of, comparison_of, test_of, literal_of, called, perhaps, schema_qualified, not_null}
use Rattle.away_grammar.specs.FunctionGrammar.{loop_opens, gives_default, assigns, labelled, perhaps_name, either}
use Rattle.sql_printer.specs.Writable.{AllWritable}
use Rattle.cte_prints.proofs.RoomLeft.{Room}

-- From the first terminals to the second ones nothing opens or closes, and no LOOP stands.
pub record Passes (ts : List Terminal) (b : Bool) (us : List Terminal) (c : Bool) : Type 0 where
  pub room : (r : ℕ) → Room ts r b → Room us r c
  pub same : loop_opens ts b ≡ loop_opens us c
  pub writable : AllWritable ts → AllWritable us

-- a mark that opens nothing and closes nothing
abbrev pub is_plain : Mark → Bool
is_plain m.Open = false
is_plain m.Begin = false
is_plain m.If = false
is_plain m.Loop = false
is_plain m.Case = false
is_plain m.Close = false
is_plain m.End = false
is_plain _ = true

pub plain_passes : (terminal : Mark) → is_plain terminal ≡ true → (ts : List Terminal) (b : Bool) → Passes (mark terminal ∷ ts) b ts false
plain_passes m.Open e ts b = absurd (cc e)
plain_passes m.Begin e ts b = absurd (cc e)
plain_passes m.If e ts b = absurd (cc e)
plain_passes m.Loop e ts b = absurd (cc e)
plain_passes m.Case e ts b = absurd (cc e)
plain_passes m.Close e ts b = absurd (cc e)
plain_passes m.End e ts b = absurd (cc e)
plain_passes _ e ts b = record { room = λ r h. h; same = refl; writable = λ k. k.1 }

-- ---- the marks of the grammar's tables

or_plain : (terminal : Mark) (o : ChainOp) → operator_of l.Or terminal ≡ Some o → is_plain terminal ≡ true
or_plain m.Or o h = refl
or_plain _ o h = absurd (cc h)

and_plain : (terminal : Mark) (o : ChainOp) → operator_of l.And terminal ≡ Some o → is_plain terminal ≡ true
and_plain m.And o h = refl
and_plain _ o h = absurd (cc h)

bars_plain : (terminal : Mark) (o : ChainOp) → operator_of l.Concat terminal ≡ Some o → is_plain terminal ≡ true
bars_plain m.Bars o h = refl
bars_plain _ o h = absurd (cc h)

sum_plain : (terminal : Mark) (o : ChainOp) → operator_of l.Sum terminal ≡ Some o → is_plain terminal ≡ true
sum_plain m.Plus o h = refl
sum_plain m.Minus o h = refl
sum_plain _ o h = absurd (cc h)

product_plain : (terminal : Mark) (o : ChainOp) → operator_of l.Product terminal ≡ Some o → is_plain terminal ≡ true
product_plain m.Star o h = refl
product_plain m.Slash o h = refl
product_plain m.Percent o h = refl
product_plain _ o h = absurd (cc h)

pub operator_plain : (level : Level) (terminal : Mark) (o : ChainOp) → operator_of level terminal ≡ Some o → is_plain terminal ≡ true
operator_plain l.Or terminal o h = or_plain terminal o h
operator_plain l.And terminal o h = and_plain terminal o h
operator_plain l.Concat terminal o h = bars_plain terminal o h
operator_plain l.Sum terminal o h = sum_plain terminal o h
operator_plain l.Product terminal o h = product_plain terminal o h
operator_plain _ terminal o h = absurd (cc h)

pub comparison_plain : (terminal : Mark) (o : CmpOp) → comparison_of terminal ≡ Some o → is_plain terminal ≡ true
comparison_plain m.Equal o h = refl
comparison_plain m.Differ o h = refl
comparison_plain m.Less o h = refl
comparison_plain m.LessEqual o h = refl
comparison_plain m.Greater o h = refl
comparison_plain m.GreaterEqual o h = refl
comparison_plain _ o h = absurd (cc h)

pub test_plain : (terminal : Mark) (t : IsTest) → test_of terminal ≡ Some t → is_plain terminal ≡ true
test_plain m.Null t h = refl
test_plain m.True t h = refl
test_plain m.False t h = refl
test_plain _ t h = absurd (cc h)

pub literal_plain : (terminal : Mark) (x : Expr) → literal_of terminal ≡ Some x → is_plain terminal ≡ true
literal_plain m.Null x h = refl
literal_plain m.True x h = refl
literal_plain m.False x h = refl
literal_plain _ x h = absurd (cc h)

pub called_plain : (terminal : Mark) (n : List ℕ) → called terminal ≡ Some n → is_plain terminal ≡ true
called_plain m.Coalesce n h = refl
called_plain m.Greatest n h = refl
called_plain m.Least n h = refl
called_plain _ n h = absurd (cc h)

pub default_plain : (terminal : Mark) → gives_default terminal ≡ true → is_plain terminal ≡ true
default_plain m.Assign h = refl
default_plain m.Equal h = refl
default_plain m.Default h = refl
default_plain _ h = absurd (cc h)

pub assign_plain : (terminal : Mark) → assigns terminal ≡ true → is_plain terminal ≡ true
assign_plain m.Assign h = refl
assign_plain m.Equal h = refl
assign_plain _ h = absurd (cc h)

-- ---- what may be written or not

-- whether END stands directly before what follows a mark that may be left out
pub behind_perhaps : Bool → Bool → Bool
behind_perhaps true b = false
behind_perhaps false b = b

pub perhaps_passes : (n : Bool) (terminal : Mark) → is_plain terminal ≡ true → (ts : List Terminal) (b : Bool)
    → Passes (perhaps n (mark terminal) ts) b ts (behind_perhaps n b)
unfolding behind_perhaps
perhaps_passes true terminal e ts b = plain_passes terminal e ts b
perhaps_passes false terminal e ts b = record { room = λ r h. h; same = refl; writable = λ k. k }

pub fresh_passes : (n : Bool) (terminal : Mark) → is_plain terminal ≡ true → (ts : List Terminal) → Passes (perhaps n (mark terminal) ts) false ts false
fresh_passes true terminal e ts = plain_passes terminal e ts false
fresh_passes false terminal e ts = record { room = λ r h. h; same = refl; writable = λ k. k }

pub schema_qualified_passes : (q : Bool) (ts : List Terminal) → Passes (schema_qualified q ts) false ts false
schema_qualified_passes true ts = record { room = λ r h. h; same = refl; writable = λ k. k.1.1 }
schema_qualified_passes false ts = record { room = λ r h. h; same = refl; writable = λ k. k }

pub word_passes : (w : Bool) (n : List ℕ) (ts : List Terminal) → Passes (perhaps w (name n) ts) false ts false
word_passes true n ts = record { room = λ r h. h; same = refl; writable = λ k. k.1 }
word_passes false n ts = record { room = λ r h. h; same = refl; writable = λ k. k }

pub not_null_passes : (v : Bool) (ts : List Terminal) → Passes (not_null v ts) false ts false
not_null_passes true ts = record { room = λ r h. h; same = refl; writable = λ k. k.1.1 }
not_null_passes false ts = record { room = λ r h. h; same = refl; writable = λ k. k }

pub labelled_passes : (label : Option (List ℕ)) (ts : List Terminal) → Passes (labelled label ts) false ts false
labelled_passes (Some n) ts = record { room = λ r h. h; same = refl; writable = λ k. k.1.1.1 }
labelled_passes None ts = record { room = λ r h. h; same = refl; writable = λ k. k }

-- whether END stands directly before what follows a name that may be left out
pub behind_name : Option (List ℕ) → Bool → Bool
behind_name (Some n) b = false
behind_name None b = b

pub name_passes : (n : Option (List ℕ)) (ts : List Terminal) (b : Bool) → Passes (perhaps_name n ts) b ts (behind_name n b)
unfolding behind_name
name_passes (Some n) ts b = record { room = λ r h. h; same = refl; writable = λ k. k.1 }
name_passes None ts b = record { room = λ r h. h; same = refl; writable = λ k. k }

pub elsif_plain : (short : Bool) → is_plain (either short m.Elsif m.Elseif) ≡ true
elsif_plain true = refl
elsif_plain false = refl
