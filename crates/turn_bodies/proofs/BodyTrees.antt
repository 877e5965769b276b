-- What a body in memory is, by its parts.
use Rattle.std.proofs.Common.{◌≡◌, ℕ, List, refl}
use Rattle.away_values.specs.declared.values.Class.{Class}
use Rattle.block_forms.specs.declared.forms.Term.{Term}
use Rattle.call_forms.specs.Bodies.{sets, enters, picks, returns, fails, calls, endless}
use Rattle.turn_bodies.specs.declared.bodies.Body.{Body}
use Rattle.turn_bodies.specs.declared.bodies.Body.TheBlock as b
use Rattle.turn_bodies.specs.declared.bodies.Body.TheVariants as tree
use Rattle.turn_bodies.specs.Trees.{as_body}

pub of_sets : (n : ℕ) (t : Term) (x : Body) → as_body (tree.Sets n t x) ≡ sets n t (as_body x)
unfolding b.hidden-the_row-Body-0 denote.Hole.Carrier.hidden
of_sets n t x = refl

pub of_enters : (params args : List ℕ) (x : Body) → as_body (tree.Enters params args x) ≡ enters params args (as_body x)
unfolding b.hidden-the_row-Body-0 denote.Hole.Carrier.hidden
of_enters params args x = refl

pub of_picks : (t : Term) (x y : Body) → as_body (tree.Picks t x y) ≡ picks t (as_body x) (as_body y)
unfolding b.hidden-the_row-Body-0 denote.Hole.Carrier.hidden
of_picks t x y = refl

pub of_returns : (t : Term) → as_body (tree.Returns t) ≡ returns t
of_returns t = refl

pub of_fails : (c : Class) → as_body (tree.Fails c) ≡ fails c
of_fails c = refl

pub of_calls : (label : ℕ) (places args : List ℕ) → as_body (tree.Calls label places args) ≡ calls label places args
of_calls label places args = refl

pub of_endless : as_body tree.Endless ≡ endless
of_endless = refl

pub ruleset body_rules = (of_sets, of_enters, of_picks, of_returns, of_fails, of_calls, of_endless)
