-- A body in memory as the body that it is.
use Rattle.std.specs.Prelude.{List, [], ◌∷◌}
use Rattle.call_forms.specs.Bodies.{Body, sets, enters, picks, returns, fails, calls, endless}
use Rattle.turn_bodies.specs.declared.bodies.Body.{Body as Tree}
use Rattle.turn_bodies.specs.declared.bodies.Body.TheBlock as b

abbrev pub first_body : List Body → Body
first_body [] = endless
first_body (x ∷ xs) = x

abbrev mutual
  pub as_body : Tree → Body
  as_body (b.Sets' n t p x) = sets n t (first_body (as_bodies x))
  as_body (b.Enters' params args p x) = enters params args (first_body (as_bodies x))
  as_body (b.Picks' t p x q y) = picks t (first_body (as_bodies x)) (first_body (as_bodies y))
  as_body (b.Returns t) = returns t
  as_body (b.Fails c) = fails c
  as_body (b.Calls label places args) = calls label places args
  as_body b.Endless = endless

  pub as_bodies : {m : _} → b.Row_of-Body m → List Body
  as_bodies b.end_of-Body = []
  as_bodies (b.more_of-Body x rest) = as_body x ∷ as_bodies rest
