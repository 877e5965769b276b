-- The rules of what a call gives.
use Rattle.std.proofs.Common.{◌≡◌, sym, ap, subst, Result, Ok, Err}
use Rattle.away_values.specs.declared.values.Class.{Class}
use Rattle.away_values.specs.declared.errors.OpError.{OpError}
use Rattle.away_values.specs.declared.errors.OpError.TheVariants as error
use Rattle.away_values.specs.Results.{Or, and_then, mapped, Answers}
use Rattle.sql_meaning.specs.Gives.{Gives}

pub gives_ok : {A : Type 0} (m : Or A) (a : A) → m ≡ Ok a → Gives m (Ok a)
unfolding Gives
gives_ok m a h = h

pub gives_class : {A : Type 0} (m : Or A) (c : Class) → m ≡ Err c → Gives m (Err (error.Class c))
unfolding Gives
gives_class m c h = h

pub gives_memory : {A : Type 0} (m : Or A) → Gives m (Err error.NoMemory)
unfolding Gives
gives_memory m = tt

pub gave : {A : Type 0} (m : Or A) (a : A) → Gives m (Ok a) → m ≡ Ok a
unfolding Gives
gave m a h = h

pub answers : {A : Type 0} (m : Or A) (r : Result A OpError) → Answers m r → Gives m r
unfolding Gives
answers m r h = h

-- a call that fails ends what it is part of
pub stops : {A B : Type 0} (m : Or A) (k : A → Or B) (e : OpError) → Gives m (Err e) → Gives (and_then m k) (Err e)
unfolding Gives
stops m k (error.Class c) h = ap (λ x. and_then x k) h
stops m k error.NoMemory h = tt

pub stops_mapped : {A B : Type 0} (m : Or A) (f : A → B) (e : OpError) → Gives m (Err e) → Gives (mapped f m) (Err e)
unfolding Gives
stops_mapped m f (error.Class c) h = ap (mapped f) h
stops_mapped m f error.NoMemory h = tt

-- a call that gives a value is followed by the rest
pub goes_on : {A B : Type 0} (m : Or A) (k : A → Or B) (a : A) (r : Result B OpError) → Gives m (Ok a) → Gives (k a) r → Gives (and_then m k) r
unfolding Gives
goes_on m k a r h g = subst (λ x. Answers (and_then x k) r) (sym h) g

pub goes_on_mapped : {A B : Type 0} (m : Or A) (f : A → B) (a : A) → Gives m (Ok a) → Gives (mapped f m) (Ok (f a))
unfolding Gives
goes_on_mapped m f a h = ap (mapped f) h

pub ruleset gives_rules = (gives_ok, gives_class, gives_memory, gave, answers, stops, stops_mapped)
