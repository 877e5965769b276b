use Rattle.std.proofs.Common.{refl, ℕ, true, List, [], ◌∷◌}
use Rattle.std.proofs.Math.Bool.{Bool-set}
use Rattle.std.proofs.Math.Logic.{∥∥₁_elim}
use Rattle.sql_meaning.specs.Reads.{Read, Slot, Param, Table, Outer, reads}
use Rattle.type_soundness.specs.Sorts.{Every}
use Rattle.function_facts.specs.Sight.{Sighted, sighted}
use Rattle.function_facts.specs.InSight.{is_among, IsSeen, ReadsInSight}
use Rattle.function_facts.proofs.ParametersInSight.{of_some}
use Rattle.function_facts.proofs.sight.slots_are_in_sight.Goals as goal

every_prop : {A : Type 0} (P : A → Type 0) → ((x : A) → IsProp (P x)) → (xs : List A) → IsProp (Every P xs)
every_prop P h [] a b = refl
every_prop P h (x ∷ xs) a b = λ i. (h x a.0 b.0 i, every_prop P h xs a.1 b.1 i)

seen_prop : (sight : List ℕ) (r : Read) → IsProp (IsSeen sight r)
seen_prop sight (Slot i) a b = Bool-set (is_among i sight) true a b
seen_prop sight (Param i) a b = refl
seen_prop sight (Table i) a b = refl
seen_prop sight (Outer c) a b = refl

sighted_prop : (x : Sighted) → IsProp (ReadsInSight x)
sighted_prop x = every_prop (IsSeen x.sight) (seen_prop x.sight) (reads x.expr)

pub returns : goal.returns
returns c = ∥∥₁_elim c.args.f.now.checked (every_prop ReadsInSight sighted_prop (sighted c.args.f.now.function)) (of_some c.args.f.now.function c.args.f.now.slots)
