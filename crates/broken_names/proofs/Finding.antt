-- What a search found in a part is found in what the part stands in.
use Rattle.std.proofs.Common.{◌≡◌, ℕ, ◌<◌, List, length, get_or, Contains, Option, Some, None, Result, Ok, Err, IfOk, IfSome, sym, subst}
use Rattle.std.proofs.lemmas.List.Elements.{Contains-get_or}
use Rattle.away_trees.specs.declared.queries.Expr.{Expr}
use Rattle.away_names.specs.declared.rule.Rule.{Rule}
use Rattle.away_names.specs.Lookups.{Scope}
use Rattle.broken_names.specs.declared.culprit.Culprit.{Culprit}
use Rattle.broken_names.specs.Holds.{Part, Holds, InOne, InArm}

pub found_on : {E : Type 0} {P Q : Culprit → Type 0} → ((c : Culprit) → P c → Q c) → (result : Result (Option Culprit) E)
    → IfOk result (λ found. IfSome found P) → IfOk result (λ found. IfSome found Q)
found_on f (Ok (Some c)) h = f c h
found_on f (Ok None) h = tt
found_on f (Err e) h = tt

so : (P : Culprit → Type 0) {o : Option Culprit} {c : Culprit} → IfSome o P → o ≡ Some c → P c
so P h is = subst (λ o. IfSome o P) is h

pub found_so : {broken : Rule} {s : Scope} {p : Part} {o : Option Culprit} {c : Culprit} → IfSome o (Holds broken s p) → o ≡ Some c → Holds broken s p c
found_so {broken} {s} {p} = so (Holds broken s p)

pub found_one : {A : Type 0} {part : A → Part} {broken : Rule} {s : Scope} {xs : List A} {o : Option Culprit} {c : Culprit}
    → IfSome o (InOne part broken s xs) → o ≡ Some c → InOne part broken s xs c
found_one {part = part} {broken} {s} {xs} = so (InOne part broken s xs)

pub found_arm : {broken : Rule} {s : Scope} {arms : List (Expr × Expr)} {o : Option Culprit} {c : Culprit}
    → IfSome o (InArm broken s arms) → o ≡ Some c → InArm broken s arms c
found_arm {broken} {s} {arms} = so (InArm broken s arms)

-- an element at its place stands in the list
pub stands : {A : Type 0} (xs : List A) (i : ℕ) (x : A) → x ≡ get_or xs i x → i < length xs → Contains xs x
stands xs i x is lt = subst (Contains xs) (sym is) (Contains-get_or xs i x lt)
