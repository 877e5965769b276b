-- Steps of the plans of bodies, by what the code found.
use Rattle.std.proofs.Common.{◌≡◌, ℕ, Bool, true, false, not, List, [], ◌∷◌, inl, inr, Option, Some, None, Result, Ok, Err, refl, sym, ◌∙◌, ap, subst}
use Rattle.std.proofs.lemmas.Option.{same_Some}
use Rattle.std.specs.Bool.{OnTrue, OnFalse}
use Rattle.away_grammar.specs.declared.grammar.Mark.{Mark}
use Rattle.away_grammar.specs.declared.grammar.Mark.TheVariants as m
use Rattle.away_trees.specs.declared.statements.Arm.{Arm}
use Rattle.away_trees.specs.declared.statements.Stmt.{Stmt}
use Rattle.away_grammar.specs.Terminals.{Terminal, mark}
use Rattle.away_grammar.specs.FunctionGrammar.{Part, PartTree, statement, branch, otherwise, loop_opens}
use Rattle.sql_text.specs.declared.refusal.Refusal.{Refusal}
use Rattle.sql_text.specs.declared.refusal.Refusal.TheVariants.{NoTree}
use Rattle.sql_text.specs.CodeTerminals.{Taken, Expected}
use Rattle.sql_text.specs.TerminalKinds.{name_in}
use Rattle.sql_text.specs.Plans.{done, eat, read, expect, first, tail, Begins, reads, breaks, Gives, tree, no_tree, no_memory}
use Rattle.sql_text.proofs.Plans.{inside}
use Rattle.sql_text.proofs.Steps.{finished, eaten, refused, left, read_on, taken, looked, overlooked, moved, perhaps_found, perhaps_missed, failed}
use Rattle.plsql_parse.specs.Sorts.{AnyTree, part, PartPlan, maybe_name, eat_word, begins_word}
use Rattle.plsql_parse.specs.Bodies.{marked_plan}
use Rattle.plsql_parse.specs.Plans.{any_plan}
use Rattle.plsql_parse.specs.Taken.{is_loop, is_end, end_plan, ended_as}
use Rattle.plsql_parse.proofs.Passing.{opens_past}

-- what the plan of a part gives
abbrev pub PartGives : (p : Part) → PartPlan p → List Terminal → Result (PartTree p) Refusal → List Terminal → Type 0
PartGives p = Gives AnyTree any_plan (part p)

-- ---- by whether something was taken

pub eat_by : {p : Part} (terminal : Mark) (plan : Bool → PartPlan p) (b : Bool) {ts rest new : List Terminal} {r : Result (PartTree p) Refusal}
    → OnTrue b (ts ≡ mark terminal ∷ rest) → OnFalse b ((rest ≡ ts) × ¬ (Begins ts terminal)) → PartGives p (plan b) rest r new → PartGives p (eat terminal (plan true) (plan false)) ts r new
eat_by terminal plan true y n d = eaten terminal y d
eat_by terminal plan false y n d = left terminal n d

pub word_by : {p : Part} (word : List ℕ) (plan : Bool → PartPlan p) (b : Bool) {ts rest new : List Terminal} {r : Result (PartTree p) Refusal}
    → OnTrue b ((begins_word word ts ≡ true) × (rest ≡ tail ts)) → OnFalse b ((begins_word word ts ≡ false) × (rest ≡ ts)) → PartGives p (plan b) rest r new
    → PartGives p (eat_word word (plan true) (plan false)) ts r new
word_by word plan true y n d = looked y.0 (taken {f = λ s. plan true} refl y.1 d)
word_by word plan false y n d = overlooked n.0 (moved n.1 d)

-- a name was taken, or none stood there
pub maybe_named : {p : Part} (plan : Option (List ℕ) → PartPlan p) (found : Option (List ℕ)) {ts rest new : List Terminal} {r : Result (PartTree p) Refusal}
    → (found ≡ name_in (first ts)) × Taken found ts rest → PartGives p (plan found) rest r new → PartGives p (maybe_name plan) ts r new
maybe_named plan None h d = perhaps_missed name_in (λ n. plan (Some n)) (sym h.0) h.1 d
maybe_named plan (Some n) h d = perhaps_found name_in (λ n. plan (Some n)) (sym h.0) h.1 d

-- ---- marks that begin no statement

pub begins_none : (terminal : Mark) {ts new : List Terminal} → ¬ (terminal ≡ m.Null) → ¬ (terminal ≡ m.Return) → ¬ (terminal ≡ m.If) → ¬ (terminal ≡ m.Case) → ¬ (terminal ≡ m.Exit) → ¬ (terminal ≡ m.Continue) → ¬ (terminal ≡ m.Raise) → ¬ (terminal ≡ m.Select)
    → PartGives statement (marked_plan terminal) ts (Err NoTree) new
begins_none m.Null a b c d e f g h = absurd (a refl)
begins_none m.Return a b c d e f g h = absurd (b refl)
begins_none m.If a b c d e f g h = absurd (c refl)
begins_none m.Case a b c d e f g h = absurd (d refl)
begins_none m.Exit a b c d e f g h = absurd (e refl)
begins_none m.Continue a b c d e f g h = absurd (f refl)
begins_none m.Raise a b c d e f g h = absurd (g refl)
begins_none m.Select a b c d e f g h = absurd (h refl)
begins_none _ a b c d e f g h = failed

-- ---- the end of a statement

pub end_with : (x : Stmt) (r : Result (Unit {0}) Refusal) {ts new : List Terminal} → Expected m.Semicolon ts r new → PartGives statement (expect m.Semicolon (done x)) ts (ended_as x r) new
end_with x (Ok u) h = eaten m.Semicolon h (finished refl)
end_with x (Err e) h = refused m.Semicolon h

-- ---- arms

-- behind the arms of IF or CASE
abbrev pub behind_arms : (List Arm → Option (List Stmt) → Stmt) → Mark → List Arm → PartPlan statement
behind_arms make terminal arms = read (part otherwise) (λ other. end_plan terminal (make arms other))

-- The first arm and the others were read, and then by all of them.
pub arms_on : {p : Part} (cons : Arm → PartTree p → PartTree p) (plan : PartTree p → PartPlan statement) {arms : PartTree p} {ts middle new : List Terminal} {r : Result Stmt Refusal}
    → PartGives p (read (part branch) (λ a. read (part p) (λ more. done (cons a more)))) ts (Ok arms) middle → PartGives statement (plan arms) middle r new
    → PartGives statement (read (part branch) (λ a. read (part p) (λ more. plan (cons a more)))) ts r new
arms_on {p = p} cons plan {arms = arms} {middle = middle} {new = new} {r = r} (tree d) e =
    elim (inside d) [
      | inl v ↦ elim (inside v.3) [
        | inl w ↦ (
            let same : Some (arms, middle) ≡ Some (cons v.0 w.0, w.1) = inside w.3 in
            let pair : (arms, middle) ≡ (cons v.0 w.0, w.1) = same_Some _ _ same in
            let all : arms ≡ cons v.0 w.0 = ap (λ p. p.0) pair in
            let rest : middle ≡ w.1 = ap (λ p. p.1) pair in
            read_on {f = λ a. read (part p) (λ more. plan (cons a more))} (tree v.2)
            (read_on {f = λ more. plan (cons v.0 more)} (tree w.2)
            (subst (λ ts. PartGives statement (plan (cons v.0 w.0)) ts r new) rest (subst (λ arms. PartGives statement (plan arms) middle r new) all e))))
        | inr w ↦ absurd (let none : Some (arms, middle) ≡ None = w.1 in cc none)
      ]
      | inr v ↦ absurd (let none : Some (arms, middle) ≡ None = v.1 in cc none)
    ]

-- They weren't read.
pub arms_no : {p : Part} (cons : Arm → PartTree p → PartTree p) (plan : PartTree p → PartPlan statement) {ts middle new : List Terminal} {e : Refusal}
    → PartGives p (read (part branch) (λ a. read (part p) (λ more. done (cons a more)))) ts (Err e) middle
    → PartGives statement (read (part branch) (λ a. read (part p) (λ more. plan (cons a more)))) ts (Err e) new
arms_no cons plan (no_tree d) =
    elim (inside d) [
      | inl v ↦ elim (inside v.3) [
        | inl w ↦ absurd (let some : None ≡ Some (cons v.0 w.0, w.1) = inside w.3 in cc some)
        | inr w ↦ no_tree (reads v.2 (breaks w.0))
      ]
      | inr v ↦ no_tree (breaks v.0)
    ]
arms_no cons plan no_memory = no_memory

-- ---- the loop that opens

pub opens_at : (ts : List Terminal) (s : Terminal) (behind : Bool) → Some s ≡ first ts → is_loop s ≡ true → loop_opens ts behind ≡ not behind
opens_at [] s behind e h = absurd (cc e)
opens_at (mark m.Loop ∷ ts) s behind e h = refl
opens_at (t ∷ ts) s behind e h = absurd (let same : s ≡ t = same_Some _ _ e in let k : is_loop s ≡ is_loop t = ap is_loop same in cc (h, k))

pub opens_on : (ts rest : List Terminal) (s : Terminal) (behind : Bool) → Some s ≡ first ts → rest ≡ tail ts → is_loop s ≡ false → loop_opens rest (is_end s) ≡ loop_opens ts behind
opens_on [] rest s behind e q h = absurd (cc e)
opens_on (t ∷ ts) rest s behind e q h =
    let same : s ≡ t = same_Some _ _ e in
    let plain : is_loop t ≡ false = ap is_loop (sym same) ∙ h in
    ap (λ l. loop_opens l (is_end s)) q ∙ ap (λ s. loop_opens ts (is_end s)) same ∙ sym (opens_past t ts behind plain)

pub opens_none : (ts : List Terminal) (behind : Bool) → None ≡ first ts → loop_opens ts behind ≡ false
opens_none [] behind e = refl
opens_none (s ∷ ts) behind e = absurd (cc e)
