-- Each expression of a function that a file reads as is read from writable terminals that nest no deeper than the body may.
use Rattle.std.proofs.Common.{◌≡◌, ◌≤◌, ℕ, zero, suc, false, List, [], ◌∷◌, refl, sym, subst, arith}
use Rattle.away_trees.specs.declared.statements.Function.{Function}
use Rattle.away_trees.specs.declared.statements.Stmt.{Stmt}
use Rattle.away_grammar.specs.FunctionGrammar as g
use Rattle.away_grammar.specs.FunctionGrammar.{ReadsPart, ReadsFunction, body, function}
use Rattle.away_grammar.specs.Nesting as tokens
use Rattle.away_grammar.specs.Terminals.{Terminal, token_terminals}
use Rattle.plsql_parse.specs.Refusals.{most_nesting}
use Rattle.plsql_parse.proofs.OneFile.{file_given}
use Rattle.plsql_parse.proofs.Sound.{sound}
use Rattle.block_forms.specs.Expressions.{sources, whole_select}
use Rattle.block_forms.specs.Places.{Each}
use Rattle.type_soundness.specs.Sorts.{Every}
use Rattle.cte_prints.specs.FunctionLaws.{SourcesAreRead}
use Rattle.cte_prints.specs.Derivation.{IsReadWithin}
use Rattle.cte_prints.specs.TerminalNesting.{TerminalsNestWithin, NestWithin}
use Rattle.cte_prints.proofs.RoomLeft.{room}
use Rattle.cte_prints.proofs.Bodies.{PartWalk, walked}
use Rattle.sql_printer.proofs.InsideWritable.{inner_writable}
use Rattle.cte_prints.proofs.TokenChanges.{changes_alike}

each_of : {X : Type 0} (P : X → Type 0) (xs : List X) → Every P xs → Each P xs
each_of P [] h i x e = absurd (cc)
each_of P (y ∷ ys) h zero x e = let same : y ≡ x = cc in subst P same h.0
each_of P (y ∷ ys) h (suc i) x e = each_of P ys h.1 i x e

body_is : {inside : Stmt} {ts rest : List Terminal} {f : Function} → ReadsPart (function inside) ts f rest → f.body ≡ inside
body_is (g.function_of o q w t is may d c) = refl

nest_within : (cs : List tokens.Change) (n : ℕ) → n ≤ most_nesting → tokens.IsGreatest cs n → NestWithin most_nesting cs
nest_within cs n le h at = omega (arith, le, h.most at)

pub sources_are_read : SourcesAreRead
unfolding sources
sources_are_read bytes f may reads =
    let inner = may.1.0 in
    let lists = may.1.1.1 in
    let given = file_given lists.lists_are reads in
    let nested : TerminalsNestWithin most_nesting (token_terminals inner) =
    subst (NestWithin most_nesting) (changes_alike inner) (nest_within (tokens.changes inner) may.1.1.0 may.1.1.2 lists.nesting_is) in
    let w : PartWalk body most_nesting false (token_terminals inner) given.0 [] =
    walked (sound given.1) most_nesting (omega arith) false (room (token_terminals inner) most_nesting nested)
    (inner_writable bytes may.0 inner lists.text.utf8 lists.lists_are) in
    subst (λ s. Each (IsReadWithin most_nesting) (sources whole_select s)) (sym (body_is (sound given.2))) (each_of (IsReadWithin most_nesting) (sources whole_select given.0) w.derivable)
