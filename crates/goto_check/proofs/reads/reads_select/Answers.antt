use Rattle.std.proofs.Common.{◌≡◌, true, Some, None, length, fold, sym, ap, ◌∙◌, nat_eq, filter_map}
use Rattle.std.proofs.lemmas.Bool.{eqb-true, eq-eqb}
use Rattle.away_trees.specs.Algebra.{select_of}
use Rattle.sql_meaning.specs.Reads.{reading, slot_of}
use Rattle.goto_check.specs.Passing.{passed, pass}
use Rattle.goto_check.proofs.Occurrences.{passes_all}
use Rattle.goto_check.proofs.reads.reads_select.Goals as goal

pub returns-in-None : goal.returns-in-None
unfolding passed
returns-in-None c =
    let w = passes_all c.args.names.now (filter_map slot_of (select_of reading c.args.s.now 0)) in
    let none : fold (pass c.args.names.now) (Some 0) (filter_map slot_of (select_of reading c.args.s.now 0)) ≡ None = sym (c.pass_select.ensures 0) ∙ c.in-None.is in
    (λ t. absurd (cc), λ e. absurd (cc (w.1 e, none)))

pub returns-in-Some : goal.returns-in-Some
unfolding passed
returns-in-Some c =
    let w = passes_all c.args.names.now (filter_map slot_of (select_of reading c.args.s.now 0)) in
    let many : fold (pass c.args.names.now) (Some 0) (filter_map slot_of (select_of reading c.args.s.now 0)) ≡ Some c.in-Some.k = sym (c.pass_select.ensures 0) ∙ c.in-Some.is in (
      λ t. w.0 (many ∙ ap Some (eqb-true c.in-Some.k (length c.args.names.now) (let q : nat_eq c.in-Some.k (length c.args.names.now) ≡ true = search in q))),
      λ e. let same : c.in-Some.k ≡ length c.args.names.now = cc (w.1 e, many) in let q = eq-eqb c.in-Some.k (length c.args.names.now) same in search,
    )
