-- What reads, aggregates, parameters and terminals are of a tree doesn't depend on the marks of its operations; nor does what marks they are to have.
use Rattle.std.proofs.Common.{◌≡◌, refl, ap, ◌∙◌, ℕ, List, [], ◌∷◌, ◌++◌, map, fold}
use Rattle.std.specs.List.{flat_map}
use Rattle.away_values.specs.declared.operators.ChainOp.{ChainOp}
use Rattle.away_values.specs.declared.operators.ChainOp.TheVariants as chain
use Rattle.away_grammar.specs.declared.grammar.Level.{Level}
use Rattle.away_grammar.specs.Printing as print
use Rattle.away_grammar.specs.Terminals.{mark}
use Rattle.away_grammar.specs.Grammar.{operands}
use Rattle.away_grammar.specs.Printing.{Printed, printing, links_terminals, operator_level, operator_mark, chain_level}
use Rattle.away_typing.specs.declared.kind.Kind.{Kind}
use Rattle.away_typing.specs.declared.params.Params.{Params}
use Rattle.away_typing.specs.Aggregates.{using_, all, with_}
use Rattle.away_typing.specs.Parameters.{finding, Found}
use Rattle.away_typing.specs.Typing.{Places, pair}
use Rattle.sql_meaning.specs.Reads.{Reads, reading}
use Rattle.elaboration_law.specs.Blind.{IsBlind}
use Rattle.away_trees.specs.declared.queries.Expr.TheVariants as expr
use Rattle.elaboration.specs.Elaborating.{MadeExpr, Making, elaborating, made, chain_kind, link_trees, marked_links}
use Rattle.elaboration.specs.Erasing.{plain_link}
use Rattle.elaboration.specs.Marks.{plain_op, marked_op}

-- what looks at the operands alone
flat_plain : (d : ℕ) (links : List (ChainOp × Reads)) → flat_map (λ (l : ChainOp × Reads). l.1 d) (map plain_link links) ≡ flat_map (λ (l : ChainOp × Reads). l.1 d) links
flat_plain d [] = refl
flat_plain d (l ∷ links) = ap (λ rs. l.1 d ++ rs) (flat_plain d links)

pub reading_blind : IsBlind reading
reading_blind = record { neg = λ x. refl; chain = λ x links i d. x d ++ flat_plain d links i }

operands_plain : {A : Type 0} (links : List (ChainOp × A)) → map (λ (l : ChainOp × A). l.1) (map plain_link links) ≡ map (λ (l : ChainOp × A). l.1) links
operands_plain [] = refl
operands_plain (l ∷ links) = ap (λ xs. l.1 ∷ xs) (operands_plain links)

pub uses_blind : IsBlind using_
uses_blind = record { neg = λ x. refl; chain = λ x links. ap (λ ts. with_ x (all ts)) (operands_plain links) }

found_plain : (p : Params) (links : List (ChainOp × Found)) → fold (λ p (l : ChainOp × Found). l.1 p) p (map plain_link links) ≡ fold (λ p (l : ChainOp × Found). l.1 p) p links
found_plain p [] = refl
found_plain p (l ∷ links) = found_plain (l.1 p) links

pub finding_blind : IsBlind finding
finding_blind = record { neg = λ x. refl; chain = λ x links i p. found_plain (x p) links i }

-- ---- printed terminals

level_plain : (op : ChainOp) → operator_level (plain_op op) ≡ operator_level op
unfolding plain_op
level_plain chain.Or = refl
level_plain chain.And = refl
level_plain chain.Concat = refl
level_plain (chain.Int op) = refl
level_plain (chain.Small op) = refl

mark_plain : (op : ChainOp) → operator_mark (plain_op op) ≡ operator_mark op
unfolding plain_op
mark_plain chain.Or = refl
mark_plain chain.And = refl
mark_plain chain.Concat = refl
mark_plain (chain.Int op) = refl
mark_plain (chain.Small op) = refl

chain_level_plain : {A : Type 0} (links : List (ChainOp × A)) → chain_level (map plain_link links) ≡ chain_level links
chain_level_plain [] = refl
chain_level_plain (l ∷ links) = level_plain l.0

links_plain : (level : Level) (links : List (ChainOp × Printed)) → links_terminals level (map plain_link links) ≡ links_terminals level links
links_plain level [] = refl
links_plain level (l ∷ links) = λ i. mark (mark_plain l.0 i) ∷ (print.placed (operands level) l.1 ++ links_plain level links i)

pub printing_blind : IsBlind printing
printing_blind = record {
  neg = λ x. refl;
  chain = λ x links i.
      let level = chain_level_plain links in
      record { level = level i; terminals = print.placed (operands (level i)) x ++ links_plain (level i) links i };
}

-- ---- marks

marked_plain : (op : ChainOp) (a b : Kind) → marked_op (plain_op op) a b ≡ marked_op op a b
unfolding plain_op marked_op
marked_plain chain.Or a b = refl
marked_plain chain.And a b = refl
marked_plain chain.Concat a b = refl
marked_plain (chain.Int op) a b = refl
marked_plain (chain.Small op) a b = refl

kinds_plain : (k : Kind) (links : List (ChainOp × MadeExpr)) → marked_links k (map plain_link links) ≡ marked_links k links
kinds_plain k [] = refl
kinds_plain k (l ∷ links) =
    let same = marked_plain l.0 k l.1.kind in
    λ i. (same i, l.1) ∷ kinds_plain (pair (same i) k l.1.kind) links i

asked_plain : (p : Places) (links : List (ChainOp × Making)) → map (λ (l : ChainOp × Making). (l.0, l.1 p)) (map plain_link links) ≡ map plain_link (map (λ (l : ChainOp × Making). (l.0, l.1 p)) links)
asked_plain p [] = refl
asked_plain p (l ∷ links) = ap (λ xs. (plain_op l.0, l.1 p) ∷ xs) (asked_plain p links)

pub elaborating_blind : IsBlind elaborating
elaborating_blind = record {
  neg = λ x. refl;
  chain = λ x links i p.
      let at = map (λ (l : ChainOp × Making). (l.0, l.1 p)) links in
      let same : marked_links (x p).kind (map (λ (l : ChainOp × Making). (l.0, l.1 p)) (map plain_link links)) ≡ marked_links (x p).kind at = ap (marked_links (x p).kind) (asked_plain p links) ∙ kinds_plain (x p).kind at in
      made (chain_kind (same i) (x p).kind) (expr.Chain (x p).it (link_trees (same i)));
}
