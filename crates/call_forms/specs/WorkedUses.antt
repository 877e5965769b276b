-- A worked example: parameters that nothing needs.
use Rattle.std.specs.Prelude.{ℕ, List, [], ◌∷◌, Some, None}
use Rattle.block_forms.specs.declared.forms.Term.{Term}
use Rattle.call_forms.specs.Forms.{Call, Pick, Return, Anf}
use Rattle.call_forms.specs.Useful.{IsUseful, UsefulParameters}

abbrev term : ℕ → List ℕ → Term
term e names = record { expr = e; names = names }

abbrev pub call : ℕ → List ℕ → Call
call target args = record { target = target; args = args }

-- A loop that reads its second parameter and hands on its first to itself alone, and the block
-- behind it, which sets its parameter before it reads it.
abbrev pub idle_anf : Anf
idle_anf = record {
  blocks =
      record { params = 0 ∷ 1 ∷ []; set = None; end = Pick (term 0 (1 ∷ [])) (call 0 (0 ∷ 1 ∷ [])) (call 1 (1 ∷ [])) }
      ∷ record { params = 2 ∷ []; set = Some (2, term 1 []); end = Return (term 2 (2 ∷ [])) }
      ∷ [];
}

-- The parameter that is read is useful. The one that goes round alone isn't, nor the one that is
-- set before it is read, and so not all are.
pub record WorkedUses : Type 0 where
  pub read : IsUseful idle_anf 0 1
  pub handed_on_alone : IsUseful idle_anf 0 0 → ⊥
  pub set_before : IsUseful idle_anf 1 2 → ⊥
  pub not_all : UsefulParameters idle_anf → ⊥
