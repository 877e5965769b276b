use Rattle.std.proofs.Common.{◌∷◌, [], inl, inr, refl}
use Rattle.ssa_check.specs.TrivialPhis.{phi_of}
use Rattle.ssa_check.proofs.JoinedNames.{one_trivial, two_trivial, joined_not_trivial, not_trivial_joins, phi_joins}
use Rattle.ssa_check.proofs.laws.phis_join_two_names.Goals as goal

pub returns : goal.returns
returns c = record {
  examples = record {
    none = λ name. (name, λ o i. absurd i);
    itself = λ name b. one_trivial name name (b, name) (inl refl);
    one = λ name b m. one_trivial name m (b, m) (inr refl);
    one_twice = λ name b c m. two_trivial name m (b, m) (c, m) (inr refl) (inr refl);
    itself_and_one = λ name b c m. two_trivial name m (b, name) (c, m) (inl refl) (inr refl);
    one_and_itself = λ name b c m. two_trivial name m (b, m) (c, name) (inr refl) (inl refl);
    two = λ name b c m n differ other other'.
        joined_not_trivial (phi_of name ((b, m) ∷ (c, n) ∷ []))
        (record { first = (b, m); second = (c, n); first_there = inl refl; second_there = inr (inl refl); differ = differ; first_other = other; second_other = other' });
  };
  others = λ φ. (not_trivial_joins φ, joined_not_trivial φ);
  forms = λ slots params g z named neat c y there. record { each = phi_joins slots params g z named neat c y there };
}
