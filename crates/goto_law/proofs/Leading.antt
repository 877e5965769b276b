-- When the parts of a form lead to blocks of the form.
use Rattle.std.proofs.Common.{◌≡◌, ℕ, zero, suc, ◌+◌, ◌<◌, ◌≤◌, Bool, true, false, nat_eq, List, [], ◌∷◌, ◌++◌, length, slice_get, Some, None, if◌then◌else◌, refl, sym, ap, ◌∙◌, subst, arith}
use Rattle.plsql_meaning.specs.Outcomes.{Label, names_loop, names_block}
use Rattle.block_forms.specs.declared.forms.Block.{Block}
use Rattle.block_forms.specs.Around.{Around, exit_to, again_to}
use Rattle.block_forms.specs.Forms.{AtTargets}
use Rattle.block_forms.specs.Lowered.{AllStand, one_of, owners, sharers}
use Rattle.block_forms.specs.Patterns.{Part, own, shared, same, never}
use Rattle.goto_law.proofs.InSight.{is_same}

pub in_list : {X : Type 0} (xs : List X) (i : ℕ) (x : X) → slice_get xs i ≡ Some x → i < length xs
in_list [] i x e = cc
in_list (y ∷ ys) zero x e = omega arith
in_list (y ∷ ys) (suc i) x e = let lt = in_list ys i x e in omega (arith, lt)

some_same : {X : Type 0} (x y : X) → Some x ≡ Some y → x ≡ y
some_same x y e = cc

module _ (blocks : List Block) where
  -- a block leads to blocks of the form
  abbrev pub Leads : Block → Type 0
  Leads x = AtTargets (λ c. c < length blocks) x.end

  abbrev pub PartLeads : Part → Type 0
  PartLeads (own b x) = Leads x
  PartLeads (shared b x) = Leads x
  PartLeads (same a b) = Unit {0}
  PartLeads never = Unit {0}

  abbrev pub AllLead : List Part → Type 0
  AllLead [] = Unit {0}
  AllLead (p ∷ ps) = PartLeads p × AllLead ps

  pub lead_both : (ps qs : List Part) → AllLead ps → AllLead qs → AllLead (ps ++ qs)
  lead_both [] qs h k = k
  lead_both (p ∷ ps) qs h k = (h.0, lead_both ps qs h.1 k)

  -- a piece of text begins at a block of the form, and its parts lead to blocks of the form
  pub record Led (b : ℕ) (ps : List Part) : Type 0 where
    pub begins : b < length blocks
    pub parts : AllLead ps

  -- ---- a block that is a part's own, or that parts share, leads where they do

  module _ (b : ℕ) (x : Block) (at : slice_get blocks b ≡ Some x) where
    leads_there : (c : ℕ) (y : Block) → c ≡ b → slice_get blocks c ≡ Some y → Leads y → Leads x
    leads_there c y e stand h = subst Leads (some_same y x (sym stand ∙ (ap (slice_get blocks) e ∙ at))) h

    chosen : (c n : ℕ) (y : Block) (t : Bool) → nat_eq c b ≡ t → slice_get blocks c ≡ Some y → Leads y → (1 ≤ n → Leads x) → 1 ≤ one_of t + n
        → Leads x
    chosen c n y true e stand h rest le = leads_there c y (is_same c b e) stand h
    chosen c n y false e stand h rest le = rest (omega (arith, le))

    pub leads_at : (ps : List Part) → AllStand blocks ps → AllLead ps → 1 ≤ owners b ps + sharers b ps → Leads x
    leads_at [] stand h le = absurd (omega (arith, le))
    leads_at (own c y ∷ ps) stand h le =
        chosen c (owners b ps + sharers b ps) y (nat_eq c b) refl stand.0 h.0 (leads_at ps stand.1 h.1) (omega (arith, le))
    leads_at (shared c y ∷ ps) stand h le =
        chosen c (owners b ps + sharers b ps) y (nat_eq c b) refl stand.0 h.0 (leads_at ps stand.1 h.1) (omega (arith, le))
    leads_at (same c d ∷ ps) stand h le = leads_at ps stand.1 h.1 le
    leads_at (never ∷ ps) stand h le = absurd stand.0

  -- ---- what stands around

  module _ (finish : ℕ) where
    abbrev pub AroundWithin : Around → Type 0
    AroundWithin around = (l : Label) → (exit_to finish around l < length blocks) × (again_to finish around l < length blocks)

    pub loop_within : (around : Around) (label : Label) (x a : ℕ) → x < length blocks → a < length blocks → AroundWithin around
        → AroundWithin (record { label = label; exit = x; again = Some a } ∷ around)
    loop_within around label x a hx ha h l = go (names_loop l label)
      where
        go : (b : Bool) → ((if b then x else exit_to finish around l) < length blocks) × ((if b then a else again_to finish around l) < length blocks)
        go true = (hx, ha)
        go false = h l

    pub block_within : (around : Around) (label : Label) (x : ℕ) → x < length blocks → AroundWithin around
        → AroundWithin (record { label = label; exit = x; again = None } ∷ around)
    block_within around label x hx h l = (go (names_block l label), (h l).1)
      where
        go : (b : Bool) → (if b then x else exit_to finish around l) < length blocks
        go true = hx
        go false = (h l).0
