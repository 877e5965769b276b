-- What is written for a part of a certificate spells that part again, where its own parts do.
use Rattle.std.proofs.Common.{◌≡◌, ℕ, List, Some, refl}
use Rattle.block_forms.specs.declared.forms.End.TheVariants.{Jump, Branch, Return, Fail}
use Rattle.call_forms.specs.declared.forms.CallEnd.TheVariants as calls
use Rattle.cert_json.specs.Forms.{Class, Term, Block, Phi, SsaBlock, Call, AnfBlock}
use Rattle.cert_json.specs.Spellings.{class_in, four_in, list_in, many, number_in, pair_in, three_in, two_in}
use Rattle.cert_json.specs.Ends.{assignment_in, branch_in, call_end_in, call_end_of, call_in, end_in, end_of, headed, pick_in, set_in, term_in}
use Rattle.cert_json.specs.Blocks.{anf_block_in, block_in, phi_in, ssa_block_in}
use Rattle.cert_json.specs.Written.{anf_block_data, block_data, call_end_data, class_data, end_data, fail_data, many_data, number_data, pair_data, phi_data, return_data, set_data, ssa_block_data}

-- the number, and the list of numbers, is spelled
abbrev pub Number : ℕ → Type 0
Number n = number_in (number_data n) ≡ Some n

abbrev pub Numbers : List ℕ → Type 0
Numbers ns = many number_in (many_data number_data ns) ≡ Some ns

pub pair_again : (p : ℕ × ℕ) → Number p.0 → Number p.1 → pair_in (pair_data p) ≡ Some p
unfolding pair_in two_in list_in
pair_again p a b = rw (a, b) refl

pub set_again : (slot : ℕ) (t : Term) → Number slot → Number t.expr → Numbers t.names → set_in (set_data (Some (slot, t))) ≡ Some (Some (slot, t))
unfolding set_in assignment_in three_in list_in term_in
set_again slot t a b c = rw (a, b, c) refl

-- ---- ends

pub jump_again : (b : ℕ) → Number b → end_in (end_data (Jump b)) ≡ Some (Jump b)
unfolding end_in headed list_in end_of
jump_again b h = rw h refl

pub branch_again : (t : Term) (b c : ℕ) → Number t.expr → Numbers t.names → Number b → Number c → end_in (end_data (Branch t b c)) ≡ Some (Branch t b c)
unfolding end_in headed list_in end_of branch_in term_in
branch_again t b c e n h k = rw (e, n, h, k) refl

pub return_again : (t : Term) → Number t.expr → Numbers t.names → end_in (return_data t) ≡ Some (Return t)
unfolding end_in headed list_in end_of term_in
return_again t e n = rw (e, n) refl

pub fail_again : (c : Class) → class_in (class_data c) ≡ Some c → end_in (fail_data c) ≡ Some (Fail c)
unfolding end_in headed list_in end_of
fail_again c h = rw h refl

pub call_return_again : (t : Term) → Number t.expr → Numbers t.names → call_end_in (return_data t) ≡ Some (calls.Return t)
unfolding call_end_in headed list_in call_end_of term_in
call_return_again t e n = rw (e, n) refl

pub call_fail_again : (c : Class) → class_in (class_data c) ≡ Some c → call_end_in (fail_data c) ≡ Some (calls.Fail c)
unfolding call_end_in headed list_in call_end_of
call_fail_again c h = rw h refl

pub go_again : (c : Call) → Number c.target → Numbers c.args → call_end_in (call_end_data (calls.Go c)) ≡ Some (calls.Go c)
unfolding call_end_in headed list_in call_end_of call_in
go_again c b n = rw (b, n) refl

pub pick_again : (t : Term) (b c : Call) → Number t.expr → Numbers t.names → Number b.target → Numbers b.args → Number c.target → Numbers c.args
    → call_end_in (call_end_data (calls.Pick t b c)) ≡ Some (calls.Pick t b c)
unfolding call_end_in headed list_in call_end_of pick_in term_in call_in
pick_again t b c e n bt ba ct ca = rw (e, n, bt, ba, ct, ca) refl

-- ---- blocks

pub block_again : (b : Block) → set_in (set_data b.set) ≡ Some b.set → end_in (end_data b.end) ≡ Some b.end → block_in (block_data b) ≡ Some b
unfolding block_in three_in list_in
block_again b s e = rw (s, e) refl

pub phi_again : (p : Phi) → Number p.name → many pair_in (many_data pair_data p.operands) ≡ Some p.operands → phi_in (phi_data p) ≡ Some p
unfolding phi_in two_in list_in
phi_again p n o = rw (n, o) refl

pub ssa_block_again : (b : SsaBlock) → many pair_in (many_data pair_data b.map) ≡ Some b.map → many phi_in (many_data phi_data b.phis) ≡ Some b.phis
    → set_in (set_data b.set) ≡ Some b.set → end_in (end_data b.end) ≡ Some b.end → ssa_block_in (ssa_block_data b) ≡ Some b
unfolding ssa_block_in four_in list_in
ssa_block_again b m p s e = rw (m, p, s, e) refl

pub anf_block_again : (b : AnfBlock) → Numbers b.params → set_in (set_data b.set) ≡ Some b.set → call_end_in (call_end_data b.end) ≡ Some b.end → anf_block_in (anf_block_data b) ≡ Some b
unfolding anf_block_in three_in list_in
anf_block_again b n s e = rw (n, s, e) refl
