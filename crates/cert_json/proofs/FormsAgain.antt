-- What is written for a form, and for a certificate, spells it again.
use Rattle.std.proofs.Common.{◌≡◌, Some, Ok, refl}
use Rattle.cert_json.specs.Forms.{Goto, Ssa, Anf, Cert}
use Rattle.cert_json.specs.Spellings.{many, number_in, type_in}
use Rattle.cert_json.specs.Blocks.{anf_block_in, block_in, ssa_block_in}
use Rattle.cert_json.specs.Certificates.{anf_in, cert_in, goto_in, ssa_in, tail_in}
use Rattle.cert_json.specs.Written.{anf_block_data, anf_data, block_data, cert_data, goto_data, many_data, number_data, ssa_block_data, ssa_data, type_data}
use Rattle.cert_json.proofs.Again.{Number, Numbers}

pub goto_again : (g : Goto) → Number g.entry → Number g.finish → Numbers g.nodes → many block_in (many_data block_data g.blocks) ≡ Some g.blocks → goto_in (Some (goto_data g)) ≡ Ok g
unfolding goto_in goto_data
goto_again g e f n b = rw (e, f, n, b) refl

pub ssa_again : (s : Ssa) → Numbers s.names → many ssa_block_in (many_data ssa_block_data s.blocks) ≡ Some s.blocks → ssa_in (Some (ssa_data s)) ≡ Ok s
unfolding ssa_in ssa_data
ssa_again s n b = rw (n, b) refl

pub anf_again : (a : Anf) → many anf_block_in (many_data anf_block_data a.blocks) ≡ Some a.blocks → anf_in (Some (anf_data a)) ≡ Ok a
unfolding anf_in anf_data
anf_again a b = rw b refl

pub cert_again : (c : Cert) → goto_in (Some (goto_data c.goto)) ≡ Ok c.goto → ssa_in (Some (ssa_data c.ssa)) ≡ Ok c.ssa → anf_in (Some (anf_data c.anf)) ≡ Ok c.anf
    → Numbers c.tail.labels → many type_in (many_data type_data c.tail.columns) ≡ Some c.tail.columns → many (many number_in) (many_data (many_data number_data) c.tail.places) ≡ Some c.tail.places
    → cert_in (cert_data c) ≡ Ok c
unfolding cert_in cert_data tail_in
cert_again c g s a l t p = rw (g, s, a, l, t, p) refl
