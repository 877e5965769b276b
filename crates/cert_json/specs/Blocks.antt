-- How JSON spells blocks.
use Rattle.std.specs.Prelude.{Option, Some}
use Rattle.serde_json.specs.Data.{Data}
use Rattle.serde_json.specs.Find.{as_bool}
use Rattle.cert_json.specs.Forms.{Block, Phi, SsaBlock, AnfBlock}
use Rattle.cert_json.specs.Spellings.{◌>>=◌, four_in, many, number_in, pair_in, three_in, two_in}
use Rattle.cert_json.specs.Ends.{call_end_in, end_in, set_in}

-- [head, set, end]
unfoldable pub block_in : Data → Option Block
block_in d = do
  p ← three_in d
  head ← as_bool p.0
  set ← set_in p.1
  end ← end_in p.2
  Some (record { head = head; set = set; end = end })

-- [name, [[block, name], ..]]
unfoldable pub phi_in : Data → Option Phi
phi_in d = do
  p ← two_in d
  name ← number_in p.0
  operands ← many pair_in p.1
  Some (record { name = name; operands = operands })

-- [map, phis, set, end]
unfoldable pub ssa_block_in : Data → Option SsaBlock
ssa_block_in d = do
  p ← four_in d
  map ← many pair_in p.0
  phis ← many phi_in p.1
  set ← set_in p.2
  end ← end_in p.3
  Some (record { map = map; phis = phis; set = set; end = end })

-- [params, set, end]
unfoldable pub anf_block_in : Data → Option AnfBlock
anf_block_in d = do
  p ← three_in d
  params ← many number_in p.0
  set ← set_in p.1
  end ← call_end_in p.2
  Some (record { params = params; set = set; end = end })
