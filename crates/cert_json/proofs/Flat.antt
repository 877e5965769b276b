-- A certificate's value is shallow, and it has no float.
use Rattle.std.proofs.Common.{◌≡◌, ℕ, suc, ◌≤◌, Bool, true, false, ◌||◌, List, [], ◌∷◌, map, Option, Some, None, cond, refl, arith}
use Rattle.serde_json.specs.Data.{Data, null, boolean, string, array, object, Items, no_items, item, Members, no_members, member, depth, items_depth, members_depth}
use Rattle.serde_json.specs.Read.{max_depth}
use Rattle.serde_json.specs.View.{items_of}
use Rattle.serde_json.specs.Written.{has_float, items_have_float, members_have_float}
use Rattle.block_forms.specs.declared.forms.End.TheVariants.{Jump, Branch, Return, Fail}
use Rattle.call_forms.specs.declared.forms.CallEnd.TheVariants as calls
use Rattle.call_forms.specs.Writable.{is_code}
use Rattle.cert_json.specs.Forms.{Class, Ty, Term, End, Block, Goto, Phi, SsaBlock, Ssa, CallEnd, AnfBlock, Anf, Cert}
use Rattle.cert_json.specs.Written.{anf_block_data, anf_data, block_data, call_end_data, cert_data, class_data, end_data, goto_data, many_data, number_data, pair_data, phi_data, set_data, ssa_block_data, ssa_data, type_data}

record Flat (k : ℕ) (d : Data) : Type 0 where
  shallow : depth d ≤ k
  exact : has_float d ≡ false

record FlatItems (k : ℕ) (ds : Items) : Type 0 where
  shallow : items_depth ds ≤ k
  exact : items_have_float ds ≡ false

record FlatMembers (k : ℕ) (ms : Members) : Type 0 where
  shallow : members_depth ms ≤ k
  exact : members_have_float ms ≡ false

neither : (a b : Bool) → a ≡ false → b ≡ false → (a || b) ≡ false
neither false b h k = k
neither true b h k = absurd (cc)

flat_nil : (k : ℕ) → FlatItems k no_items
flat_nil k = record { shallow = omega arith; exact = refl }

flat_item : (k : ℕ) (d : Data) (ds : Items) → Flat k d → FlatItems k ds → FlatItems k (item d ds)
flat_item k d ds f more = record { shallow = omega (arith, f.shallow, more.shallow); exact = neither (has_float d) (items_have_float ds) f.exact more.exact }

flat_list : (k : ℕ) (ds : Items) → FlatItems k ds → Flat (suc k) (array ds)
flat_list k ds h = record { shallow = omega (arith, h.shallow); exact = h.exact }

flat_items : {A : Type 0} (k : ℕ) (f : A → Data) → ((x : A) → Flat k (f x)) → (xs : List A) → FlatItems k (items_of (map f xs))
flat_items k f h [] = flat_nil k
flat_items k f h (x ∷ xs) = flat_item k (f x) (items_of (map f xs)) (h x) (flat_items k f h xs)

flat_many : {A : Type 0} (k : ℕ) (f : A → Data) → ((x : A) → Flat k (f x)) → (xs : List A) → Flat (suc k) (many_data f xs)
flat_many k f h xs = flat_list k (items_of (map f xs)) (flat_items k f h xs)

-- ---- parts; each has room for the deepest

flat_number : (k n : ℕ) → Flat k (number_data n)
flat_number k n = record { shallow = omega arith; exact = refl }

flat_string : (k : ℕ) (s : List ℕ) → Flat k (string s)
flat_string k s = record { shallow = omega arith; exact = refl }

flat_null : (k : ℕ) → Flat k null
flat_null k = record { shallow = omega arith; exact = refl }

flat_boolean : (k : ℕ) (b : Bool) → Flat k (boolean b)
flat_boolean k b = record { shallow = omega arith; exact = refl }

flat_numbers : (k : ℕ) (ns : List ℕ) → Flat (suc k) (many_data number_data ns)
flat_numbers k ns = flat_many k number_data (flat_number k) ns

flat_pair : (p : ℕ × ℕ) → Flat 2 (pair_data p)
flat_pair p = flat_list 1 _ (flat_item 1 _ _ (flat_number 1 p.0) (flat_item 1 _ _ (flat_number 1 p.1) (flat_nil 1)))

flat_if : (k : ℕ) (b : Bool) (s : List ℕ) → Flat k (cond b (string s) null)
flat_if k true s = flat_string k s
flat_if k false s = flat_null k

flat_class : (k : ℕ) (c : Class) → Flat k (class_data c)
unfolding class_data
flat_class k c = flat_if k (is_code c.code) c.code

flat_set : (s : Option (ℕ × Term)) → Flat 2 (set_data s)
flat_set None = flat_null 2
flat_set (Some a) = flat_list 1 _ (flat_item 1 _ _ (flat_number 1 a.0) (flat_item 1 _ _ (flat_number 1 a.1.expr) (flat_item 1 _ _ (flat_numbers 0 a.1.names) (flat_nil 1))))

flat_end : (e : End) → Flat 2 (end_data e)
flat_end (Jump b) = flat_list 1 _ (flat_item 1 _ _ (flat_string 1 _) (flat_item 1 _ _ (flat_number 1 b) (flat_nil 1)))
flat_end (Branch t b c) = flat_list 1 _ (flat_item 1 _ _ (flat_string 1 _) (flat_item 1 _ _ (flat_number 1 t.expr) (flat_item 1 _ _ (flat_numbers 0 t.names) (flat_item 1 _ _ (flat_number 1 b) (flat_item 1 _ _ (flat_number 1 c) (flat_nil 1))))))
flat_end (Return t) = flat_list 1 _ (flat_item 1 _ _ (flat_string 1 _) (flat_item 1 _ _ (flat_number 1 t.expr) (flat_item 1 _ _ (flat_numbers 0 t.names) (flat_nil 1))))
flat_end (Fail c) = flat_list 1 _ (flat_item 1 _ _ (flat_string 1 _) (flat_item 1 _ _ (flat_class 1 c) (flat_nil 1)))

flat_call_end : (e : CallEnd) → Flat 2 (call_end_data e)
flat_call_end (calls.Go c) = flat_list 1 _ (flat_item 1 _ _ (flat_string 1 _) (flat_item 1 _ _ (flat_number 1 c.target) (flat_item 1 _ _ (flat_numbers 0 c.args) (flat_nil 1))))
flat_call_end (calls.Pick t b c) =
    flat_list 1 _ (flat_item 1 _ _ (flat_string 1 _) (flat_item 1 _ _ (flat_number 1 t.expr) (flat_item 1 _ _ (flat_numbers 0 t.names) (flat_item 1 _ _ (flat_number 1 b.target) (flat_item 1 _ _ (flat_numbers 0 b.args) (flat_item 1 _ _ (flat_number 1 c.target) (flat_item 1 _ _ (flat_numbers 0 c.args) (flat_nil 1))))))))
flat_call_end (calls.Return t) = flat_list 1 _ (flat_item 1 _ _ (flat_string 1 _) (flat_item 1 _ _ (flat_number 1 t.expr) (flat_item 1 _ _ (flat_numbers 0 t.names) (flat_nil 1))))
flat_call_end (calls.Fail c) = flat_list 1 _ (flat_item 1 _ _ (flat_string 1 _) (flat_item 1 _ _ (flat_class 1 c) (flat_nil 1)))

wider : (k n : ℕ) (d : Data) → k ≤ n → Flat k d → Flat n d
wider k n d h f = record { shallow = omega (arith, h, f.shallow); exact = f.exact }

flat_block : (b : Block) → Flat 3 (block_data b)
flat_block b = flat_list 2 _ (flat_item 2 _ _ (flat_boolean 2 b.head) (flat_item 2 _ _ (flat_set b.set) (flat_item 2 _ _ (flat_end b.end) (flat_nil 2))))

flat_phi : (p : Phi) → Flat 4 (phi_data p)
flat_phi p = flat_list 3 _ (flat_item 3 _ _ (flat_number 3 p.name) (flat_item 3 _ _ (flat_many 2 pair_data flat_pair p.operands) (flat_nil 3)))

flat_ssa_block : (b : SsaBlock) → Flat 6 (ssa_block_data b)
flat_ssa_block b =
    flat_list 5 _ (flat_item 5 _ _ (wider 3 5 _ (omega arith) (flat_many 2 pair_data flat_pair b.map)) (flat_item 5 _ _ (flat_many 4 phi_data flat_phi b.phis) (flat_item 5 _ _ (wider 2 5 _ (omega arith) (flat_set b.set)) (flat_item 5 _ _ (wider 2 5 _ (omega arith) (flat_end b.end)) (flat_nil 5)))))

flat_anf_block : (b : AnfBlock) → Flat 3 (anf_block_data b)
flat_anf_block b = flat_list 2 _ (flat_item 2 _ _ (flat_numbers 1 b.params) (flat_item 2 _ _ (flat_set b.set) (flat_item 2 _ _ (flat_call_end b.end) (flat_nil 2))))

-- ---- objects

flat_none : (k : ℕ) → FlatMembers k no_members
flat_none k = record { shallow = omega arith; exact = refl }

flat_member : (k : ℕ) (name : List ℕ) (d : Data) (ms : Members) → Flat k d → FlatMembers k ms → FlatMembers k (member name d ms)
flat_member k name d ms f more = record { shallow = omega (arith, f.shallow, more.shallow); exact = neither (has_float d) (members_have_float ms) f.exact more.exact }

flat_object : (k : ℕ) (ms : Members) → FlatMembers k ms → Flat (suc k) (object ms)
flat_object k ms h = record { shallow = omega (arith, h.shallow); exact = h.exact }

flat_goto : (g : Goto) → Flat 8 (goto_data g)
unfolding goto_data
flat_goto g =
    flat_object 7 _ (flat_member 7 _ _ _ (wider 4 7 _ (omega arith) (flat_many 3 block_data flat_block g.blocks)) (flat_member 7 _ _ _ (flat_number 7 g.finish) (flat_member 7 _ _ _ (flat_number 7 g.entry) (flat_member 7 _ _ _ (flat_numbers 6 g.nodes) (flat_none 7)))))

flat_ssa : (s : Ssa) → Flat 8 (ssa_data s)
unfolding ssa_data
flat_ssa s = flat_object 7 _ (flat_member 7 _ _ _ (flat_many 6 ssa_block_data flat_ssa_block s.blocks) (flat_member 7 _ _ _ (flat_numbers 6 s.names) (flat_none 7)))

flat_anf : (a : Anf) → Flat 8 (anf_data a)
unfolding anf_data
flat_anf a = flat_object 7 _ (flat_member 7 _ _ _ (wider 4 7 _ (omega arith) (flat_many 3 anf_block_data flat_anf_block a.blocks)) (flat_none 7))

flat_types : (ts : List Ty) → Flat 8 (many_data type_data ts)
flat_types ts = flat_many 7 type_data (λ t. flat_string 7 _) ts

flat_cert : (c : Cert) → Flat 9 (cert_data c)
unfolding cert_data
flat_cert c =
    flat_object 8 _ (flat_member 8 _ _ _ (flat_anf c.anf) (flat_member 8 _ _ _ (flat_types c.tail.columns) (flat_member 8 _ _ _ (flat_goto c.goto) (flat_member 8 _ _ _ (flat_numbers 7 c.tail.labels)
    (flat_member 8 _ _ _ (flat_many 7 (many_data number_data) (flat_numbers 6) c.tail.places) (flat_member 8 _ _ _ (flat_ssa c.ssa) (flat_none 8)))))))

pub cert_is_shallow : (c : Cert) → depth (cert_data c) ≤ max_depth
cert_is_shallow c = omega (arith, (flat_cert c).shallow)

pub cert_has_no_float : (c : Cert) → has_float (cert_data c) ≡ false
cert_has_no_float c = (flat_cert c).exact
