-- Room for columns.
use Rattle.std.proofs.Common.{ℕ, suc, ◌+◌, ◌<◌, ◌^◌, Option, Some, None, arith}
use Rattle.away_values.specs.declared.types.Ty.{Ty}
use Rattle.away_values.specs.declared.types.Ty.TheVariants as ty
use Rattle.tail_rec.specs.declared.columns.PerType.{PerType}
use Rattle.tail_rec.specs.Columns.{after_place, HasRoom}

pub room_for_one : (free : PerType) (k : ℕ) → HasRoom free (suc k) → HasRoom free 1
room_for_one free k h =
    let a = h.bigint in
    let b = h.boolean in
    let c = h.text in
    let d = h.integer in
    record { bigint = omega (arith, a); boolean = omega (arith, b); text = omega (arith, c); integer = omega (arith, d) }

less : (free : PerType) (k : ℕ) → HasRoom free (suc k) → HasRoom free k
less free k h =
    let a = h.bigint in
    let b = h.boolean in
    let c = h.text in
    let d = h.integer in
    record { bigint = omega (arith, a); boolean = omega (arith, b); text = omega (arith, c); integer = omega (arith, d) }

next : (n k : ℕ) → n + suc k < 2 ^ 32 → suc n + k < 2 ^ 32
next n k lt = omega (arith, lt)

pub room_after : (free : PerType) (o : Option Ty) (k : ℕ) → HasRoom free (suc k) → HasRoom (after_place free o) k
room_after free None k h = less free k h
room_after free (Some ty.Bigint) k h =
    let l = less free k h in record { bigint = next free.bigint k h.bigint; boolean = l.boolean; text = l.text; integer = l.integer }
room_after free (Some ty.Boolean) k h =
    let l = less free k h in record { bigint = l.bigint; boolean = next free.boolean k h.boolean; text = l.text; integer = l.integer }
room_after free (Some ty.Text) k h =
    let l = less free k h in record { bigint = l.bigint; boolean = l.boolean; text = next free.text k h.text; integer = l.integer }
room_after free (Some ty.Integer) k h =
    let l = less free k h in record { bigint = l.bigint; boolean = l.boolean; text = l.text; integer = next free.integer k h.integer }
