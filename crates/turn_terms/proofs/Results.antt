-- What holds of a value where there is one.
use Rattle.std.proofs.Common.{Result, Ok, Err, IfOk}

pub ok_by : {A E : Type 0} (r : Result A E) (P Q : A → Type 0) → ((x : A) → P x → Q x) → IfOk r P → IfOk r Q
ok_by (Ok x) P Q f h = f x h
ok_by (Err e) P Q f h = h
