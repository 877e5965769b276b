-- What a reader of the code gives, beside what JSON spells.
use Rattle.std.specs.Prelude.{◌≡◌, Option, Some, None, Result, Ok, Err}
use Rattle.cert_json.specs.declared.misfit.Misfit.{Misfit}
use Rattle.cert_json.specs.declared.misfit.Misfit.TheVariants as misfit
use Rattle.cert_json.specs.declared.cert.CertField.{CertField}
use Rattle.cert_json.specs.declared.cert.CertRefusal.{CertRefusal}
use Rattle.cert_json.specs.declared.cert.CertRefusal.TheVariants as refusal

-- No value where nothing is spelled; want of memory is the one free answer.
abbrev pub Fails : {A : Type 0} → Misfit → Option A → Type 0
Fails misfit.NoMemory meant = Unit {0}
Fails misfit.Shape meant = meant ≡ None

-- what was given, as `view` sees it, is what is spelled
abbrev pub Gives : {X A : Type 0} → (X → A) → Result X Misfit → Option A → Type 0
Gives view (Ok x) meant = meant ≡ Some (view x)
Gives view (Err e) meant = Fails e meant

-- The same for the fields of a certificate. Bytes that are no JSON have none.
abbrev pub Refused : {A : Type 0} → CertRefusal → Result A CertField → Type 0
Refused refusal.NoMemory meant = Unit {0}
Refused refusal.NotJson meant = ⊥
Refused (refusal.Field f) meant = meant ≡ Err f

abbrev pub Tells : {A : Type 0} → Result A CertRefusal → Result A CertField → Type 0
Tells (Ok x) meant = meant ≡ Ok x
Tells (Err e) meant = Refused e meant
