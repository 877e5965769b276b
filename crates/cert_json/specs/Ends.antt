-- How JSON spells assignments and the ends of blocks.
use Rattle.std.specs.Prelude.{
  ℕ,
  if◌then◌else◌,
  List,
  [],
  ◌∷◌,
  bytes_eq,
  codes,
  is_some,
  Option,
  Some,
  None,
}
use Rattle.serde_json.specs.Data.{Data}
use Rattle.serde_json.specs.Find.{as_null, as_str}
use Rattle.block_forms.specs.declared.forms.End.TheVariants.{Jump, Branch, Return, Fail}
use Rattle.call_forms.specs.declared.forms.CallEnd.TheVariants as calls
use Rattle.cert_json.specs.Forms.{Class, Term, End, Call, CallEnd}
use Rattle.cert_json.specs.Spellings.{◌>>=◌, class_in, list_in, many, number_in, three_in}

-- an expression's number, and the list of what its slots hold
unfoldable pub term_in : Data → Data → Option Term
term_in expr names = do
  e ← number_in expr
  ns ← many number_in names
  Some (record { expr = e; names = ns })

-- [slot, expr, [slots]]
unfoldable pub assignment_in : Data → Option (ℕ × Term)
assignment_in d = do
  p ← three_in d
  slot ← number_in p.0
  term ← term_in p.1 p.2
  Some (slot, term)

-- null, or an assignment
unfoldable pub set_in : Data → Option (Option (ℕ × Term))
set_in d = if is_some (as_null d) then Some None else (assignment_in d >>= λ a. Some (Some a))

-- ---- a list with a word at its head

abbrev pub first_word : List Data → Option (List ℕ × List Data)
first_word [] = None
first_word (d ∷ ds) = as_str d >>= λ word. Some (word, ds)

unfoldable pub headed : Data → Option (List ℕ × List Data)
headed d = list_in d >>= first_word

-- [b] behind "jump"
abbrev pub jump_in : List Data → Option End
jump_in (b ∷ []) = number_in b >>= λ k. Some (Jump k)
jump_in _ = None

-- [expr, [slots], b, b] behind "branch"
unfoldable pub branch_in : List Data → Option End
branch_in (e ∷ ns ∷ b ∷ c ∷ []) = do
  term ← term_in e ns
  first ← number_in b
  second ← number_in c
  Some (Branch term first second)
branch_in _ = None

-- [expr, [slots]] behind "return"
abbrev pub return_in : List Data → Option Term
return_in (e ∷ ns ∷ []) = term_in e ns
return_in _ = None

-- [class] behind "fail"
abbrev pub fail_in : List Data → Option Class
fail_in (c ∷ []) = class_in c
fail_in _ = None

unfoldable pub end_of : List ℕ → List Data → Option End
end_of word rest =
    if bytes_eq word (codes "jump") then jump_in rest
    else (if bytes_eq word (codes "branch") then branch_in rest
    else (if bytes_eq word (codes "return") then (return_in rest >>= λ t. Some (Return t))
    else (if bytes_eq word (codes "fail") then (fail_in rest >>= λ c. Some (Fail c)) else None)))

unfoldable pub end_in : Data → Option End
end_in d = headed d >>= λ h. end_of h.0 h.1

-- ---- calls

-- a block, and the list of the names that are passed
unfoldable pub call_in : Data → Data → Option Call
call_in target names = do
  b ← number_in target
  ns ← many number_in names
  Some (record { target = b; args = ns })

-- [b, [names]] behind "call"
abbrev pub go_in : List Data → Option CallEnd
go_in (b ∷ ns ∷ []) = call_in b ns >>= λ call. Some (calls.Go call)
go_in _ = None

-- [expr, [names], b, [names], b, [names]] behind "if"
unfoldable pub pick_in : List Data → Option CallEnd
pick_in (e ∷ ns ∷ b ∷ bs ∷ c ∷ cs ∷ []) = do
  term ← term_in e ns
  first ← call_in b bs
  second ← call_in c cs
  Some (calls.Pick term first second)
pick_in _ = None

unfoldable pub call_end_of : List ℕ → List Data → Option CallEnd
call_end_of word rest =
    if bytes_eq word (codes "call") then go_in rest
    else (if bytes_eq word (codes "if") then pick_in rest
    else (if bytes_eq word (codes "return") then (return_in rest >>= λ t. Some (calls.Return t))
    else (if bytes_eq word (codes "fail") then (fail_in rest >>= λ c. Some (calls.Fail c)) else None)))

unfoldable pub call_end_in : Data → Option CallEnd
call_end_in d = headed d >>= λ h. call_end_of h.0 h.1
