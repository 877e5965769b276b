use Rattle.std.proofs.Common.{◌≡◌, sym, ◌∙◌, subst, chars, string_bytes, take, drop}
use Rattle.std.specs.Prelude.{Ok}
use Rattle.std.proofs.lemmas.Iterator.{YieldsList-from_chars, YieldsList-from_take, text_from_collect}
use Rattle.std.proofs.lemmas.Iterator.Adapters.{YieldsList-from_skip}
use Rattle.std.proofs.lemmas.Str.{encodes-chars, chars_from_encodes, IsUtf8-string_bytes}
use Rattle.std.specs.declared.alloc.AllocError.{AllocError}
use lib.Utf8.{encodes}
use Rattle.away_values.specs.Words.{IsWord}
use Rattle.away_values.proofs.TextParts.{IsWord-take, IsWord-drop}
use Rattle.away_values.proofs.texts.piece.Goals as goal

-- the bytes of the text are those of the characters that are taken
taken : (c : goal.In_ok-piece) → string_bytes c.in_ok-piece.piece ≡ encodes (take c.args.taken (drop c.args.skipped (chars c.args.text.now)))
taken c = text_from_collect {E = AllocError} (Ok c.in_ok-piece.piece) c.in_ok-piece.ensures.ran (YieldsList-from_take c.args.taken (YieldsList-from_skip c.args.skipped (YieldsList-from_chars c.args.text.now c.utf8.text cc) cc) cc)

pub from_string-requires : goal.from_string-requires
from_string-requires c =
    let whole : IsWord (encodes (chars c.args.text.now)) = subst IsWord (sym (encodes-chars c.args.text.now c.utf8.text)) c.requires in
    subst IsWord (sym (taken c)) (IsWord-take c.args.taken _ (IsWord-drop c.args.skipped _ whole))

pub returns : goal.returns
returns c =
    let bytes : string_bytes c.in_ok-piece.piece ≡ encodes (take c.args.taken (drop c.args.skipped (chars c.args.text.now))) =
    text_from_collect {E = AllocError} (Ok c.in_ok-piece.piece) c.in_ok-piece.ensures.ran (YieldsList-from_take c.args.taken (YieldsList-from_skip c.args.skipped (YieldsList-from_chars c.args.text.now c.utf8.text cc) cc) cc)
    in
    c.from_string.ensures
    ∙ sym (chars_from_encodes (take c.args.taken (drop c.args.skipped (chars c.args.text.now))) (string_bytes c.in_ok-piece.piece) (IsUtf8-string_bytes c.in_ok-piece.piece) (sym bytes))
