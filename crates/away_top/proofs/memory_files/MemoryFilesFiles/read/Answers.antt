use Rattle.std.proofs.Common.{rules, ◌≡◌, length, ap, sym, ◌∙◌, arith}
use Rattle.std.proofs.lemmas.Grind.{common_steps}
use Rattle.away_top.proofs.Calls.{told_here, told_nothing, told_once}
use Rattle.away_top.proofs.memory_files.MemoryFilesFiles.read.Goals as goal

pub returns-in_default-clause-too_long : goal.returns-in_default-clause-too_long
returns-in_default-clause-too_long c = λ bytes quiet told lt. absurd (told_nothing _ bytes (told_here _ _ _ c.args.self.now _ _ c.deref-2.ensures.value (ap (λ m. m.held) (sym c.self.view_is)) c.in_default.ensures) told)

pub returns-in_default-clause-whole : goal.returns-in_default-clause-whole
returns-in_default-clause-whole c = λ bytes quiet told le. absurd (told_nothing _ bytes (told_here _ _ _ c.args.self.now _ _ c.deref-2.ensures.value (ap (λ m. m.held) (sym c.self.view_is)) c.in_default.ensures) told)

pub returns-then-bytes-limit-clause-missing : goal.returns-then-bytes-limit-clause-missing
returns-then-bytes-limit-clause-missing c = λ quiet told. absurd (told_nothing _ c.in-Some.bytes.now told (told_here _ _ _ c.args.self.now _ _ c.deref-2.ensures.value (ap (λ m. m.held) (sym c.self.view_is)) c.in-Some.ensures))

pub returns-then-bytes-limit-clause-whole : goal.returns-then-bytes-limit-clause-whole
returns-then-bytes-limit-clause-whole c = λ bytes quiet told le.
    let same : c.in-Some.bytes.now ≡ bytes = told_once _ _ _ (told_here _ _ _ c.args.self.now _ _ c.deref-2.ensures.value (ap (λ m. m.held) (sym c.self.view_is)) c.in-Some.ensures) told in
    let lengths : length c.in-Some.bytes.now ≡ length bytes = ap length same in
    absurd (omega (arith, lengths))

pub returns-in-Ok-clause-missing : goal.returns-in-Ok-clause-missing
returns-in-Ok-clause-missing c = λ quiet told. absurd (told_nothing _ c.in-Some.bytes.now told (told_here _ _ _ c.args.self.now _ _ c.deref-2.ensures.value (ap (λ m. m.held) (sym c.self.view_is)) c.in-Some.ensures))

pub returns-in-Ok-clause-too_long : goal.returns-in-Ok-clause-too_long
returns-in-Ok-clause-too_long c = λ bytes quiet told lt.
    let same : c.in-Some.bytes.now ≡ bytes = told_once _ _ _ (told_here _ _ _ c.args.self.now _ _ c.deref-2.ensures.value (ap (λ m. m.held) (sym c.self.view_is)) c.in-Some.ensures) told in
    let lengths : length c.in-Some.bytes.now ≡ length bytes = ap length same in
    absurd (omega (arith, lengths))

pub returns-in-Ok-clause-whole : goal.returns-in-Ok-clause-whole
returns-in-Ok-clause-whole c = λ bytes quiet told le.
    let same : c.in-Some.bytes.now ≡ bytes = told_once _ _ _ (told_here _ _ _ c.args.self.now _ _ c.deref-2.ensures.value (ap (λ m. m.held) (sym c.self.view_is)) c.in-Some.ensures) told in
    let copied : c.in-Ok.copy.items ≡ c.in-Some.bytes.now = first_of (search rules, grind (arith, common_steps)) in
    (copied ∙ same, ap (λ m. m.faults) c.self.view_is)

pub returns-in-Err-clause-missing : goal.returns-in-Err-clause-missing
returns-in-Err-clause-missing c = λ quiet told. absurd (told_nothing _ c.in-Some.bytes.now told (told_here _ _ _ c.args.self.now _ _ c.deref-2.ensures.value (ap (λ m. m.held) (sym c.self.view_is)) c.in-Some.ensures))

pub returns-in-Err-clause-too_long : goal.returns-in-Err-clause-too_long
returns-in-Err-clause-too_long c = λ bytes quiet told lt.
    let same : c.in-Some.bytes.now ≡ bytes = told_once _ _ _ (told_here _ _ _ c.args.self.now _ _ c.deref-2.ensures.value (ap (λ m. m.held) (sym c.self.view_is)) c.in-Some.ensures) told in
    let lengths : length c.in-Some.bytes.now ≡ length bytes = ap length same in
    absurd (omega (arith, lengths))

pub returns-then-bytes-limit-clause-absent_name : goal.returns-then-bytes-limit-clause-absent_name
returns-then-bytes-limit-clause-absent_name c = λ none. absurd (told_nothing _ c.in-Some.bytes.now none (told_here _ _ _ c.args.self.now _ _ c.deref-2.ensures.value (ap (λ m. m.held) (sym c.self.view_is)) c.in-Some.ensures))

pub returns-in-Ok-clause-absent_name : goal.returns-in-Ok-clause-absent_name
returns-in-Ok-clause-absent_name c = λ none. absurd (told_nothing _ c.in-Some.bytes.now none (told_here _ _ _ c.args.self.now _ _ c.deref-2.ensures.value (ap (λ m. m.held) (sym c.self.view_is)) c.in-Some.ensures))

pub returns-in-Err-clause-absent_name : goal.returns-in-Err-clause-absent_name
returns-in-Err-clause-absent_name c = λ none. absurd (told_nothing _ c.in-Some.bytes.now none (told_here _ _ _ c.args.self.now _ _ c.deref-2.ensures.value (ap (λ m. m.held) (sym c.self.view_is)) c.in-Some.ensures))
