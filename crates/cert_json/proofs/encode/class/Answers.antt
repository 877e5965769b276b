use Rattle.std.proofs.Common.{sym, ◌∙◌}
use Rattle.cert_json.proofs.Codes.{class_again, code_is_text, whenever}
use Rattle.cert_json.proofs.encode.class.Goals as goal

pub returns-in-Ok-clause-reads : goal.returns-in-Ok-clause-reads
returns-in-Ok-clause-reads c = whenever c.try_from_str.result _ (λ _ h. class_again c.args.class h)

pub returns-in-Err-clause-value : goal.returns-in-Err-clause-value
returns-in-Err-clause-value c = absurd (c.in-Err.ensures.cases.0 (code_is_text c.args.class.code (sym c.is_code.ensures ∙ c.if-not-is_code.false)))

pub returns-in-Err-clause-reads : goal.returns-in-Err-clause-reads
returns-in-Err-clause-reads c = λ h. class_again c.args.class h
