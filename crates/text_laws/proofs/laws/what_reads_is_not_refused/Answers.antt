use Rattle.away_grammar.specs.Texts.{ReadsQuery, ReadsSchema}
use Rattle.text_laws.proofs.Reading.{cert_kept, function_kept, text_kept}
use Rattle.text_laws.proofs.laws.what_reads_is_not_refused.Goals as goal

pub returns-clause-schema : goal.returns-clause-schema
returns-clause-schema c = λ bytes s why may reads. text_kept (ReadsSchema bytes) bytes may s reads why

pub returns-clause-query : goal.returns-clause-query
returns-clause-query c = λ bytes q why may reads. text_kept (ReadsQuery bytes) bytes may q reads why

pub returns-clause-function : goal.returns-clause-function
returns-clause-function c = λ bytes f why may reads limits. function_kept bytes may f reads limits why

pub returns-clause-certificate : goal.returns-clause-certificate
returns-clause-certificate c = λ bytes cert why reads. cert_kept bytes cert reads why
