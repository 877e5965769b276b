use Rattle.cert_json.proofs.FieldByField.{first_decides}
use Rattle.cert_json.proofs.laws.the_first_field_decides.Goals as goal

pub returns : goal.returns
returns c = first_decides
