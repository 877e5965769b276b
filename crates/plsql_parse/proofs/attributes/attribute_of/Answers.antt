use Rattle.sql_text.proofs.Steps.{taken, failed}
use Rattle.plsql_parse.proofs.attributes.attribute_of.Goals as goal

pub returns-in-Some-Name-clause-found : goal.returns-in-Some-Name-clause-found
returns-in-Some-Name-clause-found c = taken (rw c.in-Some-Name.field-0-is at c.in-Some-Name.ensures.next) c.in-Some-Name.ensures.rest (c.named_attribute.ensures.found)

pub returns-in-Some-Mark-clause-found : goal.returns-in-Some-Mark-clause-found
returns-in-Some-Mark-clause-found c = taken (rw c.in-Some-Mark.field-0-is at c.in-Some-Mark.ensures.next) c.in-Some-Mark.ensures.rest (c.marked_attribute.ensures.found)

pub returns-in-Some-Integer-clause-found : goal.returns-in-Some-Integer-clause-found
returns-in-Some-Integer-clause-found c = taken (rw c.in-Some-Integer.field-0-is at c.in-Some-Integer.ensures.next) c.in-Some-Integer.ensures.rest (failed)

pub returns-in-Some-Text-clause-found : goal.returns-in-Some-Text-clause-found
returns-in-Some-Text-clause-found c = taken (rw c.in-Some-Text.field-0-is at c.in-Some-Text.ensures.next) c.in-Some-Text.ensures.rest (failed)

pub returns-in-Some-Parameter-clause-found : goal.returns-in-Some-Parameter-clause-found
returns-in-Some-Parameter-clause-found c = taken (rw c.in-Some-Parameter.field-0-is at c.in-Some-Parameter.ensures.next) c.in-Some-Parameter.ensures.rest (failed)

pub returns-in-Some-Quote-clause-found : goal.returns-in-Some-Quote-clause-found
returns-in-Some-Quote-clause-found c = taken (rw c.in-Some-Quote.field-0-is at c.in-Some-Quote.ensures.next) c.in-Some-Quote.ensures.rest (failed)

pub returns-in-None-clause-found : goal.returns-in-None-clause-found
returns-in-None-clause-found c = taken c.in-None.ensures.next c.in-None.ensures.rest failed
