use Rattle.ca_canonical.proofs.Writing.{as_pieces}
use Rattle.ca_canonical.proofs.classes.write_member.Goals as goal

pub returns-in-Field : goal.returns-in-Field
returns-in-Field g c = rw c.in-Field.is (as_pieces c.write_field.ensures)

pub returns-in-Method : goal.returns-in-Method
returns-in-Method g c = rw c.in-Method.is c.write_method.ensures
