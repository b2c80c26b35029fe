use Rattle.ca_canonical.proofs.Writing.{then}
use Rattle.ca_canonical.proofs.statements.write_type.Goals as goal

pub returns-in-Pointer : goal.returns-in-Pointer
returns-in-Pointer c = rw c.in-Pointer.is (then c.name.ensures c.sign.ensures)

pub returns-in-Long : goal.returns-in-Long
returns-in-Long c = rw c.in-Long.is c.key.ensures

pub returns-in-Bool : goal.returns-in-Bool
returns-in-Bool c = rw c.in-Bool.is c.key-in-Bool.ensures
