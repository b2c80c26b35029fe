-- A run in the heap itself: what stays while its bodies run.
use base.Fml.{GName}
use Rattle.std.specs.Prelude.{List}
use Rattle.ca_program.specs.declared.program.Program.{Program}
use Rattle.ca_model.specs.declared.value.Object.{Object}

-- the program, the heap as it was, and which heap and old values are borrowed
pub record Lasting : Type 0 where
  pub program : Program
  pub before : List Object
  pub heap : GName
  pub kept : GName
