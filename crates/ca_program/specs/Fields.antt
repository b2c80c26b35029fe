-- Whether two fields are one, by their numbers, and which field a number names.
use Rattle.std.specs.Prelude.{Bool, ◌&&◌, nat_eq, List, [], Option, Some, None, slice_get}
use Rattle.ca_program.specs.declared.program.FieldId.{FieldId}
use Rattle.ca_program.specs.declared.program.FieldInfo.{FieldInfo}
use Rattle.ca_program.specs.Plain.{PlainClass, PlainProgram}

abbrev pub same_field : FieldId → FieldId → Bool
same_field f g = nat_eq f.class.0 g.class.0 && nat_eq f.field g.field

-- the fields of a class
abbrev pub fields_of : Option PlainClass → List FieldInfo
fields_of None = []
fields_of (Some c) = c.fields

-- the field, where there is one
abbrev pub field_info : PlainProgram → FieldId → Option FieldInfo
field_info p f = slice_get (fields_of (slice_get p.classes f.class.0)) f.field
