-- The line of a statement, that of its own first token.
use Rattle.std.specs.Prelude.{ℕ}
use Rattle.ca_program.specs.Plain.{Statement, block, put_local, put_field, put_item, new_local, new_field, new_item, invoke, if_else, while_loop, for_loop, return_value, print_value}

abbrev pub line_of : Statement → ℕ
line_of (block line ss) = line
line_of (put_local line l op e) = line
line_of (put_field line f op e) = line
line_of (put_item line f i op e) = line
line_of (new_local line l c) = line
line_of (new_field line f c) = line
line_of (new_item line f i c) = line
line_of (invoke line e op arguments) = line
line_of (if_else line c a b) = line
line_of (while_loop line c b) = line
line_of (for_loop line site part first c next b) = line
line_of (return_value line e) = line
line_of (print_value line e) = line
