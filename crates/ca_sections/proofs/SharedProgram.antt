-- A program and its code may be read by several threads: so may the leaves of its trees, its trees, instructions, and what holds them.
use Rattle.std.proofs.Crossing.{Box-sync, Vec-sync, crosses}
use denote.Ref.{NamedLft}
use denote.Plain.{UInt}
use mir.Syntax.{w32}
use denote.Param.Send.{IsSync, sendable, enum_sync, shr_sync, shr_slice_sync, view_sync}
use denote.Param.SendFields.{declared_sync, as_row_sync}
use denote.Enum.Declared as enum
use Rattle.std.specs.contracts.alloc.Global as global
use Rattle.std.specs.contracts.impls.GlobalAllocator.TheImpl as heap
use Rattle.std.specs.contracts.vec.Vec as vec
use Rattle.std.proofs.option.Option.TheSendSync as option_sent
use Rattle.ca_tree.proofs.name.Name.TheSendSync as name_sent
use Rattle.ca_tree.specs.contracts.tree.AssignOp as assign_op
use Rattle.ca_tree.specs.contracts.tree.BinaryOp as binary_op
use Rattle.ca_tree.specs.contracts.tree.UnaryOp as unary_op
use Rattle.ca_program.specs.contracts.program.FieldId as field_id
use Rattle.ca_program.specs.contracts.program.ClassId as class_id
use Rattle.ca_program.specs.contracts.program.FunctionId as function_id
use Rattle.ca_program.specs.contracts.program.LocalId as local_id
use Rattle.ca_program.specs.contracts.program.LoopId as loop_id
use Rattle.ca_program.specs.contracts.program.OpId as op_id
use Rattle.ca_program.specs.contracts.program.FirstPart as first_part
use Rattle.ca_program.specs.contracts.program.ValueType as value_type
use Rattle.ca_program.specs.contracts.program.Class as class
use Rattle.ca_program.specs.contracts.program.Expr as expr
use Rattle.ca_program.specs.contracts.program.Stmt as stmt
use Rattle.ca_program.specs.contracts.program.Body as body
use Rattle.ca_program.specs.contracts.program.Method as method
use Rattle.ca_program.specs.contracts.program.Program as program
use Rattle.ca_program.proofs.program.ClassId.TheSendSync as class_id_sent
use Rattle.ca_program.proofs.program.ValueType.TheSendSync as value_type_sent
use Rattle.ca_program.proofs.program.Class.TheSendSync as class_sent
use Rattle.ca_code.proofs.ins.Kind.TheSendSync as kind_sent
use Rattle.ca_selection.proofs.ops.Op.TheSendSync as op_sent
use Rattle.ca_selection.specs.contracts.ops.Op as fast_op
use Rattle.ca_steps.specs.contracts.running.Laid as laid
use Rattle.ca_code.specs.contracts.ins.Row as row
use Rattle.ca_code.specs.contracts.ins.Kind as kind
use Rattle.ca_code.specs.contracts.ins.Ins as ins
use Rattle.ca_code.specs.contracts.layout.Code as code
use Rattle.ca_sections.specs.contracts.coded.Coded as coded
use Rattle.ca_sections.specs.contracts.coded.Coded.TheInside as inside
use Rattle.ca_program.proofs.program.StmtForm.TheLaws.TheKnot as statements
use Rattle.ca_program.proofs.program.Expr.TheLaws.TheKnot as expressions

field_id_sync : IsSync (field_id.the_field).row
field_id_sync = search sendable depth 10

function_id_sync : IsSync (function_id.the_field).row
function_id_sync = search sendable depth 10

local_id_sync : IsSync (local_id.the_field).row
local_id_sync = search sendable depth 10

loop_id_sync : IsSync (loop_id.the_field).row
loop_id_sync = search sendable depth 10

op_id_sync : IsSync (op_id.the_field).row
op_id_sync = search sendable depth 10

class_id_sync : IsSync (class_id.the_field).row
class_id_sync = search sendable depth 10

first_part_sync : IsSync (first_part.the_field).row
first_part_sync = search sendable depth 20

assign_op_sync : IsSync (assign_op.the_field).row
assign_op_sync = search sendable depth 20

unary_op_sync : IsSync (unary_op.the_field).row
unary_op_sync = search sendable depth 20

binary_op_sync : IsSync (binary_op.the_field).row
binary_op_sync = enum_sync (enum.shape binary_op.the_type) (tt, (tt, (tt, (tt, (tt, (tt, (tt, (tt, (tt, (tt, (tt, (tt, (tt, (tt, (tt, (tt, (tt, (tt, tt))))))))))))))))))

expr_sync : IsSync (expr.the_field).row
expr_sync = expressions.sync-Expr (search sendable depth 10) (search sendable depth 10) local_id_sync field_id_sync Box-sync function_id_sync Vec-sync unary_op_sync binary_op_sync

expr_row_sync : IsSync expr.the_row
expr_row_sync = as_row_sync expr.the_field expr_sync

stmt_sync : IsSync (stmt.the_field).row
stmt_sync = statements.sync-Stmt Vec-sync local_id_sync assign_op_sync expr_sync field_id_sync class_id_sync op_id_sync (Vec-sync expr.the_row expr_row_sync) Box-sync loop_id_sync first_part_sync (search sendable depth 10)

stmt_row_sync : IsSync stmt.the_row
stmt_row_sync = as_row_sync stmt.the_field stmt_sync

value_types_sync : IsSync (vec.the_row value_type.the_row global.the_row heap.ghosts)
value_types_sync = Vec-sync value_type.the_row value_type_sent.the_sync

classes_sync : IsSync (vec.the_row class.the_row global.the_row heap.ghosts)
classes_sync = Vec-sync class.the_row class_sent.the_sync

body_sync : IsSync body.the_row
body_sync = declared_sync body.the_type (value_types_sync, (Vec-sync stmt.the_row stmt_row_sync, tt))

method_sync : IsSync method.the_row
method_sync = declared_sync method.the_type (class_id_sent.the_sync, (name_sent.the_sync, (search sendable, (body_sync, (option_sent.the_sync value_type.the_row value_type_sent.the_sync, tt)))))

methods_sync : IsSync (vec.the_row method.the_row global.the_row heap.ghosts)
methods_sync = Vec-sync method.the_row method_sync

pub program_sync : IsSync program.the_row
program_sync = declared_sync program.the_type (classes_sync, (methods_sync, (methods_sync, (body_sync, tt))))

kind_sync : IsSync (kind.the_field).row
kind_sync = search sendable depth 20

ins_sync : (κ : NamedLft) → IsSync (ins.the_field κ).row
ins_sync κ =
    let slot : IsSync (UInt w32) = search sendable in
    enum_sync (enum.shape (ins.the_type κ)) ((slot, (search sendable, tt)), ((slot, tt), ((slot, (slot, tt)), ((slot, (kind_sync, (field_id_sync, tt))), ((slot, (kind_sync, (field_id_sync, (slot, tt)))), ((slot, (slot, (kind_sync, (field_id_sync, tt)))), ((slot, (slot, (kind_sync, (field_id_sync, (slot, tt))))), ((slot, (unary_op_sync, (slot, tt))), ((slot, (binary_op_sync, (kind_sync, (kind_sync, (slot, (slot, tt)))))), ((slot, (assign_op_sync, (kind_sync, (slot, tt)))), ((slot, tt), ((field_id_sync, (slot, tt)), ((slot, (binary_op_sync, (slot, (slot, tt)))), ((slot, tt), ((slot, (slot, tt)), ((slot, (slot, tt)), ((function_id_sync, (slot, (slot, tt))), ((slot, tt), (tt, (tt, ((field_id_sync, (assign_op_sync, (kind_sync, (slot, tt)))), ((field_id_sync, (slot, (assign_op_sync, (kind_sync, (slot, tt))))), ((slot, (class_id_sync, tt)), ((field_id_sync, (class_id_sync, tt)), ((field_id_sync, (slot, (class_id_sync, tt))), ((kind_sync, (slot, tt)), ((op_id_sync, (slot, tt)), ((op_id_sync, (slot, tt)), ((op_id_sync, (slot, tt)), ((slot, (shr_sync κ.mir κ.lft stmt.the_row stmt_row_sync, (shr_slice_sync κ.mir κ.lft value_type.the_row value_type_sent.the_sync, tt))), tt))))))))))))))))))))))))))))))

row_sync : (κ : NamedLft) → IsSync (row.the_row κ)
row_sync κ = declared_sync (row.the_type κ) (as_row_sync (ins.the_field κ) (ins_sync κ), (search sendable, tt))

rows_sync : (κ : NamedLft) → IsSync (vec.the_row (row.the_row κ) global.the_row heap.ghosts)
rows_sync κ = Vec-sync (row.the_row κ) (row_sync κ)

code_sync : (κ : NamedLft) → IsSync (code.the_row κ)
code_sync κ = declared_sync (code.the_type κ) (rows_sync κ, (search (sendable, crosses) depth 20, (search (sendable, crosses) depth 20, (search (sendable, crosses) depth 20, (search (sendable, crosses, kind_sent.the_sync) depth 20, (search sendable, (search sendable, tt)))))))

laid_sync : (κ : NamedLft) → IsSync (laid.the_row κ)
laid_sync κ = declared_sync (laid.the_type κ) (code_sync κ, (Vec-sync fast_op.the_row op_sent.the_sync, tt))

pub coded_sync : (κ : NamedLft) → IsSync (coded.the_row κ)
coded_sync κ = view_sync _ _ _ _ _ (declared_sync (inside.the_type κ) (shr_sync κ.mir κ.lft program.the_row program_sync, (shr_sync κ.mir κ.lft (laid.the_row κ) (laid_sync κ), (search (sendable, crosses) depth 20, tt))))
