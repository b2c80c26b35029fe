use Rattle.std.proofs.Common.{◌≡◌, map, ap, ◌∙◌}
use Rattle.std.specs.Prelude.{flat_map}
use Rattle.ca_program.specs.View.{method_view, program_view}
use Rattle.ca_extent.specs.declared.numbers.Callees.TheVariants.{Operations, Functions}
use Rattle.ca_extent.specs.clauses.Ids.{op_number, op_of, function_of, field_of}
use Rattle.ca_extent.specs.clauses.Reached.{calls_at, IsReached}
use Rattle.ca_extent.specs.clauses.Targets.{written_at}
use Rattle.ca_extent.proofs.Whole.{whole, stands}
use Rattle.ca_extent.proofs.extent.extent_of.Goals as goal

pub returns : goal.returns
returns c =
    let all : IsReached (calls_at Operations (map method_view c.args.program.now.ops.items)) (map op_number c.args.roots.now) c.in_ok-ops.ops.items =
    rw c.deref.ensures.value at (rw c.in_ok-start.ensures at c.in_ok-ops.ensures) in
    let values : IsReached (calls_at Functions (map method_view c.args.program.now.functions.items)) (flat_map (calls_at Functions (map method_view c.args.program.now.ops.items)) c.in_ok-ops.ops.items) c.in_ok-functions.functions.items =
    rw c.deref-4.ensures.value at (rw c.deref-3.ensures.value at (rw c.deref-2.ensures.value at (rw c.in_ok-called.ensures at c.in_ok-functions.ensures))) in
    let is : c.in_ok-pairs.pairs.items ≡ flat_map (written_at (map method_view c.args.program.now.ops.items)) c.in_ok-ops.ops.items =
    rw c.deref-6.ensures.value at (rw c.deref-5.ensures.value at c.in_ok-pairs.ensures) in
    stands (program_view c.args.program.now) c.args.roots.now _ _ _ _ _ _
    (c.in_ok-ops_of.ensures ∙ ap (map op_of) c.deref-7.ensures.value)
    (c.in_ok-functions_of.ensures ∙ ap (map function_of) c.deref-8.ensures.value)
    (c.in_ok-fields_of.ensures ∙ ap (map field_of) c.deref-9.ensures.value)
    (whole (program_view c.args.program.now) c.args.roots.now c.in_ok-ops.ops.items all c.in_ok-functions.functions.items c.in_ok-pairs.pairs.items c.rise_pairs.new.pairs.items values is
    c.rise_pairs.ensures.rises c.rise_pairs.ensures.keeps c.rise_pairs.ensures.adds_none)
