use Rattle.std.proofs.Common.{◌≡◌, ◌∷◌, [], ◌++◌, is_ok, map, ap, ◌∙◌}
use Rattle.std.proofs.lemmas.List.{map-append}
use Rattle.ca_program.specs.declared.program.Class.{Class}
use Rattle.ca_program.specs.View.{class_view, method_view}
use Rattle.ca_types.specs.clauses.Adding.{with_class}
use Rattle.ca_types.specs.clauses.View.{parts_view, members_view}
use Rattle.ca_types.specs.declared.classes.Parts.{Parts as CodeParts}
use Rattle.ca_types.proofs.Answering.{on_ok_so, put_where_room}
use Rattle.ca_types.proofs.Room.{parts_are, others_put, all_room}
use Rattle.ca_types.proofs.classes.put_class.Goals as goal

pub returns-clause-parts : goal.returns-clause-parts
returns-clause-parts c =
    let parts = c.args.parts in
    let members = c.args.members in
    let class : Class = record { name = c.args.name; fields = members.fields } in
    let now : CodeParts = record { classes = c.add.new.items; ops = c.append.new.self; functions = c.append-2.new.self } in
    put_where_room parts_view c.with_room.result now (with_class (parts_view parts) c.args.name (members_view members)) c.and-room.result c.with_room.ensures.values c.with_room.ensures.room
    (λ h.
    let room = all_room c.add.result c.append.result c.append-2.result c.and.result c.and-room.result c.and.ensures c.and-room.ensures h in
    let classes = on_ok_so (c.add.new.items.items ≡ parts.classes.items ++ class ∷ []) c.add.result room.0 c.add.ensures in
    parts_are _ _ _ _ _ _ (ap (map class_view) classes ∙ map-append class_view parts.classes.items (class ∷ []))
    (others_put method_view parts.ops.items members.ops.items c.append.new.self.items (is_ok c.append.result) room.1 c.append.ensures.items)
    (others_put method_view parts.functions.items members.functions.items c.append-2.new.self.items (is_ok c.append-2.result) room.2 c.append-2.ensures.items))
