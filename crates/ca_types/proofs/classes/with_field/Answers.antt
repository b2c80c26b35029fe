use Rattle.std.proofs.Common.{ap, refl}
use Rattle.std.proofs.lemmas.Result.{err_from_is_err_and}
use Rattle.ca_program.specs.declared.program.FieldInfo.{FieldInfo}
use Rattle.ca_resolve.specs.Judged.{fine, within}
use Rattle.ca_resolve.proofs.Judging.{both_exit, both_fine}
use Rattle.ca_types.specs.Classes.{Members}
use Rattle.ca_types.specs.clauses.Adding.{with_field}
use Rattle.ca_types.specs.clauses.View.{members_view}
use Rattle.ca_types.specs.declared.classes.Members.{Members as CodeMembers}
use Rattle.ca_types.proofs.Answering.{on_ok, roomy}
use Rattle.ca_types.proofs.Room.{members_are}
use Rattle.ca_types.proofs.classes.with_field.Goals as goal

pub returns-in_err-members : goal.returns-in_err-members
returns-in_err-members c = λ j k x y.
    let err = c.in_err-members.field-0.0 in
    let p = err_from_is_err_and c.from_residual.result c.from_residual.ensures.1 in
    rw (p.1, p.2)
    (both_exit members_view (λ (f : FieldInfo). f) c.args.front c.args.field c.both.result err j k _ c.in_err-members.was c.both.ensures x y)

pub returns : goal.returns
returns c = λ j k x y.
    let members = c.in_ok-members.members in
    let field = c.in_ok-members.field in
    let now : CodeMembers = record { fields = c.add-room.new.items; ops = members.ops; functions = members.functions } in
    let known = both_fine members_view (λ (f : FieldInfo). f) c.args.front c.args.field c.both.result (members, field) j k c.in_ok-members.was c.both.ensures x y in
    roomy members_view c.with_room.result c.add-room.result _ now (with_field (members_view members) field)
    (ap (λ q. within q (λ (p : Members × FieldInfo). fine (with_field p.0 p.1))) known)
    c.with_room.ensures.values c.with_room.ensures.room c.with_room.ensures.memory
    (on_ok c.add-room.result (λ e. members_are _ _ _ _ _ _ e refl refl) c.add-room.ensures)
