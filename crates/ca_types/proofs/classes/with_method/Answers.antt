use Rattle.std.proofs.Common.{◌≡◌, true, false, is_some, ap, refl, sym, ◌∙◌}
use Rattle.std.proofs.lemmas.Result.{err_from_is_err_and}
use Rattle.ca_program.specs.Plain.{PlainMethod}
use Rattle.ca_program.specs.View.{method_view}
use Rattle.ca_resolve.specs.Judged.{fine, within}
use Rattle.ca_resolve.proofs.Judging.{both_exit, both_fine}
use Rattle.ca_types.specs.Classes.{Members}
use Rattle.ca_types.specs.clauses.Adding.{with_method}
use Rattle.ca_types.specs.clauses.View.{members_view}
use Rattle.ca_types.specs.declared.classes.Members.{Members as CodeMembers}
use Rattle.ca_types.proofs.Answering.{on_ok, roomy}
use Rattle.ca_types.proofs.Room.{members_are, methods_and, function_put, operation_put}
use Rattle.ca_types.proofs.classes.with_method.Goals as goal

pub returns-in_err-members : goal.returns-in_err-members
returns-in_err-members c = λ j k x y.
    let err = c.in_err-members.field-0.0 in
    let p = err_from_is_err_and c.from_residual.result c.from_residual.ensures.1 in
    rw (p.1, p.2)
    (both_exit members_view method_view c.args.front c.args.method c.both.result err j k _ c.in_err-members.was c.both.ensures x y)

pub returns-then-is_some : goal.returns-then-is_some
returns-then-is_some c = λ j k x y.
    let members = c.in_ok-members.members in
    let method = c.in_ok-members.method in
    let now : CodeMembers = record { fields = members.fields; ops = members.ops; functions = c.add-room.new.items } in
    let known = both_fine members_view method_view c.args.front c.args.method c.both.result (members, method) j k c.in_ok-members.was c.both.ensures x y in
    let is : is_some method.result ≡ true = sym c.is_some.ensures ∙ c.if-is_some.true in
    roomy members_view c.with_room.result c.add-room.result _ now (with_method (members_view members) method.result (method_view method))
    (ap (λ q. within q (λ (p : Members × PlainMethod). fine (with_method p.0 p.1.result p.1))) known)
    c.with_room.ensures.values c.with_room.ensures.room c.with_room.ensures.memory
    (on_ok c.add-room.result (λ e. members_are _ _ _ _ _ _ refl refl (methods_and members.functions.items c.add-room.new.items.items method e) ∙ function_put (members_view members) method.result (method_view method) is) c.add-room.ensures)

pub returns-else-is_some : goal.returns-else-is_some
returns-else-is_some c = λ j k x y.
    let members = c.in_ok-members.members in
    let method = c.in_ok-members.method in
    let now : CodeMembers = record { fields = members.fields; ops = c.add-room-else-is_some.new.items; functions = members.functions } in
    let known = both_fine members_view method_view c.args.front c.args.method c.both.result (members, method) j k c.in_ok-members.was c.both.ensures x y in
    let is : is_some method.result ≡ false = sym c.is_some.ensures ∙ c.if-is_some.false in
    let room = c.with_room-else-is_some in
    roomy members_view room.result c.add-room-else-is_some.result _ now (with_method (members_view members) method.result (method_view method))
    (ap (λ q. within q (λ (p : Members × PlainMethod). fine (with_method p.0 p.1.result p.1))) known)
    room.ensures.values room.ensures.room room.ensures.memory
    (on_ok c.add-room-else-is_some.result (λ e. members_are _ _ _ _ _ _ refl (methods_and members.ops.items c.add-room-else-is_some.new.items.items method e) refl ∙ operation_put (members_view members) method.result (method_view method) is) c.add-room-else-is_some.ensures)
