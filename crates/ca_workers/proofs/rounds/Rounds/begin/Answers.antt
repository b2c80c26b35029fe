use Rattle.std.proofs.Common.{List, IfOk, sym, ap, subst}
use Rattle.ca_program.specs.View.{program_view}
use Rattle.ca_model.specs.declared.value.Object.{Object}
use Rattle.ca_meaning.specs.Expressions.{Invocation}
use Rattle.ca_beside.specs.Beside.{present}
use Rattle.ca_logs.specs.Entries.{task_calls}
use Rattle.ca_workers.specs.clauses.Runs.{MayWait, Placed, with_lent}
use Rattle.ca_workers.proofs.Lent.{lent_calls, none_begin}
use Rattle.ca_workers.proofs.rounds.Rounds.begin.Goals as goal

pub go_on-requires-clause-waiting : goal.go_on-requires-clause-waiting
go_on-requires-clause-waiting g c κs within =
    let p = program_view c.args.self.now.program.now in
    let x = c.args.self.now.extent.now in
    let h = c.args.heap.now in
    let calls = lent_calls c.args.listed.now c.new-none.result.items c.new-none.ensures.items in
    subst (λ (now : List Object). MayWait p x h now (task_calls (with_lent c.args.listed.now c.new-none.result.items))) (sym (ap (present h) c.forget.ensures))
    (subst (λ (is : List Invocation). MayWait p x h h is) (sym calls) c.requires.waiting)

pub go_on-requires-clause-begins : goal.go_on-requires-clause-begins
go_on-requires-clause-begins g c κs within = none_begin c.new-none.result.items c.new-none.ensures.items

pub returns-clause-placed : goal.returns-clause-placed
returns-clause-placed g c =
    let p = program_view c.args.self.now.program.now in
    let h = c.args.heap.now in
    let calls = lent_calls c.args.listed.now c.new-none.result.items c.new-none.ensures.items in
    subst (λ (is : List Invocation). IfOk c.go_on.result (Placed p h h is c.args.left c.go_on.new.heap)) calls
    (subst (λ (now : List Object). IfOk c.go_on.result (Placed p h now (task_calls (with_lent c.args.listed.now c.new-none.result.items)) c.args.left c.go_on.new.heap)) (ap (present h) c.forget.ensures) c.go_on.ensures.placed)
