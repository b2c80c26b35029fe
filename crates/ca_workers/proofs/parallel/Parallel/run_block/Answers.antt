use Rattle.std.proofs.Common.{◌≡◌, ◌++◌, ◌∷◌, [], List, All, refl, sym, ap, subst}
use Rattle.ca_program.specs.View.{program_view}
use Rattle.ca_program.specs.Plain.{PlainProgram}
use Rattle.ca_program.specs.declared.program.Program.{Program}
use Rattle.ca_model.specs.declared.value.Object.{Object}
use Rattle.ca_meaning.specs.Expressions.{Invocation}
use Rattle.ca_beside.specs.Beside.{present}
use Rattle.ca_logs.specs.declared.log.Task.{Task}
use Rattle.ca_logs.specs.Entries.{task_calls}
use Rattle.ca_parallel.specs.Calls.{invocations_of}
use Rattle.ca_parallel.specs.Extents.{Extent}
use Rattle.ca_trace.specs.declared.line.Line.{Line}
use Rattle.ca_trace.specs.declared.line.Line.TheVariants.{Block, End}
use Rattle.ca_workers.specs.clauses.Runs.{IsSetting, MayWait, NoneWithin}
use Rattle.ca_workers.specs.clauses.Told.{RanTold, ToldTo}
use Rattle.ca_workers.proofs.Beginning.{own_setting, own_waits, of_same, tasks_begin, task_calls_are}
use Rattle.ca_workers.proofs.ToldOn.{block_told, carried, behind_both, line_behind, none_behind_them}
use Rattle.ca_workers.proofs.parallel.Parallel.run_block.Goals as goal

pub tell_rounds-requires-clause-setting : goal.tell_rounds-requires-clause-setting
tell_rounds-requires-clause-setting g c κs o = let r = c.requires in let h = c.args.heap.now in let n = c.new-rounds in
    of_same (λ (q : Program) (x : Extent). IsSetting (program_view q) x h) c.args.program.now c.in_ok-extent.extent n.result.program.now n.result.extent.now n.ensures.program n.ensures.extent
    (own_setting (program_view c.args.program.now) r.program h r.heap c.args.first.now r.typed r.parallel c.in_ok-extent.extent c.in_ok-extent.ensures)

pub tell_rounds-requires-clause-waiting : goal.tell_rounds-requires-clause-waiting
tell_rounds-requires-clause-waiting g c κs o =
    let r = c.requires in
    let p = program_view c.args.program.now in
    let h = c.args.heap.now in
    let n = c.new-rounds in
    let calls = task_calls c.in_ok-tasks.tasks.items in
    subst (λ (now : List Object). MayWait (program_view n.result.program.now) n.result.extent.now h now calls) (sym (ap (present h) c.forget.ensures))
    (of_same (λ (q : Program) (x : Extent). MayWait (program_view q) x h h calls) c.args.program.now c.in_ok-extent.extent n.result.program.now n.result.extent.now n.ensures.program n.ensures.extent
    (subst (λ (is : List Invocation). MayWait p c.in_ok-extent.extent h h is) (sym (task_calls_are c.args.first.now c.in_ok-tasks.tasks.items c.in_ok-tasks.ensures))
    (own_waits p r.program h r.heap c.args.first.now r.typed r.parallel c.in_ok-extent.extent c.in_ok-extent.ensures)))

pub tell_rounds-requires-clause-begins : goal.tell_rounds-requires-clause-begins
tell_rounds-requires-clause-begins g c κs o = subst (λ (ts : List Task). All (λ (t : Task). t.after ≡ 0) ts) (sym c.in_ok-tasks.ensures) (tasks_begin c.args.first.now)

pub returns-in-Some-clause-told : goal.returns-in-Some-clause-told
returns-in-Some-clause-told g c =
    let h = c.args.heap.now in
    let q = program_view c.new-rounds.result.program.now in
    let start : List Object = present h c.forget.new.self in
    let calls = task_calls c.in_ok-tasks.tasks.items in
    let last : List Object = present h c.tell_rounds.new.beside in
    let lines = c.tell_rounds.new.lines.items in
    let steps = c.in-Some.steps in
    let ran : RanTold q h start calls c.args.left c.push.new.self.items last [] lines steps = subst (λ e. ToldTo q h start calls c.args.left c.push.new.self.items last lines e) c.in-Some.is c.in_ok-ended.ensures.told in
    block_told (program_view c.args.program.now) h h (invocations_of c.args.first.now) c.args.left (c.args.lines.now.items ++ Block ∷ []) last lines steps
    (carried (λ (p : PlainProgram) (m : List Object) (is : List Invocation) (b : List Line). RanTold p h m is c.args.left b last [] lines steps) q (program_view c.args.program.now) start h calls (invocations_of c.args.first.now) c.push.new.self.items (c.args.lines.now.items ++ Block ∷ [])
    (ap program_view c.new-rounds.ensures.program) (ap (present h) c.forget.ensures) (task_calls_are c.args.first.now c.in_ok-tasks.tasks.items c.in_ok-tasks.ensures) c.in_ok-push.ensures.items ran)
    c.push-in-Some.new.self.items c.in_ok-push-in-Some.ensures.items

pub returns-clause-told : goal.returns-clause-told
returns-clause-told g c =
    let h = c.args.heap.now in
    let q = program_view c.new-rounds.result.program.now in
    let start : List Object = present h c.forget.new.self in
    let calls = task_calls c.in_ok-tasks.tasks.items in
    let before = c.push.new.self.items in
    let none : NoneWithin q h start calls c.args.left = subst (λ e. ToldTo q h start calls c.args.left before (present h c.tell_rounds.new.beside) c.tell_rounds.new.lines.items e) c.in-None.is c.in_ok-ended.ensures.told in
    carried (λ (p : PlainProgram) (m : List Object) (is : List Invocation) (b : List Line). NoneWithin p h m is c.args.left) q (program_view c.args.program.now) start h calls (invocations_of c.args.first.now) before (c.args.lines.now.items ++ Block ∷ [])
    (ap program_view c.new-rounds.ensures.program) (ap (present h) c.forget.ensures) (task_calls_are c.args.first.now c.in_ok-tasks.tasks.items c.in_ok-tasks.ensures) c.in_ok-push.ensures.items none

-- ---- the lines before stay

pub returns-in_err-extent-clause-behind : goal.returns-in_err-extent-clause-behind
returns-in_err-extent-clause-behind g c = line_behind c.args.lines.now.items c.args.lines.now.items c.push.new.self.items Block (none_behind_them c.args.lines.now.items c.args.lines.now.items refl) c.in_ok-push.ensures.items

pub returns-in_err-tasks-clause-behind : goal.returns-in_err-tasks-clause-behind
returns-in_err-tasks-clause-behind g c = line_behind c.args.lines.now.items c.args.lines.now.items c.push.new.self.items Block (none_behind_them c.args.lines.now.items c.args.lines.now.items refl) c.in_ok-push.ensures.items

pub returns-in_err-ended-clause-behind : goal.returns-in_err-ended-clause-behind
returns-in_err-ended-clause-behind g c =
    behind_both c.args.lines.now.items c.push.new.self.items c.tell_rounds.new.lines.items
    (line_behind c.args.lines.now.items c.args.lines.now.items c.push.new.self.items Block (none_behind_them c.args.lines.now.items c.args.lines.now.items refl) c.in_ok-push.ensures.items)
    c.tell_rounds.ensures.behind

pub returns-in-Some-clause-behind : goal.returns-in-Some-clause-behind
returns-in-Some-clause-behind g c =
    line_behind c.args.lines.now.items c.tell_rounds.new.lines.items c.push-in-Some.new.self.items End
    (behind_both c.args.lines.now.items c.push.new.self.items c.tell_rounds.new.lines.items
    (line_behind c.args.lines.now.items c.args.lines.now.items c.push.new.self.items Block (none_behind_them c.args.lines.now.items c.args.lines.now.items refl) c.in_ok-push.ensures.items)
    c.tell_rounds.ensures.behind)
    c.in_ok-push-in-Some.ensures.items

pub returns-clause-behind : goal.returns-clause-behind
returns-clause-behind g c =
    behind_both c.args.lines.now.items c.push.new.self.items c.tell_rounds.new.lines.items
    (line_behind c.args.lines.now.items c.args.lines.now.items c.push.new.self.items Block (none_behind_them c.args.lines.now.items c.args.lines.now.items refl) c.in_ok-push.ensures.items)
    c.tell_rounds.ensures.behind
