use Rattle.std.proofs.Common.{ℕ, ◌≤◌, ◌<◌, ◌^◌, ◌++◌, ◌∷◌, [], MatchOption, subst, ◌∙◌, arith}
use Rattle.ca_model.specs.Heaps.{most_objects}
use Rattle.ca_program.specs.View.{program_view}
use Rattle.ca_parallel.specs.Calls.{invocations_of}
use Rattle.ca_beside.specs.Beside.{present}
use Rattle.ca_run.specs.Turns.{StuckBehind}
use Rattle.ca_trace.specs.declared.line.Line.TheVariants.{Block}
use Rattle.ca_run.specs.Traced.{Told}
use Rattle.ca_run.proofs.Telling.{told_shapes, told_done, told_declined}
use Rattle.ca_run.proofs.tracing.OneTracer.trace.Goals as goal

-- so a number of 32 bits names each
few_objects : {n : ℕ} → n ≤ most_objects → n < 2 ^ 32
few_objects le = omega (arith, le)

pub store-requires : goal.store-requires
store-requires g c =
    let p = program_view c.args.program.now in
    let h = c.args.heap.now in
    let r = c.requires in
    let told = subst (λ x. MatchOption x (StuckBehind p h h (invocations_of c.args.first.now) c.args.left) (Told p h h (invocations_of c.args.first.now) c.args.left (c.args.lines.now.items ++ Block ∷ []) (present h c.run_block.new.self.beside) c.run_block.new.lines.items)) c.in-Ok-Some.field-0-is c.in-Ok-Some.ensures.told in
    told_shapes p r.program h r.heap c.args.first.now r.typed r.parallel c.args.left c.args.lines.now.items (few_objects c.len-count.ensures.few) (present h c.run_block.new.self.beside) c.run_block.new.lines.items c.in-Ok-Some.steps told

pub returns-in-Ok-Some-clause-traced : goal.returns-in-Ok-Some-clause-traced
returns-in-Ok-Some-clause-traced g c =
    let p = program_view c.args.program.now in
    let h = c.args.heap.now in
    let r = c.requires in
    let told = subst (λ x. MatchOption x (StuckBehind p h h (invocations_of c.args.first.now) c.args.left) (Told p h h (invocations_of c.args.first.now) c.args.left (c.args.lines.now.items ++ Block ∷ []) (present h c.run_block.new.self.beside) c.run_block.new.lines.items)) c.in-Ok-Some.field-0-is c.in-Ok-Some.ensures.told in
    told_done p r.program h r.heap c.args.first.now r.typed r.parallel c.args.left c.args.lines.now.items (few_objects c.len-count.ensures.few) (present h c.run_block.new.self.beside) c.run_block.new.lines.items c.in-Ok-Some.steps told c.store.new.heap c.store.ensures.stored

pub returns-in_ok-push-in-Ok-None-clause-traced : goal.returns-in_ok-push-in-Ok-None-clause-traced
returns-in_ok-push-in-Ok-None-clause-traced g c =
    let p = program_view c.args.program.now in
    let h = c.args.heap.now in
    let r = c.requires in
    let stuck = subst (λ x. MatchOption x (StuckBehind p h h (invocations_of c.args.first.now) c.args.left) (Told p h h (invocations_of c.args.first.now) c.args.left (c.args.lines.now.items ++ Block ∷ []) (present h c.run_block.new.self.beside) c.run_block.new.lines.items)) c.in-Ok-None.field-0-is c.in-Ok-None.ensures.told in
    told_declined p r.program h r.heap c.args.first.now r.typed r.parallel c.args.left c.args.lines.now.items (few_objects c.len-count.ensures.few) stuck c.run_block.new.lines.items c.truncate.new.self.items c.push.new.self.items c.len-start.result c.run_block.ensures.behind (c.len-start.ensures ∙ c.args.lines.now.ok.0) c.truncate.ensures.items c.in_ok-push-in-Ok-None.ensures.items
