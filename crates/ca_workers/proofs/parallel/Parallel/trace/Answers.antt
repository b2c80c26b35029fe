use Rattle.std.proofs.Common.{ℕ, ◌≤◌, ◌<◌, ◌^◌, ◌++◌, ◌∷◌, [], None, MatchOption, refl, subst, ◌∙◌, arith}
use Rattle.ca_model.specs.Heaps.{most_objects}
use Rattle.ca_program.specs.View.{program_view}
use Rattle.ca_parallel.specs.Calls.{invocations_of}
use Rattle.ca_beside.specs.Beside.{present}
use Rattle.ca_serial.specs.declared.extents.ExtentAnswer.TheVariants.{Declined}
use Rattle.ca_trace.specs.declared.line.Line.TheVariants.{Block}
use Rattle.ca_run.specs.Traced.{Told}
use Rattle.ca_run.proofs.Telling.{told_shapes, told_done}
use Rattle.ca_workers.specs.clauses.Runs.{NoneWithin}
use Rattle.ca_workers.proofs.Beginning.{declined}
use Rattle.ca_workers.proofs.ToldOn.{cut_again, none_told}
use Rattle.ca_workers.proofs.parallel.Parallel.trace.Goals as goal

-- so a number of 32 bits names each
few_objects : {n : ℕ} → n ≤ most_objects → n < 2 ^ 32
few_objects le = omega (arith, le)

pub store-requires : goal.store-requires
store-requires g c =
    let p = program_view c.args.program.now in
    let h = c.args.heap.now in
    let r = c.requires in
    let told = subst (λ x. MatchOption x (NoneWithin p h h (invocations_of c.args.first.now) c.args.left) (Told p h h (invocations_of c.args.first.now) c.args.left (c.args.lines.now.items ++ Block ∷ []) (present h c.run_block.new.self.beside) c.run_block.new.lines.items)) c.in-Ok-Some.field-0-is c.in-Ok-Some.ensures.told in
    told_shapes p r.program h r.heap c.args.first.now r.typed r.parallel c.args.left c.args.lines.now.items (few_objects c.len-count.ensures.few) (present h c.run_block.new.self.beside) c.run_block.new.lines.items c.in-Ok-Some.steps told

pub returns-in-Ok-Some-clause-traced : goal.returns-in-Ok-Some-clause-traced
returns-in-Ok-Some-clause-traced g c =
    let p = program_view c.args.program.now in
    let h = c.args.heap.now in
    let r = c.requires in
    let told = subst (λ x. MatchOption x (NoneWithin p h h (invocations_of c.args.first.now) c.args.left) (Told p h h (invocations_of c.args.first.now) c.args.left (c.args.lines.now.items ++ Block ∷ []) (present h c.run_block.new.self.beside) c.run_block.new.lines.items)) c.in-Ok-Some.field-0-is c.in-Ok-Some.ensures.told in
    told_done p r.program h r.heap c.args.first.now r.typed r.parallel c.args.left c.args.lines.now.items (few_objects c.len-count.ensures.few) (present h c.run_block.new.self.beside) c.run_block.new.lines.items c.in-Ok-Some.steps told c.store.new.heap c.store.ensures.stored

pub returns-in_ok-decline-in-Ok-None-clause-traced : goal.returns-in_ok-decline-in-Ok-None-clause-traced
returns-in_ok-decline-in-Ok-None-clause-traced g c =
    let p = program_view c.args.program.now in
    let h = c.args.heap.now in
    let r = c.requires in
    let first = c.args.first.now in
    let none = subst (λ x. MatchOption x (NoneWithin p h h (invocations_of c.args.first.now) c.args.left) (Told p h h (invocations_of c.args.first.now) c.args.left (c.args.lines.now.items ++ Block ∷ []) (present h c.run_block.new.self.beside) c.run_block.new.lines.items)) c.in-Ok-None.field-0-is c.in-Ok-None.ensures.told in
    none_told p r.program h r.heap first r.typed r.parallel c.args.left (few_objects c.len-count.ensures.few)
    (declined p r.program h r.heap first r.typed r.parallel c.args.left h None Declined refl (none, refl) refl)
    c.args.lines.now.items c.run_block.new.lines.items c.decline.new.lines.items c.len-start.result c.run_block.ensures.behind (c.len-start.ensures ∙ c.args.lines.now.ok.0) c.in_ok-decline-in-Ok-None.ensures.declined

pub returns-in-Err-clause-lines_kept : goal.returns-in-Err-clause-lines_kept
returns-in-Err-clause-lines_kept g c = c.truncate.ensures.items ∙ cut_again c.args.lines.now.items c.run_block.new.lines.items c.len-start.result c.run_block.ensures.behind (c.len-start.ensures ∙ c.args.lines.now.ok.0)
