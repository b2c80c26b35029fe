use Rattle.std.proofs.Common.{List, [], sym, subst, arith}
use Rattle.ca_program.specs.Plain.{PlainProgram}
use Rattle.ca_program.specs.View.{program_view}
use Rattle.ca_model.specs.declared.value.Object.{Object}
use Rattle.ca_model.specs.Typed.{TypedHeap}
use Rattle.ca_meaning.specs.WellTyped.{WellTyped}
use Rattle.ca_meaning.specs.ProgramTyped.{ProgramTyped}
use Rattle.ca_logs.specs.declared.log.Task.{Task}
use Rattle.ca_logs.specs.Entries.{call_of}
use Rattle.ca_logs.specs.Legal.{LegalCell}
use Rattle.ca_counters.specs.Counters.{counters}
use Rattle.ca_counters.proofs.Counting.{counters_typed, starts_typed, twice_typed}
use Rattle.ca_pool_tests.proofs.histories.add_twice.Goals as goal

pub add-requires-clause-program : goal.add-requires-clause-program
add-requires-clause-program c = subst (λ (p : PlainProgram). ProgramTyped p) (sym c.requires.set.0) counters_typed

pub add-requires-clause-heap : goal.add-requires-clause-heap
add-requires-clause-heap c = subst (λ (p : PlainProgram). TypedHeap p c.args.frozen.now) (sym c.requires.set.0) (subst (λ (h : List Object). TypedHeap counters h) (sym c.requires.set.1) (starts_typed 1))

pub add-requires-clause-legal : goal.add-requires-clause-legal
add-requires-clause-legal c = subst (λ (t : Task). LegalCell (program_view c.args.program.now) c.args.frozen.now t.op.receiver c.args.log.now) (sym c.twice-task.ensures)
    (subst (λ (p : PlainProgram). LegalCell p c.args.frozen.now 0 c.args.log.now) (sym c.requires.set.0) (subst (λ (h : List Object). LegalCell counters h 0 c.args.log.now) (sym c.requires.set.1) c.requires.legal))

pub add-requires-clause-typed : goal.add-requires-clause-typed
add-requires-clause-typed c = subst (λ (t : Task). WellTyped (program_view c.args.program.now) c.args.frozen.now (call_of t)) (sym c.twice-task.ensures)
    (subst (λ (p : PlainProgram). WellTyped p c.args.frozen.now (call_of (record { op = record { receiver = 0; op = record { 0 = 1 }; args = [] }; after = 0 }))) (sym c.requires.set.0)
    (subst (λ (h : List Object). WellTyped counters h (call_of (record { op = record { receiver = 0; op = record { 0 = 1 }; args = [] }; after = 0 }))) (sym c.requires.set.1) (twice_typed 1 0 (omega arith))))

pub returns : goal.returns
returns c = subst (λ (h : List Object). LegalCell counters h 0 c.add.new.log) c.requires.set.1 (subst (λ (p : PlainProgram). LegalCell p c.args.frozen.now 0 c.add.new.log) c.requires.set.0
    (subst (λ (t : Task). LegalCell (program_view c.args.program.now) c.args.frozen.now t.op.receiver c.add.new.log) c.twice-task.ensures c.add.ensures.legal))
