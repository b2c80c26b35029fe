use Rattle.std.proofs.Common.{ℕ, List, [], Option, refl, sym, subst}
use Rattle.ca_program.specs.View.{program_view}
use Rattle.ca_model.specs.declared.value.Object.{Object}
use Rattle.ca_beside.specs.Beside.{present}
use Rattle.ca_logs.specs.Entries.{task_calls}
use Rattle.ca_run.proofs.Answering.{same_shapes}
use Rattle.ca_workers.specs.clauses.Runs.{DoneWithin, Ended, with_lent}
use Rattle.ca_workers.proofs.Behind.{still_waits}
use Rattle.ca_workers.proofs.rounds.Rounds.go_on.Goals as goal

pub store-requires : goal.store-requires
store-requires g c =
    let p = program_view c.args.self.now.program.now in
    let x = c.args.self.now.extent.now in
    let h = c.args.heap.now in
    let now : List Object = present h c.args.beside.now in
    let last : List Object = present h c.run_rounds.new.beside in
    let ws = task_calls (with_lent c.args.listed.now c.args.first.items) in
    let done = subst (λ (o : Option ℕ). Ended p h now ws c.args.left last o) c.in-Some.is c.in_ok-ended.ensures in
    let v = still_waits p x h c.requires.setting now ws c.requires.waiting last [] done.0.order c.in-Some.steps done.0.run in
    same_shapes p x h last c.requires.setting.heap v.stands

pub returns-in-Some-clause-placed : goal.returns-in-Some-clause-placed
returns-in-Some-clause-placed g c =
    let p = program_view c.args.self.now.program.now in
    let h = c.args.heap.now in
    let now : List Object = present h c.args.beside.now in
    let last : List Object = present h c.run_rounds.new.beside in
    let ws = task_calls (with_lent c.args.listed.now c.args.first.items) in
    let done = subst (λ (o : Option ℕ). Ended p h now ws c.args.left last o) c.in-Some.is c.in_ok-ended.ensures in
    subst (λ (g : List Object). DoneWithin p h now ws c.args.left g c.in-Some.steps) (sym c.store.ensures.stored) done

pub returns-in-None-clause-placed : goal.returns-in-None-clause-placed
returns-in-None-clause-placed g c =
    let p = program_view c.args.self.now.program.now in
    let h = c.args.heap.now in
    (subst (λ (o : Option ℕ). Ended p h (present h c.args.beside.now) (task_calls (with_lent c.args.listed.now c.args.first.items)) c.args.left (present h c.run_rounds.new.beside) o) c.in-None.is c.in_ok-ended.ensures, refl)
