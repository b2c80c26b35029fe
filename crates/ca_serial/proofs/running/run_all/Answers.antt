use Rattle.std.proofs.Common.{◌∙◌, ◌-◌, refl, ap, sym, subst, arith}
use Rattle.ca_program.specs.declared.program.Program.{Program}
use Rattle.ca_program.specs.View.{program_view}
use Rattle.ca_code.specs.Codes.{code_seen}
use Rattle.ca_code_laws.specs.Told.{IsLaidOut}
use Rattle.ca_sections.specs.Extending.{AllStand}
use Rattle.ca_serial.proofs.Arriving.{at_print, print_part, at_call, at_loop, at_trap, at_spent, at_end, call_good, call_part, call_over, call_spent, loop_good, loop_part, loop_over}
use Rattle.ca_serial.proofs.Driving.{gives_up, gives_up_by, ends_told}
use Rattle.ca_serial.proofs.Endings.{rose_later}
use Rattle.ca_serial.proofs.Going.{begins, part_handed}
use Rattle.ca_serial.proofs.running.run_all.Goals as goal

pub loop-init : goal.loop-init
loop-init g c = (begins c.args.frames.now c.args.run.now.heap c.requires.begins, omega arith, refl)

pub returns-in-Fails : goal.returns-in-Fails
returns-in-Fails g c =
    let i = c.loop.invariant in
    let r = c.requires in
    gives_up i.1 r.program r.sound r.made.run i.0

pub returns-in-Memory : goal.returns-in-Memory
returns-in-Memory g c =
    let i = c.loop.invariant in
    let r = c.requires in
    gives_up i.1 r.program r.sound r.made.run i.0

pub returns-in-Traps : goal.returns-in-Traps
returns-in-Traps g c =
    let i = c.loop.invariant in
    let r = c.requires in
    let a = rw (i.2, c.in-Traps.is) at c.go_on.ensures.event in
    ends_told i.1 (at_trap i.0 r.program r.sound r.made.run a)

pub returns-in-Spends : goal.returns-in-Spends
returns-in-Spends g c =
    let i = c.loop.invariant in
    let r = c.requires in
    let a = rw (i.2, c.in-Spends.is) at c.go_on.ensures.event in
    ends_told i.1 (at_spent i.0 r.program r.sound r.made.run a)

pub returns-in-Ends : goal.returns-in-Ends
returns-in-Ends g c =
    let i = c.loop.invariant in
    let r = c.requires in
    let a = rw (i.2, c.in-Ends.is) at c.go_on.ensures.event in
    ends_told i.1 (at_end i.0 r.program r.sound r.made.run a c.replace.result c.saturating_sub.result c.replace.ensures.value (c.saturating_sub.ensures ∙ ap (λ k. c.args.budget - k) c.left.ensures))

-- ---- prints

pub returns-in-Err : goal.returns-in-Err
returns-in-Err g c =
    let i = c.loop.invariant in
    let r = c.requires in
    let a = rw (i.2, c.in-Prints.is) at c.go_on.ensures.event in
    record {
      outcome = tt;
      prints = record { whole = tt; part = print_part i.0 r.program r.sound r.made.run a _ c.in-Err.ensures.bytes.part };
      write = rose_later _ _ _ i.1 c.in-Err.ensures.cause.failed;
      later = omega (arith, i.1, c.in-Err.ensures.cause.later);
      account = record { all = tt; part = part_handed r.program r.sound r.made.run i.0 };
    }

pub loop-preserved-in_default : goal.loop-preserved-in_default
loop-preserved-in_default g c =
    let i = c.loop.invariant in
    let a = rw (i.2, c.in-Prints.is) at c.go_on.ensures.event in
    (at_print i.0 a _ c.in_default.ensures.bytes.whole, omega (arith, i.1, c.in_default.ensures.cause.later), c.go_on.ensures.program ∙ i.2)

-- ---- calls

pub hand_on-requires-clause-ready : goal.hand_on-requires-clause-ready
hand_on-requires-clause-ready g c = λ κs o. c.requires.ready

pub hand_on-requires-clause-program : goal.hand_on-requires-clause-program
hand_on-requires-clause-program g c = λ κs o. rw c.requires.coded c.requires.program

pub hand_on-requires-clause-due : goal.hand_on-requires-clause-due
hand_on-requires-clause-due g c = λ κs o.
    let i = c.loop.invariant in
    let r = c.requires in
    let a = rw (i.2, c.in-Hands.is) at c.go_on.ensures.event in
    (at_call i.0 r.program r.sound r.made.run a).due

pub hand_on-requires-clause-good : goal.hand_on-requires-clause-good
hand_on-requires-clause-good g c = λ κs o.
    let i = c.loop.invariant in
    let r = c.requires in
    let a = rw (i.2, c.in-Hands.is) at c.go_on.ensures.event in
    rw r.coded (call_good (at_call i.0 r.program r.sound r.made.run a) r.good).0

pub hand_on-requires-clause-serves : goal.hand_on-requires-clause-serves
hand_on-requires-clause-serves g c = λ κs o.
    let i = c.loop.invariant in
    let r = c.requires in
    let a = rw (i.2, c.in-Hands.is) at c.go_on.ensures.event in
    (call_good (at_call i.0 r.program r.sound r.made.run a) r.good).1

pub returns-in_default-hand_on : goal.returns-in_default-hand_on
returns-in_default-hand_on g c =
    let i = c.loop.invariant in
    let r = c.requires in
    let a = rw (i.2, c.in-Hands.is) at c.go_on.ensures.event in
    let x = at_call i.0 r.program r.sound r.made.run a in
    let kept = rw r.coded at c.in_default-hand_on.ensures.account_kept in
    gives_up_by i.1 r.program r.sound r.made.run i.0 (call_part x r.program r.sound r.made.run _ kept)

pub returns-then-not-goes : goal.returns-then-not-goes
returns-then-not-goes g c =
    let i = c.loop.invariant in
    let r = c.requires in
    let a = rw (i.2, c.in-Hands.is) at c.go_on.ensures.event in
    let x = at_call i.0 r.program r.sound r.made.run a in
    let step = rw r.coded at c.in-Ok.ensures.account in
    ends_told i.1 (call_spent x (ap program_view r.coded) c.hand_on.new.frames c.hand_on.new.run.heap _ step r.program r.sound r.made.run c.if-not-goes.true c.in-Ok.ensures.means)

pub loop-preserved-else-not-goes : goal.loop-preserved-else-not-goes
loop-preserved-else-not-goes g c =
    let i = c.loop.invariant in
    let r = c.requires in
    let a = rw (i.2, c.in-Hands.is) at c.go_on.ensures.event in
    let x = at_call i.0 r.program r.sound r.made.run a in
    let step = rw r.coded at c.in-Ok.ensures.account in
    (call_over x (ap program_view r.coded) c.hand_on.new.frames c.hand_on.new.run.heap _ step c.if-not-goes.false c.in-Ok.ensures.means, i.1, c.in-Ok.ensures.program ∙ (c.go_on.ensures.program ∙ i.2))

-- ---- loops

-- one that the engine lets go of is where it was
pub loop-preserved-then-lets_go : goal.loop-preserved-then-lets_go
loop-preserved-then-lets_go g c =
    let i = c.loop.invariant in
    let r = c.requires in
    let a = rw (i.2, c.in-Begins.is) at c.go_on.ensures.event in
    let x = at_loop i.0 r.program r.sound r.made.run a in
    rw c.lets_go.ensures.account (x.next, i.1, c.go_on.ensures.program ∙ i.2)

pub list_on-requires-clause-ready : goal.list_on-requires-clause-ready
list_on-requires-clause-ready g c = λ κs o. c.requires.ready

pub list_on-requires-clause-program : goal.list_on-requires-clause-program
list_on-requires-clause-program g c = λ κs o. rw c.requires.coded c.requires.program

pub list_on-requires-clause-loops : goal.list_on-requires-clause-loops
list_on-requires-clause-loops g c = λ κs o.
    let code = code_seen c.args.laid.now.code in
    record {
      laid = subst (λ (q : Program). IsLaidOut (program_view q) code) (sym c.requires.coded) c.requires.made.run.laid;
      runs = c.requires.made.ops;
      alone = subst (λ (q : Program). AllStand (program_view q) code c.args.places.now) (sym c.requires.coded) c.requires.made.loops;
    }

pub list_on-requires-clause-begins : goal.list_on-requires-clause-begins
list_on-requires-clause-begins g c = λ κs o.
    let i = c.loop.invariant in
    let r = c.requires in
    let a = rw (i.2, c.in-Begins.is) at c.go_on.ensures.event in
    (at_loop i.0 r.program r.sound r.made.run a).begun

pub list_on-requires-clause-handed : goal.list_on-requires-clause-handed
list_on-requires-clause-handed g c =
    let i = c.loop.invariant in
    let r = c.requires in
    let a = rw (i.2, c.in-Begins.is) at c.go_on.ensures.event in
    let x = at_loop i.0 r.program r.sound r.made.run a in
    rw r.coded (λ κs o n at. loop_good x r.good n at)

pub returns-in-Err-list_on : goal.returns-in-Err-list_on
returns-in-Err-list_on g c =
    let i = c.loop.invariant in
    let r = c.requires in
    let a = rw (i.2, c.in-Begins.is) at c.go_on.ensures.event in
    let x = at_loop i.0 r.program r.sound r.made.run a in
    let past = rw (r.coded, c.lets_go.ensures.account) at c.in-Err-list_on.ensures.past in
    gives_up_by i.1 r.program r.sound r.made.run i.0 (loop_part x r.program r.sound r.made.run _ past.account.part)

pub loop-preserved : goal.loop-preserved
loop-preserved g c =
    let i = c.loop.invariant in
    let r = c.requires in
    let a = rw (i.2, c.in-Begins.is) at c.go_on.ensures.event in
    let x = at_loop i.0 r.program r.sound r.made.run a in
    let past = rw (r.coded, c.lets_go.ensures.account) at c.in_default-list_on.ensures.past in
    (loop_over x c.list_on.new.frames c.list_on.new.run.heap _ past.means past.account.all, i.1, c.in_default-list_on.ensures.program ∙ (c.go_on.ensures.program ∙ i.2))
