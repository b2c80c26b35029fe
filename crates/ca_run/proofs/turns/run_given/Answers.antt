use Rattle.std.proofs.Common.{◌∷◌, refl, subst, arith}
use Rattle.ca_program.specs.View.{program_view}
use Rattle.ca_sections.specs.declared.operations.SectionAnswer.TheVariants.{Trapped, Spent}
use Rattle.ca_beside.specs.Beside.{present, Sectioned}
use Rattle.ca_run.proofs.Turning.{ran_this, stuck_one, stuck_outside}
use Rattle.ca_run.proofs.turns.run_given.Goals as goal

pub returns-then-op-len : goal.returns-then-op-len
returns-then-op-len g c =
    let others = c.args.waiting.now.items in
    stuck_outside (program_view c.args.program.now) c.args.heap.now c.args.beside.now c.args.op.now c.args.left (c.args.op.now ∷ others) others
    (record { weighed = λ f. refl }) (omega (arith, c.if-op-len.true, c.len.ensures.value))

pub returns-in-Done : goal.returns-in-Done
returns-in-Done g c =
    let p = program_view c.args.program.now in
    let frozen = c.args.heap.now in
    let h = present frozen c.args.beside.now in
    let op = c.args.op.now in
    let others = c.args.waiting.now.items in
    let after = present frozen c.run.new.self in
    let rest = c.run.new.waiting.items in
    ran_this p frozen h op c.args.left (op ∷ others) others (record { weighed = λ f. refl }) after rest c.in-Done.steps
    (subst (λ a. Sectioned p frozen h op c.args.left others after rest a) c.in-Done.is c.in_ok-steps.ensures.ran)

pub returns-in-Trapped : goal.returns-in-Trapped
returns-in-Trapped g c =
    let p = program_view c.args.program.now in
    let frozen = c.args.heap.now in
    let h = present frozen c.args.beside.now in
    let op = c.args.op.now in
    let others = c.args.waiting.now.items in
    let after = present frozen c.run.new.self in
    let rest = c.run.new.waiting.items in
    stuck_one p frozen h op c.args.left (op ∷ others) others (record { weighed = λ f. refl }) after rest (Trapped c.in-Trapped.field-0) tt
    (subst (λ a. Sectioned p frozen h op c.args.left others after rest a) c.in-Trapped.is c.in_ok-steps.ensures.ran)

pub returns-in-Spent : goal.returns-in-Spent
returns-in-Spent g c =
    let p = program_view c.args.program.now in
    let frozen = c.args.heap.now in
    let h = present frozen c.args.beside.now in
    let op = c.args.op.now in
    let others = c.args.waiting.now.items in
    let after = present frozen c.run.new.self in
    let rest = c.run.new.waiting.items in
    stuck_one p frozen h op c.args.left (op ∷ others) others (record { weighed = λ f. refl }) after rest Spent tt
    (subst (λ a. Sectioned p frozen h op c.args.left others after rest a) c.in-Spent.is c.in_ok-steps.ensures.ran)
