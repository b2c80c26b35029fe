use Rattle.std.proofs.Common.{◌≡◌, ◌∙◌, refl, ap, sym, subst, [], List}
use Rattle.std.specs.Prelude.{true, false, Contains}
use Rattle.std.proofs.lemmas.Result.{err_from_is_err_and}
use Rattle.ca_program.specs.View.{program_view, statement_view}
use Rattle.ca_meaning.specs.Serial.{Note}
use Rattle.ca_parallel.specs.Lists.{either}
use Rattle.ca_note_laws.specs.Listing.{puts_nothing}
use Rattle.ca_sections.specs.declared.operations.SectionAnswer.{SectionAnswer}
use Rattle.ca_sections.specs.Answers.{LoopIs}
use Rattle.ca_serial.specs.clauses.Loops.{GoesPast, section_at, notes_of, begun_notes}
use Rattle.ca_serial.proofs.Listed.{Stopped, trapped, spent, none_yet, part_told, past_putting, past_stopped}
use Rattle.ca_serial.proofs.Told.{none_told}
use Rattle.ca_serial.proofs.listing.list_on.Goals as goal

-- into a loop that puts something
pub returns-then-not-puts_nothing : goal.returns-then-not-puts_nothing
returns-then-not-puts_nothing g c =
    let p = program_view c.args.coded.now in
    let m = c.args.frames.now in
    let h = c.args.run.now.heap in
    let loop = statement_view c.args.s.now in
    let put : puts_nothing loop ≡ false = sym c.puts_nothing.ensures ∙ c.if-not-puts_nothing.true in
    record { past = past_putting p m h c.args.count c.args.line loop c.args.types.now c.go_in.result c.go_in.new.frames c.go_in.ensures put; program = refl }

pub returns-in_err-answer : goal.returns-in_err-answer
returns-in_err-answer g c =
    let p = program_view c.args.coded.now in
    let e = err_from_is_err_and c.from_residual.result c.from_residual.ensures.1 in
    let ns = begun_notes p c.args.run.now.heap c.args.frames.now c.args.types.now c.args.line (statement_view c.args.s.now) in
    record { past = record { means = none_told _ c.from_residual.result e.0 e.1; account = part_told p _ _ c.from_residual.result e.0 ns e.1 (none_yet p _ ns) }; program = refl }

pub fill-requires : goal.fill-requires
fill-requires g c = record { loops = c.requires.loops }

pub run_listed-requires-clause-ready : goal.run_listed-requires-clause-ready
run_listed-requires-clause-ready g c = λ κs o. c.requires.ready

pub run_listed-requires-clause-program : goal.run_listed-requires-clause-program
run_listed-requires-clause-program g c = λ κs o. c.requires.program

pub run_listed-requires-clause-nothing : goal.run_listed-requires-clause-nothing
run_listed-requires-clause-nothing g c = λ κs o. sym c.puts_nothing.ensures ∙ c.if-not-puts_nothing.false

pub run_listed-requires-clause-handed : goal.run_listed-requires-clause-handed
run_listed-requires-clause-handed g c = λ κs o n at.
    let p = program_view c.args.coded.now in
    let m = c.args.frames.now in
    let h = c.args.run.now.heap in
    let loop = statement_view c.args.s.now in
    let put : puts_nothing loop ≡ true = sym c.puts_nothing.ensures ∙ c.if-not-puts_nothing.false in
    let same : begun_notes p h m c.args.types.now c.args.line loop ≡ notes_of h m.left (section_at p h m c.args.types.now c.args.line loop) =
    ap (λ b. either b (notes_of h m.left (section_at p h m c.args.types.now c.args.line loop)) []) put in
    c.requires.handed n (subst (λ l. Contains l n) (sym same) at)

pub run_listed-requires-clause-listed : goal.run_listed-requires-clause-listed
run_listed-requires-clause-listed g c = λ κs o.
    subst (λ (a : SectionAnswer). LoopIs a (section_at (program_view c.args.coded.now) c.args.run.now.heap c.args.frames.now c.args.types.now c.args.line (statement_view c.args.s.now)) [] c.fill.new.self.listed.items) c.in-Done.is (c.in_ok-answer.ensures.listed c.args.count c.args.line (statement_view c.args.s.now) c.args.types.now c.requires.begins (sym c.puts_nothing.ensures ∙ c.if-not-puts_nothing.false))

pub run_listed-requires-clause-locals : goal.run_listed-requires-clause-locals
run_listed-requires-clause-locals g c = λ κs o. c.in_ok-answer.ensures.locals c.args.count c.args.line (statement_view c.args.s.now) c.args.types.now c.requires.begins (sym c.puts_nothing.ensures ∙ c.if-not-puts_nothing.false)

pub returns-in-Done : goal.returns-in-Done
returns-in-Done g c =
    let p = program_view c.args.coded.now in
    let m = c.args.frames.now in
    let h = c.args.run.now.heap in
    let loop = statement_view c.args.s.now in
    let tys = c.args.types.now in
    let put : puts_nothing loop ≡ true = sym c.puts_nothing.ensures ∙ c.if-not-puts_nothing.false in
    let same : begun_notes p h m tys c.args.line loop ≡ notes_of h m.left (section_at p h m tys c.args.line loop) = ap (λ b. either b (notes_of h m.left (section_at p h m tys c.args.line loop)) []) put in
    record {
      past = subst (λ (ns : List Note). GoesPast g.E.Extents.Accounts p ns m h c.args.count c.args.line loop tys c.run_listed.result (g.E.Extents.account c.args.engine.now) (g.E.Extents.account c.run_listed.new.engine) c.run_listed.new.frames c.run_listed.new.run.heap) (sym same) c.run_listed.ensures.past;
      program = c.run_listed.ensures.program;
    }

pub returns-in-Trapped : goal.returns-in-Trapped
returns-in-Trapped g c =
    let p = program_view c.args.coded.now in
    let m = c.args.frames.now in
    let h = c.args.run.now.heap in
    let loop = statement_view c.args.s.now in
    let tys = c.args.types.now in
    let put : puts_nothing loop ≡ true = sym c.puts_nothing.ensures ∙ c.if-not-puts_nothing.false in
    let o = section_at p h m tys c.args.line loop in
    let stop : Stopped o = trapped o c.in-Trapped.field-0 c.in_ok-answer.answer c.fill.new.self.listed.items c.in-Trapped.is (c.in_ok-answer.ensures.listed c.args.count c.args.line loop tys c.requires.begins put) in
    record { past = past_stopped p m h c.args.count c.args.line loop tys c.go_in-in-Trapped.result c.go_in-in-Trapped.new.frames c.go_in-in-Trapped.ensures put stop; program = refl }

pub returns-in-Spent : goal.returns-in-Spent
returns-in-Spent g c =
    let p = program_view c.args.coded.now in
    let m = c.args.frames.now in
    let h = c.args.run.now.heap in
    let loop = statement_view c.args.s.now in
    let tys = c.args.types.now in
    let put : puts_nothing loop ≡ true = sym c.puts_nothing.ensures ∙ c.if-not-puts_nothing.false in
    let o = section_at p h m tys c.args.line loop in
    let stop : Stopped o = spent o c.in_ok-answer.answer c.fill.new.self.listed.items c.in-Spent.is (c.in_ok-answer.ensures.listed c.args.count c.args.line loop tys c.requires.begins put) in
    record { past = past_stopped p m h c.args.count c.args.line loop tys c.go_in-in-Spent.result c.go_in-in-Spent.new.frames c.go_in-in-Spent.ensures put stop; program = refl }
