use Rattle.std.proofs.Common.{◌≡◌, [], true, sym, subst}
use Rattle.std.proofs.lemmas.Result.{err_from_is_err_and}
use Rattle.ca_program.specs.Plain.{Statement}
use Rattle.ca_program.specs.View.{program_view, statement_view}
use Rattle.ca_parallel.specs.Bodies.{targets_of}
use Rattle.ca_note_laws.specs.Listing.{puts_nothing}
use Rattle.ca_code.specs.Codes.{code_seen}
use Rattle.ca_serial.proofs.Quietness.{is_none}
use Rattle.ca_serial.proofs.Listed.{IsThat, that_loop, filled, filled_locals}
use Rattle.ca_serial.proofs.Told.{none_told, after_none}
use Rattle.ca_serial.proofs.listing.Lists.fill.Goals as goal

pub section_of_loop-requires-clause-laid : goal.section_of_loop-requires-clause-laid
section_of_loop-requires-clause-laid c = c.requires.loops.laid

pub section_of_loop-requires-clause-runs : goal.section_of_loop-requires-clause-runs
section_of_loop-requires-clause-runs c = c.requires.loops.runs

pub section_of_loop-requires-clause-there : goal.section_of_loop-requires-clause-there
section_of_loop-requires-clause-there c = (c.in-Some.ensures.stands (program_view c.args.coded.now) (code_seen c.args.laid.now.code) c.requires.loops.alone).code

pub returns-clause-listed : goal.returns-clause-listed
returns-clause-listed c = λ n line loop tys begins put.
    let p = program_view c.args.coded.now in
    let code = code_seen c.args.laid.now.code in
    let m = c.args.frames.now in
    let own = c.in-Some.own in
    let is : IsThat own line loop tys = that_loop p code m n line loop tys own begins c.in-Some.ensures.at (c.in-Some.ensures.stands p code c.requires.loops.alone) in
    let none : targets_of (statement_view own.s.now) ≡ [] = is_none (targets_of (statement_view own.s.now)) (subst (λ (x : Statement). puts_nothing x ≡ true) (sym is.loop_is) put) in
    let ls = after_none _ _ _ c.in_ok-locals.ensures c.clear.ensures.items in
    filled p c.args.heap.now m tys line loop own is _ _ _ _ _ _ c.this.ensures ls c.left.ensures c.give_back_all.ensures.none (c.in_ok-answer.ensures.answer none)

pub returns-clause-locals : goal.returns-clause-locals
returns-clause-locals c = λ n line loop tys begins put.
    let p = program_view c.args.coded.now in
    let code = code_seen c.args.laid.now.code in
    let m = c.args.frames.now in
    let own = c.in-Some.own in
    let is : IsThat own line loop tys = that_loop p code m n line loop tys own begins c.in-Some.ensures.at (c.in-Some.ensures.stands p code c.requires.loops.alone) in
    let none : targets_of (statement_view own.s.now) ≡ [] = is_none (targets_of (statement_view own.s.now)) (subst (λ (x : Statement). puts_nothing x ≡ true) (sym is.loop_is) put) in
    let ls = after_none _ _ _ c.in_ok-locals.ensures c.clear.ensures.items in
    filled_locals p c.args.heap.now m tys line loop own is _ _ _ _ c.this.ensures ls c.left.ensures (c.in_ok-answer.ensures.locals none)

pub returns-in_default : goal.returns-in_default
returns-in_default c = record { listed = λ n line loop tys begins put. tt; locals = λ n line loop tys begins put. tt }

pub returns-in_err-locals : goal.returns-in_err-locals
returns-in_err-locals c =
    let e = err_from_is_err_and c.from_residual.result c.from_residual.ensures.1 in
    record { listed = λ n line loop tys begins put. none_told _ c.from_residual.result e.0 e.1; locals = λ n line loop tys begins put. none_told _ c.from_residual.result e.0 e.1 }

pub returns-in_err-answer : goal.returns-in_err-answer
returns-in_err-answer c =
    let r = c.from_residual-in_err-answer.result in
    let e = err_from_is_err_and r c.from_residual-in_err-answer.ensures.1 in
    record { listed = λ n line loop tys begins put. none_told _ r e.0 e.1; locals = λ n line loop tys begins put. none_told _ r e.0 e.1 }
