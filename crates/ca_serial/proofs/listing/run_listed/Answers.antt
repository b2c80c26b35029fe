use Rattle.std.proofs.Common.{◌≡◌, ◌∙◌, ◌-◌, refl, ap, sym, subst}
use Rattle.std.proofs.lemmas.Result.{err_from_is_err_and}
use Rattle.ca_program.specs.View.{program_view, statement_view}
use Rattle.ca_parallel.specs.Accounts.{ReachedPart}
use Rattle.ca_parallel.specs.Calls.{invocations_of}
use Rattle.ca_parallel.specs.Lists.{note}
use Rattle.ca_parallel.specs.Notes.{NoteGood}
use Rattle.ca_serial.specs.clauses.Loops.{section_at, notes_of}
use Rattle.ca_serial.proofs.Listed.{IsDone, is_done, done_locals, noted_in, account_of, given_of, none_yet, whole_part, handed_all, part_told, so_told, asked_of, listed_passes, declined_enters}
use Rattle.ca_serial.proofs.Told.{none_told}
use Rattle.ca_serial.proofs.listing.run_listed.Goals as goal

pub ask-requires-clause-ready : goal.ask-requires-clause-ready
ask-requires-clause-ready g c = λ κs o. c.requires.ready

pub ask-requires-clause-program : goal.ask-requires-clause-program
ask-requires-clause-program g c = λ κs o. c.requires.program

pub ask-requires-clause-good : goal.ask-requires-clause-good
ask-requires-clause-good g c = λ κs o.
    let p = program_view c.args.coded.now in
    let m = c.args.frames.now in
    let h = c.args.run.now.heap in
    let o = section_at p h m c.args.types.now c.args.line (statement_view c.args.s.now) in
    let ops = c.args.lists.now.listed.items in
    let d : IsDone o c.args.taken (invocations_of ops) = is_done o c.args.taken ops c.requires.listed in
    asked_of (λ l k. NoteGood p (note h l k)) c.as_slice-listed.result.now ops c.saturating_sub-rest.result m.left c.args.taken c.as_slice-listed.ensures.value (c.saturating_sub-rest.ensures ∙ ap (λ k. k - c.args.taken) c.left.ensures)
    (c.requires.handed (note h (invocations_of ops) (m.left - c.args.taken)) (noted_in h m.left o c.args.taken (invocations_of ops) d)).0

pub ask-requires-clause-serves : goal.ask-requires-clause-serves
ask-requires-clause-serves g c = λ κs o.
    let p = program_view c.args.coded.now in
    let m = c.args.frames.now in
    let h = c.args.run.now.heap in
    let o = section_at p h m c.args.types.now c.args.line (statement_view c.args.s.now) in
    let ops = c.args.lists.now.listed.items in
    let d : IsDone o c.args.taken (invocations_of ops) = is_done o c.args.taken ops c.requires.listed in
    (c.requires.handed (note h (invocations_of ops) (m.left - c.args.taken)) (noted_in h m.left o c.args.taken (invocations_of ops) d)).1

pub returns-in_err-answer : goal.returns-in_err-answer
returns-in_err-answer g c =
    let p = program_view c.args.coded.now in
    let e = err_from_is_err_and c.from_residual.result c.from_residual.ensures.1 in
    let ns = notes_of c.args.run.now.heap c.args.frames.now.left (section_at p c.args.run.now.heap c.args.frames.now c.args.types.now c.args.line (statement_view c.args.s.now)) in
    let kept = subst (λ b. ReachedPart g.E.Extents.Accounts p (g.E.Extents.account c.args.engine.now) ns b) (sym c.in_err-answer.ensures.account_kept) (none_yet p _ ns) in
    record { past = record { means = none_told _ c.from_residual.result e.0 e.1; account = part_told p _ _ c.from_residual.result e.0 ns e.1 kept }; program = refl }

pub returns-in_err-put_locals-in-Some : goal.returns-in_err-put_locals-in-Some
returns-in_err-put_locals-in-Some g c =
    let p = program_view c.args.coded.now in
    let m = c.args.frames.now in
    let h = c.args.run.now.heap in
    let o = section_at p h m c.args.types.now c.args.line (statement_view c.args.s.now) in
    let ops = c.args.lists.now.listed.items in
    let d : IsDone o c.args.taken (invocations_of ops) = is_done o c.args.taken ops c.requires.listed in
    let rest : c.saturating_sub-rest.result ≡ m.left - c.args.taken = c.saturating_sub-rest.ensures ∙ ap (λ k. k - c.args.taken) c.left.ensures in
    let reached = account_of m.left c.args.taken c.as_slice-listed.ensures.value rest g.E.Extents.Accounts p h o d c.in_ok-answer.ensures.account in
    let r = c.from_residual-in_err-put_locals-in-Some.result in
    let e = err_from_is_err_and r c.from_residual-in_err-put_locals-in-Some.ensures.1 in
    record { past = record { means = none_told _ r e.0 e.1; account = part_told p _ _ r e.0 (notes_of h m.left o) e.1 (whole_part p _ _ (notes_of h m.left o) reached) }; program = refl }

pub returns-in_ok-put_locals-in-Some : goal.returns-in_ok-put_locals-in-Some
returns-in_ok-put_locals-in-Some g c =
    let p = program_view c.args.coded.now in
    let m = c.args.frames.now in
    let h = c.args.run.now.heap in
    let loop = statement_view c.args.s.now in
    let tys = c.args.types.now in
    let o = section_at p h m tys c.args.line loop in
    let ops = c.args.lists.now.listed.items in
    let d : IsDone o c.args.taken (invocations_of ops) = is_done o c.args.taken ops c.requires.listed in
    let rest : c.saturating_sub-rest.result ≡ m.left - c.args.taken = c.saturating_sub-rest.ensures ∙ ap (λ k. k - c.args.taken) c.left.ensures in
    let items = c.as_slice-listed.ensures.value in
    let reached = account_of m.left c.args.taken items rest g.E.Extents.Accounts p h o d c.in_ok-answer.ensures.account in
    let given = given_of m.left c.args.taken items rest p h c.ask.new.heap c.in-Some.is c.in_ok-answer.ensures.given in
    let locals = rw (c.as_slice.ensures.value ∙ c.requires.locals ∙ done_locals o c.args.taken (invocations_of ops) d _) at c.in_ok-put_locals-in-Some.ensures in
    record {
      past = record {
        means = so_told c.jump.result _ _ c.jump.ensures (λ is c2 w into chose b. listed_passes p c2 m c.args.count c.args.line loop tys b h w into c.requires.nothing c.args.taken (invocations_of ops) d chose c.ask.new.heap c.in-Some.left c.put_locals.new.self c.jump.new.self (given w) locals is);
        account = handed_all p _ _ c.jump.result (notes_of h m.left o) reached;
      };
      program = refl;
    }

pub returns-in-None : goal.returns-in-None
returns-in-None g c =
    let p = program_view c.args.coded.now in
    let m = c.args.frames.now in
    let h = c.args.run.now.heap in
    let loop = statement_view c.args.s.now in
    let tys = c.args.types.now in
    let o = section_at p h m tys c.args.line loop in
    let ops = c.args.lists.now.listed.items in
    let d : IsDone o c.args.taken (invocations_of ops) = is_done o c.args.taken ops c.requires.listed in
    let rest : c.saturating_sub-rest.result ≡ m.left - c.args.taken = c.saturating_sub-rest.ensures ∙ ap (λ k. k - c.args.taken) c.left.ensures in
    let items = c.as_slice-listed.ensures.value in
    let reached = account_of m.left c.args.taken items rest g.E.Extents.Accounts p h o d c.in_ok-answer.ensures.account in
    let given = given_of m.left c.args.taken items rest p h c.ask.new.heap c.in-None.is c.in_ok-answer.ensures.given in
    record {
      past = record {
        means = so_told c.go_in.result _ _ c.go_in.ensures (λ is c2 w into chose b. declined_enters p c2 m c.args.count c.args.line loop tys b h w into c.requires.nothing c.args.taken (invocations_of ops) d chose c.ask.new.heap c.go_in.new.frames (given w) is);
        account = handed_all p _ _ c.go_in.result (notes_of h m.left o) reached;
      };
      program = refl;
    }
