use Rattle.std.proofs.Common.{drop}
use Rattle.ca_program.specs.View.{program_view}
use Rattle.ca_code.specs.Seen.{kind_seen}
use Rattle.ca_sections.proofs.Testing.{StatementsFit}
use Rattle.ca_sections.proofs.fits.Body.+statement.Given as goal

abbrev pub invariant-statements-statements : goal.invariant-statements-statements
invariant-statements-statements l =
    let p = program_view l.self.scope.program.now in
    let tys = l.self.scope.locals.now in
    StatementsFit p tys l.self.acts (kind_seen l.self.result) (drop l.s-index l.ss) → StatementsFit p tys l.self.acts (kind_seen l.self.result) l.ss
