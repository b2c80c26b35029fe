use Rattle.std.proofs.Common.{sym, subst}
use Rattle.ca_program.specs.View.{program_view}
use Rattle.ca_code.specs.declared.layout.Code.{Code}
use Rattle.ca_code.specs.Codes.{code_seen}
use Rattle.ca_code_laws.specs.Told.{IsLaidOut}
use Rattle.ca_steps.specs.declared.running.Laid.{Laid}
use Rattle.ca_selection.specs.Ops.{Runs}
use Rattle.ca_part_tests.proofs.sources.coded.Goals as goal

pub of-requires-2 : goal.of-requires-2
of-requires-2 g c =
    let p = program_view c.program-program.result.now in
    record {
      typed = c.program-program.ensures;
      laid = subst (λ (l : Laid). IsLaidOut p (code_seen l.code)) (sym c.lent-laid.ensures) (subst (λ (d : Code). IsLaidOut p (code_seen d)) (sym c.in-Ok-of.ensures.0) (record { functions = c.in-Ok.ensures.functions; ops = c.in-Ok.ensures.operations }));
      runs = subst (λ (l : Laid). Runs (code_seen l.code) l.code.rows.items l.ops.items) (sym c.lent-laid.ensures) c.in-Ok-of.ensures.1;
    }
