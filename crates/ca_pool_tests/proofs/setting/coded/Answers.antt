use Rattle.std.proofs.Common.{sym, ap, ◌∙◌, subst}
use Rattle.ca_program.specs.Plain.{PlainProgram}
use Rattle.ca_program.specs.View.{program_view}
use Rattle.ca_meaning.specs.ProgramTyped.{ProgramTyped}
use Rattle.ca_counters.proofs.Counting.{counters_typed}
use Rattle.ca_code.specs.declared.layout.Code.{Code}
use Rattle.ca_code.specs.Codes.{code_seen}
use Rattle.ca_code_laws.specs.Told.{IsLaidOut}
use Rattle.ca_steps.specs.declared.running.Laid.{Laid}
use Rattle.ca_selection.specs.Ops.{Runs}
use Rattle.ca_pool_tests.proofs.setting.coded.Goals as goal

pub of-requires-2 : goal.of-requires-2
of-requires-2 g c =
    let p = program_view c.lent-program.result.now in
    record {
      typed = subst (λ (q : PlainProgram). ProgramTyped q) (sym (ap program_view c.lent-program.ensures ∙ c.in-Ok.ensures)) counters_typed;
      laid = subst (λ (l : Laid). IsLaidOut p (code_seen l.code)) (sym c.lent-laid.ensures) (subst (λ (d : Code). IsLaidOut p (code_seen d)) (sym c.in-Ok-of.ensures.0) (record { functions = c.in-Ok-lay_out_with.ensures.functions; ops = c.in-Ok-lay_out_with.ensures.operations }));
      runs = subst (λ (l : Laid). Runs (code_seen l.code) l.code.rows.items l.ops.items) (sym c.lent-laid.ensures) c.in-Ok-of.ensures.1;
    }

pub returns : goal.returns
returns g c = ap program_view (c.lent.ensures ∙ (c.in-Ok-of-2.ensures ∙ c.lent-program.ensures)) ∙ c.in-Ok.ensures
