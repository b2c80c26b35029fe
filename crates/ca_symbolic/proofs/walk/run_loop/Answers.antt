use Rattle.std.proofs.Common.{[], ◌∷◌, sym, ap, ◌∙◌}
use Rattle.std.specs.List.{list_any}
use Rattle.ca_program.specs.View.{program_view, statement_view}
use Rattle.ca_sweep.specs.Seen.{sweep_view}
use Rattle.ca_shared_terms.specs.Heavy.{is_heavy}
use Rattle.ca_symbolic.specs.States.{demand, loops}
use Rattle.ca_symbolic.specs.Execution.{after_loop}
use Rattle.ca_symbolic.specs.Demands.{picked, demanded_loop}
use Rattle.ca_symbolic.specs.Demanded.{with_demands}
use Rattle.ca_symbolic.specs.clauses.Refusals.{refused_loop}
use Rattle.ca_symbolic.proofs.Flags.{always}
use Rattle.ca_forms.proofs.Told.{on_ok}
use Rattle.ca_symbolic.proofs.Sweeping.{sums_demand_nothing}
use Rattle.ca_symbolic.proofs.walk.run_loop.Goals as goal

pub sweep-requires : goal.sweep-requires
sweep-requires c =
    record { sums = sums_demand_nothing (program_view c.args.program.now) (statement_view c.args.s.now) (sweep_view c.in-Some.w) c.in-Some.ensures.some }

pub returns-in-Some : goal.returns-in-Some
returns-in-Some c =
    let a = c.args in
    let p = program_view a.program.now in
    let x = statement_view a.s.now in
    let is = c.in-Some.ensures.some in
    let r = c.sweep in
    record {
      after = on_ok r.result _ _ (λ e. e ∙ sym (ap (after_loop p a.state.now) is)) r.ensures.after;
      demands = on_ok r.result _ _ (λ e. e ∙ sym (ap (λ o. with_demands a.out.now (demanded_loop p a.state.now a.out.now.guard a.site x o)) is)) r.ensures.demands;
      light = on_ok r.result _ _ (λ e. ap (refused_loop p a.state.now a.out.now.guard x) is ∙ e) r.ensures.light;
      large = λ told. ap (refused_loop p a.state.now a.out.now.guard x) is ∙ r.ensures.large told;
    }

pub returns-in-None : goal.returns-in-None
returns-in-None c =
    let a = c.args in
    let p = program_view a.program.now in
    let x = statement_view a.s.now in
    let is = c.in-None.ensures.none in
    let r = c.ask_loop in
    let reads = c.requires.reads in
    record {
      after = always r.result _ (sym (ap (after_loop p a.state.now) is));
      demands = on_ok r.result _ _ (λ e. e ∙ (ap (λ f. with_demands a.out.now (demand a.out.now.guard (loops a.site) (picked f 0 a.state.now.locals) ∷ [])) (sym reads) ∙ sym (ap (λ o. with_demands a.out.now (demanded_loop p a.state.now a.out.now.guard a.site x o)) is))) r.ensures.demands;
      light = on_ok r.result _ _ (λ e. ap (refused_loop p a.state.now a.out.now.guard x) is ∙ (ap (λ f. list_any is_heavy (picked f 0 a.state.now.locals)) reads ∙ e)) r.ensures.light;
      large = λ told. absurd (r.ensures.small told);
    }
