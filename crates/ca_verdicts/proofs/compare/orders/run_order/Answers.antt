use Rattle.std.proofs.Common.{◌≡◌, ◌++◌, ◌||◌, Bool, List, ap, ap₂, sym, ◌∙◌}
use Rattle.std.proofs.lemmas.Result.{err_from_is_err_and}
use Rattle.ca_program.specs.View.{program_view}
use Rattle.ca_shared_terms.specs.Starts.{starts}
use Rattle.ca_symbolic.specs.States.{State, PlainDemand}
use Rattle.ca_symbolic.specs.Runs.{group_of, executed, demanded_by, is_heavy_by}
use Rattle.ca_verdicts.proofs.Comparing.{not_large, not_loop}
use Rattle.ca_verdicts.proofs.compare.orders.run_order.Goals as goal

pub returns-in_err-state : goal.returns-in_err-state
returns-in_err-state c =
    let p = err_from_is_err_and c.from_residual.result c.from_residual.ensures.1 in
    record {
      fields = rw p.1 tt;
      demands = rw p.1 tt;
      few = rw p.1 tt;
      light = rw p.1 tt;
      large = λ told. absurd (not_large c.from_residual.result p.0 p.1 p.2 told);
      call_loops = λ n told. not_loop c.from_residual.result p.0 n p.1 p.2 told;
    }

pub returns-in_err-groups : goal.returns-in_err-groups
returns-in_err-groups c =
    let p = err_from_is_err_and c.from_residual-in_err-groups.result c.from_residual-in_err-groups.ensures.1 in
    record {
      fields = rw p.1 tt;
      demands = rw p.1 tt;
      few = rw p.1 tt;
      light = rw p.1 tt;
      large = λ told. absurd (not_large c.from_residual-in_err-groups.result p.0 p.1 p.2 told);
      call_loops = λ n told. not_loop c.from_residual-in_err-groups.result p.0 n p.1 p.2 told;
    }

pub returns-clause-fields : goal.returns-clause-fields
returns-clause-fields c =
    let p = program_view c.args.program.now in
    let between : c.run_one.new.state.fields ≡ (executed p c.args.a (group_of c.args.one) (starts 0 c.args.fields.now)).fields =
    ap (λ (s : State). s.fields) (c.in_ok-sooner.ensures.state ∙ ap (λ (s : State). executed p c.args.a (group_of c.args.one) s.fields) c.in_ok-state.ensures) in
    ap (λ (s : State). s.fields) (c.in_ok-later.ensures.state ∙ ap (executed p c.args.b (group_of c.args.other)) between)

pub returns-clause-demands : goal.returns-clause-demands
returns-clause-demands c =
    let p = program_view c.args.program.now in
    let between : c.run_one.new.state.fields ≡ (executed p c.args.a (group_of c.args.one) (starts 0 c.args.fields.now)).fields =
    ap (λ (s : State). s.fields) (c.in_ok-sooner.ensures.state ∙ ap (λ (s : State). executed p c.args.a (group_of c.args.one) s.fields) c.in_ok-state.ensures) in
    c.in_ok-groups.ensures.list
    ∙ ap₂ (λ (ds es : List PlainDemand). ds ++ es) (c.in_ok-sooner.ensures.demands ∙ ap (λ (s : State). demanded_by p c.args.a (group_of c.args.one) s.fields) c.in_ok-state.ensures)
    (c.in_ok-later.ensures.demands ∙ ap (demanded_by p c.args.b (group_of c.args.other)) between)

pub returns-clause-light : goal.returns-clause-light
returns-clause-light c =
    let p = program_view c.args.program.now in
    let between : c.run_one.new.state.fields ≡ (executed p c.args.a (group_of c.args.one) (starts 0 c.args.fields.now)).fields =
    ap (λ (s : State). s.fields) (c.in_ok-sooner.ensures.state ∙ ap (λ (s : State). executed p c.args.a (group_of c.args.one) s.fields) c.in_ok-state.ensures) in
    ap₂ (λ (x y : Bool). x || y) (sym (ap (λ (s : State). is_heavy_by p c.args.a (group_of c.args.one) s.fields) c.in_ok-state.ensures) ∙ c.in_ok-sooner.ensures.light)
    (sym (ap (is_heavy_by p c.args.b (group_of c.args.other)) between) ∙ c.in_ok-later.ensures.light)
