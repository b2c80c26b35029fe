use Rattle.std.proofs.Common.{◌≡◌, List, length, sym, ap, ◌∙◌}
use Rattle.std.proofs.lemmas.Result.{err_from_is_err_and}
use Rattle.std.specs.Prelude.{Err}
use Rattle.ca_program.specs.View.{program_view}
use Rattle.ca_norm.specs.Terms.{PlainTerm}
use Rattle.ca_shared_terms.specs.Starts.{starts}
use Rattle.ca_symbolic.specs.Demanded.{demands_of}
use Rattle.ca_verdicts.specs.Orders.{start_of}
use Rattle.ca_verdicts.proofs.Comparing.{long_order, start_is, method_of, few_first, few_second, large_first, large_second, not_large, not_loop, again, compared_is}
use Rattle.ca_verdicts.proofs.compared.Goals as goal

pub compare_orders-requires : goal.compare_orders-requires
compare_orders-requires c = record {
  equal =
      ap length c.in_ok-first.ensures.fields ∙ (long_order (program_view c.args.program.now) c.args.a 1 c.args.b 2 (starts 0 c.fields_of-fields.result.now)
      ∙ sym (ap length c.in_ok-second.ensures.fields ∙ long_order (program_view c.args.program.now) c.args.b 2 c.args.a 1 (starts 0 c.fields_of-fields.result.now)));
}

pub returns-clause-verdict : goal.returns-clause-verdict
returns-clause-verdict c = λ written can.
    let s : List PlainTerm = starts 0 c.fields_of-fields.result.now in
    let start : s ≡ start_of (program_view c.args.program.now) c.args.a = start_is c.args.program.now c.args.a c.op.result.now c.fields_of-fields.result.now c.op.ensures c.fields_of-fields.ensures in
    compared_is (program_view c.args.program.now) written c.args.a c.args.b c.op.result.now.class c.in_ok-compare_orders.field-0 s start
    c.in_ok-first.first.state.fields c.in_ok-second.second.state.fields (demands_of c.in_ok-first.first.groups.items) (demands_of c.in_ok-second.second.groups.items)
    c.in_ok-first.ensures.fields c.in_ok-second.ensures.fields c.in_ok-first.ensures.demands c.in_ok-second.ensures.demands c.in_ok-first.ensures.light c.in_ok-second.ensures.light
    can (method_of c.args.program.now c.args.a c.op.result.now c.op.ensures) c.in_ok-compare_orders.ensures

pub returns-clause-few : goal.returns-clause-few
returns-clause-few c =
    let s : List PlainTerm = starts 0 c.fields_of-fields.result.now in
    let start : s ≡ start_of (program_view c.args.program.now) c.args.a = start_is c.args.program.now c.args.a c.op.result.now c.fields_of-fields.result.now c.op.ensures c.fields_of-fields.ensures in (
      few_first (program_view c.args.program.now) c.args.a c.args.b s (demands_of c.in_ok-first.first.groups.items) start c.in_ok-first.ensures.demands c.in_ok-first.ensures.few,
      few_second (program_view c.args.program.now) c.args.a c.args.b s (demands_of c.in_ok-second.second.groups.items) start c.in_ok-second.ensures.demands c.in_ok-second.ensures.few,
    )

pub returns-in_err-first : goal.returns-in_err-first
returns-in_err-first c =
    let s : List PlainTerm = starts 0 c.fields_of-fields.result.now in
    let start : s ≡ start_of (program_view c.args.program.now) c.args.a = start_is c.args.program.now c.args.a c.op.result.now c.fields_of-fields.result.now c.op.ensures c.fields_of-fields.ensures in
    let p = err_from_is_err_and c.from_residual.result c.from_residual.ensures.1 in
    record {
      verdict = λ written can. rw p.1 tt;
      few = rw p.1 tt;
      large = λ told. large_first (program_view c.args.program.now) c.args.a c.args.b s start (c.in_err-first.ensures.large (ap (λ e. Err e) (again c.in_err-first.field-0.0 p.0 _ _ p.2 p.1 told)));
      call_loops = λ n told. c.in_err-first.ensures.call_loops n (ap (λ e. Err e) (again c.in_err-first.field-0.0 p.0 _ _ p.2 p.1 told));
    }

pub returns-in_err-second : goal.returns-in_err-second
returns-in_err-second c =
    let s : List PlainTerm = starts 0 c.fields_of-fields.result.now in
    let start : s ≡ start_of (program_view c.args.program.now) c.args.a = start_is c.args.program.now c.args.a c.op.result.now c.fields_of-fields.result.now c.op.ensures c.fields_of-fields.ensures in
    let p = err_from_is_err_and c.from_residual-in_err-second.result c.from_residual-in_err-second.ensures.1 in
    record {
      verdict = λ written can. rw p.1 tt;
      few = rw p.1 tt;
      large = λ told. large_second (program_view c.args.program.now) c.args.a c.args.b s start (c.in_err-second.ensures.large (ap (λ e. Err e) (again c.in_err-second.field-0.0 p.0 _ _ p.2 p.1 told)));
      call_loops = λ n told. c.in_err-second.ensures.call_loops n (ap (λ e. Err e) (again c.in_err-second.field-0.0 p.0 _ _ p.2 p.1 told));
    }

pub returns-in_err-compare_orders : goal.returns-in_err-compare_orders
returns-in_err-compare_orders c =
    let p = err_from_is_err_and c.from_residual-in_err-compare_orders.result c.from_residual-in_err-compare_orders.ensures.1 in
    record {
      verdict = λ written can. rw p.1 tt;
      few = rw p.1 tt;
      large = λ told. absurd (not_large c.from_residual-in_err-compare_orders.result p.0 p.1 p.2 told);
      call_loops = λ n told. not_loop c.from_residual-in_err-compare_orders.result p.0 n p.1 p.2 told;
    }
