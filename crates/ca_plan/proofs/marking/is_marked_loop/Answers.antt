use Rattle.std.proofs.Common.{◌↔◌, true, subst}
use Rattle.std.specs.Prelude.{IsTrue}
use Rattle.ca_program.specs.View.{program_view, statement_view}
use Rattle.ca_parallel.specs.Extents.{Extent}
use Rattle.ca_parallel.specs.Separable.{IsSeparated}
use Rattle.ca_plan.proofs.marking.is_marked_loop.Goals as goal

pub returns : goal.returns
returns c =
    let constant = subst (λ (x : Extent). IsTrue c.is_constant.result ↔ IsSeparated (program_view c.args.program.now) x.written true (statement_view c.args.s.now)) c.extent-2.ensures c.is_constant.ensures in
    (λ t. (c.all_commute.ensures.0 c.if-not-all_commute.false, constant.0 t), λ k. constant.1 k.1)
