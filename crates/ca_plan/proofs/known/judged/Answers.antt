use Rattle.std.proofs.Common.{sym, ap, subst}
use Rattle.ca_program.specs.View.{program_view}
use Rattle.ca_plan.specs.clauses.Keeping.{Fits}
use Rattle.ca_plan.specs.Plans.{PairVerdict, pair_of}
use Rattle.ca_plan.proofs.Knowing.{fits_where}
use Rattle.ca_plan.proofs.known.judged.Goals as goal

pub returns : goal.returns
returns c =
    let p = program_view c.args.program.now in
    record {
      pair = ap pair_of c.in_ok-pair.ensures;
      fits = subst (λ (v : PairVerdict). Fits p v) (sym c.in_ok-pair.ensures) (fits_where p c.args.a c.args.b c.in_ok-verdict.verdict c.in_ok-verdict.ensures.exact c.in_ok-verdict.ensures.sound);
    }
