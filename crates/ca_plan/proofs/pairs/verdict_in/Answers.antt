use Rattle.std.proofs.Common.{sym, ap, subst}
use Rattle.ca_program.specs.View.{program_view}
use Rattle.ca_plan.specs.Plans.{PairVerdict, pair_of}
use Rattle.ca_plan.specs.Told.{PairTold}
use Rattle.ca_plan.proofs.Knowing.{told_offence, told_there}
use Rattle.ca_plan.proofs.pairs.verdict_in.Goals as goal

pub first-requires : goal.first-requires
first-requires c = record { offences = c.requires.offences; first = c.requires.first; second = c.requires.second }

pub returns-in_ok-pair-in-Some : goal.returns-in_ok-pair-in-Some
returns-in_ok-pair-in-Some c =
    let p = program_view c.args.program.now in
    record {
      pair = ap pair_of c.in_ok-pair-in-Some.ensures;
      told = subst (λ (v : PairVerdict). PairTold p c.args.extent.now v) (sym c.in_ok-pair-in-Some.ensures) (told_offence p c.args.extent.now c.args.a c.args.b c.in-Some.reason c.in-Some.ensures.told);
      known = c.requires.known;
    }

pub returns-in-None : goal.returns-in-None
returns-in-None c = record {
  pair = c.verdict.ensures.pair;
  told = told_there (program_view c.args.program.now) c.args.extent.now c.args.a c.args.b c.verdict.result c.in-None.ensures.can c.verdict.ensures.pair c.verdict.ensures.fits;
  known = c.verdict.ensures.known;
}
