use Rattle.std.proofs.Common.{◌≡◌, true, false, sym, ◌∙◌}
use Rattle.ca_program.specs.View.{program_view}
use Rattle.ca_plan.specs.Pairs.{of_one_class}
use Rattle.ca_plan.proofs.Telling.{told_one, told_no_pair}
use Rattle.ca_plan.proofs.pairs.add_pair.Goals as goal

pub verdict_in-requires : goal.verdict_in-requires
verdict_in-requires c = record {
  first = c.of_one_class.ensures.first c.if-of_one_class.true;
  second = c.of_one_class.ensures.second c.if-of_one_class.true;
  offences = c.requires.offences;
  known = c.requires.known;
}

pub returns-in_ok-push : goal.returns-in_ok-push
returns-in_ok-push c =
    let t : of_one_class (program_view c.args.program.now) c.args.a c.args.b ≡ true = sym c.of_one_class.ensures.same ∙ c.if-of_one_class.true in
    record {
      told = told_one (program_view c.args.program.now) c.args.extent.now _ _ c.args.a c.args.b c.in_ok-pair.pair c.in_ok-pair.ensures.pair t c.in_ok-push.ensures.items c.in_ok-pair.ensures.told;
      known = c.in_ok-pair.ensures.known;
    }

pub returns-else-of_one_class : goal.returns-else-of_one_class
returns-else-of_one_class c =
    let t : of_one_class (program_view c.args.program.now) c.args.a c.args.b ≡ false = sym c.of_one_class.ensures.same ∙ c.if-of_one_class.false in
    record { told = told_no_pair (program_view c.args.program.now) c.args.extent.now _ c.args.a c.args.b t; known = c.requires.known }
