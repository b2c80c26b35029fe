use Rattle.std.proofs.Common.{Ok}
use Rattle.std.proofs.lemmas.Result.{err_from_is_err_and}
use Rattle.ca_base.specs.declared.faults.Memory.{Memory}
use Rattle.ca_program.specs.View.{program_view}
use Rattle.ca_verdicts.specs.declared.verdicts.Verdict.TheVariants.{Unproved}
use Rattle.ca_verdicts.specs.Verdicts.{VerdictOf}
use Rattle.ca_verdicts.proofs.Offending.{told_verdict, not_commutes}
use Rattle.ca_verdicts.proofs.PlainPairs.{plain_verdict}
use Rattle.ca_verdicts.proofs.MovingVerdict.{moving_verdict}
use Rattle.ca_verdicts.proofs.verdict.Goals as goal

pub offence-requires : goal.offence-requires
offence-requires c = record { readers = c.in_ok-readers.ensures; first = c.requires.first; second = c.requires.second }

pub returns-in_err-readers : goal.returns-in_err-readers
returns-in_err-readers c =
    let p = err_from_is_err_and c.from_residual.result c.from_residual.ensures.1 in
    record { exact = rw p.1 tt; sound = λ q. rw p.1 tt; plain = λ q. rw p.1 tt; moving = λ q. rw p.1 tt }

pub returns-in-Some : goal.returns-in-Some
returns-in-Some c =
    let p = program_view c.args.program.now in
    let written = c.args.extent.now.written in
    let is : VerdictOf p written c.args.a c.args.b (Unproved c.in-Some.reason) = told_verdict p written c.args.a c.args.b c.in-Some.reason c.in-Some.ensures.told in
    record {
      exact = is;
      sound = λ q same. absurd (not_commutes c.in-Some.reason same);
      plain = λ q. plain_verdict {E = Memory} p written c.args.a c.args.b q (Ok (Unproved c.in-Some.reason)) is;
      moving = λ q. moving_verdict {E = Memory} p written c.args.a c.args.b q (Ok (Unproved c.in-Some.reason)) is;
    }

pub returns : goal.returns
returns c =
    let p = program_view c.args.program.now in
    let written = c.args.extent.now.written in
    let can = c.in-None.ensures.can in
    let exact = c.verdict_where_executable.ensures.exact written can in
    record {
      exact = exact;
      sound = λ q. c.verdict_where_executable.ensures.sound c.args.extent.now q can;
      plain = λ q. plain_verdict p written c.args.a c.args.b q c.verdict_where_executable.result exact;
      moving = λ q. moving_verdict p written c.args.a c.args.b q c.verdict_where_executable.result exact;
    }
