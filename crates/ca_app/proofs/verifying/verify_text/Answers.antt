use Rattle.std.proofs.Common.{arith, rules, ap, ◌∷◌, length, length-append}
use Rattle.ca_app.proofs.Scheduled.{ends_unscheduled, ends_scheduled}
use Rattle.ca_app.proofs.verifying.verify_text.Goals as goal

pub returns-in-Some-clause-ends : goal.returns-in-Some-clause-ends
returns-in-Some-clause-ends g c = ends_scheduled c.args.budget c.args.text.now c.requires.short c.in-Some.source.now c.in-Some.schedule.now c.in-Some.ensures c.verify_pair.ensures.ends

pub returns-in-None-clause-ends : goal.returns-in-None-clause-ends
returns-in-None-clause-ends g c = ends_unscheduled c.args.budget c.args.text.now c.requires.short c.in-None.ensures c.refuse.ensures.ends

pub verify_pair-requires : goal.verify_pair-requires
verify_pair-requires g c =
    let whole = ap length c.in-Some.ensures.whole in
    let sum = length-append c.in-Some.source.now (10 ∷ c.in-Some.schedule.now) in
    (search rules, (c.in-Some.ensures.header, omega (arith, whole, sum, c.requires.short)))
