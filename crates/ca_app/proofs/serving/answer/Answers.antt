use Rattle.std.proofs.Common.{Some, rules, refl, true≢false}
use Rattle.ca_words.specs.declared.Command.TheVariants.{OnText, Alone, Trace, Verify}
use Rattle.ca_app.specs.clauses.Asked.{no_command, on_text, alone, traced, verified}
use Rattle.ca_app.proofs.Asked.{asked_as}
use Rattle.ca_app.proofs.Ended.{no_eight, no_six, no_two}
use Rattle.ca_app.proofs.Endings.{ends_written, usage_cause}
use Rattle.ca_app.proofs.Uses.{uses_nothing, uses_usage}
use Rattle.ca_app.proofs.serving.answer.Goals as goal

pub serve-requires : goal.serve-requires
serve-requires g c =
    let is = asked_as c.args.asked c.in-Some.command (OnText c.in-OnText.command) c.in-Some.is c.in-OnText.is in
    (search rules, (search rules, rw is at c.requires.in_range))

pub serve_unread-requires : goal.serve_unread-requires
serve_unread-requires g c =
    let is = asked_as c.args.asked c.in-Some.command (Alone c.in-Alone.command) c.in-Some.is c.in-Alone.is in
    (search rules, (search rules, rw is at c.requires.in_range))

pub trace-requires : goal.trace-requires
trace-requires g c =
    let is = asked_as c.args.asked c.in-Some.command (Trace c.in-Trace.workers c.in-Trace.budget) c.in-Some.is c.in-Trace.is in
    (search rules, (search rules, (rw is at c.requires.in_range).0))

pub returns-in-OnText-clause-answers : goal.returns-in-OnText-clause-answers
returns-in-OnText-clause-answers g c =
    let is = asked_as c.args.asked c.in-Some.command (OnText c.in-OnText.command) c.in-Some.is c.in-OnText.is in
    rw is (on_text c.serve.ensures.served)

pub returns-in-Alone-clause-answers : goal.returns-in-Alone-clause-answers
returns-in-Alone-clause-answers g c =
    let is = asked_as c.args.asked c.in-Some.command (Alone c.in-Alone.command) c.in-Some.is c.in-Alone.is in
    rw is (rw c.exit_status.ensures (alone c.serve_unread.ensures.ends))

pub returns-in-Trace-clause-answers : goal.returns-in-Trace-clause-answers
returns-in-Trace-clause-answers g c =
    let is = asked_as c.args.asked c.in-Some.command (Trace c.in-Trace.workers c.in-Trace.budget) c.in-Some.is c.in-Trace.is in
    rw is (traced c.trace.ensures.traced)

pub returns-in-Verify-clause-answers : goal.returns-in-Verify-clause-answers
returns-in-Verify-clause-answers g c =
    let is = asked_as c.args.asked c.in-Some.command (Verify c.in-Verify.budget) c.in-Some.is c.in-Verify.is in
    rw is (verified c.verify.ensures.headline)

pub returns-in-None-clause-answers : goal.returns-in-None-clause-answers
returns-in-None-clause-answers g c =
    let written = rw c.usage_line.ensures at c.write_all.ensures.bytes in
    rw c.in-None.is (no_command (ends_written _ _ _ _ _ _ written c.told_usage.ensures) (usage_cause c.write_all.result _ c.told_usage.ensures))

pub returns-in-OnText-clause-unread : goal.returns-in-OnText-clause-unread
returns-in-OnText-clause-unread g c = λ nothing.
    let is = asked_as c.args.asked c.in-Some.command (OnText c.in-OnText.command) c.in-Some.is c.in-OnText.is in
    absurd (true≢false (rw is at nothing))

pub returns-in-Trace-clause-unread : goal.returns-in-Trace-clause-unread
returns-in-Trace-clause-unread g c = λ nothing.
    let is = asked_as c.args.asked c.in-Some.command (Trace c.in-Trace.workers c.in-Trace.budget) c.in-Some.is c.in-Trace.is in
    absurd (true≢false (rw is at nothing))

pub returns-in-Verify-clause-unread : goal.returns-in-Verify-clause-unread
returns-in-Verify-clause-unread g c = λ nothing.
    let is = asked_as c.args.asked c.in-Some.command (Verify c.in-Verify.budget) c.in-Some.is c.in-Verify.is in
    absurd (true≢false (rw is at nothing))

pub returns-in-OnText-clause-uses : goal.returns-in-OnText-clause-uses
returns-in-OnText-clause-uses g c =
    let is = asked_as c.args.asked c.in-Some.command (OnText c.in-OnText.command) c.in-Some.is c.in-OnText.is in
    rw is c.serve.ensures.uses

pub returns-in-Alone-clause-uses : goal.returns-in-Alone-clause-uses
returns-in-Alone-clause-uses g c =
    let answer = c.serve_unread.result in
    let is = asked_as c.args.asked c.in-Some.command (Alone c.in-Alone.command) c.in-Some.is c.in-Alone.is in
    rw is (rw c.exit_status.ensures
    (uses_nothing (Some (Alone c.in-Alone.command)) refl refl c.serve_unread.ensures.write_fault (no_six answer) (no_eight c.serve_unread.ensures.ends) (λ two. absurd (no_two answer two))))

pub returns-in-Trace-clause-uses : goal.returns-in-Trace-clause-uses
returns-in-Trace-clause-uses g c =
    let is = asked_as c.args.asked c.in-Some.command (Trace c.in-Trace.workers c.in-Trace.budget) c.in-Some.is c.in-Trace.is in
    rw is c.trace.ensures.uses

pub returns-in-Verify-clause-uses : goal.returns-in-Verify-clause-uses
returns-in-Verify-clause-uses g c =
    let is = asked_as c.args.asked c.in-Some.command (Verify c.in-Verify.budget) c.in-Some.is c.in-Verify.is in
    rw is c.verify.ensures.uses

pub returns-in-None-clause-uses : goal.returns-in-None-clause-uses
returns-in-None-clause-uses g c = rw c.in-None.is (uses_usage c.write_all.result _ c.write_all.ensures.cause c.told_usage.ensures refl)
