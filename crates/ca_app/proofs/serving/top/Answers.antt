use Rattle.std.proofs.Common.{rules}
use Rattle.ca_words.specs.Words.{texts}
use Rattle.ca_app.specs.declared.ending.Status.TheVariants.{Done, Refused, Trapped, Spent, PastLimit, GoesWrong}
use Rattle.ca_app.proofs.Answering.{headline, traced_so, says, unread_headline, usage_status, complete, traced_complete, unread_fault, usage_only, read_to_end, limit_read_to_end, schedule_read_to_end}
use Rattle.ca_app.proofs.Asked.{asks, in_range, unread_by}
use Rattle.ca_app.proofs.serving.top.Goals as goal

pub answer-requires : goal.answer-requires
answer-requires g c = (search rules, (search rules, in_range (texts c.args.words.now) c.command_of.result c.command_of.ensures.named))

pub returns-clause-headline : goal.returns-clause-headline
returns-clause-headline g c = headline (texts c.args.words.now) c.command_of.result c.command_of.ensures.named c.command_of.ensures.only c.answer.ensures.answers

pub returns-clause-traced : goal.returns-clause-traced
returns-clause-traced g c = traced_so (texts c.args.words.now) c.command_of.result c.command_of.ensures.named c.command_of.ensures.only c.answer.ensures.answers

pub returns-clause-done : goal.returns-clause-done
returns-clause-done g c = says (texts c.args.words.now) c.command_of.result c.command_of.ensures.named c.command_of.ensures.only c.answer.ensures.answers Done

pub returns-clause-refused : goal.returns-clause-refused
returns-clause-refused g c = says (texts c.args.words.now) c.command_of.result c.command_of.ensures.named c.command_of.ensures.only c.answer.ensures.answers Refused

pub returns-clause-trapped : goal.returns-clause-trapped
returns-clause-trapped g c = says (texts c.args.words.now) c.command_of.result c.command_of.ensures.named c.command_of.ensures.only c.answer.ensures.answers Trapped

pub returns-clause-spent : goal.returns-clause-spent
returns-clause-spent g c = says (texts c.args.words.now) c.command_of.result c.command_of.ensures.named c.command_of.ensures.only c.answer.ensures.answers Spent

pub returns-clause-limit : goal.returns-clause-limit
returns-clause-limit g c = says (texts c.args.words.now) c.command_of.result c.command_of.ensures.named c.command_of.ensures.only c.answer.ensures.answers PastLimit

pub returns-clause-goes_wrong : goal.returns-clause-goes_wrong
returns-clause-goes_wrong g c = says (texts c.args.words.now) c.command_of.result c.command_of.ensures.named c.command_of.ensures.only c.answer.ensures.answers GoesWrong

pub returns-clause-complete : goal.returns-clause-complete
returns-clause-complete g c = complete (texts c.args.words.now) c.command_of.result c.command_of.ensures.named c.command_of.ensures.only c.answer.ensures.answers c.answer.ensures.uses

pub returns-clause-traced_complete : goal.returns-clause-traced_complete
returns-clause-traced_complete g c = traced_complete (texts c.args.words.now) c.command_of.result c.command_of.ensures.named c.command_of.ensures.only c.answer.ensures.answers c.answer.ensures.uses

pub returns-clause-unread : goal.returns-clause-unread
returns-clause-unread g c = λ nothing. c.answer.ensures.unread (unread_by (texts c.args.words.now) c.command_of.result (asks (texts c.args.words.now) c.command_of.result c.command_of.ensures.named c.command_of.ensures.only) nothing)

pub returns-clause-unread_headline : goal.returns-clause-unread_headline
returns-clause-unread_headline g c = unread_headline (texts c.args.words.now) c.command_of.result c.command_of.ensures.named c.command_of.ensures.only c.answer.ensures.answers

pub returns-clause-unread_fault : goal.returns-clause-unread_fault
returns-clause-unread_fault g c = unread_fault (texts c.args.words.now) c.command_of.result c.command_of.ensures.named c.command_of.ensures.only c.answer.ensures.uses

pub returns-clause-usage_status : goal.returns-clause-usage_status
returns-clause-usage_status g c = usage_status (texts c.args.words.now) c.command_of.result c.command_of.ensures.named c.command_of.ensures.only c.answer.ensures.answers

pub returns-clause-usage_only : goal.returns-clause-usage_only
returns-clause-usage_only g c = usage_only (texts c.args.words.now) c.command_of.result c.command_of.ensures.named c.command_of.ensures.only c.answer.ensures.uses

pub returns-clause-read_fault : goal.returns-clause-read_fault
returns-clause-read_fault g c = λ six. (c.answer.ensures.uses.read_fault six).1

pub returns-clause-write_fault : goal.returns-clause-write_fault
returns-clause-write_fault g c = c.answer.ensures.uses.write_fault

pub returns-clause-source_later : goal.returns-clause-source_later
returns-clause-source_later g c = c.answer.ensures.uses.later

pub returns-clause-read_to_end : goal.returns-clause-read_to_end
returns-clause-read_to_end g c = read_to_end (texts c.args.words.now) c.command_of.result c.command_of.ensures.named c.command_of.ensures.only c.answer.ensures.uses

pub returns-clause-limit_read_to_end : goal.returns-clause-limit_read_to_end
returns-clause-limit_read_to_end g c = limit_read_to_end (texts c.args.words.now) c.command_of.result c.command_of.ensures.named c.command_of.ensures.only c.answer.ensures.uses

pub returns-clause-schedule_read_to_end : goal.returns-clause-schedule_read_to_end
returns-clause-schedule_read_to_end g c = schedule_read_to_end (texts c.args.words.now) c.command_of.result c.command_of.ensures.named c.command_of.ensures.only c.answer.ensures.uses
