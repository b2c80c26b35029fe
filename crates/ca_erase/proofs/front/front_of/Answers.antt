use Rattle.std.proofs.Common.{sym, ◌∙◌}
use Rattle.ca_erase.proofs.Steps.{byte_step, comment_step}
use Rattle.ca_erase.proofs.front.front_of.Goals as goal

pub returns-in-None : goal.returns-in-None
returns-in-None c = byte_step c.args.text.now c.requires (sym c.comment_len.ensures.length ∙ c.in-None.is)

pub returns-else-opens_mark : goal.returns-else-opens_mark
returns-else-opens_mark c =
    let within = c.in-Some.ensures.within in
    comment_step c.args.text.now c.in-Some.len (sym c.comment_len.ensures.length ∙ c.in-Some.is) (sym c.opens_mark.ensures ∙ c.if-opens_mark.false) within.0 within.1
