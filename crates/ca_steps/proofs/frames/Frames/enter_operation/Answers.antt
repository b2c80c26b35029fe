use Rattle.std.proofs.Common.{sym, ◌∙◌, inl, inr}
use Rattle.ca_steps.proofs.Calling.{invoked, invoke_spends}
use Rattle.ca_steps.proofs.frames.Frames.enter_operation.Goals as goal

pub returns-then-self-eq0 : goal.returns-then-self-eq0
returns-then-self-eq0 c =
    λ line w x. invoke_spends c.args.self.now c.args.starts.now c.args.op.0 c.args.receiver c.args.first w x c.if-self-eq0.true

pub returns-in_default : goal.returns-in_default
returns-in_default c = λ line w x. inl (λ start e. c.in_default.not-Some start (c.place_of.ensures ∙ e))

pub returns-in_default-number_of : goal.returns-in_default-number_of
returns-in_default-number_of c = λ line w x. inr c.in_default-number_of.ensures.none

pub returns : goal.returns
returns c =
    λ line w x. invoked c.args.self.now c.enter.new.self c.args.starts.now c.args.op.0 c.args.receiver c.args.first c.in-Some.start w x c.if-self-eq0.false (sym c.place_of.ensures ∙ c.in-Some.is) c.in_ok-enter.ensures
