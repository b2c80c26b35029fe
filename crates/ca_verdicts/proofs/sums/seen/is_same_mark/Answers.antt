use Rattle.std.proofs.Common.{◌≡◌, sym, ap₂, true≢false}
use Rattle.ca_sums.specs.Sums.{Sum, scale}
use Rattle.ca_forms.specs.Plain.{PlainMonomial}
use Rattle.ca_verdicts.proofs.sums.seen.is_same_mark.Goals as goal

pub returns-then-one-other : goal.returns-then-one-other
returns-then-one-other c = λ e. absurd (true≢false (sym e))

pub returns : goal.returns
returns c =
    let times : c.args.one.now.1 ≡ c.args.other.now.1 = c.if-one-other.false in
    λ same. ap₂ (λ k (ps : Sum PlainMonomial). scale k ps) times (c.is_one.ensures same)
