use Rattle.std.proofs.Common.{◌≡◌, ◌+◌, ◌-◌, ◌<◌, ◌≤◌, ℕ, length, arith, subst, sym, ap, ◌∙◌, length-append}
use Rattle.ca_program.specs.View.{program_view}
use Rattle.ca_trace.specs.Texts.{BadText}
use Rattle.ca_lines.proofs.Bytes.{of_none, of_some}
use Rattle.ca_lines.proofs.Feeds.{first_bad, bad_at, bad_words, read_then, line_fits}
use Rattle.ca_lines.proofs.reading.read_lines.Goals as goal

pub returns-in_default-clause-bad : goal.returns-in_default-clause-bad
returns-in_default-clause-bad c = first_bad _ _ c.requires.header c.in_default.ensures

pub returns-in_default-split_at-clause-bad : goal.returns-in_default-split_at-clause-bad
returns-in_default-split_at-clause-bad c = subst (λ n. BadText (program_view c.args.program.now) c.args.text.now (n + 2)) (sym (c.len-in_default-split_at.ensures ∙ c.lines.lines.ok.0)) (bad_at _ _ _ _ c.lines.place c.lines.invariant.2 c.lines-test.true c.in_default-split_at.ensures)

pub returns-in_default-read-clause-bad : goal.returns-in_default-read-clause-bad
returns-in_default-read-clause-bad c = subst (λ n. BadText (program_view c.args.program.now) c.args.text.now (n + 2)) (sym (c.len-in_default-read.ensures ∙ c.lines.lines.ok.0)) (bad_words _ c.requires.names _ _ _ c.lines.place _ _ c.lines.invariant.2 c.lines-test.true c.in-Some-split_at.ensures (of_none _ _ _ c.in-Ok-line_of.ensures c.in_default-read.is))

pub lines-preserved : goal.lines-preserved
lines-preserved c =
    let more = line_fits _ c.lines.place _ _ c.in-Some-split_at.ensures c.lines.invariant.0 in
    let longer = ap length c.in-Ok-push.ensures.items ∙ length-append c.lines.lines.items _ in (
      more,
      omega (arith, longer, c.lines.invariant.1),
      read_then _ _ _ _ _ c.lines.place _ _ _ c.in-Ok-push.ensures.items c.lines.invariant.2 c.in-Some-split_at.ensures (of_some _ _ _ _ c.in-Ok-line_of.ensures c.in-Some-read.is),
    )
