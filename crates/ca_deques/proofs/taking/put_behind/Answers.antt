use Rattle.std.proofs.Common.{◌≡◌, ◌-◌, ◌∙◌, List, length, slice_get, slice_set, ap, sym, subst, arith}
use Rattle.ca_meaning.specs.Multisets.{weight}
use Rattle.ca_logs.specs.declared.log.Task.{Task}
use Rattle.ca_deques.specs.Settings.{AllFit}
use Rattle.ca_deques.proofs.Grown.{fits_at, fits_set, none_left}
use Rattle.ca_deques.proofs.Places.{weight_set_at}
use Rattle.ca_deques.proofs.taking.put_behind.Goals as goal

pub put_behind_open-requires-clause-empty : goal.put_behind_open-requires-clause-empty
put_behind_open-requires-clause-empty g c = none_left c.args.share.now.items (omega (arith, c.len-count.ensures, c.if-count-eq0.true))

pub returns-clause-share : goal.returns-clause-share
returns-clause-share g c = let ts = c.args.share.now.items in
    subst (λ (xs : List Task). AllFit g.N.Round.setting xs) (sym c.exchange.ensures.put) (fits_set g.N.Round.setting ts _ c.args.task c.requires.share c.requires.fits)

pub returns-clause-fits : goal.returns-clause-fits
returns-clause-fits g c = fits_at g.N.Round.setting c.args.share.now.items _ c.exchange.result c.requires.share c.exchange.ensures.took

pub returns-clause-moved : goal.returns-clause-moved
returns-clause-moved g c = λ h. omega (arith, weight_set_at h c.args.share.now.items _ c.exchange.result c.args.task c.exchange.ensures.took, ap (weight h) c.exchange.ensures.put)

pub returns-then-count-eq0-clause-put : goal.returns-then-count-eq0-clause-put
returns-then-count-eq0-clause-put g c = λ some. absurd (omega (arith, some, c.len-count.ensures, c.if-count-eq0.true))

pub returns-clause-put : goal.returns-clause-put
returns-clause-put g c = λ _.
    let ts = c.args.share.now.items in
    let place : c.saturating_sub-at.result ≡ length ts - 1 - c.args.behind = omega (arith, c.saturating_sub-at.ensures, c.len-count.ensures, c.args.share.now.ok.0) in (
      c.exchange.ensures.put ∙ ap (λ n. slice_set ts n c.args.task) place,
      ap (λ n. slice_get ts n) (sym place) ∙ c.exchange.ensures.took,
    )
