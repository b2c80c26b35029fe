use Rattle.std.proofs.Common.{IfSome, Some, sym, subst}
use Rattle.std.proofs.lemmas.List.Elements.{All-contains}
use Rattle.ca_program.specs.View.{program_view}
use Rattle.ca_plan.specs.clauses.Keeping.{Fits}
use Rattle.ca_plan.specs.Plans.{PairVerdict}
use Rattle.ca_plan.proofs.known.Known.verdict.Goals as goal

pub returns-in-Some : goal.returns-in-Some
returns-in-Some c =
    let p = program_view c.args.program.now in
    record {
      pair = rw c.in-Some.is at c.in_ok-found.ensures.pair;
      fits = All-contains (λ slot. IfSome slot (Fits p)) c.args.self.now.slots.items (Some c.in-Some.pair) c.requires.known (rw c.in-Some.is at c.in_ok-found.ensures.kept);
      known = c.requires.known;
    }

pub returns-in_ok-shared-in-None : goal.returns-in_ok-shared-in-None
returns-in_ok-shared-in-None c =
    let p = program_view c.args.program.now in
    record {
      pair = c.in_ok-pair-in-None.ensures.pair;
      fits = c.in_ok-pair-in-None.ensures.fits;
      known = c.keep.ensures p c.requires.known (subst (λ (v : PairVerdict). Fits p v) (sym c.in_ok-shared-in-None.ensures) c.in_ok-pair-in-None.ensures.fits);
    }
