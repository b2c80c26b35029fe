use Rattle.std.proofs.Common.{◌≡◌, false, refl, sym, ap, ◌∙◌, length, arith}
use Rattle.std.proofs.lemmas.Option.{slice_get_read, slice_get_past}
use Rattle.ca_norm.specs.Terms.{null}
use Rattle.ca_shared_terms.specs.Heavy.{is_heavy}
use Rattle.ca_shared_terms.specs.Starts.{or_null}
use Rattle.ca_symbolic.specs.States.{term_at}
use Rattle.ca_symbolic.proofs.Flags.{always}
use Rattle.ca_symbolic.proofs.Making.{shared_as}
use Rattle.ca_symbolic.proofs.state.shared_at.Goals as goal

pub returns-then-place-terms : goal.returns-then-place-terms
returns-then-place-terms c =
    let ts = c.args.terms.now in
    let n = c.args.place in
    let x = c.index-terms-place.result in
    let there : x ≡ term_at ts n = sym (ap or_null (slice_get_read ts (length ts) n x refl c.if-place-terms.true c.index-terms-place.is)) in
    record {
      same = shared_as c.share.result x (term_at ts n) there c.share.ensures.same;
      light = always c.share.result (is_heavy (term_at ts n) ≡ false) (ap is_heavy (sym there) ∙ c.share.ensures.light);
    }

pub returns-else-place-terms : goal.returns-else-place-terms
returns-else-place-terms c =
    let ts = c.args.terms.now in
    let n = c.args.place in
    let none : null ≡ term_at ts n = sym (ap or_null (slice_get_past ts n (omega (arith, c.if-place-terms.false)))) in
    record {
      same = shared_as c.null.result null (term_at ts n) none c.null.ensures;
      light = always c.null.result (is_heavy (term_at ts n) ≡ false) (ap is_heavy (sym none));
    }
