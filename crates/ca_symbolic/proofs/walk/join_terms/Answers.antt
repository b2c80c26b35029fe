use Rattle.std.proofs.Common.{◌≡◌, ◌+◌, ℕ, Bool, Err, [], ◌∷◌, length, length-append, ap, arith}
use Rattle.std.proofs.lemmas.Result.{err_from_is_err_and}
use Rattle.ca_shared_terms.specs.declared.errors.ExecutionError.TheVariants.{Large}
use Rattle.ca_symbolic.specs.clauses.Places.{is_marked}
use Rattle.ca_symbolic.proofs.Flags.{again}
use Rattle.ca_symbolic.proofs.Joining.{joined_step, joined_light, joined_heavy, joined_end, at_end}
use Rattle.ca_symbolic.proofs.walk.join_terms.Goals as goal

pub loop-place-preserved : goal.loop-place-preserved
loop-place-preserved c =
    let n = c.loop-place.place in
    let f : ℕ → Bool = is_marked c.args.marks.now in
    let told : c.is_marked-is_target.result ≡ f n = c.is_marked-is_target.ensures in
    let long : length c.push.new.self.items ≡ n + 1 =
    omega (arith, ap length c.in_ok-push.ensures.items, length-append c.loop-place.terms.items (c.in_ok-term.term ∷ []), c.loop-place.invariant.0) in (
      long,
      joined_step f c.args.condition.now c.args.first.now c.args.second.now n c.loop-place.terms.items c.push.new.self.items _ c.index-first-place.result c.index-second-place.result c.in_ok-term.term c.is_marked-is_target.result
          (omega (arith, c.loop-place-test.true, c.requires.long)) (omega (arith, c.loop-place-test.true, c.requires.long)) c.index-first-place.is c.index-second-place.is c.loop-place.invariant.1 told c.in_ok-term.ensures.made c.in_ok-push.ensures.items,
      joined_light f c.args.condition.now c.args.first.now c.args.second.now n c.loop-place.terms.items c.push.new.self.items c.in_ok-term.term c.is_marked-is_target.result c.loop-place.invariant.0 c.loop-place.invariant.2 told c.in_ok-term.ensures.light c.in_ok-push.ensures.items,
    )

pub returns-clause-made : goal.returns-clause-made
returns-clause-made c =
    joined_end (is_marked c.args.marks.now) c.args.condition.now c.args.first.now c.args.second.now c.loop-place.place c.loop-place.terms.items _
    (at_end (length c.args.first.now) (length c.args.second.now) c.loop-place.place (omega (arith, c.loop-place-test.false, c.requires.long))) c.loop-place.invariant.1

pub returns-in_err-term-clause-large : goal.returns-in_err-term-clause-large
returns-in_err-term-clause-large c = λ told.
    let r = c.from_residual in
    let q = err_from_is_err_and r.result r.ensures.1 in
    let h = c.in_err-term.ensures.large (ap (λ e. Err e) (again r.result q.0 c.in_err-term.field-0.0 Large q.1 q.2 told)) in
    joined_heavy (is_marked c.args.marks.now) c.args.condition.now c.args.first.now c.args.second.now c.loop-place.place c.loop-place.terms.items _ c.index-first-place.result c.index-second-place.result c.is_marked-is_target.result
    (omega (arith, c.loop-place-test.true, c.requires.long)) (omega (arith, c.loop-place-test.true, c.requires.long)) c.index-first-place.is c.index-second-place.is c.loop-place.invariant.0 c.loop-place.invariant.1 c.is_marked-is_target.ensures h.0 h.1
