use Rattle.std.proofs.Common.{◌≡◌, ◌<◌, ◌∙◌, List, length, ap, subst, arith}
use Rattle.ca_program.specs.View.{program_view}
use Rattle.ca_model.specs.declared.value.Object.{Object}
use Rattle.std.specs.Prelude.{Result, Ok, Err, IfOk}
use Rattle.ca_beside.specs.Beside.{present, AreDistinct, Sectioned}
use Rattle.ca_beside.proofs.Present.{if_ok}
use Rattle.ca_beside.proofs.Running.{on_err}
use Rattle.ca_replica.specs.Zeroed.{zeroed_heap}
use Rattle.ca_replica.proofs.Sums.{zeroed_many}
use Rattle.ca_replica.proofs.replica.run_on_copy.Goals as goal

pub returns-clause-answer : goal.returns-clause-answer
returns-clause-answer c =
    let p = program_view c.args.program.now in
    let frozen = c.args.frozen.now in
    let base = zeroed_heap c.args.extent.now.written frozen in
    let op = c.args.op.now in
    let out = c.args.out.now.items in
    let now = c.run_at.new.waiting.items in
    let many : length base ≡ length frozen = zeroed_many c.args.extent.now.written frozen in
    let there : op.receiver < length base = omega (arith, many, c.requires) in
    if_ok (λ a. (h : List Object) → op.receiver < length h → Sectioned p frozen (present h c.place_of.new.copies) op c.args.left out (present h c.run_at.new.self) now a) (λ a. Sectioned p frozen (present base c.args.copies.now) op c.args.left out (present base c.run_at.new.self) now a) c.run_at.result
    (λ a ran. subst (λ h. Sectioned p frozen h op c.args.left out (present base c.run_at.new.self) now a) c.in_ok-place.ensures.same (ran base there)) c.run_at.ensures.ran

pub returns-clause-kept : goal.returns-clause-kept
returns-clause-kept c =
    let base = zeroed_heap c.args.extent.now.written c.args.frozen.now in
    let out = c.args.out.now.items in
    let now = c.run_at.new.waiting.items in
    on_err ((c.run_at.new.self ≡ c.place_of.new.copies) × (now ≡ out)) ((present base c.run_at.new.self ≡ present base c.args.copies.now) × (now ≡ out)) c.run_at.result
    (λ e. (ap (present base) e.0 ∙ c.in_ok-place.ensures.same, e.1)) c.run_at.ensures.kept

pub returns-clause-once : goal.returns-clause-once
returns-clause-once c = whatever c.run_at.result (AreDistinct c.run_at.new.self) c.run_at.ensures.once
  where
    whatever : {T E : Type 0} (r : Result T E) (P : Type 0) → P → IfOk r (λ _. P)
    whatever (Ok x) P p = p
    whatever (Err e) P p = tt
