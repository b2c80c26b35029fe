-- Section then list, for a call: reduction, with the section as a left mover.
use Rattle.std.proofs.Common.{◌≡◌, ℕ, suc, ◌+◌, ◌-◌, [], refl, ap, sym, subst, ◌∙◌, arith}
use Rattle.std.specs.Prelude.{slice_set}
use Rattle.ca_program.specs.Plain.{PlainProgram}
use Rattle.ca_model.specs.declared.value.Object.{Object}
use Rattle.ca_meaning.specs.Expressions.{Invocation}
use Rattle.ca_meaning.specs.Flows.{Flow, goes_on, gives_back, stops, runs_out}
use Rattle.ca_meaning.specs.Serial.{World, in_heap, run_call, operations_of, serial_ops}
use Rattle.ca_meaning.specs.Sections.{Section, section_run, sectioned, section, then_listed}
use Rattle.ca_meaning_laws.specs.Budgets.{on_with, Reaches, Reached}
use Rattle.ca_meaning_laws.proofs.Steady.{SteadyFlow}
use Rattle.ca_meaning_laws.proofs.Bigs.{serial_call_steady, serial_ops_steady, section_run_steady}
use Rattle.ca_order_laws.specs.Order.{SectionThenList}
use Rattle.ca_order_laws.proofs.Sections.{object_with}
use Rattle.ca_order_laws.proofs.CallThenList.{SectionRest, call_first, call_then}

-- a section that takes so many steps, and then its list, are what follows within a budget
then_at : (p : PlainProgram) (w : World) (i : Invocation) (o : Object) (v : World) (n j : ℕ) → SectionRest p w i o v n → then_listed p i.receiver w (n + j) (section p w.heap i.receiver o i.op i.arguments (n + j)) ≡ goes_on [] v j
then_at p w i o v n j r =
    let sum = r.sum in
    let e : n + j ≡ r.s + (r.t + j) = omega arith in
    let left : (n + j) - ((n + j) - (r.t + j)) ≡ r.t + j = omega arith in
    ap (λ f. then_listed p i.receiver w (n + j) (sectioned o.class (n + j) f)) (ap (λ k. section_run p w.heap i o.slots k) e ∙ r.reaches.at (r.t + j))
    ∙ ap (λ k. serial_ops p r.section.listed (in_heap w (slice_set w.heap i.receiver (object_with o r.section.own))) k) left
    ∙ r.rest.at j

pub section_then_list : SectionThenList
section_then_list p program roots x is w heap i inside separable well o found k j v = (forth, back)
  where
    forth : run_call (operations_of p) [] i w k ≡ goes_on [] v j → then_listed p i.receiver w k (section p w.heap i.receiver o i.op i.arguments k) ≡ goes_on [] v j
    forth e =
        let steady : SteadyFlow (suc k) (λ k. run_call (operations_of p) [] i w k) = serial_call_steady p [] i w k in
        let r : Reached (λ k. run_call (operations_of p) [] i w k) (on_with [] v) k j = steady.reached k (omega arith) (on_with [] v) j e in
        subst (λ n. then_listed p i.receiver w n (section p w.heap i.receiver o i.op i.arguments n) ≡ goes_on [] v j) (sym r.is)
        (then_at p w i o v r.s j (call_first p program roots x is w heap i inside separable o found well v r.s r.reaches))

    from : (f : Flow Section) → section_run p w.heap i o.slots k ≡ f → then_listed p i.receiver w k (sectioned o.class k f) ≡ goes_on [] v j → run_call (operations_of p) [] i w k ≡ goes_on [] v j
    from (goes_on ls u left) e q =
        let steady : SteadyFlow (suc k) (λ k. section_run p w.heap i o.slots k) = section_run_steady p w.heap i o.slots k in
        let a : Reached (λ k. section_run p w.heap i o.slots k) (on_with ls u) k left = steady.reached k (omega arith) (on_with ls u) left e in
        let after : World = in_heap w (slice_set w.heap i.receiver (object_with o u.own)) in
        let steady2 : SteadyFlow (suc (k - (k - left))) (λ k. serial_ops p u.listed after k) = serial_ops_steady p u.listed after (k - (k - left)) in
        let b : Reached (λ k. serial_ops p u.listed after k) (on_with [] v) (k - (k - left)) j = steady2.reached (k - (k - left)) (omega arith) (on_with [] v) j q in
        let call : Reaches (λ k. run_call (operations_of p) [] i w k) (on_with [] v) (a.s + b.s) = call_then p program roots x is w heap i inside separable o found well ls u a.s v b.s a.reaches b.reaches in
        let is1 = a.is in let is2 = b.is in
        ap (λ n. run_call (operations_of p) [] i w n) (let z : k ≡ (a.s + b.s) + j = omega arith in z) ∙ call.at j
    from (gives_back u s left) e q = cc
    from (stops t s) e q = cc
    from (runs_out s) e q = cc

    back : then_listed p i.receiver w k (section p w.heap i.receiver o i.op i.arguments k) ≡ goes_on [] v j → run_call (operations_of p) [] i w k ≡ goes_on [] v j
    back q = from (section_run p w.heap i o.slots k) refl q
