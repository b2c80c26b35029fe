-- What is done within a budget is done alike within each budget that has its steps, and within no other.
use Rattle.std.proofs.Common.{◌≡◌, ℕ, suc, ◌+◌, ◌-◌, ◌≤◌, List, [], refl, ap, sym, subst, ◌∙◌, arith}
use Rattle.ca_program.specs.declared.program.ClassId.{ClassId}
use Rattle.ca_program.specs.Plain.{PlainProgram, Statement}
use Rattle.ca_model.specs.declared.value.Value.{Value as Datum}
use Rattle.ca_model.specs.declared.value.Object.{Object}
use Rattle.ca_meaning.specs.Expressions.{Invocation}
use Rattle.ca_meaning.specs.Flows.{Flow, goes_on, gives_back, stops, runs_out}
use Rattle.ca_meaning.specs.Serial.{World, fresh, serial_ops}
use Rattle.ca_meaning.specs.Sections.{Section, section_run, loop_run, Outcome, done, sectioned, section, LoopOutcome, loop_done, loop_sectioned, loop_section}
use Rattle.ca_meaning_laws.specs.Budgets.{on_with, Reaches, Reached}
use Rattle.ca_meaning_laws.proofs.Steady.{SteadyFlow}
use Rattle.ca_meaning_laws.proofs.Bigs.{loop_run_steady, serial_ops_steady}
use Rattle.ca_parallel.specs.Calls.{RunsTo}
use Rattle.ca_order_laws.specs.Complete.{SectionsEndAlike, LoopSectionsEndAlike, RunsEndAlike}
use Rattle.ca_order_laws.proofs.Sections.{outcome_steps, leaves_by, at_all, leaves_one}

-- a budget that has the steps
split : (steps budget : ℕ) → steps ≤ budget → budget ≡ steps + (budget - steps)
split steps budget le = omega (arith, le)

-- ---- sections

steps_within : (c : ClassId) (k : ℕ) (f : Flow Section) (m : Outcome) → sectioned c k f ≡ done m → m.steps ≤ k
steps_within c k (goes_on ls s j) m e = let d : k - j ≡ m.steps = outcome_steps e in omega (arith, d)
steps_within c k (gives_back v s j) m e = cc
steps_within c k (stops t s) m e = cc
steps_within c k (runs_out s) m e = cc

pub sections_end : SectionsEndAlike
sections_end p frozen i o m leaves = record {
  within = λ k le. ap (λ n. section p frozen i.receiver o i.op i.arguments n) (split m.steps k le) ∙ at_all p frozen i o m (leaves_by p frozen i o m leaves) (k - m.steps);
  only = λ k n e.
      let same : n ≡ m = leaves_one p frozen i o n m (k, e) leaves in
      let le : n.steps ≤ k = steps_within o.class k (section_run p frozen i o.slots k) n e in
      (same, subst (λ (q : Outcome). q.steps ≤ k) same le);
}

-- ---- sections of loops

loop_steps : {m n : LoopOutcome} → loop_done m ≡ loop_done n → m.steps ≡ n.steps
loop_steps e = cc

loop_same : {m n : LoopOutcome} → loop_done m ≡ loop_done n → m ≡ n
loop_same e = cc

module _ (p : PlainProgram) (h : List Object) (this : Datum) (ls : List Datum) (line : ℕ) (loop : Statement) where
  -- done within k, the section is so with its steps and any more, and these are no more than k
  loop_at_all : (k : ℕ) (m : LoopOutcome) → loop_section p h this ls line loop k ≡ loop_done m → ((i : ℕ) → loop_section p h this ls line loop (m.steps + i) ≡ loop_done m) × (m.steps ≤ k)
  loop_at_all k m e = from (loop_run p h this ls line loop k) refl e
    where
      from : (f : Flow Section) → loop_run p h this ls line loop k ≡ f → loop_sectioned k f ≡ loop_done m → ((i : ℕ) → loop_section p h this ls line loop (m.steps + i) ≡ loop_done m) × (m.steps ≤ k)
      from (goes_on ms s j) run d =
          let st : SteadyFlow (suc k) (λ k. loop_run p h this ls line loop k) = loop_run_steady p h this ls line loop k in
          let r : Reached (λ k. loop_run p h this ls line loop k) (on_with ms s) k j = st.reached k (omega arith) (on_with ms s) j run in
          let is = r.is in
          let steps : k - j ≡ m.steps = loop_steps d in
          let same : r.s ≡ m.steps = omega arith in
          let reaches : Reaches (λ k. loop_run p h this ls line loop k) (on_with ms s) m.steps = subst (λ n. Reaches (λ k. loop_run p h this ls line loop k) (on_with ms s) n) same r.reaches in (
            λ i. ap (λ f. loop_sectioned (m.steps + i) f) (reaches.at i)
                ∙ ap (λ n. loop_done (record { locals = ms; listed = s.listed; steps = n })) (let left : (m.steps + i) - i ≡ k - j = omega arith in left)
                ∙ d,
            omega arith,
          )
      from (gives_back v s j) run d = cc
      from (stops t s) run d = cc
      from (runs_out s) run d = cc

pub loops_end : LoopSectionsEndAlike
loops_end p h this ls line loop k m e =
    let a = loop_at_all p h this ls line loop k m e in
    record {
      within = λ b le. ap (λ n. loop_section p h this ls line loop n) (split m.steps b le) ∙ a.0 (b - m.steps);
      only = λ b n d.
          let c = loop_at_all p h this ls line loop b n d in
          let same : n ≡ m = loop_same (sym (c.0 m.steps) ∙ ap (λ j. loop_section p h this ls line loop j) (let z : n.steps + m.steps ≡ m.steps + n.steps = omega arith in z) ∙ a.0 n.steps) in
          (same, subst (λ (q : LoopOutcome). q.steps ≤ b) same c.1);
    }

-- ---- serial runs

module _ (p : PlainProgram) (h : List Object) (is : List Invocation) where
  run_reaches : (k : ℕ) (after : List Object) (steps : ℕ) (r : RunsTo p h is k after steps) → Reaches (λ k. serial_ops p is (fresh h) k) (on_with [] (record { heap = after; prints = r.prints; notes = [] })) steps
  run_reaches k after steps r =
      let w : World = record { heap = after; prints = r.prints; notes = [] } in
      let st : SteadyFlow (suc k) (λ k. serial_ops p is (fresh h) k) = serial_ops_steady p is (fresh h) k in
      let n : Reached (λ k. serial_ops p is (fresh h) k) (on_with [] w) k r.left = st.reached k (omega arith) (on_with [] w) r.left r.run in
      let a = n.is in let b = r.taken in
      subst (λ s. Reaches (λ k. serial_ops p is (fresh h) k) (on_with [] w) s) (let z : n.s ≡ steps = omega arith in z) n.reaches

ends_heap : {v w : World} {i j : ℕ} → goes_on [] v i ≡ goes_on [] w j → v ≡ w
ends_heap e = cc

ends_left : {v w : World} {i j : ℕ} → goes_on [] v i ≡ goes_on [] w j → i ≡ j
ends_left e = cc

pub runs_end : RunsEndAlike
runs_end p h is k after steps r budget = (within, only)
  where
    a : Reaches (λ k. serial_ops p is (fresh h) k) (on_with [] (record { heap = after; prints = r.prints; notes = [] })) steps
    a = run_reaches p h is k after steps r

    within : steps ≤ budget → RunsTo p h is budget after steps
    within le = record { prints = r.prints; left = budget - steps; run = ap (λ n. serial_ops p is (fresh h) n) (split steps budget le) ∙ a.at (budget - steps); taken = split steps budget le }

    only : (last : List Object) (taken : ℕ) → RunsTo p h is budget last taken → (last ≡ after) × (taken ≡ steps) × (steps ≤ budget)
    only last taken q =
        let b : Reaches (λ k. serial_ops p is (fresh h) k) (on_with [] (record { heap = last; prints = q.prints; notes = [] })) taken = run_reaches p h is budget last taken q in
        let e : goes_on [] (record { heap = last; prints = q.prints; notes = [] }) steps ≡ goes_on [] (record { heap = after; prints = r.prints; notes = [] }) taken =
        sym (b.at steps) ∙ ap (λ n. serial_ops p is (fresh h) n) (let z : taken + steps ≡ steps + taken = omega arith in z) ∙ a.at taken in
        let same : taken ≡ steps = sym (ends_left e) in
        let t : budget ≡ taken + q.left = q.taken in
        (ap (λ (w : World). w.heap) (ends_heap e), same, omega (arith, same, t))
