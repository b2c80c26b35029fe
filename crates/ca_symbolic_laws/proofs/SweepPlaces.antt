-- A sweep within a body: it leaves what a term that means the swept array means, and takes what its demand takes.
use Rattle.std.specs.Prelude.{◌≡◌, ℤ, Bool, List}
use Rattle.ca_program.specs.declared.program.FieldId.{FieldId}
use Rattle.ca_program.specs.Plain.{PlainMethod, Statement}
use Rattle.ca_meaning.specs.ProgramTyped.{StatementTyped, scope_of}
use Rattle.ca_parallel.specs.Separable.{IsSeparated}
use Rattle.ca_norm.specs.Terms.{PlainTerm}
use Rattle.ca_norm.specs.Meanings.{Valuation, number_of, mean}
use Rattle.ca_norm.specs.Environments.{Environment}
use Rattle.ca_symbolic.specs.States.{State, term_at}
use Rattle.ca_symbolic.specs.Execution.{term_of}
use Rattle.ca_symbolic_laws.specs.Meant.{item_meant}
use Rattle.ca_sweep.specs.Sweeps.{PlainSweep, IsSweep, AreSums}
use Rattle.ca_sweep.specs.Means.{swept, added, all_but}

-- each item of the term, from those of the field's term and the values of the bounds and of the addend
abbrev pub MeansSwept : Environment → Valuation → State → PlainSweep → PlainTerm → Type 0
MeansSwept e v st s t =
    (z : ℤ) → item_meant v t z
    ≡ swept (item_meant v (term_at st.fields s.field.field)) (number_of (mean v (term_of e.program st s.from))) (number_of (mean v (term_of e.program st s.to)))
    (added s.minus (mean v (term_of e.program st s.addend))) z

-- where a sweep may stand in a body
pub record MayStand (e : Environment) (m : PlainMethod) (written : List FieldId) (called : Bool) (s : PlainSweep) (loop : Statement) : Type 0 where
  pub is : IsSweep s loop
  pub sums : AreSums (all_but s.counter.0) s
  pub typed : StatementTyped e.program (scope_of m) loop
  pub separated : IsSeparated e.program written called loop
