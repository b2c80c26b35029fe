-- The term of a sweep means the swept array.
use Rattle.std.proofs.Common.{◌≡◌, Bool, true, false, refl, ap}
use Rattle.ca_tree.specs.declared.tree.UnaryOp.TheVariants as sign
use Rattle.ca_norm.specs.Terms.{PlainTerm}
use Rattle.ca_norm.specs.Meanings.{Valuation, mean, number_of}
use Rattle.ca_norm.specs.Environments.{Environment}
use Rattle.ca_sweep.specs.Sweeps.{PlainSweep}
use Rattle.ca_sweep.specs.Means.{swept, added}
use Rattle.ca_symbolic.specs.States.{State, term_at}
use Rattle.ca_symbolic.specs.Execution.{term_of, addend_term, sweep_term}
use Rattle.ca_symbolic_laws.specs.Meant.{item_meant}
use Rattle.ca_symbolic_laws.proofs.SweepPlaces.{MeansSwept}

added_is : (v : Valuation) (minus : Bool) (t : PlainTerm) → mean v (addend_term minus t) ≡ added minus (mean v t)
added_is v true t = refl
added_is v false t = refl

pub sweep_means : (s : Environment) (v : Valuation) (st : State) (w : PlainSweep) → MeansSwept s v st w (sweep_term s.program st w)
sweep_means s v st w z =
    ap (λ d. swept (item_meant v (term_at st.fields w.field.field)) (number_of (mean v (term_of s.program st w.from))) (number_of (mean v (term_of s.program st w.to))) d z) (added_is v w.minus (term_of s.program st w.addend))
