-- Expressions that demand nothing, whatever locals and fields hold.
use Rattle.std.specs.Prelude.{◌≡◌, []}
use Rattle.ca_program.specs.Plain.{PlainProgram, Expression}
use Rattle.ca_sweep.specs.Sweeps.{PlainSweep}
use Rattle.ca_norm.specs.Terms.{PlainTerm}
use Rattle.ca_symbolic.specs.States.{State}
use Rattle.ca_symbolic.specs.Demands.{demands_in}

abbrev pub DemandsNothing : PlainProgram → Expression → Type 0
DemandsNothing p e = (s : State) (g : PlainTerm) → demands_in p s g e ≡ []

abbrev pub SumsDemandNothing : PlainProgram → PlainSweep → Type 0
SumsDemandNothing p w = DemandsNothing p w.from × DemandsNothing p w.to × DemandsNothing p w.addend
