-- The demands that are met where atoms, reads and results stand for some values: those under conditions that hold.
use Rattle.std.specs.Prelude.{true, List, [], ◌∷◌, map}
use Rattle.ca_model.specs.declared.value.Value.{Value as Datum}
use Rattle.ca_model.specs.declared.value.Value.TheVariants.{Bool as Truth}
use Rattle.ca_norm.specs.Meanings.{Valuation, mean}
use Rattle.ca_symbolic.specs.States.{DemandKind, PlainDemand}

-- a demand that is met: its kind, and the values of its parts
abbrev pub Met : Type 0
Met = DemandKind × List Datum

abbrev pub met_if : Datum → Met → List Met → List Met
met_if (Truth true) m ms = m ∷ ms
met_if _ m ms = ms

-- the demands whose conditions hold
abbrev pub met : Valuation → List PlainDemand → List Met
met v [] = []
met v (d ∷ ds) = met_if (mean v d.guard) (d.kind, map (mean v) d.parts) (met v ds)
