use Rattle.std.proofs.Common.{drop}
use Rattle.ca_canonical.specs.Marks.{tokens}
use Rattle.ca_canonical.specs.Spell.{spell_params}
use Rattle.ca_canonical.proofs.Writing.{Leaves}
use Rattle.ca_canonical.proofs.Lists.{params_left}
use Rattle.ca_canonical.proofs.classes.write_params.Given as goal

abbrev pub invariant-params : goal.invariant-params
invariant-params l = Leaves l.initial.pen (tokens (spell_params l.params)) l.pen (tokens (params_left l.begun (drop l.param-index l.params)))
