use Rattle.std.proofs.Common.{◌≡◌, map, take}
use Rattle.ca_program.specs.Kinds.{kind_type}
use Rattle.ca_code.specs.Codes.{kinds_seen}
use Rattle.ca_code.proofs.layout.params_of.Given as goal

abbrev pub invariant-params : goal.invariant-params
invariant-params l = kinds_seen l.kinds ≡ map kind_type (take l.i l.m.body.locals.items)
