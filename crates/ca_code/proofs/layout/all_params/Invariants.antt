use Rattle.std.proofs.Common.{◌≡◌, map, take}
use Rattle.ca_program.specs.declared.program.Method.{Method}
use Rattle.ca_program.specs.Kinds.{param_kinds}
use Rattle.ca_program.specs.View.{method_view}
use Rattle.ca_code.specs.Codes.{kinds_seen}
use Rattle.ca_code.proofs.layout.all_params.Given as goal

abbrev pub invariant-methods : goal.invariant-methods
invariant-methods l = map kinds_seen l.all.items ≡ map (λ (m : Method). param_kinds (method_view m)) (take l.m-index l.methods)
