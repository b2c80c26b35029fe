use Rattle.std.proofs.Common.{map, ap, arith}
use Rattle.ca_program.specs.Kinds.{param_kinds}
use Rattle.ca_program.specs.View.{method_view}
use Rattle.ca_program.specs.declared.program.Method.{Method}
use Rattle.ca_code.specs.Codes.{kinds_seen}
use Rattle.ca_code.proofs.Params.{one_more_seen, all_seen}
use Rattle.ca_code.proofs.layout.all_params.Goals as goal

pub methods-init : goal.methods-init
methods-init c = ap (map kinds_seen) c.new-all.ensures.items

pub methods-preserved : goal.methods-preserved
methods-preserved c = one_more_seen (λ (m : Method). param_kinds (method_view m)) kinds_seen c.args.methods.now c.methods.m-index c.m-item.result _ _ _ (omega arith) c.m-item.is c.in_ok-params_of.ensures c.in_ok-push.ensures.items c.methods.invariant

pub returns : goal.returns
returns c = all_seen (λ (m : Method). param_kinds (method_view m)) kinds_seen c.args.methods.now c.methods.m-index _ (omega arith) c.methods.invariant
