use Rattle.std.proofs.Common.{◌≡◌, drop}
use Rattle.ca_forms.specs.ArrayRules.{put_weighed}
use Rattle.ca_forms.proofs.array_rules.put_weighed.Given as goal

abbrev pub invariant-loop-other : goal.invariant-loop-other
invariant-loop-other l = put_weighed l.factor l.condition (drop l.other-index l.others) l.all.items ≡ put_weighed l.factor l.condition l.others l.initial.all.items
