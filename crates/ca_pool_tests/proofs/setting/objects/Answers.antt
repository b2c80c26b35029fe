use Rattle.std.proofs.Common.{ap, ◌∙◌}
use Rattle.ca_program.specs.View.{program_view}
use Rattle.ca_pool_tests.proofs.setting.objects.Goals as goal

pub heap-requires : goal.heap-requires
heap-requires g c = ap program_view c.program.ensures ∙ c.requires
