use Rattle.std.proofs.Common.{◌≡◌, Equal, sym, ap₂, ◌∙◌}
use Rattle.std.specs.Cmp.Lexicographic.{slice_cmp}
use Rattle.ca_forms.specs.Compare.{scalar_cmp}
use Rattle.ca_forms.specs.Trees.{tree_cmp}
use Rattle.ca_forms.proofs.Lists.{arguments_cmp}
use Rattle.ca_symbolic.specs.Demanded.{kind_of}
use Rattle.ca_verdicts.specs.Keys.{kind_code}
use Rattle.ca_verdicts.proofs.key.Key.compare.Goals as goal

pub returns-in-Equal : goal.returns-in-Equal
returns-in-Equal c =
    let kinds : tree_cmp (kind_code (kind_of c.self.inside.kind)) (kind_code (kind_of c.other.inside.kind)) ≡ Equal = sym c.compare_kinds.ensures ∙ c.in-Equal.is in
    rw (← c.self.view_is, ← c.other.view_is, kinds) (c.compare_scalars.ensures ∙ (ap₂ (slice_cmp scalar_cmp) c.as_slice.ensures.value c.as_slice-in-Equal.ensures.value ∙ arguments_cmp c.self.inside.parts.items c.other.inside.parts.items))
