use Rattle.std.proofs.Common.{ap₂, ◌∙◌}
use Rattle.std.specs.Cmp.Lexicographic.{slice_cmp}
use Rattle.ca_forms.specs.Arrays.{row_cmp}
use Rattle.ca_forms.proofs.Lists.{rows_are}
use Rattle.ca_forms.proofs.array.Rows.compare.Goals as goal

pub returns : goal.returns
returns c =
    rw (← c.self.view_is, ← c.other.view_is) (c.compare_rows.ensures ∙ ap₂ (slice_cmp row_cmp) c.deref.ensures.value c.deref-2.ensures.value ∙ rows_are c.self.inside.items.items c.other.inside.items.items)
