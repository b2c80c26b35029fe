use Rattle.std.proofs.Common.{◌≡◌, drop}
use Rattle.std.specs.Cmp.Lexicographic.{slice_cmp}
use Rattle.ca_forms.specs.Arrays.{row_cmp}
use Rattle.ca_forms.proofs.array.compare_rows.Given as goal

abbrev pub invariant-loop-i : goal.invariant-loop-i
invariant-loop-i l = slice_cmp row_cmp (drop l.i l.a) (drop l.i l.b) ≡ slice_cmp row_cmp l.a l.b
