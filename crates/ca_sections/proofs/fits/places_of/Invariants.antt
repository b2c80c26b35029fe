use Rattle.std.proofs.Common.{◌≡◌, length}
use Rattle.ca_program.specs.View.{program_view}
use Rattle.ca_sections.specs.Fitting.{OpsBegin}
use Rattle.ca_sections.proofs.Testing.{StandSoFar}
use Rattle.ca_sections.proofs.fits.places_of.Given as goal

abbrev pub invariant-ops : goal.invariant-ops
invariant-ops l = record {
  told : OpsBegin (program_view l.program) l.starts l.places.items;
  stand : StandSoFar (program_view l.program) l.starts l.places.items;
  count : length l.places.items ≡ l.m-index;
}
