use Rattle.std.proofs.Common.{refl}
use Rattle.ca_steps.specs.declared.here.Here.{Here}
use Rattle.ca_steps.specs.Stands.{here_state}
use Rattle.ca_sections.specs.Running.{section_at}
use Rattle.ca_sections.proofs.Ran.{went_so}
use Rattle.ca_sections.proofs.running.run.Goals as goal

pub run_from-halt-requires : goal.run_from-halt-requires
run_from-halt-requires c = record { laid = c.requires.laid; within = c.requires.within; first = c.requires.first; fits = c.requires.fits }

pub returns : goal.returns
returns c =
    let s = c.run_from-halt in
    let m = s.new.frames in
    let halted = s.ensures.halted tt in
    let there : Here = record { at = m.at; base = halted.0; left = m.left } in
    record {
      came = record {
        state = here_state there m.number m.below m.slots.items (section_at s.new.access);
        left_is = refl;
        slots_are = refl;
        world_is = refl;
        went = went_so c.args.access.now.frozen.now c.args.laid.now.code _ _ _ s.result _ c.as_slice.ensures.value c.ended_as-ended.ensures halted.1;
      };
      lasts = s.ensures.fixed;
      there = s.ensures.still.1.there;
      base = s.ensures.base;
    }
