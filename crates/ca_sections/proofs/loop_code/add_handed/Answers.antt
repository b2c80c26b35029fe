use Rattle.std.proofs.Common.{refl, sym, subst, ◌+◌}
use Rattle.ca_program.specs.View.{program_view}
use Rattle.ca_sections.specs.declared.loop_code.LoopPlace.{LoopPlace}
use Rattle.ca_sections.specs.Extending.{Looked}
use Rattle.ca_sections.proofs.Extending.{none_begun, one_begun}
use Rattle.ca_sections.proofs.loop_code.add_handed.Goals as goal

-- the row hands no loop on
pub returns-in_default-ins : goal.returns-in_default-ins
returns-in_default-ins c =
    λ old inside looked.
    none_begun (program_view c.args.program.now) old c.args.rows.now c.args.places.now.items c.in-Some.row c.args.at (sym c.in-Some.ensures) c.in_default-ins.not-Begin inside looked

pub returns : goal.returns
returns c =
    let p = program_view c.args.program.now in
    let r = c.in-Some.row in
    let l : LoopPlace = record { at = c.args.at; place = c.here.result; line = r.line; s = c.in-Begin.s; types = c.in-Begin.types } in
    λ old inside looked.
    subst (λ ls. Looked p old (c.args.at + 1) c.add_loop.new.rows ls) (sym c.in_ok-push.ensures.items)
    (one_begun p old c.args.rows.now c.add_loop.new.rows c.args.places.now.items l r c.in-Begin.field-0 (sym c.in-Some.ensures) c.in-Begin.is refl c.here.ensures.value c.add_loop.ensures.adds c.add_loop.ensures.fits inside looked)
