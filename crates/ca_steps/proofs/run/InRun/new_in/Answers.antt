use Rattle.std.proofs.Common.{◌+◌, refl, ap, subst}
use Rattle.std.proofs.lemmas.Result.{err_from_is_err_and}
use Rattle.ca_program.specs.View.{program_view}
use Rattle.ca_meaning.specs.Serial.{in_heap}
use Rattle.ca_steps.specs.declared.frames.Frames.{Frames}
use Rattle.ca_steps.specs.declared.creations.Made.TheVariants.{Object, Full}
use Rattle.ca_steps.specs.Leaving.{Makes}
use Rattle.ca_steps.proofs.Creating.{item_made, item_not_made}
use Rattle.ca_steps.proofs.Failing.{lacks_in}
use Rattle.ca_steps.proofs.run.InRun.new_in.Goals as goal

pub returns-in_err-made : goal.returns-in_err-made
returns-in_err-made c =
    let p = err_from_is_err_and c.from_residual.result c.from_residual.ensures.1 in
    record { acts = rw p.1 tt; program = c.make.ensures.program }

pub returns-in-Full : goal.returns-in-Full
returns-in-Full c =
    let p = program_view c.args.self.now.program.now in
    let h = c.args.self.now.heap in
    record {
      acts = λ line w.
          let m = subst (λ d. Makes p line c.args.class h c.args.frames.now.left d c.make.new.self.heap) c.in-Full.is (c.in_ok-made.ensures.makes line c.args.frames.now.left) in
          item_not_made p line c.args.class c.args.frames.now h w c.args.f c.args.item c.make.new.self.heap m.0 m.1;
      program = c.make.ensures.program;
    }

pub returns-then-not-store : goal.returns-then-not-store
returns-then-not-store c =
    let p = program_view c.args.self.now.program.now in
    let h = c.args.self.now.heap in
    let m = subst (λ d. Makes p 0 c.args.class h 0 d c.make.new.self.heap) c.in-Object.is (c.in_ok-made.ensures.makes 0 0) in
    record {
      acts = λ line w. lacks_in c.make.new.self.heap _ c.args.frames.now.this c.args.f c.args.item m.1 (c.store.ensures.none c.if-not-store.true);
      program = c.make.ensures.program;
    }

pub returns-else-not-store : goal.returns-else-not-store
returns-else-not-store c =
    let p = program_view c.args.self.now.program.now in
    let h = c.args.self.now.heap in
    record {
      acts = λ line w.
          let m = subst (λ d. Makes p line c.args.class h c.args.frames.now.left d c.make.new.self.heap) c.in-Object.is (c.in_ok-made.ensures.makes line c.args.frames.now.left) in
          let old = c.args.frames.now in
          let now : Frames = record old { at = old.at + 1 } in
          item_made p line c.args.class old h w c.args.f c.args.item c.in-Object.id now c.make.new.self.heap c.store.new.heap m.0 m.1 (ap (in_heap w) (c.store.ensures.put c.if-not-store.false)) refl;
      program = c.make.ensures.program;
    }
