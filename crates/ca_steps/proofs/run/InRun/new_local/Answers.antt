use Rattle.std.proofs.Common.{◌+◌, refl, ap, subst, rules, w64}
use mir.Val.{SFits}
use Rattle.std.proofs.lemmas.Int.{to_z-of_z}
use Rattle.std.proofs.lemmas.Result.{err_from_is_err_and}
use Rattle.ca_program.specs.View.{program_view}
use Rattle.ca_steps.specs.declared.frames.Frames.{Frames}
use Rattle.ca_steps.specs.Leaving.{Makes}
use Rattle.ca_steps.proofs.Creating.{local_made, local_not_made}
use Rattle.ca_steps.proofs.run.InRun.new_local.Goals as goal

pub returns-in_err-made : goal.returns-in_err-made
returns-in_err-made c =
    let p = err_from_is_err_and c.from_residual.result c.from_residual.ensures.1 in
    record { acts = rw p.1 tt; program = c.make.ensures.program }

pub returns-in-Full : goal.returns-in-Full
returns-in-Full c =
    let p = program_view c.args.self.now.program.now in
    let h = c.args.self.now.heap in
    record {
      acts = λ code line w.
          let m = subst (λ d. Makes p line c.args.class h c.args.frames.now.left d c.make.new.self.heap) c.in-Full.is (c.in_ok-made.ensures.makes line c.args.frames.now.left) in
          local_not_made p line c.args.class c.args.frames.now h w code c.args.l c.make.new.self.heap m.0 m.1;
      program = c.make.ensures.program;
    }

pub returns-then-not-put : goal.returns-then-not-put
returns-then-not-put c = record { acts = λ code line w. c.put.ensures.past c.if-not-put.true; program = c.make.ensures.program }

pub returns-else-not-put : goal.returns-else-not-put
returns-else-not-put c =
    let small : SFits w64 c.word.result = search rules in
    let p = program_view c.args.self.now.program.now in
    let h = c.args.self.now.heap in
    record {
      acts = λ code line w.
          let m = subst (λ d. Makes p line c.args.class h c.args.frames.now.left d c.make.new.self.heap) c.in-Object.is (c.in_ok-made.ensures.makes line c.args.frames.now.left) in
          let done = c.if-not-put.false in
          let old = c.args.frames.now in
          let now : Frames = record c.put.new.self { at = c.put.new.self.at + 1 } in
          local_made p line c.args.class old h w code c.args.l c.in-Object.id (old.base + c.args.l) c.word.result now c.make.new.self.heap m.0 m.1 refl (c.put.ensures.put done) c.word.ensures
          (ap (λ (m : Frames). record m { at = m.at + 1 }) (c.put.ensures.same done)) (rw (to_z-of_z w64 c.word.result small) at (c.put.ensures.slots done));
      program = c.make.ensures.program;
    }
