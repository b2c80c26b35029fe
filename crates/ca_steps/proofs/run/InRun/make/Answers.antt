use Rattle.std.proofs.Common.{refl, ap, ◌∙◌, Err}
use Rattle.ca_program.specs.View.{program_view}
use Rattle.ca_steps.proofs.Creating.{full_traps, room_gives, not_both}
use Rattle.ca_steps.proofs.run.InRun.make.Goals as goal

pub returns-in-Ok : goal.returns-in-Ok
returns-in-Ok c =
    let p = program_view c.args.self.now.program.now in
    let h = c.args.self.now.heap in
    record {
      makes = λ line k. (room_gives p line h c.args.class k c.in-Ok.id c.in-Ok.ensures.made.0 (λ full. not_both c.create.result c.in-Ok.id _ c.in-Ok.is (c.create.ensures.always_full full)), c.in-Ok.ensures.made.1);
      program = refl;
    }

pub returns-in-Full : goal.returns-in-Full
returns-in-Full c =
    let p = program_view c.args.self.now.program.now in
    let h = c.args.self.now.heap in
    record {
      makes = λ line k. (full_traps p line h c.args.class k (c.create.ensures.full (c.in-Err.is ∙ ap Err c.in-Full.is)), c.in-Err.ensures.kept);
      program = refl;
    }

pub returns-in-Memory : goal.returns-in-Memory
returns-in-Memory c = record { makes = tt; program = refl }
