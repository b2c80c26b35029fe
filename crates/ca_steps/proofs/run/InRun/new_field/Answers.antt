use Rattle.std.proofs.Common.{ℕ, Some}
use Rattle.std.proofs.lemmas.Result.{IfOk-weaker}
use Rattle.ca_program.specs.Instructions.{Code, NewField}
use Rattle.ca_program.specs.View.{program_view}
use Rattle.ca_model.specs.Heaps.{created}
use Rattle.ca_meaning.specs.Serial.{World, in_heap}
use Rattle.ca_code_laws.specs.Machine.{act}
use Rattle.ca_code_laws.specs.Runs.{run_access}
use Rattle.ca_steps.specs.declared.calls.Went.{Went}
use Rattle.ca_steps.specs.Lacking.{LacksItem}
use Rattle.ca_steps.specs.Leaving.{Acts, made_in}
use Rattle.ca_steps.specs.Stands.{state_of}
use Rattle.ca_steps.proofs.run.InRun.new_field.Goals as goal

pub returns : goal.returns
returns c =
    let p = program_view c.args.self.now.program.now in
    let h = c.args.self.now.heap in
    let m = c.args.frames.now in
    let L = LacksItem (created p c.args.class h) m.this c.args.f 0 in
    record {
      acts = IfOk-weaker c.new_in.result
          (λ (went : Went). (line : ℕ) (w : World) → Acts L line (λ next. made_in p line c.args.f 0 c.args.class next (state_of m (in_heap w h))) c.new_in.new.frames (in_heap w c.new_in.new.self.heap) went)
          (λ (went : Went). (code : Code) (line : ℕ) (w : World) → Acts L line (λ next. act (run_access p) code line (Some (NewField c.args.f c.args.class)) next (state_of m (in_heap w h))) c.new_in.new.frames (in_heap w c.new_in.new.self.heap) went)
          (λ went a code line w. a line w) c.new_in.ensures.acts;
      program = c.new_in.ensures.program;
    }
