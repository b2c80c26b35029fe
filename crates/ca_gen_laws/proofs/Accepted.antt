-- A generated text is accepted, and its serial run is done.
use Rattle.std.proofs.Common.{ℕ, ◌+◌, ◌*◌, ◌≤◌}
use Rattle.ca_types.specs.Statements.{statements_in}
use Rattle.ca_gen.specs.Generated.{generated}
use Rattle.ca_gen_laws.specs.Runs.{RunsWithin}
use Rattle.ca_gen_laws.proofs.MainTree.{text_tree, text_tokens, text_derives}
use Rattle.ca_gen_laws.proofs.Tokens.{HasText, has_text, short_text, few_tokens}
use Rattle.ca_gen_laws.proofs.Program.{main_plain, the_program, text_resolves}
use Rattle.ca_gen_laws.proofs.Run.{EndsWithin, run_ends}

pub runs_within : (seed size : ℕ) → 1 ≤ size → size ≤ 20000 → RunsWithin 1048576 (5 * size + 2) (generated seed size)
runs_within seed size some most =
    let t : HasText seed size some most = has_text seed size some most in
    let run : EndsWithin size some most t.a t.b t.f t.links t.h (5 * size + 2) = run_ends size some most t.a t.b t.f t.links t.h t.are in
    record {
      short = short_text seed size some most;
      tokens = text_tokens size t.a t.b t.f t.links t.h;
      lexed = t.tokens;
      few = few_tokens size t.a t.b t.f t.links t.h most t.are;
      tree = text_tree size t.a t.b t.f t.links t.h;
      derived = text_derives size t.a t.b t.f t.links t.h;
      program = the_program size t.a t.b (statements_in (main_plain t.f t.links t.h));
      resolved = text_resolves size t.a t.b t.f t.links t.h some most;
      heap = run.heap;
      steps = run.steps;
      done = run.is;
    }
