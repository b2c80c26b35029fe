use Rattle.std.proofs.Common.{◌≡◌, ℕ, ◌≤◌, List, [], ◌∷◌, length, get_or, sym, ap, ◌∙◌, subst, arith}
use Rattle.ca_program.specs.Instructions.{Code}
use Rattle.ca_program.specs.Plain.{PlainProgram}
use Rattle.ca_program.specs.View.{program_view, statement_view}
use Rattle.ca_code.specs.declared.layout.Code.{Code as CodeHeld}
use Rattle.ca_code.specs.Codes.{code_seen}
use Rattle.ca_code_laws.specs.Told.{IsLaidOut}
use Rattle.ca_sections.specs.declared.loop_code.LoopPlace.{LoopPlace}
use Rattle.ca_sections.specs.Extending.{AllStand, StandsAlone}
use Rattle.ca_sections.specs.Fitting.{LoopStands}
use Rattle.ca_sections.proofs.Extending.{still_laid}
use Rattle.ca_steps.specs.declared.running.Laid.{Laid}
use Rattle.ca_selection.specs.Ops.{Runs}
use Rattle.ca_part_tests.proofs.sections.on_its_own.Goals as goal

pub of-requires-2 : goal.of-requires-2
of-requires-2 g c =
    let p = program_view c.args.program.now in
    record {
      typed = c.requires;
      laid = subst (λ (l : Laid). IsLaidOut p (code_seen l.code)) (sym c.lent-laid.ensures) (subst (λ (d : CodeHeld). IsLaidOut p (code_seen d)) (sym c.in-Ok-of.ensures.0) (still_laid c.in-Ok.code c.in-Ok-with_loops.code c.in-Ok-with_loops.ensures.0 p c.in-Ok.ensures.laid));
      runs = subst (λ (l : Laid). Runs (code_seen l.code) l.code.rows.items l.ops.items) (sym c.lent-laid.ensures) c.in-Ok-of.ensures.1;
    }

first_stands : (p : PlainProgram) (code : Code) (ls : List LoopPlace) (d : LoopPlace) → AllStand p code ls → 1 ≤ length ls → StandsAlone p code (get_or ls 0 d)
first_stands p code [] d all l = absurd (omega (arith, l))
first_stands p code (x ∷ xs) d all l = all.0

pub section_of_loop-answer-requires : goal.section_of_loop-answer-requires
section_of_loop-answer-requires g c =
    let p : PlainProgram = program_view c.args.program.now in
    let same : program_view c.lent-coded.result.now ≡ p = ap program_view (c.lent-coded.ensures ∙ c.in-Ok-of-2.ensures) in
    let codes : c.lent-laid.result.now.code ≡ c.in-Ok-with_loops.code = ap (λ (l : Laid). l.code) c.lent-laid.ensures ∙ c.in-Ok-of.ensures.0 in
    let code : Code = code_seen c.in-Ok-with_loops.code in
    let all : AllStand p code c.as_slice.result.now = subst (λ (ls : List LoopPlace). AllStand p code ls) (sym c.as_slice.ensures.value) c.in-Ok-with_loops.ensures.1 in
    let f : LoopPlace = c.found-item.result in
    let first : StandsAlone p code f = subst (λ (x : LoopPlace). StandsAlone p code x) (sym c.found-item.is) (first_stands p code c.as_slice.result.now f all c.in-len1-up.len_at_least) in
    record {
      laid = subst (λ (q : PlainProgram). IsLaidOut q (code_seen c.lent-laid.result.now.code)) (sym same) (subst (λ (d : CodeHeld). IsLaidOut p (code_seen d)) (sym codes) (still_laid c.in-Ok.code c.in-Ok-with_loops.code c.in-Ok-with_loops.ensures.0 p c.in-Ok.ensures.laid));
      runs = subst (λ (l : Laid). Runs (code_seen l.code) l.code.rows.items l.ops.items) (sym c.lent-laid.ensures) c.in-Ok-of.ensures.1;
      there = subst (λ (q : PlainProgram). LoopStands q (code_seen c.lent-laid.result.now.code) f.place f.types.now f.line (statement_view f.s.now)) (sym same) (subst (λ (d : CodeHeld). LoopStands p (code_seen d) f.place f.types.now f.line (statement_view f.s.now)) (sym codes) first.code);
    }
