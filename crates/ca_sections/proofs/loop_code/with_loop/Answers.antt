use Rattle.std.proofs.Common.{◌≡◌, ◌++◌, map, sym, ap, ◌∙◌, subst, Global}
use Rattle.std.specs.declared.vec.Vec.{Vec}
use Rattle.ca_program.specs.View.{program_view, statement_view}
use Rattle.ca_program.specs.Instructions.{HasAt}
use Rattle.ca_code.specs.declared.ins.Row.{Row}
use Rattle.ca_code.specs.Codes.{code_seen}
use Rattle.ca_code.specs.Seen.{placed}
use Rattle.ca_code.specs.Laying.{laid}
use Rattle.ca_code_laws.specs.Known.{loop_alone}
use Rattle.ca_sections.proofs.Extending.{last_there}
use Rattle.ca_sections.proofs.loop_code.with_loop.Goals as goal

pub returns : goal.returns
returns c =
    let p = program_view c.args.program.now in
    let body = loop_alone p c.args.types.now c.args.line (statement_view c.args.s.now) in
    let ok = c.in_ok-code.ensures.failed in
    let before = laid c.in_ok-rows.rows in
    let first : before ≡ map placed c.args.code.rows.items = ap laid c.in_ok-rows.ensures ∙ ap (λ (v : Vec Row Global). map placed v.items) c.replace-old.ensures.value in
    let rows = c.in_ok-code.ensures.rows ∙ c.add_loop.ensures.adds.says ok in (
      record { more = body; rows = rows ∙ ap (λ xs. xs ++ body) first; same = c.in_ok-code.ensures.same },
      record { fits = c.add_loop.ensures.fits ok; there = subst (λ n. HasAt (code_seen c.in_ok-code.code) n body) (sym c.here-place.ensures.value) (last_there c.in_ok-code.code before body rows) },
    )
