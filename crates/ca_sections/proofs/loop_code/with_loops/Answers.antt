use Rattle.std.proofs.Common.{◌<◌, ◌≤◌, ◌++◌, length, map, sym, ap, ◌∙◌, arith, append-nil, Global}
use Rattle.std.specs.declared.vec.Vec.{Vec}
use Rattle.std.proofs.lemmas.List.{length-map, drop_all}
use Rattle.ca_program.specs.View.{program_view}
use Rattle.ca_code.specs.declared.ins.Row.{Row}
use Rattle.ca_code.specs.Seen.{placed}
use Rattle.ca_code.specs.Laying.{laid}
use Rattle.ca_sections.specs.Extending.{ats, begins_from, instructions_of}
use Rattle.ca_sections.proofs.Extending.{all_stand, none_looked}
use Rattle.ca_sections.proofs.loop_code.with_loops.Goals as goal

pub rows-init : goal.rows-init
rows-init c =
    none_looked (program_view c.args.program.now) (map placed c.args.code.rows.items) c.in_ok-rows.rows c.new-places.result.items (ap laid c.in_ok-rows.ensures ∙ ap (λ (v : Vec Row Global). map placed v.items) c.replace-old.ensures.value) c.new-places.ensures.items

pub rows-preserved : goal.rows-preserved
rows-preserved c =
    let old = map placed c.args.code.rows.items in
    let count = ap (λ (v : Vec Row Global). length v.items) c.replace-old.ensures.value in
    let inside : c.rows.at < length old = omega (arith, c.rows-test.true, c.replace-old.result.ok.0, count, length-map c.args.code.rows.items placed) in
    c.in_ok-add_handed.ensures old inside c.rows.invariant

pub returns : goal.returns
returns c =
    let p = program_view c.args.program.now in
    let old = map placed c.args.code.rows.items in
    let ok = c.in_ok-code.ensures.failed in
    let looked = c.rows.invariant in
    let told = looked.adding.begun ok in
    let count = ap (λ (v : Vec Row Global). length v.items) c.replace-old.ensures.value in
    let all : length old ≤ c.rows.at = omega (arith, c.rows-test.false, c.replace-old.result.ok.0, count, length-map c.args.code.rows.items placed) in (
      record { more = told.0; rows = c.in_ok-code.ensures.rows ∙ told.1; same = c.in_ok-code.ensures.same },
      all_stand p c.in_ok-code.code (laid c.rows.rows) c.rows.places.items c.in_ok-code.ensures.rows (looked.adding.each ok),
      sym (append-nil (ats c.rows.places.items)) ∙ (ap (λ ps. ats c.rows.places.items ++ begins_from c.rows.at (instructions_of ps)) (sym (drop_all c.rows.at old all)) ∙ looked.told ok),
    )
