use Rattle.std.proofs.Common.{◌≡◌, ◌∷◌, [], List, length, sym, subst, arith}
use Rattle.std.specs.Prelude.{IfSome}
use Rattle.ca_program.specs.View.{program_view}
use Rattle.ca_meaning.specs.Expressions.{Invocation}
use Rattle.ca_parallel.specs.Calls.{invocation_of, invocations_of}
use Rattle.ca_run.specs.Turns.{RanTo}
use Rattle.ca_workers.specs.clauses.Runs.{MayWait}
use Rattle.ca_workers.proofs.Beginning.{own_setting, own_waits}
use Rattle.ca_workers.proofs.Opened.{only_one}
use Rattle.ca_workers.proofs.parallel.Parallel.open_first.Goals as goal

pub open-requires : goal.open-requires
open-requires g c =
    let p = program_view c.args.program.now in
    let h = c.args.heap.now in
    let r = c.requires in
    let op = c.index-first-0.result in
    let x = c.in_ok-extent.extent in
    let one : length c.args.first.now ≡ 1 = omega (arith, c.if-many.false) in
    record {
      setting = own_setting p r.program h r.heap c.args.first.now r.typed r.parallel x c.in_ok-extent.ensures;
      waiting = subst (λ (is : List Invocation). MayWait p x h h is) (only_one c.args.first.now op one c.index-first-0.is)
          (own_waits p r.program h r.heap c.args.first.now r.typed r.parallel x c.in_ok-extent.ensures);
      none = r.none;
    }

pub returns : goal.returns
returns g c =
    let p = program_view c.args.program.now in
    let h = c.args.heap.now in
    let op = c.index-first-0.result in
    let one : length c.args.first.now ≡ 1 = omega (arith, c.if-many.false) in
    subst (λ (is : List Invocation). IfSome c.in_ok-opened.opened (λ steps. RanTo p h h is c.args.left h (invocations_of c.open.new.listed.items) steps)) (sym (only_one c.args.first.now op one c.index-first-0.is)) c.in_ok-opened.ensures
