use Rattle.std.proofs.Common.{◌≡◌, sym, ◌∙◌, ap}
use Rattle.std.proofs.lemmas.Result.{err_from_is_err_and}
use Rattle.std.specs.Option.{option_map}
use Rattle.ca_program.specs.Plain as program
use Rattle.ca_resolve.specs.Judged.{fine, both, unless}
use Rattle.ca_resolve.specs.Scopes.{Ty, Target}
use Rattle.ca_resolve.specs.LocalView.{ty_view}
use Rattle.ca_resolve.specs.View.{target_view}
use Rattle.ca_resolve.proofs.Judging.{both_exit, both_fine}
use Rattle.ca_types.specs.Rules.{creates_nothing}
use Rattle.ca_types.specs.Statements.{Source, put}
use Rattle.ca_types.specs.clauses.View.{source_view}
use Rattle.ca_types.proofs.Answering.{own_tells, within_ok, stands, breaks}
use Rattle.ca_types.proofs.puts.assignment.Goals as goal

pub returns-in_err-target : goal.returns-in_err-target
returns-in_err-target c = λ j k x y.
    let p = err_from_is_err_and c.from_residual.result c.from_residual.ensures.1 in
    rw (p.1, p.2) (both_exit target_view source_view c.args.target c.args.source c.both.result c.in_err-target.field-0.0 j k _ c.in_err-target.was c.both.ensures x y)

pub returns-in-Err : goal.returns-in-Err
returns-in-Err c = λ j k x y.
    let err = c.in-Err.e in
    let created = creates_nothing (option_map ty_view c.args.returned.now) c.args.creates c.args.at in
    let give : (Target × Ty) × Source → program.Statement = λ q. put c.args.at.line q.0.0 c.args.op q.1 in
    let q : (Target × Ty) × Source = (target_view c.in_ok-target.target, source_view c.in_ok-target.source) in
    let known : both j k ≡ fine q = both_fine target_view source_view c.args.target c.args.source c.both.result (c.in_ok-target.target, c.in_ok-target.source) j k c.in_ok-target.was c.both.ensures x y in
    own_tells err (both j k) (λ (z : (Target × Ty) × Source). unless created (give z)) q known
    (breaks c.creates_nothing.result err created (give q) c.creates_nothing.ensures c.in-Err.is)

pub returns-in-Ok : goal.returns-in-Ok
returns-in-Ok c = λ j k x y.
    let created = creates_nothing (option_map ty_view c.args.returned.now) c.args.creates c.args.at in
    let give : (Target × Ty) × Source → program.Statement = λ q. put c.args.at.line q.0.0 c.args.op q.1 in
    let q : (Target × Ty) × Source = (target_view c.in_ok-target.target, source_view c.in_ok-target.source) in
    let known : both j k ≡ fine q = both_fine target_view source_view c.args.target c.args.source c.both.result (c.in_ok-target.target, c.in_ok-target.source) j k c.in_ok-target.was c.both.ensures x y in
    within_ok (both j k) (λ (z : (Target × Ty) × Source). unless created (give z)) q known
    ∙ (stands c.creates_nothing.result tt created (give q) c.creates_nothing.ensures c.in-Ok.is ∙ ap (λ (z : program.Statement). fine z) (sym c.put.ensures))
