use Rattle.std.proofs.Common.{length, nat_eq, subst}
use Rattle.ca_tree.specs.View.{option_right_view}
use Rattle.ca_program.specs.declared.program.ValueType.{ValueType}
use Rattle.ca_program.specs.View.{statement_view}
use Rattle.ca_resolve.specs.Judged.{Answers, Finds, both, beside, broken_if}
use Rattle.ca_resolve.specs.Scopes.{ty_of, find_local, to_local}
use Rattle.ca_resolve.specs.View.{scope_view}
use Rattle.ca_resolve.specs.declared.codes.TheConstants.{TOO_MANY_LOCALS}
use Rattle.ca_types.specs.declared.limits.TheConstants.{MOST_LOCALS}
use Rattle.ca_types.specs.Rules.{listed, local_once, creates_nothing, local_limit}
use Rattle.ca_types.specs.Statements.{judge_type, judge_start, start_creates, judge_declaration}
use Rattle.ca_types.specs.clauses.View.{env_view, source_view}
use Rattle.ca_types.specs.declared.puts.Source.{Source as CodeSource}
use Rattle.ca_types.proofs.Answering.{joined, besides}
use Rattle.ca_types.proofs.puts.check_local.Goals as goal

pub returns : goal.returns
returns c =
    let s = env_view c.args.walk.now in
    let right = option_right_view c.args.value.now in
    let declared = ty_of s.scope.classes.names c.args.ty.now in
    let j = judge_type s.scope.classes.names c.args.ty.now in
    let k = judge_start s.scope declared right in
    let limit = local_limit (length s.locals) c.args.name_at in
    let created = creates_nothing s.result (start_creates right) c.args.at in
    let again = local_once s.first (find_local s.scope.locals c.args.name.now) c.args.name_at in
    let start : Answers source_view c.check_start-start.result k =
    subst (λ z. Answers source_view c.check_start-start.result (judge_start z declared right)) c.scope.ensures
    (subst (λ z. Answers source_view c.check_start-start.result (judge_start (scope_view c.scope.result) z right)) c.ty_of-declared.ensures c.check_start-start.ensures) in
    let passed : Finds c.bound-passed.result (listed limit) = subst (λ n. Finds c.bound-passed.result (listed (broken_if (nat_eq n MOST_LOCALS) c.args.name_at TOO_MANY_LOCALS))) c.count.ensures c.bound-passed.ensures in
    let parts = joined (λ (t : ValueType). t) source_view c.check_type-written.result c.check_start-start.result c.both.result j k c.both.ensures c.check_type-written.ensures start in
    let all = besides (λ (p : ValueType × CodeSource). (p.0, source_view p.1)) c.bound-passed.result c.both.result c.both-parts.result limit (both j k) c.both-parts.ensures passed parts in
    let finds : Finds c.creates_nothing-created.result (listed created) = subst (λ b. Finds c.creates_nothing-created.result (listed (creates_nothing s.result b c.args.at))) c.start_creates.ensures c.creates_nothing-created.ensures in
    let parts_judged = beside limit (both j k) in
    subst (λ l. Answers statement_view c.declaration.result (judge_declaration c.args.at.line (to_local l) created again parts_judged)) c.in_ok-id.ensures
    (c.declaration.ensures created again parts_judged finds c.local_once-again.ensures all)
