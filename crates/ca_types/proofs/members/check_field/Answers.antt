use Rattle.std.proofs.Common.{◌≡◌, subst, ◌∙◌}
use Rattle.std.proofs.lemmas.Result.{err_from_is_err_and}
use Rattle.ca_program.specs.declared.program.FieldInfo.{FieldInfo}
use Rattle.ca_program.specs.declared.program.ValueType.{ValueType}
use Rattle.ca_resolve.specs.Judged.{Answers, fine, beside, unless}
use Rattle.ca_types.specs.Rules.{member_once, field_limit, length_limit, length_stands}
use Rattle.ca_types.specs.Statements.{judge_type}
use Rattle.ca_types.specs.Classes.{item_count}
use Rattle.ca_types.specs.clauses.View.{member_env}
use Rattle.ca_types.proofs.Answering.{own_tells, within_ok, besides, beside_exit, pair_breaks, pair_stands, made_so}
use Rattle.ca_types.proofs.members.check_field.Goals as goal

pub returns-in_err-ty : goal.returns-in_err-ty
returns-in_err-ty c =
    let s = member_env c.args.standing.now in
    let f = c.args.field.now in
    let err = c.in_err-ty.field-0.0 in
    let j = judge_type s.classes.names f.ty in
    let many = field_limit s.numbers.field f.at in
    let long = length_limit f.length f.at in
    let give : ValueType → FieldInfo = λ t. record { name = f.name; ty = t; length = item_count f.length } in
    let inner = besides (λ (t : ValueType). t) c.length_limit-long.result c.check_type-written.result c.both.result long j c.both.ensures c.length_limit-long.ensures c.check_type-written.ensures in
    let p = err_from_is_err_and c.from_residual.result c.from_residual.ensures.1 in
    rw (p.1, p.2)
    (beside_exit (λ (q : Unit {0} × ValueType). q.1) c.bound-many.result c.both.result c.both-2.result err many (beside long j) _ c.in_err-ty.was c.both-2.ensures c.bound-many.ensures inner)

pub returns-in_err-both : goal.returns-in_err-both
returns-in_err-both c =
    let s = member_env c.args.standing.now in
    let f = c.args.field.now in
    let err = c.in_err-both.field-0.0 in
    let j = judge_type s.classes.names f.ty in
    let many = field_limit s.numbers.field f.at in
    let long = length_limit f.length f.at in
    let once = member_once s.names s.number f.name f.at in
    let some = length_stands f.length f.at in
    let give : ValueType → FieldInfo = λ t. record { name = f.name; ty = t; length = item_count f.length } in
    let inner = besides (λ (t : ValueType). t) c.length_limit-long.result c.check_type-written.result c.both.result long j c.both.ensures c.length_limit-long.ensures c.check_type-written.ensures in
    let all = besides (λ (q : Unit {0} × ValueType). q.1) c.bound-many.result c.both.result c.both-2.result many (beside long j) c.both-2.ensures c.bound-many.ensures inner in
    let known : beside many (beside long j) ≡ fine c.in_ok-ty.ty = subst (λ z. Answers (λ (q : Unit {0} × (Unit {0} × ValueType)). q.1.1) z (beside many (beside long j))) c.in_ok-ty.was all in
    let p = err_from_is_err_and c.from_residual-in_err-both.result c.from_residual-in_err-both.ensures.1 in
    rw (p.1, p.2)
    (own_tells err (beside many (beside long j)) (λ (t : ValueType). beside once (unless some (give t))) c.in_ok-ty.ty known
    (pair_breaks c.member_once-again.result c.length_stands-empty.result c.both-3.result err once some (give c.in_ok-ty.ty) c.both-3.ensures c.member_once-again.ensures c.length_stands-empty.ensures c.in_err-both.was))

pub returns : goal.returns
returns c =
    let s = member_env c.args.standing.now in
    let f = c.args.field.now in
    let j = judge_type s.classes.names f.ty in
    let many = field_limit s.numbers.field f.at in
    let long = length_limit f.length f.at in
    let once = member_once s.names s.number f.name f.at in
    let some = length_stands f.length f.at in
    let give : ValueType → FieldInfo = λ t. record { name = f.name; ty = t; length = item_count f.length } in
    let inner = besides (λ (t : ValueType). t) c.length_limit-long.result c.check_type-written.result c.both.result long j c.both.ensures c.length_limit-long.ensures c.check_type-written.ensures in
    let all = besides (λ (q : Unit {0} × ValueType). q.1) c.bound-many.result c.both.result c.both-2.result many (beside long j) c.both-2.ensures c.bound-many.ensures inner in
    let known : beside many (beside long j) ≡ fine c.in_ok-ty.ty = subst (λ z. Answers (λ (q : Unit {0} × (Unit {0} × ValueType)). q.1.1) z (beside many (beside long j))) c.in_ok-ty.was all in
    made_so (λ (t : FieldInfo). t) c.field_of.result _ (give c.in_ok-ty.ty)
    (within_ok (beside many (beside long j)) (λ (t : ValueType). beside once (unless some (give t))) c.in_ok-ty.ty known
    ∙ pair_stands c.member_once-again.result c.length_stands-empty.result c.both-3.result c.in_ok-both.field-0 once some (give c.in_ok-ty.ty) c.both-3.ensures c.member_once-again.ensures c.length_stands-empty.ensures c.in_ok-both.was)
    c.field_of.ensures.made c.field_of.ensures.memory
