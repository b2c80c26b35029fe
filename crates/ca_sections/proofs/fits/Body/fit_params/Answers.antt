use Rattle.std.proofs.Common.{◌≡◌, ◌≤◌, length, Some, refl, sym, ap, ◌∙◌, arith}
use Rattle.ca_program.specs.Kinds.{kinds_in, param_kind}
use Rattle.ca_program.specs.View.{method_view, program_view}
use Rattle.ca_code.specs.Seen.{kind_seen}
use Rattle.ca_sections.proofs.Testing.{argument_in, argument_is, arguments_are, many, never, refuted}
use Rattle.ca_sections.proofs.fits.Body.fit_params.Goals as goal

pub returns-then-m-es : goal.returns-then-m-es
returns-then-m-es c =
    let counts = many c.args.es.now in
    let long = ap length c.as_slice-locals.ensures.value in
    refuted (λ h. omega (arith, h.0.0, h.0.1, counts, long))

pub arguments-init : goal.arguments-init
arguments-init c = λ are. are

pub returns-then-not-is_of : goal.returns-then-not-is_of
returns-then-not-is_of c =
    let p = program_view c.args.self.now.scope.program.now in
    let tys = c.args.self.now.scope.locals.now in
    let i = c.arguments.i in
    let kind : kind_seen c.kind_at.result ≡ param_kind (Some (method_view c.args.m.now)) i = rw c.as_slice-locals.ensures.value at c.kind_at.ensures in
    refuted (λ h. never (c.is_of.ensures.1 (argument_in (kinds_in p tys) (λ i. param_kind (Some (method_view c.args.m.now)) i) c.args.es.now i c.index-es-i.result (omega arith) c.index-es-i.is h.1 ∙ sym kind)) c.if-not-is_of.true)

pub arguments-preserved : goal.arguments-preserved
arguments-preserved c =
    let p = program_view c.args.self.now.scope.program.now in
    let tys = c.args.self.now.scope.locals.now in
    let i = c.arguments.i in
    let kind : kind_seen c.kind_at.result ≡ param_kind (Some (method_view c.args.m.now)) i = rw c.as_slice-locals.ensures.value at c.kind_at.ensures in
    argument_is (kinds_in p tys) (λ i. param_kind (Some (method_view c.args.m.now)) i) c.args.es.now i c.index-es-i.result (omega arith) c.index-es-i.is
    (c.is_of.ensures.0 c.if-not-is_of.false ∙ kind) c.arguments.invariant

pub returns : goal.returns
returns c =
    let p = program_view c.args.self.now.scope.program.now in
    let tys = c.args.self.now.scope.locals.now in
    let locals = c.args.m.now.body.locals.items in
    let es = c.args.es.now in
    let same : c.args.m.now.params ≡ length es = omega arith in
    let few : length es ≤ length locals = omega (arith, ap length c.as_slice-locals.ensures.value) in (
      λ ok. ((same ∙ sym (many es), omega (arith, same, few)), arguments_are (kinds_in p tys) (λ i. param_kind (Some (method_view c.args.m.now)) i) es c.arguments.i (omega arith) c.arguments.invariant),
      λ h. refl,
    )
