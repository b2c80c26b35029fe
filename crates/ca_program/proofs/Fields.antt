-- The test whether two fields are one decides it.
use Rattle.std.proofs.Common.{◌≡◌, true, ◌&&◌, refl, ap, ◌∙◌}
use Rattle.std.specs.Prelude.{nat_eq}
use Rattle.std.proofs.lemmas.Bool.{eqb-true, eq-eqb, and_parts}
use Rattle.ca_program.specs.declared.program.FieldId.{FieldId}
use Rattle.ca_program.specs.Fields.{same_field}

pub same_fields : (f g : FieldId) → same_field f g ≡ true → f ≡ g
same_fields f g e =
    let b = and_parts (nat_eq f.class.0 g.class.0) (nat_eq f.field g.field) e in
    let c : f.class.0 ≡ g.class.0 = eqb-true f.class.0 g.class.0 b.0 in
    let d : f.field ≡ g.field = eqb-true f.field g.field b.1 in
    λ i. record { class = record { 0 = c i }; field = d i }

pub same_itself : (f : FieldId) → same_field f f ≡ true
same_itself f = ap (λ b. b && nat_eq f.field f.field) (eq-eqb f.class.0 f.class.0 refl) ∙ eq-eqb f.field f.field refl
