-- The first slots of a body, where a call or a loop begins.
use Rattle.std.proofs.Common.{◌≡◌, ℕ, suc, ◌<◌, ◌≤◌, ◌^◌, List, [], ◌∷◌, length, map, Some, refl, sym, ap, ◌∙◌, subst, take, Vec, Global}
use Rattle.std.specs.Prelude.{true, get_or, slice_get}
use Rattle.std.specs.Cmp.{second_so}
use Rattle.std.proofs.lemmas.Option.{slice_get-get_or, same_Some}
use Rattle.ca_lists.proofs.Places.{get_map}
use Rattle.ca_program.specs.declared.program.ValueType.{ValueType}
use Rattle.ca_program.specs.Plain.{PlainProgram}
use Rattle.ca_program.specs.Kinds.{Kind, kind_type, kinds_in, param_kind, param_kinds}
use Rattle.ca_model.specs.declared.value.Value.{Value as Datum}
use Rattle.ca_parallel.specs.declared.op.Op.{Op}
use Rattle.ca_code.specs.declared.ins.Kind.{Kind as Held}
use Rattle.ca_code.specs.declared.layout.Code.{Code as CodeHeld}
use Rattle.ca_code.specs.Codes.{code_seen, kinds_seen}
use Rattle.ca_code.specs.Seen.{kind_seen}
use Rattle.ca_code_laws.specs.Machine.{loaded}
use Rattle.ca_code_laws.specs.Told.{Holds, IsLaidOut}
use Rattle.ca_code_laws.specs.Words.{all_have, has_kind}
use Rattle.ca_code_laws.proofs.Heeding.{loaded_is}
use Rattle.ca_code_laws.proofs.Sections.{all_mapped, kind_mapped}
use Rattle.ca_code_laws.proofs.Steps.{length_mapped, length_taken}
use Rattle.ca_steps.specs.declared.frames.Frames.{Frames}
use Rattle.ca_steps.specs.Stands.{seen}
use Rattle.ca_steps.specs.Handed.{IsFirst, Made, PutLocals}
use Rattle.ca_sections.specs.Fitting.{Entered}

-- the kinds at a place of the rows of a code
pub kinds_known : (rows all : List (Vec Held Global)) (i : ℕ) (x : Vec Held Global) (ks : List Held) → all ≡ rows → i < length rows → x ≡ get_or all i x → ks ≡ x.items → slice_get (map kinds_seen rows) i ≡ Some (map kind_seen ks)
kinds_known rows all i x ks same lt at is =
    get_map kinds_seen rows i x (slice_get-get_or rows i x lt ∙ ap Some (sym (at ∙ ap (λ (xs : List (Vec Held Global)). get_or xs i x) same)))
    ∙ ap (λ xs. Some (map kind_seen xs)) (sym is)

-- values of so many kinds are as many
have_many : (κs : List Kind) (vs : List Datum) → all_have κs vs ≡ true → length κs ≡ length vs
have_many [] [] e = refl
have_many [] (v ∷ vs) e = cc
have_many (κ ∷ κs) [] e = cc
have_many (κ ∷ κs) (v ∷ vs) e = ap suc (have_many κs vs (second_so (has_kind κ v) (all_have κs vs) e))

module _ (m0 m1 m2 : Frames) (κs : List Kind) (vs : List Datum) (made : Made m0 m1) (put : PutLocals m1 κs vs m2) where
  pub below_none : m2.below ≡ []
  below_none = ap (λ m. m.below) put.same ∙ made.below

  pub base_none : m2.base ≡ 0
  base_none = ap (λ m. m.base) put.same ∙ made.first.base

  pub first_still : IsFirst m2
  first_still = record {
    base = base_none;
    room = subst (λ n. 2 ^ 8 ≤ n) (sym (ap (λ m. m.room) put.same)) made.first.room;
    least = subst (λ n. 2 ^ 8 ≤ n) (sym put.many) made.first.least;
    most = subst (λ n. n ≤ 2 ^ 32) (sym put.many) made.first.most;
  }

  pub held_by : (by : ℕ → Kind) → ((i : ℕ) (κ : Kind) → slice_get κs i ≡ Some κ → by i ≡ κ) → Holds by (seen m2.slots.items) 0 vs
  held_by by fits =
      let slots : seen m2.slots.items ≡ loaded (seen m1.slots.items) 0 vs = put.slots ∙ ap (λ b. loaded (seen m1.slots.items) b vs) made.first.base in
      subst (λ f. Holds by f 0 vs) (sym slots) (loaded_is by κs vs (seen m1.slots.items) 0 put.have fits)

-- the body of an operation
pub entered_so : (p : PlainProgram) (c : CodeHeld) → IsLaidOut p (code_seen c) → (op : Op) (m0 m1 m2 : Frames) (kinds : List Held) → slice_get (code_seen c).params op.op.0 ≡ Some (map kind_seen kinds)
    → Made m0 m1 → PutLocals m1 (map kind_seen kinds) op.args m2 → Entered p op m2
entered_so p c laid op m0 m1 m2 kinds there made put = record {
  first = first_still m0 m1 m2 (map kind_seen kinds) op.args made put;
  below = below_none m0 m1 m2 (map kind_seen kinds) op.args made put;
  arguments = λ m found le.
      let are : map kind_seen kinds ≡ param_kinds m = same_Some _ _ (sym there ∙ (laid.ops op.op.0 m found).1) in
      let have : all_have (param_kinds m) op.args ≡ true = ap (λ κs. all_have κs op.args) (sym are) ∙ put.have in
      let many : length (param_kinds m) ≡ length op.args = have_many (param_kinds m) op.args have in
      let taken : length (param_kinds m) ≡ m.params = length_mapped kind_type (take m.params m.body.locals) ∙ length_taken m.params m.body.locals le in
      (sym taken ∙ many, held_by m0 m1 m2 (map kind_seen kinds) op.args made put (λ i. param_kind (Some m) i) (λ i κ e. kind_mapped m.body.locals m.params i κ (ap (λ κs. slice_get κs i) (sym are) ∙ e)));
}

-- the locals of a loop
pub locals_held : (p : PlainProgram) (tys : List ValueType) (vs : List Datum) (m0 m1 m2 : Frames) → Made m0 m1 → PutLocals m1 (map kind_type tys) vs m2 → Holds (kinds_in p tys).locals (seen m2.slots.items) 0 vs × (length vs ≡ length tys)
locals_held p tys vs m0 m1 m2 made put =
    (held_by m0 m1 m2 (map kind_type tys) vs made put (kinds_in p tys).locals (λ i κ e. all_mapped tys i κ e), sym (have_many (map kind_type tys) vs put.have) ∙ length_mapped kind_type tys)
