-- Types of values, and those of the resolved program.
use Rattle.std.proofs.Common.{◌≡◌, ℕ, List, true, refl, sym, subst, ap, ◌∙◌, inl, inr}
use Rattle.std.specs.Prelude.{Some, ◌&&◌, ◌⊎◌}
use Rattle.ca_tree.specs.declared.tree.UnaryOp.{UnaryOp}
use Rattle.ca_tree.specs.declared.tree.UnaryOp.TheVariants as sign
use Rattle.ca_tree.specs.declared.tree.BinaryOp.{BinaryOp}
use Rattle.ca_tree.specs.declared.tree.BinaryOp.TheVariants.{Or, And, Equal, NotEqual}
use Rattle.ca_tree.specs.declared.tree.TypeNode.{TypeNode}
use Rattle.ca_tree.specs.declared.tree.TypeNode.TheVariants.{Long, Bool as Truth, Pointer}
use Rattle.ca_program.specs.declared.program.ClassId.{ClassId}
use Rattle.ca_program.specs.declared.program.ValueType.{ValueType}
use Rattle.ca_program.specs.declared.program.ValueType.TheVariants.{Long as LongValue, Bool as TruthValue, Pointer as PointerTo}
use Rattle.ca_meaning.specs.ProgramTyped.{SidesTyped, signed_type}
use Rattle.ca_resolve.specs.declared.codes.TheConstants.{UNKNOWN_CLASS}
use Rattle.ca_resolve.specs.Judged.{fine, found}
use Rattle.ca_resolve.specs.Scopes.{Ty, long, truth, pointer, undefined, no_object, ty_of, number_of, pointer_to}
use Rattle.ca_resolve.specs.Rules.{is_long, is_truth, can_hold, can_compare, takes_unary, takes_binary, unary_ty, binary_ty}
use Rattle.ca_types.specs.Statements.{class_defined, judge_type, type_of}
use Rattle.ca_types.specs.Rules.{has_text}
use Rattle.ca_typing.proofs.Judging.{same_fine, made_fine, found_fine}
use Rattle.std.proofs.lemmas.Bool.{eqb-true, and_parts}

-- what is said of the program's type of the values; `nullptr` has the type of each pointer
abbrev pub Holds : Ty → (ValueType → Type 0) → Type 0
Holds long P = P LongValue
Holds truth P = P TruthValue
Holds (pointer c) P = P (PointerTo c)
Holds (undefined name) P = ⊥
Holds no_object P = (c : ClassId) → P (PointerTo c)

-- a type that can be declared
abbrev pub Declared : Ty → Type 0
Declared long = Unit {0}
Declared truth = Unit {0}
Declared (pointer c) = Unit {0}
Declared (undefined name) = ⊥
Declared no_object = ⊥

pub declared_holds : (t : Ty) (P : ValueType → Type 0) → Declared t → P (type_of t) → Holds t P
declared_holds long P d h = h
declared_holds truth P d h = h
declared_holds (pointer c) P d h = h
declared_holds (undefined name) P d h = d
declared_holds no_object P d h = absurd d

pub class_found : (names : List (List ℕ)) (name : List ℕ) (at : _) (c : ClassId) → class_defined names name at ≡ fine c → number_of names name ≡ Some c.0
class_found names name at c h =
    let w = made_fine (found (number_of names name) at UNKNOWN_CLASS) (λ (n : ℕ). record { 0 = n }) c h in
    found_fine (number_of names name) at UNKNOWN_CLASS w.0 w.1 ∙ ap (λ (d : ClassId). Some d.0) w.2

-- a type that is written, where its class is defined
pub type_declared : (names : List (List ℕ)) (ty : TypeNode) (t : ValueType) → judge_type names ty ≡ fine t → Declared (ty_of names ty) × (type_of (ty_of names ty) ≡ t)
type_declared names Long t h = (tt, same_fine LongValue t h)
type_declared names Truth t h = (tt, same_fine TruthValue t h)
type_declared names (Pointer name at) t h =
    let w = made_fine (class_defined names name at) (λ (c : ClassId). PointerTo c) t h in
    let e : pointer w.0 ≡ pointer_to name (number_of names name) = sym (ap (pointer_to name) (class_found names name at w.0 w.1)) in
    subst (λ s. Declared s × (type_of s ≡ t)) e (tt, w.2)

-- a target and a value that it can hold have one type
pub one_type : (t v : Ty) (Q P : ValueType → Type 0) → Holds t Q → Holds v P → can_hold t v ≡ true → (ty : ValueType) × Q ty × P ty
one_type long long Q P q p h = (LongValue, q, p)
one_type truth truth Q P q p h = (TruthValue, q, p)
one_type (pointer c) (pointer d) Q P q p h =
    let e : c.0 ≡ d.0 = eqb-true c.0 d.0 h in
    (PointerTo c, q, subst (λ (n : ℕ). P (PointerTo (record { 0 = n }))) (sym e) p)
one_type (pointer c) no_object Q P q p h = (PointerTo c, q, p c)
one_type (undefined n) v Q P q p h = absurd q
one_type no_object long Q P q p h = absurd (cc)
one_type no_object truth Q P q p h = absurd (cc)
one_type no_object (pointer d) Q P q p h = absurd (cc)
one_type no_object (undefined n) Q P q p h = absurd p
one_type no_object no_object Q P q p h = absurd (cc)
one_type t v Q P q p h = absurd (first_of (assumption, cc))

pub long_type : (t : Ty) (P : ValueType → Type 0) → Holds t P → is_long t ≡ true → P LongValue
long_type long P p h = p
long_type t P p h = absurd (first_of (assumption, cc))

pub truth_type : (t : Ty) (P : ValueType → Type 0) → Holds t P → is_truth t ≡ true → P TruthValue
truth_type truth P p h = p
truth_type t P p h = absurd (first_of (assumption, cc))

pub text_type : (t : Ty) (P : ValueType → Type 0) → Holds t P → has_text t ≡ true → P LongValue ⊎ P TruthValue
text_type long P p h = inl p
text_type truth P p h = inr p
text_type t P p h = absurd (first_of (assumption, cc))

-- two types that can be compared have one type
compared : (a b : Ty) (P Q : ValueType → Type 0) → Holds a P → Holds b Q → can_compare a b ≡ true → (ty : ValueType) × P ty × Q ty
compared no_object no_object P Q p q h = let c : ClassId = record { 0 = 0 } in (PointerTo c, p c, q c)
compared no_object (pointer d) P Q p q h = (PointerTo d, p d, q)
compared no_object (undefined n) P Q p q h = absurd q
compared no_object long P Q p q h = absurd (cc)
compared no_object truth P Q p q h = absurd (cc)
compared long b P Q p q h = one_type long b P Q p q h
compared truth b P Q p q h = one_type truth b P Q p q h
compared (pointer c) b P Q p q h = one_type (pointer c) b P Q p q h
compared (undefined n) b P Q p q h = absurd p

both_long : (a b : Ty) (P Q : ValueType → Type 0) → Holds a P → Holds b Q → is_long a && is_long b ≡ true → P LongValue × Q LongValue
both_long a b P Q p q h = let w = and_parts (is_long a) (is_long b) h in (long_type a P p w.0, long_type b Q q w.1)

both_truth : (a b : Ty) (P Q : ValueType → Type 0) → Holds a P → Holds b Q → is_truth a && is_truth b ≡ true → P TruthValue × Q TruthValue
both_truth a b P Q p q h = let w = and_parts (is_truth a) (is_truth b) h in (truth_type a P p w.0, truth_type b Q q w.1)

-- what an operator takes has the type of its sides
pub sides_typed : (op : BinaryOp) (a b : Ty) (P Q : ValueType → Type 0) → Holds a P → Holds b Q → takes_binary op a b ≡ true
    → (side : ValueType) × SidesTyped op side (type_of (binary_ty op)) × P side × Q side
sides_typed Or a b P Q p q h = let w = both_truth a b P Q p q h in (TruthValue, (refl, refl), w.0, w.1)
sides_typed And a b P Q p q h = let w = both_truth a b P Q p q h in (TruthValue, (refl, refl), w.0, w.1)
sides_typed Equal a b P Q p q h = let w = compared a b P Q p q h in (w.0, refl, w.1, w.2)
sides_typed NotEqual a b P Q p q h = let w = compared a b P Q p q h in (w.0, refl, w.1, w.2)
sides_typed other a b P Q p q h = let w = both_long a b P Q p q h in (LongValue, (refl, refl), w.0, w.1)

pub signed_typed : (op : UnaryOp) (t : Ty) (P : ValueType → Type 0) → Holds t P → takes_unary op t ≡ true → P (signed_type op)
signed_typed sign.Minus t P p h = long_type t P p h
signed_typed sign.Not t P p h = truth_type t P p h

pub unary_declared : (op : UnaryOp) → Declared (unary_ty op) × (type_of (unary_ty op) ≡ signed_type op)
unary_declared sign.Minus = (tt, refl)
unary_declared sign.Not = (tt, refl)

pub binary_declared : (op : BinaryOp) → Declared (binary_ty op)
binary_declared Or = tt
binary_declared other = tt
