-- The types of values: of what operators give, of locals, and of what slots hold.
use Rattle.std.proofs.Common.{◌≡◌, ℕ, zero, suc, List, [], ◌∷◌, ◌++◌, length, map, take, drop, Option, Some, None, Result, Ok, Err, refl, ap, sym, subst, ◌∙◌, arith, Bool, true, false, ℤ, pos, negsuc, ◌+ℤ◌, ◌-ℤ◌, ◌*ℤ◌, length-set, inl, inr, neg_ℤ}
use Rattle.std.specs.Prelude.{slice_get, slice_set, FitsSigned, replicate, int_rem, int_div, int_lt, bit_and, bit_or, bit_xor, cond, ◌⊎◌, IsSome}
use Rattle.std.specs.Int.{w64, cast_signed, cast_unsigned, int_bit_and, int_bit_or, int_bit_xor}
use Rattle.std.proofs.lemmas.Int.{SFits-int_wrap, fits_signed_from_abs, rem_below, ints}
use Rattle.ca_tree.specs.declared.tree.AssignOp.{AssignOp}
use Rattle.ca_tree.specs.declared.tree.AssignOp.TheVariants.{Put, Add, Sub, Mul}
use Rattle.ca_tree.specs.declared.tree.AssignOp.TheVariants as change
use Rattle.ca_tree.specs.declared.tree.UnaryOp.{UnaryOp}
use Rattle.ca_tree.specs.declared.tree.UnaryOp.TheVariants as sign
use Rattle.ca_tree.specs.declared.tree.BinaryOp.{BinaryOp}
use Rattle.ca_tree.specs.declared.tree.BinaryOp.TheVariants.{Or, And, Equal, NotEqual, Less, Greater, LessEqual, GreaterEqual, Plus, Minus, Times, Divide, Remainder, BitAnd, BitOr, BitXor, Max, Min}
use Rattle.ca_program.specs.declared.program.ClassId.{ClassId}
use Rattle.ca_program.specs.declared.program.FieldInfo.{FieldInfo}
use Rattle.ca_program.specs.declared.program.ValueType.{ValueType}
use Rattle.ca_program.specs.declared.program.ValueType.TheVariants.{Long as LongType, Bool as BoolType, Pointer}
use Rattle.ca_program.specs.Plain.{PlainClass}
use Rattle.ca_model.specs.declared.value.Value.{Value as Datum}
use Rattle.ca_model.specs.declared.value.Value.TheVariants.{Long, Bool as Truth, Null, Ref}
use Rattle.ca_model.specs.declared.value.Slot.{Slot}
use Rattle.ca_model.specs.declared.value.Slot.TheVariants.{One, Many}
use Rattle.ca_model.specs.declared.value.Object.{Object}
use Rattle.ca_model.specs.declared.value.TrapKind.{TrapKind}
use Rattle.ca_model.specs.Heaps.{fields_of}
use Rattle.ca_model.specs.Slots.{start_of, start_slot, start_slots, put_item, put_slot}
use Rattle.ca_model.specs.Typed.{HasType, AllHaveType, SlotTyped, SlotsTyped, ObjectTyped}
use Rattle.ca_meaning.specs.Operators.{is_zero, operated, operated_longs, signed, assigned, assigned_longs, operated_truths, operated_others}
use Rattle.ca_meaning.specs.Expressions.{Out, value_at, one_in, items_in, found, indexed, answer, decided, unless_decided}
use Rattle.ca_meaning.specs.WellTyped.{ValuesTyped}
use Rattle.ca_meaning.specs.ProgramTyped.{IsScalar, IsArray, SidesTyped, signed_type, AssignTyped}
use Rattle.ca_meaning.proofs.Putting.{put_stores}
use Rattle.ca_meaning_laws.specs.Typed.{Yields, yields, yields_trap}

-- ---- numbers

cast_fits : (n : ℕ) → FitsSigned w64 (cast_signed w64 n)
cast_fits n = omega (arith, ints)

and_fits : (a b : ℤ) → FitsSigned w64 (int_bit_and w64 a b)
and_fits a b = cast_fits (bit_and (cast_unsigned w64 a) (cast_unsigned w64 b))

or_fits : (a b : ℤ) → FitsSigned w64 (int_bit_or w64 a b)
or_fits a b = cast_fits (bit_or (cast_unsigned w64 a) (cast_unsigned w64 b))

xor_fits : (a b : ℤ) → FitsSigned w64 (int_bit_xor w64 a b)
xor_fits a b = cast_fits (bit_xor (cast_unsigned w64 a) (cast_unsigned w64 b))

-- one of two numbers that fit
one_fits : (c : Bool) (a b : ℤ) → FitsSigned w64 a → FitsSigned w64 b → FitsSigned w64 (cond c a b)
one_fits true a b f g = f
one_fits false a b f g = g

rem_fits : (a b : ℤ) → FitsSigned w64 b → is_zero b ≡ false → FitsSigned w64 (int_rem a b)
rem_fits a (pos zero) f z = cc
rem_fits a (pos (suc n)) f z = fits_signed_from_abs w64 (int_rem a (pos (suc n))) (omega (arith, rem_below a (pos (suc n)) (omega arith), f.sfits))
rem_fits a (negsuc n) f z = fits_signed_from_abs w64 (int_rem a (negsuc n)) (omega (arith, rem_below a (negsuc n) (omega arith), f.sfits))

-- ---- operators

-- what an operator gives, if it gives a value
abbrev ResultTyped : List Object → Result Datum TrapKind → ValueType → Type 0
ResultTyped h (Ok v) ty = HasType h v ty
ResultTyped h (Err kind) ty = Unit {0}

divided_typed : (h : List Object) (op : BinaryOp) (a b : ℤ) → FitsSigned w64 b → (op ≡ Divide) ⊎ (op ≡ Remainder) → ResultTyped h (operated_longs op a b) LongType
divided_typed h op a b f (inl e) = rw e (quotient (is_zero b) refl)
  where
    quotient : (z : Bool) → is_zero b ≡ z → ResultTyped h (operated_longs Divide a b) LongType
    quotient true e = rw e tt
    quotient false e = rw e (cast_fits (cast_unsigned w64 (int_div a b)))
divided_typed h op a b f (inr e) = rw e (remainder (is_zero b) refl)
  where
    remainder : (z : Bool) → is_zero b ≡ z → ResultTyped h (operated_longs Remainder a b) LongType
    remainder true e = rw e tt
    remainder false e = rw e (rem_fits a b f e)

longs_typed : (h : List Object) (op : BinaryOp) (a b : ℤ) (ty : ValueType) → FitsSigned w64 a → FitsSigned w64 b → SidesTyped op LongType ty → ResultTyped h (operated_longs op a b) ty
longs_typed h Or a b ty f g t = let e : LongType ≡ BoolType = t.0 in cc
longs_typed h And a b ty f g t = let e : LongType ≡ BoolType = t.0 in cc
longs_typed h Equal a b ty f g t = rw t tt
longs_typed h NotEqual a b ty f g t = rw t tt
longs_typed h Less a b ty f g t = rw t.1 tt
longs_typed h Greater a b ty f g t = rw t.1 tt
longs_typed h LessEqual a b ty f g t = rw t.1 tt
longs_typed h GreaterEqual a b ty f g t = rw t.1 tt
longs_typed h Plus a b ty f g t = rw t.1 (SFits-int_wrap w64 (a +ℤ b))
longs_typed h Minus a b ty f g t = rw t.1 (SFits-int_wrap w64 (a -ℤ b))
longs_typed h Times a b ty f g t = rw t.1 (SFits-int_wrap w64 (a *ℤ b))
longs_typed h Divide a b ty f g t = rw t.1 (divided_typed h Divide a b g (inl refl))
longs_typed h Remainder a b ty f g t = rw t.1 (divided_typed h Remainder a b g (inr refl))
longs_typed h BitAnd a b ty f g t = rw t.1 (and_fits a b)
longs_typed h BitOr a b ty f g t = rw t.1 (or_fits a b)
longs_typed h BitXor a b ty f g t = rw t.1 (xor_fits a b)
longs_typed h Max a b ty f g t = rw t.1 (one_fits (int_lt b a) a b f g)
longs_typed h Min a b ty f g t = rw t.1 (one_fits (int_lt b a) b a g f)

truths_typed : (h : List Object) (op : BinaryOp) (a b : Bool) (ty : ValueType) → SidesTyped op BoolType ty → HasType h (operated_truths op a b) ty
truths_typed h Or a b ty t = rw t.1 tt
truths_typed h And a b ty t = rw t.1 tt
truths_typed h Equal a b ty t = rw t tt
truths_typed h NotEqual a b ty t = rw t tt
truths_typed h Less a b ty t = let e : BoolType ≡ LongType = t.0 in cc
truths_typed h Greater a b ty t = let e : BoolType ≡ LongType = t.0 in cc
truths_typed h LessEqual a b ty t = let e : BoolType ≡ LongType = t.0 in cc
truths_typed h GreaterEqual a b ty t = let e : BoolType ≡ LongType = t.0 in cc
truths_typed h Plus a b ty t = let e : BoolType ≡ LongType = t.0 in cc
truths_typed h Minus a b ty t = let e : BoolType ≡ LongType = t.0 in cc
truths_typed h Times a b ty t = let e : BoolType ≡ LongType = t.0 in cc
truths_typed h Divide a b ty t = let e : BoolType ≡ LongType = t.0 in cc
truths_typed h Remainder a b ty t = let e : BoolType ≡ LongType = t.0 in cc
truths_typed h BitAnd a b ty t = let e : BoolType ≡ LongType = t.0 in cc
truths_typed h BitOr a b ty t = let e : BoolType ≡ LongType = t.0 in cc
truths_typed h BitXor a b ty t = let e : BoolType ≡ LongType = t.0 in cc
truths_typed h Max a b ty t = let e : BoolType ≡ LongType = t.0 in cc
truths_typed h Min a b ty t = let e : BoolType ≡ LongType = t.0 in cc

pointers_typed : (h : List Object) (op : BinaryOp) (v w : Datum) (c : ClassId) (ty : ValueType) → SidesTyped op (Pointer c) ty → HasType h (operated_others op v w) ty
pointers_typed h Or v w c ty t = let e : Pointer c ≡ BoolType = t.0 in cc
pointers_typed h And v w c ty t = let e : Pointer c ≡ BoolType = t.0 in cc
pointers_typed h Equal v w c ty t = rw t tt
pointers_typed h NotEqual v w c ty t = rw t tt
pointers_typed h Less v w c ty t = let e : Pointer c ≡ LongType = t.0 in cc
pointers_typed h Greater v w c ty t = let e : Pointer c ≡ LongType = t.0 in cc
pointers_typed h LessEqual v w c ty t = let e : Pointer c ≡ LongType = t.0 in cc
pointers_typed h GreaterEqual v w c ty t = let e : Pointer c ≡ LongType = t.0 in cc
pointers_typed h Plus v w c ty t = let e : Pointer c ≡ LongType = t.0 in cc
pointers_typed h Minus v w c ty t = let e : Pointer c ≡ LongType = t.0 in cc
pointers_typed h Times v w c ty t = let e : Pointer c ≡ LongType = t.0 in cc
pointers_typed h Divide v w c ty t = let e : Pointer c ≡ LongType = t.0 in cc
pointers_typed h Remainder v w c ty t = let e : Pointer c ≡ LongType = t.0 in cc
pointers_typed h BitAnd v w c ty t = let e : Pointer c ≡ LongType = t.0 in cc
pointers_typed h BitOr v w c ty t = let e : Pointer c ≡ LongType = t.0 in cc
pointers_typed h BitXor v w c ty t = let e : Pointer c ≡ LongType = t.0 in cc
pointers_typed h Max v w c ty t = let e : Pointer c ≡ LongType = t.0 in cc
pointers_typed h Min v w c ty t = let e : Pointer c ≡ LongType = t.0 in cc

operated_typed : (h : List Object) (op : BinaryOp) (v w : Datum) (side ty : ValueType) → SidesTyped op side ty → HasType h v side → HasType h w side → ResultTyped h (operated op v w) ty
operated_typed h op (Long a) (Long b) LongType ty t hv hw = longs_typed h op a b ty hv hw t
operated_typed h op (Long a) (Truth b) LongType ty t hv hw = absurd hw
operated_typed h op (Long a) Null LongType ty t hv hw = absurd hw
operated_typed h op (Long a) (Ref b) LongType ty t hv hw = absurd hw
operated_typed h op (Long a) w BoolType ty t hv hw = absurd hv
operated_typed h op (Long a) w (Pointer c) ty t hv hw = absurd hv
operated_typed h op (Truth a) (Truth b) BoolType ty t hv hw = truths_typed h op a b ty t
operated_typed h op (Truth a) (Long b) BoolType ty t hv hw = absurd hw
operated_typed h op (Truth a) Null BoolType ty t hv hw = absurd hw
operated_typed h op (Truth a) (Ref b) BoolType ty t hv hw = absurd hw
operated_typed h op (Truth a) w LongType ty t hv hw = absurd hv
operated_typed h op (Truth a) w (Pointer c) ty t hv hw = absurd hv
operated_typed h op Null w LongType ty t hv hw = absurd hv
operated_typed h op Null w BoolType ty t hv hw = absurd hv
operated_typed h op Null w (Pointer c) ty t hv hw = pointers_typed h op Null w c ty t
operated_typed h op (Ref a) w LongType ty t hv hw = absurd hv
operated_typed h op (Ref a) w BoolType ty t hv hw = absurd hv
operated_typed h op (Ref a) w (Pointer c) ty t hv hw = pointers_typed h op (Ref a) w c ty t

answer_of : (h : List Object) (line : ℕ) (r : Result Datum TrapKind) (k : ℕ) (ty : ValueType) → ResultTyped h r ty → Yields (λ v. HasType h v ty) (answer line r k)
answer_of h line (Ok v) k ty t = yields v k t
answer_of h line (Err kind) k ty t = yields_trap _

-- an operator on sides of their type
pub answer_typed : (h : List Object) (line : ℕ) (op : BinaryOp) (v w : Datum) (side ty : ValueType) (k : ℕ) → SidesTyped op side ty → HasType h v side → HasType h w side → Yields (λ v. HasType h v ty) (answer line (operated op v w) k)
answer_typed h line op v w side ty k t hv hw = answer_of h line (operated op v w) k ty (operated_typed h op v w side ty t hv hw)

-- the value, if there is one, has the type
abbrev OptionTyped : List Object → Option Datum → ValueType → Type 0
OptionTyped h None ty = Unit {0}
OptionTyped h (Some v) ty = HasType h v ty

decided_typed : (h : List Object) (op : BinaryOp) (v : Datum) (side ty : ValueType) → SidesTyped op side ty → OptionTyped h (decided op v) ty
decided_typed h And (Truth false) side ty t = rw t.1 tt
decided_typed h And (Truth true) side ty t = tt
decided_typed h And (Long x) side ty t = tt
decided_typed h And Null side ty t = tt
decided_typed h And (Ref x) side ty t = tt
decided_typed h Or (Truth true) side ty t = rw t.1 tt
decided_typed h Or (Truth false) side ty t = tt
decided_typed h Or (Long x) side ty t = tt
decided_typed h Or Null side ty t = tt
decided_typed h Or (Ref x) side ty t = tt
decided_typed h Equal v side ty t = tt
decided_typed h NotEqual v side ty t = tt
decided_typed h Less v side ty t = tt
decided_typed h Greater v side ty t = tt
decided_typed h LessEqual v side ty t = tt
decided_typed h GreaterEqual v side ty t = tt
decided_typed h Plus v side ty t = tt
decided_typed h Minus v side ty t = tt
decided_typed h Times v side ty t = tt
decided_typed h Divide v side ty t = tt
decided_typed h Remainder v side ty t = tt
decided_typed h BitAnd v side ty t = tt
decided_typed h BitOr v side ty t = tt
decided_typed h BitXor v side ty t = tt
decided_typed h Max v side ty t = tt
decided_typed h Min v side ty t = tt

unless_of : (h : List Object) (d : Option Datum) (k : ℕ) (o : Out Datum) (ty : ValueType) → OptionTyped h d ty → Yields (λ v. HasType h v ty) o → Yields (λ v. HasType h v ty) (unless_decided d k o)
unless_of h (Some v) k o ty t y = yields v k t
unless_of h None k o ty t y = y

pub unless_typed : (h : List Object) (op : BinaryOp) (v : Datum) (k : ℕ) (o : Out Datum) (side ty : ValueType) → SidesTyped op side ty → Yields (λ v. HasType h v ty) o → Yields (λ v. HasType h v ty) (unless_decided (decided op v) k o)
unless_typed h op v k o side ty t y = unless_of h (decided op v) k o ty (decided_typed h op v side ty t) y

pub signed_typed : (h : List Object) (op : UnaryOp) (v : Datum) → HasType h v (signed_type op) → HasType h (signed op v) (signed_type op)
signed_typed h sign.Minus (Long a) hv = SFits-int_wrap w64 (neg_ℤ a)
signed_typed h sign.Minus (Truth a) hv = absurd hv
signed_typed h sign.Minus Null hv = absurd hv
signed_typed h sign.Minus (Ref a) hv = absurd hv
signed_typed h sign.Not (Truth a) hv = tt
signed_typed h sign.Not (Long a) hv = absurd hv
signed_typed h sign.Not Null hv = absurd hv
signed_typed h sign.Not (Ref a) hv = absurd hv

assigned_fits : (op : AssignOp) (a b : ℤ) → FitsSigned w64 b → FitsSigned w64 (assigned_longs op a b)
assigned_fits Put a b f = f
assigned_fits Add a b f = SFits-int_wrap w64 (a +ℤ b)
assigned_fits Sub a b f = SFits-int_wrap w64 (a -ℤ b)
assigned_fits Mul a b f = SFits-int_wrap w64 (a *ℤ b)
assigned_fits change.BitAnd a b f = and_fits a b
assigned_fits change.BitOr a b f = or_fits a b
assigned_fits change.BitXor a b f = xor_fits a b

numbers_assigned : (h : List Object) (op : AssignOp) (old v : Datum) → HasType h old LongType → HasType h v LongType → HasType h (assigned op old v) LongType
numbers_assigned h op (Long a) (Long b) ho hv = assigned_fits op a b hv
numbers_assigned h op (Long a) (Truth b) ho hv = absurd hv
numbers_assigned h op (Long a) Null ho hv = absurd hv
numbers_assigned h op (Long a) (Ref b) ho hv = absurd hv
numbers_assigned h op (Truth a) v ho hv = absurd ho
numbers_assigned h op Null v ho hv = absurd ho
numbers_assigned h op (Ref a) v ho hv = absurd ho

compound_typed : (h : List Object) (op : AssignOp) (old v : Datum) (ty : ValueType) → ty ≡ LongType → HasType h old ty → HasType h v ty → HasType h (assigned op old v) ty
compound_typed h op old v ty e ho hv = rw e (numbers_assigned h op old v (subst (λ z. HasType h old z) e ho) (subst (λ z. HasType h v z) e hv))

-- what an assignment stores
pub assigned_typed : (h : List Object) (op : AssignOp) (old v : Datum) (ty : ValueType) → AssignTyped op ty → HasType h old ty → HasType h v ty → HasType h (assigned op old v) ty
assigned_typed h Put old v ty t ho hv = rw (put_stores old v) hv
assigned_typed h Add old v ty t ho hv = compound_typed h Add old v ty t ho hv
assigned_typed h Sub old v ty t ho hv = compound_typed h Sub old v ty t ho hv
assigned_typed h Mul old v ty t ho hv = compound_typed h Mul old v ty t ho hv
assigned_typed h change.BitAnd old v ty t ho hv = compound_typed h change.BitAnd old v ty t ho hv
assigned_typed h change.BitOr old v ty t ho hv = compound_typed h change.BitOr old v ty t ho hv
assigned_typed h change.BitXor old v ty t ho hv = compound_typed h change.BitXor old v ty t ho hv

-- ---- locals

pub local_typed : (h : List Object) (ls : List Datum) (tys : List ValueType) (l : ℕ) (ty : ValueType) → ValuesTyped h ls tys → slice_get tys l ≡ Some ty → HasType h (value_at ls l) ty
local_typed h [] [] l ty t e = cc
local_typed h [] (x ∷ tys) l ty t e = absurd t
local_typed h (v ∷ ls) [] l ty t e = absurd t
local_typed h (v ∷ ls) (x ∷ tys) zero ty t e = let same : x ≡ ty = cc in subst (λ z. HasType h v z) same t.0
local_typed h (v ∷ ls) (x ∷ tys) (suc l) ty t e = local_typed h ls tys l ty t.1 e

pub local_set : (h : List Object) (ls : List Datum) (tys : List ValueType) (l : ℕ) (v : Datum) (ty : ValueType) → ValuesTyped h ls tys → slice_get tys l ≡ Some ty → HasType h v ty → ValuesTyped h (slice_set ls l v) tys
local_set h [] [] l v ty t e hv = cc
local_set h [] (x ∷ tys) l v ty t e hv = absurd t
local_set h (u ∷ ls) [] l v ty t e hv = absurd t
local_set h (u ∷ ls) (x ∷ tys) zero v ty t e hv = let same : ty ≡ x = cc in (subst (λ z. HasType h v z) same hv, t.1)
local_set h (u ∷ ls) (x ∷ tys) (suc l) v ty t e hv = (t.0, local_set h ls tys l v ty t.1 e hv)

start_typed : (h : List Object) (ty : ValueType) → HasType h (start_of ty) ty
start_typed h LongType = omega (arith, ints)
start_typed h BoolType = tt
start_typed h (Pointer c) = tt

pub starts_typed : (h : List Object) (tys : List ValueType) → ValuesTyped h (map start_of tys) tys
starts_typed h [] = tt
starts_typed h (ty ∷ tys) = (start_typed h ty, starts_typed h tys)

-- arguments, and what the other locals start with
pub frame_typed : (h : List Object) (vs : List Datum) (n : ℕ) (tys : List ValueType) → ValuesTyped h vs (take n tys) → ValuesTyped h (vs ++ map start_of (drop n tys)) tys
frame_typed h [] zero tys t = starts_typed h tys
frame_typed h (v ∷ vs) zero tys t = absurd t
frame_typed h [] (suc n) [] t = tt
frame_typed h (v ∷ vs) (suc n) [] t = absurd t
frame_typed h [] (suc n) (ty ∷ tys) t = absurd t
frame_typed h (v ∷ vs) (suc n) (ty ∷ tys) t = (t.0, frame_typed h vs n tys t.1)

-- ---- slots

one_typed : (h : List Object) (s : Slot) (had ty : ValueType) (len : Option ℕ) → SlotTyped h s had len → had ≡ ty → len ≡ None → HasType h (one_in (Some s)) ty
one_typed h (One v) had ty None t e n = subst (λ z. HasType h v z) e t
one_typed h (One v) had ty (Some m) t e n = absurd t
one_typed h (Many vs) had ty None t e n = absurd t
one_typed h (Many vs) had ty (Some m) t e n = cc

many_typed : (h : List Object) (s : Slot) (had ty : ValueType) (len : Option ℕ) → SlotTyped h s had len → had ≡ ty → IsSome len → AllHaveType h (items_in (Some s)) ty
many_typed h (One v) had ty None t e n = cc
many_typed h (One v) had ty (Some m) t e n = absurd t
many_typed h (Many vs) had ty None t e n = absurd t
many_typed h (Many vs) had ty (Some m) t e n = subst (λ z. AllHaveType h vs z) e t.1

scalar_typed : (h : List Object) (ss : List Slot) (fs : List FieldInfo) (f : ℕ) (ty : ValueType) → SlotsTyped h ss fs → IsScalar (slice_get fs f) ty → HasType h (one_in (slice_get ss f)) ty
scalar_typed h [] [] f ty t e = absurd e
scalar_typed h [] (x ∷ fs) f ty t e = absurd t
scalar_typed h (s ∷ ss) [] f ty t e = absurd t
scalar_typed h (s ∷ ss) (x ∷ fs) zero ty t e = one_typed h s x.ty ty x.length t.0 e.0 e.1
scalar_typed h (s ∷ ss) (x ∷ fs) (suc f) ty t e = scalar_typed h ss fs f ty t.1 e

array_typed : (h : List Object) (ss : List Slot) (fs : List FieldInfo) (f : ℕ) (ty : ValueType) → SlotsTyped h ss fs → IsArray (slice_get fs f) ty → AllHaveType h (items_in (slice_get ss f)) ty
array_typed h [] [] f ty t e = absurd e
array_typed h [] (x ∷ fs) f ty t e = absurd t
array_typed h (s ∷ ss) [] f ty t e = absurd t
array_typed h (s ∷ ss) (x ∷ fs) zero ty t e = many_typed h s x.ty ty x.length t.0 e.0 e.1
array_typed h (s ∷ ss) (x ∷ fs) (suc f) ty t e = array_typed h ss fs f ty t.1 e

pub own_scalar : (h : List Object) (k : Option PlainClass) (ss : List Slot) (f : ℕ) (ty : ValueType) → ObjectTyped h k ss → IsScalar (slice_get (fields_of k) f) ty → HasType h (one_in (slice_get ss f)) ty
own_scalar h None ss f ty t e = absurd t
own_scalar h (Some k) ss f ty t e = scalar_typed h ss k.fields f ty t e

pub own_array : (h : List Object) (k : Option PlainClass) (ss : List Slot) (f : ℕ) (ty : ValueType) → ObjectTyped h k ss → IsArray (slice_get (fields_of k) f) ty → AllHaveType h (items_in (slice_get ss f)) ty
own_array h None ss f ty t e = absurd t
own_array h (Some k) ss f ty t e = array_typed h ss k.fields f ty t e

item_typed : (h : List Object) (items : List Datum) (i : ℕ) (ty : ValueType) → AllHaveType h items ty → OptionTyped h (slice_get items i) ty
item_typed h [] i ty t = tt
item_typed h (v ∷ vs) zero ty t = t.0
item_typed h (v ∷ vs) (suc i) ty t = item_typed h vs i ty t.1

found_typed : (h : List Object) (line i : ℕ) (o : Option Datum) (k : ℕ) (ty : ValueType) → OptionTyped h o ty → Yields (λ item. HasType h item.value ty) (found line i o k)
found_typed h line i (Some v) k ty t = yields _ k t
found_typed h line i None k ty t = yields_trap _

-- the item that an index names
pub indexed_typed : (h : List Object) (line : ℕ) (items : List Datum) (v : Datum) (k : ℕ) (ty : ValueType) → AllHaveType h items ty → Yields (λ item. HasType h item.value ty) (indexed line items v k)
indexed_typed h line items (Long (pos i)) k ty t = found_typed h line i (slice_get items i) k ty (item_typed h items i ty t)
indexed_typed h line items (Long (negsuc i)) k ty t = yields_trap _
indexed_typed h line items (Truth x) k ty t = yields_trap _
indexed_typed h line items Null k ty t = yields_trap _
indexed_typed h line items (Ref x) k ty t = yields_trap _

-- ---- puts

all_set : (h : List Object) (vs : List Datum) (i : ℕ) (v : Datum) (ty : ValueType) → AllHaveType h vs ty → HasType h v ty → AllHaveType h (slice_set vs i v) ty
all_set h [] i v ty t hv = tt
all_set h (u ∷ vs) zero v ty t hv = (hv, t.1)
all_set h (u ∷ vs) (suc i) v ty t hv = (t.0, all_set h vs i v ty t.1 hv)

put_item_typed : (h : List Object) (s : Slot) (i : ℕ) (v : Datum) (ty : ValueType) (len : Option ℕ) → SlotTyped h s ty len → HasType h v ty → SlotTyped h (put_item s i v) ty len
put_item_typed h (One u) i v ty None t hv = hv
put_item_typed h (One u) i v ty (Some m) t hv = absurd t
put_item_typed h (Many vs) i v ty None t hv = absurd t
put_item_typed h (Many vs) i v ty (Some m) t hv = (length-set vs i v ∙ t.0, all_set h vs i v ty t.1 hv)

-- there is such a field, whose value or items have the type
abbrev pub FieldHas : Option FieldInfo → ValueType → Type 0
FieldHas None ty = ⊥
FieldHas (Some f) ty = f.ty ≡ ty

pub scalar_has : (o : Option FieldInfo) (ty : ValueType) → IsScalar o ty → FieldHas o ty
scalar_has None ty e = e
scalar_has (Some f) ty e = e.0

pub array_has : (o : Option FieldInfo) (ty : ValueType) → IsArray o ty → FieldHas o ty
array_has None ty e = e
array_has (Some f) ty e = e.0

put_slot_typed : (h : List Object) (ss : List Slot) (fs : List FieldInfo) (f i : ℕ) (v : Datum) (ty : ValueType) → SlotsTyped h ss fs → FieldHas (slice_get fs f) ty → HasType h v ty → SlotsTyped h (put_slot ss f i v) fs
put_slot_typed h [] [] f i v ty t e hv = tt
put_slot_typed h [] (x ∷ fs) f i v ty t e hv = absurd t
put_slot_typed h (s ∷ ss) [] f i v ty t e hv = absurd t
put_slot_typed h (s ∷ ss) (x ∷ fs) zero i v ty t e hv = (put_item_typed h s i v x.ty x.length t.0 (subst (λ z. HasType h v z) (sym e) hv), t.1)
put_slot_typed h (s ∷ ss) (x ∷ fs) (suc f) i v ty t e hv = (t.0, put_slot_typed h ss fs f i v ty t.1 e hv)

pub own_put : (h : List Object) (k : Option PlainClass) (ss : List Slot) (f i : ℕ) (v : Datum) (ty : ValueType) → ObjectTyped h k ss → FieldHas (slice_get (fields_of k) f) ty → HasType h v ty → ObjectTyped h k (put_slot ss f i v)
own_put h None ss f i v ty t e hv = absurd t
own_put h (Some k) ss f i v ty t e hv = put_slot_typed h ss k.fields f i v ty t e hv

-- ---- new objects

all_copies : (h : List Object) (n : ℕ) (v : Datum) (ty : ValueType) → HasType h v ty → AllHaveType h (replicate n v) ty
all_copies h zero v ty t = tt
all_copies h (suc n) v ty t = (t, all_copies h n v ty t)

copies : (n : ℕ) (v : Datum) → length (replicate n v) ≡ n
copies zero v = refl
copies (suc n) v = ap suc (copies n v)

start_slot_typed : (h : List Object) (ty : ValueType) (len : Option ℕ) → SlotTyped h (start_slot ty len) ty len
start_slot_typed h ty None = start_typed h ty
start_slot_typed h ty (Some n) = (copies n (start_of ty), all_copies h n (start_of ty) ty (start_typed h ty))

pub start_slots_typed : (h : List Object) (fs : List FieldInfo) → SlotsTyped h (start_slots fs) fs
start_slots_typed h [] = tt
start_slots_typed h (f ∷ fs) = (start_slot_typed h f.ty f.length, start_slots_typed h fs)
