-- The terms that a typed operation makes are well sorted, and each has the sort of its field or local.
use Rattle.std.proofs.Common.{◌≡◌, ◌≢◌, ℕ, zero, suc, ◌+◌, ℤ, pos, neg_ℤ, true, false, List, [], ◌∷◌, ◌++◌, map, take, drop, Option, Some, None, refl, sym, ap, ◌∙◌, arith, subst, slice_set, w64}
use Rattle.std.specs.Prelude.{slice_get, FitsSigned, IsSome}
use Rattle.std.specs.Int.{int_wrap}
use Rattle.std.proofs.lemmas.Int.{SFits-int_wrap}
use Rattle.ca_tree.specs.declared.tree.AssignOp.{AssignOp}
use Rattle.ca_tree.specs.declared.tree.AssignOp.TheVariants as assign
use Rattle.ca_tree.specs.declared.tree.BinaryOp.{BinaryOp}
use Rattle.ca_tree.specs.declared.tree.BinaryOp.TheVariants.{Or, And, Equal, NotEqual, Less, Greater, LessEqual, GreaterEqual, Plus, Minus, Times, Divide, Remainder, BitAnd, BitOr, BitXor, Max, Min}
use Rattle.ca_tree.specs.declared.tree.UnaryOp.{UnaryOp}
use Rattle.ca_tree.specs.declared.tree.UnaryOp.TheVariants as sign
use Rattle.ca_program.specs.declared.program.FieldInfo.{FieldInfo}
use Rattle.ca_program.specs.declared.program.ValueType.{ValueType}
use Rattle.ca_program.specs.declared.program.ValueType.TheVariants as type
use Rattle.ca_program.specs.Plain.{PlainProgram, Expression, unary}
use Rattle.ca_program.specs.Plain as plain
use Rattle.ca_meaning.specs.ProgramTyped.{Scope, IsArray, SidesTyped, signed_type, ExpressionTyped, AssignTyped}
use Rattle.ca_meaning.specs.ProgramTyped as typing
use Rattle.ca_parallel.specs.Separable.{IsNonzeroLiteral, MayStandRight}
use Rattle.ca_forms.specs.declared.sort.Sort.{Sort}
use Rattle.ca_forms.specs.declared.sort.Sort.TheVariants.{Long, Bool as Truth, LongArray}
use Rattle.ca_norm.specs.Terms.{PlainTerm, choose, select, put, add_at, sweep, sort_of, IsScalar, IsOf}
use Rattle.ca_shared_terms.specs.Starts.{sort_of_type, sort_of_array, sort_of_slot, starts}
use Rattle.ca_symbolic.specs.States.{PlainDemand, term_at, start_term, parameters}
use Rattle.ca_symbolic.specs.Execution.{sort_in, divisor, operation, signed_term, put_term}
use Rattle.ca_symbolic.specs.Demands.{right_guard}
use Rattle.ca_verdicts.proofs.MetDemands.{DemandsSorted}
use Rattle.ca_symbolic_laws.proofs.Operators.{negated_zero}

-- a well sorted term of the sort
pub record IsGood (s : Sort) (t : PlainTerm) : Type 0 where
  pub sort : sort_of t ≡ s
  pub is : IsOf s t

pub own_sort : {s : Sort} {t : PlainTerm} → IsGood s t → IsOf (sort_of t) t
own_sort {s} {t} g = subst (λ z. IsOf z t) (sym g.sort) g.is

-- terms of arrays and of their items are sorted as their parts are
pub record ArraysSorted : Type 0 where
  pub selected : (ty : ValueType) (a i : PlainTerm) → IsGood (sort_of_array ty) a → IsGood Long i → IsGood (sort_of_type ty) (select a i)
  pub put_at : (ty : ValueType) (a i v : PlainTerm) → IsGood (sort_of_array ty) a → IsGood Long i → IsGood (sort_of_type ty) v → IsGood (sort_of_array ty) (put a i v)
  pub added_at : (a i v : PlainTerm) → IsGood LongArray a → IsGood Long i → IsGood Long v → IsGood LongArray (add_at a i v)
  pub swept : (a f t v : PlainTerm) → IsGood LongArray a → IsGood Long f → IsGood Long t → IsGood Long v → IsGood LongArray (sweep a f t v)
  pub chosen : (s : Sort) (c a b : PlainTerm) → IsOf Truth c → IsGood s a → IsGood s b → IsGood s (choose c a b)

-- Lists of terms

-- a good term for each sort
abbrev pub AllGood : List Sort → List PlainTerm → Type 0
AllGood [] [] = Unit {0}
AllGood (s ∷ ss) (t ∷ ts) = IsGood s t × AllGood ss ts
AllGood _ _ = ⊥

pub at_place : (ss : List Sort) (ts : List PlainTerm) (n : ℕ) (s : Sort) → AllGood ss ts → slice_get ss n ≡ Some s → IsGood s (term_at ts n)
at_place [] [] n s a e = absurd cc
at_place [] (t ∷ ts) n s a e = absurd a
at_place (r ∷ ss) [] n s a e = absurd a
at_place (r ∷ ss) (t ∷ ts) zero s a e = let same : r ≡ s = cc in subst (λ z. IsGood z t) same a.0
at_place (r ∷ ss) (t ∷ ts) (suc n) s a e = at_place ss ts n s a.1 e

pub set_good : (ss : List Sort) (ts : List PlainTerm) (n : ℕ) (s : Sort) (t : PlainTerm) → AllGood ss ts → slice_get ss n ≡ Some s → IsGood s t → AllGood ss (slice_set ts n t)
set_good [] [] n s t a e g = a
set_good [] (u ∷ ts) n s t a e g = absurd a
set_good (r ∷ ss) [] n s t a e g = absurd a
set_good (r ∷ ss) (u ∷ ts) zero s t a e g = let same : s ≡ r = cc in (subst (λ z. IsGood z t) same g, a.1)
set_good (r ∷ ss) (u ∷ ts) (suc n) s t a e g = (a.0, set_good ss ts n s t a.1 e g)

pub mapped : {A : Type 0} (f : A → Sort) (xs : List A) (n : ℕ) (y : A) → slice_get xs n ≡ Some y → slice_get (map f xs) n ≡ Some (f y)
mapped f [] n y e = absurd cc
mapped f (x ∷ xs) zero y e = let same : x ≡ y = cc in ap (λ z. Some (f z)) same
mapped f (x ∷ xs) (suc n) y e = mapped f xs n y e

abbrev pub slot_sort : FieldInfo → Sort
slot_sort f = sort_of_slot f.ty f.length

pub starts_good : (n : ℕ) (fs : List FieldInfo) → AllGood (map slot_sort fs) (starts n fs)
starts_good n [] = tt
starts_good n (f ∷ fs) = (record { sort = refl; is = refl }, starts_good (n + 1) fs)

pub start_good : (ty : ValueType) → IsGood (sort_of_type ty) (start_term ty)
start_good type.Long = record { sort = refl; is = (refl, record { sfits = omega arith }) }
start_good type.Bool = record { sort = refl; is = refl }
start_good (type.Pointer c) = record { sort = refl; is = refl }

pub all_start_good : (tys : List ValueType) → AllGood (map sort_of_type tys) (map start_term tys)
all_start_good [] = tt
all_start_good (ty ∷ tys) = (start_good ty, all_start_good tys)

pub locals_good : (g k n : ℕ) (tys : List ValueType) → AllGood (map sort_of_type tys) (parameters g k (take n tys) ++ map start_term (drop n tys))
locals_good g k zero tys = all_start_good tys
locals_good g k (suc n) [] = tt
locals_good g k (suc n) (ty ∷ tys) = (record { sort = refl; is = refl }, locals_good g (k + 1) n tys)

-- Sorts

pub scalar_type : (ty : ValueType) → IsScalar (sort_of_type ty)
scalar_type type.Long = tt
scalar_type type.Bool = tt
scalar_type (type.Pointer c) = tt

pub scalar_at : (s : Sort) (ty : ValueType) → s ≡ sort_of_type ty → IsScalar s
scalar_at s ty e = subst IsScalar (sym e) (scalar_type ty)

-- what a field of the type says of its sort
pub record InfoAt (o : Option FieldInfo) (s : Sort) : Type 0 where
  pub info : FieldInfo
  pub is : o ≡ Some info
  pub sort : slot_sort info ≡ s

scalar_slot : (u ty : ValueType) (n : Option ℕ) → u ≡ ty → n ≡ None → sort_of_slot u n ≡ sort_of_type ty
scalar_slot u ty None e f = ap sort_of_type e
scalar_slot u ty (Some n) e f = cc

array_slot : (u ty : ValueType) (n : Option ℕ) → u ≡ ty → IsSome n → sort_of_slot u n ≡ sort_of_array ty
array_slot u ty None e f = let z : false ≡ true = f in cc
array_slot u ty (Some n) e f = ap sort_of_array e

pub scalar_info : (o : Option FieldInfo) (ty : ValueType) → typing.IsScalar o ty → InfoAt o (sort_of_type ty)
scalar_info None ty i = absurd i
scalar_info (Some f) ty i = record { info = f; is = refl; sort = scalar_slot f.ty ty f.length i.0 i.1 }

pub array_info : (o : Option FieldInfo) (ty : ValueType) → IsArray o ty → InfoAt o (sort_of_array ty)
array_info None ty i = absurd i
array_info (Some f) ty i = record { info = f; is = refl; sort = array_slot f.ty ty f.length i.0 i.1 }

pub read_sort : (o : Option FieldInfo) (ty : ValueType) → typing.IsScalar o ty → sort_in o ≡ sort_of_type ty
read_sort None ty i = absurd i
read_sort (Some f) ty i = ap sort_of_type i.0

-- Divisors

-- a number other than 0
pub record Divisor (o : Option ℤ) : Type 0 where
  pub number : ℤ
  pub is : o ≡ Some number
  pub fits : FitsSigned w64 number
  pub nonzero : number ≢ pos 0

abbrev pub DivisorFits : BinaryOp → Option ℤ → Type 0
DivisorFits Divide o = Divisor o
DivisorFits Remainder o = Divisor o
DivisorFits op o = Unit {0}

literal_fits : (p : PlainProgram) (s : Scope) (e : Expression) (ty : ValueType) → ExpressionTyped p s e ty → IsNonzeroLiteral e → Divisor (divisor e)
literal_fits p s (plain.number n) ty t h = record { number = n; is = refl; fits = t.1; nonzero = h }
literal_fits p s (unary sign.Minus (plain.number n)) ty t h =
    record { number = int_wrap w64 (neg_ℤ n); is = refl; fits = SFits-int_wrap w64 (neg_ℤ n); nonzero = λ e. h (negated_zero n t.1.1 e) }
literal_fits p s e ty t h = absurd h

pub divisor_fits : (p : PlainProgram) (s : Scope) (op : BinaryOp) (e : Expression) (ty : ValueType) → ExpressionTyped p s e ty → MayStandRight op e → DivisorFits op (divisor e)
divisor_fits p s Divide e ty t h = literal_fits p s e ty t h
divisor_fits p s Remainder e ty t h = literal_fits p s e ty t h
divisor_fits p s op e ty t h = tt

-- Operators

pub of_type : (side ty : ValueType) (t : PlainTerm) → side ≡ ty → IsGood (sort_of_type side) t → IsOf (sort_of_type ty) t
of_type side ty t e g = subst (λ z. IsOf (sort_of_type z) t) e g.is

-- a well sorted term of the sort of a type
pub good : (ty : ValueType) (s : Sort) (t : PlainTerm) → sort_of_type ty ≡ s → sort_of t ≡ s → IsOf (sort_of_type ty) t → IsGood (sort_of_type ty) t
good ty s t e f i = record { sort = f ∙ sym e; is = i }

same_good : (side : ValueType) (a b : PlainTerm) → IsGood (sort_of_type side) a → IsGood (sort_of_type side) b → IsScalar (sort_of a) × IsOf (sort_of a) a × IsOf (sort_of a) b
same_good side a b g h = (scalar_at (sort_of a) side g.sort, own_sort g, subst (λ z. IsOf z b) (sym g.sort) h.is)

pub operation_good : (op : BinaryOp) (side ty : ValueType) → SidesTyped op side ty → (a b : PlainTerm) → IsGood (sort_of_type side) a → IsGood (sort_of_type side) b → (n : Option ℤ) → DivisorFits op n → IsGood (sort_of_type ty) (operation op a b n)
operation_good Or side ty s a b g h n d = good ty Truth _ (ap sort_of_type s.1) refl (ap sort_of_type s.1, of_type side type.Bool a s.0 g, of_type side type.Bool b s.0 h)
operation_good And side ty s a b g h n d = good ty Truth _ (ap sort_of_type s.1) refl (ap sort_of_type s.1, of_type side type.Bool a s.0 g, of_type side type.Bool b s.0 h)
operation_good Equal side ty s a b g h n d =
    let q : IsScalar (sort_of a) × IsOf (sort_of a) a × IsOf (sort_of a) b = same_good side a b g h in
    good ty Truth _ (ap sort_of_type s) refl (ap sort_of_type s, q.0, q.1, q.2)
operation_good NotEqual side ty s a b g h n d =
    let q : IsScalar (sort_of a) × IsOf (sort_of a) a × IsOf (sort_of a) b = same_good side a b g h in
    good ty Truth _ (ap sort_of_type s) refl (ap sort_of_type s, (refl, q.0, q.1, q.2))
operation_good Less side ty s a b g h n d = good ty Truth _ (ap sort_of_type s.1) refl (ap sort_of_type s.1, of_type side type.Long a s.0 g, of_type side type.Long b s.0 h)
operation_good Greater side ty s a b g h n d = good ty Truth _ (ap sort_of_type s.1) refl (ap sort_of_type s.1, of_type side type.Long b s.0 h, of_type side type.Long a s.0 g)
operation_good LessEqual side ty s a b g h n d = good ty Truth _ (ap sort_of_type s.1) refl (ap sort_of_type s.1, of_type side type.Long a s.0 g, of_type side type.Long b s.0 h)
operation_good GreaterEqual side ty s a b g h n d = good ty Truth _ (ap sort_of_type s.1) refl (ap sort_of_type s.1, of_type side type.Long b s.0 h, of_type side type.Long a s.0 g)
operation_good Plus side ty s a b g h n d = good ty Long _ (ap sort_of_type s.1) refl (ap sort_of_type s.1, of_type side type.Long a s.0 g, of_type side type.Long b s.0 h)
operation_good Minus side ty s a b g h n d = good ty Long _ (ap sort_of_type s.1) refl (ap sort_of_type s.1, of_type side type.Long a s.0 g, of_type side type.Long b s.0 h)
operation_good Times side ty s a b g h n d = good ty Long _ (ap sort_of_type s.1) refl (ap sort_of_type s.1, of_type side type.Long a s.0 g, of_type side type.Long b s.0 h)
operation_good Divide side ty s a b g h n d =
    subst (λ z. IsGood (sort_of_type ty) (operation Divide a b z)) (sym d.is) (good ty Long _ (ap sort_of_type s.1) refl (ap sort_of_type s.1, of_type side type.Long a s.0 g, d.fits, d.nonzero))
operation_good Remainder side ty s a b g h n d =
    subst (λ z. IsGood (sort_of_type ty) (operation Remainder a b z)) (sym d.is) (good ty Long _ (ap sort_of_type s.1) refl (ap sort_of_type s.1, of_type side type.Long a s.0 g, d.fits, d.nonzero))
operation_good BitAnd side ty s a b g h n d = good ty Long _ (ap sort_of_type s.1) refl (ap sort_of_type s.1, of_type side type.Long a s.0 g, of_type side type.Long b s.0 h)
operation_good BitOr side ty s a b g h n d = good ty Long _ (ap sort_of_type s.1) refl (ap sort_of_type s.1, of_type side type.Long a s.0 g, of_type side type.Long b s.0 h)
operation_good BitXor side ty s a b g h n d = good ty Long _ (ap sort_of_type s.1) refl (ap sort_of_type s.1, of_type side type.Long a s.0 g, of_type side type.Long b s.0 h)
operation_good Max side ty s a b g h n d = good ty Long _ (ap sort_of_type s.1) refl (ap sort_of_type s.1, of_type side type.Long a s.0 g, of_type side type.Long b s.0 h)
operation_good Min side ty s a b g h n d = good ty Long _ (ap sort_of_type s.1) refl (ap sort_of_type s.1, of_type side type.Long a s.0 g, of_type side type.Long b s.0 h)

pub signed_good : (op : UnaryOp) (ty : ValueType) (a : PlainTerm) → ty ≡ signed_type op → IsGood (sort_of_type (signed_type op)) a → IsGood (sort_of_type ty) (signed_term op a)
signed_good sign.Minus ty a e g = good ty Long _ (ap sort_of_type e) refl (ap sort_of_type e, g.is)
signed_good sign.Not ty a e g = good ty Truth _ (ap sort_of_type e) refl (ap sort_of_type e, g.is)

pub guard_good : (op : BinaryOp) (side ty : ValueType) → SidesTyped op side ty → (g a : PlainTerm) → IsOf Truth g → IsGood (sort_of_type side) a → IsOf Truth (right_guard op g a)
guard_good And side ty s g a h k = (refl, h, of_type side type.Bool a s.0 k)
guard_good Or side ty s g a h k = (refl, h, (refl, of_type side type.Bool a s.0 k))
guard_good op side ty s g a h k = h

pub put_good : (op : AssignOp) (ty : ValueType) → AssignTyped op ty → (old t : PlainTerm) → IsGood (sort_of_type ty) old → IsGood (sort_of_type ty) t → IsGood (sort_of_type ty) (put_term op old t)
put_good assign.Put ty a old t g h = h
put_good assign.Add ty a old t g h = good ty Long _ (ap sort_of_type a) refl (ap sort_of_type a, of_type ty type.Long old a g, of_type ty type.Long t a h)
put_good assign.Sub ty a old t g h = good ty Long _ (ap sort_of_type a) refl (ap sort_of_type a, of_type ty type.Long old a g, of_type ty type.Long t a h)
put_good assign.Mul ty a old t g h = good ty Long _ (ap sort_of_type a) refl (ap sort_of_type a, of_type ty type.Long old a g, of_type ty type.Long t a h)
put_good assign.BitAnd ty a old t g h = good ty Long _ (ap sort_of_type a) refl (ap sort_of_type a, of_type ty type.Long old a g, of_type ty type.Long t a h)
put_good assign.BitOr ty a old t g h = good ty Long _ (ap sort_of_type a) refl (ap sort_of_type a, of_type ty type.Long old a g, of_type ty type.Long t a h)
put_good assign.BitXor ty a old t g h = good ty Long _ (ap sort_of_type a) refl (ap sort_of_type a, of_type ty type.Long old a g, of_type ty type.Long t a h)

pub both_sorted : (ds es : List PlainDemand) → DemandsSorted ds → DemandsSorted es → DemandsSorted (ds ++ es)
both_sorted [] es s t = t
both_sorted (d ∷ ds) es s t = (s.0, both_sorted ds es s.1 t)
