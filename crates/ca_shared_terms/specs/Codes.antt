-- A term as a tree of numbers, by which proofs tell terms apart. It stands here because the model of a
-- weighed term names it.
use Rattle.std.specs.Prelude.{◌≡◌, ℕ, Bool, true, false, refl}
use Rattle.std.specs.Coded.{Coded, coded_ℤ}
use Rattle.std.proofs.Common.{ap, ap₂, arith}
use base.Stored.{Gv, gnil, gnum, gcons}
use Rattle.ca_forms.specs.declared.sort.Sort.{Sort}
use Rattle.ca_forms.specs.declared.sort.Sort.TheVariants.{Long, Bool as Truth, Pointer, LongArray, BoolArray, PointerArray}
use Rattle.ca_folds.specs.Operators.{fold_number, fold_inj}
use Rattle.ca_norm.specs.Terms.{PlainTerm, PlainTerms, number, truth, null, atom, add, sub, neg, mul, divide, remainder, less, less_equal, same, not, and, or, choose, read, read_at, result, select, put, add_at, fold, sweep, no_terms, term_and}

abbrev pub sort_code : Sort → Gv
sort_code Long = gnum 0
sort_code Truth = gnum 1
sort_code Pointer = gnum 2
sort_code LongArray = gnum 3
sort_code BoolArray = gnum 4
sort_code PointerArray = gnum 5

abbrev pub truth_code : Bool → Gv
truth_code false = gnum 0
truth_code true = gnum 1

abbrev pub kind : ℕ → Gv → Gv
kind n v = gcons (gnum n) v

-- by which terms of two forms are told apart; that of null is none of theirs
abbrev kind_of : Gv → ℕ
kind_of (gcons (gnum n) v) = n
kind_of v = 24

abbrev pub pair : Gv → Gv → Gv
pair v w = gcons v w

abbrev mutual
  pub term_code : PlainTerm → Gv
  term_code (number n) = kind 0 (coded_ℤ.code n)
  term_code (truth b) = kind 1 (truth_code b)
  term_code null = gnil
  term_code (atom s g n) = kind 2 (pair (sort_code s) (pair (gnum g) (gnum n)))
  term_code (add a b) = kind 3 (pair (term_code a) (term_code b))
  term_code (sub a b) = kind 4 (pair (term_code a) (term_code b))
  term_code (neg a) = kind 5 (term_code a)
  term_code (mul a b) = kind 6 (pair (term_code a) (term_code b))
  term_code (divide a n) = kind 7 (pair (term_code a) (coded_ℤ.code n))
  term_code (remainder a n) = kind 8 (pair (term_code a) (coded_ℤ.code n))
  term_code (less a b) = kind 9 (pair (term_code a) (term_code b))
  term_code (less_equal a b) = kind 10 (pair (term_code a) (term_code b))
  term_code (same a b) = kind 11 (pair (term_code a) (term_code b))
  term_code (not a) = kind 12 (term_code a)
  term_code (and a b) = kind 13 (pair (term_code a) (term_code b))
  term_code (or a b) = kind 14 (pair (term_code a) (term_code b))
  term_code (choose c a b) = kind 15 (pair (term_code c) (pair (term_code a) (term_code b)))
  term_code (read s p c f) = kind 16 (pair (sort_code s) (pair (term_code p) (pair (gnum c) (gnum f))))
  term_code (read_at s p c f i) = kind 17 (pair (sort_code s) (pair (term_code p) (pair (gnum c) (pair (gnum f) (term_code i)))))
  term_code (result s m p ts) = kind 18 (pair (sort_code s) (pair (gnum m) (pair (term_code p) (terms_code ts))))
  term_code (select a i) = kind 19 (pair (term_code a) (term_code i))
  term_code (put a i v) = kind 20 (pair (term_code a) (pair (term_code i) (term_code v)))
  term_code (add_at a i v) = kind 21 (pair (term_code a) (pair (term_code i) (term_code v)))
  term_code (fold o a b) = kind 22 (pair (gnum (fold_number o)) (pair (term_code a) (term_code b)))
  term_code (sweep a f t v) = kind 23 (pair (term_code a) (pair (term_code f) (pair (term_code t) (term_code v))))

  pub terms_code : PlainTerms → Gv
  terms_code no_terms = gnil
  terms_code (term_and t ts) = pair (term_code t) (terms_code ts)

pub sort_inj : (s t : Sort) → sort_code s ≡ sort_code t → s ≡ t
sort_inj Long Long e = refl
sort_inj Truth Truth e = refl
sort_inj Pointer Pointer e = refl
sort_inj LongArray LongArray e = refl
sort_inj BoolArray BoolArray e = refl
sort_inj PointerArray PointerArray e = refl
sort_inj s t e = cc

truth_inj : (a b : Bool) → truth_code a ≡ truth_code b → a ≡ b
truth_inj true true e = refl
truth_inj false false e = refl
truth_inj a b e = cc

mutual
  pub term_inj : (t u : PlainTerm) → term_code t ≡ term_code u → t ≡ u
  term_inj (number m) (number n) e = ap number (coded_ℤ.inj m n cc)
  term_inj (truth a) (truth b) e = ap truth (truth_inj a b cc)
  term_inj null null e = refl
  term_inj (atom s g m) (atom t h n) e = let same_sort : s ≡ t = sort_inj s t cc in cc
  term_inj (add a b) (add c d) e = ap₂ add (term_inj a c cc) (term_inj b d cc)
  term_inj (sub a b) (sub c d) e = ap₂ sub (term_inj a c cc) (term_inj b d cc)
  term_inj (neg a) (neg c) e = ap neg (term_inj a c cc)
  term_inj (mul a b) (mul c d) e = ap₂ mul (term_inj a c cc) (term_inj b d cc)
  term_inj (divide a m) (divide c n) e = ap₂ divide (term_inj a c cc) (coded_ℤ.inj m n cc)
  term_inj (remainder a m) (remainder c n) e = ap₂ remainder (term_inj a c cc) (coded_ℤ.inj m n cc)
  term_inj (less a b) (less c d) e = ap₂ less (term_inj a c cc) (term_inj b d cc)
  term_inj (less_equal a b) (less_equal c d) e = ap₂ less_equal (term_inj a c cc) (term_inj b d cc)
  term_inj (same a b) (same c d) e = ap₂ same (term_inj a c cc) (term_inj b d cc)
  term_inj (not a) (not c) e = ap not (term_inj a c cc)
  term_inj (and a b) (and c d) e = ap₂ and (term_inj a c cc) (term_inj b d cc)
  term_inj (or a b) (or c d) e = ap₂ or (term_inj a c cc) (term_inj b d cc)
  term_inj (choose k a b) (choose l c d) e =
      let i : k ≡ l = term_inj k l cc in
      let j : a ≡ c = term_inj a c cc in
      let h : b ≡ d = term_inj b d cc in cc
  term_inj (read s p c f) (read t q d g) e =
      let i : s ≡ t = sort_inj s t cc in
      let j : p ≡ q = term_inj p q cc in cc
  term_inj (read_at s p c f a) (read_at t q d g b) e =
      let i : s ≡ t = sort_inj s t cc in
      let j : p ≡ q = term_inj p q cc in
      let h : a ≡ b = term_inj a b cc in cc
  term_inj (result s m p ts) (result t n q us) e =
      let i : s ≡ t = sort_inj s t cc in
      let j : p ≡ q = term_inj p q cc in
      let h : ts ≡ us = terms_inj ts us cc in cc
  term_inj (select a b) (select c d) e = ap₂ select (term_inj a c cc) (term_inj b d cc)
  term_inj (put k a b) (put l c d) e =
      let i : k ≡ l = term_inj k l cc in
      let j : a ≡ c = term_inj a c cc in
      let h : b ≡ d = term_inj b d cc in cc
  term_inj (add_at k a b) (add_at l c d) e =
      let i : k ≡ l = term_inj k l cc in
      let j : a ≡ c = term_inj a c cc in
      let h : b ≡ d = term_inj b d cc in cc
  term_inj (fold o a b) (fold p c d) e =
      let i : o ≡ p = fold_inj o p cc in
      let j : a ≡ c = term_inj a c cc in
      let h : b ≡ d = term_inj b d cc in cc
  term_inj (sweep k a b x) (sweep l c d y) e =
      let i : k ≡ l = term_inj k l cc in
      let j : a ≡ c = term_inj a c cc in
      let h : b ≡ d = term_inj b d cc in
      let g : x ≡ y = term_inj x y cc in cc
  term_inj t u e = let kinds : kind_of (term_code t) ≡ kind_of (term_code u) = ap kind_of e in absurd (omega (arith, kinds))

  pub terms_inj : (ts us : PlainTerms) → terms_code ts ≡ terms_code us → ts ≡ us
  terms_inj no_terms no_terms e = refl
  terms_inj (term_and t ts) (term_and u us) e = ap₂ term_and (term_inj t u cc) (terms_inj ts us cc)
  terms_inj ts us e = cc

abbrev pub coded_term : Coded PlainTerm
coded_term = record { code = term_code; inj = term_inj }

abbrev pub coded_terms : Coded PlainTerms
coded_terms = record { code = terms_code; inj = terms_inj }
