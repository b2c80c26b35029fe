-- Seats that stay the same seats while they note: one after more tasks, and all of them.
use Rattle.std.proofs.Common.{◌≡◌, ℕ, zero, suc, ◌<◌, List, [], ◌∷◌, ◌++◌, length, get_or, refl, sym, ap, ◌∙◌, subst, arith, All, Some}
use Rattle.std.specs.Prelude.{slice_get}
use Rattle.ca_meaning.specs.Multisets.{weight}
use Rattle.ca_cells.specs.Seats.{IsOf, IsSameSeat, AreAll, view_of}
use Rattle.ca_cells.specs.declared.cells.Cells.{Cells}
use Rattle.ca_cells.specs.declared.cells.Seat.{Seat}

pub same_seat : (s : Seat) → IsSameSeat s s
same_seat s = record { table = refl; given = refl; boss = refl; number = refl; out = refl; worker = refl }

pub same_again : (s t u : Seat) → IsSameSeat s t → IsSameSeat t u → IsSameSeat s u
same_again s t u a b = record { table = b.table ∙ a.table; given = b.given ∙ a.given; boss = b.boss ∙ a.boss; number = b.number ∙ a.number; out = b.out ∙ a.out; worker = b.worker ∙ a.worker }

pub still_of : (cells : Cells) (s t : Seat) → IsSameSeat s t → IsOf cells s → IsOf cells t
still_of cells s t a o = (a.table ∙ o.0, a.given ∙ o.1)

-- the same seats, one for one
pub data Same : List Seat → List Seat → Type 0 where
  no_seats : Same [] []
  seats : (s t : Seat) (ss ts : List Seat) → IsSameSeat s t → Same ss ts → Same (s ∷ ss) (t ∷ ts)

pub one_for_one : (ss ts : List Seat) → length ts ≡ length ss → ((k : ℕ) (d : Seat) → k < length ss → IsSameSeat (get_or ss k d) (get_or ts k d)) → Same ss ts
one_for_one [] [] l h = no_seats
one_for_one [] (t ∷ ts) l h = absurd (omega (arith, l))
one_for_one (s ∷ ss) [] l h = absurd (omega (arith, l))
one_for_one (s ∷ ss) (t ∷ ts) l h = seats s t ss ts (h 0 s (omega arith)) (one_for_one ss ts (omega (arith, l)) (λ k d e. h (suc k) d (omega arith)))

-- the last one apart
record Last (ss : List Seat) (s : Seat) (ts : List Seat) : Type 0 where
  others : List Seat
  last : Seat
  all : ts ≡ others ++ last ∷ []
  same : Same ss others
  is : IsSameSeat s last

last_apart : (ss : List Seat) (s : Seat) (ts : List Seat) → Same (ss ++ s ∷ []) ts → Last ss s ts
last_apart [] s _ (seats _ t _ _ a no_seats) = record { others = []; last = t; all = refl; same = no_seats; is = a }
last_apart (x ∷ ss) s _ (seats _ t _ ts a more) = let l = last_apart ss s ts more in record { others = t ∷ l.others; last = l.last; all = ap (λ (z : List Seat). t ∷ z) l.all; same = seats x t ss l.others a l.same; is = l.is }

same_numbers : (f : ℕ → ℕ) {ss ts : List Seat} → Same ss ts → weight (λ (s : Seat). f (view_of s).number) ss ≡ weight (λ (s : Seat). f (view_of s).number) ts
same_numbers f no_seats = refl
same_numbers f (seats s t ss ts a more) = let x = ap f a.number in let y = same_numbers f more in omega (arith, x, y)

all_of_cells : (cells : Cells) {ss ts : List Seat} → Same ss ts → All (λ (s : Seat). IsOf cells s) ss → All (λ (s : Seat). IsOf cells s) ts
all_of_cells cells no_seats h k d l = absurd (omega arith)
all_of_cells cells (seats s t ss ts a more) h zero d l = still_of cells s t a (h 0 d (omega arith))
all_of_cells cells (seats s t ss ts a more) h (suc k) d l = all_of_cells cells more (λ j e b. h (suc j) e (omega arith)) k d (omega arith)

-- all seats of the cells are all seats still
pub all_still : (cells : Cells) (old new : List Seat) → Same old new → AreAll cells old → AreAll cells new
all_still cells old new same a = let l = last_apart a.others a.first new (subst (λ (ss : List Seat). Same ss new) a.all same) in record {
  others = l.others;
  first = l.last;
  all = l.all;
  of = all_of_cells cells same a.of;
  boss = l.is.boss ∙ a.boss;
  out = λ f. sym (same_numbers f l.same) ∙ (a.out f ∙ sym (ap (weight f) l.is.out));
}

-- where the last one alone noted
pub last_noted : (ss : List Seat) (s t : Seat) → IsSameSeat s t → Same (ss ++ s ∷ []) (ss ++ t ∷ [])
last_noted [] s t a = seats s t [] [] a no_seats
last_noted (x ∷ ss) s t a = seats x x (ss ++ s ∷ []) (ss ++ t ∷ []) (same_seat x) (last_noted ss s t a)

pub last_holds : (P : Seat → Type 0) (ss : List Seat) (s : Seat) → All P (ss ++ s ∷ []) → P s
last_holds P [] s h = h 0 s (omega arith)
last_holds P (x ∷ ss) s h = last_holds P ss s (λ k d l. h (suc k) d (omega arith))

-- a list of one has its last item at its first place
pub one_alone : {A : Type 0} (rest : List A) (x : A) (all : List A) → all ≡ rest ++ x ∷ [] → length all ≡ 1 → slice_get all 0 ≡ Some x
one_alone rest x all e l = subst (λ xs. slice_get xs 0 ≡ Some x) (sym e) (at_first rest (sym (ap length e) ∙ l))
  where
    at_first : (ys : List _) → length (ys ++ x ∷ []) ≡ 1 → slice_get (ys ++ x ∷ []) 0 ≡ Some x
    at_first [] l = refl
    at_first (y ∷ []) l = absurd (omega (arith, l))
    at_first (y ∷ z ∷ ys) l = absurd (omega (arith, l))
