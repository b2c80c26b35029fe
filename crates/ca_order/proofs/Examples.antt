-- Orders of a few points, and short terms under them.
use Rattle.std.proofs.Common.{◌≡◌, pos, true, false, [], ◌∷◌, length, refl}
use Rattle.ca_forms.specs.declared.sort.Sort.TheVariants.{Long, Pointer}
use Rattle.ca_folds.specs.declared.operator.FoldOp.TheVariants.{Max}
use Rattle.ca_norm.specs.Terms.{PlainTerm, number, truth, null, atom, add, less, less_equal, same, choose, read, fold}
use Rattle.ca_order.specs.declared.point.Point.TheVariants.{Number, Atom}
use Rattle.ca_order.specs.Points.{Ranked}
use Rattle.ca_order.specs.Under.{under}
use Rattle.ca_order.specs.Rankings.{rankings_of}
use Rattle.ca_order.specs.OrderSame.{points_of}

two_points : rankings_of (Atom 1 0 ∷ Atom 3 0 ∷ []) ≡ (0 ∷ 0 ∷ []) ∷ (0 ∷ 1 ∷ []) ∷ (1 ∷ 0 ∷ []) ∷ []
two_points = refl

thirteen : length (rankings_of (Atom 1 0 ∷ Atom 2 0 ∷ Atom 3 0 ∷ [])) ≡ 13
thirteen = refl

-- numbers rise
two_numbers : rankings_of (Number (pos 5) ∷ Number (pos 7) ∷ []) ≡ (0 ∷ 1 ∷ []) ∷ []
two_numbers = refl

-- what the first field holds at the start, and the first operation's first parameter
f : PlainTerm
f = atom Long 3 0

e : PlainTerm
e = atom Long 1 0

points_once : points_of (less f (number (pos 5))) (add e (add f (number (pos 9)))) ≡ Number (pos 5) ∷ Atom 1 0 ∷ Atom 3 0 ∷ []
unfolding f e
points_once = refl

-- the parameter is less than the field
rising : Ranked
rising = (Atom 1 0, 0) ∷ (Atom 3 0, 1) ∷ []

-- and equal to it
equal : Ranked
equal = (Atom 1 0, 0) ∷ (Atom 3 0, 0) ∷ []

decided_by_ranks : under rising (less e f) ≡ truth true
unfolding rising f e
decided_by_ranks = refl

-- a side is looked at by its form
by_its_form : under rising (less_equal (add f (number (pos 0))) e) ≡ truth false
unfolding rising f e
by_its_form = refl

sums_are_not_decided : under rising (less (add e (number (pos 1))) f) ≡ less (add e (number (pos 1))) f
unfolding rising f e
sums_are_not_decided = refl

first_of_its_rank : under equal (add f e) ≡ add e e
unfolding equal f e
first_of_its_rank = refl

inside_a_read : under equal (read Long (choose (same f e) (atom Pointer 3 1) null) 0 0) ≡ read Long (choose (truth true) (atom Pointer 3 1) null) 0 0
unfolding equal f e
inside_a_read = refl

-- an operator whose operands may stand in any order is walked as any other term, and its operands are first points
inside_a_fold : under equal (fold Max f (choose (less e f) f (number (pos 5)))) ≡ fold Max e (choose (truth false) e (number (pos 5)))
unfolding equal f e
inside_a_fold = refl

-- none is decided: the greatest of two points stays what it is
folds_are_not_decided : under rising (fold Max e f) ≡ fold Max e f
unfolding rising f e
folds_are_not_decided = refl
