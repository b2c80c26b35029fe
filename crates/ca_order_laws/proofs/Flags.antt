-- The flag that says that a call may have come before only rises.
use Rattle.std.proofs.Common.{◌≡◌, List, [], ◌++◌, refl, true, false, Bool}
use Rattle.std.proofs.lemmas.Bool.{or_from}
use Rattle.std.specs.Prelude.{◌||◌}
use Rattle.ca_parallel.specs.Separable.{is_some_of}
use Rattle.ca_parallel.proofs.Somes.{some_left, some_right}

or_left : (b c : Bool) → b || c ≡ false → b ≡ false
or_left true c e = e
or_left false c e = refl

or_right : (b c : Bool) → b || c ≡ false → c ≡ false
or_right true c e = cc
or_right false c e = e

pub record Rise (b c : Bool) : Type 0 where
  pub falls : c ≡ false → b ≡ false

pub rise_stays : (b c : Bool) → Rise b c → b ≡ true → c ≡ true
rise_stays b true r e = refl
rise_stays b false r e = let f : b ≡ false = r.falls refl in cc

pub rise_self : (b : Bool) → Rise b b
rise_self b = record { falls = λ e. e }

pub rise_or : (b c : Bool) → Rise b (b || c)
rise_or b c = record { falls = or_left b c }

pub rise_part : {A : Type 0} (b : Bool) (xs ys : List A) → Rise (b || is_some_of xs) (b || is_some_of (xs ++ ys))
rise_part b xs ys = record { falls = λ e. or_from b (is_some_of xs) (or_left b _ e) (some_left xs ys (or_right b _ e)) }

pub rise_other : {A : Type 0} (b : Bool) (xs ys : List A) → Rise (b || is_some_of ys) (b || is_some_of (xs ++ ys))
rise_other b xs ys = record { falls = λ e. or_from b (is_some_of ys) (or_left b _ e) (some_right xs ys (or_right b _ e)) }

pub rise_two : {A : Type 0} (b : Bool) (xs ys : List A) → Rise ((b || is_some_of xs) || is_some_of ys) (b || is_some_of (xs ++ ys))
rise_two b xs ys = record { falls = λ e. or_from (b || is_some_of xs) (is_some_of ys) (or_from b (is_some_of xs) (or_left b _ e) (some_left xs ys (or_right b _ e))) (some_right xs ys (or_right b _ e)) }

-- what a loop holds is in its flag already
pub rise_again : (b c d : Bool) → (c ≡ false → d ≡ false) → Rise ((b || c) || d) (b || c)
rise_again b c d h = record { falls = λ e. or_from (b || c) d e (h (or_right b c e)) }

-- behind a call the flag is up
pub never_down : {A : Type 0} (b : Bool) → b || true ≡ false → A
never_down true e = cc
never_down false e = cc
