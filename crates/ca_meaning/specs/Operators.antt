-- What the operators do with values. Numbers have 64 bits and wrap round; a quotient is rounded toward
-- zero, and a remainder has the sign of the dividend. `&`, `|` and `^` work on the bits of two's complement, and
-- `max` and `min` give the greater and the lesser signed number. What no typed program asks for is null.
use Rattle.std.specs.Prelude.{◌≡◌, zero, suc, Bool, true, false, cond, eqb, ℤ, pos, negsuc, ◌+ℤ◌, ◌-ℤ◌, ◌*ℤ◌, neg_ℤ, int_lt, int_rem, Result, Ok, Err}
use Rattle.std.specs.Int.{int_wrap, int_wrapping_div, int_bit_and, int_bit_or, int_bit_xor, int_max, int_min, w64}
use Rattle.ca_tree.specs.declared.tree.AssignOp.{AssignOp}
use Rattle.ca_tree.specs.declared.tree.AssignOp.TheVariants.{Put, Add, Sub, Mul}
use Rattle.ca_tree.specs.declared.tree.AssignOp.TheVariants as change
use Rattle.ca_tree.specs.declared.tree.UnaryOp.{UnaryOp}
use Rattle.ca_tree.specs.declared.tree.UnaryOp.TheVariants as sign
use Rattle.ca_tree.specs.declared.tree.BinaryOp.{BinaryOp}
use Rattle.ca_tree.specs.declared.tree.BinaryOp.TheVariants.{Or, And, Equal, NotEqual, Less, Greater, LessEqual, GreaterEqual, Plus, Minus, Times, Divide, Remainder, BitAnd, BitOr, BitXor, Max, Min}
use Rattle.ca_model.specs.declared.value.Value.{Value as Datum}
use Rattle.ca_model.specs.declared.value.Value.TheVariants.{Long, Bool as Truth, Null, Ref}
use Rattle.ca_model.specs.declared.value.TrapKind.{TrapKind}
use Rattle.ca_model.specs.declared.value.TrapKind.TheVariants.{ZeroDivisor}

abbrev pub is_zero : ℤ → Bool
is_zero (pos zero) = true
is_zero (pos (suc n)) = false
is_zero (negsuc n) = false

abbrev pub same_int : ℤ → ℤ → Bool
same_int (pos a) (pos b) = eqb a b
same_int (negsuc a) (negsuc b) = eqb a b
same_int _ _ = false

abbrev pub not_of : Bool → Bool
not_of true = false
not_of false = true

abbrev pub both : Bool → Bool → Bool
both true b = b
both false b = false

abbrev pub either : Bool → Bool → Bool
either true b = true
either false b = b

abbrev pub same_truth : Bool → Bool → Bool
same_truth true b = b
same_truth false b = not_of b

abbrev pub same_value : Datum → Datum → Bool
same_value (Long a) (Long b) = same_int a b
same_value (Truth a) (Truth b) = same_truth a b
same_value Null Null = true
same_value (Ref a) (Ref b) = eqb a b
same_value _ _ = false

-- a number, unless the divisor b is zero
abbrev pub unless_zero : ℤ → ℤ → Result Datum TrapKind
unless_zero b n = cond (is_zero b) (Err ZeroDivisor) (Ok (Long n))

abbrev pub operated_longs : BinaryOp → ℤ → ℤ → Result Datum TrapKind
operated_longs Plus a b = Ok (Long (int_wrap w64 (a +ℤ b)))
operated_longs Minus a b = Ok (Long (int_wrap w64 (a -ℤ b)))
operated_longs Times a b = Ok (Long (int_wrap w64 (a *ℤ b)))
operated_longs Divide a b = unless_zero b (int_wrapping_div w64 a b)
operated_longs Remainder a b = unless_zero b (int_rem a b)
operated_longs Less a b = Ok (Truth (int_lt a b))
operated_longs Greater a b = Ok (Truth (int_lt b a))
operated_longs LessEqual a b = Ok (Truth (not_of (int_lt b a)))
operated_longs GreaterEqual a b = Ok (Truth (not_of (int_lt a b)))
operated_longs Equal a b = Ok (Truth (same_int a b))
operated_longs NotEqual a b = Ok (Truth (not_of (same_int a b)))
operated_longs And a b = Ok Null
operated_longs Or a b = Ok Null
operated_longs BitAnd a b = Ok (Long (int_bit_and w64 a b))
operated_longs BitOr a b = Ok (Long (int_bit_or w64 a b))
operated_longs BitXor a b = Ok (Long (int_bit_xor w64 a b))
operated_longs Max a b = Ok (Long (int_max a b))
operated_longs Min a b = Ok (Long (int_min a b))

abbrev pub operated_truths : BinaryOp → Bool → Bool → Datum
operated_truths And a b = Truth (both a b)
operated_truths Or a b = Truth (either a b)
operated_truths Equal a b = Truth (same_truth a b)
operated_truths NotEqual a b = Truth (not_of (same_truth a b))
operated_truths _ a b = Null

abbrev pub operated_others : BinaryOp → Datum → Datum → Datum
operated_others Equal a b = Truth (same_value a b)
operated_others NotEqual a b = Truth (not_of (same_value a b))
operated_others _ a b = Null

-- the operator on the values of both sides
abbrev pub operated : BinaryOp → Datum → Datum → Result Datum TrapKind
operated op (Long a) (Long b) = operated_longs op a b
operated op (Truth a) (Truth b) = Ok (operated_truths op a b)
operated op a b = Ok (operated_others op a b)

-- minus and not
abbrev pub signed : UnaryOp → Datum → Datum
signed sign.Minus (Long a) = Long (int_wrap w64 (neg_ℤ a))
signed sign.Not (Truth b) = Truth (not_of b)
signed _ v = Null

abbrev pub assigned_longs : AssignOp → ℤ → ℤ → ℤ
assigned_longs Put old right = right
assigned_longs Add old right = int_wrap w64 (old +ℤ right)
assigned_longs Sub old right = int_wrap w64 (old -ℤ right)
assigned_longs Mul old right = int_wrap w64 (old *ℤ right)
assigned_longs change.BitAnd old right = int_bit_and w64 old right
assigned_longs change.BitOr old right = int_bit_or w64 old right
assigned_longs change.BitXor old right = int_bit_xor w64 old right

abbrev pub assigned_others : AssignOp → Datum → Datum
assigned_others Put right = right
assigned_others _ right = Null

-- what is stored, from the old value and that of the right side
abbrev pub assigned : AssignOp → Datum → Datum → Datum
assigned op (Long old) (Long right) = Long (assigned_longs op old right)
assigned op old right = assigned_others op right

-- a division of numbers by zero, or the remainder of one
abbrev pub DividesByZero : BinaryOp → Datum → Datum → Type 0
DividesByZero Divide (Long a) (Long b) = b ≡ pos 0
DividesByZero Remainder (Long a) (Long b) = b ≡ pos 0
DividesByZero _ a b = ⊥
