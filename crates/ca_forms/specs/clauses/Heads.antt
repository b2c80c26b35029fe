-- What parts are compared by first: their kinds and their names.
use Rattle.std.specs.Prelude.{ℕ}
use Rattle.std.proofs.Common.{Ordering}
use Rattle.std.specs.Ordering.{on}
use base.Stored.{Gv}
use Rattle.ca_forms.specs.declared.sort.Sort.{Sort}
use Rattle.ca_forms.specs.declared.sort.Sort.TheVariants.{Long}
use Rattle.ca_forms.specs.declared.polynomial.Unary.{Unary}
use Rattle.ca_forms.specs.declared.polynomial.Unary.TheVariants as unary
use Rattle.ca_forms.specs.Plain.{PlainPart, variable, is_less, is_zero, same_pointer, quotient, modulus, field_of, item_of, result_of, own_item, fold_of, kind, name_code}
use Rattle.ca_forms.specs.Trees.{tree_cmp}
use Rattle.ca_folds.specs.Operators.{fold_number}

-- a part with no name has the least
abbrev pub head : PlainPart → ℕ × Sort × ℕ × ℕ
head (variable s g n) = (0, s, g, n)
head (is_less a b) = (1, Long, 0, 0)
head (is_zero a) = (2, Long, 0, 0)
head (same_pointer p q) = (3, Long, 0, 0)
head (quotient a n) = (4, Long, 0, 0)
head (modulus a n) = (5, Long, 0, 0)
head (field_of s p c f) = (6, s, c, f)
head (item_of s p c f i) = (7, s, c, f)
head (result_of s m p xs) = (8, s, m, 0)
head (own_item s g n i) = (9, s, g, n)
head (fold_of o w xs) = (10, Long, fold_number o, 0)

abbrev pub rank : PlainPart → ℕ
rank p = (head p).0

-- what stands over a number
abbrev pub unary_head : Unary → ℕ × Sort × ℕ × ℕ
unary_head unary.Zero = (2, Long, 0, 0)
unary_head (unary.Quotient n) = (4, Long, 0, 0)
unary_head (unary.Modulus n) = (5, Long, 0, 0)
unary_head (unary.OwnItem s g n) = (9, s, g, n)

-- by which two of one kind are told apart behind the number
abbrev pub word_of : Unary → ℕ
word_of unary.Zero = 0
word_of (unary.Quotient n) = n
word_of (unary.Modulus n) = n
word_of (unary.OwnItem s g n) = 0

abbrev pub head_code : PlainPart → Gv
head_code p = kind (head p).0 (name_code (head p).1 (head p).2 (head p).3)

abbrev pub head_cmp : PlainPart → PlainPart → Ordering
head_cmp = on head_code tree_cmp
