-- What parts, pointers and arguments in memory are seen as.
use Rattle.ca_forms.specs.Plain.{PlainPart, PlainPolynomial, PlainPointer, PlainScalar, variable, is_less, is_zero, same_pointer, quotient, modulus, field_of, item_of, result_of, own_item, fold_of, no_object, pointer_part, pointer_choice, number_form, truth_form, pointer_form}
use Rattle.ca_forms.specs.declared.polynomial.Node.{Node}
use Rattle.ca_forms.specs.declared.polynomial.Node.TheVariants as node
use Rattle.ca_forms.specs.declared.polynomial.Unary.{Unary}
use Rattle.ca_forms.specs.declared.polynomial.Unary.TheVariants as unary
use Rattle.ca_forms.specs.declared.polynomial.PointerNode.{PointerNode}
use Rattle.ca_forms.specs.declared.polynomial.PointerNode.TheVariants as pointer
use Rattle.ca_forms.specs.declared.polynomial.ScalarNode.{ScalarNode}
use Rattle.ca_forms.specs.declared.polynomial.ScalarNode.TheVariants as scalar

abbrev pub over : Unary → PlainPolynomial → PlainPart
over unary.Zero a = is_zero a
over (unary.Quotient n) a = quotient a n
over (unary.Modulus n) a = modulus a n
over (unary.OwnItem s g n) a = own_item s g n a

abbrev pub part_of : Node → PlainPart
part_of (node.Variable s g n) = variable s g n
part_of (node.Over f a) = over f a
part_of (node.Less a b) = is_less a b
part_of (node.SamePointer p q) = same_pointer p q
part_of (node.Field s p c f) = field_of s p c f
part_of (node.Item s p c f i) = item_of s p c f i
part_of (node.Result s m p xs) = result_of s m p xs
part_of (node.Fold o w xs) = fold_of o w xs

abbrev pub pointer_of : PointerNode → PlainPointer
pointer_of pointer.Null = no_object
pointer_of (pointer.Part p) = pointer_part p.value
pointer_of (pointer.Choice c p q) = pointer_choice c.value p.value q.value

abbrev pub scalar_of : ScalarNode → PlainScalar
scalar_of (scalar.Number f) = number_form f
scalar_of (scalar.Truth f) = truth_form f
scalar_of (scalar.Pointer p) = pointer_form p
