-- Worked examples of verdicts.
use Rattle.std.proofs.Common.{inl, inr, ◌≡◌, ℕ, pos, true, List, [], ◌∷◌, None, refl, codes, arith}
use Rattle.ca_tree.specs.declared.tree.AssignOp.TheVariants.{Put, BitOr, BitXor}
use Rattle.ca_tree.specs.declared.tree.BinaryOp.TheVariants.{Plus, Minus, Less, Max, Min}
use Rattle.ca_program.specs.declared.program.ClassId.{ClassId}
use Rattle.ca_program.specs.declared.program.FieldId.{FieldId}
use Rattle.ca_program.specs.declared.program.FieldInfo.{FieldInfo}
use Rattle.ca_program.specs.declared.program.OpId.{OpId}
use Rattle.ca_program.specs.declared.program.ValueType.TheVariants as type
use Rattle.ca_program.specs.Plain.{PlainProgram, PlainMethod, Expression, Statement, Statements, local, own, binary, no_expressions, expression_and, put_field, invoke, if_else, while_loop, block, no_statements, statement_and}
use Rattle.ca_folds.specs.declared.operator.FoldOp.TheVariants as fold_op
use Rattle.ca_forms.specs.declared.sort.Sort.TheVariants.{Long, Bool, Pointer}
use Rattle.ca_forms.specs.declared.form.Normal.{Normal}
use Rattle.ca_forms.specs.declared.form.Normal.TheVariants.{Scalar}
use Rattle.ca_forms.specs.Plain.{PlainPolynomial, PlainPart, PlainScalar, PlainScalars, variable, fold_of, no_powers, power_and, no_products, product_and, pointer_part, number_form, truth_form, pointer_form, no_scalars, scalar_and}
use Rattle.ca_symbolic.specs.declared.demand.DemandKind.TheVariants.{Invokes}
use Rattle.ca_verdicts.specs.declared.verdicts.Verdict.TheVariants.{Commutes, Unproved}
use Rattle.ca_verdicts.specs.declared.verdicts.Reason.TheVariants.{LoopForm, FieldDiffers, DemandsDiffer}
use Rattle.ca_norm.specs.Terms.{PlainTerm, number, truth, atom, fold}
use Rattle.ca_norm.specs.Forms.{norm}
use Rattle.ca_order.specs.OrderSame.{OrderSame}
use Rattle.ca_order.proofs.Refuted.{apart_under}
use Rattle.ca_symbolic.specs.States.{invokes}
use Rattle.ca_verdicts.specs.Counts.{counted, SameDemand}
use Rattle.ca_verdicts.specs.Orders.{first_order, second_order}
use Rattle.ca_verdicts.specs.Verdicts.{SameField, VerdictOf}
use Rattle.ca_verdicts.specs.MovingPairs.{a_parameter, put, IsMoving}
use Rattle.ca_verdicts.specs.MovingPairs as pair
use Rattle.ca_verdicts.proofs.Moving.{moving_commutes}

-- class D { public: long n; D *o; bool b; void m(long p, bool q) { .. } };
abbrev class : ClassId
class = record { 0 = 0 }

abbrev field : ℕ → FieldId
field n = record { class = class; field = n }

abbrev fields : List FieldInfo
fields =
    record { name = codes "n"; ty = type.Long; length = None } ∷ record { name = codes "o"; ty = type.Pointer class; length = None } ∷
    record { name = codes "b"; ty = type.Bool; length = None } ∷ []

abbrev operation : Statements → PlainMethod
operation body = record {
  class = class;
  name = codes "m";
  params = 2;
  body = record { locals = type.Long ∷ type.Bool ∷ []; statements = body };
  result = None;
}

abbrev n : Expression
n = own (field 0)

abbrev p : Expression
p = local (record { 0 = 0 })

abbrev op : ℕ → OpId
op k = record { 0 = k }

-- n = n + p;
abbrev adds : Statement
adds = put_field 1 (field 0) Put (binary Plus n p)

-- o->m(n, q);
abbrev hands_on : Statement
hands_on = invoke 1 (own (field 1)) (op 2) (expression_and n (expression_and (local (record { 0 = 1 })) no_expressions))

-- n = n + p; and n = p; and n = n + p; o->m(n, q); and while (b) { } and if (b) n = n + p; else n = n - p;
-- and n = max(n, p); and n = min(n, p); and n |= p; and n ^= p; and if (n < p) n = p;
abbrev program : PlainProgram
program = record {
  classes = record { name = codes "D"; fields = fields } ∷ [];
  ops =
      operation (statement_and adds no_statements) ∷ operation (statement_and (put_field 1 (field 0) Put p) no_statements) ∷
      operation (statement_and adds (statement_and hands_on no_statements)) ∷
      operation (statement_and (while_loop 1 (own (field 2)) (block 1 no_statements)) no_statements) ∷
      operation (statement_and (if_else 1 (own (field 2)) adds (put_field 1 (field 0) Put (binary Minus n p))) no_statements) ∷
      operation (statement_and (put_field 1 (field 0) Put (binary Max n p)) no_statements) ∷ operation (statement_and (put_field 1 (field 0) Put (binary Min n p)) no_statements) ∷
      operation (statement_and (put_field 1 (field 0) BitOr p) no_statements) ∷ operation (statement_and (put_field 1 (field 0) BitXor p) no_statements) ∷
      operation (statement_and (if_else 1 (binary Less n p) (put_field 1 (field 0) Put p) (block 1 no_statements)) no_statements) ∷ [];
  functions = [];
  main = record { locals = []; statements = no_statements };
}

abbrev written : List FieldId
written = field 0 ∷ []

-- the forms of the first operation's parameters and of the second one's, and of the fields at the start
abbrev number_at : ℕ → ℕ → Normal
number_at group k = Scalar (number_form (product_and (power_and (variable Long group k) 1 no_powers) 1 no_products))

abbrev peer : PlainScalar
peer = pointer_form (pointer_part (variable Pointer 3 1))

abbrev sum : PlainScalar
sum = number_form (product_and (power_and (variable Long 1 0) 1 no_powers) 1 (product_and (power_and (variable Long 3 0) 1 no_powers) 1 no_products))

abbrev flag : PlainScalar
flag = truth_form (product_and (power_and (variable Bool 1 1) 1 no_powers) 1 no_products)

-- neither by forms nor by orders
apart : (t u : PlainTerm) → (norm t ≡ norm u → ⊥) → (OrderSame t u → ⊥) → SameField t u → ⊥
apart t u f g (inl e) = f e
apart t u f g (inr o) = g o.same

sums_commute : VerdictOf program written (op 0) (op 0) Commutes
sums_commute = (record { can = record { separable = (((tt, (tt, tt, tt)), tt), ((tt, (tt, tt, tt)), tt)); loops = refl }; light = refl }, (inl refl, (inl refl, (inl refl, tt))), λ k. inl refl)

-- the last of two puts stands
puts_differ : VerdictOf program written (op 1) (op 1) (Unproved (FieldDiffers (field 0) (number_at 2 0) (number_at 1 0)))
puts_differ = (
  record { can = record { separable = (((tt, tt), tt), ((tt, tt), tt)); loops = refl }; light = refl },
  refl,
  record {
    before = tt;
    one = atom Long 2 0;
    other = atom Long 1 0;
    first = refl;
    second = refl;
    apart = apart (atom Long 2 0) (atom Long 1 0) (λ e. cc) (apart_under (atom Long 2 0) (atom Long 1 0) 1 (0 ∷ 1 ∷ []) refl (λ e. cc));
    first_form = refl;
    second_form = refl;
  },
)

-- as often as never, under an order
once_and_never : SameDemand (record { kind = invokes (op 2); parts = scalar_and peer (scalar_and sum (scalar_and flag no_scalars)) }) (first_order program (op 2) (op 2)).demands (second_order program (op 2) (op 2)).demands → ⊥
once_and_never (inl e) = absurd cc
once_and_never (inr o) = apart_under (counted (truth true)) (number (pos 0)) 0 [] refl (λ e. cc) o.same

-- what is handed on depends on the order, though the sum doesn't: one call of m(n + p, q) in the first order, and none in the second
calls_differ : VerdictOf program written (op 2) (op 2)
    (Unproved (DemandsDiffer (Invokes (op 2)) (scalar_and peer (scalar_and sum (scalar_and flag no_scalars)))
    (Scalar (number_form (product_and no_powers 1 no_products))) (Scalar (number_form no_products))))
calls_differ = (
  record { can = record { separable = (((tt, (tt, tt, tt)), ((tt, (tt, (tt, tt))), tt)), ((tt, (tt, tt, tt)), ((tt, (tt, (tt, tt))), tt))); loops = refl }; light = refl },
  (inl refl, (inl refl, (inl refl, tt))),
  refl,
  refl,
  once_and_never,
)

a_loop_of_no_calls : VerdictOf program written (op 0) (op 3) (Unproved (LoopForm 1))
a_loop_of_no_calls = ((((tt, (tt, tt, tt)), tt), ((tt, tt), tt)), refl)

branches_commute : VerdictOf program written (op 4) (op 4) Commutes
branches_commute =
    (record { can = record { separable = (((tt, (tt, (tt, tt, tt)), (tt, (tt, tt, tt))), tt), ((tt, (tt, (tt, tt, tt)), (tt, (tt, tt, tt))), tt)); loops = refl }; light = refl }, (inl refl, (inl refl, (inl refl, tt))), λ k. inl refl)

greatest_commute : VerdictOf program written (op 5) (op 5) Commutes
greatest_commute = (record { can = record { separable = (((tt, (tt, tt, tt)), tt), ((tt, (tt, tt, tt)), tt)); loops = refl }; light = refl }, (inl refl, (inl refl, (inl refl, tt))), λ k. inl refl)

abbrev only : ℕ → PlainPolynomial
only group = product_and (power_and (variable Long group 0) 1 no_powers) 1 no_products

abbrev alone : PlainPart → PlainPolynomial
alone part = product_and (power_and part 1 no_powers) 1 no_products

abbrev two : PlainPolynomial → PlainPolynomial → PlainScalars
two f g = scalar_and (number_form f) (scalar_and (number_form g) no_scalars)

-- min(max(n, p1), p2) and max(min(n, p2), p1)
abbrev lesser_last : PlainPart
lesser_last = fold_of fold_op.Min 9223372036854775807 (two (only 2) (alone (fold_of fold_op.Max 9223372036854775808 (two (only 1) (only 3)))))

abbrev greater_last : PlainPart
greater_last = fold_of fold_op.Max 9223372036854775808 (two (only 1) (alone (fold_of fold_op.Min 9223372036854775807 (two (only 2) (only 3)))))

abbrev lesser_term : PlainTerm
lesser_term = fold fold_op.Min (fold fold_op.Max (atom Long 3 0) (atom Long 1 0)) (atom Long 2 0)

abbrev greater_term : PlainTerm
greater_term = fold fold_op.Max (fold fold_op.Min (atom Long 3 0) (atom Long 2 0)) (atom Long 1 0)

greatest_and_least_differ : VerdictOf program written (op 5) (op 6) (Unproved (FieldDiffers (field 0) (Scalar (number_form (alone lesser_last))) (Scalar (number_form (alone greater_last)))))
greatest_and_least_differ = (
  record { can = record { separable = (((tt, (tt, tt, tt)), tt), ((tt, (tt, tt, tt)), tt)); loops = refl }; light = refl },
  refl,
  record {
    before = tt;
    one = lesser_term;
    other = greater_term;
    first = refl;
    second = refl;
    apart = apart lesser_term greater_term (λ e. cc) (apart_under lesser_term greater_term 4 (0 ∷ 1 ∷ 2 ∷ []) refl (λ e. cc));
    first_form = refl;
    second_form = refl;
  },
)

bits_commute : VerdictOf program written (op 7) (op 7) Commutes
bits_commute = (record { can = record { separable = (((tt, tt), tt), ((tt, tt), tt)); loops = refl }; light = refl }, (inl refl, (inl refl, (inl refl, tt))), λ k. inl refl)

parities_commute : VerdictOf program written (op 8) (op 8) Commutes
parities_commute = (record { can = record { separable = (((tt, tt), tt), ((tt, tt), tt)); loops = refl }; light = refl }, (inl refl, (inl refl, (inl refl, tt))), λ k. inl refl)

-- if (n < p) n = p;
raises : IsMoving (operation (statement_and (if_else 1 (binary Less n p) (put_field 1 (field 0) Put p) (block 1 no_statements)) no_statements)) (field 0) true
raises = record {
  limit = p;
  is_limit = a_parameter (record { 0 = 0 }) (omega arith) refl;
  strict = true;
  condition = binary Less n p;
  past = pair.less;
  line = 1;
  line_behind = 1;
  part = put_field 1 (field 0) Put p;
  puts = put 1;
  body = refl;
}

raised_commute : VerdictOf program written (op 9) (op 9) Commutes
raised_commute = moving_commutes program written (op 9) (op 9) (record {
  first = _;
  second = _;
  first_is = refl;
  second_is = refl;
  field = field 0;
  is_long = (refl, refl);
  up = true;
  first_moves = raises;
  second_moves = raises;
})
