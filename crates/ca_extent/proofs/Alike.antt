-- The numbers that the code gathers are those of the operations, value methods and fields that stand in a body.
use Rattle.std.proofs.Common.{◌≡◌, ℕ, List, [], ◌∷◌, ◌++◌, map, refl, sym, ap, ap₂, ◌∙◌, append-nil}
use Rattle.std.specs.Prelude.{flat_map}
use Rattle.std.proofs.lemmas.List.{map-append}
use Rattle.std.proofs.lemmas.List.Concat.{flat_map-append}
use Rattle.ca_program.specs.declared.program.FieldId.{FieldId}
use Rattle.ca_program.specs.declared.program.FunctionId.{FunctionId}
use Rattle.ca_program.specs.Plain.{Expression, Expressions, number, truth, null, this, local, own, own_item, read, read_item, value_call, unary, binary, no_expressions, expression_and, Statement, Statements, block, put_local, put_field, put_item, new_local, new_field, new_item, invoke, if_else, while_loop, for_loop, return_value, print_value, no_statements, statement_and}
use Rattle.ca_parallel.specs.Bodies.{functions_in, functions_in_all, listed, expressions_of, expressions_of_all, calls_of, calls_of_all, targets_of, targets_of_all, functions_of_body}
use Rattle.ca_extent.specs.declared.numbers.Callees.TheVariants.{Operations, Functions}
use Rattle.ca_extent.specs.clauses.Ids.{op_number}
use Rattle.ca_extent.specs.clauses.Numbers.{values_in, values_in_all, numbers_of, numbers_of_all}
use Rattle.ca_extent.specs.clauses.Targets.{written_by, written_by_all}

abbrev pub function_number : FunctionId → ℕ
function_number m = m.0

abbrev pub pair : FieldId → ℕ × ℕ
pair f = (f.class.0, f.field)

joined : {A B : Type 0} (f : A → B) (xs ys : List A) (a b : List B) → a ≡ map f xs → b ≡ map f ys → a ++ b ≡ map f (xs ++ ys)
joined f xs ys a b p q = ap₂ (λ u v. u ++ v) p q ∙ sym (map-append f xs ys)

-- operations
mutual
  calls_alike : (s : Statement) → numbers_of Operations s ≡ map op_number (calls_of s)
  calls_alike (block line ss) = all_calls_alike ss
  calls_alike (put_local line l op e) = refl
  calls_alike (put_field line f op e) = refl
  calls_alike (put_item line f i op e) = refl
  calls_alike (new_local line l c) = refl
  calls_alike (new_field line f c) = refl
  calls_alike (new_item line f i c) = refl
  calls_alike (invoke line e op arguments) = refl
  calls_alike (if_else line c a b) = joined op_number (calls_of a) (calls_of b) _ _ (calls_alike a) (calls_alike b)
  calls_alike (while_loop line c b) = calls_alike b
  calls_alike (for_loop line site part first c next b) = joined op_number (calls_of first) (calls_of next ++ calls_of b) _ _ (calls_alike first) (joined op_number (calls_of next) (calls_of b) _ _ (calls_alike next) (calls_alike b))
  calls_alike (return_value line e) = refl
  calls_alike (print_value line e) = refl

  pub all_calls_alike : (ss : Statements) → numbers_of_all Operations ss ≡ map op_number (calls_of_all ss)
  all_calls_alike no_statements = refl
  all_calls_alike (statement_and s ss) = joined op_number (calls_of s) (calls_of_all ss) _ _ (calls_alike s) (all_calls_alike ss)

-- fields
mutual
  targets_alike : (s : Statement) → written_by s ≡ map pair (targets_of s)
  targets_alike (block line ss) = all_targets_alike ss
  targets_alike (put_local line l op e) = refl
  targets_alike (put_field line f op e) = refl
  targets_alike (put_item line f i op e) = refl
  targets_alike (new_local line l c) = refl
  targets_alike (new_field line f c) = refl
  targets_alike (new_item line f i c) = refl
  targets_alike (invoke line e op arguments) = refl
  targets_alike (if_else line c a b) = joined pair (targets_of a) (targets_of b) _ _ (targets_alike a) (targets_alike b)
  targets_alike (while_loop line c b) = targets_alike b
  targets_alike (for_loop line site part first c next b) = joined pair (targets_of first) (targets_of next ++ targets_of b) _ _ (targets_alike first) (joined pair (targets_of next) (targets_of b) _ _ (targets_alike next) (targets_alike b))
  targets_alike (return_value line e) = refl
  targets_alike (print_value line e) = refl

  pub all_targets_alike : (ss : Statements) → written_by_all ss ≡ map pair (targets_of_all ss)
  all_targets_alike no_statements = refl
  all_targets_alike (statement_and s ss) = joined pair (targets_of s) (targets_of_all ss) _ _ (targets_alike s) (all_targets_alike ss)

-- value methods
mutual
  values_alike : (e : Expression) → values_in e ≡ map function_number (functions_in e)
  values_alike (number n) = refl
  values_alike (truth b) = refl
  values_alike null = refl
  values_alike this = refl
  values_alike (local l) = refl
  values_alike (own f) = refl
  values_alike (own_item f i) = values_alike i
  values_alike (read e f) = values_alike e
  values_alike (read_item e f i) = joined function_number (functions_in e) (functions_in i) _ _ (values_alike e) (values_alike i)
  values_alike (value_call e m arguments) = joined function_number (functions_in e) (functions_in_all arguments ++ m ∷ []) _ _ (values_alike e) (joined function_number (functions_in_all arguments) (m ∷ []) _ _ (all_values_alike arguments) refl)
  values_alike (unary op e) = values_alike e
  values_alike (binary op a b) = joined function_number (functions_in a) (functions_in b) _ _ (values_alike a) (values_alike b)

  all_values_alike : (es : Expressions) → values_in_all es ≡ map function_number (functions_in_all es)
  all_values_alike no_expressions = refl
  all_values_alike (expression_and e es) = joined function_number (functions_in e) (functions_in_all es) _ _ (values_alike e) (all_values_alike es)

abbrev called_in : List Expression → List ℕ
called_in es = map function_number (flat_map functions_in es)

alone : (e : Expression) → values_in e ≡ called_in (e ∷ [])
alone e = values_alike e ∙ ap (λ z. map function_number z) (sym (append-nil (functions_in e)))

both : (xs ys : List Expression) (a b : List ℕ) → a ≡ called_in xs → b ≡ called_in ys → a ++ b ≡ called_in (xs ++ ys)
both xs ys a b p q = joined function_number (flat_map functions_in xs) (flat_map functions_in ys) a b p q ∙ ap (λ z. map function_number z) (sym (flat_map-append functions_in xs ys))

arguments_alike : (es : Expressions) → values_in_all es ≡ called_in (listed es)
arguments_alike no_expressions = refl
arguments_alike (expression_and e es) = both (e ∷ []) (listed es) _ _ (alone e) (arguments_alike es)

mutual
  functions_alike : (s : Statement) → numbers_of Functions s ≡ called_in (expressions_of s)
  functions_alike (block line ss) = all_functions_alike ss
  functions_alike (put_local line l op e) = alone e
  functions_alike (put_field line f op e) = alone e
  functions_alike (put_item line f i op e) = both (i ∷ []) (e ∷ []) _ _ (alone i) (alone e)
  functions_alike (new_local line l c) = refl
  functions_alike (new_field line f c) = refl
  functions_alike (new_item line f i c) = alone i
  functions_alike (invoke line e op arguments) = both (e ∷ []) (listed arguments) _ _ (alone e) (arguments_alike arguments)
  functions_alike (if_else line c a b) = both (c ∷ []) (expressions_of a ++ expressions_of b) _ _ (alone c) (both (expressions_of a) (expressions_of b) _ _ (functions_alike a) (functions_alike b))
  functions_alike (while_loop line c b) = both (c ∷ []) (expressions_of b) _ _ (alone c) (functions_alike b)
  functions_alike (for_loop line site part first c next b) =
      both (expressions_of first) (c ∷ (expressions_of next ++ expressions_of b)) _ _ (functions_alike first)
      (both (c ∷ []) (expressions_of next ++ expressions_of b) _ _ (alone c) (both (expressions_of next) (expressions_of b) _ _ (functions_alike next) (functions_alike b)))
  functions_alike (return_value line e) = alone e
  functions_alike (print_value line e) = alone e

  pub all_functions_alike : (ss : Statements) → numbers_of_all Functions ss ≡ map function_number (functions_of_body ss)
  all_functions_alike no_statements = refl
  all_functions_alike (statement_and s ss) = both (expressions_of s) (expressions_of_all ss) _ _ (functions_alike s) (all_functions_alike ss)
