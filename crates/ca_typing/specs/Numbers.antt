-- The numbers of the codes that the checker tells, and of the limits on texts.
use Rattle.std.specs.Prelude.{◌≡◌, pos}
use Rattle.ca_lex.specs.declared.TheConstants.{MOST_TOKENS}
use Rattle.ca_expressions.specs.declared.expressions.TheConstants.{MOST_IN_EXPRESSION}
use Rattle.ca_parse.specs.declared.statements.TheConstants.{DEEPEST}
use Rattle.ca_types.specs.declared.limits.TheConstants.{MOST_CLASSES, MOST_FIELDS, MOST_OPERATIONS, MOST_FUNCTIONS, MOST_PARAMETERS, MOST_LOCALS, MOST_ITEMS, MOST_LOOPS}
use Rattle.ca_resolve.specs.declared.codes.TheConstants.{CLASS_TWICE, UNKNOWN_CLASS, MEMBER_TWICE, LOCAL_TWICE, UNKNOWN_NAME, TYPES_DISAGREE, WRONG_COUNT, NO_TARGET, WRONG_CALL, VALUE_METHOD_ACTS, WRONG_RETURN, WRONG_INDEX, THIS_IN_MAIN, EMPTY_ARRAY, FIRST_LIMIT, TOO_MANY_CLASSES, TOO_MANY_FIELDS, TOO_MANY_OPERATIONS, TOO_MANY_FUNCTIONS, TOO_MANY_PARAMETERS, TOO_MANY_LOCALS, TOO_LONG_ARRAY, TOO_MANY_LOOPS, LAST_LIMIT}

-- the codes of what breaks a rule
pub record AreCodesOfRules : Type 0 where
  pub class_twice : CLASS_TWICE ≡ 20
  pub unknown_class : UNKNOWN_CLASS ≡ 21
  pub member_twice : MEMBER_TWICE ≡ 22
  pub local_twice : LOCAL_TWICE ≡ 23
  pub unknown_name : UNKNOWN_NAME ≡ 24
  pub types_disagree : TYPES_DISAGREE ≡ 25
  pub wrong_count : WRONG_COUNT ≡ 26
  pub no_target : NO_TARGET ≡ 27
  pub wrong_call : WRONG_CALL ≡ 28
  pub value_method_acts : VALUE_METHOD_ACTS ≡ 29
  pub wrong_return : WRONG_RETURN ≡ 30
  pub wrong_index : WRONG_INDEX ≡ 31
  pub this_in_main : THIS_IN_MAIN ≡ 32
  pub empty_array : EMPTY_ARRAY ≡ 33

-- the codes of what passes a limit, from the first to the last
pub record AreCodesOfLimits : Type 0 where
  pub first : FIRST_LIMIT ≡ 50
  pub classes : TOO_MANY_CLASSES ≡ 50
  pub fields : TOO_MANY_FIELDS ≡ 51
  pub operations : TOO_MANY_OPERATIONS ≡ 52
  pub functions : TOO_MANY_FUNCTIONS ≡ 53
  pub parameters : TOO_MANY_PARAMETERS ≡ 54
  pub locals : TOO_MANY_LOCALS ≡ 55
  pub array : TOO_LONG_ARRAY ≡ 56
  pub loops : TOO_MANY_LOOPS ≡ 57
  pub last : LAST_LIMIT ≡ 57

-- how many there may be: tokens of a text and of an expression, statements in one another, and classes, fields, methods, parameters,
-- locals, items and loops
pub record AreLimits : Type 0 where
  pub tokens : MOST_TOKENS ≡ 262144
  pub in_expression : MOST_IN_EXPRESSION ≡ 1000
  pub nested : DEEPEST ≡ 200
  pub classes : MOST_CLASSES ≡ 256
  pub fields : MOST_FIELDS ≡ 256
  pub operations : MOST_OPERATIONS ≡ 256
  pub functions : MOST_FUNCTIONS ≡ 256
  pub parameters : MOST_PARAMETERS ≡ 32
  pub locals : MOST_LOCALS ≡ 256
  pub items : MOST_ITEMS ≡ pos 1000000
  pub loops : MOST_LOOPS ≡ 256
