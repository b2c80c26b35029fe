use Rattle.std.proofs.Common.{refl}
use Rattle.ca_typing.proofs.laws.codes_and_limits_are_these.Goals as goal

pub returns-clause-rules : goal.returns-clause-rules
returns-clause-rules c = record {
  class_twice = refl;
  unknown_class = refl;
  member_twice = refl;
  local_twice = refl;
  unknown_name = refl;
  types_disagree = refl;
  wrong_count = refl;
  no_target = refl;
  wrong_call = refl;
  value_method_acts = refl;
  wrong_return = refl;
  wrong_index = refl;
  this_in_main = refl;
  empty_array = refl;
}

pub returns-clause-limits : goal.returns-clause-limits
returns-clause-limits c = record {
  first = refl;
  classes = refl;
  fields = refl;
  operations = refl;
  functions = refl;
  parameters = refl;
  locals = refl;
  array = refl;
  loops = refl;
  last = refl;
}

pub returns-clause-most : goal.returns-clause-most
returns-clause-most c = record {
  tokens = refl;
  in_expression = refl;
  nested = refl;
  classes = refl;
  fields = refl;
  operations = refl;
  functions = refl;
  parameters = refl;
  locals = refl;
  items = refl;
  loops = refl;
}
