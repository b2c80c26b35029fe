use Rattle.ca_descent.proofs.OneAnswer.{one_wrong, one_deep, wrong_or_deep, wrong_or_derived, deep_or_derived}
use Rattle.ca_parse.proofs.laws.one_answer.Goals as goal

pub returns-clause-one_wrong : goal.returns-clause-one_wrong
returns-clause-one_wrong c = one_wrong

pub returns-clause-one_deep : goal.returns-clause-one_deep
returns-clause-one_deep c = one_deep

pub returns-clause-wrong_or_deep : goal.returns-clause-wrong_or_deep
returns-clause-wrong_or_deep c = wrong_or_deep

pub returns-clause-wrong_or_derived : goal.returns-clause-wrong_or_derived
returns-clause-wrong_or_derived c = wrong_or_derived

pub returns-clause-deep_or_derived : goal.returns-clause-deep_or_derived
returns-clause-deep_or_derived c = deep_or_derived
