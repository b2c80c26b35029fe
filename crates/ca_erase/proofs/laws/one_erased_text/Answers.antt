use Rattle.std.proofs.Common.{refl}
use Rattle.ca_erase.proofs.OneText.{one_text, no_bad_mark, one_place}
use Rattle.ca_erase.proofs.laws.one_erased_text.Goals as goal

pub returns-clause-text : goal.returns-clause-text
returns-clause-text c = λ text one other d f. one_text d f refl

pub returns-clause-marks : goal.returns-clause-marks
returns-clause-marks c = λ text one p d f. no_bad_mark d f refl

pub returns-clause-places : goal.returns-clause-places
returns-clause-places c = λ text p q d f. one_place d f refl refl
