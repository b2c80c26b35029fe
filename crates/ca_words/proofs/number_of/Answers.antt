use Rattle.std.proofs.Common.{◌≡◌, arith, ◌∙◌, sym}
use Rattle.std.proofs.lemmas.Fmt.{decimal_injective}
use Rattle.ca_words.proofs.number_of.Goals as goal

pub returns-in_default-clause-none : goal.returns-in_default-clause-none
returns-in_default-clause-none c n least most is =
    let same : n ≡ c.in-Some.number = decimal_injective n c.in-Some.number (omega arith) (omega arith) (sym is ∙ c.in-Some.ensures.some) in
    omega (arith, same)

pub returns-in_default-2-clause-none : goal.returns-in_default-2-clause-none
returns-in_default-2-clause-none c n least most is =
    let same : n ≡ c.in-Some.number = decimal_injective n c.in-Some.number (omega arith) (omega arith) (sym is ∙ c.in-Some.ensures.some) in
    omega (arith, same)

pub returns-in_default-3-clause-none : goal.returns-in_default-3-clause-none
returns-in_default-3-clause-none c n least most is = c.in_default.ensures.none n (omega arith) is
