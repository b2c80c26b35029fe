-- Old values that are moved behind others are those of a later section: they come first.
use Rattle.std.proofs.Common.{◌≡◌, List, ◌++◌, reverse, Result, Ok, Err, is_ok, ap, ◌∙◌}
use Rattle.std.specs.Prelude.{IfOk, OnErr, if◌then◌else◌}
use Rattle.std.proofs.lemmas.List.{reverse-append}
use Rattle.ca_undo.specs.declared.olds.Old.{Old}

pub moved : {T E : Type 0} (r : Result T E) (new a b : List Old) → new ≡ (if is_ok r then a ++ b else a) → IfOk r (λ _. reverse new ≡ reverse b ++ reverse a)
moved (Ok x) new a b e = ap reverse e ∙ reverse-append a b
moved (Err x) new a b e = tt

pub stays : {T E : Type 0} (r : Result T E) (new a b : List Old) → new ≡ (if is_ok r then a ++ b else a) → OnErr r (reverse new ≡ reverse a)
stays (Ok x) new a b e = tt
stays (Err x) new a b e = ap reverse e
