-- What an error leaves to be told, and values that stand behind none.
use Rattle.std.proofs.Common.{◌≡◌, List, [], ◌++◌, ap, ◌∙◌}
use Rattle.std.specs.Prelude.{Result, Ok, Err, IfOk, OnOk, OnErr}

pub none_told : {T E : Type 0} (P : T → Type 0) (r : Result T E) (e : E) → r ≡ Err e → IfOk r P
none_told P (Ok x) e is = cc
none_told P (Err y) e is = tt

pub none_done : {T E : Type 0} (P : Type 0) (r : Result T E) (e : E) → r ≡ Err e → OnOk r P
none_done P (Ok x) e is = cc
none_done P (Err y) e is = tt

pub told_err : {T E : Type 0} (P : Type 0) (r : Result T E) → P → OnErr r P
told_err P (Ok x) h = tt
told_err P (Err y) h = h

pub after_none : {A : Type 0} (now old vs : List A) → now ≡ old ++ vs → old ≡ [] → now ≡ vs
after_none now old vs is none = is ∙ ap (λ l. l ++ vs) none
