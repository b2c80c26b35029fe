-- What was added where there was room.
use Rattle.std.proofs.Common.{◌≡◌, List, ◌∷◌, [], ◌++◌, Bool, true, false, Option, Some, None, Result, Ok, Err, is_ok, is_some, if◌then◌else◌, map, refl, subst, ap, ◌∙◌}
use Rattle.std.specs.Result.{result_and}
use Rattle.std.proofs.lemmas.List.{map-append}
use Rattle.ca_program.specs.declared.program.FieldInfo.{FieldInfo}
use Rattle.ca_program.specs.declared.program.Method.{Method}
use Rattle.ca_program.specs.declared.program.ValueType.{ValueType}
use Rattle.ca_program.specs.Plain as program
use Rattle.ca_program.specs.View.{method_view}
use Rattle.ca_types.specs.Classes.{Members, Parts}
use Rattle.ca_types.specs.clauses.Adding.{with_method}

pub members_are : (f g : List FieldInfo) (o p h i : List program.PlainMethod) → f ≡ g → o ≡ p → h ≡ i
    → (let one : Members = record { fields = f; ops = o; functions = h } in one) ≡ (let other : Members = record { fields = g; ops = p; functions = i } in other)
members_are f g o p h i d e k = rw (d, e, k) refl

pub parts_are : (f g : List program.PlainClass) (o p h i : List program.PlainMethod) → f ≡ g → o ≡ p → h ≡ i
    → (let one : Parts = record { classes = f; ops = o; functions = h } in one) ≡ (let other : Parts = record { classes = g; ops = p; functions = i } in other)
parts_are f g o p h i d e k = rw (d, e, k) refl

-- a method is put where its result says
pub function_put : (p : Members) (o : Option ValueType) (m : program.PlainMethod) → is_some o ≡ true
    → (let now : Members = record { fields = p.fields; ops = p.ops; functions = p.functions ++ m ∷ [] } in now) ≡ with_method p o m
function_put p (Some t) m h = refl
function_put p None m h = absurd (cc)

pub operation_put : (p : Members) (o : Option ValueType) (m : program.PlainMethod) → is_some o ≡ false
    → (let now : Members = record { fields = p.fields; ops = p.ops ++ m ∷ []; functions = p.functions } in now) ≡ with_method p o m
operation_put p (Some t) m h = absurd (cc)
operation_put p None m h = refl

-- methods in memory, one more behind them
pub methods_and : (ms ns : List Method) (m : Method) → ns ≡ ms ++ m ∷ [] → map method_view ns ≡ map method_view ms ++ method_view m ∷ []
methods_and ms ns m e = ap (map method_view) e ∙ map-append method_view ms (m ∷ [])

-- others behind them, where there was room for all
pub others_put : {A B : Type 0} (view : A → B) (xs ys zs : List A) (b : Bool) → b ≡ true → zs ≡ (if b then xs ++ ys else xs) → map view zs ≡ map view xs ++ map view ys
others_put view xs ys zs true h e = ap (map view) e ∙ map-append view xs ys
others_put view xs ys zs false h e = absurd (cc)

-- three rooms, each asked for
pub all_room : {T E : Type 0} (a b d e f : Result T E) → e ≡ result_and a b → f ≡ result_and e d → is_ok f ≡ true → (is_ok a ≡ true) × (is_ok b ≡ true) × (is_ok d ≡ true)
all_room (Ok x) (Ok y) (Ok z) e f p q h = (refl, refl, refl)
all_room (Ok x) (Ok y) (Err z) e f p q h = let k = subst (λ r. is_ok r ≡ true) (q ∙ ap (λ r. result_and r (Err z)) p) h in absurd (cc)
all_room (Ok x) (Err y) d e f p q h = let k = subst (λ r. is_ok r ≡ true) (q ∙ ap (λ r. result_and r d) p) h in absurd (cc)
all_room (Err x) b d e f p q h = let k = subst (λ r. is_ok r ≡ true) (q ∙ ap (λ r. result_and r d) p) h in absurd (cc)
