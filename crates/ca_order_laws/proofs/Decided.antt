-- Equality of calls can be decided.
use Rattle.std.proofs.Common.{◌≡◌, ℕ, List, [], ◌∷◌, refl, ap, ◌∙◌, zero, suc, arith}
use Rattle.std.specs.Prelude.{Bool, true, false, ℤ, pos, negsuc}
use Rattle.ca_program.specs.declared.program.OpId.{OpId}
use Rattle.ca_model.specs.declared.value.Value.{Value as Datum}
use Rattle.ca_model.specs.declared.value.Value.TheVariants.{Long, Bool as Truth, Null, Ref}
use Rattle.ca_meaning.specs.Expressions.{Invocation}
use Rattle.ca_order_laws.proofs.Weights.{Decides, equal, other}

pub decide_nat : (n m : ℕ) → Decides n m
decide_nat zero zero = equal refl
decide_nat zero (suc m) = other (λ e. omega arith)
decide_nat (suc n) zero = other (λ e. omega arith)
decide_nat (suc n) (suc m) = next (decide_nat n m)
  where
    next : {n m : ℕ} → Decides n m → Decides (suc n) (suc m)
    next (equal e) = equal (ap suc e)
    next (other ne) = other (λ e. ne (omega arith))

by_map : {A B : Type 0} (f : A → B) {x y : A} → (f x ≡ f y → x ≡ y) → Decides x y → Decides (f x) (f y)
by_map f g (equal e) = equal (ap f e)
by_map f g (other n) = other (λ e. n (g e))

decide_bool : (a b : Bool) → Decides a b
decide_bool true true = equal refl
decide_bool true false = other (λ e. cc)
decide_bool false true = other (λ e. cc)
decide_bool false false = equal refl

decide_int : (a b : ℤ) → Decides a b
decide_int (pos a) (pos b) = by_map pos (λ e. cc) (decide_nat a b)
decide_int (pos a) (negsuc b) = other (λ e. cc)
decide_int (negsuc a) (pos b) = other (λ e. cc)
decide_int (negsuc a) (negsuc b) = by_map negsuc (λ e. cc) (decide_nat a b)

decide_datum : (a b : Datum) → Decides a b
decide_datum (Long a) (Long b) = by_map Long (λ e. cc) (decide_int a b)
decide_datum (Truth a) (Truth b) = by_map Truth (λ e. cc) (decide_bool a b)
decide_datum Null Null = equal refl
decide_datum (Ref a) (Ref b) = by_map Ref (λ e. cc) (decide_nat a b)
decide_datum (Long a) (Truth b) = other (λ e. cc)
decide_datum (Long a) Null = other (λ e. cc)
decide_datum (Long a) (Ref b) = other (λ e. cc)
decide_datum (Truth a) (Long b) = other (λ e. cc)
decide_datum (Truth a) Null = other (λ e. cc)
decide_datum (Truth a) (Ref b) = other (λ e. cc)
decide_datum Null (Long b) = other (λ e. cc)
decide_datum Null (Truth b) = other (λ e. cc)
decide_datum Null (Ref b) = other (λ e. cc)
decide_datum (Ref a) (Long b) = other (λ e. cc)
decide_datum (Ref a) (Truth b) = other (λ e. cc)
decide_datum (Ref a) Null = other (λ e. cc)

decide_list : (a b : List Datum) → Decides a b
decide_list [] [] = equal refl
decide_list [] (y ∷ ys) = other (λ e. cc)
decide_list (x ∷ xs) [] = other (λ e. cc)
decide_list (x ∷ xs) (y ∷ ys) = from (decide_datum x y) (decide_list xs ys)
  where
    from : Decides x y → Decides xs ys → Decides (x ∷ xs) (y ∷ ys)
    from (equal e) (equal d) = equal (ap (λ a. a ∷ xs) e ∙ ap (λ l. y ∷ l) d)
    from (other n) d = other (λ e. n (cc))
    from (equal e) (other n) = other (λ d. n (cc))

abbrev make_op : ℕ → OpId
make_op n = record { 0 = n }

pub decide_call : (a b : Invocation) → Decides a b
decide_call a b = from (decide_nat a.op.0 b.op.0) (decide_nat a.receiver b.receiver) (decide_list a.arguments b.arguments)
  where
    make : ℕ → ℕ → List Datum → Invocation
    make m n l = record { receiver = n; op = make_op m; arguments = l }

    from : Decides a.op.0 b.op.0 → Decides a.receiver b.receiver → Decides a.arguments b.arguments → Decides a b
    from (equal x) (equal y) (equal z) = equal (ap (λ m. make m a.receiver a.arguments) x ∙ ap (λ n. make b.op.0 n a.arguments) y ∙ ap (λ l. make b.op.0 b.receiver l) z)
    from (other n) y z = other (λ e. n (ap (λ (d : Invocation). d.op.0) e))
    from (equal x) (other n) z = other (λ e. n (ap (λ (d : Invocation). d.receiver) e))
    from (equal x) (equal y) (other n) = other (λ e. n (ap (λ (d : Invocation). d.arguments) e))
