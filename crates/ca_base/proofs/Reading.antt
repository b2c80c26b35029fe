-- What is read one part after another.
use Rattle.std.proofs.Common.{◌≡◌, ℕ, ◌≤◌, ◌<◌, min, List, ◌++◌, length, take, drop, Option, Some, None, Result, Ok, Err, IfOk, refl, ap, sym, ◌∙◌, append_assoc, arith}
use Rattle.std.proofs.lemmas.List.{take-append-drop, take-append-le, drop-append-le, take_at, drop_at, drop_all, length-take-le}
use Rattle.std.specs.Prelude.{IfSome}
use Rattle.ca_base.specs.Devices.{with_front, Took, Reads}

pub front_twice : (left : Option (List ℕ)) (a b : List ℕ) → with_front a (with_front b left) ≡ with_front (a ++ b) left
front_twice None a b = refl
front_twice (Some o) a b = ap Some (sym (append_assoc a b o))

-- bytes that were placed at the front of the buffer, as many as fit, were taken
pub placed_took : (bytes buf : List ℕ) (n : ℕ) → n ≡ min (length buf) (length bytes) → 0 < length buf → Took (Some bytes) (Some (drop n bytes)) n buf (take n bytes ++ drop n buf)
placed_took bytes buf n e some =
    let fits : n ≤ length bytes = omega (arith, e) in
    let front : length (take n bytes) ≡ n = length-take-le n bytes fits in
    record {
      bytes = ap Some (sym (ap (λ t. t ++ drop n bytes) (take_at (take n bytes) (drop n buf) n front) ∙ take-append-drop n bytes));
      rest = drop_at (take n bytes) (drop n buf) n front;
      end = λ zero. ap Some (drop_all n bytes (omega (arith, e, zero, some)));
    }

behind_front : (m n : ℕ) (before part : List ℕ) → m ≤ length part → m ≤ length (take n before) → drop m part ≡ drop m (take n before) → drop m (part ++ drop n before) ≡ drop m before
behind_front m n before part p q e =
    drop-append-le m part (drop n before) p
    ∙ ap (λ t. t ++ drop n before) e
    ∙ sym (drop-append-le m (take n before) (drop n before) q)
    ∙ ap (λ t. drop m t) (take-append-drop n before)

rest_in_front : (old : Option (List ℕ)) (m n : ℕ) (before part : List ℕ) → m ≤ length part → m ≤ length (take n before) → IfSome old (λ _. drop m part ≡ drop m (take n before))
    → IfSome old (λ _. drop m (part ++ drop n before) ≡ drop m before)
rest_in_front None m n before part p q e = e
rest_in_front (Some bytes) m n before part p q e = behind_front m n before part p q e

-- a read into the front of a buffer is a read into the buffer
pub reads_in_front : {E : Type 0} (old now : Option (List ℕ)) (result : Result ℕ E) (n left : ℕ) (before part : List ℕ) → IfOk result (λ m. m ≤ length part)
    → IfOk result (λ m. m ≡ min (length (take n before)) left) → Reads old now result (take n before) part → Reads old now result before (part ++ drop n before)
reads_in_front old now (Ok m) n left before part p f r =
    let q : m ≤ length (take n before) = omega (arith, f) in
    record {
      bytes = r.bytes ∙ ap (λ t. with_front t now) (sym (take-append-le m part (drop n before) p));
      rest = rest_in_front old m n before part p q r.rest;
      end = r.end;
    }
reads_in_front old now (Err e) n left before part p f r = r
