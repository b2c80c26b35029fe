-- Texts that are written one after another, for callers of `write_all`.
use Rattle.std.proofs.Common.{◌≡◌, ℕ, ◌-◌, List, [], ◌++◌, length, take, drop, Option, Some, None, Result, Ok, Err, refl, ap, sym, ◌∙◌, append_assoc, append-nil}
use Rattle.std.proofs.lemmas.List.{take-append-drop, take_rest}
use Rattle.ca_base.specs.Devices.{grown, Began, Writes}

pub grown_twice : (old : Option (List ℕ)) (a b : List ℕ) → grown (grown old a) b ≡ grown old (a ++ b)
grown_twice None a b = refl
grown_twice (Some o) a b = ap Some (append_assoc o a b)

pub grown_nothing : (old : Option (List ℕ)) → grown old [] ≡ old
grown_nothing None = refl
grown_nothing (Some o) = ap Some (append-nil o)

-- where one text was written whole and another began after it, the two together began
pub began_after : (old mid now : Option (List ℕ)) (a b : List ℕ) → mid ≡ grown old a → Began mid now b → Began old now (a ++ b)
began_after old mid now a b e r = record {
  done = a ++ r.done;
  rest = r.rest;
  whole = ap (λ t. a ++ t) r.whole ∙ sym (append_assoc a r.done r.rest);
  told = r.told ∙ ap (λ m. grown m r.done) e ∙ grown_twice old a r.done;
}

-- more may come behind a text that began
pub began_more : (old now : Option (List ℕ)) (a b : List ℕ) → Began old now a → Began old now (a ++ b)
began_more old now a b r = record {
  done = r.done;
  rest = r.rest ++ b;
  whole = ap (λ t. t ++ b) r.whole ∙ append_assoc r.done r.rest b;
  told = r.told;
}

-- what was written whole began, whatever comes behind it
pub began_whole : (old now : Option (List ℕ)) (a b : List ℕ) → now ≡ grown old a → Began old now (a ++ b)
began_whole old now a b e = record { done = a; rest = b; whole = refl; told = e }

-- each text begins with nothing
pub began_nothing : (old : Option (List ℕ)) (b : List ℕ) → Began old old b
began_nothing old b = record { done = []; rest = b; whole = refl; told = sym (grown_nothing old) }

-- where one text was written whole, what is written after it is written after both
pub writes_after : {T E : Type 0} (old mid now : Option (List ℕ)) (r : Result T E) (a b : List ℕ) → mid ≡ grown old a → Writes mid now r b → Writes old now r (a ++ b)
writes_after old mid now (Ok x) a b e w = record { whole = w.whole ∙ ap (λ m. grown m b) e ∙ grown_twice old a b; part = tt }
writes_after old mid now (Err x) a b e w = record { whole = tt; part = began_after old mid now a b e w.part }

-- where a text was not written whole, more behind it was not either
pub writes_more : {T U E : Type 0} (old now : Option (List ℕ)) (e : E) (a b : List ℕ) → Writes {T = T} old now (Err e) a → Writes {T = U} old now (Err e) (a ++ b)
writes_more old now e a b w = record { whole = tt; part = began_more old now a b w.part }

pub ruleset texts = (grown_twice, grown_nothing, began_after, began_more, began_whole, began_nothing, writes_after, writes_more)

-- of a piece in two parts, so many bytes of the second move to the first
pub parts_on : (piece done rest : List ℕ) (n : ℕ) → piece ≡ done ++ rest → piece ≡ (done ++ take n rest) ++ take (length rest - n) (drop n rest)
parts_on piece done rest n e =
    rw (take_rest rest n) (e ∙ ap (λ t. done ++ t) (sym (take-append-drop n rest)) ∙ sym (append_assoc done (take n rest) (drop n rest)))
