-- Texts that are added piece by piece.
use Rattle.std.proofs.Common.{◌≡◌, ◌<◌, ◌≤◌, ◌+◌, ℕ, List, [], ◌++◌, length, drop, get_or, Option, Result, Ok, Err, refl, sym, ap, ◌∙◌, subst, append_assoc, codes, flat_map}
use Rattle.std.specs.Prelude.{slice_get, Some}
use Rattle.std.proofs.lemmas.List.{drop_all}
use Rattle.ca_program.specs.declared.program.OpId.{OpId}
use Rattle.ca_program.specs.Plain.{PlainProgram, PlainMethod}
use Rattle.ca_model.specs.Lines.{Went, Adds}
use Rattle.ca_model.proofs.Lines.{adds_after, adds_more, went_after, further, at_end, adds_nothing}
use Rattle.ca_model.proofs.Stores.{found}
use Rattle.ca_model.proofs.Texts.{drop_there}
use Rattle.ca_plan.specs.Plans.{Judged}
use Rattle.ca_plan.specs.Texts.{class_part, colons_part, name_part, method_text, extent_text, extents_text, op_mode_text, modes_text}

pub adds_same : {T E : Type 0} {old now : Option (List ℕ)} {pending left : List ℕ} {r : Result T E} (s t : List ℕ) → s ≡ t → Adds old now pending left r s → Adds old now pending left r t
adds_same {old = old} {now = now} {pending = pending} {left = left} {r = r} s t e a = subst (λ z. Adds old now pending left r z) e a

-- The texts of some items, one after another

-- what is done of a text, and what of it is left
pub record Doing (old now : Option (List ℕ)) (pending line text rest : List ℕ) : Type 0 where
  pub done : List ℕ
  pub whole : text ≡ done ++ rest
  pub went : Went old now (pending ++ done) line

pub begun : (old : Option (List ℕ)) (pending text : List ℕ) → Doing old old pending pending text text
begun old pending text = record { done = []; whole = refl; went = (adds_nothing {T = ℕ} {E = ℕ} old pending 0).whole }

pub one_done : {old mid now : Option (List ℕ)} {pending line last text rest : List ℕ} (item more : List ℕ) → rest ≡ item ++ more → Doing old mid pending line text rest → Went mid now (line ++ item) last → Doing old now pending last text more
one_done {old} {mid} {now} {pending} {line} {last} {text} {rest} item more e d w = record {
  done = d.done ++ item;
  whole = further text d.done rest item more d.whole e;
  went = went_after old mid now pending d.done line item last d.went w;
}

pub failed : {T E : Type 0} {old mid now : Option (List ℕ)} {pending line last text rest : List ℕ} (e : E) (item more : List ℕ) → rest ≡ item ++ more → Doing old mid pending line text rest
    → Adds {T = T} mid now line last (Err e) item → Adds {T = T} old now pending last (Err e) text
failed {T} {E} {old} {mid} {now} {pending} {line} {last} {text} {rest} e item more is d a =
    let all : (d.done ++ item) ++ more ≡ text = sym (further text d.done rest item more d.whole is) in
    adds_same {T = T} {E = E} ((d.done ++ item) ++ more) text all (adds_more old now pending last e (d.done ++ item) more (adds_after old mid now pending d.done line item last (Err e) d.went a))

pub all_done : {T E : Type 0} {old now : Option (List ℕ)} {pending line text rest : List ℕ} (x : T) → rest ≡ [] → Doing old now pending line text rest → Adds {E = E} old now pending line (Ok x) text
all_done {old = old} {now = now} {pending = pending} {line = line} {text = text} {rest = rest} x e d =
    record { whole = subst (λ z. Went old now (pending ++ z) line) (sym (at_end text d.done rest d.whole e)) d.went; part = tt }

-- lists of texts

pub one_of : {A : Type 0} (f : A → List ℕ) (xs : List A) (i : ℕ) (x : A) → i < length xs → x ≡ get_or xs i x → flat_map f (drop i xs) ≡ f x ++ flat_map f (drop (i + 1) xs)
one_of f xs i x h is = ap (flat_map f) (drop_there xs i x (found xs i x h is))

pub none_of : {A : Type 0} (f : A → List ℕ) (xs : List A) (i : ℕ) → length xs ≤ i → flat_map f (drop i xs) ≡ []
none_of f xs i h = ap (flat_map f) (drop_all i xs h)

pub one_extent : (p : PlainProgram) (js : List Judged) (i : ℕ) (j : Judged) → slice_get js i ≡ Some j → extents_text p i (drop i js) ≡ extent_text p i j ++ extents_text p (i + 1) (drop (i + 1) js)
one_extent p js i j e = ap (extents_text p i) (drop_there js i j e)

pub no_extents : (p : PlainProgram) (js : List Judged) (i : ℕ) → length js ≤ i → extents_text p i (drop i js) ≡ []
no_extents p js i h = ap (extents_text p i) (drop_all i js h)

pub one_mode : (p : PlainProgram) (marked : List OpId) (js : List Judged) (i : ℕ) (j : Judged) → slice_get js i ≡ Some j → modes_text p marked i (drop i js) ≡ op_mode_text p marked i ++ modes_text p marked (i + 1) (drop (i + 1) js)
one_mode p marked js i j e = ap (modes_text p marked i) (drop_there js i j e)

pub no_modes : (p : PlainProgram) (marked : List OpId) (js : List Judged) (i : ℕ) → length js ≤ i → modes_text p marked i (drop i js) ≡ []
no_modes p marked js i h = ap (modes_text p marked i) (drop_all i js h)

-- Names of operations

nothing_behind : (a b c rest : List ℕ) → a ++ (b ++ (c ++ rest)) ≡ (a ++ (b ++ (c ++ []))) ++ rest
nothing_behind a b c rest = sym (append_assoc a (b ++ (c ++ [])) rest ∙ ap (λ z. a ++ z) (append_assoc b (c ++ []) rest ∙ ap (λ z. b ++ z) (append_assoc c [] rest)))

-- the three parts of a name, and what stands behind it
pub named_is : (p : PlainProgram) (m : Option PlainMethod) (a b c rest : List ℕ) → a ≡ class_part p m → b ≡ colons_part m → c ≡ name_part m → a ++ (b ++ (c ++ rest)) ≡ method_text p m ++ rest
named_is p m a b c rest e f g = rw (e, f, g) (nothing_behind (class_part p m) (colons_part m) (name_part m) rest)

pub names_are : (p : PlainProgram) (m n : Option PlainMethod) (a b c d e f : List ℕ) → a ≡ class_part p m → b ≡ colons_part m → c ≡ name_part m → d ≡ class_part p n → e ≡ colons_part n → f ≡ name_part n
    → a ++ (b ++ (c ++ (codes " " ++ (d ++ (e ++ (f ++ (codes " " ++ []))))))) ≡ method_text p m ++ (codes " " ++ (method_text p n ++ (codes " " ++ [])))
names_are p m n a b c d e f x y z u v w =
    named_is p m a b c (codes " " ++ (d ++ (e ++ (f ++ (codes " " ++ []))))) x y z ∙ ap (λ t. method_text p m ++ (codes " " ++ t)) (named_is p n d e f (codes " " ++ []) u v w)

-- an offence, with the text behind the name
pub offence_is : (p : PlainProgram) (m : Option PlainMethod) (a b c rest : List ℕ) → a ≡ class_part p m → b ≡ colons_part m → c ≡ name_part m
    → (a ++ (b ++ (c ++ (codes " " ++ [])))) ++ rest ≡ method_text p m ++ (codes " " ++ rest)
offence_is p m a b c rest e f g = ap (λ z. z ++ rest) (named_is p m a b c (codes " " ++ []) e f g) ∙ append_assoc (method_text p m) (codes " " ++ []) rest
