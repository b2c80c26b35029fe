-- Lists of `for` statements whose numbers rise.
use Rattle.std.proofs.Common.{◌≡◌, ◌≤◌, ◌<◌, ℕ, zero, suc, List, [], ◌∷◌, ◌++◌, Some, ap, sym, ◌∙◌, arith}
use Rattle.std.specs.Prelude.{slice_get, Contains}
use Rattle.std.proofs.lemmas.Option.{slice_get-get_or}
use Rattle.ca_program.specs.declared.program.LoopId.{LoopId}
use Rattle.ca_program.specs.Plain.{Statement, block, put_local, put_field, put_item, new_local, new_field, new_item, invoke, if_else, while_loop, for_loop, return_value, print_value}
use Rattle.ca_parallel.specs.Marks.{HasSite}
use Rattle.ca_parallel.specs.ExtentsOf.{Rises}
use Rattle.ca_parallel.specs.Numbered.{LoopBefore}

abbrev pub number_of : Statement → ℕ
number_of (for_loop line site part first c next b) = site.0
number_of (block line ss) = 0
number_of (put_local line l op e) = 0
number_of (put_field line f op e) = 0
number_of (put_item line f i op e) = 0
number_of (new_local line l c) = 0
number_of (new_field line f c) = 0
number_of (new_item line f i c) = 0
number_of (invoke line e op arguments) = 0
number_of (if_else line c a b) = 0
number_of (while_loop line c b) = 0
number_of (return_value line e) = 0
number_of (print_value line e) = 0

number_is : (s : Statement) (id : LoopId) → HasSite s id → number_of s ≡ id.0
number_is (for_loop line site part first c next b) id h = ap (λ (i : LoopId). i.0) h
number_is (block line ss) id h = absurd h
number_is (put_local line l op e) id h = absurd h
number_is (put_field line f op e) id h = absurd h
number_is (put_item line f i op e) id h = absurd h
number_is (new_local line l c) id h = absurd h
number_is (new_field line f c) id h = absurd h
number_is (new_item line f i c) id h = absurd h
number_is (invoke line e op arguments) id h = absurd h
number_is (if_else line c a b) id h = absurd h
number_is (while_loop line c b) id h = absurd h
number_is (return_value line e) id h = absurd h
number_is (print_value line e) id h = absurd h

-- the first has at least this number, each has a greater one than that before it, and all are below the last number
abbrev pub Ascends : ℕ → List Statement → ℕ → Type 0
Ascends a [] b = a ≤ b
Ascends a (x ∷ xs) b = (a ≤ number_of x) × Ascends (suc (number_of x)) xs b

pub ascends_earlier : (a c : ℕ) (xs : List Statement) (b : ℕ) → a ≤ c → Ascends c xs b → Ascends a xs b
ascends_earlier a c [] b le h = omega (arith, le, h)
ascends_earlier a c (x ∷ xs) b le h = (let l = h.0 in omega (arith, le, l), h.1)

pub ascends_later : (a : ℕ) (xs : List Statement) (b c : ℕ) → b ≤ c → Ascends a xs b → Ascends a xs c
ascends_later a [] b c le h = omega (arith, le, h)
ascends_later a (x ∷ xs) b c le h = (h.0, ascends_later (suc (number_of x)) xs b c le h.1)

pub ascends_up : (a : ℕ) (xs : List Statement) (b : ℕ) → Ascends a xs b → a ≤ b
ascends_up a [] b h = h
ascends_up a (x ∷ xs) b h = let r = ascends_up (suc (number_of x)) xs b h.1 in let l = h.0 in omega (arith, l, r)

pub ascends_then : (a : ℕ) (xs : List Statement) (b : ℕ) (ys : List Statement) (c : ℕ) → Ascends a xs b → Ascends b ys c → Ascends a (xs ++ ys) c
ascends_then a [] b ys c h k = ascends_earlier a b ys c h k
ascends_then a (x ∷ xs) b ys c h k = (h.0, ascends_then (suc (number_of x)) xs b ys c h.1 k)

-- ---- what follows

at_least : (a : ℕ) (xs : List Statement) (b : ℕ) → Ascends a xs b → (n : ℕ) (y : Statement) → slice_get xs n ≡ Some y → a ≤ number_of y
at_least a [] b h n y e = absurd (cc)
at_least a (x ∷ xs) b h zero y e = let same : x ≡ y = cc in let l = h.0 in rw (← same) l
at_least a (x ∷ xs) b h (suc n) y e = let r = at_least (suc (number_of x)) xs b h.1 n y e in let l = h.0 in omega (arith, l, r)

above : (a : ℕ) (xs : List Statement) (b : ℕ) → Ascends a xs b → (n : ℕ) (x y : Statement) → slice_get xs n ≡ Some x → slice_get xs (suc n) ≡ Some y → number_of x < number_of y
above a [] b h n x y d e = absurd (cc)
above a (z ∷ zs) b h zero x y d e =
    let same : z ≡ x = cc in
    let n : number_of z ≡ number_of x = ap number_of same in
    let r = at_least (suc (number_of z)) zs b h.1 0 y e in
    omega (arith, n, r)
above a (z ∷ zs) b h (suc n) x y d e = above (suc (number_of z)) zs b h.1 n x y d e

alone : (a : ℕ) (xs : List Statement) (b : ℕ) → Ascends a xs b → (i j : ℕ) (x y : Statement) → slice_get xs i ≡ Some x → slice_get xs j ≡ Some y → number_of x ≡ number_of y → x ≡ y
alone a [] b h i j x y d e n = absurd (cc)
alone a (z ∷ zs) b h zero zero x y d e n = cc
alone a (z ∷ zs) b h zero (suc j) x y d e n =
    let same : z ≡ x = cc in
    let m : number_of z ≡ number_of x = ap number_of same in
    let r = at_least (suc (number_of z)) zs b h.1 j y e in
    absurd (omega (arith, n, m, r))
alone a (z ∷ zs) b h (suc i) zero x y d e n =
    let same : z ≡ y = cc in
    let m : number_of z ≡ number_of y = ap number_of same in
    let r = at_least (suc (number_of z)) zs b h.1 i x d in
    absurd (omega (arith, n, m, r))
alone a (z ∷ zs) b h (suc i) (suc j) x y d e n = alone (suc (number_of z)) zs b h.1 i j x y d e n

found : (xs : List Statement) (x : Statement) → Contains xs x → (n : ℕ) × (slice_get xs n ≡ Some x)
found xs x c = (c.0, slice_get-get_or xs c.0 x c.1 ∙ ap Some c.2)

pub rises : (a : ℕ) (xs : List Statement) (b : ℕ) → Ascends a xs b → Rises LoopBefore xs
rises a xs b h = record { rises = λ n x y d e i j p q. let lt = above a xs b h n x y d e in let s = number_is x i p in let t = number_is y j q in omega (arith, lt, s, t) }

pub one_loop : (a : ℕ) (xs : List Statement) (b : ℕ) → Ascends a xs b → (id : LoopId) (x y : Statement) → Contains xs x → Contains xs y → HasSite x id → HasSite y id → x ≡ y
one_loop a xs b h id x y c d p q =
    let i = found xs x c in
    let j = found xs y d in
    alone a xs b h i.0 j.0 x y i.1 j.1 (number_is x id p ∙ sym (number_is y id q))
