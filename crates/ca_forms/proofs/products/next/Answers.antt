use Rattle.std.proofs.Common.{arith, ◌≡◌, ℕ, ◌+◌, List, ◌∷◌, drop, sym, ◌∙◌, Less, Equal, Greater}
use Rattle.ca_lists.proofs.Places.{item_and_rest}
use Rattle.ca_forms.specs.Plain.{PlainPart}
use Rattle.ca_forms.specs.Compare.{part_cmp}
use Rattle.ca_forms.specs.Products.{joined, merge}
use Rattle.ca_forms.proofs.Merging.{next_is, left_first, both_first, right_first}
use Rattle.ca_forms.proofs.products.next.Goals as goal

pub returns-in-Less : goal.returns-in-Less
returns-in-Less c =
    let x : PlainPart × ℕ = c.index-a-i.result in
    let y : PlainPart × ℕ = c.index-b-j.result in
    let xs : List (PlainPart × ℕ) = c.args.a.now in
    let ys : List (PlainPart × ℕ) = c.args.b.now in
    let i : ℕ = c.args.i in
    let j : ℕ = c.args.j in
    let first : drop i xs ≡ x ∷ drop (i + 1) xs = item_and_rest xs i x c.requires.0 c.index-a-i.is in
    let second : drop j ys ≡ y ∷ drop (j + 1) ys = item_and_rest ys j y c.requires.1 c.index-b-j.is in
    let order : part_cmp x.0 y.0 ≡ Less = rw (← c.x.view_is, ← c.y.view_is) (sym c.compare.ensures ∙ c.in-Less.is) in
    let whole : merge (drop i xs) (drop j ys) ≡ x ∷ merge (drop (i + 1) xs) (drop j ys) = left_first (drop i xs) (drop j ys) (drop (i + 1) xs) (drop (j + 1) ys) x y first second order in
    (next_is c.copy.result x (merge (drop i xs) (drop j ys)) (merge (drop (i + 1) xs) (drop j ys)) whole c.copy.ensures, omega (arith, c.requires.0), omega (arith, c.requires.1), omega arith)

pub returns-in-Equal : goal.returns-in-Equal
returns-in-Equal c =
    let x : PlainPart × ℕ = c.index-a-i.result in
    let y : PlainPart × ℕ = c.index-b-j.result in
    let xs : List (PlainPart × ℕ) = c.args.a.now in
    let ys : List (PlainPart × ℕ) = c.args.b.now in
    let i : ℕ = c.args.i in
    let j : ℕ = c.args.j in
    let first : drop i xs ≡ x ∷ drop (i + 1) xs = item_and_rest xs i x c.requires.0 c.index-a-i.is in
    let second : drop j ys ≡ y ∷ drop (j + 1) ys = item_and_rest ys j y c.requires.1 c.index-b-j.is in
    let order : part_cmp x.0 y.0 ≡ Equal = rw (← c.x.view_is, ← c.y.view_is) (sym c.compare.ensures ∙ c.in-Equal.is) in
    let whole : merge (drop i xs) (drop j ys) ≡ joined x y ∷ merge (drop (i + 1) xs) (drop (j + 1) ys) = both_first (drop i xs) (drop j ys) (drop (i + 1) xs) (drop (j + 1) ys) x y first second order in
    (next_is c.joined.result (joined x y) (merge (drop i xs) (drop j ys)) (merge (drop (i + 1) xs) (drop (j + 1) ys)) whole c.joined.ensures, omega (arith, c.requires.0), omega (arith, c.requires.1), omega arith)

pub returns-in-Greater : goal.returns-in-Greater
returns-in-Greater c =
    let x : PlainPart × ℕ = c.index-a-i.result in
    let y : PlainPart × ℕ = c.index-b-j.result in
    let xs : List (PlainPart × ℕ) = c.args.a.now in
    let ys : List (PlainPart × ℕ) = c.args.b.now in
    let i : ℕ = c.args.i in
    let j : ℕ = c.args.j in
    let first : drop i xs ≡ x ∷ drop (i + 1) xs = item_and_rest xs i x c.requires.0 c.index-a-i.is in
    let second : drop j ys ≡ y ∷ drop (j + 1) ys = item_and_rest ys j y c.requires.1 c.index-b-j.is in
    let order : part_cmp x.0 y.0 ≡ Greater = rw (← c.x.view_is, ← c.y.view_is) (sym c.compare.ensures ∙ c.in-Greater.is) in
    let whole : merge (drop i xs) (drop j ys) ≡ y ∷ merge (drop i xs) (drop (j + 1) ys) = right_first (drop i xs) (drop j ys) (drop (i + 1) xs) (drop (j + 1) ys) x y first second order in
    (next_is c.copy-in-Greater.result y (merge (drop i xs) (drop j ys)) (merge (drop i xs) (drop (j + 1) ys)) whole c.copy-in-Greater.ensures, omega (arith, c.requires.0), omega (arith, c.requires.1), omega arith)
