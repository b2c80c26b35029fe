-- Terms as plain values: nothing says where they lie in memory.
use Rattle.std.specs.Prelude.{ℕ, ℤ, pos, ◌≡◌, ◌≢◌, Bool, FitsSigned, List, [], ◌∷◌}
use Rattle.std.specs.Int.{w64}
use Rattle.ca_forms.specs.declared.sort.Sort.{Sort}
use Rattle.ca_forms.specs.declared.sort.Sort.TheVariants.{Long, Bool as Truth, Pointer, LongArray, BoolArray, PointerArray}
use Rattle.ca_folds.specs.declared.operator.FoldOp.{FoldOp}
use Rattle.ca_norm.specs.declared.term.Term.{Term, Row_of-Term, end_of-Term, more_of-Term}
use Rattle.ca_norm.specs.declared.term.Term.TheVariants as term

mutual
  pub data PlainTerm : Type 0 where
    number : ℤ → PlainTerm
    truth : Bool → PlainTerm
    null : PlainTerm
    atom : Sort → ℕ → ℕ → PlainTerm
    add : PlainTerm → PlainTerm → PlainTerm
    sub : PlainTerm → PlainTerm → PlainTerm
    neg : PlainTerm → PlainTerm
    mul : PlainTerm → PlainTerm → PlainTerm
    divide : PlainTerm → ℤ → PlainTerm
    remainder : PlainTerm → ℤ → PlainTerm
    less : PlainTerm → PlainTerm → PlainTerm
    less_equal : PlainTerm → PlainTerm → PlainTerm
    same : PlainTerm → PlainTerm → PlainTerm
    not : PlainTerm → PlainTerm
    and : PlainTerm → PlainTerm → PlainTerm
    or : PlainTerm → PlainTerm → PlainTerm
    choose : PlainTerm → PlainTerm → PlainTerm → PlainTerm
    -- a field of another object: its sort, the object, and the field's class and number
    read : Sort → PlainTerm → ℕ → ℕ → PlainTerm
    -- and the item at an index of such a field
    read_at : Sort → PlainTerm → ℕ → ℕ → PlainTerm → PlainTerm
    -- a value method's result: its sort, the method, the receiver and the arguments
    result : Sort → ℕ → PlainTerm → PlainTerms → PlainTerm
    -- the item of an array at an index
    select : PlainTerm → PlainTerm → PlainTerm
    -- an array with another item at an index, and with an addend at its item there
    put : PlainTerm → PlainTerm → PlainTerm → PlainTerm
    add_at : PlainTerm → PlainTerm → PlainTerm → PlainTerm
    -- an operator whose operands may stand in any order
    fold : FoldOp → PlainTerm → PlainTerm → PlainTerm
    -- with an addend at each item from one number up to but not including another
    sweep : PlainTerm → PlainTerm → PlainTerm → PlainTerm → PlainTerm

  pub data PlainTerms : Type 0 where
    no_terms : PlainTerms
    term_and : PlainTerm → PlainTerms → PlainTerms

abbrev mutual
  pub shape : Term → PlainTerm
  shape (term.Number n) = number n
  shape (term.Truth b) = truth b
  shape term.Null = null
  shape (term.Atom sort group n) = atom sort group n
  shape (term.Add' p a q b) = add (shape a) (shape b)
  shape (term.Sub' p a q b) = sub (shape a) (shape b)
  shape (term.Neg' p a) = neg (shape a)
  shape (term.Mul' p a q b) = mul (shape a) (shape b)
  shape (term.Divide' p a n) = divide (shape a) n
  shape (term.Remainder' p a n) = remainder (shape a) n
  shape (term.Less' p a q b) = less (shape a) (shape b)
  shape (term.LessEqual' p a q b) = less_equal (shape a) (shape b)
  shape (term.Same' p a q b) = same (shape a) (shape b)
  shape (term.Not' p a) = not (shape a)
  shape (term.And' p a q b) = and (shape a) (shape b)
  shape (term.Or' p a q b) = or (shape a) (shape b)
  shape (term.Choose' p c q a r b) = choose (shape c) (shape a) (shape b)
  shape (term.Read' sort p t c f) = read sort (shape t) c f
  shape (term.ReadAt' sort p t c f q i) = read_at sort (shape t) c f (shape i)
  shape (term.Result' sort m p t room all) = result sort m (shape t) (row_shape all)
  shape (term.Select' p a q i) = select (shape a) (shape i)
  shape (term.Put' p a q i r v) = put (shape a) (shape i) (shape v)
  shape (term.AddAt' p a q i r v) = add_at (shape a) (shape i) (shape v)
  shape (term.Fold' o p a q b) = fold o (shape a) (shape b)
  shape (term.Sweep' p a q f r t s v) = sweep (shape a) (shape f) (shape t) (shape v)

  pub row_shape : {m : _} → Row_of-Term m → PlainTerms
  row_shape end_of-Term = no_terms
  row_shape (more_of-Term t rest) = term_and (shape t) (row_shape rest)

abbrev pub terms_of : List PlainTerm → PlainTerms
terms_of [] = no_terms
terms_of (t ∷ ts) = term_and t (terms_of ts)

-- the sort of the items of an array
abbrev pub item_sort : Sort → Sort
item_sort LongArray = Long
item_sort BoolArray = Truth
item_sort PointerArray = Pointer
item_sort sort = sort

abbrev pub sort_of : PlainTerm → Sort
sort_of (number n) = Long
sort_of (truth b) = Truth
sort_of null = Pointer
sort_of (atom sort group n) = sort
sort_of (add a b) = Long
sort_of (sub a b) = Long
sort_of (neg a) = Long
sort_of (mul a b) = Long
sort_of (divide a n) = Long
sort_of (remainder a n) = Long
sort_of (less a b) = Truth
sort_of (less_equal a b) = Truth
sort_of (same a b) = Truth
sort_of (not a) = Truth
sort_of (and a b) = Truth
sort_of (or a b) = Truth
sort_of (choose c a b) = sort_of a
sort_of (read sort p c f) = sort
sort_of (read_at sort p c f i) = sort
sort_of (result sort m p ts) = sort
sort_of (select a i) = item_sort (sort_of a)
sort_of (put a i v) = sort_of a
sort_of (add_at a i v) = sort_of a
sort_of (fold o a b) = Long
sort_of (sweep a f t v) = sort_of a

-- numbers and truth values
abbrev pub IsWord : Sort → Type 0
IsWord Long = Unit {0}
IsWord Truth = Unit {0}
IsWord sort = ⊥

-- single values
abbrev pub IsScalar : Sort → Type 0
IsScalar Long = Unit {0}
IsScalar Truth = Unit {0}
IsScalar Pointer = Unit {0}
IsScalar sort = ⊥

abbrev pub IsArray : Sort → Type 0
IsArray LongArray = Unit {0}
IsArray BoolArray = Unit {0}
IsArray PointerArray = Unit {0}
IsArray sort = ⊥

-- A term of the sort, well sorted inside, whose literals fit 64 bits and whose divisors aren't 0. An array is an atom,
-- or made of one by puts, sums at items and choices.
abbrev mutual
  pub IsOf : Sort → PlainTerm → Type 0
  IsOf sort (number n) = (sort ≡ Long) × FitsSigned w64 n
  IsOf sort (truth b) = sort ≡ Truth
  IsOf sort null = sort ≡ Pointer
  IsOf sort (atom s group n) = s ≡ sort
  IsOf sort (add a b) = (sort ≡ Long) × IsOf Long a × IsOf Long b
  IsOf sort (sub a b) = (sort ≡ Long) × IsOf Long a × IsOf Long b
  IsOf sort (neg a) = (sort ≡ Long) × IsOf Long a
  IsOf sort (mul a b) = (sort ≡ Long) × IsOf Long a × IsOf Long b
  IsOf sort (divide a n) = (sort ≡ Long) × IsOf Long a × FitsSigned w64 n × (n ≢ pos 0)
  IsOf sort (remainder a n) = (sort ≡ Long) × IsOf Long a × FitsSigned w64 n × (n ≢ pos 0)
  IsOf sort (less a b) = (sort ≡ Truth) × IsOf Long a × IsOf Long b
  IsOf sort (less_equal a b) = (sort ≡ Truth) × IsOf Long a × IsOf Long b
  IsOf sort (same a b) = (sort ≡ Truth) × IsScalar (sort_of a) × IsOf (sort_of a) a × IsOf (sort_of a) b
  IsOf sort (not a) = (sort ≡ Truth) × IsOf Truth a
  IsOf sort (and a b) = (sort ≡ Truth) × IsOf Truth a × IsOf Truth b
  IsOf sort (or a b) = (sort ≡ Truth) × IsOf Truth a × IsOf Truth b
  IsOf sort (choose c a b) = IsOf Truth c × IsOf sort a × IsOf sort b
  IsOf sort (read s p c f) = (s ≡ sort) × IsScalar s × IsOf Pointer p
  IsOf sort (read_at s p c f i) = (s ≡ sort) × IsScalar s × IsOf Pointer p × IsOf Long i
  IsOf sort (result s m p ts) = (s ≡ sort) × IsScalar s × IsOf Pointer p × AreSorted ts
  IsOf sort (select a i) = IsArray (sort_of a) × (sort ≡ item_sort (sort_of a)) × IsOf (sort_of a) a × IsOf Long i
  IsOf sort (put a i x) = IsArray sort × IsOf sort a × IsOf Long i × IsOf (item_sort sort) x
  IsOf sort (add_at a i x) = (sort ≡ LongArray) × IsOf LongArray a × IsOf Long i × IsOf Long x
  IsOf sort (fold o a b) = (sort ≡ Long) × IsOf Long a × IsOf Long b
  IsOf sort (sweep a f t x) = (sort ≡ LongArray) × IsOf LongArray a × IsOf Long f × IsOf Long t × IsOf Long x

  pub AreSorted : PlainTerms → Type 0
  AreSorted no_terms = Unit {0}
  AreSorted (term_and t ts) = IsScalar (sort_of t) × IsOf (sort_of t) t × AreSorted ts
