-- What is found by its form is a sweep, and each sweep is found.
use Rattle.std.proofs.Common.{◌≡◌, ℕ, Bool, true, false, List, [], Option, Some, None, ℤ, pos, refl, sym, ap, ap₂, ◌∙◌, arith, subst}
use Rattle.std.specs.Prelude.{nat_eq, ◌&&◌, if◌then◌else◌}
use Rattle.std.specs.Ordering.{int_eq}
use Rattle.std.proofs.lemmas.Bool.Decides.{nat_tests, Decides-int_eq}
use Rattle.std.proofs.lemmas.Bool.{eqb-true}
use Rattle.ca_tree.specs.declared.tree.AssignOp.{AssignOp}
use Rattle.ca_tree.specs.declared.tree.AssignOp.TheVariants.{Put, Add, Sub, Mul, BitAnd, BitOr, BitXor}
use Rattle.ca_tree.specs.declared.tree.BinaryOp.{BinaryOp}
use Rattle.ca_tree.specs.declared.tree.BinaryOp.TheVariants.{Less, Plus, Minus, Times}
use Rattle.ca_program.specs.declared.program.FieldId.{FieldId}
use Rattle.ca_program.specs.declared.program.LocalId.{LocalId}
use Rattle.ca_program.specs.declared.program.LoopId.{LoopId}
use Rattle.ca_program.specs.declared.program.FirstPart.{FirstPart}
use Rattle.ca_program.specs.declared.program.FirstPart.TheVariants.{Declares}
use Rattle.ca_program.specs.Fields.{same_field}
use Rattle.ca_program.specs.Plain.{Expression, number, local, own, own_item, binary, Statement, block, put_local, put_item, for_loop, no_statements, statement_and}
use Rattle.ca_meaning.specs.Operators.{not_of}
use Rattle.ca_sweep.specs.Sweeps.{PlainSweep, is_product, is_sum, Counts, by_one, puts_one_more, Adds, adds, takes_off, puts_sum, puts_difference, AddsAlone, bare, in_block, IsSweep, a_sweep}
use Rattle.ca_sweep.specs.Found.{Beginning, beginning, bound, counts_up, Addition, is_counter, is_its_item, added_if, of_sides, of_right, of_put, if_counter, addition, addition_alone, with_addition, with_bound, with_beginning, sweep_form, known, sums_known, is_below, if_sums}
use Rattle.ca_sweep.specs.Means.{all_but}
use Rattle.ca_sweep.specs.Laws.{FormsAreFound, SumsAreKnown, SweepsAreFound, SweepsAreWide, FormsAreSweeps}
use Rattle.ca_program.proofs.Fields.{same_fields, same_itself}

same_number : (m n : ℕ) → nat_eq m n ≡ true → m ≡ n
same_number m n e = eqb-true m n e

pub itself : (n : ℕ) → nat_eq n n ≡ true
itself n = grind (arith, nat_tests)

pub same_local : (l i : LocalId) → nat_eq l.0 i.0 ≡ true → l ≡ i
same_local l i e = ap (λ n. record { 0 = n }) (same_number l.0 i.0 e)

pub and_left : (a b : Bool) → a && b ≡ true → a ≡ true
and_left true b e = refl
and_left false b e = cc

pub and_right : (a b : Bool) → a && b ≡ true → b ≡ true
and_right true b e = e
and_right false b e = cc

is_one : (n : ℤ) → int_eq n (pos 1) ≡ true → n ≡ pos 1
is_one n e = (Decides-int_eq n (pos 1)).0 e

-- From the form to the loop

counts_of : (x : Statement) (i : LocalId) → counts_up x i ≡ true → Counts i x
counts_of (put_local line l Add (number n)) i e =
    subst (λ z. Counts i (put_local line z Add (number n))) (sym (same_local l i (and_left _ _ e)))
    (subst (λ z. Counts i (put_local line i Add (number z))) (sym (is_one n (and_right (nat_eq l.0 i.0) _ e))) (by_one line))
counts_of (put_local line l Put (binary Plus (local m) (number n))) i e =
    let rest = and_right (nat_eq l.0 i.0) _ e in
    subst (λ z. Counts i (put_local line z Put (binary Plus (local m) (number n)))) (sym (same_local l i (and_left _ _ e)))
    (subst (λ z. Counts i (put_local line i Put (binary Plus (local z) (number n)))) (sym (same_local m i (and_left _ _ rest)))
    (subst (λ z. Counts i (put_local line i Put (binary Plus (local i) (number z)))) (sym (is_one n (and_right (nat_eq m.0 i.0) _ rest))) (puts_one_more line)))
counts_of x i e = absurd cc

counter_of : (e : Expression) (i : LocalId) → is_counter e i ≡ true → e ≡ local i
counter_of (local l) i e = ap local (same_local l i e)
counter_of e i h = absurd cc

item_of : (e : Expression) (f : FieldId) (i : LocalId) → is_its_item e f i ≡ true → e ≡ own_item f (local i)
item_of (own_item g e) f i h = ap₂ own_item (sym (same_fields f g (and_left _ _ h))) (counter_of e i (and_right (same_field f g) _ h))
item_of e f i h = absurd cc

-- what is added, as a relation
data AddsSo (i : LocalId) (x : Statement) (a : Addition) : Type 0 where
  adds_so : Adds i a.field a.addend a.minus x → AddsSo i x a

sides_add : (line : ℕ) (op : BinaryOp) (f : FieldId) (x e : Expression) (i : LocalId) (a : Addition) (b : Bool) → is_its_item x f i ≡ b → of_sides op f x e i ≡ Some a → AddsSo i (put_item line f (local i) Put (binary op x e)) a
sides_add line Plus f x e i a true q h =
    let same : record { field = f; addend = e; minus = false } ≡ a = some_same _ _ (sym (ap (λ b. added_if b f e false) q) ∙ h) in
    subst (λ z. AddsSo i (put_item line f (local i) Put (binary Plus z e)) a) (sym (item_of x f i q)) (subst (AddsSo i (put_item line f (local i) Put (binary Plus (own_item f (local i)) e))) same (adds_so (puts_sum line)))
  where
    some_same : (x y : Addition) → Some x ≡ Some y → x ≡ y
    some_same x y e = cc
sides_add line Minus f x e i a true q h =
    let same : record { field = f; addend = e; minus = true } ≡ a = some_same _ _ (sym (ap (λ b. added_if b f e true) q) ∙ h) in
    subst (λ z. AddsSo i (put_item line f (local i) Put (binary Minus z e)) a) (sym (item_of x f i q)) (subst (AddsSo i (put_item line f (local i) Put (binary Minus (own_item f (local i)) e))) same (adds_so (puts_difference line)))
  where
    some_same : (x y : Addition) → Some x ≡ Some y → x ≡ y
    some_same x y e = cc
sides_add line Plus f x e i a false q h = let no : None ≡ Some a = sym (ap (λ b. added_if b f e false) q) ∙ h in absurd cc
sides_add line Minus f x e i a false q h = let no : None ≡ Some a = sym (ap (λ b. added_if b f e true) q) ∙ h in absurd cc
sides_add line op f x e i a b q h = absurd cc

some_addition : (x y : Addition) → Some x ≡ Some y → x ≡ y
some_addition x y e = cc

right_add : (line : ℕ) (f : FieldId) (e : Expression) (i : LocalId) (a : Addition) → of_right f e i ≡ Some a → AddsSo i (put_item line f (local i) Put e) a
right_add line f (binary op x e) i a h = sides_add line op f x e i a (is_its_item x f i) refl h
right_add line f e i a h = absurd cc

put_add : (line : ℕ) (op : AssignOp) (f : FieldId) (e : Expression) (i : LocalId) (a : Addition) → of_put op f e i ≡ Some a → AddsSo i (put_item line f (local i) op e) a
put_add line Add f e i a h = subst (AddsSo i (put_item line f (local i) Add e)) (some_addition _ _ h) (adds_so (adds line))
put_add line Sub f e i a h = subst (AddsSo i (put_item line f (local i) Sub e)) (some_addition _ _ h) (adds_so (takes_off line))
put_add line Put f e i a h = right_add line f e i a h
put_add line Mul f e i a h = absurd cc
put_add line BitAnd f e i a h = absurd cc
put_add line BitOr f e i a h = absurd cc
put_add line BitXor f e i a h = absurd cc

item_add : (line : ℕ) (f : FieldId) (e r : Expression) (op : AssignOp) (i : LocalId) (a : Addition) (b : Bool) → is_counter e i ≡ b → if_counter b (of_put op f r i) ≡ Some a → AddsSo i (put_item line f e op r) a
item_add line f e r op i a true q h = subst (λ z. AddsSo i (put_item line f z op r) a) (sym (counter_of e i q)) (put_add line op f r i a h)
item_add line f e r op i a false q h = absurd cc

one_add : (x : Statement) (i : LocalId) (a : Addition) → addition x i ≡ Some a → AddsSo i x a
one_add (put_item line f e op r) i a h = item_add line f e r op i a (is_counter e i) refl h
one_add x i a h = absurd cc

data AloneSo (i : LocalId) (x : Statement) (a : Addition) : Type 0 where
  alone_so : AddsAlone i a.field a.addend a.minus x → AloneSo i x a

in_own_block : (line : ℕ) (x : Statement) (i : LocalId) (a : Addition) → AddsSo i x a → AloneSo i (block line (statement_and x no_statements)) a
in_own_block line x i a (adds_so h) = alone_so (in_block line x h)

bare_one : (x : Statement) (i : LocalId) (a : Addition) → AddsSo i x a → AloneSo i x a
bare_one x i a (adds_so h) = alone_so (bare x h)

alone_add : (x : Statement) (i : LocalId) (a : Addition) → addition_alone x i ≡ Some a → AloneSo i x a
alone_add (block line no_statements) i a h = absurd cc
alone_add (block line (statement_and x no_statements)) i a h = in_own_block line x i a (one_add x i a h)
alone_add (block line (statement_and x (statement_and y xs))) i a h = absurd cc
alone_add (put_item line f e op r) i a h = bare_one (put_item line f e op r) i a (one_add (put_item line f e op r) i a h)
alone_add x i a h = absurd cc

-- the beginning and the bound
began : (part : FirstPart) (x : Statement) (b : Beginning) → beginning part x ≡ Some b → (at : ℕ) × (part ≡ Declares) × (x ≡ put_local at b.counter Put b.from)
began Declares (put_local line i Put e) b h = let same : record { counter = i; from = e } ≡ b = cc in (line, refl, ap₂ (λ c d. put_local line c Put d) (ap (λ z. z.counter) same) (ap (λ z. z.from) same))
began part x b h = absurd cc

bound_is : (c : Expression) (i : LocalId) (to : Expression) → bound c i ≡ Some to → c ≡ binary Less (local i) to
bound_is (binary Less (local l) e) i to h = by (nat_eq l.0 i.0) refl
  where
    by : (b : Bool) → nat_eq l.0 i.0 ≡ b → binary Less (local l) e ≡ binary Less (local i) to
    by true q = let same : Some e ≡ Some to = sym (ap (λ b. if b then Some e else None) q) ∙ h in let is : e ≡ to = cc in ap₂ (λ m n. binary Less m n) (ap local (same_local l i q)) is
    by false q = let no : None ≡ Some to = sym (ap (λ b. if b then Some e else None) q) ∙ h in absurd cc
bound_is c i to h = absurd cc

-- the whole
some_sweep : (x y : PlainSweep) → Some x ≡ Some y → x ≡ y
some_sweep x y e = cc

made_sweep : (own_line : ℕ) (site : LoopId) (at : ℕ) (s : PlainSweep) (next body : Statement) → Counts s.counter next → AddsAlone s.counter s.field s.addend s.minus body → IsSweep s (for_loop own_line site Declares (put_local at s.counter Put s.from) (binary Less (local s.counter) s.to) next body)
made_sweep own_line site at s next body c z = a_sweep own_line site at next body c z

with_alone : (own_line : ℕ) (site : LoopId) (at : ℕ) (b : Beginning) (to : Expression) (next body : Statement) (s : PlainSweep) (a : Addition) → Counts b.counter next → with_addition b to (Some a) ≡ Some s → AloneSo b.counter body a →
    IsSweep s (for_loop own_line site Declares (put_local at b.counter Put b.from) (binary Less (local b.counter) to) next body)
with_alone own_line site at b to next body s a c h (alone_so z) =
    subst (λ y. IsSweep y (for_loop own_line site Declares (put_local at b.counter Put b.from) (binary Less (local b.counter) to) next body)) (some_sweep _ s h)
    (made_sweep own_line site at (record { counter = b.counter; field = a.field; from = b.from; to = to; addend = a.addend; minus = a.minus }) next body c z)

from_addition : (own_line : ℕ) (site : LoopId) (at : ℕ) (b : Beginning) (to : Expression) (next body : Statement) (s : PlainSweep) (a : Option Addition) → Counts b.counter next → addition_alone body b.counter ≡ a → with_addition b to a ≡ Some s →
    IsSweep s (for_loop own_line site Declares (put_local at b.counter Put b.from) (binary Less (local b.counter) to) next body)
from_addition own_line site at b to next body s None c q h = absurd cc
from_addition own_line site at b to next body s (Some a) c q h = with_alone own_line site at b to next body s a c h (alone_add body b.counter a q)

from_counts : (own_line : ℕ) (site : LoopId) (at : ℕ) (b : Beginning) (to : Expression) (next body : Statement) (s : PlainSweep) (u : Bool) → counts_up next b.counter ≡ u → (if u then with_addition b to (addition_alone body b.counter) else None) ≡ Some s →
    IsSweep s (for_loop own_line site Declares (put_local at b.counter Put b.from) (binary Less (local b.counter) to) next body)
from_counts own_line site at b to next body s true q h = from_addition own_line site at b to next body s (addition_alone body b.counter) (counts_of next b.counter q) refl h
from_counts own_line site at b to next body s false q h = absurd cc

from_bound : (own_line : ℕ) (site : LoopId) (at : ℕ) (b : Beginning) (c : Expression) (next body : Statement) (s : PlainSweep) (o : Option Expression) → bound c b.counter ≡ o → with_bound b o next body ≡ Some s →
    IsSweep s (for_loop own_line site Declares (put_local at b.counter Put b.from) c next body)
from_bound own_line site at b c next body s None q h = absurd cc
from_bound own_line site at b c next body s (Some to) q h =
    subst (λ z. IsSweep s (for_loop own_line site Declares (put_local at b.counter Put b.from) z next body)) (sym (bound_is c b.counter to q)) (from_counts own_line site at b to next body s (counts_up next b.counter) refl h)

from_beginning : (own_line : ℕ) (site : LoopId) (part : FirstPart) (first : Statement) (c : Expression) (next body : Statement) (s : PlainSweep) (o : Option Beginning) → beginning part first ≡ o → with_beginning o c next body ≡ Some s → IsSweep s (for_loop own_line site part first c next body)
from_beginning own_line site part first c next body s None q h = absurd cc
from_beginning own_line site part first c next body s (Some b) q h =
    let is = began part first b q in
    subst (λ z. IsSweep s (for_loop own_line site z first c next body)) (sym is.1)
    (subst (λ z. IsSweep s (for_loop own_line site Declares z c next body)) (sym is.2) (from_bound own_line site is.0 b c next body s (bound c b.counter) refl h))

found_is : (x : Statement) (s : PlainSweep) → sweep_form x ≡ Some s → IsSweep s x
found_is (for_loop own_line site part first c next body) s h = from_beginning own_line site part first c next body s (beginning part first) refl h
found_is x s h = absurd cc

-- From the loop to the form

one_is : int_eq (pos 1) (pos 1) ≡ true
one_is = (Decides-int_eq (pos 1) (pos 1)).1 refl

counts_found : (x : Statement) (i : LocalId) → Counts i x → counts_up x i ≡ true
counts_found _ i (by_one line) = ap₂ (λ a b. a && b) (itself i.0) one_is
counts_found _ i (puts_one_more line) = ap₂ (λ a b. a && b) (itself i.0) (ap₂ (λ a b. a && b) (itself i.0) one_is)

item_found : (f : FieldId) (i : LocalId) → is_its_item (own_item f (local i)) f i ≡ true
item_found f i = ap₂ (λ a b. a && b) (same_itself f) (itself i.0)

added_found : (i : LocalId) (f : FieldId) (e : Expression) (minus : Bool) (x : Statement) → Adds i f e minus x → addition x i ≡ Some (record { field = f; addend = e; minus = minus })
added_found i f e _ _ (adds line) = ap (λ b. if_counter b (of_put Add f e i)) (itself i.0)
added_found i f e _ _ (takes_off line) = ap (λ b. if_counter b (of_put Sub f e i)) (itself i.0)
added_found i f e _ _ (puts_sum line) = ap₂ (λ b c. if_counter b (added_if c f e false)) (itself i.0) (item_found f i)
added_found i f e _ _ (puts_difference line) = ap₂ (λ b c. if_counter b (added_if c f e true)) (itself i.0) (item_found f i)

bare_found : (i : LocalId) (f : FieldId) (e : Expression) (minus : Bool) (x : Statement) → Adds i f e minus x → addition_alone x i ≡ Some (record { field = f; addend = e; minus = minus })
bare_found i f e _ _ (adds line) = added_found i f e false _ (adds line)
bare_found i f e _ _ (takes_off line) = added_found i f e true _ (takes_off line)
bare_found i f e _ _ (puts_sum line) = added_found i f e false _ (puts_sum line)
bare_found i f e _ _ (puts_difference line) = added_found i f e true _ (puts_difference line)

alone_found : (i : LocalId) (f : FieldId) (e : Expression) (minus : Bool) (x : Statement) → AddsAlone i f e minus x → addition_alone x i ≡ Some (record { field = f; addend = e; minus = minus })
alone_found i f e minus _ (bare x a) = bare_found i f e minus x a
alone_found i f e minus _ (in_block line x a) = added_found i f e minus x a

is_found : (x : Statement) (s : PlainSweep) → IsSweep s x → sweep_form x ≡ Some s
is_found _ s (a_sweep own_line site at next body c a) =
    ap (λ b. with_bound (record { counter = s.counter; from = s.from }) (if b then Some s.to else None) next body) (itself s.counter.0)
    ∙ ap (λ b. if b then with_addition (record { counter = s.counter; from = s.from }) s.to (addition_alone body s.counter) else None) (counts_found next s.counter c)
    ∙ ap (with_addition (record { counter = s.counter; from = s.from }) s.to) (alone_found s.counter s.field s.addend s.minus body a)

pub forms_are_found : FormsAreFound
forms_are_found x s = (found_is x s, is_found x s)

-- Sums

weaker_product : (i : ℕ) (below : Option ℕ) (written : List FieldId) (e : Expression) → is_product (known i below written) e ≡ true → is_product (all_but i) e ≡ true
weaker_product i below written (number n) h = refl
weaker_product i below written (local l) h = and_left (not_of (nat_eq i l.0)) (is_below l.0 below) h
weaker_product i below written (own f) h = refl
weaker_product i below written (binary Times a b) h = ap₂ (λ x y. x && y) (weaker_product i below written a (and_left _ _ h)) (weaker_product i below written b (and_right (is_product (known i below written) a) _ h))
weaker_product i below written e h = absurd cc

weaker_sum : (i : ℕ) (below : Option ℕ) (written : List FieldId) (e : Expression) → is_sum (known i below written) e ≡ true → is_sum (all_but i) e ≡ true
weaker_sum i below written (binary Plus a b) h = ap₂ (λ x y. x && y) (weaker_sum i below written a (and_left _ _ h)) (weaker_sum i below written b (and_right (is_sum (known i below written) a) _ h))
weaker_sum i below written (binary op a b) h = weaker_product i below written (binary op a b) h
weaker_sum i below written (number n) h = refl
weaker_sum i below written (local l) h = weaker_product i below written (local l) h
weaker_sum i below written (own f) h = refl
weaker_sum i below written e h = absurd cc

pub sums_are_known : SumsAreKnown
sums_are_known s below written h =
    let rest = and_right (is_sum (known s.counter.0 below written) s.from) _ h in
    (weaker_sum s.counter.0 below written s.from (and_left _ _ h), weaker_sum s.counter.0 below written s.to (and_left _ _ rest), weaker_sum s.counter.0 below written s.addend (and_right (is_sum (known s.counter.0 below written) s.to) _ rest))

into : (params : Option ℕ) (written : List FieldId) (o : Option PlainSweep) (s : PlainSweep) → if_sums params written o ≡ Some s → (o ≡ Some s) × (sums_known s params written ≡ true)
into params written None s h = absurd cc
into params written (Some x) s h = by (sums_known x params written) refl
  where
    by : (b : Bool) → sums_known x params written ≡ b → (Some x ≡ Some s) × (sums_known s params written ≡ true)
    by true q = let same : Some x ≡ Some s = sym (ap (λ b. if b then Some x else None) q) ∙ h in (same, ap (λ z. sums_known z params written) (sym (some_sweep x s same)) ∙ q)
    by false q = let no : None ≡ Some s = sym (ap (λ b. if b then Some x else None) q) ∙ h in absurd cc

pub sweeps_are_found : SweepsAreFound
sweeps_are_found params written x s =
    (λ h. let z = into (Some params) written (sweep_form x) s h in (found_is x s z.0, z.1), λ z. ap (if_sums (Some params) written) (is_found x s z.0) ∙ ap (λ b. if b then Some s else None) z.1)

-- what may be named in a sum may be named where any local may and nothing is written
wider_product : (i : ℕ) (below : Option ℕ) (written : List FieldId) (e : Expression) → is_product (known i below written) e ≡ true → is_product (known i None []) e ≡ true
wider_product i below written (number n) h = refl
wider_product i below written (local x) h = ap (λ a. a && true) (and_left (not_of (nat_eq i x.0)) _ h)
wider_product i below written (own f) h = refl
wider_product i below written (binary Times a b) h = ap₂ (λ x y. x && y) (wider_product i below written a (and_left _ _ h)) (wider_product i below written b (and_right (is_product (known i below written) a) _ h))
wider_product i below written e h = absurd cc

wider_sum : (i : ℕ) (below : Option ℕ) (written : List FieldId) (e : Expression) → is_sum (known i below written) e ≡ true → is_sum (known i None []) e ≡ true
wider_sum i below written (binary Plus a b) h = ap₂ (λ x y. x && y) (wider_sum i below written a (and_left _ _ h)) (wider_sum i below written b (and_right (is_sum (known i below written) a) _ h))
wider_sum i below written (binary op a b) h = wider_product i below written (binary op a b) h
wider_sum i below written (number n) h = refl
wider_sum i below written (local x) h = wider_product i below written (local x) h
wider_sum i below written (own f) h = refl
wider_sum i below written e h = absurd cc

wider_sums : (s : PlainSweep) (below : Option ℕ) (written : List FieldId) → sums_known s below written ≡ true → sums_known s None [] ≡ true
wider_sums s below written h =
    let rest = and_right (is_sum (known s.counter.0 below written) s.from) _ h in
    ap₂ (λ a b. a && b) (wider_sum s.counter.0 below written s.from (and_left _ _ h))
    (ap₂ (λ a b. a && b) (wider_sum s.counter.0 below written s.to (and_left _ _ rest)) (wider_sum s.counter.0 below written s.addend (and_right (is_sum (known s.counter.0 below written) s.to) _ rest)))

pub sweeps_are_wide : SweepsAreWide
sweeps_are_wide params written x s e =
    let z = into (Some params) written (sweep_form x) s e in
    ap (if_sums None []) z.0 ∙ ap (λ b. if b then Some s else None) (wider_sums s (Some params) written z.1)

pub forms_are_sweeps : FormsAreSweeps
forms_are_sweeps x s e =
    let z = into None [] (sweep_form x) s e in
    (found_is x s z.0, sums_are_known s None [] z.1)
