-- What statements leave alone, and what a choice of two lists of terms is.
use Rattle.std.proofs.Common.{◌≡◌, ℕ, zero, suc, ◌+◌, Bool, true, false, List, [], ◌∷◌, ◌++◌, length, Option, Some, None, refl, sym, ap, ◌∙◌, arith, slice_set, add-zero, zero-add, length-set}
use Rattle.std.specs.Prelude.{slice_get, ◌||◌, nat_eq}
use Rattle.std.specs.List.{list_any}
use Rattle.std.proofs.lemmas.Bool.Decides.{nat_tests}
use Rattle.std.proofs.lemmas.List.Folds.{list_any-append}
use Rattle.std.proofs.lemmas.Bool.{or_parts}
use Rattle.ca_program.specs.declared.program.FieldId.{FieldId}
use Rattle.ca_program.specs.Plain.{PlainProgram, Statement, Statements, block, put_local, put_field, put_item, new_local, new_field, new_item, invoke, if_else, while_loop, for_loop, return_value, print_value, no_statements, statement_and}
use Rattle.ca_parallel.specs.Bodies.{targets_of, targets_of_all}
use Rattle.ca_norm.specs.Terms.{PlainTerm}
use Rattle.ca_symbolic.specs.States.{State}
use Rattle.ca_symbolic.specs.Execution.{term_of, puts_local, any_puts_local, puts_field, choose_if, choices, after_loop, after, after_all}
use Rattle.ca_sweep.specs.Sweeps.{PlainSweep}
use Rattle.ca_sweep.specs.Found.{sweep_at}
use Rattle.ca_sweep.proofs.Finding.{forms_are_sweeps}
use Rattle.ca_symbolic_laws.proofs.SweepForms.{sweep_targets}

set_other : {A : Type 0} (xs : List A) (f n : ℕ) (x : A) → nat_eq f n ≡ false → slice_get (slice_set xs f x) n ≡ slice_get xs n
set_other [] f n x e = refl
set_other (y ∷ xs) zero zero x e = absurd (let c : true ≡ false = e in cc)
set_other (y ∷ xs) zero (suc n) x e = refl
set_other (y ∷ xs) (suc f) zero x e = refl
set_other (y ∷ xs) (suc f) (suc n) x e = set_other xs f n x (let d : nat_eq f n ≡ nat_eq (suc f) (suc n) = grind (arith, nat_tests) in d ∙ e)

choices_length : (is_put : ℕ → Bool) (n : ℕ) (c : PlainTerm) (xs ys : List PlainTerm) → length xs ≡ length ys → length (choices is_put n c xs ys) ≡ length xs
choices_length is_put n c [] ys e = refl
choices_length is_put n c (x ∷ xs) [] e = cc
choices_length is_put n c (x ∷ xs) (y ∷ ys) e = ap suc (choices_length is_put (suc n) c xs ys (omega (arith, e)))

kept_same : (c x y : PlainTerm) (b : Bool) → b ≡ false → choose_if b c x y ≡ x
kept_same c x y true f = cc
kept_same c x y false f = refl

choices_other : (is_put : ℕ → Bool) (n : ℕ) (c : PlainTerm) (xs ys : List PlainTerm) (i : ℕ) → length xs ≡ length ys → is_put (n + i) ≡ false → slice_get (choices is_put n c xs ys) i ≡ slice_get xs i
choices_other is_put n c [] ys i l e = refl
choices_other is_put n c (x ∷ xs) [] i l e = cc
choices_other is_put n c (x ∷ xs) (y ∷ ys) zero l e = ap Some (kept_same c x y (is_put n) (ap is_put (sym (add-zero n)) ∙ e))
choices_other is_put n c (x ∷ xs) (y ∷ ys) (suc i) l e = choices_other is_put (suc n) c xs ys i (omega (arith, l)) (ap is_put (let z : suc n + i ≡ n + suc i = omega arith in z) ∙ e)

-- lists of terms before and after, which differ only where something is put
pub record Kept (is_put : ℕ → Bool) (xs ys : List PlainTerm) : Type 0 where
  pub long : length ys ≡ length xs
  pub other : (n : ℕ) → is_put n ≡ false → slice_get ys n ≡ slice_get xs n

kept_all : (is_put : ℕ → Bool) (xs : List PlainTerm) → Kept is_put xs xs
kept_all is_put xs = record { long = refl; other = λ n e. refl }

kept_set : (xs : List PlainTerm) (f : ℕ) (t : PlainTerm) → Kept (λ n. nat_eq f n) xs (slice_set xs f t)
kept_set xs f t = record { long = length-set xs f t; other = λ n e. set_other xs f n t e }

kept_less : (a b : ℕ → Bool) (xs ys : List PlainTerm) → ((n : ℕ) → b n ≡ false → a n ≡ false) → Kept a xs ys → Kept b xs ys
kept_less a b xs ys h k = record { long = k.long; other = λ n e. k.other n (h n e) }

kept_both : (a b : ℕ → Bool) (xs ys zs : List PlainTerm) → Kept a xs ys → Kept b ys zs → Kept (λ n. a n || b n) xs zs
kept_both a b xs ys zs h k = record { long = k.long ∙ h.long; other = λ n e. let t : (a n ≡ false) × (b n ≡ false) = or_parts (a n) (b n) e in k.other n t.1 ∙ h.other n t.0 }

kept_choice : (a b : ℕ → Bool) (c : PlainTerm) (xs ys zs : List PlainTerm) → Kept a xs ys → Kept b xs zs → Kept (λ n. a n || b n) xs (choices (λ n. a n || b n) 0 c ys zs)
kept_choice a b c xs ys zs h k = record {
  long = choices_length (λ n. a n || b n) 0 c ys zs (h.long ∙ sym k.long) ∙ h.long;
  other = λ n e. let t : (a n ≡ false) × (b n ≡ false) = or_parts (a n) (b n) e in choices_other (λ n. a n || b n) 0 c ys zs n (h.long ∙ sym k.long) (ap (λ m. a m || b m) (zero-add n) ∙ e) ∙ h.other n t.0;
}

-- Fields

abbrev pub any_puts_field : Statements → ℕ → Bool
any_puts_field xs n = list_any (λ f. nat_eq f.field n) (targets_of_all xs)

one_target : (f : FieldId) (n : ℕ) → list_any (λ g. nat_eq g.field n) (f ∷ []) ≡ false → nat_eq f.field n ≡ false
one_target f n e = at (nat_eq f.field n) e
  where
    at : (b : Bool) → b || false ≡ false → b ≡ false
    at true e = cc
    at false e = refl

parted : (xs ys : List FieldId) (n : ℕ) → list_any (λ g. nat_eq g.field n) (xs ++ ys) ≡ false → list_any (λ g. nat_eq g.field n) xs || list_any (λ g. nat_eq g.field n) ys ≡ false
parted xs ys n e = sym (list_any-append (λ g. nat_eq g.field n) xs ys) ∙ e

loop_fields_kept : (p : PlainProgram) (x : Statement) (st : State) (o : Option PlainSweep) → sweep_at x ≡ o → Kept (puts_field x) st.fields (after_loop p st o).fields
loop_fields_kept p x st None e = kept_all _ st.fields
loop_fields_kept p x st (Some w) e =
    kept_less _ _ _ _ (λ n h. one_target w.field n (sym (ap (list_any (λ g. nat_eq g.field n)) (sweep_targets w x (forms_are_sweeps x w e).0)) ∙ h)) (kept_set st.fields w.field.field _)

loop_locals_kept : (p : PlainProgram) (is_put : ℕ → Bool) (st : State) (o : Option PlainSweep) → Kept is_put st.locals (after_loop p st o).locals
loop_locals_kept p is_put st None = kept_all _ st.locals
loop_locals_kept p is_put st (Some w) = kept_all _ st.locals

module _ (p : PlainProgram) where
  mutual
    pub fields_kept : (x : Statement) (st : State) → Kept (puts_field x) st.fields (after p st x).fields
    fields_kept (block line ss) st = all_fields_kept ss st
    fields_kept (put_local line l op e) st = kept_all _ st.fields
    fields_kept (put_field line f op e) st = kept_less _ _ _ _ (λ n e. one_target f n e) (kept_set st.fields f.field _)
    fields_kept (put_item line f i op e) st = kept_less _ _ _ _ (λ n e. one_target f n e) (kept_set st.fields f.field _)
    fields_kept (if_else line c a b) st = kept_less _ _ _ _ (λ n e. parted (targets_of a) (targets_of b) n e) (kept_choice (puts_field a) (puts_field b) (term_of p st c) st.fields _ _ (fields_kept a st) (fields_kept b st))
    fields_kept (new_local line l c) st = kept_all _ st.fields
    fields_kept (new_field line f c) st = kept_all _ st.fields
    fields_kept (new_item line f i c) st = kept_all _ st.fields
    fields_kept (invoke line e op es) st = kept_all _ st.fields
    fields_kept (while_loop line c b) st = kept_all _ st.fields
    fields_kept (for_loop line site part first c next b) st = loop_fields_kept p (for_loop line site part first c next b) st (sweep_at (for_loop line site part first c next b)) refl
    fields_kept (return_value line e) st = kept_all _ st.fields
    fields_kept (print_value line e) st = kept_all _ st.fields

    pub all_fields_kept : (xs : Statements) (st : State) → Kept (any_puts_field xs) st.fields (after_all p st xs).fields
    all_fields_kept no_statements st = kept_all _ st.fields
    all_fields_kept (statement_and x xs) st = kept_less _ _ _ _ (λ n e. parted (targets_of x) (targets_of_all xs) n e) (kept_both (puts_field x) (any_puts_field xs) st.fields (after p st x).fields _ (fields_kept x st) (all_fields_kept xs (after p st x)))

  mutual
    pub locals_kept : (x : Statement) (st : State) → Kept (puts_local x) st.locals (after p st x).locals
    locals_kept (block line ss) st = all_locals_kept ss st
    locals_kept (put_local line l op e) st = kept_set st.locals l.0 _
    locals_kept (put_field line f op e) st = kept_all _ st.locals
    locals_kept (put_item line f i op e) st = kept_all _ st.locals
    locals_kept (if_else line c a b) st = kept_choice (puts_local a) (puts_local b) (term_of p st c) st.locals _ _ (locals_kept a st) (locals_kept b st)
    locals_kept (new_local line l c) st = kept_all _ st.locals
    locals_kept (new_field line f c) st = kept_all _ st.locals
    locals_kept (new_item line f i c) st = kept_all _ st.locals
    locals_kept (invoke line e op es) st = kept_all _ st.locals
    locals_kept (while_loop line c b) st = kept_all _ st.locals
    locals_kept (for_loop line site part first c next b) st = loop_locals_kept p (puts_local (for_loop line site part first c next b)) st (sweep_at (for_loop line site part first c next b))
    locals_kept (return_value line e) st = kept_all _ st.locals
    locals_kept (print_value line e) st = kept_all _ st.locals

    pub all_locals_kept : (xs : Statements) (st : State) → Kept (any_puts_local xs) st.locals (after_all p st xs).locals
    all_locals_kept no_statements st = kept_all _ st.locals
    all_locals_kept (statement_and x xs) st = kept_both (puts_local x) (any_puts_local xs) st.locals (after p st x).locals _ (locals_kept x st) (all_locals_kept xs (after p st x))
