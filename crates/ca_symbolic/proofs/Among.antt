-- Lists of numbers tell which fields a statement puts, and which locals it puts or names.
use Rattle.std.proofs.Common.{◌≡◌, ℕ, Bool, ◌||◌, ◌&&◌, List, [], ◌∷◌, ◌++◌, map, refl, sym, ap, ap₂, ◌∙◌}
use Rattle.std.specs.Prelude.{nat_eq}
use Rattle.std.specs.List.{list_any}
use Rattle.std.proofs.Math.Bool.{or-false}
use Rattle.std.proofs.lemmas.List.Folds.{list_any-append}
use Rattle.ca_program.specs.declared.program.FieldId.{FieldId}
use Rattle.ca_program.specs.Plain.{Expression, Expressions, number, truth, null, this, local, own, own_item, read, read_item, value_call, unary, binary, no_expressions, expression_and, Statement, Statements, block, put_local, put_field, put_item, new_local, new_field, new_item, invoke, if_else, while_loop, for_loop, return_value, print_value, no_statements, statement_and}
use Rattle.ca_meaning.specs.Operators.{not_of}
use Rattle.ca_parallel.specs.Bodies.{targets_of, listed, expressions_of, expressions_of_all}
use Rattle.ca_parallel.specs.Scoped.{names, any_names}
use Rattle.ca_symbolic.specs.Execution.{puts_local, any_puts_local, field_target, local_target}
use Rattle.ca_symbolic.specs.Demands.{is_counter, loop_reads}
use Rattle.ca_symbolic.specs.clauses.Places.{is_among, fields_put, locals_put, locals_put_all, locals_in, locals_in_all, locals_named, locals_named_all, is_read}

module _ (n : ℕ) where
  in_both : (xs ys : List ℕ) → is_among (xs ++ ys) n ≡ (is_among xs n || is_among ys n)
  in_both xs ys = list_any-append (λ m. nat_eq m n) xs ys

  abbrev hits : List FieldId → Bool
  hits fs = list_any (λ f. nat_eq f.field n) fs

  told_by_place : (fs : List FieldId) → hits fs ≡ is_among (map (λ (f : FieldId). f.field) fs) n
  told_by_place [] = refl
  told_by_place (f ∷ fs) = ap (λ b. nat_eq f.field n || b) (told_by_place fs)

  mutual
    pub locals_told : (x : Statement) → puts_local x n ≡ is_among (locals_put x) n
    locals_told (block line ss) = all_locals_told ss
    locals_told (put_local line l op e) = sym (or-false (nat_eq l.0 n))
    locals_told (if_else line c a b) = ap₂ (λ x y. x || y) (locals_told a) (locals_told b) ∙ sym (in_both (locals_put a) (locals_put b))
    locals_told (put_field line f op e) = refl
    locals_told (put_item line f i op e) = refl
    locals_told (new_local line l c) = refl
    locals_told (new_field line f c) = refl
    locals_told (new_item line f i c) = refl
    locals_told (invoke line e op arguments) = refl
    locals_told (while_loop line c b) = refl
    locals_told (for_loop line site part first c next b) = refl
    locals_told (return_value line e) = refl
    locals_told (print_value line e) = refl

    all_locals_told : (xs : Statements) → any_puts_local xs n ≡ is_among (locals_put_all xs) n
    all_locals_told no_statements = refl
    all_locals_told (statement_and x xs) = ap₂ (λ a b. a || b) (locals_told x) (all_locals_told xs) ∙ sym (in_both (locals_put x) (locals_put_all xs))

  mutual
    names_told : (e : Expression) → names e n ≡ is_among (locals_in e) n
    names_told (number v) = refl
    names_told (truth b) = refl
    names_told null = refl
    names_told this = refl
    names_told (local l) = sym (or-false (nat_eq l.0 n))
    names_told (own f) = refl
    names_told (own_item f i) = names_told i
    names_told (read e f) = names_told e
    names_told (read_item e f i) = ap₂ (λ a b. a || b) (names_told e) (names_told i) ∙ sym (in_both (locals_in e) (locals_in i))
    names_told (value_call e m arguments) = ap₂ (λ a b. a || b) (names_told e) (all_names_told arguments) ∙ sym (in_both (locals_in e) (locals_in_all arguments))
    names_told (unary op e) = names_told e
    names_told (binary op a b) = ap₂ (λ x y. x || y) (names_told a) (names_told b) ∙ sym (in_both (locals_in a) (locals_in b))

    all_names_told : (es : Expressions) → any_names es n ≡ is_among (locals_in_all es) n
    all_names_told no_expressions = refl
    all_names_told (expression_and e es) = ap₂ (λ a b. a || b) (names_told e) (all_names_told es) ∙ sym (in_both (locals_in e) (locals_in_all es))

  abbrev some : List Expression → Bool
  some es = list_any (λ e. names e n) es

  some_listed : (es : Expressions) → some (listed es) ≡ is_among (locals_in_all es) n
  some_listed no_expressions = refl
  some_listed (expression_and e es) = ap₂ (λ a b. a || b) (names_told e) (some_listed es) ∙ sym (in_both (locals_in e) (locals_in_all es))

  -- lists of expressions behind each other, and an expression in front of a list
  behind : (ds es : List Expression) (ms ns : List ℕ) → some ds ≡ is_among ms n → some es ≡ is_among ns n → some (ds ++ es) ≡ is_among (ms ++ ns) n
  behind ds es ms ns p q = list_any-append (λ e. names e n) ds es ∙ (ap₂ (λ a b. a || b) p q ∙ sym (in_both ms ns))

  front : (e : Expression) (es : List Expression) (ns : List ℕ) → some es ≡ is_among ns n → some (e ∷ es) ≡ is_among (locals_in e ++ ns) n
  front e es ns q = ap₂ (λ a b. a || b) (names_told e) q ∙ sym (in_both (locals_in e) ns)

  single : (e : Expression) → some (e ∷ []) ≡ is_among (locals_in e) n
  single e = or-false (names e n) ∙ names_told e

  mutual
    named_told : (x : Statement) → some (expressions_of x) ≡ is_among (locals_named x) n
    named_told (block line ss) = all_named_told ss
    named_told (put_local line l op e) = single e
    named_told (put_field line f op e) = single e
    named_told (put_item line f i op e) = front i (e ∷ []) (locals_in e) (single e)
    named_told (new_local line l c) = refl
    named_told (new_field line f c) = refl
    named_told (new_item line f i c) = single i
    named_told (invoke line e op arguments) = front e (listed arguments) (locals_in_all arguments) (some_listed arguments)
    named_told (if_else line c a b) =
        front c (expressions_of a ++ expressions_of b) (locals_named a ++ locals_named b)
        (behind (expressions_of a) (expressions_of b) (locals_named a) (locals_named b) (named_told a) (named_told b))
    named_told (while_loop line c b) = front c (expressions_of b) (locals_named b) (named_told b)
    named_told (for_loop line site part first c next b) =
        behind (expressions_of first) (c ∷ (expressions_of next ++ expressions_of b)) (locals_named first) (locals_in c ++ (locals_named next ++ locals_named b)) (named_told first)
        (front c (expressions_of next ++ expressions_of b) (locals_named next ++ locals_named b)
        (behind (expressions_of next) (expressions_of b) (locals_named next) (locals_named b) (named_told next) (named_told b)))
    named_told (return_value line e) = single e
    named_told (print_value line e) = single e

    all_named_told : (xs : Statements) → some (expressions_of_all xs) ≡ is_among (locals_named_all xs) n
    all_named_told no_statements = refl
    all_named_told (statement_and x xs) = behind (expressions_of x) (expressions_of_all xs) (locals_named x) (locals_named_all xs) (named_told x) (all_named_told xs)

-- a loop's reads, and the targets of two branches
pub reads_told : (line : ℕ) (site : _) (part : _) (first : Statement) (c : Expression) (next b : Statement) →
    loop_reads (for_loop line site part first c next b) ≡ is_read (for_loop line site part first c next b) first
reads_told line site part first c next b = λ i n. not_of (is_counter first n) && named_told n (for_loop line site part first c next b) i

pub field_targets_told : (a b : Statement) → field_target a b ≡ is_among (fields_put a ++ fields_put b)
field_targets_told a b = λ i n. (ap₂ (λ x y. x || y) (told_by_place n (targets_of a)) (told_by_place n (targets_of b)) ∙ sym (in_both n (fields_put a) (fields_put b))) i

pub local_targets_told : (a b : Statement) → local_target a b ≡ is_among (locals_put a ++ locals_put b)
local_targets_told a b = λ i n. (ap₂ (λ x y. x || y) (locals_told n a) (locals_told n b) ∙ sym (in_both n (locals_put a) (locals_put b))) i
