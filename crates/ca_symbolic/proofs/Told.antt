-- What code finds by numbers of fields and locals is what the definition has.
use Rattle.std.proofs.Common.{◌≡◌, ℕ, ◌<◌, Bool, true, false, ◌||◌, List, ◌++◌, length, replicate, sym, ap, ◌∙◌}
use Rattle.std.specs.Prelude.{None, if◌then◌else◌}
use Rattle.std.specs.List.{list_any}
use Rattle.std.proofs.lemmas.List.Folds.{list_any-append}
use Rattle.std.proofs.lemmas.Bool.{or_right, or_left, or_from}
use Rattle.ca_program.specs.declared.program.FieldId.{FieldId}
use Rattle.ca_program.specs.declared.program.FirstPart.{FirstPart}
use Rattle.ca_program.specs.declared.program.LoopId.{LoopId}
use Rattle.ca_program.specs.Plain.{PlainProgram, Expression, Statement, if_else, for_loop}
use Rattle.ca_sweep.specs.Found.{sweep_in, sweep_at}
use Rattle.ca_norm.specs.Terms.{PlainTerm, not}
use Rattle.ca_symbolic.specs.States.{State}
use Rattle.ca_symbolic.specs.Execution.{term_of, after_loop, after, choices, field_target, local_target, joined_state}
use Rattle.ca_symbolic.specs.Demands.{loop_reads, demanded_loop, demanded, then_guard, else_guard}
use Rattle.ca_symbolic.specs.Made.{targets, joined_terms}
use Rattle.ca_symbolic.specs.clauses.Places.{is_among, is_marked, marked, fields_put, locals_put, is_read}
use Rattle.ca_symbolic.specs.clauses.Refusals.{refused, refused_loop, refused_by}
use Rattle.ca_symbolic.specs.OtherLoops.{is_call_loop, if_no_sweep, other_loop}
use Rattle.ca_shared_terms.specs.Heavy.{is_heavy}
use Rattle.ca_symbolic.proofs.Among.{reads_told, field_targets_told, local_targets_told}
use Rattle.ca_symbolic.proofs.Marks.{marked_append, among, so_long}

-- marks made by two branches, where nothing is marked before
module _ (count : ℕ) (m0 m1 m2 : List Bool) (xs ys : List ℕ) (p : m0 ≡ replicate count false) (q : m1 ≡ marked m0 xs) (r : m2 ≡ marked m1 ys) where
  two_marked : m2 ≡ marked (replicate count false) (xs ++ ys)
  two_marked = r ∙ (ap (λ m. marked m ys) (q ∙ ap (λ m. marked m xs) p) ∙ sym (marked_append (replicate count false) xs ys))

  pub both_long : length m2 ≡ count
  both_long = ap length two_marked ∙ so_long count (xs ++ ys)

  both_among : (n : ℕ) → n < count → is_marked m2 n ≡ is_among (xs ++ ys) n
  both_among n h = ap (λ m. is_marked m n) two_marked ∙ among count (xs ++ ys) n h

pub field_marks : (count : ℕ) (m0 m1 m2 : List Bool) (a b : Statement) → m0 ≡ replicate count false → m1 ≡ marked m0 (fields_put a) → m2 ≡ marked m1 (fields_put b) →
    (n : ℕ) → n < count → is_marked m2 n ≡ field_target a b n
field_marks count m0 m1 m2 a b p q r n h = both_among count m0 m1 m2 (fields_put a) (fields_put b) p q r n h ∙ sym (ap (λ f. f n) (field_targets_told a b))

pub local_marks : (count : ℕ) (m0 m1 m2 : List Bool) (a b : Statement) → m0 ≡ replicate count false → m1 ≡ marked m0 (locals_put a) → m2 ≡ marked m1 (locals_put b) →
    (n : ℕ) → n < count → is_marked m2 n ≡ local_target a b n
local_marks count m0 m1 m2 a b p q r n h = both_among count m0 m1 m2 (locals_put a) (locals_put b) p q r n h ∙ sym (ap (λ f. f n) (local_targets_told a b))

pub joins_lightly : (a b : Statement) (s : State) → list_any is_heavy (targets (field_target a b) 0 s.fields) ≡ false →
    list_any is_heavy (targets (local_target a b) 0 s.locals) ≡ false → list_any is_heavy (joined_terms a b s) ≡ false
joins_lightly a b s p q = list_any-append is_heavy (targets (field_target a b) 0 s.fields) (targets (local_target a b) 0 s.locals) ∙ or_from _ _ p q

pub heavy_field : (a b : Statement) (c : PlainTerm) (s t : State) → list_any is_heavy (targets (field_target a b) 0 (choices (field_target a b) 0 c s.fields t.fields)) ≡ true →
    list_any is_heavy (joined_terms a b (joined_state c a b s t)) ≡ true
heavy_field a b c s t h =
    list_any-append is_heavy (targets (field_target a b) 0 (choices (field_target a b) 0 c s.fields t.fields)) (targets (local_target a b) 0 (choices (local_target a b) 0 c s.locals t.locals)) ∙ or_left _ _ h

pub heavy_local : (a b : Statement) (c : PlainTerm) (s t : State) → list_any is_heavy (targets (local_target a b) 0 (choices (local_target a b) 0 c s.locals t.locals)) ≡ true →
    list_any is_heavy (joined_terms a b (joined_state c a b s t)) ≡ true
heavy_local a b c s t h =
    list_any-append is_heavy (targets (field_target a b) 0 (choices (field_target a b) 0 c s.fields t.fields)) (targets (local_target a b) 0 (choices (local_target a b) 0 c s.locals t.locals)) ∙ or_right _ _ h

-- a loop, by what is found of it
module _ (p : PlainProgram) (s : State) (g : PlainTerm) (x : Statement) (line : ℕ) (site : LoopId) (part : FirstPart) (first : Statement) (c : Expression) (next b : Statement)
    (is : x ≡ for_loop line site part first c next b) where
  pub loop_after : after p s x ≡ after_loop p s (sweep_at x)
  loop_after = ap (after p s) is ∙ sym (ap (λ y. after_loop p s (sweep_at y)) is)

  pub loop_told : demanded p s g x ≡ demanded_loop p s g site x (sweep_at x)
  loop_told = ap (demanded p s g) is ∙ sym (ap (λ y. demanded_loop p s g site y (sweep_at y)) is)

  pub loop_refused : refused_by p s g x ≡ refused_loop p s g x (sweep_at x)
  loop_refused = ap (refused_by p s g) is ∙ sym (ap (λ y. refused_loop p s g y (sweep_at y)) is)

-- the locals that a loop reads
pub loop_read : (x : Statement) (line : ℕ) (site : LoopId) (part : FirstPart) (first : Statement) (c : Expression) (next b : Statement) → x ≡ for_loop line site part first c next b → loop_reads x ≡ is_read x first
loop_read x line site part first c next b is = ap loop_reads is ∙ (reads_told line site part first c next b ∙ ap (λ y. is_read y first) (sym is))

-- the line of a loop that is neither a call loop nor a sweep
pub other_for : (n : ℕ) (written : List FieldId) (x : Statement) (line : ℕ) (site : LoopId) (part : FirstPart) (first : Statement) (c : Expression) (next b : Statement) → x ≡ for_loop line site part first c next b →
    (if is_call_loop x then None else if_no_sweep (sweep_in n written x) line) ≡ other_loop n written x
other_for n written x line site part first c next b is = ap (λ y. if is_call_loop y then None else if_no_sweep (sweep_in n written y) line) is ∙ sym (ap (other_loop n written) is)

either_of : (n e r : Bool) → (n || e) ≡ true → (n || (e || r)) ≡ true
either_of true e r h = h
either_of false e r h = or_left e r h

-- an `if` is refused where the condition of its second branch is too heavy
pub else_refused : (p : PlainProgram) (s : State) (g : PlainTerm) (x : Statement) (line : ℕ) (c : Expression) (a b : Statement) → x ≡ if_else line c a b →
    (is_heavy (not (term_of p s c)) || is_heavy (else_guard g (term_of p s c))) ≡ true → refused_by p s g x ≡ true
else_refused p s g x line c a b is h =
    let n : Bool = is_heavy (not (term_of p s c)) in
    let e : Bool = is_heavy (else_guard g (term_of p s c)) in
    let rest : Bool = refused_by p s (else_guard g (term_of p s c)) b || list_any is_heavy (joined_terms a b (after p s (if_else line c a b))) in
    ap (refused_by p s g) is
    ∙ or_right (refused p s g c) (is_heavy (then_guard g (term_of p s c)) || (refused_by p s (then_guard g (term_of p s c)) a || (n || (e || rest))))
    (or_right (is_heavy (then_guard g (term_of p s c))) (refused_by p s (then_guard g (term_of p s c)) a || (n || (e || rest)))
    (or_right (refused_by p s (then_guard g (term_of p s c)) a) (n || (e || rest)) (either_of n e rest h)))
