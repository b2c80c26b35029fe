-- What is told of a statement whose parts were run one behind the other.
use Rattle.std.proofs.Common.{◌≡◌, ℕ, Bool, true, false, ◌||◌, List, ◌++◌, Result, Err, OnOk, sym, ap, ap₂, subst, ◌∙◌, append_assoc}
use Rattle.std.proofs.lemmas.Bool.{or_right, or_left}
use Rattle.std.specs.List.{list_any}
use Rattle.ca_program.specs.Plain.{PlainProgram, Expression, Statement, if_else}
use Rattle.ca_norm.specs.Terms.{PlainTerm, not}
use Rattle.ca_shared_terms.specs.declared.errors.ExecutionError.{ExecutionError}
use Rattle.ca_shared_terms.specs.declared.errors.ExecutionError.TheVariants.{Large}
use Rattle.ca_shared_terms.specs.Heavy.{is_heavy}
use Rattle.ca_symbolic.specs.declared.walk.Fork.{Fork}
use Rattle.ca_symbolic.specs.States.{State, PlainDemand}
use Rattle.ca_symbolic.specs.Execution.{term_of, joined_state, after}
use Rattle.ca_symbolic.specs.Demands.{then_guard, else_guard, demands_in, demanded}
use Rattle.ca_symbolic.specs.Made.{joined_terms}
use Rattle.ca_symbolic.specs.Demanded.{Demanded, with_demands, under}
use Rattle.ca_symbolic.specs.clauses.Refusals.{refused, refused_by}
use Rattle.ca_symbolic.proofs.Flags.{both_ok, again, neither_before}
use Rattle.ca_forms.proofs.Told.{on_ok}
use Rattle.ca_symbolic.proofs.Told.{else_refused}

-- what a run tells of a statement: the state and what was demanded before it, and what is behind it
pub record Ran {T : Type 0} (p : PlainProgram) (s left : State) (d now : Demanded) (r : Result T ExecutionError) (x : Statement) : Type 0 where
  pub state : OnOk r (left ≡ after p s x)
  pub demands : OnOk r (now ≡ with_demands d (demanded p s d.guard x))
  pub light : OnOk r (refused_by p s d.guard x ≡ false)
  pub large : r ≡ Err Large → refused_by p s d.guard x ≡ true

module _ {T : Type 0} (p : PlainProgram) (s left : State) (d now : Demanded) (r : Result T ExecutionError) (x : Statement) where
  -- where one call does all
  pub ran_as : (y : Statement) → x ≡ y → OnOk r (left ≡ after p s y) → OnOk r (now ≡ with_demands d (demanded p s d.guard y)) → OnOk r (refused_by p s d.guard y ≡ false) →
      (r ≡ Err Large → refused_by p s d.guard y ≡ true) → Ran p s left d now r x
  ran_as y is state demands light large = record {
    state = subst (λ (z : Statement). OnOk r (left ≡ after p s z)) (sym is) state;
    demands = subst (λ (z : Statement). OnOk r (now ≡ with_demands d (demanded p s d.guard z))) (sym is) demands;
    light = subst (λ (z : Statement). OnOk r (refused_by p s d.guard z ≡ false)) (sym is) light;
    large = λ told. ap (refused_by p s d.guard) is ∙ large told;
  }

  -- where a part stops, and the whole is refused if it was refused
  pub cut_short : (f e : ExecutionError) → r ≡ Err f → f ≡ e → (e ≡ Large → refused_by p s d.guard x ≡ true) → Ran p s left d now r x
  cut_short f e is same heavy = record {
    state = rw is tt;
    demands = rw is tt;
    light = rw is tt;
    large = λ told. heavy (again r f e Large is same told);
  }

-- what is refused behind the condition of an `if`, behind its first branch, and behind the second one
abbrev joined : PlainProgram → State → ℕ → Expression → Statement → Statement → Bool
joined p s line c a b = list_any is_heavy (joined_terms a b (after p s (if_else line c a b)))

abbrev no_part : PlainProgram → State → PlainTerm → ℕ → Expression → Statement → Statement → Bool
no_part p s g line c a b = refused_by p s (else_guard g (term_of p s c)) b || joined p s line c a b

abbrev else_part : PlainProgram → State → PlainTerm → ℕ → Expression → Statement → Statement → Bool
else_part p s g line c a b = is_heavy (not (term_of p s c)) || (is_heavy (else_guard g (term_of p s c)) || no_part p s g line c a b)

abbrev yes_part : PlainProgram → State → PlainTerm → ℕ → Expression → Statement → Statement → Bool
yes_part p s g line c a b = refused_by p s (then_guard g (term_of p s c)) a || else_part p s g line c a b

-- an `if`: its condition, its first branch, and its second one
module _ (p : PlainProgram) (s : State) (d : Demanded) (x : Statement) (line : ℕ) (c : Expression) (a b : Statement) (is : x ≡ if_else line c a b) where
  refused_is : refused_by p s d.guard x ≡ (refused p s d.guard c || (is_heavy (then_guard d.guard (term_of p s c)) || yes_part p s d.guard line c a b))
  refused_is = ap (refused_by p s d.guard) is

  pub if_condition : refused p s d.guard c ≡ true → refused_by p s d.guard x ≡ true
  if_condition h = refused_is ∙ or_left (refused p s d.guard c) (is_heavy (then_guard d.guard (term_of p s c)) || yes_part p s d.guard line c a b) h

  module _ (t : PlainTerm) (d1 : Demanded) (named : t ≡ term_of p s c) (first : d1 ≡ with_demands d (demands_in p s d.guard c)) where
    outside : d1.guard ≡ d.guard
    outside = ap (λ (z : Demanded). z.guard) first

    then_heavy : is_heavy (then_guard d.guard (term_of p s c)) ≡ is_heavy (then_guard d1.guard t)
    then_heavy = ap₂ (λ (k u : PlainTerm). is_heavy (then_guard k u)) (sym outside) (sym named)

    pub if_then : is_heavy (then_guard d1.guard t) ≡ true → refused_by p s d.guard x ≡ true
    if_then h =
        refused_is
        ∙ or_right (refused p s d.guard c) (is_heavy (then_guard d.guard (term_of p s c)) || yes_part p s d.guard line c a b)
        (or_left (is_heavy (then_guard d.guard (term_of p s c))) (yes_part p s d.guard line c a b) (then_heavy ∙ h))

    module _ (d2 : Demanded) (next : d2 ≡ under d1 (then_guard d1.guard t)) where
      yes_guard : d2.guard ≡ then_guard d.guard (term_of p s c)
      yes_guard = ap (λ (z : Demanded). z.guard) next ∙ ap₂ (λ (k u : PlainTerm). then_guard k u) outside named

      yes_refused : refused_by p s (then_guard d.guard (term_of p s c)) a ≡ refused_by p s d2.guard a
      yes_refused = ap (λ k. refused_by p s k a) (sym yes_guard)

      pub if_first : refused_by p s d2.guard a ≡ true → refused_by p s d.guard x ≡ true
      if_first h =
          refused_is
          ∙ or_right (refused p s d.guard c) (is_heavy (then_guard d.guard (term_of p s c)) || yes_part p s d.guard line c a b)
          (or_right (is_heavy (then_guard d.guard (term_of p s c))) (yes_part p s d.guard line c a b)
          (or_left (refused_by p s (then_guard d.guard (term_of p s c)) a) (else_part p s d.guard line c a b) (yes_refused ∙ h)))

      module _ (k : Fork) (kept : k ≡ record { condition = t; outer = d1.guard; other = s }) where
        condition_is : k.condition ≡ term_of p s c
        condition_is = ap (λ (f : Fork). f.condition) kept ∙ named

        outer_is : k.outer ≡ d.guard
        outer_is = ap (λ (f : Fork). f.outer) kept ∙ outside

        else_heavy :
            (is_heavy (not (term_of p s c)) || is_heavy (else_guard d.guard (term_of p s c))) ≡
            (is_heavy (not k.condition) || is_heavy (else_guard k.outer k.condition))
        else_heavy = ap₂ (λ (o u : PlainTerm). is_heavy (not u) || is_heavy (else_guard o u)) (sym outer_is) (sym condition_is)

        pub if_else_heavy : (is_heavy (not k.condition) || is_heavy (else_guard k.outer k.condition)) ≡ true → refused_by p s d.guard x ≡ true
        if_else_heavy h = else_refused p s d.guard x line c a b is (else_heavy ∙ h)

        module _ (d3 d4 : Demanded) (s2 : State) (third : d3 ≡ with_demands d2 (demanded p s d2.guard a)) (fourth : d4 ≡ under d3 (else_guard k.outer k.condition)) (back : s2 ≡ k.other) where
          no_guard : d4.guard ≡ else_guard d.guard (term_of p s c)
          no_guard = ap (λ (z : Demanded). z.guard) fourth ∙ ap₂ (λ (o u : PlainTerm). else_guard o u) outer_is condition_is

          begun : s2 ≡ s
          begun = back ∙ ap (λ (f : Fork). f.other) kept

          no_refused : refused_by p s (else_guard d.guard (term_of p s c)) b ≡ refused_by p s2 d4.guard b
          no_refused = ap₂ (λ (z : State) (u : PlainTerm). refused_by p z u b) (sym begun) (sym no_guard)

          pub if_second : refused_by p s2 d4.guard b ≡ true → refused_by p s d.guard x ≡ true
          if_second h =
              refused_is
              ∙ or_right (refused p s d.guard c) (is_heavy (then_guard d.guard (term_of p s c)) || yes_part p s d.guard line c a b)
              (or_right (is_heavy (then_guard d.guard (term_of p s c))) (yes_part p s d.guard line c a b)
              (or_right (refused_by p s (then_guard d.guard (term_of p s c)) a) (else_part p s d.guard line c a b)
              (or_right (is_heavy (not (term_of p s c))) (is_heavy (else_guard d.guard (term_of p s c)) || no_part p s d.guard line c a b)
              (or_right (is_heavy (else_guard d.guard (term_of p s c))) (no_part p s d.guard line c a b)
              (or_left (refused_by p s (else_guard d.guard (term_of p s c)) b) (joined p s line c a b) (no_refused ∙ h))))))

          -- where each part is light, the whole is refused for what the branches are joined to
          if_rest : refused p s d.guard c ≡ false → is_heavy (then_guard d1.guard t) ≡ false → refused_by p s d2.guard a ≡ false →
              (is_heavy (not k.condition) || is_heavy (else_guard k.outer k.condition)) ≡ false → refused_by p s2 d4.guard b ≡ false → refused_by p s d.guard x ≡ joined p s line c a b
          if_rest h1 h2 h3 h4 h5 =
              refused_is
              ∙ (ap (λ z. z || (is_heavy (then_guard d.guard (term_of p s c)) || yes_part p s d.guard line c a b)) h1
              ∙ (ap (λ z. z || yes_part p s d.guard line c a b) (then_heavy ∙ h2)
              ∙ (ap (λ z. z || else_part p s d.guard line c a b) (yes_refused ∙ h3)
              ∙ (neither_before (is_heavy (not (term_of p s c))) (is_heavy (else_guard d.guard (term_of p s c))) (no_part p s d.guard line c a b) (else_heavy ∙ h4)
              ∙ ap (λ z. z || joined p s line c a b) (no_refused ∙ h5)))))

          pub if_told : {T : Type 0} (r : Result T ExecutionError) (k2 : Fork) (s1 s3 left : State) (d5 now : Demanded) →
              s1 ≡ after p s a → k2 ≡ record { condition = k.condition; outer = k.outer; other = s1 } → s3 ≡ after p s2 b → d5 ≡ with_demands d4 (demanded p s2 d4.guard b) →
              refused p s d.guard c ≡ false → is_heavy (then_guard d1.guard t) ≡ false → refused_by p s d2.guard a ≡ false →
              (is_heavy (not k.condition) || is_heavy (else_guard k.outer k.condition)) ≡ false → refused_by p s2 d4.guard b ≡ false →
              OnOk r (left ≡ joined_state k2.condition a b k2.other s3) → OnOk r (now ≡ under d5 k2.outer) → OnOk r (list_any is_heavy (joined_terms a b left) ≡ false) →
              (r ≡ Err Large → list_any is_heavy (joined_terms a b (joined_state k2.condition a b k2.other s3)) ≡ true) → Ran p s left d now r x
          if_told r k2 s1 s3 left d5 now ran kept2 ran2 fifth h1 h2 h3 h4 h5 behind ended light large =
              let D : List PlainDemand = demands_in p s d.guard c in
              let A : List PlainDemand = demanded p s (then_guard d.guard (term_of p s c)) a in
              let B : List PlainDemand = demanded p s (else_guard d.guard (term_of p s c)) b in
              let made : joined_state k2.condition a b k2.other s3 ≡ after p s (if_else line c a b) =
              ap (λ (u : PlainTerm). joined_state u a b k2.other s3) (ap (λ (f : Fork). f.condition) kept2 ∙ condition_is)
              ∙ ap₂ (λ (y z : State). joined_state (term_of p s c) a b y z) (ap (λ (f : Fork). f.other) kept2 ∙ ran) (ran2 ∙ ap (λ z. after p z b) begun) in
              let rest : refused_by p s d.guard x ≡ joined p s line c a b = if_rest h1 h2 h3 h4 h5 in
              let same : list_any is_heavy (joined_terms a b (joined_state k2.condition a b k2.other s3)) ≡ joined p s line c a b = ap (λ (z : State). list_any is_heavy (joined_terms a b z)) made in
              let before : d2.list ≡ d.list ++ D = ap (λ (z : Demanded). z.list) next ∙ ap (λ (z : Demanded). z.list) first in
              let between : d4.list ≡ (d.list ++ D) ++ A =
              ap (λ (z : Demanded). z.list) fourth ∙ (ap (λ (z : Demanded). z.list) third ∙ ap₂ (λ (y : List PlainDemand) (o : PlainTerm). y ++ demanded p s o a) before yes_guard) in
              let list : d5.list ≡ d.list ++ (D ++ (A ++ B)) =
              ap (λ (z : Demanded). z.list) fifth
              ∙ (ap₂ (λ (y : List PlainDemand) (o : PlainTerm). y ++ demanded p s2 o b) between no_guard
              ∙ (ap (λ (z : State). ((d.list ++ D) ++ A) ++ demanded p z (else_guard d.guard (term_of p s c)) b) begun
              ∙ (append_assoc (d.list ++ D) A B ∙ append_assoc d.list D (A ++ B)))) in
              record {
                state = on_ok r (left ≡ joined_state k2.condition a b k2.other s3) (left ≡ after p s x) (λ j. j ∙ (made ∙ sym (ap (after p s) is))) behind;
                demands = on_ok r (now ≡ under d5 k2.outer) (now ≡ with_demands d (demanded p s d.guard x)) (λ e.
                    ap₂ (λ (o : PlainTerm) (l : List PlainDemand). record { guard = o; list = l }) (ap (λ (z : Demanded). z.guard) e ∙ (ap (λ (f : Fork). f.outer) kept2 ∙ outer_is)) (ap (λ (z : Demanded). z.list) e ∙ list)
                    ∙ ap (with_demands d) (sym (ap (demanded p s d.guard) is))) ended;
                light = both_ok r (left ≡ joined_state k2.condition a b k2.other s3) (list_any is_heavy (joined_terms a b left) ≡ false) (refused_by p s d.guard x ≡ false)
                    (λ j l. rest ∙ (sym same ∙ (sym (ap (λ (z : State). list_any is_heavy (joined_terms a b z)) j) ∙ l))) behind light;
                large = λ told. rest ∙ (sym same ∙ large told);
              }
