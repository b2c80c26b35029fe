-- Each course of a body is a path through its text, with the marks between.
use Rattle.std.proofs.Common.{◌≡◌, List, [], ◌∷◌, ◌++◌, Option, Some, None, map, refl, sym, subst, ap, ap₂, ◌∙◌}
use Rattle.std.proofs.lemmas.List.{append-nil}
use Rattle.ca_tree.specs.Plain as tree
use Rattle.ca_program.specs.declared.program.FieldId.{FieldId}
use Rattle.ca_program.specs.declared.program.FunctionId.{FunctionId}
use Rattle.ca_program.specs.Plain as program
use Rattle.ca_program.specs.Plain.{Expression}
use Rattle.ca_parallel.specs.Bodies.{fields_in, functions_in}
use Rattle.ca_lock_laws.specs.Events.{Event, locks, unlocks, spawns, accesses, evaluates, calls, evaluated, happens}
use Rattle.ca_lock_laws.specs.Paths.{IsPut, puts_local, puts_field, puts_item, creates_local, creates_field, creates_item, IsLine, declared, assigned, printed, Way, goes_on, Path, empty, of_line, call, gives_back, block, passed, taken, one_branch, other_branch, repeated, counted, Paths, none as no_path, and_then, no_more, Turns, leaves, turn, broken}
use Rattle.ca_lock_laws.specs.Resolves.{Resolves, an_empty, a_line, a_call, a_return, a_block, an_if, an_else, a_while, a_for, AllResolve, none, and_all}
use Rattle.ca_lock_laws.specs.Courses.{Course, in_block, puts_local as by_local, puts_field as by_field, puts_item as by_item, creates_local as new_local, creates_field as new_field, creates_item as new_item, prints, by_call, by_return, by_first, by_second, by_while, by_for, Courses, at_end, and_next, and_return, Rounds, no_round, one_round, last_round, unmarked, IsHead, HeadsStand, AllHeadsStand}

-- ---- marks aside

joined : (es fs : List Event) → unmarked (es ++ fs) ≡ unmarked es ++ unmarked fs
joined [] fs = refl
joined (locks ∷ es) fs = joined es fs
joined (unlocks ∷ es) fs = joined es fs
joined (spawns ∷ es) fs = joined es fs
joined (accesses f ∷ es) fs = ap (λ xs. accesses f ∷ xs) (joined es fs)
joined (evaluates m ∷ es) fs = ap (λ xs. evaluates m ∷ xs) (joined es fs)
joined (calls op ∷ es) fs = ap (λ xs. calls op ∷ xs) (joined es fs)

two : (es fs as_es as_fs : List Event) → unmarked es ≡ as_es → unmarked fs ≡ as_fs → unmarked (es ++ fs) ≡ as_es ++ as_fs
two es fs as_es as_fs a b = joined es fs ∙ ap₂ (λ u v. u ++ v) a b

fields : (fs : List FieldId) → unmarked (map accesses fs) ≡ map accesses fs
fields [] = refl
fields (f ∷ fs) = ap (λ xs. accesses f ∷ xs) (fields fs)

functions : (ms : List FunctionId) → unmarked (map evaluates ms) ≡ map evaluates ms
functions [] = refl
functions (m ∷ ms) = ap (λ xs. evaluates m ∷ xs) (functions ms)

plain : (e : Expression) → unmarked (evaluated e) ≡ evaluated e
plain e = two (map accesses (fields_in e)) (map evaluates (functions_in e)) (map accesses (fields_in e)) (map evaluates (functions_in e)) (fields (fields_in e)) (functions (functions_in e))

put_plain : {x : program.Statement} → IsPut x → unmarked (happens x) ≡ happens x
put_plain (puts_local line n op e) = plain e
put_plain (puts_field line f op e) = ap (λ xs. accesses f ∷ xs) (plain e)
put_plain (puts_item line f i op e) = ap (λ xs. accesses f ∷ xs) (two (evaluated i) (evaluated e) (evaluated i) (evaluated e) (plain i) (plain e))
put_plain (creates_local line n c) = refl
put_plain (creates_field line f c) = refl
put_plain (creates_item line f i c) = ap (λ xs. accesses f ∷ xs) (plain i)

line_plain : {s : tree.Statement} {x : program.Statement} → IsLine s x → unmarked (happens x) ≡ happens x
line_plain (declared at ty name name_at v i) = put_plain i
line_plain (assigned at target op r i) = put_plain i
line_plain (printed at e line v) = plain v

-- ---- lines

put_course : {x : program.Statement} {es : List Event} {w : Way} → IsPut x → Course x es w → (es ≡ happens x) × (w ≡ goes_on)
put_course (puts_local line n op e) by_local = (refl, refl)
put_course (puts_field line f op e) by_field = (refl, refl)
put_course (puts_item line f i op e) by_item = (refl, refl)
put_course (creates_local line n c) new_local = (refl, refl)
put_course (creates_field line f c) new_field = (refl, refl)
put_course (creates_item line f i c) new_item = (refl, refl)

line_course : {s : tree.Statement} {x : program.Statement} {es : List Event} {w : Way} → IsLine s x → Course x es w → (es ≡ happens x) × (w ≡ goes_on)
line_course (declared at ty name name_at v i) c = put_course i c
line_course (assigned at target op r i) c = put_course i c
line_course (printed at e line v) prints = (refl, refl)

head_line : {s : tree.Statement} {x : program.Statement} → Resolves s x → IsHead s → IsLine s x
head_line (an_empty at) h = absurd h
head_line (a_line i) h = i
head_line (a_call at e receiver op arguments) h = absurd h
head_line (a_return at e v) h = absurd h
head_line (a_block at r) h = absurd h
head_line (an_if at e c r) h = absurd h
head_line (an_else at e c r q) h = absurd h
head_line (a_while at e c r) h = absurd h
head_line (a_for at e site part c a b r) h = absurd h

-- ---- all bodies

module _ (before : Option tree.Statement → tree.Statement → List Event) (marks : (front : Option tree.Statement) (s : tree.Statement) → unmarked (before front s) ≡ []) where
  -- a path that does so, but for the marks
  record Taken (P : List Event → Type 0) (es : List Event) : Type 0 where
    events : List Event
    path : P events
    same : unmarked events ≡ es

  -- behind the marks of a statement
  behind_marks : (front : Option tree.Statement) (s : tree.Statement) (fs es : List Event) → unmarked fs ≡ es → unmarked (before front s ++ fs) ≡ es
  behind_marks front s fs es h = two (before front s) fs [] es (marks front s) h

  behind_test : (c : Expression) (s : tree.Statement) (fs es : List Event) → unmarked fs ≡ es → unmarked (evaluated c ++ (before None s ++ fs)) ≡ evaluated c ++ es
  behind_test c s fs es h = two (evaluated c) (before None s ++ fs) (evaluated c) es (plain c) (behind_marks None s fs es h)

  line_taken : {s : tree.Statement} {x : program.Statement} {es : List Event} {w : Way} → IsLine s x → Course x es w → Taken (λ fs. Path before s x fs w) es
  line_taken {s} {x} i c =
      let q = line_course i c in
      record { events = happens x; path = subst (λ v. Path before s x (happens x) v) (sym q.1) (of_line i); same = line_plain i ∙ sym q.0 }

  mutual
    course : {s : tree.Statement} {x : program.Statement} {es : List Event} {w : Way} → Resolves s x → HeadsStand s → Course x es w → Taken (λ fs. Path before s x fs w) es
    course (an_empty at) h (in_block at_end) = record { events = []; path = empty at at.line; same = refl }
    course (a_line i) h d = line_taken i d
    course (a_call at e receiver op arguments) h by_call = record { events = calls op ∷ []; path = call at e at.line receiver op arguments; same = refl }
    course (a_return at e v) h by_return = record { events = evaluated v; path = gives_back at e at.line v; same = plain v }
    course (a_block at rs) h (in_block d) = let t = courses None rs h d in record { events = t.events; path = block at at.line t.path; same = t.same }
    course (an_if at e c {s} {x} r) h (by_first {es} d) =
        let t = course r h d in
        record { events = evaluated c ++ (before None s ++ t.events); path = taken at e at.line at.line c t.path; same = behind_test c s t.events es t.same }
    course (an_if at e c {s} {x} r) h (by_second (in_block at_end)) = record { events = evaluated c; path = passed at e s at.line at.line c x; same = plain c ∙ sym (append-nil (evaluated c)) }
    course (an_else at e c {s} {t} {x} {y} r q) h (by_first {es} d) =
        let b = course r h.0 d in
        record { events = evaluated c ++ (before None s ++ b.events); path = one_branch at e t at.line c y b.path; same = behind_test c s b.events es b.same }
    course (an_else at e c {s} {t} {x} {y} r q) h (by_second {es} d) =
        let b = course q h.1 d in
        record { events = evaluated c ++ (before None t ++ b.events); path = other_branch at e s at.line c x b.path; same = behind_test c t b.events es b.same }
    course (a_while at e c r) h (by_while d) = let t = rounds r h refl d in record { events = t.events; path = repeated at e at.line t.path; same = t.same }
    course (a_for at e site part c {start} {step} a b r) h (by_for {es} d) =
        let one = head_line a h.0 in
        let two_of = head_line b h.1 in
        let t = rounds r h.2 (line_plain two_of) d in
        record { events = happens start ++ t.events; path = counted at e at.line site part one two_of t.path; same = two (happens start) t.events (happens start) es (line_plain one) t.same }

    courses : {ss : tree.Statements} {xs : program.Statements} {es : List Event} {w : Way} (front : Option tree.Statement) → AllResolve ss xs → AllHeadsStand ss → Courses xs es w → Taken (λ fs. Paths before front ss xs fs w) es
    courses front none h at_end = record { events = []; path = no_path front; same = refl }
    courses front (and_all {s} r rs) h (and_next {es} {fs} d ds) =
        let t = course r h.0 d in
        let more = courses (Some s) rs h.1 ds in
        record { events = (before front s ++ t.events) ++ more.events; path = and_then front t.path more.path; same = two (before front s ++ t.events) more.events es fs (behind_marks front s t.events es t.same) more.same }
    courses front (and_all {s} {ss} {xs} r rs) h (and_return {es} d) =
        let t = course r h.0 d in
        record { events = before front s ++ t.events; path = no_more front ss xs t.path; same = behind_marks front s t.events es t.same }

    rounds : {s : tree.Statement} {x : program.Statement} {c : Expression} {step es : List Event} {w : Way} → Resolves s x → HeadsStand s → unmarked step ≡ step → Rounds c x step es w
        → Taken (λ fs. Turns before c s x step fs w) es
    rounds {s} {x} {c} {step} r h p no_round = record { events = evaluated c; path = leaves c s x step; same = plain c }
    rounds {s} {x} {c} {step} r h p (one_round {es} {fs} d ds) =
        let t = course r h d in
        let more = rounds r h p ds in
        record {
          events = evaluated c ++ ((before None s ++ t.events) ++ (step ++ more.events));
          path = turn t.path more.path;
          same = two (evaluated c) ((before None s ++ t.events) ++ (step ++ more.events)) (evaluated c) (es ++ (step ++ fs)) (plain c)
              (two (before None s ++ t.events) (step ++ more.events) es (step ++ fs) (behind_marks None s t.events es t.same) (two step more.events step fs p more.same));
        }
    rounds {s} {x} {c} {step} r h p (last_round {es} d) =
        let t = course r h d in
        record { events = evaluated c ++ (before None s ++ t.events); path = broken c step t.path; same = behind_test c s t.events es t.same }

  pub each_course : (ss : tree.Statements) (xs : program.Statements) → AllResolve ss xs → AllHeadsStand ss → (es : List Event) (w : Way) → Courses xs es w → (fs : List Event) × Paths before None ss xs fs w × (unmarked fs ≡ es)
  each_course ss xs r h es w d = let t = courses None r h d in (t.events, t.path, t.same)
