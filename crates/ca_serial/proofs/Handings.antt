-- What was handed off, and what is to come.
use Rattle.std.proofs.Common.{◌≡◌, ℕ, ◌+◌, List, [], ◌∷◌, ◌++◌, refl, ap, sym, subst, ◌∙◌, map, append-nil, append_assoc}
use Rattle.std.specs.Prelude.{Bool, true, false, Contains}
use Rattle.std.proofs.lemmas.List.Elements.{Contains-append_left, Contains-append_right}
use Rattle.ca_lists.proofs.Members.{has_nothing}
use Rattle.ca_program.specs.Plain.{PlainProgram}
use Rattle.ca_model.specs.declared.value.Value.TheVariants.{Null}
use Rattle.ca_model.specs.Slots.{start_of}
use Rattle.ca_model.specs.declared.value.Object.{Object}
use Rattle.ca_meaning.specs.Expressions.{Invocation}
use Rattle.ca_meaning.specs.Flows.{Flow, goes_on, gives_back, stops, runs_out, exec_all}
use Rattle.ca_meaning.specs.ProgramTyped.{ProgramTyped}
use Rattle.ca_meaning.specs.Serial.{Note, World, fresh, operations_of, serial_parts}
use Rattle.ca_parallel.specs.Accounts.{Reached, ReachedPart, at_first, by_one}
use Rattle.ca_parallel.specs.Lists.{PlainMarks, no_marks, world_after, lists}
use Rattle.ca_parallel.specs.Marks.{SoundMarks}
use Rattle.ca_parallel.specs.Notes.{NoteGood}
use Rattle.ca_parallel.proofs.Noted.{none_all}
use Rattle.ca_parallel.proofs.Moved.{moved, all_serial_moved, all_ops_moved}
use Rattle.ca_note_laws.proofs.Good.{lists_good}

-- these notes stand at the front of all
pub record Split (all done : List Note) : Type 0 where
  pub rest : List Note
  pub whole : all ≡ done ++ rest

-- ---- accounts

pub part_of : {A : Type 0} {S : A → PlainProgram → List Object → List Invocation → ℕ → A → Type 0} (p : PlainProgram) (a b : A) (ns all : List Note) → Reached S p a ns b → Split all ns → ReachedPart S p a all b
part_of p a b ns all reached s = record { done = ns; rest = s.rest; whole = s.whole; reached = reached }

pub whole_of : {A : Type 0} {S : A → PlainProgram → List Object → List Invocation → ℕ → A → Type 0} (p : PlainProgram) (a b : A) (ns all : List Note) → Reached S p a ns b → ns ≡ all → Reached S p a all b
whole_of {S = S} p a b ns all reached e = subst (λ l. Reached S p a l b) e reached

-- ---- what an engine is handed

takes_none : (g : Flow World) → (world_after (moved (λ ps. ps) (λ ns. []) g)).notes ≡ []
takes_none (goes_on ls w k) = refl
takes_none (gives_back v w k) = refl
takes_none (stops t w) = refl
takes_none (runs_out w) = refl

none_listed : (p : PlainProgram) (budget : ℕ) → lists p no_marks budget ≡ []
none_listed p budget =
    let ls = map start_of p.main.locals in
    ap (λ f. (world_after f).notes) (none_all p Null p.main.statements ls (fresh []) budget
    ∙ sym (all_serial_moved (λ ps. ps) (λ ns. []) (λ ps v. refl) p (operations_of p) (all_ops_moved (λ ps. ps) (λ ns. []) (λ ps v. refl) p) Null p.main.statements ls (fresh []) budget))
    ∙ takes_none (exec_all (serial_parts p Null) ls (fresh []) p.main.statements budget)

-- what is handed off is good, and goes to an engine that serves
pub all_good : (p : PlainProgram) → ProgramTyped p → (marks : PlainMarks) → SoundMarks p marks → (budget : ℕ) (serves : Bool) → (serves ≡ false → marks ≡ no_marks) → (n : Note) → Contains (lists p marks budget) n → NoteGood p n × (serves ≡ true)
all_good p typed marks sound budget true served n at = (lists_good p typed marks sound budget n at, refl)
all_good p typed marks sound budget false served n at = absurd (has_nothing n (subst (λ l. Contains l n) (none_listed p budget) (subst (λ ms. Contains (lists p ms budget) n) (served refl) at)))

pub stands_in : (all before more : List Note) → Split all (before ++ more) → (n : Note) → Contains more n → Contains all n
stands_in all before more s n at = subst (λ l. Contains l n) (sym s.whole) (Contains-append_left (before ++ more) s.rest n (Contains-append_right before more n at))

-- ---- accounts of several notes

pub reached_on : {A : Type 0} {S : A → PlainProgram → List Object → List Invocation → ℕ → A → Type 0} (p : PlainProgram) (a b c : A) (ns ms : List Note) → Reached S p a ns b → Reached S p b ms c → Reached S p a (ns ++ ms) c
reached_on {S = S} p a b c ns ms r at_first = subst (λ l. Reached S p a l b) (sym (append-nil ns)) r
reached_on {S = S} p a b c ns all r (by_one {ns = ms} n q step) = subst (λ l. Reached S p a l c) (append_assoc ns ms (n ∷ [])) (by_one n (reached_on p a _ _ ns ms r q) step)

pub part_on : {A : Type 0} {S : A → PlainProgram → List Object → List Invocation → ℕ → A → Type 0} (p : PlainProgram) (a b c : A) (ns ms all : List Note) → Reached S p a ns b → ReachedPart S p b ms c → Split all (ns ++ ms) → ReachedPart S p a all c
part_on p a b c ns ms all r q s = record {
  done = ns ++ q.done;
  rest = q.rest ++ s.rest;
  whole = s.whole ∙ ap (λ l. (ns ++ l) ++ s.rest) q.whole ∙ ap (λ l. l ++ s.rest) (sym (append_assoc ns q.done q.rest)) ∙ append_assoc (ns ++ q.done) q.rest s.rest;
  reached = reached_on p a b c ns q.done r q.reached;
}
