-- The account of an engine, a trace of hand-offs: what it keeps of what it was handed, as a plain value. Each note that is handed off is one
-- step of it, which an engine says by the program, the heap, the operations and the steps that were left.
use Rattle.std.specs.Prelude.{◌≡◌, ℕ, List, [], ◌∷◌, ◌++◌, Result, OnOk, OnErr}
use Rattle.ca_program.specs.Plain.{PlainProgram}
use Rattle.ca_model.specs.declared.value.Object.{Object}
use Rattle.ca_meaning.specs.Expressions.{Invocation}
use Rattle.ca_meaning.specs.Serial.{Note}

-- an account is reached from another by one step for each of these notes, in order
pub data Reached {A : Type 0} (Step : A → PlainProgram → List Object → List Invocation → ℕ → A → Type 0) (p : PlainProgram) (a : A) : List Note → A → Type 0 where
  at_first : Reached Step p a [] a
  by_one : {b c : A} {ns : List Note} (n : Note) → Reached Step p a ns b → Step b p n.heap n.first n.left c → Reached Step p a (ns ++ n ∷ []) c

-- by a beginning of these notes
pub record ReachedPart {A : Type 0} (Step : A → PlainProgram → List Object → List Invocation → ℕ → A → Type 0) (p : PlainProgram) (a : A) (all : List Note) (b : A) : Type 0 where
  pub done : List Note
  pub rest : List Note
  pub whole : all ≡ done ++ rest
  pub reached : Reached Step p a done b

-- A run with an engine that was to be handed these notes: where it gives an outcome the engine was handed each of them,
-- once and in order, and where it gives up a beginning of them.
pub record HandedOn {A T E : Type 0} (Step : A → PlainProgram → List Object → List Invocation → ℕ → A → Type 0) (p : PlainProgram) (before after : A) (result : Result T E) (notes : List Note) : Type 0 where
  pub all : OnOk result (Reached Step p before notes after)
  pub part : OnErr result (ReachedPart Step p before notes after)
