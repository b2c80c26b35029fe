-- What is told of a run that gives up, before its first step or later, and of one that ends.
use Rattle.std.proofs.Common.{ℕ, ◌≤◌, List, Option, Ok, Err, [], refl, arith}
use Rattle.ca_base.proofs.Writing.{began_nothing}
use Rattle.ca_program.specs.Plain.{PlainProgram}
use Rattle.ca_program.specs.Instructions.{Code}
use Rattle.ca_model.specs.declared.value.Object.{Object}
use Rattle.ca_meaning.specs.Expressions.{Invocation}
use Rattle.ca_meaning.specs.ProgramTyped.{ProgramTyped}
use Rattle.ca_parallel.specs.Accounts.{ReachedPart, at_first}
use Rattle.ca_parallel.specs.Lists.{PlainMarks, lists}
use Rattle.ca_parallel.specs.Marks.{SoundMarks}
use Rattle.ca_steps.specs.declared.frames.Frames.{Frames}
use Rattle.ca_serial.specs.declared.running.Outcome.{Outcome}
use Rattle.ca_serial.specs.declared.running.RunError.TheVariants.{Memory}
use Rattle.ca_serial.specs.Codes.{IsRun}
use Rattle.ca_serial.specs.clauses.Driving.{Drives}
use Rattle.ca_serial.proofs.Going.{Going, Ending, part_written, part_handed}

pub gave_up : {A : Type 0} {S : A → PlainProgram → List Object → List Invocation → ℕ → A → Type 0} {p : PlainProgram} {marks : PlainMarks} {budget : ℕ} {a : A} {old : Option (List ℕ)} {faults : ℕ} → Drives S p marks budget (Err Memory) a a old old faults faults
gave_up = record {
  outcome = tt;
  prints = record { whole = tt; part = began_nothing _ _ };
  write = tt;
  later = omega arith;
  account = record { all = tt; part = record { done = []; rest = _; whole = refl; reached = at_first } };
}

module _ {A : Type 0} {S : A → PlainProgram → List Object → List Invocation → ℕ → A → Type 0} {p : PlainProgram} {marks : PlainMarks} {budget : ℕ} {a b : A} {old now : Option (List ℕ)} {faults risen : ℕ} (later : faults ≤ risen) where
  module _ {code : Code} {at : ℕ} {m : Frames} {h : List Object} (typed : ProgramTyped p) (sound : SoundMarks p marks) (laid : IsRun marks p code at) (i : Going S p code at budget a old m h b now) where
    -- with what was handed on since
    pub gives_up_by : {c : A} → ReachedPart S p a (lists p marks budget) c → Drives S p marks budget (Err Memory) a c old now faults risen
    gives_up_by part = record {
      outcome = tt;
      prints = record { whole = tt; part = part_written typed sound laid i };
      write = tt;
      later = later;
      account = record { all = tt; part = part };
    }

    pub gives_up : Drives S p marks budget (Err Memory) a b old now faults risen
    gives_up = gives_up_by (part_handed typed sound laid i)

  pub ends_told : {held : Outcome} → Ending S p marks budget a b old now held → Drives S p marks budget (Ok held) a b old now faults risen
  ends_told end = record { outcome = end.outcome; prints = record { whole = end.whole; part = tt }; write = tt; later = later; account = record { all = end.account; part = tt } }
