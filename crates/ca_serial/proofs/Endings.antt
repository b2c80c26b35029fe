-- What a run that stops has written.
use Rattle.std.proofs.Common.{◌≡◌, ◌≤◌, ℕ, List, [], ◌∷◌, ◌++◌, arith, Option, Result, Ok, Err, refl, ap, sym, ◌∙◌, append_assoc, append-nil}
use Rattle.ca_base.specs.Devices.{grown, HasCause, Rose}
use Rattle.ca_base.proofs.Writing.{grown_twice, grown_nothing}
use Rattle.ca_model.specs.declared.value.Value.{Value as Datum}
use Rattle.ca_meaning.specs.Flows.{Flow, goes_on, gives_back, stops, runs_out}
use Rattle.ca_meaning.specs.Serial.{World, Ended, ended}
use Rattle.ca_meaning.specs.Output.{print_text, prints_text}
use Rattle.ca_parallel.specs.Lists.{world_after}
use Rattle.ca_serial.specs.declared.running.Outcome.{Outcome}
use Rattle.ca_serial.specs.declared.running.Outcome.TheVariants.{Done, Trapped, Spent}
use Rattle.ca_serial.specs.Runs.{prints_of, run_with}

pub texts_append : (ps qs : List Datum) → prints_text (ps ++ qs) ≡ prints_text ps ++ prints_text qs
texts_append [] qs = refl
texts_append (p ∷ ps) qs = ap (λ t. print_text p ++ t) (texts_append ps qs) ∙ sym (append_assoc (print_text p) (prints_text ps) (prints_text qs))

pub ended_prints : (budget : ℕ) (flow : Flow World) → prints_of (ended budget flow) ≡ (world_after flow).prints
ended_prints budget (goes_on ls w k) = refl
ended_prints budget (gives_back v w k) = refl
ended_prints budget (stops t w) = refl
ended_prints budget (runs_out w) = refl

one_text : (v : Datum) → prints_text (v ∷ []) ≡ print_text v
one_text v = append-nil (print_text v)

-- one value more was written
pub told_more : (old mid now : Option (List ℕ)) (ps : List Datum) (v : Datum) → mid ≡ grown old (prints_text ps) → now ≡ grown mid (print_text v) → now ≡ grown old (prints_text (ps ++ v ∷ []))
told_more old mid now ps v before more = more ∙ ap (λ m. grown m (print_text v)) before ∙ grown_twice old (prints_text ps) (print_text v) ∙ ap (grown old) (sym (texts_append ps (v ∷ []) ∙ ap (λ t. prints_text ps ++ t) (one_text v)))

shows : (ps : List Datum) (outcome : Outcome) → run_with ps outcome ≡ run_with (prints_of (run_with ps outcome)) outcome
shows ps (Done heap steps) = refl
shows ps (Trapped t) = refl
shows ps Spent = refl

-- a run that ended so printed these values
pub ended_so : (e : Ended) (ps : List Datum) (outcome : Outcome) → run_with ps outcome ≡ e → e ≡ run_with (prints_of e) outcome
ended_so e ps outcome is = rw (← is) (shows ps outcome)

-- and it wrote them
pub told_so : (old now : Option (List ℕ)) (ps : List Datum) (e : Ended) (outcome : Outcome) → now ≡ grown old (prints_text ps) → run_with ps outcome ≡ e → now ≡ grown old (prints_text (prints_of e))
told_so old now ps e (Done heap steps) told is = rw (← is) told
told_so old now ps e (Trapped t) told is = rw (← is) told
told_so old now ps e Spent told is = rw (← is) told

-- nothing was written before
pub written_nothing : (old : Option (List ℕ)) → old ≡ grown old []
written_nothing old = sym (grown_nothing old)

-- a count that rose behind others
pub rose_later : (a b c : ℕ) → a ≤ b → Rose b c → Rose a c
rose_later a b c le rose = omega (arith, le, rose)

-- and its cause
pub cause_after : {T E : Type 0} (a b c : ℕ) (r : Result T E) → a ≤ b → HasCause b c r → HasCause a c r
cause_after a b c (Ok x) le h = record { later = omega (arith, le, h.later); failed = tt }
cause_after a b c (Err e) le h = record { later = omega (arith, le, h.later); failed = rose_later a b c le h.failed }
