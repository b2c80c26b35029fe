-- What a call that was asked something does with the devices, and how one ends that got no text.
use Rattle.std.proofs.Common.{◌≡◌, ℕ, ◌<◌, ◌≤◌, ◌⊎◌, true, false, List, length, Option, Some, None, Result, Err, inl, inr, refl, sym, ◌∙◌, true≢false, subst, arith}
use Rattle.std.specs.Prelude.{IfSome}
use Rattle.std.specs.declared.alloc.Global.{Global}
use Rattle.std.specs.declared.vec.Vec.{Vec}
use Rattle.ca_base.specs.Devices.{HasCause, Rose, at_end}
use Rattle.ca_base.specs.Reading.{OnFault, OnLimit}
use Rattle.ca_base.specs.declared.read_to_end.ReadError.{ReadError}
use Rattle.ca_base.specs.declared.read_to_end.ReadError.TheVariants.{Fault}
use Rattle.ca_words.specs.declared.Command.{Command}
use Rattle.ca_words.specs.declared.TextCommand.{TextCommand}
use Rattle.ca_app.specs.declared.ending.Status.{Status}
use Rattle.ca_app.specs.declared.ending.Unwritten.{Unwritten}
use Rattle.ca_app.specs.clauses.Asked.{reads_source, most_read, Uses, Served, Untold, overlong, read_fault, no_memory}
use Rattle.ca_app.specs.clauses.Ended.{ended}
use Rattle.ca_app.specs.Ends.{Ends, Unreplied, SinkCause, IsReadToEnd, status_after}
use Rattle.ca_app.specs.Refusals.{refusal_reply}
use Rattle.ca_app.specs.Verified.{nowhere}
use Rattle.ca_app.proofs.Ended.{no_six, no_two, not_to_end, long_not_to_end, refused_not_done}
use Rattle.ca_app.proofs.Endings.{after_six, after_seven, ends_refused, unreplied_ends, usage_cause}
use Rattle.ca_app.proofs.OneRefusal.{refused_as_long}

-- the source was read to its end
pub uses_read : {left left' : Option (List ℕ)} {faults faults' sunk sunk' : ℕ} (asked : Option Command) → reads_source asked ≡ true → (answer : Result Status Unwritten)
    → left' ≡ at_end left → faults ≤ faults' → SinkCause (ended answer) sunk sunk' → Uses asked (ended answer) left left' faults faults' sunk sunk'
uses_read asked reading answer end later cause = record {
  later = later;
  read_fault = λ six. absurd (no_six answer six);
  write_fault = cause;
  read_to_end = λ r is. end;
  limit_read_to_end = λ text told short eight. end;
  usage_only = λ two. absurd (no_two answer two);
}

-- none was read
pub uses_nothing : {left left' : Option (List ℕ)} {faults faults' sunk sunk' status : ℕ} (asked : Option Command) → reads_source asked ≡ false
    → faults' ≡ faults → SinkCause status sunk sunk' → (status ≡ 6 → ⊥) → (status ≡ 8 → ⊥) → (status ≡ 2 → asked ≡ None) → Uses asked status left left' faults faults' sunk sunk'
uses_nothing asked nothing same cause six eight usage = record {
  later = omega (arith, same);
  read_fault = λ e. absurd (six e);
  write_fault = cause;
  read_to_end = λ r is. absurd (true≢false (sym r ∙ nothing));
  limit_read_to_end = λ text told short e. absurd (eight e);
  usage_only = usage;
}

-- and the words name no command
pub uses_usage : {T E : Type 0} {left left' : Option (List ℕ)} {faults faults' sunk sunk' : ℕ} (r : Result T E) (status : ℕ) → HasCause sunk sunk' r → status ≡ status_after r 2
    → faults' ≡ faults → Uses None status left left' faults faults' sunk sunk'
uses_usage {sunk = sunk} {sunk' = sunk'} r status cause e same =
    uses_nothing None refl same (record { later = cause.later; rose = λ seven. after_seven sunk sunk' r 2 status cause e (λ x. omega arith) seven })
    (after_six r 2 status e (λ x. omega arith)) (no_eight (usage_cause r status e)) (λ two. refl)
  where
    no_eight : (status ≡ 2) ⊎ (status ≡ 7) → status ≡ 8 → ⊥
    no_eight (inl x) eight = omega (arith, x, eight)
    no_eight (inr x) eight = omega (arith, x, eight)

-- a read that failed so
abbrev read_of : ReadError → Result (Vec ℕ Global) ReadError
read_of error = Err error

on_fault : (P : Type 0) (error : ReadError) → OnFault (read_of error) P → error ≡ Fault → P
on_fault P error fault is =
    let F : ReadError → Type 0 = λ e. OnFault (read_of e) P in
    subst F is fault

module _ {status : ℕ} {old now : Option (List ℕ)} where
  -- what is told of a source that wasn't read, by the two causes
  pub by_error : {X : Type 0} {left : Option (List ℕ)} (most : ℕ) (text : List ℕ) → left ≡ Some text → (error : ReadError) → OnLimit (read_of error) (IfSome left (λ bytes. most < length bytes))
      → Untold status old now error → (Unreplied status old now → X) → (most < length text → Ends (refusal_reply nowhere 4) status old now → X) → X
  by_error {left = left} most text told error more (overlong ends) unreplied longer =
      let over : Option (List ℕ) → Type 0 = λ l. IfSome l (λ bytes. most < length bytes) in
      longer (subst over told more) ends
  by_error most text told error more (read_fault e same) unreplied longer = unreplied (record { cause = inr e; same = same })
  by_error most text told error more (no_memory e same) unreplied longer = unreplied (record { cause = inl e; same = same })

  untold_not_to_end : (error : ReadError) → Untold status old now error → IsReadToEnd status → ⊥
  untold_not_to_end error (overlong ends) = long_not_to_end ends
  untold_not_to_end error (read_fault e same) = not_to_end 6 e refl
  untold_not_to_end error (no_memory e same) = not_to_end 5 e refl

  untold_limit : (most : ℕ) (text : List ℕ) (left : Option (List ℕ)) → left ≡ Some text → length text ≤ most → (error : ReadError) → OnLimit (read_of error) (IfSome left (λ bytes. most < length bytes))
      → Untold status old now error → status ≡ 8 → ⊥
  untold_limit most text left told short error more (overlong ends) eight =
      let over : Option (List ℕ) → Type 0 = λ l. IfSome l (λ bytes. most < length bytes) in
      let long : most < length text = subst over told more in
      omega (arith, long, short)
  untold_limit most text left told short error more (read_fault e same) eight = omega (arith, e, eight)
  untold_limit most text left told short error more (no_memory e same) eight = omega (arith, e, eight)

  pub uses_unread : {left left' : Option (List ℕ)} {faults faults' sunk sunk' : ℕ} (asked : Option Command) → reads_source asked ≡ true → (error : ReadError) → Untold status old now error
      → (status ≡ 6 → error ≡ Fault) → SinkCause status sunk sunk' → (status ≡ 2 → ⊥) → faults ≤ faults'
      → OnLimit (read_of error) (IfSome left (λ bytes. most_read asked < length bytes)) → OnFault (read_of error) (Rose faults faults') → Uses asked status left left' faults faults' sunk sunk'
  uses_unread {left = left} {faults = faults} {faults' = faults'} asked reading error untold six cause two later limit fault = record {
    later = later;
    read_fault = λ e. (reading, on_fault (Rose faults faults') error fault (six e));
    write_fault = cause;
    read_to_end = λ r is. absurd (untold_not_to_end error untold is);
    limit_read_to_end = λ text told short eight. absurd (untold_limit (most_read asked) text left told short error limit untold eight);
    usage_only = λ e. absurd (two e);
  }

  -- a command on a text that wasn't read
  pub unserved : (command : TextCommand) (text : List ℕ) → Unreplied status old now → Served command text status old now
  unserved command text u = record {
    ends = unreplied_ends u;
    told = λ what same zero. absurd (none zero u.cause);
  }
    where
      none : status ≡ 0 → (status ≡ 5) ⊎ (status ≡ 6) → ⊥
      none zero (inl e) = omega (arith, zero, e)
      none zero (inr e) = omega (arith, zero, e)

  pub overlong_served : (command : TextCommand) (text : List ℕ) → 1048576 < length text → Ends (refusal_reply nowhere 4) status old now → Served command text status old now
  overlong_served command text more ends = record {
    ends = ends_refused (refused_as_long more) ends;
    told = λ what same zero. absurd (refused_not_done nowhere 4 ends zero);
  }
