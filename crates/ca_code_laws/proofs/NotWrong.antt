-- A machine of a typed program never stands where an instruction wants memory, or where none stands.
use Rattle.std.proofs.Common.{◌≡◌, ℕ, suc, ◌+◌, Option, Some, None, inl, inr, refl, sym, ap, ◌∙◌, arith}
use Rattle.std.specs.Prelude.{◌⊎◌, slice_get}
use Rattle.ca_program.specs.Plain.{PlainProgram}
use Rattle.ca_program.specs.Instructions.{Instruction, Hand, Begin, Code, Constant, Receiver, Move, Own, OwnItem, Field, Item, Unary, Binary, Update, Check, CheckItem, Decide, Jump, Unless, Turn, Call, Return, Lack, Leave, PutField, PutItem, NewLocal, NewField, NewItem, Print, Invoke, Heed}
use Rattle.ca_meaning.specs.Serial.{World}
use Rattle.ca_parallel.specs.Lists.{PlainMarks}
use Rattle.ca_code_laws.specs.Known.{HandsNothing, IsKnown, Wrong}
use Rattle.ca_code_laws.specs.Machine.{Accesses, State, Outcome, Next, Wanting, Stuck, act, line_in, runs, Comes, Ends}
use Rattle.ca_code_laws.specs.Runs.{Into, run_access, run_into}

act_alike : (p : PlainProgram) (code : Code) (into : Into) (line : ℕ) (next : Next World) (u : State World) (i : Option Instruction) → HandsNothing i → act (run_access p) code line i next u ≡ act (run_into into p) code line i next u
act_alike p code into line next u None h = refl
act_alike p code into line next u (Some (Constant d n)) h = refl
act_alike p code into line next u (Some (Receiver d)) h = refl
act_alike p code into line next u (Some (Move d a)) h = refl
act_alike p code into line next u (Some (Own d κ f)) h = refl
act_alike p code into line next u (Some (OwnItem d κ f a)) h = refl
act_alike p code into line next u (Some (Field d a κ f)) h = refl
act_alike p code into line next u (Some (Item d a κ f b)) h = refl
act_alike p code into line next u (Some (Unary d op a)) h = refl
act_alike p code into line next u (Some (Binary d op x y a b)) h = refl
act_alike p code into line next u (Some (Update l op κ a)) h = refl
act_alike p code into line next u (Some (Check a)) h = refl
act_alike p code into line next u (Some (CheckItem f a)) h = refl
act_alike p code into line next u (Some (Decide d op a n)) h = refl
act_alike p code into line next u (Some (Jump n)) h = refl
act_alike p code into line next u (Some (Unless a n)) h = refl
act_alike p code into line next u (Some (Turn a n)) h = refl
act_alike p code into line next u (Some (Call m first to)) h = refl
act_alike p code into line next u (Some (Return a)) h = refl
act_alike p code into line next u (Some Lack) h = refl
act_alike p code into line next u (Some Leave) h = refl
act_alike p code into line next u (Some (PutField f op κ a)) h = refl
act_alike p code into line next u (Some (PutItem f i op κ a)) h = refl
act_alike p code into line next u (Some (NewLocal l class)) h = refl
act_alike p code into line next u (Some (NewField f class)) h = refl
act_alike p code into line next u (Some (NewItem f i class)) h = refl
act_alike p code into line next u (Some (Print κ a)) h = refl
act_alike p code into line next u (Some (Invoke op first)) h = refl
act_alike p code into line next u (Some (Heed op first)) h = refl
act_alike p code into line next u (Some (Hand op first)) h = absurd h
act_alike p code into line next u (Some (Begin n)) h = absurd h

ends_by : {S : Type 0} (acc : Accesses S) (code : Code) (u : State S) (o : Outcome S) → ((line : ℕ) (next : Next S) → act acc code line (slice_get code.items u.at) next u ≡ o) → Ends acc code u o
ends_by acc code u o h = record {
  count = 0;
  by = λ k. let one : 0 + suc k ≡ suc k = omega arith in ap (λ n. runs acc code n u) one ∙ h (line_in (slice_get code.lines u.at)) (runs acc code k);
}

-- what is wrong is so, whatever of what is handed on is gone into
pub wrong_alike : (p : PlainProgram) (code : Code) (into : Into) (u : State World) → HandsNothing (slice_get code.items u.at) → Wrong (run_access p) code u → Wrong (run_into into p) code u
wrong_alike p code into u plain (inl h) = inl (λ line next. sym (act_alike p code into line next u (slice_get code.items u.at) plain) ∙ h line next)
wrong_alike p code into u plain (inr h) = inr (λ line next. sym (act_alike p code into line next u (slice_get code.items u.at) plain) ∙ h line next)

-- where each end is known nothing is wrong
pub not_wrong : {S : Type 0} (acc : Accesses S) (code : Code) (u : State S) → ((o : Outcome S) → Ends acc code u o → IsKnown o) → Wrong acc code u → ⊥
not_wrong acc code u known (inl h) = known Wanting (ends_by acc code u Wanting h)
not_wrong acc code u known (inr h) = known Stuck (ends_by acc code u Stuck h)
