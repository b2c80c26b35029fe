-- A call that is handed on: one instruction of the machine.
use Rattle.std.proofs.Common.{◌≡◌, ◌<◌, ◌≤◌, ℕ, zero, suc, ◌+◌, List, [], ◌∷◌, length, map, Some, None, refl, ap, sym, subst, ◌∙◌, arith, Global}
use Rattle.std.specs.Prelude.{Bool, true, false, slice_get, get_or}
use Rattle.std.specs.declared.vec.Vec.{Vec}
use Rattle.ca_program.specs.declared.program.OpId.{OpId}
use Rattle.ca_program.specs.Plain.{PlainProgram}
use Rattle.ca_program.specs.Kinds.{Kind as Seen, as_pointer}
use Rattle.ca_program.specs.Instructions.{Hand, Code}
use Rattle.ca_model.specs.declared.value.Value.{Value as Datum}
use Rattle.ca_model.specs.declared.value.Value.TheVariants.{Ref}
use Rattle.ca_model.specs.declared.value.Object.{Object}
use Rattle.ca_meaning.specs.Expressions.{Invocation, invocation, pointed}
use Rattle.ca_meaning.specs.Serial.{World, in_heap}
use Rattle.ca_code.specs.declared.ins.Kind.{Kind}
use Rattle.ca_code.specs.Codes.{kinds_seen}
use Rattle.ca_code.specs.Seen.{kind_seen}
use Rattle.ca_code_laws.specs.Machine.{Accesses, State, Outcome, Spent, Next, moved, slot, after, behind, plainly, enters, handed_call, invoking, kinds_there, row, call_of, act, line_in, runs, Comes, Ends}
use Rattle.ca_code_laws.specs.Runs.{Into, run_into, with_call, handed_by}
use Rattle.ca_steps.specs.declared.frames.Frames.{Frames}
use Rattle.ca_steps.specs.Stands.{seen, state_of}
use Rattle.ca_steps.specs.Ways.{HandsAt}
use Rattle.ca_parallel.specs.Lists.{either}
use Rattle.ca_serial.specs.clauses.Handing.{with_note, given, Given, Leads, due_at}

-- one instruction
pub one_comes : {S : Type 0} (acc : Accesses S) (c : Code) (s t : State S) → ((next : Next S) → act acc c (line_in (slice_get c.lines s.at)) (slice_get c.items s.at) next s ≡ next t) → Comes acc c s t
one_comes acc c s t a = record {
  count = 1;
  by = λ k. let e : 1 + k ≡ suc k = omega arith in ap (λ n. runs acc c n s) e ∙ a (runs acc c k);
}

pub one_ends : {S : Type 0} (acc : Accesses S) (c : Code) (s : State S) (o : Outcome S) → ((next : Next S) → act acc c (line_in (slice_get c.lines s.at)) (slice_get c.items s.at) next s ≡ o) → Ends acc c s o
one_ends acc c s o a = record {
  count = 0;
  by = λ k. let e : 0 + suc k ≡ suc k = omega arith in ap (λ n. runs acc c n s) e ∙ a (runs acc c k);
}

module _ (p : PlainProgram) (c : Code) (s : State World) (op : OpId) (first r : ℕ) (stands : slice_get c.items s.at ≡ Some (Hand op first)) (names : slot s as_pointer first ≡ Ref r) (into : Into) where
  -- what comes of it, where it is gone into or its run decides
  abbrev chosen : Bool → Next World → Outcome World
  chosen b next =
      handed_call (slice_get c.ops op.0) s next r first s.left (either b (plainly (with_call s.world (call_of c s op first r) s.left)) (given p s.world (call_of c s op first r ∷ []) s.left []))

  hand_acts : (b : Bool) → into (length s.world.notes) ≡ b → (next : Next World) → act (run_into into p) c (line_in (slice_get c.lines s.at)) (slice_get c.items s.at) next s ≡ chosen b next
  hand_acts b is next =
      let line = line_in (slice_get c.lines s.at) in
      ap (λ i. act (run_into into p) c line i next s) stands
      ∙ (ap (λ v. after (pointed line v s.left) s.world (λ r k. handed_call (slice_get c.ops op.0) s next r first k (handed_by into p s.world (call_of c s op first r) k))) names
      ∙ ap (λ b. chosen b next) is)

  -- it is gone into: its body is entered
  pub hand_inside : into (length s.world.notes) ≡ true → (t : State World) → ((next : Next World) → invoking (slice_get c.ops op.0) s next r first s.left (enters (with_call s.world (call_of c s op first r) s.left)) ≡ next t) → Comes (run_into into p) c s t
  hand_inside within t goes = one_comes (run_into into p) c s t (λ next. hand_acts true within next ∙ goes next)

  module _ (out : into (length s.world.notes) ≡ false) where
    -- it is done: the machine stands behind it
    pub hand_passes : (x : World) (left : ℕ) → given p s.world (call_of c s op first r ∷ []) s.left [] ≡ behind [] x left → Comes (run_into into p) c s (moved s (s.at + 1) left s.slots x)
    hand_passes x left e =
        one_comes (run_into into p) c s (moved s (s.at + 1) left s.slots x) (λ next. hand_acts false out next ∙ ap (handed_call (slice_get c.ops op.0) s next r first s.left) e)

    -- it is to run here: its body is entered
    pub hand_enters : (x : World) (t : State World) → given p s.world (call_of c s op first r ∷ []) s.left [] ≡ plainly x → ((next : Next World) → invoking (slice_get c.ops op.0) s next r first s.left (enters x) ≡ next t) → Comes (run_into into p) c s t
    hand_enters x t e goes = one_comes (run_into into p) c s t (λ next. hand_acts false out next ∙ (ap (handed_call (slice_get c.ops op.0) s next r first s.left) e ∙ goes next))

    -- or its step is one too many
    pub hand_spends : (x : World) → given p s.world (call_of c s op first r ∷ []) s.left [] ≡ plainly x → ((next : Next World) → invoking (slice_get c.ops op.0) s next r first s.left (enters x) ≡ Spent x) → Ends (run_into into p) c s (Spent x)
    hand_spends x e spends = one_ends (run_into into p) c s (Spent x) (λ next. hand_acts false out next ∙ (ap (handed_call (slice_get c.ops op.0) s next r first s.left) e ∙ spends next))

-- the same of frames in memory, with a world of this heap
module _ (p : PlainProgram) (c : Code) (m : Frames) (op : OpId) (first r : ℕ) (h : HandsAt c m op first r) (heap : List Object) (w : World) (into : Into) where
  abbrev pub here : State World
  here = state_of m (in_heap w heap)

  abbrev pub due : List Invocation
  due = due_at c m op first r ∷ []

  -- the world with its note
  abbrev pub handed : World
  handed = with_note (in_heap w heap) due m.left

  pub call_passes : into (length w.notes) ≡ false → (after : List Object) (rest : ℕ) (new : Frames) → Given p (in_heap w heap) due m.left after (Some rest) → new ≡ record m { at = m.at + 1; left = rest } → Comes (run_into into p) c here (state_of new (in_heap handed after))
  call_passes out after rest new g is =
      subst (λ (f : Frames). Comes (run_into into p) c here (state_of f (in_heap handed after))) (sym is)
      (hand_passes p c here op first r h.stands h.names into out (in_heap handed after) rest (g []))

  pub call_enters : into (length w.notes) ≡ false → (after : List Object) (new : Frames) → Given p (in_heap w heap) due m.left after None → ((next : Next World) → invoking (slice_get c.ops op.0) here next r first m.left (enters handed) ≡ next (state_of new handed)) → Comes (run_into into p) c here (state_of new (in_heap handed after))
  call_enters out after new g goes =
      subst (λ (h : List Object). Comes (run_into into p) c here (state_of new (in_heap handed h))) (sym g.0)
      (hand_enters p c here op first r h.stands h.names into out handed (state_of new handed) (g.1 []) goes)

  pub call_spends : into (length w.notes) ≡ false → (after : List Object) → Given p (in_heap w heap) due m.left after None → ((next : Next World) → invoking (slice_get c.ops op.0) here next r first m.left (enters handed) ≡ Spent handed) → Ends (run_into into p) c here (Spent (in_heap handed after))
  call_spends out after g spends =
      subst (λ (h : List Object). Ends (run_into into p) c here (Spent (in_heap handed h))) (sym g.0)
      (hand_spends p c here op first r h.stands h.names into out handed (g.1 []) spends)

  -- it is gone into
  pub call_inside : into (length w.notes) ≡ true → (now : Frames) → ((next : Next World) → invoking (slice_get c.ops op.0) here next r first m.left (enters handed) ≡ next (state_of now handed)) → Comes (run_into into p) c here (state_of now handed)
  call_inside within now goes = hand_inside p c here op first r h.stands h.names into within (state_of now handed) goes

-- where it leads, of the same program and with a known end
pub leads_so : (into : Into) (p q : PlainProgram) (c : Code) (s : State World) (goes b : Bool) (m : Frames) (x : World) → q ≡ p → goes ≡ b → Leads (run_into into q) c s goes m x → Leads (run_into into p) c s b m x
leads_so into p q c s goes b m x same is leads = subst (λ (r : PlainProgram). Leads (run_into into r) c s b m x) same (subst (λ (b : Bool). Leads (run_into into q) c s b m x) is leads)

-- ---- its arguments

-- the kinds of the parameters of an operation, in a code in memory
pub params_there : (xs : List (Vec Kind Global)) (i : ℕ) (x : Vec Kind Global) → i < length xs → x ≡ get_or xs i x → map kind_seen x.items ≡ kinds_there (slice_get (map kinds_seen xs) i)
params_there [] i x lt e = absurd (omega (arith, lt))
params_there (y ∷ xs) zero x lt e = ap (λ (v : Vec Kind Global). map kind_seen v.items) e
params_there (y ∷ xs) (suc i) x lt e = params_there xs i x (omega (arith, lt)) e

pub params_past : (xs : List (Vec Kind Global)) (i : ℕ) → length xs ≤ i → [] ≡ kinds_there (slice_get (map kinds_seen xs) i)
params_past [] i le = refl
params_past (y ∷ xs) zero le = absurd (omega (arith, le))
params_past (y ∷ xs) (suc i) le = params_past xs i (omega (arith, le))

-- the call of these values
pub call_is : (c : Code) (m : Frames) (op : OpId) (first r : ℕ) (κs : List Seen) (vs : List Datum) → κs ≡ kinds_there (slice_get c.params op.0) → vs ≡ row (seen m.slots.items) (m.base + (first + 1)) κs → invocation r op vs ≡ due_at c m op first r
call_is c m op first r κs vs kinds values = ap (invocation r op) (values ∙ ap (row (seen m.slots.items) (m.base + (first + 1))) kinds)
