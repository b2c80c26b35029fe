-- Whoever runs a text that fits to an end at which no memory is wanted knows its section.
use Rattle.std.proofs.Common.{◌≡◌, ℕ, zero, suc, ◌+◌, ◌<◌, List, [], ◌∷◌, length, Option, Some, ◌-◌, refl, sym, ap, ◌∙◌, subst, arith, ⊎_elim, ◌⊎◌, inl, inr}
use Rattle.std.specs.Prelude.{true, slice_get}
use Rattle.std.proofs.lemmas.Bool.{cases_lt}
use Rattle.ca_program.specs.declared.program.OpId.{OpId}
use Rattle.ca_program.specs.declared.program.ValueType.{ValueType}
use Rattle.ca_program.specs.Plain.{PlainProgram, PlainMethod, Statement}
use Rattle.ca_program.specs.Kinds.{as_pointer, param_kind, kinds_in}
use Rattle.ca_program.specs.Instructions.{Return, Leave, Placed, on, Code, HasAt, StandsAt}
use Rattle.ca_program.specs.Layout.{all_acts, no_hands, statement_code, operation_code}
use Rattle.ca_model.specs.declared.value.Value.{Value as Datum}
use Rattle.ca_model.specs.declared.value.Value.TheVariants.{Ref}
use Rattle.ca_model.specs.declared.value.Object.{Object}
use Rattle.ca_meaning.specs.Flows.{Flow, goes_on, gives_back, stops, runs_out, exec, exec_all}
use Rattle.ca_meaning.specs.Functions.{own_of, body_of, locals_of}
use Rattle.ca_meaning.specs.Sections.{Section, section, section_start, section_parts, sectioned, loop_sectioned}
use Rattle.ca_code_laws.specs.Machine.{Store, State, Accesses, Outcome, Finished, Trapped, Spent, Wanting, Unfinished, act, line_in, leaving, runs, Comes, Ends}
use Rattle.ca_code_laws.specs.Runs.{section_access, section_outcome, sectioned_as}
use Rattle.ca_code_laws.specs.Told.{Holds, IsLaidOut}
use Rattle.ca_code_laws.specs.Fitting.{FitsStatement, FitsMethod, FunctionsFit}
use Rattle.ca_code_laws.specs.Known.{IsKnown, loop_alone, StopsAs, before_loop, EndOf, KnowsLoop}
use Rattle.ca_code_laws.proofs.Steps.{has_front, has_back, joins_end, steps_end}
use Rattle.ca_code_laws.proofs.Executed.{LocalsAt}
use Rattle.ca_code_laws.proofs.OneEnd.{one_end, sectioned_is}
use Rattle.ca_code_laws.proofs.Instead.{or_wants, Does}
use Rattle.ca_code_laws.proofs.FitSections.{section_fits, section_statement_fits}

-- another end than at the end of a body
abbrev IsOther : {S : Type 0} → Outcome S → Type 0
IsOther (Trapped t w) = Unit {0}
IsOther (Spent w) = Unit {0}
IsOther Wanting = Unit {0}
IsOther _ = ⊥

-- no memory is wanted at a known end
known : {S : Type 0} (o : Outcome S) → IsKnown o → Wanting ≡ o → ⊥
known (Finished w k) h e = cc
known (Trapped t w) h e = cc
known (Spent w) h e = cc
known Wanting h e = h
known (Unfinished s) h e = h
known _ h e = h

module _ {S : Type 0} (acc : Accesses S) (code : Code) where
  -- a state at an end of a body, with none below
  leave_ends : (t : State S) → t.below ≡ [] → slice_get code.items t.at ≡ Some Leave → (d : ℕ) → runs acc code (suc d) t ≡ Finished t.world t.left
  leave_ends t below at d = ap (λ i. act acc code (line_in (slice_get code.lines t.at)) i (runs acc code d) t) at ∙ ap (λ bs. leaving bs t (runs acc code d)) below

  pub comes_to_end : (s t : State S) → t.below ≡ [] → slice_get code.items t.at ≡ Some Leave → Comes acc code s t → Ends acc code s (Finished t.world t.left)
  comes_to_end s t below at c = record { count = c.count; by = λ k. c.by (suc k) ∙ leave_ends t below at k }

  -- what is reached first is reached once
  no_later : (s t u : State S) → t.below ≡ [] → slice_get code.items t.at ≡ Some Leave → (c : Comes acc code s t) (d : Comes acc code s u) → c.count < d.count → ⊥
  no_later s t u below at c d lt = by (d.count) refl
    where
      differ : (w : S) (k : ℕ) (u : State S) → Finished w k ≡ Unfinished u → ⊥
      differ w k u e = cc

      later : (n m : ℕ) → m < n → (j : ℕ) × (m + suc j ≡ n)
      later zero m lt = absurd (omega (arith, lt))
      later (suc n) zero lt = (n, omega arith)
      later (suc n) (suc m) lt = let r = later n m (omega (arith, lt)) in (r.0, omega (arith, r.1))

      by : (n : ℕ) → d.count ≡ n → ⊥
      by n e =
          let j = later d.count c.count lt in
          let z : c.count + suc j.0 ≡ d.count + 0 = omega (arith, j.1) in
          differ t.world t.left u (sym (leave_ends t below at j.0) ∙ sym (c.by (suc j.0)) ∙ ap (λ n. runs acc code n s) z ∙ d.by 0)

  pub same_end : (s t u : State S) → t.below ≡ [] → slice_get code.items t.at ≡ Some Leave → u.below ≡ [] → slice_get code.items u.at ≡ Some Leave → Comes acc code s t → Comes acc code s u → t ≡ u
  same_end s t u tb ta ub ua c d =
      ⊎_elim (λ lt. absurd (no_later s t u tb ta c d lt))
      (λ le. ⊎_elim (λ lt. absurd (no_later s u t ub ua d c lt))
      (λ ge. let z : c.count + 0 ≡ d.count + 0 = omega (arith, le, ge) in one (sym (c.by 0) ∙ ap (λ n. runs acc code n s) z ∙ d.by 0))
      (cases_lt d.count c.count))
      (cases_lt c.count d.count)
    where
      one : Unfinished t ≡ Unfinished u → t ≡ u
      one e = cc

-- the section of an operation
pub knows_section : (p : PlainProgram) → FunctionsFit p → (code : Code) → IsLaidOut p code → (frozen : List Object) (op : OpId) (m : PlainMethod) → slice_get p.ops op.0 ≡ Some m → FitsMethod p true m → (r : ℕ) (vs : List Datum) → m.params ≡ length vs → (object : Object) (start base k : ℕ) (f : Store) → slice_get code.ops op.0 ≡ Some start → Holds (λ i. param_kind (Some m) i) f base vs → (o : Outcome Section) → IsKnown o → Ends (section_access frozen) code (record { at = start; base = base; left = k; this = Ref r; below = []; slots = f; world = section_start object.slots }) o → section p frozen r object op vs (suc k) ≡ sectioned_as object.class (suc k) o
knows_section p fit code is frozen op m found mf r vs params object start base k f place holds o known_end ends =
    let run = exec_all (section_parts p frozen (Ref r)) (locals_of (Some m) vs) (section_start object.slots) m.body.statements k in
    let code_is = at_its_place (slice_get code.ops op.0) (operation_code p m) place (is.ops op.0 m found).0 in
    let o_is = either (section_outcome run) (section_fits p code fit is.functions is.ops frozen m mf r vs object.slots start base k f code_is params holds) in
    ap (λ x. sectioned object.class (suc k) (exec_all (section_parts p frozen (Ref r)) (locals_of x vs) (section_start object.slots) (body_of x) k)) found ∙ (sym (sectioned_is object.class (suc k) run) ∙ ap (sectioned_as object.class (suc k)) o_is)
  where
    here : State Section
    here = record { at = start; base = base; left = k; this = Ref r; below = []; slots = f; world = section_start object.slots }

    at_its_place : (o : Option ℕ) (x : List Placed) → o ≡ Some start → StandsAt code o x → HasAt code start x
    at_its_place o x e h = subst (λ o. StandsAt code o x) e h

    either : (x : Outcome Section) → Ends (section_access frozen) code here Wanting ⊎ Ends (section_access frozen) code here x → x ≡ o
    either x (inl w) = absurd (known o known_end (one_end (section_access frozen) code here Wanting o w ends))
    either x (inr e) = one_end (section_access frozen) code here x o e ends

-- the section of a loop
pub knows_loop : (p : PlainProgram) → FunctionsFit p → (code : Code) → IsLaidOut p code → (frozen : List Object) (tys : List ValueType) (loop : Statement) → FitsStatement p tys true as_pointer loop → (me : Datum) (line : ℕ) (ls : List Datum) → length ls ≡ length tys → (at base k : ℕ) (f : Store) → HasAt code at (loop_alone p tys line loop) → Holds (kinds_in p tys).locals f base ls → KnowsLoop p frozen code tys me line loop ls at base k f
knows_loop p fit code is frozen tys loop fits me line ls len at base k f h holds = record { stops = stops_so; ends = ends_so }
  where
    acc : Accesses Section
    acc = section_access frozen

    body : List Placed
    body = statement_code (kinds_in p tys) (all_acts (kinds_in p tys)) no_hands line loop (length tys)

    here : State Section
    here = before_loop frozen me at base k f

    run : Flow Section
    run = exec (section_parts p frozen me) line ls (section_start (own_of frozen me)) loop k

    does : Does acc code (or_wants acc code) (λ (s : Section). s) as_pointer here (length body) (LocalsAt (kinds_in p tys) base (length tys)) run
    does = section_statement_fits p code fit is.functions is.ops frozen tys as_pointer me loop line ls (section_start (own_of frozen me)) at base k f (has_front code at body (on 0 Leave ∷ []) h) fits len holds

    -- the end of its code
    end_there : slice_get code.items (at + length body) ≡ Some Leave
    end_there = (has_back code at body (on 0 Leave ∷ []) h).0.0

    stops_so : (o : Outcome Section) → Ends acc code here o → StopsAs o (loop_sectioned k run)
    stops_so o e = by run does
      where
        as_told : (x : Outcome Section) (s : _) → x ≡ o → StopsAs x s → StopsAs o s
        as_told x s same t = subst (λ y. StopsAs y s) same t

        by : (z : Flow Section) → Does acc code (or_wants acc code) (λ (s : Section). s) as_pointer here (length body) (LocalsAt (kinds_in p tys) base (length tys)) z → StopsAs o (loop_sectioned k z)
        by z (inl w) = as_told Wanting (loop_sectioned k z) (one_end acc code here Wanting o w e) tt
        by (goes_on vs x j) (inr t) =
            as_told (Finished x j) (loop_sectioned k (goes_on vs x j)) (one_end acc code here (Finished x j) o (comes_to_end acc code here (record { at = at + length body; base = base; left = j; this = me; below = []; slots = t.0; world = x }) refl end_there t.1) e) tt
        by (gives_back v x j) (inr t) =
            as_told (Spent x) (loop_sectioned k (gives_back v x j)) (one_end acc code here (Spent x) o (joins_end acc code t.4 (steps_end acc code (record { at = t.1; base = base; left = j; this = me; below = []; slots = t.0; world = x }) (Spent x) (on t.3 (Return t.2)) t.5 (λ next. refl))) e) refl
        by (stops y x) (inr t) = as_told (Trapped y x) (loop_sectioned k (stops y x)) (one_end acc code here (Trapped y x) o t e) refl
        by (runs_out x) (inr t) = as_told (Spent x) (loop_sectioned k (runs_out x)) (one_end acc code here (Spent x) o t e) refl

    ends_so : (t : State Section) → t.below ≡ [] → slice_get code.items t.at ≡ Some Leave → Comes acc code here t → EndOf p frozen code tys me line loop ls at base k f t
    ends_so t below there c = by run refl does
      where
        end : Ends acc code here (Finished t.world t.left)
        end = comes_to_end acc code here t below there c

        not : {A : Type 0} (x : Outcome Section) → IsOther x → x ≡ Finished t.world t.left → A
        not (Trapped y x) h e = cc
        not (Spent x) h e = cc
        not Wanting h e = cc
        not (Finished x j) h e = absurd h
        not (Unfinished s) h e = absurd h
        not _ h e = absurd h

        by : (z : Flow Section) → run ≡ z → Does acc code (or_wants acc code) (λ (s : Section). s) as_pointer here (length body) (LocalsAt (kinds_in p tys) base (length tys)) z → EndOf p frozen code tys me line loop ls at base k f t
        by z e (inl w) = not Wanting tt (one_end acc code here Wanting (Finished t.world t.left) w end)
        by (goes_on vs x j) e (inr d) =
            let u : State Section = record { at = at + length body; base = base; left = j; this = me; below = []; slots = d.0; world = x } in
            let same : u ≡ t = same_end acc code here u t refl end_there below there d.1 c in
            subst (λ s. EndOf p frozen code tys me line loop ls at base k f s) same
            (record { outcome = record { locals = vs; listed = x.listed; steps = k - j }; base_is = refl; is = ap (loop_sectioned k) e; steps = refl; listed = refl; locals = d.2.0; many = d.2.1 })
        by (gives_back v x j) e (inr d) =
            not (Spent x) tt (one_end acc code here (Spent x) (Finished t.world t.left) (joins_end acc code d.4 (steps_end acc code (record { at = d.1; base = base; left = j; this = me; below = []; slots = d.0; world = x }) (Spent x) (on d.3 (Return d.2)) d.5 (λ next. refl))) end)
        by (stops y x) e (inr d) = not (Trapped y x) tt (one_end acc code here (Trapped y x) (Finished t.world t.left) d end)
        by (runs_out x) e (inr d) = not (Spent x) tt (one_end acc code here (Spent x) (Finished t.world t.left) d end)
