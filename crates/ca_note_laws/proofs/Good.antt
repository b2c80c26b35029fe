-- All notes of a run of a typed program with sound marks are good.
use Rattle.std.proofs.Common.{◌≡◌, ℕ, zero, suc, ◌-◌, List, [], ◌∷◌, ◌++◌, Option, Some, None, refl, sym, subst, ap, ◌∙◌, true, false, Bool, map, ⊎_elim}
use Rattle.std.specs.Prelude.{slice_get, nat_eq, ◌||◌, Contains, flat_map}
use Rattle.std.proofs.lemmas.Bool.{eqb-true}
use Rattle.std.proofs.lemmas.List.Elements.{Contains-push_cases, Contains-append_left, Contains-append_right, Contains-append_cases}
use Rattle.ca_lists.proofs.Members.{has_first, has_further, has_nothing, has_only}
use Rattle.ca_program.specs.declared.program.ClassId.{ClassId}
use Rattle.ca_program.specs.declared.program.FirstPart.{FirstPart}
use Rattle.ca_program.specs.declared.program.LoopId.{LoopId}
use Rattle.ca_program.specs.declared.program.OpId.{OpId}
use Rattle.ca_program.specs.declared.program.ValueType.{ValueType}
use Rattle.ca_program.specs.declared.program.ValueType.TheVariants.{Bool as BoolType, Pointer}
use Rattle.ca_program.specs.Plain.{PlainProgram, PlainMethod, Expression, Expressions, Statement, Statements, block, put_local, put_field, put_item, new_local, new_field, new_item, invoke, if_else, while_loop, for_loop, return_value, print_value, no_statements, statement_and}
use Rattle.ca_model.specs.declared.value.Value.{Value as Datum}
use Rattle.ca_model.specs.declared.value.Value.TheVariants.{Null, Ref}
use Rattle.ca_model.specs.declared.value.Object.{Object}
use Rattle.ca_model.specs.Typed.{HasType, TypedHeap}
use Rattle.ca_meaning.specs.Expressions.{Invocation, due, value_at}
use Rattle.ca_meaning.specs.Flows.{Flow, goes_on, gives_back, stops, runs_out, Parts, line_of, turn_of, exec, exec_all, turn}
use Rattle.ca_meaning.specs.Functions.{own_of, place, body_of, locals_of, functions_of}
use Rattle.ca_meaning.specs.Serial.{Note, World, Operations, came_back, run_call, operation_act, operation_parts, operations, operations_of}
use Rattle.ca_meaning.specs.Sections.{Section, section_start, LoopSectioned, loop_done, loop_stopped, loop_over, loop_sectioned, loop_run, loop_section}
use Rattle.ca_meaning.specs.WellTyped.{ValuesTyped, CallTyped, WellTyped, AllWellTyped}
use Rattle.ca_meaning.specs.ProgramTyped.{Scope, IsOperation, ExpressionTyped, ExpressionsTyped, StatementTyped, StatementsTyped, scope_of, MethodTyped, OperationTyped, main_scope, ProgramTyped}
use Rattle.ca_meaning_laws.specs.Typed.{Yields, Extends, IsReceiver, FlowTyped, goes_on_typed, gives_back_typed, stops_typed, runs_out_typed, KeepsHeap, goes_on_kept, gives_back_kept, stops_kept, runs_out_kept, WorldTyped, SectionTyped, heap_of}
use Rattle.ca_meaning_laws.proofs.Values.{assigned_typed, local_typed, local_set, starts_typed, frame_typed}
use Rattle.ca_meaning_laws.proofs.Heaps.{extends_self, own_typed}
use Rattle.ca_meaning_laws.proofs.Evals.{due_typed}
use Rattle.ca_meaning_laws.proofs.Statements.{typed_with, typed_step, typed_on, typed_choose, PartsTyped, exec_typed}
use Rattle.ca_meaning_laws.proofs.FunctionTypes.{serial_place, calls_typed}
use Rattle.ca_meaning_laws.proofs.SectionTypes.{SectionFlow, section_loop_typed}
use Rattle.ca_meaning_laws.proofs.SerialTypes.{WorldFlow, OperationsTyped, came_typed, run_typed, parts_typed, operations_typed, all_operations_typed}
use Rattle.ca_parallel.specs.Bodies.{fors_in, fors_in_all}
use Rattle.ca_parallel.specs.Lists.{PlainMarks, op_in, has_site, loop_in, note, noted, either, noted_call, loop_noted, noted_loop, noted_parts, noted_operations, noted_of, noted_run, world_after}
use Rattle.ca_parallel.specs.Marks.{loops_of_method, loops_of_program, SoundLoop, SoundMarks}
use Rattle.ca_parallel.specs.Notes.{op_of, NoteGood}
use Rattle.ca_parallel.proofs.Moved.{Notes, moved, act_moved, MovedOps, call_moved, exec_serial_moved, ops_moved, all_ops_moved}
use Rattle.ca_parallel.proofs.Noted.{as_is, run_forgets}
use Rattle.ca_order_laws.proofs.Kept.{IsKept, Within, within_left, within_right}
use Rattle.ca_order_laws.proofs.Grown.{GrownFlow, grew, section_grown}
use Rattle.ca_order_laws.proofs.Loops.{loop_kept}
use Rattle.ca_note_laws.specs.Handed.{ListsAreGood, NotesAside, without_notes}

-- ---- lists

abbrev op_at : ℕ → OpId
op_at n = record { 0 = n }

abbrev loop_at : ℕ → LoopId
loop_at n = record { 0 = n }

same_op : (x op : OpId) → nat_eq x.0 op.0 ≡ true → x ≡ op
same_op x op e = ap op_at (eqb-true x.0 op.0 e)

op_there : (xs : List OpId) (op : OpId) → op_in xs op ≡ true → Contains xs op
op_there [] op e = absurd (cc)
op_there (x ∷ xs) op e = from (nat_eq x.0 op.0) refl e (λ d. op_there xs op d)
  where
    from : (b : Bool) → nat_eq x.0 op.0 ≡ b → b || op_in xs op ≡ true → (op_in xs op ≡ true → Contains xs op) → Contains (x ∷ xs) op
    from true d e more = subst (λ z. Contains (z ∷ xs) op) (sym (same_op x op d)) (has_first op xs)
    from false d e more = has_further x op xs (more e)

pub loop_there : (ids : List LoopId) (x : Statement) → loop_in ids x ≡ true → (id : LoopId) × Contains ids id × (has_site x id ≡ true)
loop_there [] x e = absurd (cc)
loop_there (id ∷ ids) x e = from (has_site x id) refl e (λ d. loop_there ids x d)
  where
    from : (b : Bool) → has_site x id ≡ b → b || loop_in ids x ≡ true → (loop_in ids x ≡ true → (i : LoopId) × Contains ids i × (has_site x i ≡ true)) → (i : LoopId) × Contains (id ∷ ids) i × (has_site x i ≡ true)
    from true d e more = (id, has_first id ids, d)
    from false d e more = let r = more e in (r.0, has_further id r.0 ids r.1, r.2)

pub same_site : (site id : LoopId) → nat_eq site.0 id.0 ≡ true → site ≡ id
same_site site id e = ap loop_at (eqb-true site.0 id.0 e)

pub loops_inside : (p : PlainProgram) (m : PlainMethod) (n : ℕ) → slice_get p.ops n ≡ Some m → Within (loops_of_program p) (fors_in_all m.body.statements)
loops_inside p m n e x c = Contains-append_left (flat_map loops_of_method p.ops) (fors_in_all p.main.statements) x (from p.ops n e)
  where
    from : (xs : List PlainMethod) (n : ℕ) → slice_get xs n ≡ Some m → Contains (flat_map loops_of_method xs) x
    from [] n e = absurd (cc)
    from (y ∷ ys) zero e = let same : y ≡ m = cc in Contains-append_left (loops_of_method y) (flat_map loops_of_method ys) x (subst (λ (z : PlainMethod). Contains (loops_of_method z) x) (sym same) c)
    from (y ∷ ys) (suc n) e = Contains-append_right (loops_of_method y) (flat_map loops_of_method ys) x (from ys n e)

pub main_inside : (p : PlainProgram) → Within (loops_of_program p) (fors_in_all p.main.statements)
main_inside p x c = Contains-append_right (flat_map loops_of_method p.ops) (fors_in_all p.main.statements) x c

-- ---- notes that a run keeps

abbrev all_notes : List Note → Notes
all_notes ns = λ z. ns

moved_notes : (ns : List Note) (a : Flow World) → (world_after (moved as_is (all_notes ns) a)).notes ≡ ns
moved_notes ns (goes_on ls w k) = refl
moved_notes ns (gives_back v w k) = refl
moved_notes ns (stops t w) = refl
moved_notes ns (runs_out w) = refl

kept_notes : (ns : List Note) (a : Flow World) → moved as_is (all_notes ns) a ≡ a → (world_after a).notes ≡ ns
kept_notes ns a e = ap (λ b. (world_after b).notes) (sym e) ∙ moved_notes ns a

came_notes : (ls : List Datum) (a : Flow World) → (world_after (came_back ls a)).notes ≡ (world_after a).notes
came_notes ls (goes_on ms w k) = refl
came_notes ls (gives_back v w k) = refl
came_notes ls (stops t w) = refl
came_notes ls (runs_out w) = refl

aside : (a : Flow World) → without_notes a ≡ moved as_is (all_notes []) a
aside (goes_on ls w k) = refl
aside (gives_back v w k) = refl
aside (stops t w) = refl
aside (runs_out w) = refl

pub notes_aside : NotesAside
notes_aside p ms budget = aside (noted_run p ms budget) ∙ run_forgets p ms budget

module _ (p : PlainProgram) where
  abbrev pub NotesGood : List Note → Type 0
  NotesGood ns = (n : Note) → Contains ns n → NoteGood p n

  one_more : (ns : List Note) (n : Note) → NotesGood ns → NoteGood p n → NotesGood (ns ++ n ∷ [])
  one_more ns n all good m c = ⊎_elim (λ a. all m a) (λ e. subst (NoteGood p) e good) (Contains-push_cases ns n m c)

  -- the world is typed, and its notes are good
  pub record Good (s : Scope) (r : Datum) (w : World) : Type 0 where
    pub world : WorldTyped p s r w
    pub notes : NotesGood w.notes

  abbrev pub GoodFlow : Scope → Datum → List Object → Flow World → Type 0
  GoodFlow s r h a = FlowTyped heap_of (Good s r) s h a

  with_notes : (s : Scope) (r : Datum) (h : List Object) (ns : List Note) → NotesGood ns → (a : Flow World) → WorldFlow p s r h a → (world_after a).notes ≡ ns → GoodFlow s r h a
  with_notes s r h ns all (goes_on ls w k) (goes_on_typed _ _ _ good ext t) e = goes_on_typed ls w k (record { world = good; notes = subst NotesGood (sym e) all }) ext t
  with_notes s r h ns all (gives_back v w k) (gives_back_typed _ _ _ ty good ext is t) e = gives_back_typed v w k ty (record { world = good; notes = subst NotesGood (sym e) all }) ext is t
  with_notes s r h ns all (stops t w) (stops_typed _ _ good ext) e = stops_typed t w (record { world = good; notes = subst NotesGood (sym e) all }) ext
  with_notes s r h ns all (runs_out w) (runs_out_typed _ good ext) e = runs_out_typed w (record { world = good; notes = subst NotesGood (sym e) all }) ext

  -- a run keeps the heap typed, and its notes are good
  pub record Kept (h : List Object) (a : Flow World) : Type 0 where
    pub heap : KeepsHeap p h a
    pub notes : NotesGood (world_after a).notes

  world_moved : (s : Scope) (r : Datum) (w v : World) → WorldTyped p s r w → w.heap ≡ v.heap → WorldTyped p s r v
  world_moved s r w v good same = record { heap = subst (TypedHeap p) same good.heap; receiver = subst (λ g. IsReceiver g s.class r) same good.receiver }

  kept_of : (s : Scope) (r : Datum) (h : List Object) (a : Flow World) → GoodFlow s r h a → Kept h a
  kept_of s r h (goes_on ls w k) (goes_on_typed _ _ _ good ext t) = record { heap = goes_on_kept ls w k good.world.heap ext; notes = good.notes }
  kept_of s r h (gives_back v w k) (gives_back_typed _ _ _ ty good ext is t) = record { heap = gives_back_kept v w k good.world.heap ext; notes = good.notes }
  kept_of s r h (stops t w) (stops_typed _ _ good ext) = record { heap = stops_kept t w good.world.heap ext; notes = good.notes }
  kept_of s r h (runs_out w) (runs_out_typed _ good ext) = record { heap = runs_out_kept w good.world.heap ext; notes = good.notes }

  -- ---- the section of a marked loop

  section_typed : (h : List Object) (s : Scope) (k : ℕ) (a : Flow Section) → SectionFlow p h s a → (m : _) → loop_sectioned k a ≡ loop_done m → AllWellTyped p h m.listed
  section_typed h s k (goes_on ls x j) (goes_on_typed _ _ _ good ext t) m e = subst (AllWellTyped p h) (let same : x.listed ≡ m.listed = cc in same) good.listed
  section_typed h s k (gives_back v x j) f m e = absurd (cc)
  section_typed h s k (stops t x) f m e = absurd (cc)
  section_typed h s k (runs_out x) f m e = absurd (cc)

  section_inside : (written : _) (ops : List OpId) (class : Option ClassId) (b c : Bool) (x : Section) (k : ℕ) (a : Flow Section) → x.listed ≡ [] → GrownFlow written ops class b c x a → (m : _) → loop_sectioned k a ≡ loop_done m → (i : Invocation) → Contains m.listed i → Contains ops i.op
  section_inside written ops class b c x k (goes_on ls y j) none (grew _ _ _ g) m e i at =
      let same : y.listed ≡ m.listed = cc in
      g.inside i (subst (λ l. Contains l i) (sym same ∙ g.listed ∙ ap (λ l. l ++ g.more) none) at)
  section_inside written ops class b c x k (gives_back v y j) none g m e i at = absurd (cc)
  section_inside written ops class b c x k (stops t y) none g m e i at = absurd (cc)
  section_inside written ops class b c x k (runs_out y) none g m e i at = absurd (cc)

  ops_inside : (ops : List OpId) (is : List Invocation) → ((i : Invocation) → Contains is i → Contains ops i.op) → (op : OpId) → Contains (map op_of is) op → Contains ops op
  ops_inside ops [] inside op at = absurd (has_nothing op at)
  ops_inside ops (i ∷ is) inside op at =
      ⊎_elim (λ a. subst (Contains ops) (has_only i.op op a) (inside i (has_first i is))) (λ a. ops_inside ops is (λ j c. inside j (has_further i j is c)) op a) (Contains-append_cases (i.op ∷ []) (map op_of is) op at)

  module _ (program : ProgramTyped p) (ms : PlainMarks) (sound : SoundMarks p ms) where
    loop_note : (s : Scope) (r : Datum) (line : ℕ) (ls : List Datum) (w : World) (y : Statement) (k : ℕ) → WorldTyped p s r w → ValuesTyped w.heap ls s.locals → StatementTyped p s y → SoundLoop p y → NotesGood w.notes → (o : LoopSectioned) → loop_section p w.heap r ls line y k ≡ o → NotesGood (loop_noted w k o).notes
    loop_note s r line ls w y k good t ty loop all (loop_done m) e =
        let start : Section = section_start (own_of w.heap r) in
        let typed : SectionTyped p w.heap s start = record { own = own_typed p w.heap s.class r good.heap good.receiver; listed = tt } in
        let kept : IsKept loop.calls.extent.written loop.calls.extent.ops y = (loop_kept loop.calls.extent.written loop.calls.extent.ops p s y loop.form ty loop.calls.holds).0 in
        one_more w.notes (note w.heap m.listed (k - m.steps)) all record {
          heap = good.heap;
          typed = section_typed w.heap s k (loop_run p w.heap r ls line y k) (section_loop_typed p program w.heap good.heap s r good.receiver y ty line ls start k typed t) m e;
          parallel = record {
            roots = loop.calls.roots;
            extent = loop.calls.extent;
            is = loop.calls.is;
            holds = ops_inside loop.calls.extent.ops m.listed (section_inside loop.calls.extent.written loop.calls.extent.ops s.class true _ start k (loop_run p w.heap r ls line y k) refl
                (section_grown p loop.calls.extent.written loop.calls.extent.ops w.heap r s y true ty loop.constant kept line ls start k) m e);
            parallel = loop.calls.parallel;
          };
        }
    loop_note s r line ls w y k good t ty loop all (loop_stopped u) e = all
    loop_note s r line ls w y k good t ty loop all loop_over e = all

    -- a note changes nothing of the heap
    noted_heap : (w : World) (k : ℕ) (o : LoopSectioned) → (loop_noted w k o).heap ≡ w.heap
    noted_heap w k (loop_done m) = refl
    noted_heap w k (loop_stopped t) = refl
    noted_heap w k loop_over = refl

    abbrev pub loops : List Statement
    loops = loops_of_program p

    -- ---- calls and loops, where those of an operation's body are good

    pub record NotedOps (o : Operations) : Type 0 where
      pub invokes : (i : Invocation) (w : World) (k : ℕ) → TypedHeap p w.heap → WellTyped p w.heap i → NotesGood w.notes → Kept w.heap (o.invoke i w k)
      pub agains : (s : Scope) (r : Datum) (h : List Object) (line : ℕ) (ls : List Datum) (w : World) (y : Statement) (k : ℕ) → Good s r w → Extends h w.heap → ValuesTyped w.heap ls s.locals → StatementTyped p s y → Within loops (fors_in y) → GoodFlow s r h (o.again r line ls w y k)

    -- what the serial run of calls and loops is
    pub record PlainOps (q : Operations) : Type 0 where
      pub typed : OperationsTyped p q
      pub moves : (ns : List Note) → MovedOps as_is (all_notes ns) q q

    module _ (q o : Operations) (plain : PlainOps q) (all : NotedOps o) (s : Scope) (r : Datum) (h : List Object) where
      call_alone : (ls : List Datum) (i : Invocation) (w : World) (k : ℕ) → Good s r w → Extends h w.heap → ValuesTyped w.heap ls s.locals → WellTyped p w.heap i → GoodFlow s r h (run_call o ls i w k)
      call_alone ls i w k good ext t well =
          typed_step heap_of (Good s r) s h w k _ good ext (λ j.
          let kept : Kept w.heap (o.invoke i w j) = all.invokes i w j good.world.heap well good.notes in
          with_notes s r h (world_after (o.invoke i w j)).notes kept.notes (came_back ls (o.invoke i w j)) (came_typed p s r h w ls good.world ext t (o.invoke i w j) kept.heap) (came_notes ls (o.invoke i w j)))

      call_good : (ls : List Datum) (i : Invocation) (w : World) (k : ℕ) → Good s r w → Extends h w.heap → ValuesTyped w.heap ls s.locals → WellTyped p w.heap i → GoodFlow s r h (noted_call ms q o ls i w k)
      call_good ls i w k good ext t well = from (op_in ms.ops i.op) refl
        where
          from : (b : Bool) → op_in ms.ops i.op ≡ b → GoodFlow s r h (either b (run_call q ls i (noted w (note w.heap (i ∷ []) k)) k) (run_call o ls i w k))
          from true e =
              let n : Note = note w.heap (i ∷ []) k in
              let v : World = noted w n in
              let is_good : NoteGood p n = record { heap = good.world.heap; typed = (well, tt); parallel = sound.operations i.op (op_there ms.ops i.op e) } in
              with_notes s r h v.notes (one_more w.notes n good.notes is_good) (run_call q ls i v k)
              (run_typed p q plain.typed s r h ls i v k (record { heap = good.world.heap; receiver = good.world.receiver }) ext t well)
              (kept_notes v.notes (run_call q ls i v k) (call_moved as_is (all_notes v.notes) q q (plain.moves v.notes) ls i v k))
          from false e = call_alone ls i w k good ext t well

      act_good : (line : ℕ) (ls : List Datum) (w : World) (y : Statement) (k : ℕ) → Good s r w → Extends h w.heap → ValuesTyped w.heap ls s.locals → StatementTyped p s y → GoodFlow s r h (operation_act p r line ls w y k)
      act_good line ls w y k good ext t ty =
          let parts : PartsTyped heap_of (WorldTyped p s r) p s (operation_parts p q r) = parts_typed p program q plain.typed s r in
          with_notes s r h w.notes good.notes (operation_act p r line ls w y k) (parts.acts h line ls w y k good.world ext t ty)
          (kept_notes w.notes (operation_act p r line ls w y k) (act_moved as_is (all_notes w.notes) (λ ps v. refl) p r line ls w y k))

      begin_good : (line : ℕ) (ls : List Datum) (w : World) (l : ℕ) (site : LoopId) (part : FirstPart) (first : Statement) (c : Expression) (next b : Statement) (k : ℕ) (a : Flow World) → Good s r w → Extends h w.heap → ValuesTyped w.heap ls s.locals → StatementTyped p s (for_loop l site part first c next b) → Within loops (fors_in (for_loop l site part first c next b)) → GoodFlow s r h a → GoodFlow s r h (noted_loop p ms q r line ls w (for_loop l site part first c next b) k a)
      begin_good line ls w l site part first c next b k a good ext t ty here flow = from (loop_in ms.loops y) refl
        where
          y : Statement
          y = for_loop l site part first c next b

          found : loop_in ms.loops y ≡ true → SoundLoop p y
          found e =
              let m = loop_there ms.loops y e in
              let same : site ≡ m.0 = same_site site m.0 m.2 in
              sound.sites m.0 m.1 y (here y (has_first y (fors_in first ++ (fors_in next ++ fors_in b)))) same

          from : (z : Bool) → loop_in ms.loops y ≡ z → GoodFlow s r h (either z (exec (operation_parts p q r) line ls (loop_noted w k (loop_section p w.heap r ls line y k)) y k) a)
          from true e =
              let o : LoopSectioned = loop_section p w.heap r ls line y k in
              let v : World = loop_noted w k o in
              let same : w.heap ≡ v.heap = sym (noted_heap w k o) in
              let world : WorldTyped p s r v = world_moved s r w v good.world same in
              with_notes s r h v.notes (loop_note s r line ls w y k good.world t ty (found e) good.notes o refl) (exec (operation_parts p q r) line ls v y k)
              (exec_typed heap_of (WorldTyped p s r) p s (operation_parts p q r) (parts_typed p program q plain.typed s r) h y ty line ls v k world (subst (Extends h) same ext) (subst (λ g. ValuesTyped g ls s.locals) same t))
              (kept_notes v.notes (exec (operation_parts p q r) line ls v y k) (exec_serial_moved as_is (all_notes v.notes) (λ ps v. refl) p q (plain.moves v.notes) r y line ls v k))
          from false e = flow

      abbrev parts : Parts World
      parts = noted_parts p ms q o r

      call_due : (line : ℕ) (ls : List Datum) (w : World) (e : Expression) (op : OpId) (es : Expressions) (k : ℕ) (c : ClassId) (tys : List ValueType) → Good s r w → Extends h w.heap → ValuesTyped w.heap ls s.locals → IsOperation (slice_get p.ops op.0) c tys → ExpressionTyped p s e (Pointer c) → ExpressionsTyped p s es tys → GoodFlow s r h (parts.call line ls w e op es k)
      call_due line ls w e op es k c tys good ext t is te tes =
          typed_with heap_of (Good s r) s (λ i. WellTyped p w.heap i) h (due (functions_of p.functions w.heap).call (place w.heap r line ls) e op es k) w _ good ext
          (due_typed p s (place w.heap r line ls) (functions_of p.functions w.heap).call (calls_typed p program w.heap good.world.heap) (serial_place p w.heap s r line ls good.world.heap good.world.receiver t) e op es c tys is te tes k)
          (λ i j well. call_good ls i w j good ext t well)

      pub value_typed : (line : ℕ) (ls : List Datum) (w : World) (e : Expression) (ty : ValueType) (k : ℕ) → Good s r w → ValuesTyped w.heap ls s.locals → ExpressionTyped p s e ty → Yields (λ v. HasType w.heap v ty) (parts.value line ls w e k)
      value_typed line ls w e ty k good t te = let all : PartsTyped heap_of (WorldTyped p s r) p s (operation_parts p q r) = parts_typed p program q plain.typed s r in all.values line ls w e ty k good.world t te

      turn_of_good : (c : Expression) (f : List Datum → World → ℕ → Flow World) (loop : Statement) (line : ℕ) (ls : List Datum) (w : World) (k : ℕ) → Good s r w → Extends h w.heap → ValuesTyped w.heap ls s.locals → ExpressionTyped p s c BoolType → StatementTyped p s loop → Within loops (fors_in loop) → ((ls : List Datum) (w : World) (k : ℕ) → Good s r w → Extends h w.heap → ValuesTyped w.heap ls s.locals → GoodFlow s r h (f ls w k)) → GoodFlow s r h (turn_of parts c f loop line ls w k)
      turn_of_good c f loop line ls w k good ext t tc tl here body =
          typed_with heap_of (Good s r) s (λ v. HasType w.heap v BoolType) h (parts.value line ls w c k) w _ good ext (value_typed line ls w c BoolType k good t tc)
          (λ v k1 hv. typed_choose heap_of (Good s r) s h v _ _
          (typed_step heap_of (Good s r) s h w k1 _ good ext (λ j. typed_on heap_of (Good s r) s h (f ls w j) _ (body ls w j good ext t) (λ ls2 w2 k2 good2 ext2 t2. all.agains s r h line ls2 w2 loop k2 good2 ext2 t2 tl here)))
          (goes_on_typed ls w k1 good ext t))

      mutual
        pub exec_good : (y : Statement) → StatementTyped p s y → Within loops (fors_in y) → (line : ℕ) (ls : List Datum) (w : World) (k : ℕ) → Good s r w → Extends h w.heap → ValuesTyped w.heap ls s.locals → GoodFlow s r h (exec parts line ls w y k)
        exec_good (block l ss) ty here line ls w k good ext t = all_exec_good ss ty here ls w k good ext t
        exec_good (put_local l i op e) ty here line ls w k good ext t =
            typed_with heap_of (Good s r) s (λ v. HasType w.heap v ty.0) h (parts.value line ls w e k) w _ good ext (value_typed line ls w e ty.0 k good t ty.2.1)
            (λ v k1 hv. goes_on_typed _ w k1 good ext (local_set w.heap ls s.locals i.0 _ ty.0 t ty.1 (assigned_typed w.heap op (value_at ls i.0) v ty.0 ty.2.0 (local_typed w.heap ls s.locals i.0 ty.0 t ty.1) hv)))
        exec_good (if_else l c a b) ty here line ls w k good ext t =
            typed_with heap_of (Good s r) s (λ v. HasType w.heap v BoolType) h (parts.value line ls w c k) w _ good ext (value_typed line ls w c BoolType k good t ty.0)
            (λ v k1 hv. typed_choose heap_of (Good s r) s h v _ _
            (exec_good a ty.1 (within_left loops (fors_in a) (fors_in b) here) (line_of a) ls w k1 good ext t)
            (exec_good b ty.2 (within_right loops (fors_in a) (fors_in b) here) (line_of b) ls w k1 good ext t))
        exec_good (while_loop l c b) ty here line ls w k good ext t =
            turn_of_good c _ (while_loop l c b) line ls w k good ext t ty.0 ty here (λ ls w k good ext t. exec_good b ty.1 here (line_of b) ls w k good ext t)
        exec_good (for_loop l site part first c next b) ty here line ls w k good ext t =
            let loop : Statement = for_loop l site part first c next b in
            let inner : Within loops (fors_in first ++ (fors_in next ++ fors_in b)) = within_right loops (loop ∷ []) (fors_in first ++ (fors_in next ++ fors_in b)) here in
            let rest : Within loops (fors_in next ++ fors_in b) = within_right loops (fors_in first) (fors_in next ++ fors_in b) inner in
            begin_good line ls w l site part first c next b k _ good ext t ty here
            (typed_on heap_of (Good s r) s h (exec parts line ls w first k) _ (exec_good first ty.0 (within_left loops (fors_in first) (fors_in next ++ fors_in b) inner) line ls w k good ext t) (λ ls1 w1 k1 good1 ext1 t1.
            turn_of_good c _ loop line ls1 w1 k1 good1 ext1 t1 ty.1 ty here (λ ls w k good ext t.
            typed_on heap_of (Good s r) s h (exec parts (line_of b) ls w b k) _ (exec_good b ty.3 (within_right loops (fors_in next) (fors_in b) rest) (line_of b) ls w k good ext t)
            (λ ls2 w2 k2 good2 ext2 t2. exec_good next ty.2 (within_left loops (fors_in next) (fors_in b) rest) line ls2 w2 k2 good2 ext2 t2))))
        exec_good (return_value l e) ty here line ls w k good ext t =
            typed_with heap_of (Good s r) s (λ v. HasType w.heap v ty.0) h (parts.value line ls w e k) w _ good ext (value_typed line ls w e ty.0 k good t ty.2)
            (λ v k1 hv. gives_back_typed v w k1 ty.0 good ext ty.1 hv)
        exec_good (invoke l e op es) ty here line ls w k good ext t = call_due line ls w e op es k ty.0 ty.1 good ext t ty.3 ty.4 ty.5
        exec_good (put_field l f op e) ty here line ls w k good ext t = act_good line ls w (put_field l f op e) k good ext t ty
        exec_good (put_item l f i op e) ty here line ls w k good ext t = act_good line ls w (put_item l f i op e) k good ext t ty
        exec_good (new_local l i c) ty here line ls w k good ext t = act_good line ls w (new_local l i c) k good ext t ty
        exec_good (new_field l f c) ty here line ls w k good ext t = act_good line ls w (new_field l f c) k good ext t ty
        exec_good (new_item l f i c) ty here line ls w k good ext t = act_good line ls w (new_item l f i c) k good ext t ty
        exec_good (print_value l e) ty here line ls w k good ext t = act_good line ls w (print_value l e) k good ext t ty

        all_exec_good : (ys : Statements) → StatementsTyped p s ys → Within loops (fors_in_all ys) → (ls : List Datum) (w : World) (k : ℕ) → Good s r w → Extends h w.heap → ValuesTyped w.heap ls s.locals → GoodFlow s r h (exec_all parts ls w ys k)
        all_exec_good no_statements ty here ls w k good ext t = goes_on_typed ls w k good ext t
        all_exec_good (statement_and y rest) ty here ls w k good ext t =
            typed_on heap_of (Good s r) s h (exec parts (line_of y) ls w y k) _ (exec_good y ty.0 (within_left loops (fors_in y) (fors_in_all rest) here) (line_of y) ls w k good ext t)
            (λ ls1 w1 k1 good1 ext1 t1. all_exec_good rest ty.1 (within_right loops (fors_in y) (fors_in_all rest) here) ls1 w1 k1 good1 ext1 t1)

      pub turn_good : (y : Statement) → StatementTyped p s y → Within loops (fors_in y) → (line : ℕ) (ls : List Datum) (w : World) (k : ℕ) → Good s r w → Extends h w.heap → ValuesTyped w.heap ls s.locals → GoodFlow s r h (turn parts line ls w y k)
      turn_good (while_loop l c b) ty here line ls w k good ext t =
          turn_of_good c _ (while_loop l c b) line ls w k good ext t ty.0 ty here (λ ls w k good ext t. exec_good b ty.1 here (line_of b) ls w k good ext t)
      turn_good (for_loop l site part first c next b) ty here line ls w k good ext t =
          let loop : Statement = for_loop l site part first c next b in
          let inner : Within loops (fors_in first ++ (fors_in next ++ fors_in b)) = within_right loops (loop ∷ []) (fors_in first ++ (fors_in next ++ fors_in b)) here in
          let rest : Within loops (fors_in next ++ fors_in b) = within_right loops (fors_in first) (fors_in next ++ fors_in b) inner in
          turn_of_good c _ loop line ls w k good ext t ty.1 ty here (λ ls w k good ext t.
          typed_on heap_of (Good s r) s h (exec parts (line_of b) ls w b k) _ (exec_good b ty.3 (within_right loops (fors_in next) (fors_in b) rest) (line_of b) ls w k good ext t)
          (λ ls2 w2 k2 good2 ext2 t2. exec_good next ty.2 (within_left loops (fors_in next) (fors_in b) rest) line ls2 w2 k2 good2 ext2 t2))
      turn_good (block l ss) ty here line ls w k good ext t = goes_on_typed ls w k good ext t
      turn_good (put_local l i op e) ty here line ls w k good ext t = goes_on_typed ls w k good ext t
      turn_good (if_else l c a b) ty here line ls w k good ext t = goes_on_typed ls w k good ext t
      turn_good (return_value l e) ty here line ls w k good ext t = goes_on_typed ls w k good ext t
      turn_good (invoke l e op es) ty here line ls w k good ext t = goes_on_typed ls w k good ext t
      turn_good (put_field l f op e) ty here line ls w k good ext t = goes_on_typed ls w k good ext t
      turn_good (put_item l f i op e) ty here line ls w k good ext t = goes_on_typed ls w k good ext t
      turn_good (new_local l i c) ty here line ls w k good ext t = goes_on_typed ls w k good ext t
      turn_good (new_field l f c) ty here line ls w k good ext t = goes_on_typed ls w k good ext t
      turn_good (new_item l f i c) ty here line ls w k good ext t = goes_on_typed ls w k good ext t
      turn_good (print_value l e) ty here line ls w k good ext t = goes_on_typed ls w k good ext t

    -- ---- the body of an operation, and the whole run

    pub body_good : (q o : Operations) → PlainOps q → NotedOps o → (i : Invocation) (w : World) (k : ℕ) → TypedHeap p w.heap → NotesGood w.notes → (m : Option PlainMethod) → slice_get p.ops i.op.0 ≡ m → CallTyped w.heap m i.receiver i.arguments → Kept w.heap (exec_all (noted_parts p ms q o (Ref i.receiver)) (locals_of m i.arguments) w (body_of m) k)
    body_good q o plain all i w k heap notes None e c = absurd c
    body_good q o plain all i w k heap notes (Some m) e c =
        let mt : OperationTyped p m = program.ops i.op.0 m e in
        let mm : MethodTyped p m = mt.method in
        kept_of (scope_of m) (Ref i.receiver) w.heap _
        (all_exec_good q o plain all (scope_of m) (Ref i.receiver) w.heap m.body.statements mm.body (loops_inside p m i.op.0 e) _ w k
        (record { world = record { heap = heap; receiver = c.0 }; notes = notes }) (extends_self w.heap) (frame_typed w.heap i.arguments m.params m.body.locals c.1))

    plain_at : (n : ℕ) → PlainOps (operations n p)
    plain_at n = record { typed = operations_typed p program n; moves = λ ns. ops_moved as_is (all_notes ns) (λ ps v. refl) p n }

    pub plain_all : PlainOps (operations_of p)
    plain_all = record { typed = all_operations_typed p program; moves = λ ns. all_ops_moved as_is (all_notes ns) (λ ps v. refl) p }

    noted_at : (n : ℕ) → NotedOps (noted_operations n p ms)
    noted_at zero = record {
      invokes = λ i w k heap well notes. record { heap = runs_out_kept w heap (extends_self w.heap); notes = notes };
      agains = λ s r h line ls w y k good ext t ty here. runs_out_typed w good ext;
    }
    noted_at (suc n) =
        let all : NotedOps (noted_operations n p ms) = noted_at n in
        record {
          invokes = λ i w k heap well notes. body_good (operations n p) (noted_operations n p ms) (plain_at n) all i w k heap notes (slice_get p.ops i.op.0) refl well;
          agains = λ s r h line ls w y k good ext t ty here. turn_good (operations n p) (noted_operations n p ms) (plain_at n) all s r h y ty here line ls w k good ext t;
        }

    noted_all : NotedOps (noted_of p ms)
    noted_all = record {
      invokes = λ i w k heap well notes. let all : NotedOps (noted_operations (suc k) p ms) = noted_at (suc k) in all.invokes i w k heap well notes;
      agains = λ s r h line ls w y k good ext t ty here. let all : NotedOps (noted_operations (suc k) p ms) = noted_at (suc k) in all.agains s r h line ls w y k good ext t ty here;
    }

    run_good : (k : ℕ) → Kept [] (noted_run p ms k)
    run_good k =
        kept_of (main_scope p) Null [] (noted_run p ms k)
        (all_exec_good (operations_of p) (noted_of p ms) plain_all noted_all (main_scope p) Null [] p.main.statements program.main (main_inside p) _ (record { heap = []; prints = []; notes = [] }) k
        (record { world = record { heap = tt; receiver = tt }; notes = λ n c. absurd (has_nothing n c) }) (extends_self []) (starts_typed [] p.main.locals))

pub lists_good : ListsAreGood
lists_good p program ms sound budget n c = let all : Kept p [] (noted_run p ms budget) = run_good p program ms sound budget in all.notes n c
