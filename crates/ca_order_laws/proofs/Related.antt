-- Where a serial run stands, and where the section and then its list do.
use Rattle.std.proofs.Common.{◌≡◌, ℕ, ◌+◌, List, [], ◌∷◌, ◌++◌, Some, None, refl, ap, sym, subst, ◌∙◌, arith, false, Bool, ⊎_elim}
use Rattle.std.specs.Prelude.{slice_get, Contains}
use Rattle.ca_program.specs.declared.program.FieldId.{FieldId}
use Rattle.ca_program.specs.declared.program.OpId.{OpId}
use Rattle.ca_program.specs.declared.program.ClassId.{ClassId}
use Rattle.ca_program.specs.declared.program.ValueType.{ValueType}
use Rattle.ca_program.specs.declared.program.ValueType.TheVariants.{Pointer}
use Rattle.ca_program.specs.Plain.{PlainProgram, Expression, Expressions, Statement}
use Rattle.ca_model.specs.declared.value.Value.{Value as Datum}
use Rattle.ca_model.specs.declared.value.Slot.{Slot}
use Rattle.ca_model.specs.Slots.{put_slot}
use Rattle.ca_meaning.specs.Expressions.{Out, gives, Invocation, due}
use Rattle.ca_meaning.specs.Flows.{goes_on, Parts, exec}
use Rattle.ca_meaning.specs.Functions.{own_of, place, functions_of, value_in}
use Rattle.ca_meaning.specs.Serial.{World, in_heap, put_own, serial_parts, serial_ops}
use Rattle.ca_meaning.specs.Sections.{Section, with_own, section_place, section_value, section_parts}
use Rattle.ca_meaning.specs.WellTyped.{ValuesTyped}
use Rattle.ca_meaning.specs.ProgramTyped.{Scope, ExpressionTyped, ExpressionsTyped, StatementTyped}
use Rattle.ca_meaning_laws.specs.Budgets.{on_with, Reaches}
use Rattle.ca_meaning_laws.specs.Typed.{Yields, yields, FlowTyped, goes_on_typed, SectionTyped, frozen_heap}
use Rattle.std.proofs.lemmas.List.Elements.{Contains-push_cases, Contains-append_cases}
use Rattle.ca_parallel.specs.Separable.{IsClean, AreClean}
use Rattle.ca_order_laws.proofs.Flags.{Rise}
use Rattle.ca_order_laws.proofs.Runs.{ends_same, ends_left, stop_reaches}
use Rattle.ca_order_laws.proofs.Puts.{slot_else, field_same}
use Rattle.ca_order_laws.proofs.Grown.{Grows}

-- the operation of a call that is due
pub called_op : (d : Invocation) {op : OpId} {o : Out Invocation} (k j : ℕ) → Yields (λ i. i.op ≡ op) o → o ≡ gives d j → d.op ≡ op
called_op d {op} {o} k j y e = from (subst (λ z. Yields (λ i. i.op ≡ op) z) e y)
  where
    from : Yields (λ i. i.op ≡ op) (gives d j) → d.op ≡ op
    from (yields _ _ t) = t

module _ (p : PlainProgram) (written : List FieldId) (ops : List OpId) (sc : Scope) (w0 : World) (this : Datum) (put_in : List Slot → World) (b0 : Bool) where
  abbrev pub wp : Parts World
  wp = serial_parts p this

  abbrev pub qp : Parts Section
  qp = section_parts p w0.heap this

  -- where the flag was down at the start, `put_in` puts the slots into the receiver
  pub record Puts : Type 0 where
    pub own_is : (own : List Slot) → own_of (put_in own).heap this ≡ own
    pub put_is : (own : List Slot) (f : FieldId) (i : ℕ) (v : Datum) → put_in (put_slot own f.field i v) ≡ in_heap (put_in own) (put_own (put_in own).heap this f i v)

  abbrev pub Constants : List Slot → Type 0
  Constants own = (f : FieldId) → sc.class ≡ Some f.class → ¬ Contains written f → slice_get own f.field ≡ slice_get (own_of w0.heap this) f.field

  pub put_constants : (own : List Slot) (f : FieldId) (i : ℕ) (v : Datum) → Contains written f → sc.class ≡ Some f.class → Constants own → Constants (put_slot own f.field i v)
  put_constants own f i v at of_class same = λ g e free. slot_else own f.field i v g.field (λ z. free (subst (λ y. Contains written y) (field_same f g (let q : Some f.class ≡ Some g.class = sym of_class ∙ e in cc) z) at)) ∙ same g e free

  -- what is so of a section that runs; the flag says that it may have called
  pub record Lite (b : Bool) (s : Section) : Type 0 where
    pub none : b ≡ false → s.listed ≡ []
    pub rises : b ≡ false → b0 ≡ false
    pub typed : SectionTyped p w0.heap sc s
    pub constants : Constants s.own
    pub inside : (i : Invocation) → Contains s.listed i → Contains ops i.op

  -- the serial run stands where the section and then its list stand
  pub record Related (b : Bool) (w : World) (s : Section) (t : ℕ) : Type 0 where
    pub lite : Lite b s
    pub run : Reaches (λ k. serial_ops p s.listed (put_in s.own) k) (on_with [] w) t

  pub lite_rise : {b c : Bool} {s : Section} → Rise b c → Lite b s → Lite c s
  lite_rise up a = record { none = λ e. a.none (up.falls e); rises = λ e. a.rises (up.falls e); typed = a.typed; constants = a.constants; inside = a.inside }

  pub rel_rise : {b c : Bool} {w : World} {s : Section} {t : ℕ} → Rise b c → Related b w s t → Related c w s t
  rel_rise up a = record { lite = lite_rise up a.lite; run = a.run }

  -- a section that has grown
  pub lite_grown : {b c d : Bool} {s u : Section} → Rise b c → Lite b s → Grows written ops sc.class d c s u → SectionTyped p w0.heap sc u → Lite c u
  lite_grown {b} {c} {d} {s} {u} up a g typed = record {
    none = λ e. g.listed ∙ ap (λ l. s.listed ++ l) (g.none e) ∙ ap (λ l. l ++ []) (a.none (up.falls e));
    rises = λ e. a.rises (up.falls e);
    typed = typed;
    constants = λ f e free. g.constants f e free ∙ a.constants f e free;
    inside = λ i c. ⊎_elim (λ x. a.inside i x) (λ x. g.inside i x) (Contains-append_cases s.listed g.more i (subst (λ l. Contains l i) g.listed c));
  }

  pub listed_inside : (s : Section) (d : Invocation) → ((i : Invocation) → Contains s.listed i → Contains ops i.op) → Contains ops d.op → (i : Invocation) → Contains (s.listed ++ d ∷ []) i → Contains ops i.op
  listed_inside s d inside at i c = ⊎_elim (λ a. inside i a) (λ e. subst (λ z. Contains ops z.op) e at) (Contains-push_cases s.listed d i c)

  -- before a call the heap is the one at the start with the object put in
  pub rel_before : (w : World) (s : Section) (t : ℕ) → Related false w s t → (put_in s.own ≡ w) × (t ≡ 0)
  rel_before w s t a =
      let e : goes_on [] (put_in s.own) (t + 0) ≡ goes_on [] w 0 = ap (λ l. serial_ops p l (put_in s.own) (t + 0)) (sym (a.lite.none refl)) ∙ a.run.at 0 in
      (ends_same e, (let q = ends_left e in omega arith))

  -- what both runs have in common
  pub record Common : Type 0 where
    pub puts : b0 ≡ false → Puts
    pub values : (b : Bool) (w : World) (s : Section) (t : ℕ) → Related b w s t → (line : ℕ) (ls : List Datum) → ValuesTyped w0.heap ls sc.locals → (e : Expression) (ty : ValueType) → ExpressionTyped p sc e ty → IsClean p written b e → (k : ℕ) → value_in p.functions w.heap this line ls e k ≡ section_value p w0.heap this line ls s e k
    pub dues : (b : Bool) (w : World) (s : Section) (t : ℕ) → Related b w s t → (line : ℕ) (ls : List Datum) → ValuesTyped w0.heap ls sc.locals → (e : Expression) (op : OpId) (es : Expressions) (c : ClassId) (tys : List ValueType) → ExpressionTyped p sc e (Pointer c) → ExpressionsTyped p sc es tys → IsClean p written b e → AreClean p written b es → (k : ℕ) → due (functions_of p.functions w.heap).call (place w.heap this line ls) e op es k ≡ due (functions_of p.functions w0.heap).call (section_place w0.heap this s.own line ls) e op es k
    pub keeps : (line : ℕ) (ls : List Datum) (s : Section) (x : Statement) (k : ℕ) → SectionTyped p w0.heap sc s → ValuesTyped w0.heap ls sc.locals → StatementTyped p sc x → FlowTyped (frozen_heap w0.heap) (SectionTyped p w0.heap sc) sc w0.heap (exec qp line ls s x k)
    pub result : sc.result ≡ None

  pub own_before : (b0 ≡ false → Puts) → (w : World) (s : Section) (t : ℕ) → Related false w s t → own_of w.heap this ≡ s.own
  own_before puts w s t a = let q : Puts = puts (a.lite.rises refl) in ap (λ (v : World). own_of v.heap this) (sym (rel_before w s t a).0) ∙ q.own_is s.own

  module _ (common : Common) where
    pub locals_after : (line : ℕ) (ls ms : List Datum) (s u : Section) (x : Statement) (k j : ℕ) → SectionTyped p w0.heap sc s → ValuesTyped w0.heap ls sc.locals → StatementTyped p sc x → exec qp line ls s x k ≡ goes_on ms u j → ValuesTyped w0.heap ms sc.locals × SectionTyped p w0.heap sc u
    locals_after line ls ms s u x k j good t ty e = from (subst (λ o. FlowTyped (frozen_heap w0.heap) (SectionTyped p w0.heap sc) sc w0.heap o) e (common.keeps line ls s x k good t ty))
      where
        from : FlowTyped (frozen_heap w0.heap) (SectionTyped p w0.heap sc) sc w0.heap (goes_on ms u j) → ValuesTyped w0.heap ms sc.locals × SectionTyped p w0.heap sc u
        from (goes_on_typed _ _ _ g ext v) = (v, g)

    -- a put, once what it puts is known: the section's slots, put in, are the new heap
    pub after_put : (f : FieldId) (i : ℕ) (x y : Datum) (w : World) (s : Section) (t : ℕ) → Related false w s t → x ≡ y → put_in (put_slot s.own f.field i y) ≡ in_heap w (put_own w.heap this f i x)
    after_put f i x y w s t rel e =
        let q : Puts = common.puts (rel.lite.rises refl) in
        q.put_is s.own f i y
        ∙ ap (λ z. in_heap (put_in s.own) (put_own (put_in s.own).heap this f i z)) (sym e)
        ∙ ap (λ (v : World). in_heap v (put_own v.heap this f i x)) (rel_before w s t rel).0

    pub rel_put : (own : List Slot) (w v : World) (s : Section) (t : ℕ) → Related false w s t → SectionTyped p w0.heap sc (with_own s own) → Constants own → put_in own ≡ v → Related false v (with_own s own) 0
    rel_put own w v s t rel good same e = record {
      lite = record { none = rel.lite.none; rises = rel.lite.rises; typed = good; constants = same; inside = rel.lite.inside };
      run = record { at = λ k. ap (λ y. serial_ops p y (put_in own) (0 + k)) (rel.lite.none refl) ∙ (stop_reaches [] (put_in own)).at k ∙ ap (λ y. goes_on [] y k) e };
    }
