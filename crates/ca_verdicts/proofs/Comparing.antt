-- What a comparison of two orders says of a pair.
use Rattle.std.proofs.Common.{inl, inr, ◌≡◌, ℕ, ◌<◌, ◌^◌, false, List, length, Some, refl, sym, ap, ap₂, ◌∙◌, subst}
use Rattle.std.specs.Prelude.{Bool, true, Result, Err, slice_get, ◌||◌}
use Rattle.std.proofs.lemmas.Option.{slice_get-map}
use Rattle.ca_program.specs.declared.program.ClassId.{ClassId}
use Rattle.ca_program.specs.declared.program.FieldId.{FieldId}
use Rattle.ca_program.specs.declared.program.OpId.{OpId}
use Rattle.ca_program.specs.declared.program.FieldInfo.{FieldInfo}
use Rattle.ca_program.specs.declared.program.Method.{Method}
use Rattle.ca_program.specs.declared.program.Program.{Program}
use Rattle.ca_program.specs.View.{method_view, program_view}
use Rattle.ca_program.specs.Plain.{PlainProgram}
use Rattle.ca_model.specs.Heaps.{fields_of}
use Rattle.ca_meaning.specs.WellTyped.{IsMethodOf}
use Rattle.ca_forms.specs.declared.form.Normal.TheVariants.{Scalar}
use Rattle.ca_forms.specs.Plain.{PlainPolynomial, number_form}
use Rattle.ca_norm.specs.Terms.{PlainTerm}
use Rattle.ca_parallel.specs.Extents.{operation_body}
use Rattle.ca_shared_terms.specs.Starts.{starts}
use Rattle.ca_symbolic.specs.States.{PlainDemand}
use Rattle.ca_symbolic.specs.Demanded.{kind_of}
use Rattle.ca_symbolic.specs.Runs.{begins, executed}
use Rattle.ca_symbolic.specs.declared.running.SymbolicError.{SymbolicError}
use Rattle.ca_symbolic.specs.declared.running.SymbolicError.TheVariants as error
use Rattle.ca_symbolic_laws.proofs.Choices.{all_fields_kept}
use Rattle.ca_verdicts.specs.declared.verdicts.Verdict.{Verdict}
use Rattle.ca_verdicts.specs.declared.verdicts.Verdict.TheVariants.{Commutes, Unproved}
use Rattle.ca_verdicts.specs.declared.verdicts.Reason.{Reason}
use Rattle.ca_verdicts.specs.declared.verdicts.Reason.TheVariants as reason
use Rattle.ca_verdicts.specs.Keys.{Key}
use Rattle.ca_verdicts.specs.Demands.{demanded_at}
use Rattle.ca_verdicts.specs.Orders.{in_order, fields_at, start_of, first_order, second_order}
use Rattle.ca_verdicts.specs.Counts.{LightOrderSame, SameDemand, count_at}
use Rattle.ca_verdicts.specs.Verdicts.{CanExecute, is_large, SameFields, VerdictOf}
use Rattle.ca_verdicts.specs.clauses.Comparisons.{FieldsDiffer, TellsKey, TellsFirst, TellsSecond, TellsApart, DemandsDiffer, IsCompared, Not}

-- what is told of a demand, from its parts
pub told_of : (k : Key) (f g : PlainPolynomial) (ds es : List PlainDemand) (w : Reason) → f ≡ demanded_at k ds → g ≡ demanded_at k es → TellsKey k w → TellsFirst f w → TellsSecond g w → TellsApart w →
    Not (LightOrderSame (count_at k ds) (count_at k es)) → DemandsDiffer ds es w
told_of k f g ds es (reason.DemandsDiffer kind parts x y) i j e u v n o =
    let first : x ≡ Scalar (number_form (demanded_at (record { kind = kind_of kind; parts = parts }) ds)) = u ∙ ap (λ z. Scalar (number_form z)) (i ∙ ap (λ (z : Key). demanded_at z ds) (sym e)) in
    let second : y ≡ Scalar (number_form (demanded_at (record { kind = kind_of kind; parts = parts }) es)) = v ∙ ap (λ z. Scalar (number_form z)) (j ∙ ap (λ (z : Key). demanded_at z es) (sym e)) in
    (first, second, λ s. by first second (subst (λ (z : Key). SameDemand z ds es) e s))
  where
    by : x ≡ Scalar (number_form (demanded_at (record { kind = kind_of kind; parts = parts }) ds)) → y ≡ Scalar (number_form (demanded_at (record { kind = kind_of kind; parts = parts }) es)) → SameDemand k ds es → ⊥
    by first second (inl s) = n (first ∙ ap (λ z. Scalar (number_form z)) (ap (λ (z : Key). demanded_at z ds) e ∙ s ∙ ap (λ (z : Key). demanded_at z es) (sym e)) ∙ sym second)
    by first second (inr s) = o s
told_of k f g ds es (reason.FieldDiffers q x y) i j e u v n o = absurd e
told_of k f g ds es (reason.NotSeparable op line why) i j e u v n o = absurd e
told_of k f g ds es (reason.LoopForm line) i j e u v n o = absurd e
told_of k f g ds es reason.Large i j e u v n o = absurd e

pub by_field : (c : ClassId) (ts us : List PlainTerm) (ds es : List PlainDemand) (w : Reason) → FieldsDiffer c ts us w → IsCompared c ts us ds es (Unproved w)
by_field c ts us ds es (reason.FieldDiffers f x y) h = h
by_field c ts us ds es (reason.DemandsDiffer kind parts x y) h = absurd h
by_field c ts us ds es (reason.NotSeparable op line why) h = absurd h
by_field c ts us ds es (reason.LoopForm line) h = absurd h
by_field c ts us ds es reason.Large h = absurd h

pub by_demand : (c : ClassId) (ts us : List PlainTerm) (ds es : List PlainDemand) (w : Reason) → SameFields ts us → DemandsDiffer ds es w → IsCompared c ts us ds es (Unproved w)
by_demand c ts us ds es (reason.DemandsDiffer kind parts x y) e h = (e, h.0, h.1, h.2)
by_demand c ts us ds es (reason.FieldDiffers f x y) e h = absurd h
by_demand c ts us ds es (reason.NotSeparable op line why) e h = absurd h
by_demand c ts us ds es (reason.LoopForm line) e h = absurd h
by_demand c ts us ds es reason.Large e h = absurd h

-- an order keeps the number of fields
pub long_order : (p : PlainProgram) (a : OpId) (g : ℕ) (b : OpId) (h : ℕ) (ts : List PlainTerm) → length (in_order p a g b h ts).fields ≡ length ts
long_order p a g b h ts =
    (all_fields_kept p (operation_body p b) (begins p b h (executed p a g ts).fields)).long ∙ (all_fields_kept p (operation_body p a) (begins p a g ts)).long

-- the verdict on a pair whose orders were compared
pub verdict_is : (p : PlainProgram) (written : List FieldId) (a b : OpId) (c : ClassId) (v : Verdict) → CanExecute p written a b → is_large p a b ≡ false → IsMethodOf (slice_get p.ops a.0) c →
    IsCompared c (first_order p a b).fields (second_order p a b).fields (first_order p a b).demands (second_order p a b).demands v → VerdictOf p written a b v
verdict_is p written a b c (Unproved (reason.FieldDiffers f x y)) e l m h = (record { can = e; light = l }, subst (IsMethodOf (slice_get p.ops a.0)) (sym h.0) m, h.1)
verdict_is p written a b c (Unproved (reason.DemandsDiffer kind parts x y)) e l m h = (record { can = e; light = l }, h.0, h.1, h.2, h.3)
verdict_is p written a b c Commutes e l m h = (record { can = e; light = l }, h.0, h.1)
verdict_is p written a b c (Unproved (reason.NotSeparable op line why)) e l m h = absurd h
verdict_is p written a b c (Unproved (reason.LoopForm line)) e l m h = absurd h
verdict_is p written a b c (Unproved reason.Large) e l m h = absurd h

-- where an order begins, for an operation in memory
in_view : (q : Program) (a : OpId) (m : Method) → slice_get q.ops.items a.0 ≡ Some m → slice_get (program_view q).ops a.0 ≡ Some (method_view m)
in_view q a m e = rw (slice_get-map method_view q.ops.items a.0, e) refl

pub start_is : (q : Program) (a : OpId) (m : Method) (fs : List FieldInfo) → slice_get q.ops.items a.0 ≡ Some m → fs ≡ fields_of (slice_get (program_view q).classes m.class.0) → starts 0 fs ≡ start_of (program_view q) a
start_is q a m fs e f = ap (starts 0) f ∙ sym (ap (λ z. starts 0 (fields_at (program_view q) z)) (in_view q a m e))

pub method_of : (q : Program) (a : OpId) (m : Method) → slice_get q.ops.items a.0 ≡ Some m → IsMethodOf (slice_get (program_view q).ops a.0) m.class
method_of q a m e = subst (λ z. IsMethodOf z m.class) (sym (in_view q a m e)) refl

pub few_first : (p : PlainProgram) (a b : OpId) (s : List PlainTerm) (ds : List PlainDemand) → s ≡ start_of p a → ds ≡ (in_order p a 1 b 2 s).demands → length ds < 2 ^ 64 → length (first_order p a b).demands < 2 ^ 64
few_first p a b s ds e f l = subst (λ z. length z < 2 ^ 64) (f ∙ ap (λ z. (in_order p a 1 b 2 z).demands) e) l

pub few_second : (p : PlainProgram) (a b : OpId) (s : List PlainTerm) (ds : List PlainDemand) → s ≡ start_of p a → ds ≡ (in_order p b 2 a 1 s).demands → length ds < 2 ^ 64 → length (second_order p a b).demands < 2 ^ 64
few_second p a b s ds e f l = subst (λ z. length z < 2 ^ 64) (f ∙ ap (λ z. (in_order p b 2 a 1 z).demands) e) l

-- a heavy order makes the pair large
or_true : (b : Bool) → b || true ≡ true
or_true true = refl
or_true false = refl

pub large_first : (p : PlainProgram) (a b : OpId) (s : List PlainTerm) → s ≡ start_of p a → (in_order p a 1 b 2 s).heavy ≡ true → is_large p a b ≡ true
large_first p a b s e h = ap (λ x. x || (second_order p a b).heavy) (ap (λ z. (in_order p a 1 b 2 z).heavy) (sym e) ∙ h)

pub large_second : (p : PlainProgram) (a b : OpId) (s : List PlainTerm) → s ≡ start_of p a → (in_order p b 2 a 1 s).heavy ≡ true → is_large p a b ≡ true
large_second p a b s e h =
    ap (λ x. (first_order p a b).heavy || x) (ap (λ z. (in_order p b 2 a 1 z).heavy) (sym e) ∙ h) ∙ or_true (first_order p a b).heavy

-- the error of a call that was told again is that of the call
pub again : {T : Type 0} (e f w : SymbolicError) (r : Result T SymbolicError) → f ≡ e → r ≡ Err f → r ≡ Err w → e ≡ w
again e f w r same is told = cc

-- out of memory is no other error
pub not_large : {T : Type 0} (r : Result T SymbolicError) (e : SymbolicError) → r ≡ Err e → e ≡ error.Memory → r ≡ Err error.Large → ⊥
not_large r e is memory large = cc

pub not_loop : {T : Type 0} (r : Result T SymbolicError) (e : SymbolicError) (n : ℕ) → r ≡ Err e → e ≡ error.Memory → r ≡ Err (error.LoopForm n) → ⊥
not_loop r e n is memory loop = cc

module _ (p : PlainProgram) (written : List FieldId) (a b : OpId) (c : ClassId) (v : Verdict) (s : List PlainTerm) (start : s ≡ start_of p a)
    (ts us : List PlainTerm) (ds es : List PlainDemand)
    (first : ts ≡ (in_order p a 1 b 2 s).fields) (second : us ≡ (in_order p b 2 a 1 s).fields) (asked : ds ≡ (in_order p a 1 b 2 s).demands) (asked_then : es ≡ (in_order p b 2 a 1 s).demands)
    (light : (in_order p a 1 b 2 s).heavy ≡ false) (light_then : (in_order p b 2 a 1 s).heavy ≡ false) where
  -- the verdict on a pair, from its orders as they were run
  pub compared_is : CanExecute p written a b → IsMethodOf (slice_get p.ops a.0) c → IsCompared c ts us ds es v → VerdictOf p written a b v
  compared_is can m h =
      let f : ts ≡ (first_order p a b).fields = first ∙ ap (λ z. (in_order p a 1 b 2 z).fields) start in
      let g : us ≡ (second_order p a b).fields = second ∙ ap (λ z. (in_order p b 2 a 1 z).fields) start in
      let i : ds ≡ (first_order p a b).demands = asked ∙ ap (λ z. (in_order p a 1 b 2 z).demands) start in
      let j : es ≡ (second_order p a b).demands = asked_then ∙ ap (λ z. (in_order p b 2 a 1 z).demands) start in
      let k : (first_order p a b).heavy ≡ false = ap (λ z. (in_order p a 1 b 2 z).heavy) (sym start) ∙ light in
      let l : (second_order p a b).heavy ≡ false = ap (λ z. (in_order p b 2 a 1 z).heavy) (sym start) ∙ light_then in
      verdict_is p written a b c v can (ap₂ (λ x y. x || y) k l) m
      (subst (λ z. IsCompared c z (second_order p a b).fields (first_order p a b).demands (second_order p a b).demands v) f
      (subst (λ z. IsCompared c ts z (first_order p a b).demands (second_order p a b).demands v) g
      (subst (λ z. IsCompared c ts us z (second_order p a b).demands v) i (subst (λ z. IsCompared c ts us ds z v) j h))))
