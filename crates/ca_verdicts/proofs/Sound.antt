-- Two operations that look the same in each environment commute, by the law of symbolic meaning.
use Rattle.std.proofs.Common.{◌≡◌, ℕ, true, false, List, length, Option, Some, None, refl, sym, ap, ◌∙◌, subst}
use Rattle.std.specs.Prelude.{slice_get, Contains}
use Rattle.std.specs.Option.{option_or}
use Rattle.ca_program.specs.declared.program.ClassId.{ClassId}
use Rattle.ca_program.specs.declared.program.FieldId.{FieldId}
use Rattle.ca_program.specs.declared.program.LoopId.{LoopId}
use Rattle.ca_program.specs.declared.program.OpId.{OpId}
use Rattle.ca_program.specs.Plain.{PlainProgram, PlainMethod, Statement}
use Rattle.ca_model.specs.declared.value.Value.{Value as Datum}
use Rattle.ca_model.specs.declared.value.Object.{Object}
use Rattle.ca_model.specs.Heaps.{fields_of}
use Rattle.ca_model.specs.Typed.{IsOfClass, TypedHeap}
use Rattle.ca_meaning.specs.Agree.{AgreesAt}
use Rattle.ca_meaning.specs.Functions.{body_of}
use Rattle.ca_meaning.specs.Multisets.{SameItems}
use Rattle.ca_meaning.specs.ProgramTyped.{ProgramTyped}
use Rattle.ca_meaning.specs.WellTyped.{ValuesTyped, CallTyped, IsMethodOf, parameters_of}
use Rattle.ca_meaning.specs.Sections.{section}
use Rattle.ca_meaning.specs.Commuting.{Commutes}
use Rattle.ca_parallel.specs.Bodies.{targets_of_all, fors_in_all}
use Rattle.ca_parallel.specs.Extents.{Extent, operation_body}
use Rattle.ca_parallel.specs.Marks.{HasSite}
use Rattle.ca_parallel.specs.Scoped.{Scoped}
use Rattle.ca_parallel.specs.Separable.{Separable, AreSeparated}
use Rattle.ca_norm.specs.Terms.{PlainTerm}
use Rattle.ca_norm.specs.Terms as term
use Rattle.ca_norm.specs.Environments.{Environment}
use Rattle.ca_norm.specs.Valuations.{valuation_in}
use Rattle.ca_shared_terms.specs.Starts.{starts}
use Rattle.ca_symbolic.specs.States.{first_locals}
use Rattle.ca_symbolic.specs.Execution.{after_all}
use Rattle.ca_symbolic.specs.Demands.{demanded_all}
use Rattle.ca_symbolic.specs.OtherLoops.{other_loop_in}
use Rattle.ca_symbolic_laws.specs.Costs.{plus, outcome_of, within}
use Rattle.ca_symbolic_laws.specs.Demanded.{loop_at, cost, lists}
use Rattle.ca_symbolic_laws.specs.Meant.{FieldsTyped}
use Rattle.ca_symbolic_laws.specs.Laws.{fields_in, arguments_in, Body, object_meant, Called}
use Rattle.ca_symbolic_laws.proofs.Parts.{sections_are_meant, fields_stay_typed, constants_are_kept, starts_mean_the_object}
use Rattle.ca_symbolic.specs.Runs.{executed, params_of, first_other_loop}
use Rattle.ca_verdicts.specs.Orders.{start_of}
use Rattle.ca_verdicts.proofs.Looks.{met}
use Rattle.ca_verdicts.proofs.Orders.{IsMeant, price_of, left_by, behind_both, asked_by_both, Seen, environment, commutes_on}

-- an operation of the class, with its arguments
record MethodAt (p : PlainProgram) (h : List Object) (r : ℕ) (op : OpId) (c : ClassId) (xs : List Datum) : Type 0 where
  m : PlainMethod
  at : slice_get p.ops op.0 ≡ Some m
  class : m.class ≡ c
  receiver : IsOfClass (slice_get h r) m.class
  arguments : ValuesTyped h xs (parameters_of m)

method_at : (p : PlainProgram) (h : List Object) (r : ℕ) (op : OpId) (c : ClassId) (xs : List Datum) (o : Option PlainMethod) → slice_get p.ops op.0 ≡ o → IsMethodOf o c → CallTyped h o r xs → MethodAt p h r op c xs
method_at p h r op c xs None e i t = absurd i
method_at p h r op c xs (Some m) e i t = record { m = m; at = e; class = i; receiver = t.0; arguments = t.1 }

pub no_loop : (x y : Option ℕ) → option_or x y ≡ None → (x ≡ None) × (y ≡ None)
no_loop None y e = (refl, e)
no_loop (Some n) y e = cc

-- each `for` of an operation is found by its number
abbrev pub LoopsFound : PlainProgram → Type 0
LoopsFound p =
    (op : OpId) (m : PlainMethod) → slice_get p.ops op.0 ≡ Some m → (x : Statement) (site : LoopId) → Contains (fors_in_all m.body.statements) x → HasSite x site →
    loop_at p.ops site ≡ Some (record { loop = x; locals = length m.body.locals })

-- in an environment both orders leave the same object, and the same demands are met
pub record LooksSame (s : Environment) (c : ClassId) (start : List PlainTerm) (a b : OpId) : Type 0 where
  pub object_same : object_meant s c (behind_both s a 1 b 2 start) ≡ object_meant s c (behind_both s b 2 a 1 start)
  pub met_same : SameItems (met (valuation_in s) (asked_by_both s a 1 b 2 start)) (met (valuation_in s) (asked_by_both s b 2 a 1 start))

-- one operation in an environment
module _ (s : Environment) (written : List FieldId) (op : OpId) (m : PlainMethod) (at : slice_get s.program.ops op.0 ≡ Some m) (g : ℕ) (fields : List PlainTerm) where
  -- in the words of the law
  meant_at : (c : ClassId) (k : ℕ) →
      outcome_of (section s.program s.heap s.receiver (object_meant s c fields) op (arguments_in s g) k)
      ≡ within (plus (Some 1) (cost s (valuation_in s) (demanded_all s.program (record { fields = fields; locals = first_locals g (Some m) }) (term.truth true) m.body.statements))) k (λ n. record {
        object = object_meant s c (after_all s.program (record { fields = fields; locals = first_locals g (Some m) }) m.body.statements).fields;
        listed = lists s (valuation_in s) (demanded_all s.program (record { fields = fields; locals = first_locals g (Some m) }) (term.truth true) m.body.statements);
        steps = n;
      }) →
      outcome_of (section s.program s.heap s.receiver (object_meant s c fields) op (arguments_in s g) k) ≡ within (plus (Some 1) (price_of s op g fields)) k (left_by s c op g fields)
  meant_at c k e = subst (λ z.
      outcome_of (section s.program s.heap s.receiver (object_meant s c fields) op (arguments_in s g) k)
      ≡ within (plus (Some 1) (cost s (valuation_in s) (demanded_all s.program (record { fields = fields; locals = first_locals g z }) (term.truth true) (body_of z)))) k (λ n. record {
        object = object_meant s c (after_all s.program (record { fields = fields; locals = first_locals g z }) (body_of z)).fields;
        listed = lists s (valuation_in s) (demanded_all s.program (record { fields = fields; locals = first_locals g z }) (term.truth true) (body_of z));
        steps = n;
      })) (sym at) e

  behind_at : (executed s.program op g fields).fields ≡ (after_all s.program (record { fields = fields; locals = first_locals g (Some m) }) m.body.statements).fields
  behind_at = ap (λ z. (after_all s.program (record { fields = fields; locals = first_locals g z }) (body_of z)).fields) at

module _ (p : PlainProgram) (x : Extent) (typed : ProgramTyped p) (found : LoopsFound p) where
  -- what is known of an operation of the extent
  pub record Fit (op : OpId) : Type 0 where
    pub puts : (f : FieldId) → Contains (targets_of_all (operation_body p op)) f → Contains x.written f
    pub separable : Separable p x.written op
    pub no_loops : first_other_loop p x.written op ≡ None
    pub scoped : Scoped (operation_body p op)

  module _ (h : List Object) (heap : TypedHeap p h) (r : ℕ) (o : Object) (xs ys : List Datum) (c : ClassId) (k : ℕ) where
    abbrev env : Environment
    env = environment p h r o xs ys k

    -- a state of the fields of which the law speaks
    record Ready (fields : List PlainTerm) : Type 0 where
      holds : FieldsTyped h (valuation_in env) fields (fields_in env c)
      agrees : AgreesAt x.written (object_meant env c fields) h r

    module _ (op : OpId) (g : ℕ) (fit : Fit op) (q : MethodAt p h r op c (arguments_in env g)) where
      body_fits : Body env q.m x.written q.m.body.statements
      body_fits = record {
        typed = (typed.ops op.0 q.m q.at).method.body;
        puts = subst (λ z. (f : FieldId) → Contains (targets_of_all (body_of z)) f → Contains x.written f) q.at fit.puts;
        loops = subst (λ z. other_loop_in (params_of z) x.written (body_of z) ≡ None) q.at fit.no_loops;
        found = found op q.m q.at;
      }

      called : (fields : List PlainTerm) → Ready fields → Called env x.written op q.m g fields
      called fields w = record {
        method = q.at;
        typed = record { program = typed; heap = heap; receiver = q.receiver; operation = (typed.ops op.0 q.m q.at).result };
        arguments = q.arguments;
        object = subst (λ z. FieldsTyped h (valuation_in env) fields (fields_in env z)) (sym q.class) w.holds;
        agrees = subst (λ z. AgreesAt x.written (object_meant env z fields) h r) (sym q.class) w.agrees;
        body = body_fits;
        separable = subst (λ z. AreSeparated p x.written false (body_of z)) q.at fit.separable;
        scoped = subst (λ z. Scoped (body_of z)) q.at fit.scoped;
      }

      is_meant : (fields : List PlainTerm) → Ready fields → IsMeant env c op g (arguments_in env g) fields
      is_meant fields w = λ j l. subst (λ z.
          outcome_of (section p h r (object_meant env z fields) op (arguments_in env g) j) ≡ within (plus (Some 1) (price_of env op g fields)) j (left_by env z op g fields)) q.class
          (meant_at env x.written op q.m q.at g fields q.m.class j (sections_are_meant env x.written op q.m g fields (called fields w) j l))

      typed_behind : (fields : List PlainTerm) → Ready fields → FieldsTyped h (valuation_in env) (executed p op g fields).fields (fields_in env c)
      typed_behind fields w =
          subst (λ z. FieldsTyped h (valuation_in env) z (fields_in env c)) (sym (behind_at env x.written op q.m q.at g fields))
          (subst (λ (z : ClassId). FieldsTyped h (valuation_in env) (after_all p (record { fields = fields; locals = first_locals g (Some q.m) }) q.m.body.statements).fields (fields_in env z)) q.class (fields_stay_typed env x.written op q.m g fields (called fields w)))

      agrees_behind : (fields : List PlainTerm) → Ready fields → AgreesAt x.written (object_meant env c (executed p op g fields).fields) h r
      agrees_behind fields w =
          subst (λ z. AgreesAt x.written (object_meant env c z) h r) (sym (behind_at env x.written op q.m q.at g fields))
          (subst (λ (z : ClassId). AgreesAt x.written (object_meant env z (after_all p (record { fields = fields; locals = first_locals g (Some q.m) }) q.m.body.statements).fields) h r) q.class (constants_are_kept env x.written op q.m g fields (called fields w)))

      ready_behind : (fields : List PlainTerm) → Ready fields → Ready (executed p op g fields).fields
      ready_behind fields w = record { holds = typed_behind fields w; agrees = agrees_behind fields w }

    seen : (start : List PlainTerm) (a b : OpId) → Fit a → Fit b → MethodAt p h r a c xs → MethodAt p h r b c ys → Ready start → LooksSame env c start a b → Seen env c start a 1 xs b 2 ys
    seen start a b fa fb qa qb w same = record {
      first_a = is_meant a 1 fa qa start w;
      then_b = is_meant b 2 fb qb (executed p a 1 start).fields (ready_behind a 1 fa qa start w);
      first_b = is_meant b 2 fb qb start w;
      then_a = is_meant a 1 fa qa (executed p b 2 start).fields (ready_behind b 2 fb qb start w);
      object_same = same.object_same;
      met_same = same.met_same;
    }

  start_is : (a : OpId) (c : ClassId) (z : Option PlainMethod) → slice_get p.ops a.0 ≡ z → IsMethodOf z c → start_of p a ≡ starts 0 (fields_of (slice_get p.classes c.0))
  start_is a c None e i = absurd i
  start_is a c (Some m) e i = rw e (ap (λ (d : ClassId). starts 0 (fields_of (slice_get p.classes d.0))) i)

  -- Operations that look the same in each environment commute.
  pub commute : (a b : OpId) → Fit a → Fit b →
      ((c : ClassId) → IsMethodOf (slice_get p.ops a.0) c → IsMethodOf (slice_get p.ops b.0) c → (h : List Object) (r : ℕ) (o : Object) (xs ys : List Datum) (k : ℕ) → LooksSame (environment p h r o xs ys k) c (start_of p a) a b) → Commutes p x.written a b
  commute a b fa fb same = λ c ia ib h heap r xs ys wa wb o object agrees.
      let qa : MethodAt p h r a c xs = method_at p h r a c xs _ refl ia wa in
      let qb : MethodAt p h r b c ys = method_at p h r b c ys _ refl ib wb in
      let is : start_of p a ≡ starts 0 (fields_of (slice_get p.classes c.0)) = start_is a c _ refl ia in
      let begun : (k : ℕ) → object_meant (environment p h r o xs ys k) c (start_of p a) ≡ o = λ k. ap (object_meant (environment p h r o xs ys k) c) is ∙ (starts_mean_the_object (environment p h r o xs ys k) c object).0 in
      let ready : (k : ℕ) → Ready h heap r o xs ys c k (start_of p a) = λ k. record {
        holds = subst (λ z. FieldsTyped h (valuation_in (environment p h r o xs ys k)) z (fields_of (slice_get p.classes c.0))) (sym is) (starts_mean_the_object (environment p h r o xs ys k) c object).1;
        agrees = subst (λ z. AgreesAt x.written z h r) (sym (begun k)) agrees;
      } in
      commutes_on p h r o xs ys c (start_of p a) a b begun (λ k. seen h heap r o xs ys c k (start_of p a) a b fa fb qa qb (ready k) (same c ia ib h r o xs ys k))
