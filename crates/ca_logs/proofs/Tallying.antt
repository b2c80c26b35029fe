-- What stands in memory beside a list of entries, with one more.
use Rattle.std.proofs.Common.{◌≡◌, ℕ, ◌+◌, List, [], ◌∷◌, ◌++◌, length, length-append, map, take, Option, Some, None, refl, sym, ap, ◌∙◌, subst, arith}
use Rattle.std.specs.Prelude.{Vec}
use Rattle.std.specs.Global.{Global}
use Rattle.ca_order_laws.proofs.Weights.{weight_append}
use Rattle.ca_parallel.specs.declared.op.Op.{Op}
use Rattle.ca_logs.specs.Lasts.{last_of}
use Rattle.ca_logs.specs.Telling.{AreKept, entry_with, operation_in, clock_of, stopped_in, steps_of, StepsAre, Tallies, IsMark}
use Rattle.ca_logs.specs.declared.log.Task.{Task}
use Rattle.ca_logs.specs.declared.log.Stop.{Stop}
use Rattle.ca_logs.specs.declared.log.Entry.{Entry}
use Rattle.ca_logs.specs.declared.entries.Mark.{Mark}

pub last_behind : {A : Type 0} (xs : List A) (x : A) → last_of (xs ++ x ∷ []) ≡ Some x
last_behind [] x = refl
last_behind (y ∷ []) x = refl
last_behind (y ∷ z ∷ zs) x = last_behind (z ∷ zs) x

steps_more : (es : List Entry) (e : Entry) → steps_of es + e.steps ≡ steps_of (es ++ e ∷ [])
steps_more es e = let w = weight_append (λ (x : Entry). x.steps) es (e ∷ []) in omega (arith, w)

-- an entry of five parts is another where the parts are
pub entry_is : (e : Entry) (task : Task) (clock steps : ℕ) (invoked : List Op) (stop : Option Stop) → e.task ≡ task → e.clock ≡ clock → e.steps ≡ steps → e.invoked ≡ invoked → e.stop ≡ stop → e ≡ entry_with task clock steps invoked stop
entry_is e task clock steps invoked stop a b c d f =
    ap (λ (x : Task). entry_with x e.clock e.steps e.invoked e.stop) a
    ∙ (ap (λ (x : ℕ). entry_with task x e.steps e.invoked e.stop) b
    ∙ (ap (λ (x : ℕ). entry_with task clock x e.invoked e.stop) c
    ∙ (ap (λ (x : List Op). entry_with task clock steps x e.stop) d
    ∙ ap (λ (x : Option Stop). entry_with task clock steps invoked x) f)))

pub tallies_more : (es : List Entry) (e : Entry) (now : List Entry) (kept : Option (Vec Entry Global)) (many count : ℕ) (clock : ℕ) (steps : Option ℕ) (stuck : Option Entry) →
    now ≡ es ++ e ∷ [] → AreKept kept (es ++ e ∷ []) → many ≡ length es → count ≡ many + 1 → clock ≡ e.clock → StepsAre steps (steps_of es + e.steps) → stuck ≡ stopped_in (Some e) → Tallies now kept count clock steps stuck
tallies_more es e now kept many count clock steps stuck is there before one clocks sums stops =
    let last : last_of (es ++ e ∷ []) ≡ Some e = last_behind es e in
    let more = length-append es (e ∷ []) in
    subst (λ (x : List Entry). Tallies x kept count clock steps stuck) (sym is) (record {
      in_memory = there;
      many = omega (arith, more, before, one);
      last = clocks ∙ sym (ap clock_of last);
      all_steps = subst (λ (n : ℕ). StepsAre steps n) (steps_more es e) sums;
      stopped = stops ∙ sym (ap stopped_in last);
    })

-- the same entries, kept in other memory
pub tallies_kept : (es : List Entry) (kept now : Option (Vec Entry Global)) (count : ℕ) (clock : ℕ) (steps : Option ℕ) (stuck : Option Entry) → Tallies es kept count clock steps stuck → AreKept now es → Tallies es now count clock steps stuck
tallies_kept es kept now count clock steps stuck t there = record { in_memory = there; many = t.many; last = t.last; all_steps = t.all_steps; stopped = t.stopped }

-- back at a mark
pub tallies_back : (es now : List Entry) (kept : Option (Vec Entry Global)) (mark : Mark) → IsMark (take mark.count es) mark → now ≡ take mark.count es → AreKept kept (take mark.count es) → Tallies now kept mark.count mark.clock mark.steps None
tallies_back es now kept mark m is there = subst (λ (x : List Entry). Tallies x kept mark.count mark.clock mark.steps None) (sym is) (record { in_memory = there; many = m.count; last = m.last; all_steps = m.all_steps; stopped = sym m.no_stop })

-- the operations of the tasks that operations were made into
pub operations_back : (f : Op → Task) (ops : List Op) → ((o : Op) → operation_in (f o) ≡ o) → map operation_in (map f ops) ≡ ops
operations_back f [] back = refl
operations_back f (o ∷ ops) back = ap (λ (x : Op). x ∷ map operation_in (map f ops)) (back o) ∙ ap (λ (xs : List Op). o ∷ xs) (operations_back f ops back)
