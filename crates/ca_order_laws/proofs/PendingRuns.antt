-- Runs of the pending machine that are put together.
use Rattle.std.proofs.Common.{◌≡◌, ℕ, ◌+◌, List, [], ◌++◌, subst, ◌∙◌, arith}
use Rattle.ca_program.specs.Plain.{PlainProgram}
use Rattle.ca_model.specs.declared.value.Object.{Object}
use Rattle.ca_meaning.specs.Expressions.{Invocation}
use Rattle.ca_meaning.specs.Multisets.{SameItems}
use Rattle.ca_order_laws.specs.Pending.{PendingRun, rests, runs}
use Rattle.ca_order_laws.specs.Order.{Rounds}
use Rattle.ca_order_laws.proofs.Weights.{weight_append}

module _ {p : PlainProgram} {frozen : List Object} where
  -- the pending operations count up to order
  pub run_same : {last : List Object} {rest es : List Invocation} {h : List Object} {ps : List Invocation} {s : ℕ} (qs : List Invocation) → SameItems qs ps → PendingRun p frozen last rest es h ps s → PendingRun p frozen last rest es h qs s
  run_same qs e (rests ps same) = rests qs record { weighed = λ f. e.weighed f ∙ same.weighed f }
  run_same qs e (runs a more h ps others o r s same found sec run) = runs a more h qs others o r s record { weighed = λ f. e.weighed f ∙ same.weighed f } found sec run

  run_steps : {last : List Object} {rest es : List Invocation} {h : List Object} {ps : List Invocation} {s t : ℕ} → s ≡ t → PendingRun p frozen last rest es h ps s → PendingRun p frozen last rest es h ps t
  run_steps {last} {rest} {es} {h} {ps} e run = subst (λ n. PendingRun p frozen last rest es h ps n) e run

  -- a run, and one of what waits beside it from where it ended
  pub run_then : {mid last : List Object} {es fs more : List Invocation} {s t : ℕ} {h : List Object} {ps : List Invocation} → PendingRun p frozen mid [] es h ps s → PendingRun p frozen last [] fs mid more t → PendingRun p frozen last [] (es ++ fs) h (ps ++ more) (s + t)
  run_then {more = more} {t = t} (rests ps none) run = run_steps (let e : t ≡ 0 + t = omega arith in e) (run_same (ps ++ more) record { weighed = λ f. let p = none.weighed f in let q = weight_append f ps more in omega arith } run)
  run_then {more = more} {t = t} (runs a es h ps others o r s same found sec tail) run =
      run_steps (let e : r.steps + (s + t) ≡ (r.steps + s) + t = omega arith in e)
      (runs a _ h (ps ++ more) (others ++ more) o r (s + t)
      record { weighed = λ f. let p = same.weighed f in let q = weight_append f ps more in let u = weight_append f others more in omega arith }
      found sec
      (run_same (r.listed ++ (others ++ more)) record { weighed = λ f. let p = weight_append f (r.listed ++ others) more in let p1 = weight_append f r.listed others in let p2 = weight_append f others more in let p3 = weight_append f r.listed (others ++ more) in omega arith } (run_then tail run)))

  -- a run, and then a run from where it ended
  run_after : {mid last : List Object} {rest end es fs : List Invocation} {s t : ℕ} {h : List Object} {ps : List Invocation} → PendingRun p frozen mid rest es h ps s → PendingRun p frozen last end fs mid rest t → PendingRun p frozen last end (es ++ fs) h ps (s + t)
  run_after {t = t} (rests ps same) run = run_steps (let e : t ≡ 0 + t = omega arith in e) (run_same ps same run)
  run_after {t = t} (runs a es h ps others o r s same found sec tail) run = run_steps (let e : r.steps + (s + t) ≡ (r.steps + s) + t = omega arith in e) (runs a _ h ps others o r (s + t) same found sec (run_after tail run))

pub rounds : Rounds
rounds p frozen h mid last is rest waiting first second s t one two = run_after one two
