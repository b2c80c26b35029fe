-- Entries that ran, collected one by one and list by list.
use Rattle.std.proofs.Common.{◌≡◌, ℕ, ◌+◌, ◌<◌, Bool, true, false, true≢false, cond, List, [], ◌∷◌, ◌++◌, length, take, flat_map, map, get_or, Option, Some, None, is_none, is_some, refl, ap, sym, ◌∙◌, append_assoc, append-nil}
use Rattle.std.proofs.lemmas.List.{map-append, take_more}
use Rattle.std.proofs.lemmas.List.Elements.{filter-append}
use Rattle.std.proofs.lemmas.List.Concat.{flat_map-append}
use Rattle.ca_meaning.specs.Expressions.{Invocation}
use Rattle.ca_parallel.specs.declared.op.Op.{Op}
use Rattle.ca_parallel.specs.Calls.{invocation_of, invocations_of}
use Rattle.ca_logs.specs.declared.log.Entry.{Entry}
use Rattle.ca_logs.specs.declared.log.Stop.{Stop}
use Rattle.ca_logs.specs.declared.log.CellLog.{CellLog}
use Rattle.ca_logs.specs.Entries.{all_entries, entries_of, loose_entries, ran_in, tasks_in, task_calls}
use Rattle.ca_round_order.specs.declared.order.Timed.{Timed}
use Rattle.ca_round_order.specs.Timed.{timed_of, op_in}

-- those of these entries that ran
abbrev pub timed_ran : List Entry → List Timed
timed_ran es = map timed_of (ran_in es)

pub both_ran : (es fs : List Entry) → timed_ran (es ++ fs) ≡ timed_ran es ++ timed_ran fs
both_ran es fs = ap (λ (l : List Entry). map timed_of l) (filter-append (λ (e : Entry). is_none e.stop) es fs) ∙ map-append timed_of (ran_in es) (ran_in fs)

-- ---- one entry

isnt_none : (s : Option Stop) → is_some s ≡ true → is_none s ≡ false
isnt_none None e = absurd (true≢false (sym e))
isnt_none (Some why) e = refl

is_none_there : (s : Option Stop) → is_some s ≡ false → is_none s ≡ true
is_none_there None e = refl
is_none_there (Some why) e = absurd (true≢false e)

pub one_stopped : (e : Entry) (now : List Timed) → is_some e.stop ≡ true → now ≡ now ++ timed_ran (e ∷ [])
one_stopped e now some = sym (ap (λ (b : Bool). now ++ map timed_of (cond b (e ∷ []) [])) (isnt_none e.stop some) ∙ append-nil now)

pub one_ran : (e : Entry) (copy : Op) (now more : List Timed) → is_some e.stop ≡ false → copy ≡ e.task.op → more ≡ now ++ record { clock = e.clock; number = e.task.op.receiver; op = copy } ∷ [] → more ≡ now ++ timed_ran (e ∷ [])
one_ran e copy now more none is added =
    added ∙ (ap (λ (o : Op). now ++ record { clock = e.clock; number = e.task.op.receiver; op = o } ∷ []) is
    ∙ sym (ap (λ (b : Bool). now ++ map timed_of (cond b (e ∷ []) [])) (is_none_there e.stop none)))

-- ---- many

module _ (now before more : List Timed) where
  grown : (es fs : List Entry) → before ≡ now ++ timed_ran es → more ≡ before ++ timed_ran fs → more ≡ now ++ timed_ran (es ++ fs)
  grown es fs was is =
      is ∙ (ap (λ (l : List Timed). l ++ timed_ran fs) was
      ∙ (append_assoc now (timed_ran es) (timed_ran fs) ∙ ap (λ (l : List Timed). now ++ l) (sym (both_ran es fs))))

  pub entry_more : (es : List Entry) (n : ℕ) (e : Entry) → n < length es → e ≡ get_or es n e → before ≡ now ++ timed_ran (take n es) → more ≡ before ++ timed_ran (e ∷ []) → more ≡ now ++ timed_ran (take (n + 1) es)
  entry_more es n e lt at was is =
      let here : take (n + 1) es ≡ take n es ++ e ∷ [] = take_more es n e lt ∙ ap (λ (z : Entry). take n es ++ z ∷ []) (sym at) in
      grown (take n es) (e ∷ []) was is ∙ ap (λ (l : List Entry). now ++ timed_ran l) (sym here)

  pub list_more : {A : Type 0} (f : A → List Entry) (xs : List A) (n : ℕ) (x : A) → n < length xs → x ≡ get_or xs n x → before ≡ now ++ timed_ran (flat_map f (take n xs)) → more ≡ before ++ timed_ran (f x) → more ≡ now ++ timed_ran (flat_map f (take (n + 1) xs))
  list_more {A} f xs n x lt at was is =
      let here : take (n + 1) xs ≡ take n xs ++ x ∷ [] = take_more xs n x lt ∙ ap (λ (z : A). take n xs ++ z ∷ []) (sym at) in
      let all : flat_map f (take (n + 1) xs) ≡ flat_map f (take n xs) ++ f x =
      ap (λ (l : List A). flat_map f l) here ∙ (flat_map-append f (take n xs) (x ∷ []) ∙ ap (λ (l : List Entry). flat_map f (take n xs) ++ l) (append-nil (f x))) in
      grown (flat_map f (take n xs)) (f x) was is ∙ ap (λ (l : List Entry). now ++ timed_ran l) (sym all)

-- those of histories, and then the loose ones
pub all_added : (logs : List CellLog) (loose : List (List Entry)) (none one two : List Timed) → none ≡ [] → one ≡ none ++ timed_ran (entries_of logs) → two ≡ one ++ timed_ran (loose_entries loose) → two ≡ timed_ran (all_entries logs loose)
all_added logs loose none one two e f g =
    g ∙ (ap (λ (l : List Timed). l ++ timed_ran (loose_entries loose)) (f ∙ ap (λ (l : List Timed). l ++ timed_ran (entries_of logs)) e)
    ∙ sym (both_ran (entries_of logs) (loose_entries loose)))

pub calls_are : (es : List Entry) → invocations_of (map op_in (map timed_of es)) ≡ task_calls (tasks_in es)
calls_are [] = refl
calls_are (e ∷ es) = ap (λ (l : List Invocation). invocation_of e.task.op ∷ l) (calls_are es)
