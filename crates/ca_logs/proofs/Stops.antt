-- Lists of entries of which the last one alone may have a stop.
use Rattle.std.proofs.Common.{◌≡◌, ◌<◌, zero, suc, Bool, true, false, cond, List, [], ◌∷◌, ◌++◌, Option, Some, None, is_some, option_to_list, refl, sym, ap, subst, ◌∙◌, arith}
use Rattle.std.specs.Prelude.{Contains}
use Rattle.std.proofs.lemmas.List.Elements.{filter-append}
use Rattle.ca_logs.specs.declared.log.Entry.{Entry}
use Rattle.ca_logs.specs.Lasts.{last_of}
use Rattle.ca_logs.specs.Telling.{stopped_in}
use Rattle.ca_logs.specs.Entries.{stuck_in}
use Rattle.ca_logs.specs.Loose.{StopsLast}
use Rattle.ca_logs.proofs.Tallying.{last_behind}

pub stops_none : StopsLast []
stops_none = refl

one_entry : (e : Entry) (b : Bool) → cond b (e ∷ []) [] ≡ option_to_list (cond b (Some e) None)
one_entry e true = refl
one_entry e false = refl

-- one more behind an entry without a stop
pub stops_more : (es : List Entry) (e : Entry) → stopped_in (last_of es) ≡ None → StopsLast es → StopsLast (es ++ e ∷ [])
stops_more es e quiet last =
    let none : stuck_in es ≡ [] = last ∙ ap option_to_list quiet in
    let behind : option_to_list (stopped_in (Some e)) ≡ option_to_list (stopped_in (last_of (es ++ e ∷ []))) = ap (λ (o : Option Entry). option_to_list (stopped_in o)) (sym (last_behind es e)) in
    filter-append (λ (x : Entry). is_some x.stop) es (e ∷ []) ∙ (ap (λ (xs : List Entry). xs ++ stuck_in (e ∷ [])) none ∙ (one_entry e (is_some e.stop) ∙ behind))

the_one : (o : Option Entry) (e : Entry) → Contains (option_to_list o) e → o ≡ Some e
the_one None e c = absurd (let lt : c.0 < 0 = c.1 in omega (arith, lt))
the_one (Some x) e (zero, lt, is) = ap Some is
the_one (Some x) e (suc k, lt, is) = absurd (omega (arith, lt))

-- an entry with a stop is the last one
pub stops_last : (es : List Entry) (e : Entry) → StopsLast es → Contains (stuck_in es) e → stopped_in (last_of es) ≡ Some e
stops_last es e last c = the_one (stopped_in (last_of es)) e (subst (λ (xs : List Entry). Contains xs e) last c)
