-- Along a path through a separated body the lock is held until a call comes, and free behind it; in a free body it is never held.
use Rattle.std.proofs.Common.{◌≡◌, List, [], ◌∷◌, ◌++◌, Bool, true, false, ◌||◌, cond, Option, Some, None, refl, ap, sym, subst, ◌∙◌}
use Rattle.std.proofs.lemmas.Bool.{or_right}
use Rattle.ca_tree.specs.Plain as tree
use Rattle.ca_program.specs.declared.program.FieldId.{FieldId}
use Rattle.ca_program.specs.declared.program.OpId.{OpId}
use Rattle.ca_program.specs.Plain as program
use Rattle.ca_program.specs.Plain.{PlainProgram, for_loop}
use Rattle.ca_meaning.specs.ProgramTyped.{Scope, StatementTyped, StatementsTyped}
use Rattle.ca_parallel.specs.Bodies.{calls_of, calls_of_all}
use Rattle.ca_parallel.specs.Separable.{IsClean, is_some_of, holds_call, IsSeparated, AreSeparated}
use Rattle.ca_parallel.proofs.Somes.{some_left, some_right}
use Rattle.ca_lock_laws.specs.Events.{Event, unlocks, spawns, calls, evaluated, happens}
use Rattle.ca_lock_laws.specs.Paths.{IsLine, declared, assigned, printed, Way, goes_on, returns, Path, empty, of_line, call, gives_back, block, passed, taken, one_branch, other_branch, repeated, counted, Paths, none, and_then, no_more, Turns, leaves, turn, broken, Through, to_its_end, to_a_return}
use Rattle.ca_lock_laws.specs.Discipline.{Lock, free, held, spawning, behind, takes, give_back, have_given_back, spawn, call as called, follow, Leads, nowhere, forgets, and_then as on, Disciplined}
use Rattle.ca_lock_laws.specs.Guarded.{follows, before_calls, before_in, locked_guards, free_guards}
use Rattle.ca_lock_laws.proofs.Clean.{Ready, chained, evaluated_leads, line_leads}

-- not between a spawn mark and its call
abbrev Calm : Lock → Type 0
Calm held = Unit {0}
Calm free = Unit {0}
Calm spawning = ⊥
Calm behind = ⊥

ready_calm : (after : Bool) (l : Lock) → Ready after l → Calm l
ready_calm after held r = tt
ready_calm after free r = tt
ready_calm after spawning r = r
ready_calm after behind r = r

ready_behind : (m : Lock) → Calm m → (after : Bool) → after ≡ true → Ready after m
ready_behind held c after e = tt
ready_behind free c after e = e
ready_behind spawning c after e = c
ready_behind behind c after e = c

-- behind a statement that holds a call or leaves the lock as it was
next : (after j : Bool) (l m : Lock) → Ready after l → Calm m → (j ≡ false → m ≡ l) → Ready (after || j) m
next true j l m r c e = ready_behind m c true refl
next false true l m r c e = ready_behind m c true refl
next false false l m r c e = subst (Ready false) (sym (e refl)) r

-- behind a turn of a loop
again : (looped k : Bool) (l m : Lock) → Ready looped l → Calm m → (k ≡ false → m ≡ l) → (k ≡ true → looped ≡ true) → Ready looped m
again looped true l m r c e f = ready_behind m c looped (f refl)
again looped false l m r c e f = subst (Ready looped) (sym (e refl)) r

-- how the lock stands, and how it is known to stand: directly behind a call it is known to be free
data Ends : Lock → Lock → Type 0 where
  as_known : (l : Lock) → Ends l l
  was_call : Ends behind free

abbrev is_call_line : tree.Statement → Bool
is_call_line (tree.call_statement at e) = true
is_call_line other = false

-- which lock a body works with
abbrev Works : Bool → Lock → Type 0
Works true l = Unit {0}
Works false l = l ≡ free

module _ (p : PlainProgram) (written : List FieldId) (locked : Bool) (same : tree.Expression → tree.Expression → Bool) where
  abbrev before : Option tree.Statement → tree.Statement → List Event
  before = before_in locked same

  -- from a standing that is known as l: what happens leads to another, and to one known as the same where nothing calls
  record Left (start l : Lock) (k : Bool) (es : List Event) : Type 0 where
    lock : Lock
    end : Lock
    leads : Leads p written start es end
    ends : Ends end lock
    calm : Calm lock
    works : Works locked lock
    same_lock : k ≡ false → lock ≡ l

  -- no path through an operation returns
  abbrev Leaves : Way → Lock → Lock → Bool → List Event → Type 0
  Leaves goes_on start l k es = Left start l k es
  Leaves returns start l k es = ⊥

  stays : (after : Bool) (l : Lock) (k : Bool) (es : List Event) → Ready after l → Works locked l → Leads p written l es l → Left l l k es
  stays after l k es r w s = record { lock = l; end = l; leads = s; ends = as_known l; calm = ready_calm after l r; works = w; same_lock = λ h. refl }

  lifted : {e l n : Lock} {es : List Event} → Ends e l → Leads p written l es n → Leads p written e es n
  lifted (as_known l) s = s
  lifted was_call s = forgets s

  -- from what the lock is known to be to what it is
  lift : (w : Way) (start l : Lock) (k : Bool) (es : List Event) → Ends start l → Leaves w l l k es → Leaves w start l k es
  lift goes_on start l k es e t = record { lock = t.lock; end = t.end; leads = lifted e t.leads; ends = t.ends; calm = t.calm; works = t.works; same_lock = t.same_lock }
  lift returns start l k es e t = t

  joined : (w : Way) (k : Bool) (fs : List Event) {start l e m : Lock} {es : List Event} → Leads p written start es e → (k ≡ false → m ≡ l) → Leaves w e m k fs → Leaves w start l k (es ++ fs)
  joined goes_on k fs s f t = record { lock = t.lock; end = t.end; leads = chained p written s t.leads; ends = t.ends; calm = t.calm; works = t.works; same_lock = λ h. t.same_lock h ∙ f h }
  joined returns k fs s f t = t

  wider : (w : Way) (k j : Bool) (start l : Lock) (es : List Event) → (j ≡ false → k ≡ false) → Leaves w start l k es → Leaves w start l j es
  wider goes_on k j start l es f t = record { lock = t.lock; end = t.end; leads = t.leads; ends = t.ends; calm = t.calm; works = t.works; same_lock = λ h. t.same_lock (f h) }
  wider returns k j start l es f t = t

  free_works : (b : Bool) → Works b free
  free_works true = tt
  free_works false = refl

  spawned : (b : Bool) (op : OpId) (after : Bool) (l : Lock) → Ready after l → Works b l → Leads p written l (before_calls b ++ calls op ∷ []) behind
  spawned true op after held r w = on give_back (on spawn (on (called op) nowhere))
  spawned true op after free r w = on have_given_back (on spawn (on (called op) nowhere))
  spawned true op after spawning r w = absurd r
  spawned true op after behind r w = absurd r
  spawned false op after l r w = subst (λ z. Leads p written z (spawns ∷ calls op ∷ []) behind) (sym w) (on spawn (on (called op) nowhere))

  called_left : (op : OpId) (after : Bool) (l : Lock) → Ready after l → Works locked l → Left l l true (before_calls locked ++ calls op ∷ [])
  called_left op after l r w = record { lock = free; end = behind; leads = spawned locked op after l r w; ends = was_call; calm = tt; works = free_works locked; same_lock = λ h. absurd cc }

  line_left : {s : tree.Statement} {x : program.Statement} → IsLine s x → (after : Bool) (l : Lock) (k : Bool) → IsSeparated p written after x → Ready after l → Works locked l → Left l l k (before None s ++ happens x)
  line_left {s} {x} (declared at ty name name_at v h) after l k sep r w = stays after l k (happens x) r w (line_leads p written (declared at ty name name_at v h) after l sep r)
  line_left {s} {x} (assigned at target op right h) after l k sep r w = stays after l k (happens x) r w (line_leads p written (assigned at target op right h) after l sep r)
  line_left (printed at e line v) after l k sep r w = absurd sep

  -- the statement in front of it is a call that is over
  abbrev Front : Option tree.Statement → Lock → Type 0
  Front front start = (s : tree.Statement) → front ≡ Some s → is_call_line s ≡ true → start ≡ behind

  no_front : (start : Lock) → Front None start
  no_front start s e = cc

  not_call : (front : Option tree.Statement) (s : tree.Statement) → is_call_line s ≡ false → before front s ≡ before None s
  not_call front (tree.call_statement at e) h = absurd cc
  not_call front (tree.empty at) h = refl
  not_call front (tree.block at ss) h = refl
  not_call front (tree.local at ty name name_at v) h = refl
  not_call front (tree.assign at target op r) h = refl
  not_call front (tree.if_only at e s) h = refl
  not_call front (tree.if_else at e s t) h = refl
  not_call front (tree.while_loop at e s) h = refl
  not_call front (tree.for_loop at first c step s) h = refl
  not_call front (tree.return_value at e) h = refl
  not_call front (tree.print_value at e) h = refl

  line_no_call : {s : tree.Statement} {x : program.Statement} → IsLine s x → is_call_line s ≡ false
  line_no_call (declared at ty name name_at v h) = refl
  line_no_call (assigned at target op right h) = refl
  line_no_call (printed at e line v) = refl

  -- what is followed is a call
  followed : (front : Option tree.Statement) (at : _) (e : tree.Expression) → follows same front (tree.call_statement at e) ≡ true → (s : tree.Statement) × (front ≡ Some s) × (is_call_line s ≡ true)
  followed None at e h = absurd cc
  followed (Some (tree.call_statement place other)) at e h = (tree.call_statement place other, refl, refl)
  followed (Some (tree.empty place)) at e h = absurd cc
  followed (Some (tree.block place ss)) at e h = absurd cc
  followed (Some (tree.local place ty name name_at v)) at e h = absurd cc
  followed (Some (tree.assign place target op r)) at e h = absurd cc
  followed (Some (tree.if_only place c s)) at e h = absurd cc
  followed (Some (tree.if_else place c s t)) at e h = absurd cc
  followed (Some (tree.while_loop place c s)) at e h = absurd cc
  followed (Some (tree.for_loop place first c step s)) at e h = absurd cc
  followed (Some (tree.return_value place c)) at e h = absurd cc
  followed (Some (tree.print_value place c)) at e h = absurd cc

  -- what is left, and that a call is over directly before what comes next
  record After (s : tree.Statement) (start l : Lock) (k : Bool) (es : List Event) : Type 0 where
    left : Left start l k es
    front : Front (Some s) left.end

  abbrev Afters : Way → tree.Statement → Lock → Lock → Bool → List Event → Type 0
  Afters goes_on s start l k es = After s start l k es
  Afters returns s start l k es = ⊥

  behind_free : (l : Lock) → Ends behind l → Calm l → l ≡ free
  behind_free l was_call c = refl
  behind_free l (as_known m) c = absurd c

  -- a call of a list
  call_in_list : (front : Option tree.Statement) (start l : Lock) (at : _) (e : tree.Expression) (op : OpId) (after : Bool) → Ends start l → Front front start → Ready after l → Works locked l
      → After (tree.call_statement at e) start l true (before front (tree.call_statement at e) ++ calls op ∷ [])
  call_in_list front start l at e op after ends over r w = from (follows same front (tree.call_statement at e)) refl
    where
      at_behind : {end : Lock} → end ≡ behind → Front (Some (tree.call_statement at e)) end
      at_behind q s h k = q

      from : (b : Bool) → follows same front (tree.call_statement at e) ≡ b → After (tree.call_statement at e) start l true (before front (tree.call_statement at e) ++ calls op ∷ [])
      from true h =
          let f = followed front at e h in let q : start ≡ behind = over f.0 f.1 f.2 in
          let ms : before front (tree.call_statement at e) ≡ [] = ap (λ b. cond b [] (before_calls locked)) h in
          let go : Leads p written behind (calls op ∷ []) behind = on (follow op) nowhere in
          let t : Left start l true (calls op ∷ []) = record { lock = free; end = behind; leads = subst (λ z. Leads p written z (calls op ∷ []) behind) (sym q) go; ends = was_call; calm = tt; works = free_works locked; same_lock = λ h. absurd cc } in
          subst (λ z. After (tree.call_statement at e) start l true (z ++ calls op ∷ [])) (sym ms) (record { left = t; front = at_behind refl })
      from false h =
          let ms : before front (tree.call_statement at e) ≡ before_calls locked = ap (λ b. cond b [] (before_calls locked)) h in
          let t : Left l l true (before_calls locked ++ calls op ∷ []) = called_left op after l r w in
          subst (λ z. After (tree.call_statement at e) start l true (z ++ calls op ∷ [])) (sym ms) (record {
            left = record { lock = free; end = behind; leads = lifted ends (spawned locked op after l r w); ends = was_call; calm = tt; works = free_works locked; same_lock = λ h. absurd cc };
            front = at_behind refl;
          })

  other_in_list : (w : Way) (front : Option tree.Statement) (start l : Lock) (s : tree.Statement) (k : Bool) (es : List Event) → is_call_line s ≡ false → Ends start l → Leaves w l l k (before None s ++ es) → Afters w s start l k (before front s ++ es)
  other_in_list goes_on front start l s k es h ends t =
      subst (λ z. After s start l k (z ++ es)) (sym (not_call front s h)) (record { left = lift goes_on start l k (before None s ++ es) ends t; front = λ z e c. let q : s ≡ z = cc in absurd (let a : is_call_line s ≡ true = ap is_call_line q ∙ c in cc) })
  other_in_list returns front start l s k es h ends t = t

  -- a statement of a list, from what it is without one in front of it
  listed : {s : tree.Statement} {x : program.Statement} {es : List Event} {w : Way} (front : Option tree.Statement) (start : Lock) → Path before s x es w → (after : Bool) (l : Lock) → Ends start l → Front front start
      → Ready after l → Works locked l → Leaves w l l (holds_call x) (before None s ++ es) → Afters w s start l (holds_call x) (before front s ++ es)
  listed front start (call at e line receiver op arguments) after l ends over r v t = call_in_list front start l at e op after ends over r v
  listed front start (empty at line) after l ends over r v t = other_in_list goes_on front start l (tree.empty at) false [] refl ends t
  listed front start (of_line {s} {x} h) after l ends over r v t = other_in_list goes_on front start l s (holds_call x) (happens x) (line_no_call h) ends t
  listed front start (gives_back at e line u) after l ends over r v t = t
  listed {s} {x} {es} {w} front start (block at line d) after l ends over r v t = other_in_list w front start l s (holds_call x) es refl ends t
  listed {s} {x} {es} {w} front start (passed at e a line otherwise c y) after l ends over r v t = other_in_list w front start l s (holds_call x) es refl ends t
  listed {s} {x} {es} {w} front start (taken at e line otherwise c d) after l ends over r v t = other_in_list w front start l s (holds_call x) es refl ends t
  listed {s} {x} {es} {w} front start (one_branch at e a line c y d) after l ends over r v t = other_in_list w front start l s (holds_call x) es refl ends t
  listed {s} {x} {es} {w} front start (other_branch at e a line c y d) after l ends over r v t = other_in_list w front start l s (holds_call x) es refl ends t
  listed {s} {x} {es} {w} front start (repeated at e line d) after l ends over r v t = other_in_list w front start l s (holds_call x) es refl ends t
  listed {s} {x} {es} {w} front start (counted at e line site part b n d) after l ends over r v t = other_in_list w front start l s (holds_call x) es refl ends t

  module _ (q : Scope) (no_result : q.result ≡ None) where
    mutual
      statement : {s : tree.Statement} {x : program.Statement} {es : List Event} {w : Way} → Path before s x es w → (after : Bool) (l : Lock)
          → IsSeparated p written after x → StatementTyped p q x → Ready after l → Works locked l → Leaves w l l (holds_call x) (before None s ++ es)
      statement (empty at line) after l sep ty r v = stays after l false [] r v nowhere
      statement (of_line {s} {x} h) after l sep ty r v = line_left h after l (holds_call x) sep r v
      statement (call at e line receiver op arguments) after l sep ty r v = called_left op after l r v
      statement (gives_back at e line u) after l sep ty r v = let h = sym no_result ∙ ty.1 in absurd cc
      statement (block at line d) after l sep ty r v = statements d after l l (as_known l) (no_front l) sep ty r v
      statement (passed at e s line otherwise c x) after l sep ty r v = stays after l (is_some_of (calls_of x ++ [])) (evaluated c) r v (evaluated_leads p written after l c sep.0 r)
      statement (taken at e line otherwise c {s} {x} {es} {w} d) after l sep ty r v =
          let k = is_some_of (calls_of x ++ []) in
          let t = wider w (holds_call x) k l l (before None s ++ es) (λ h. some_left (calls_of x) [] h) (statement d after l sep.1 ty.1 r v) in
          joined w k (before None s ++ es) (evaluated_leads p written after l c sep.0 r) (λ h. refl) t
      statement (one_branch at e t line c y {s} {x} {es} {w} d) after l sep ty r v =
          let k = is_some_of (calls_of x ++ calls_of y) in
          let b = wider w (holds_call x) k l l (before None s ++ es) (λ h. some_left (calls_of x) (calls_of y) h) (statement d after l sep.1 ty.1 r v) in
          joined w k (before None s ++ es) (evaluated_leads p written after l c sep.0 r) (λ h. refl) b
      statement (other_branch at e s line c x {t} {y} {es} {w} d) after l sep ty r v =
          let k = is_some_of (calls_of x ++ calls_of y) in
          let b = wider w (holds_call y) k l l (before None t ++ es) (λ h. some_right (calls_of x) (calls_of y) h) (statement d after l sep.2 ty.2 r v) in
          joined w k (before None t ++ es) (evaluated_leads p written after l c sep.0 r) (λ h. refl) b
      statement (repeated at e line {c} {s} {x} {es} {w} d) after l sep ty r v =
          let k = holds_call x in
          turns d (after || k) k l l (as_known l) sep.0 sep.1 ty.1 (next after k l l r (ready_calm after l r) (λ h. refl)) v (λ m h. nowhere) (λ h. h) (λ h. or_right after k h)
      statement (counted at e line site part {start} {step} {c} {s} {x} {es} {w} b n d) after l sep ty r v =
          let k = holds_call (for_loop line site part start c step x) in
          let ready = next after k l l r (ready_calm after l r) (λ h. refl) in
          let t = turns d (after || k) k l l (as_known l) sep.1 sep.3 ty.3 ready v (λ m h. line_leads p written n (after || k) m sep.2 h)
          (λ h. some_right (calls_of step) (calls_of x) (some_right (calls_of start) (calls_of step ++ calls_of x) h)) (λ h. or_right after k h) in
          joined w k es (line_leads p written b (after || k) l sep.0 ready) (λ h. refl) t

      statements : {front : Option tree.Statement} {ss : tree.Statements} {xs : program.Statements} {es : List Event} {w : Way} → Paths before front ss xs es w → (after : Bool) (start l : Lock) → Ends start l → Front front start
          → AreSeparated p written after xs → StatementsTyped p q xs → Ready after l → Works locked l → Leaves w start l (is_some_of (calls_of_all xs)) es
      statements (none front) after start l ends over sep ty r v = lift goes_on start l false [] ends (stays after l false [] r v nowhere)
      statements (and_then front {s} {x} {ss} {xs} {es} {fs} {w} d ds) after start l ends over sep ty r v =
          let k = is_some_of (calls_of x ++ calls_of_all xs) in
          let a : After s start l (holds_call x) (before front s ++ es) = listed front start d after l ends over r v (statement d after l sep.0 ty.0 r v) in
          let t : Left start l (holds_call x) (before front s ++ es) = a.left in
          let more = statements ds (after || holds_call x) t.end t.lock t.ends a.front sep.1 ty.1 (next after (holds_call x) l t.lock r t.calm t.same_lock) t.works in
          joined w k fs t.leads (λ h. t.same_lock (some_left (calls_of x) (calls_of_all xs) h))
          (wider w (is_some_of (calls_of_all xs)) k t.end t.lock fs (λ h. some_right (calls_of x) (calls_of_all xs) h) more)
      statements (no_more front ss xs d) after start l ends over sep ty r v = statement d after l sep.0 ty.0 r v

      turns : {c : program.Expression} {s : tree.Statement} {x : program.Statement} {step es : List Event} {w : Way} → Turns before c s x step es w → (looped k : Bool) (start l : Lock) → Ends start l
          → IsClean p written looped c → IsSeparated p written looped x → StatementTyped p q x → Ready looped l → Works locked l → ((m : Lock) → Ready looped m → Leads p written m step m)
          → (k ≡ false → holds_call x ≡ false) → (k ≡ true → looped ≡ true) → Leaves w start l k es
      turns (leaves c s x step) looped k start l ends clean sep ty r v steps g f = lift goes_on start l k (evaluated c) ends (stays looped l k (evaluated c) r v (evaluated_leads p written looped l c clean r))
      turns (turn {c} {s} {x} {behind = step} {es} {fs} {w} d ds) looped k start l ends clean sep ty r v steps g f =
          let t : Left l l (holds_call x) (before None s ++ es) = statement d looped l sep ty r v in
          let ready = again looped k l t.lock r t.calm (λ h. t.same_lock (g h)) f in
          let more = turns ds looped k t.lock t.lock (as_known t.lock) clean sep ty ready t.works steps g f in
          joined w k ((before None s ++ es) ++ (step ++ fs)) (lifted ends (evaluated_leads p written looped l c clean r)) (λ h. refl)
          (joined w k (step ++ fs) t.leads (λ h. t.same_lock (g h)) (lift w t.end t.lock k (step ++ fs) t.ends (joined w k fs (steps t.lock ready) (λ h. refl) more)))
      turns (broken c step d) looped k start l ends clean sep ty r v steps g f = statement d looped l sep ty r v

    closed : (e m : Lock) → Ends e m → Calm m → Leads p written e (unlocks ∷ []) free
    closed e held (as_known l) c = on give_back nowhere
    closed e free (as_known l) c = on have_given_back nowhere
    closed e free was_call c = forgets (on have_given_back nowhere)
    closed e spawning (as_known l) c = absurd c
    closed e behind (as_known l) c = absurd c

    left_free : (e m : Lock) → Ends e m → m ≡ free → Leads p written e [] free
    left_free e m (as_known l) q = subst (λ z. Leads p written z [] free) (sym q) nowhere
    left_free e m was_call q = forgets nowhere

module _ (p : PlainProgram) (written : List FieldId) (same : tree.Expression → tree.Expression → Bool) (q : Scope) (no_result : q.result ≡ None) where
  pub locked_through : {ss : tree.Statements} {xs : program.Statements} {es : List Event} → Through (locked_guards same) ss xs es → AreSeparated p written false xs → StatementsTyped p q xs → Disciplined p written es
  locked_through (to_its_end d) sep ty =
      let t = statements p written true same q no_result d false held held (as_known held) (no_front p written true same held) sep ty tt tt in
      on takes (chained p written t.leads (closed p written true same q no_result t.end t.lock t.ends t.calm))
  locked_through (to_a_return d) sep ty = absurd (statements p written true same q no_result d false held held (as_known held) (no_front p written true same held) sep ty tt tt)

  pub free_through : {ss : tree.Statements} {xs : program.Statements} {es : List Event} → Through (free_guards same) ss xs es → AreSeparated p written true xs → StatementsTyped p q xs → Disciplined p written es
  free_through (to_its_end d) sep ty =
      let t = statements p written false same q no_result d true free free (as_known free) (no_front p written false same free) sep ty refl refl in
      chained p written t.leads (left_free p written false same q no_result t.end t.lock t.ends t.works)
  free_through (to_a_return d) sep ty = absurd (statements p written false same q no_result d true free free (as_known free) (no_front p written false same free) sep ty refl refl)
