-- What is told of an expression whose parts were evaluated one behind the other.
use Rattle.std.proofs.Common.{◌≡◌, ◌≢◌, Bool, true, false, ◌||◌, List, [], ◌∷◌, ◌++◌, Option, Result, Ok, Err, IfOk, OnOk, sym, ap, ap₂, subst, ◌∙◌, append_assoc, append-nil, ℤ}
use Rattle.std.proofs.lemmas.Bool.{or_right, or_left}
use Rattle.std.specs.Prelude.{slice_get}
use Rattle.ca_tree.specs.declared.tree.BinaryOp.{BinaryOp}
use Rattle.ca_tree.specs.declared.tree.UnaryOp.{UnaryOp}
use Rattle.ca_program.specs.declared.program.FieldId.{FieldId}
use Rattle.ca_program.specs.declared.program.FunctionId.{FunctionId}
use Rattle.ca_program.specs.Plain.{PlainProgram, Expression, Expressions, own_item, read_item, value_call, unary, binary}
use Rattle.ca_program.specs.Plain as plain
use Rattle.ca_meaning.specs.ProgramTyped.{field_info}
use Rattle.ca_norm.specs.Terms.{PlainTerm, read, read_at, select, terms_of}
use Rattle.ca_norm.specs.Terms.{result as call_result}
use Rattle.ca_shared_terms.specs.declared.errors.ExecutionError.{ExecutionError}
use Rattle.ca_shared_terms.specs.declared.errors.ExecutionError.TheVariants.{Large}
use Rattle.ca_shared_terms.specs.Heavy.{is_heavy}
use Rattle.ca_symbolic.specs.States.{State, PlainDemand, term_at, demand, not_null, in_range, calls}
use Rattle.ca_symbolic.specs.Execution.{sort_in, sort_of_result, divisor, operation, signed_term, term_of}
use Rattle.ca_symbolic.specs.Demands.{right_guard, terms_in, demands_in, demands_in_all}
use Rattle.ca_symbolic.specs.Demanded.{Demanded, with_demands, under}
use Rattle.ca_symbolic.specs.clauses.Refusals.{refused_guard, refused, refused_all}
use Rattle.ca_symbolic.proofs.Calling.{call_term, call_demands}
use Rattle.ca_symbolic.proofs.Flags.{always, again}
use Rattle.ca_forms.proofs.Told.{on_ok}

-- what evaluation tells of an expression: what was demanded before it, and what is behind it
pub record Valued (p : PlainProgram) (s : State) (d now : Demanded) (r : Result PlainTerm ExecutionError) (x : Expression) : Type 0 where
  pub made : IfOk r (λ t. t ≡ term_of p s x)
  pub demands : OnOk r (now ≡ with_demands d (demands_in p s d.guard x))
  pub light : OnOk r (refused p s d.guard x ≡ false)
  pub large : r ≡ Err Large → refused p s d.guard x ≡ true

pub guard_of : (d d1 : Demanded) (ds : List PlainDemand) → d1 ≡ with_demands d ds → d1.guard ≡ d.guard
guard_of d d1 ds is = ap (λ (z : Demanded). z.guard) is

-- demands behind others
pub behind : (d d1 d2 : Demanded) (ds es : List PlainDemand) → d1 ≡ with_demands d ds → d2 ≡ with_demands d1 es → d2 ≡ with_demands d (ds ++ es)
behind d d1 d2 ds es a b =
    ap₂ (λ (k : PlainTerm) (l : List PlainDemand). record { guard = k; list = l }) (ap (λ (z : Demanded). z.guard) b ∙ ap (λ (z : Demanded). z.guard) a)
    (ap (λ (z : Demanded). z.list) b ∙ (ap (λ (l : List PlainDemand). l ++ es) (ap (λ (z : Demanded). z.list) a) ∙ append_assoc d.list ds es))

-- an operator's term, and the condition under which its right side stands
abbrev whole : PlainProgram → State → BinaryOp → Expression → Expression → Bool
whole p s op a b = is_heavy (operation op (term_of p s a) (term_of p s b) (divisor b))

abbrev inside : PlainProgram → State → Demanded → BinaryOp → Expression → PlainTerm
inside p s d op a = right_guard op d.guard (term_of p s a)

leaf_made : {F : Type 0} (r : Result PlainTerm ExecutionError) (q : Result PlainTerm F) (v w : PlainTerm) → IfOk r (λ t. q ≡ Ok t) → IfOk q (λ t. t ≡ v) → v ≡ w → IfOk r (λ t. t ≡ w)
leaf_made (Ok t) q v w e h is = subst (λ z. IfOk z (λ u. u ≡ v)) e h ∙ is
leaf_made (Err e) q v w f h is = tt

leaf_light : {F : Type 0} (r : Result PlainTerm ExecutionError) (q : Result PlainTerm F) (b c : Bool) → IfOk r (λ t. q ≡ Ok t) → OnOk q (b ≡ false) → c ≡ b → OnOk r (c ≡ false)
leaf_light (Ok t) q b c e h is = is ∙ subst (λ z. OnOk z (b ≡ false)) e h
leaf_light (Err e) q b c f h is = tt

module _ (p : PlainProgram) (s : State) (d : Demanded) (x : Expression) where
  -- one without parts
  pub leaf_told : {F : Type 0} (r : Result PlainTerm ExecutionError) (q : Result PlainTerm F) (y : Expression) (v : PlainTerm) → x ≡ y → demands_in p s d.guard y ≡ [] → v ≡ term_of p s y →
      IfOk r (λ t. q ≡ Ok t) → IfOk q (λ t. t ≡ v) → OnOk q (refused p s d.guard y ≡ false) → r ≢ Err Large → Valued p s d d r x
  leaf_told r q y v is nothing term passed made light small = record {
    made = leaf_made r q v (term_of p s x) passed made (term ∙ sym (ap (term_of p s) is));
    demands = always r (d ≡ with_demands d (demands_in p s d.guard x))
        (ap (λ (l : List PlainDemand). record { guard = d.guard; list = l }) (sym (append-nil d.list) ∙ ap (λ (ds : List PlainDemand). d.list ++ ds) (sym (ap (demands_in p s d.guard) is ∙ nothing))));
    light = leaf_light r q (refused p s d.guard y) (refused p s d.guard x) passed light (ap (refused p s d.guard) is);
    large = λ told. absurd (small told);
  }

  -- where a part stops, and the whole is refused if it was refused
  pub stopped : (now : Demanded) (r : Result PlainTerm ExecutionError) (f e : ExecutionError) → r ≡ Err f → f ≡ e → (e ≡ Large → refused p s d.guard x ≡ true) → Valued p s d now r x
  stopped now r f e is same heavy = record {
    made = rw is tt;
    demands = rw is tt;
    light = rw is tt;
    large = λ told. heavy (again r f e Large is same told);
  }

  -- where the last call makes the term
  ended : (now : Demanded) (r : Result PlainTerm ExecutionError) (t : PlainTerm) → t ≡ term_of p s x → refused p s d.guard x ≡ is_heavy t →
      IfOk r (λ u. u ≡ t) → OnOk r (is_heavy t ≡ false) → (r ≡ Err Large → is_heavy t ≡ true) → OnOk r (now ≡ with_demands d (demands_in p s d.guard x)) → Valued p s d now r x
  ended now r t term refusal made light large demands = record {
    made = subst (λ (z : PlainTerm). IfOk r (λ u. u ≡ z)) term made;
    demands = demands;
    light = subst (λ b. OnOk r (b ≡ false)) (sym refusal) light;
    large = λ told. refusal ∙ large told;
  }

  same_demands : (now : Demanded) (y : Expression) → x ≡ y → now ≡ with_demands d (demands_in p s d.guard y) → now ≡ with_demands d (demands_in p s d.guard x)
  same_demands now y is h = h ∙ ap (with_demands d) (sym (ap (demands_in p s d.guard) is))

  module _ (f : FieldId) (i : Expression) (is : x ≡ own_item f i) where
    pub own_item_first : refused p s d.guard i ≡ true → refused p s d.guard x ≡ true
    own_item_first h = ap (refused p s d.guard) is ∙ or_left (refused p s d.guard i) (is_heavy (term_of p s (own_item f i))) h

    pub own_item_told : (t : PlainTerm) (d1 now : Demanded) (r : Result PlainTerm ExecutionError) →
        t ≡ term_of p s i → d1 ≡ with_demands d (demands_in p s d.guard i) → refused p s d.guard i ≡ false →
        IfOk r (λ u. u ≡ select (term_at s.fields f.field) t) → OnOk r (is_heavy (select (term_at s.fields f.field) t) ≡ false) →
        (r ≡ Err Large → is_heavy (select (term_at s.fields f.field) t) ≡ true) → OnOk r (now ≡ with_demands d1 (demand d1.guard (in_range f) (t ∷ []) ∷ [])) → Valued p s d now r x
    own_item_told t d1 now r named first quiet made light large last =
        let term : select (term_at s.fields f.field) t ≡ term_of p s (own_item f i) = ap (select (term_at s.fields f.field)) named in
        let asked : ◌≡◌ {A = List PlainDemand} (demand d1.guard (in_range f) (t ∷ []) ∷ []) (demand d.guard (in_range f) (term_of p s i ∷ []) ∷ []) =
        ap₂ (λ (k u : PlainTerm). demand k (in_range f) (u ∷ []) ∷ []) (guard_of d d1 (demands_in p s d.guard i) first) named in
        ended now r (select (term_at s.fields f.field) t) (term ∙ sym (ap (term_of p s) is))
        (ap (refused p s d.guard) is ∙ (ap (λ b. b || is_heavy (term_of p s (own_item f i))) quiet ∙ ap is_heavy (sym term))) made light large
        (on_ok r _ _ (λ b. same_demands now (own_item f i) is (behind d d1 now (demands_in p s d.guard i) (demand d.guard (in_range f) (term_of p s i ∷ []) ∷ []) first (b ∙ ap (with_demands d1) asked))) last)

  module _ (o : Expression) (f : FieldId) (is : x ≡ plain.read o f) where
    pub read_first : refused p s d.guard o ≡ true → refused p s d.guard x ≡ true
    read_first h = ap (refused p s d.guard) is ∙ or_left (refused p s d.guard o) (is_heavy (term_of p s (plain.read o f))) h

    pub read_told : (t : PlainTerm) (d1 now : Demanded) (r : Result PlainTerm ExecutionError) →
        t ≡ term_of p s o → d1 ≡ with_demands d (demands_in p s d.guard o) → refused p s d.guard o ≡ false →
        IfOk r (λ u. u ≡ read (sort_in (field_info p f)) t f.class.0 f.field) → OnOk r (is_heavy (read (sort_in (field_info p f)) t f.class.0 f.field) ≡ false) →
        (r ≡ Err Large → is_heavy (read (sort_in (field_info p f)) t f.class.0 f.field) ≡ true) → OnOk r (now ≡ with_demands d1 (demand d1.guard not_null (t ∷ []) ∷ [])) → Valued p s d now r x
    read_told t d1 now r named first quiet made light large last =
        let term : read (sort_in (field_info p f)) t f.class.0 f.field ≡ term_of p s (plain.read o f) = ap (λ (u : PlainTerm). read (sort_in (field_info p f)) u f.class.0 f.field) named in
        let asked : ◌≡◌ {A = List PlainDemand} (demand d1.guard not_null (t ∷ []) ∷ []) (demand d.guard not_null (term_of p s o ∷ []) ∷ []) =
        ap₂ (λ (k u : PlainTerm). demand k not_null (u ∷ []) ∷ []) (guard_of d d1 (demands_in p s d.guard o) first) named in
        ended now r (read (sort_in (field_info p f)) t f.class.0 f.field) (term ∙ sym (ap (term_of p s) is))
        (ap (refused p s d.guard) is ∙ (ap (λ b. b || is_heavy (term_of p s (plain.read o f))) quiet ∙ ap is_heavy (sym term))) made light large
        (on_ok r _ _ (λ b. same_demands now (plain.read o f) is (behind d d1 now (demands_in p s d.guard o) (demand d.guard not_null (term_of p s o ∷ []) ∷ []) first (b ∙ ap (with_demands d1) asked))) last)

  module _ (o : Expression) (f : FieldId) (i : Expression) (is : x ≡ read_item o f i) where
    pub read_item_first : refused p s d.guard o ≡ true → refused p s d.guard x ≡ true
    read_item_first h = ap (refused p s d.guard) is ∙ or_left (refused p s d.guard o) (refused p s d.guard i || is_heavy (term_of p s (read_item o f i))) h

    -- the object, which isn't null, and then the index
    module _ (t : PlainTerm) (d1 d2 : Demanded) (named : t ≡ term_of p s o) (first : d1 ≡ with_demands d (demands_in p s d.guard o)) (next : d2 ≡ with_demands d1 (demand d1.guard not_null (t ∷ []) ∷ [])) where
      item_guarded : d1.guard ≡ d.guard
      item_guarded = guard_of d d1 (demands_in p s d.guard o) first

      item_kept : d2.guard ≡ d.guard
      item_kept = guard_of d1 d2 (demand d1.guard not_null (t ∷ []) ∷ []) next ∙ item_guarded

      pub read_item_second : refused p s d2.guard i ≡ true → refused p s d.guard x ≡ true
      read_item_second h =
          ap (refused p s d.guard) is
          ∙ or_right (refused p s d.guard o) (refused p s d.guard i || is_heavy (term_of p s (read_item o f i)))
          (or_left (refused p s d.guard i) (is_heavy (term_of p s (read_item o f i))) (ap (λ k. refused p s k i) (sym item_kept) ∙ h))

      pub read_item_told : (u v : PlainTerm) (d3 now : Demanded) (r : Result PlainTerm ExecutionError) → u ≡ t → v ≡ term_of p s i → d3 ≡ with_demands d2 (demands_in p s d2.guard i) →
          refused p s d.guard o ≡ false → refused p s d2.guard i ≡ false →
          IfOk r (λ w. w ≡ read_at (sort_in (field_info p f)) u f.class.0 f.field v) → OnOk r (is_heavy (read_at (sort_in (field_info p f)) u f.class.0 f.field v) ≡ false) →
          (r ≡ Err Large → is_heavy (read_at (sort_in (field_info p f)) u f.class.0 f.field v) ≡ true) → OnOk r (now ≡ with_demands d3 (demand d3.guard (in_range f) (v ∷ []) ∷ [])) → Valued p s d now r x
      read_item_told u v d3 now r same index third quiet calm made light large last =
          let term : read_at (sort_in (field_info p f)) u f.class.0 f.field v ≡ term_of p s (read_item o f i) = ap₂ (λ (y z : PlainTerm). read_at (sort_in (field_info p f)) y f.class.0 f.field z) (same ∙ named) index in
          let inner : List PlainDemand = demands_in p s d.guard i in
          let ranged : List PlainDemand = demand d.guard (in_range f) (term_of p s i ∷ []) ∷ [] in
          let held : ◌≡◌ {A = List PlainDemand} (demand d1.guard not_null (t ∷ []) ∷ []) (demand d.guard not_null (term_of p s o ∷ []) ∷ []) =
          ap₂ (λ (k y : PlainTerm). demand k not_null (y ∷ []) ∷ []) item_guarded named in
          let asked : ◌≡◌ {A = List PlainDemand} (demand d3.guard (in_range f) (v ∷ []) ∷ []) ranged =
          ap₂ (λ (k y : PlainTerm). demand k (in_range f) (y ∷ []) ∷ []) (guard_of d2 d3 (demands_in p s d2.guard i) third ∙ item_kept) index in
          ended now r (read_at (sort_in (field_info p f)) u f.class.0 f.field v) (term ∙ sym (ap (term_of p s) is))
          (ap (refused p s d.guard) is
          ∙ (ap (λ b. b || (refused p s d.guard i || is_heavy (term_of p s (read_item o f i)))) quiet
          ∙ (ap (λ b. b || is_heavy (term_of p s (read_item o f i))) (ap (λ k. refused p s k i) (sym item_kept) ∙ calm) ∙ ap is_heavy (sym term)))) made light large
          (on_ok r _ _ (λ b. same_demands now (read_item o f i) is (behind d d1 now (demands_in p s d.guard o) (demand d.guard not_null (term_of p s o ∷ []) ∷ (inner ++ ranged)) first
          (behind d1 d2 now (demand d.guard not_null (term_of p s o ∷ []) ∷ []) (inner ++ ranged) (next ∙ ap (with_demands d1) held)
          (behind d2 d3 now inner ranged (third ∙ ap (λ k. with_demands d2 (demands_in p s k i)) item_kept) (b ∙ ap (with_demands d3) asked))))) last)

  module _ (o : Expression) (m : FunctionId) (es : Expressions) (is : x ≡ value_call o m es) where
    pub call_first : refused p s d.guard o ≡ true → refused p s d.guard x ≡ true
    call_first h = ap (refused p s d.guard) is ∙ or_left (refused p s d.guard o) (refused_all p s d.guard es || is_heavy (term_of p s (value_call o m es))) h

    module _ (d1 : Demanded) (first : d1 ≡ with_demands d (demands_in p s d.guard o)) where
      call_calm : refused_all p s d.guard es ≡ refused_all p s d1.guard es
      call_calm = ap (λ k. refused_all p s k es) (sym (guard_of d d1 (demands_in p s d.guard o) first))

      pub call_second : refused_all p s d1.guard es ≡ true → refused p s d.guard x ≡ true
      call_second h =
          ap (refused p s d.guard) is
          ∙ or_right (refused p s d.guard o) (refused_all p s d.guard es || is_heavy (term_of p s (value_call o m es)))
          (or_left (refused_all p s d.guard es) (is_heavy (term_of p s (value_call o m es))) (call_calm ∙ h))

      pub call_told : (t : PlainTerm) (ts : List PlainTerm) (d2 now : Demanded) (r : Result PlainTerm ExecutionError) → t ≡ term_of p s o → ts ≡ terms_in p s es →
          d2 ≡ with_demands d1 (demands_in_all p s d1.guard es) → refused p s d.guard o ≡ false → refused_all p s d1.guard es ≡ false →
          IfOk r (λ u. u ≡ call_result (sort_of_result (slice_get p.functions m.0)) m.0 t (terms_of ts)) → OnOk r (is_heavy (call_result (sort_of_result (slice_get p.functions m.0)) m.0 t (terms_of ts)) ≡ false) →
          (r ≡ Err Large → is_heavy (call_result (sort_of_result (slice_get p.functions m.0)) m.0 t (terms_of ts)) ≡ true) →
          OnOk r (now ≡ with_demands d2 (demand d2.guard not_null (t ∷ []) ∷ demand d2.guard (calls m) (t ∷ ts) ∷ [])) → Valued p s d now r x
      call_told t ts d2 now r object list second quiet still made light large last =
          let term = call_term p s o es m t ts object list in
          ended now r (call_result (sort_of_result (slice_get p.functions m.0)) m.0 t (terms_of ts)) (term ∙ sym (ap (term_of p s) is))
          (ap (refused p s d.guard) is
          ∙ (ap (λ b. b || (refused_all p s d.guard es || is_heavy (term_of p s (value_call o m es)))) quiet
          ∙ (ap (λ b. b || is_heavy (term_of p s (value_call o m es))) (call_calm ∙ still) ∙ ap is_heavy (sym term)))) made light large
          (on_ok r _ _ (λ b. same_demands now (value_call o m es) is (call_demands p s d d1 d2 now o es (calls m) t ts first second object list b)) last)

  module _ (op : UnaryOp) (a : Expression) (is : x ≡ unary op a) where
    pub unary_first : refused p s d.guard a ≡ true → refused p s d.guard x ≡ true
    unary_first h = ap (refused p s d.guard) is ∙ or_left (refused p s d.guard a) (is_heavy (signed_term op (term_of p s a))) h

    pub unary_told : (t : PlainTerm) (now : Demanded) (r : Result PlainTerm ExecutionError) → t ≡ term_of p s a → now ≡ with_demands d (demands_in p s d.guard a) → refused p s d.guard a ≡ false →
        IfOk r (λ u. u ≡ signed_term op t) → OnOk r (is_heavy (signed_term op t) ≡ false) → (r ≡ Err Large → is_heavy (signed_term op t) ≡ true) → Valued p s d now r x
    unary_told t now r named first quiet made light large =
        let term : signed_term op t ≡ term_of p s (unary op a) = ap (signed_term op) named in
        ended now r (signed_term op t) (term ∙ sym (ap (term_of p s) is))
        (ap (refused p s d.guard) is ∙ (ap (λ b. b || is_heavy (signed_term op (term_of p s a))) quiet ∙ ap is_heavy (sym term))) made light large
        (always r (now ≡ with_demands d (demands_in p s d.guard x)) (same_demands now (unary op a) is first))

  module _ (op : BinaryOp) (a b : Expression) (is : x ≡ binary op a b) where
    pub binary_first : refused p s d.guard a ≡ true → refused p s d.guard x ≡ true
    binary_first h = ap (refused p s d.guard) is ∙ or_left (refused p s d.guard a) (refused_guard op d.guard (term_of p s a) || (refused p s (inside p s d op a) b || whole p s op a b)) h

    module _ (t : PlainTerm) (d1 : Demanded) (named : t ≡ term_of p s a) (first : d1 ≡ with_demands d (demands_in p s d.guard a)) where
      binary_guarded : d1.guard ≡ d.guard
      binary_guarded = guard_of d d1 (demands_in p s d.guard a) first

      binary_entered : refused_guard op d.guard (term_of p s a) ≡ refused_guard op d1.guard t
      binary_entered = ap₂ (λ (k u : PlainTerm). refused_guard op k u) (sym binary_guarded) (sym named)

      pub binary_guard : refused_guard op d1.guard t ≡ true → refused p s d.guard x ≡ true
      binary_guard h =
          ap (refused p s d.guard) is
          ∙ or_right (refused p s d.guard a) (refused_guard op d.guard (term_of p s a) || (refused p s (inside p s d op a) b || whole p s op a b))
          (or_left (refused_guard op d.guard (term_of p s a)) (refused p s (inside p s d op a) b || whole p s op a b) (binary_entered ∙ h))

      module _ (d2 : Demanded) (next : d2 ≡ under d1 (right_guard op d1.guard t)) where
        binary_opened : d2.guard ≡ inside p s d op a
        binary_opened = ap (λ (z : Demanded). z.guard) next ∙ ap₂ (λ (k u : PlainTerm). right_guard op k u) binary_guarded named

        binary_calm : refused p s (inside p s d op a) b ≡ refused p s d2.guard b
        binary_calm = ap (λ k. refused p s k b) (sym binary_opened)

        pub binary_second : refused p s d2.guard b ≡ true → refused p s d.guard x ≡ true
        binary_second h =
            ap (refused p s d.guard) is
            ∙ or_right (refused p s d.guard a) (refused_guard op d.guard (term_of p s a) || (refused p s (inside p s d op a) b || whole p s op a b))
            (or_right (refused_guard op d.guard (term_of p s a)) (refused p s (inside p s d op a) b || whole p s op a b) (or_left (refused p s (inside p s d op a) b) (whole p s op a b) (binary_calm ∙ h)))

        pub binary_told : (l u outer : PlainTerm) (n : Option ℤ) (d3 now : Demanded) (r : Result PlainTerm ExecutionError) → l ≡ t → u ≡ term_of p s b → outer ≡ d1.guard → n ≡ divisor b →
            d3 ≡ with_demands d2 (demands_in p s d2.guard b) → refused p s d.guard a ≡ false → refused_guard op d1.guard t ≡ false → refused p s d2.guard b ≡ false →
            IfOk r (λ v. v ≡ operation op l u n) → OnOk r (is_heavy (operation op l u n) ≡ false) → (r ≡ Err Large → is_heavy (operation op l u n) ≡ true) →
            OnOk r (now ≡ under d3 outer) → Valued p s d now r x
        binary_told l u outer n d3 now r same right outside literal third quiet unguarded still made light large last =
            let term : operation op l u n ≡ term_of p s (binary op a b) =
            ap₂ (λ (y z : PlainTerm). operation op y z n) (same ∙ named) right ∙ ap (operation op (term_of p s a) (term_of p s b)) literal in
            let list : d3.list ≡ d.list ++ (demands_in p s d.guard a ++ demands_in p s (inside p s d op a) b) =
            ap (λ (z : Demanded). z.list) third
            ∙ (ap₂ (λ (y : List PlainDemand) (k : PlainTerm). y ++ demands_in p s k b) (ap (λ (z : Demanded). z.list) next ∙ ap (λ (z : Demanded). z.list) first) binary_opened
            ∙ append_assoc d.list (demands_in p s d.guard a) (demands_in p s (inside p s d op a) b)) in
            ended now r (operation op l u n) (term ∙ sym (ap (term_of p s) is))
            (ap (refused p s d.guard) is
            ∙ (ap (λ z. z || (refused_guard op d.guard (term_of p s a) || (refused p s (inside p s d op a) b || whole p s op a b))) quiet
            ∙ (ap (λ z. z || (refused p s (inside p s d op a) b || whole p s op a b)) (binary_entered ∙ unguarded) ∙ (ap (λ z. z || whole p s op a b) (binary_calm ∙ still) ∙ ap is_heavy (sym term))))) made light large
            (on_ok r _ _ (λ e. same_demands now (binary op a b) is
            (ap₂ (λ (k : PlainTerm) (y : List PlainDemand). record { guard = k; list = y }) (ap (λ (z : Demanded). z.guard) e ∙ (outside ∙ binary_guarded)) (ap (λ (z : Demanded). z.list) e ∙ list))) last)
