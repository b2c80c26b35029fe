-- Which operations take a lock.
use Rattle.std.proofs.Common.{zero, suc, ◌≡◌, Bool, true, false, ◌||◌, List, [], ◌∷◌, ◌++◌, refl, sym, ap, ap₂, ◌∙◌, subst, true≢false, arith}
use Rattle.std.specs.Prelude.{Contains}
use Rattle.std.specs.List.{list_any}
use Rattle.std.specs.Cmp.{both_ways}
use Rattle.std.proofs.lemmas.Bool.{or_cases, or_left, or_right, or_parts}
use Rattle.std.proofs.lemmas.List.Elements.{Contains-append_left, Contains-append_right}
use Rattle.ca_lists.proofs.Members.{has_first}
use Rattle.ca_program.specs.declared.program.FieldId.{FieldId}
use Rattle.ca_program.specs.declared.program.OpId.{OpId}
use Rattle.ca_program.specs.Plain.{PlainProgram, Statements}
use Rattle.ca_parallel.specs.Bodies.{targets_of_all, reads_of_body, functions_of_body}
use Rattle.ca_parallel.specs.Extents.{Extent, IsExtentOf, Writes, operation_body}
use Rattle.ca_parallel.specs.Separable.{is_some_of}
use Rattle.ca_parallel.specs.Free.{IsFree}
use Rattle.ca_section.specs.Offences.{is_written}
use Rattle.ca_section.specs.Readers.{known, touched_by_any}
use Rattle.ca_section.specs.TakesLock.{hold_target, takes_lock}
use Rattle.ca_section.proofs.Fields.{written_decided}
use Rattle.ca_section.proofs.Members.{pick}
use Rattle.ca_section.proofs.Touching.{Touched, by_field, by_function, body_touches, body_touched}

any_of : (test : FieldId → Bool) (fs : List FieldId) (f : FieldId) → Contains fs f → test f ≡ true → list_any test fs ≡ true
any_of test [] f (k, below, is) e = absurd (omega (arith, below))
any_of test (g ∷ gs) f (zero, below, is) e = or_left (test g) (list_any test gs) (ap test is ∙ e)
any_of test (g ∷ gs) f (suc k, below, is) e = or_right (test g) (list_any test gs) (any_of test gs f (k, omega (arith, below), is) e)

record OneOf (test : FieldId → Bool) (fs : List FieldId) : Type 0 where
  field : FieldId
  among : Contains fs field
  is : test field ≡ true

one_of : (test : FieldId → Bool) (fs : List FieldId) → list_any test fs ≡ true → OneOf test fs
one_of test [] e = absurd cc
one_of test (g ∷ gs) e = pick (or_cases (test g) (list_any test gs) e) (λ h. record { field = g; among = has_first g gs; is = h })
    (λ h. let o = one_of test gs h in record { field = o.field; among = Contains-append_right (g ∷ []) gs o.field o.among; is = o.is })

-- where no value method has a mark, the fields alone count
fields_alone : (written : List FieldId) (ss : Statements) → touched_by_any (known written []) ss ≡ list_any (is_written written) (reads_of_body ss)
fields_alone written ss = both_ways (touched_by_any (known written []) ss) (list_any (is_written written) (reads_of_body ss)) (λ t. from (body_touches (known written []) ss t))
    (λ a. let o = one_of (is_written written) (reads_of_body ss) a in body_touched (known written []) ss (by_field o.field o.among o.is))
  where
    from : Touched (known written []) (reads_of_body ss) (functions_of_body ss) → list_any (is_written written) (reads_of_body ss) ≡ true
    from (by_field f c w) = any_of (is_written written) (reads_of_body ss) f c w
    from (by_function m c r) = absurd cc

no_targets : (fs : List FieldId) → is_some_of fs ≡ false → fs ≡ []
no_targets [] e = refl
no_targets (f ∷ fs) e = absurd cc

module _ (p : PlainProgram) (op : OpId) where
  abbrev body : Statements
  body = operation_body p op

  pub free : (written : List FieldId) → takes_lock written body ≡ false → (targets_of_all body ≡ []) × IsFree p written op
  free written e = let n = or_parts (hold_target body) (list_any (is_written written) (reads_of_body body)) e in let none : targets_of_all body ≡ [] = no_targets (targets_of_all body) n.0 in (
    none,
    record {
      untouched = λ f c w. let d : Contains (reads_of_body body) f = subst (λ (fs : List FieldId). Contains (fs ++ reads_of_body body) f) none c in
          true≢false (sym (any_of (is_written written) (reads_of_body body) f d ((written_decided written f).1 w)) ∙ n.1);
    },
  )

  a_target : (x : Extent) (roots : List OpId) → IsExtentOf p roots x → Contains x.ops op → (fs : List FieldId) → targets_of_all body ≡ fs → is_some_of fs ≡ true → IsFree p x.written op → ⊥
  a_target x roots is inside [] e q free = absurd cc
  a_target x roots is inside (f ∷ fs) e q free =
      let t : Contains (targets_of_all body) f = subst (λ (gs : List FieldId). Contains gs f) (sym e) (has_first f fs) in
      let w : Writes p roots f = record { op = op; invoked = (is.ops op).0 inside; target = t } in
      free.untouched f (Contains-append_left (targets_of_all body) (reads_of_body body) f t) ((is.written f).1 w)

  a_read : (written : List FieldId) → list_any (is_written written) (reads_of_body body) ≡ true → IsFree p written op → ⊥
  a_read written e free =
      let o = one_of (is_written written) (reads_of_body body) e in
      free.untouched o.field (Contains-append_right (targets_of_all body) (reads_of_body body) o.field o.among) ((written_decided written o.field).0 o.is)

  pub locked : (x : Extent) (roots : List OpId) → IsExtentOf p roots x → Contains x.ops op → takes_lock x.written body ≡ true → ¬ IsFree p x.written op
  locked x roots is inside e free = pick (or_cases (hold_target body) (list_any (is_written x.written) (reads_of_body body)) e)
      (λ t. a_target x roots is inside (targets_of_all body) refl t free) (λ t. a_read x.written t free)

  -- the answer by each of the two tests

  pub by_target : (written : List FieldId) (ss : Statements) (a : Bool) → ss ≡ body → a ≡ hold_target ss → a ≡ true → true ≡ takes_lock written body
  by_target written ss a s e t = sym (or_left (hold_target body) (list_any (is_written written) (reads_of_body body)) (sym (e ∙ ap hold_target s) ∙ t))

  pub by_reads : (written read : List FieldId) (ss : Statements) (a b : Bool) → ss ≡ body → read ≡ written → a ≡ hold_target ss → b ≡ touched_by_any (known read []) ss → a ≡ false → b ≡ takes_lock written body
  by_reads written read ss a b s r e f n =
      let none : hold_target body ≡ false = sym (e ∙ ap hold_target s) ∙ n in
      let read_one : b ≡ list_any (is_written written) (reads_of_body body) = f ∙ (ap₂ (λ w ys. touched_by_any (known w []) ys) r s ∙ fields_alone written body) in
      read_one ∙ ap (λ z. z || list_any (is_written written) (reads_of_body body)) (sym none)
