-- What a call of a value method is the term of, and what it and a call of an operation demand.
use Rattle.std.proofs.Common.{◌≡◌, List, [], ◌∷◌, ◌++◌, refl, sym, ap, ap₂, ◌∙◌, append_assoc}
use Rattle.std.specs.Prelude.{slice_get}
use Rattle.ca_program.specs.declared.program.FunctionId.{FunctionId}
use Rattle.ca_program.specs.Plain.{PlainProgram, Expression, Expressions, value_call, no_expressions, expression_and}
use Rattle.ca_norm.specs.Terms.{PlainTerm, term_and}
use Rattle.ca_norm.specs.Terms as term
use Rattle.ca_symbolic.specs.States.{State, DemandKind, PlainDemand, demand, not_null}
use Rattle.ca_symbolic.specs.Execution.{sort_of_result, term_of, terms_of}
use Rattle.ca_symbolic.specs.Demands.{terms_in, demands_in, demands_in_all}
use Rattle.ca_symbolic.specs.Demanded.{Demanded, with_demands}

pub terms_are : (p : PlainProgram) (s : State) (es : Expressions) → terms_of p s es ≡ term.terms_of (terms_in p s es)
terms_are p s no_expressions = refl
terms_are p s (expression_and e es) = ap (term_and (term_of p s e)) (terms_are p s es)

pub call_demands : (p : PlainProgram) (s : State) (d0 d1 d2 d3 : Demanded) (e : Expression) (es : Expressions) (kind : DemandKind) (t : PlainTerm) (ts : List PlainTerm) →
    d1 ≡ with_demands d0 (demands_in p s d0.guard e) → d2 ≡ with_demands d1 (demands_in_all p s d1.guard es) → t ≡ term_of p s e → ts ≡ terms_in p s es →
    d3 ≡ with_demands d2 (demand d2.guard not_null (t ∷ []) ∷ demand d2.guard kind (t ∷ ts) ∷ []) →
    d3 ≡ with_demands d0 (demands_in p s d0.guard e ++ (demands_in_all p s d0.guard es ++ (demand d0.guard not_null (term_of p s e ∷ []) ∷ demand d0.guard kind (term_of p s e ∷ terms_in p s es) ∷ [])))
call_demands p s d0 d1 d2 d3 e es kind t ts a b x y z =
    let g = d0.guard in
    let D : List PlainDemand = demands_in p s d0.guard e in
    let E : List PlainDemand = demands_in_all p s d0.guard es in
    let last : List PlainDemand = demand d0.guard not_null (term_of p s e ∷ []) ∷ demand d0.guard kind (term_of p s e ∷ terms_in p s es) ∷ [] in
    let one : d1.guard ≡ d0.guard = ap (λ (d : Demanded). d.guard) a in
    let two : d2.guard ≡ d0.guard = ap (λ (d : Demanded). d.guard) b ∙ one in
    let first : d1.list ≡ d0.list ++ D = ap (λ (d : Demanded). d.list) a in
    let second : d2.list ≡ (d0.list ++ D) ++ E = ap (λ (d : Demanded). d.list) b ∙ ap₂ (λ l k. l ++ demands_in_all p s k es) first one in
    let tail : ◌≡◌ {A = List PlainDemand} (demand d2.guard not_null (t ∷ []) ∷ demand d2.guard kind (t ∷ ts) ∷ []) last =
    ap (λ k. demand k not_null (t ∷ []) ∷ demand k kind (t ∷ ts) ∷ []) two
    ∙ ap₂ (λ u us. demand g not_null (u ∷ []) ∷ demand g kind (u ∷ us) ∷ []) x y in
    let list : d3.list ≡ d0.list ++ (D ++ (E ++ last)) =
    ap (λ (d : Demanded). d.list) z ∙ (ap₂ (λ l k. l ++ k) second tail ∙ (append_assoc (d0.list ++ D) E last ∙ append_assoc d0.list D (E ++ last))) in
    ap₂ (λ (k : PlainTerm) (l : List PlainDemand). record { guard = k; list = l }) (ap (λ (d : Demanded). d.guard) z ∙ two) list

pub call_term : (p : PlainProgram) (s : State) (e : Expression) (es : Expressions) (m : FunctionId) (t : PlainTerm) (ts : List PlainTerm) → t ≡ term_of p s e → ts ≡ terms_in p s es →
    term.result (sort_of_result (slice_get p.functions m.0)) m.0 t (term.terms_of ts) ≡ term_of p s (value_call e m es)
call_term p s e es m t ts x y =
    ap₂ (term.result (sort_of_result (slice_get p.functions m.0)) m.0) x (ap term.terms_of y ∙ sym (terms_are p s es))
