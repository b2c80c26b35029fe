-- Codes of plans, by which their values are told apart.
use Rattle.std.specs.Prelude.{ℕ, List, refl}
use Rattle.std.specs.Coded.{Coded, code_by, coded×, coded_ℕ, coded_list}
use Rattle.ca_program.specs.declared.program.FieldId.{FieldId}
use Rattle.ca_program.specs.declared.program.FunctionId.{FunctionId}
use Rattle.ca_program.specs.declared.program.LoopId.{LoopId}
use Rattle.ca_program.specs.declared.program.OpId.{OpId}
use Rattle.ca_parallel.specs.Extents.{Extent}
use Rattle.ca_parallel.specs.Lists.{PlainMarks}
use Rattle.ca_verdicts.specs.declared.verdicts.Verdict.{Verdict}
use Rattle.ca_verdicts.specs.contracts.verdicts.Verdict as verdict
use Rattle.ca_plan.specs.Plans.{PairVerdict, Judged, JudgedLoop, PlainPlan}

abbrev pub coded_op : Coded OpId
coded_op = code_by ℕ coded_ℕ (λ o. o.0) (λ n. record { 0 = n }) (λ _. refl)

abbrev pub coded_function : Coded FunctionId
coded_function = code_by ℕ coded_ℕ (λ o. o.0) (λ n. record { 0 = n }) (λ _. refl)

abbrev pub coded_loop : Coded LoopId
coded_loop = code_by ℕ coded_ℕ (λ o. o.0) (λ n. record { 0 = n }) (λ _. refl)

abbrev pub coded_field : Coded FieldId
coded_field = code_by (ℕ × ℕ) (coded× coded_ℕ coded_ℕ) (λ f. (f.class.0, f.field)) (λ p. record { class = record { 0 = p.0 }; field = p.1 }) (λ _. refl)

abbrev pub coded_extent : Coded Extent
coded_extent =
    code_by (List OpId × (List FunctionId × List FieldId)) (coded× (coded_list coded_op) (coded× (coded_list coded_function) (coded_list coded_field)))
    (λ x. (x.ops, (x.functions, x.written))) (λ p. record { ops = p.0; functions = p.1.0; written = p.1.1 }) (λ _. refl)

abbrev pub coded_pair : Coded PairVerdict
coded_pair =
    code_by (OpId × (OpId × Verdict)) (coded× coded_op (coded× coded_op verdict.the_row.coded)) (λ x. (x.a, (x.b, x.verdict))) (λ p. record { a = p.0; b = p.1.0; verdict = p.1.1 }) (λ _. refl)

abbrev pub coded_judged : Coded Judged
coded_judged = code_by (Extent × List PairVerdict) (coded× coded_extent (coded_list coded_pair)) (λ j. (j.extent, j.pairs)) (λ p. record { extent = p.0; pairs = p.1 }) (λ _. refl)

abbrev pub coded_judged_loop : Coded JudgedLoop
coded_judged_loop =
    code_by (LoopId × (ℕ × Judged)) (coded× coded_loop (coded× coded_ℕ coded_judged)) (λ l. (l.site, (l.line, l.judged))) (λ p. record { site = p.0; line = p.1.0; judged = p.1.1 }) (λ _. refl)

abbrev pub coded_marks : Coded PlainMarks
coded_marks = code_by (List OpId × List LoopId) (coded× (coded_list coded_op) (coded_list coded_loop)) (λ m. (m.ops, m.loops)) (λ p. record { ops = p.0; loops = p.1 }) (λ _. refl)

abbrev pub coded_plan : Coded PlainPlan
coded_plan =
    code_by (PlainMarks × (List Judged × List JudgedLoop)) (coded× coded_marks (coded× (coded_list coded_judged) (coded_list coded_judged_loop)))
    (λ p. (p.marks, (p.ops, p.loops))) (λ p. record { marks = p.0; ops = p.1.0; loops = p.1.1 }) (λ _. refl)
