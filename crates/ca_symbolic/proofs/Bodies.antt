-- What the run of an operation in memory leaves, demands and makes.
use Rattle.std.proofs.Common.{◌≡◌, ℕ, true, ◌||◌, List, Some, refl, sym, ap, ap₂, ◌∙◌}
use Rattle.std.specs.Prelude.{slice_get}
use Rattle.std.specs.List.{list_any}
use Rattle.std.proofs.lemmas.List.Folds.{list_any-append}
use Rattle.std.proofs.lemmas.Option.{slice_get-map}
use Rattle.ca_program.specs.declared.program.FieldId.{FieldId}
use Rattle.ca_program.specs.declared.program.Method.{Method}
use Rattle.ca_program.specs.declared.program.OpId.{OpId}
use Rattle.ca_program.specs.declared.program.Program.{Program}
use Rattle.ca_program.specs.View.{method_view, program_view, statements_view}
use Rattle.ca_meaning.specs.Functions.{body_of}
use Rattle.ca_parallel.specs.Extents.{operation_body}
use Rattle.ca_norm.specs.Terms.{truth}
use Rattle.ca_symbolic.specs.States.{State, first_locals}
use Rattle.ca_symbolic.specs.Execution.{after_all}
use Rattle.ca_symbolic.specs.Demands.{demanded_all}
use Rattle.ca_symbolic.specs.OtherLoops.{other_loop_in}
use Rattle.ca_symbolic.specs.Made.{made_by}
use Rattle.ca_symbolic.specs.clauses.Refusals.{refused_by_all}
use Rattle.ca_shared_terms.specs.Heavy.{is_heavy}
use Rattle.ca_symbolic.specs.Runs.{begins, with_locals, executed, demanded_by, is_heavy_by, params_of, first_other_loop}
use Rattle.ca_symbolic.proofs.Refusing.{refused_exactly}

module _ (p : Program) (op : OpId) (m : Method) (is : slice_get p.ops.items op.0 ≡ Some m) where
  operation_is : slice_get (program_view p).ops op.0 ≡ Some (method_view m)
  operation_is = rw (slice_get-map method_view p.ops.items op.0, is) refl

  body_is : operation_body (program_view p) op ≡ statements_view m.body.stmts.items
  body_is = ap body_of operation_is

  pub loop_is : (written : List FieldId) → first_other_loop (program_view p) written op ≡ other_loop_in m.params written (statements_view m.body.stmts.items)
  loop_is written = ap₂ (λ n xs. other_loop_in n written xs) (ap params_of operation_is) body_is

  module _ (g : ℕ) (s : State) where
    begins_is : begins (program_view p) op g s.fields ≡ with_locals s (first_locals g (Some (method_view m)))
    begins_is = ap (λ o. record { fields = s.fields; locals = first_locals g o }) operation_is

    pub executed_is : executed (program_view p) op g s.fields ≡ after_all (program_view p) (with_locals s (first_locals g (Some (method_view m)))) (statements_view m.body.stmts.items)
    executed_is = ap₂ (after_all (program_view p)) begins_is body_is

    pub demanded_is :
        demanded_by (program_view p) op g s.fields ≡
        demanded_all (program_view p) (with_locals s (first_locals g (Some (method_view m)))) (truth true) (statements_view m.body.stmts.items)
    demanded_is = ap₂ (λ t xs. demanded_all (program_view p) t (truth true) xs) begins_is body_is

    made_is :
        list_any is_heavy (made_by (program_view p) (begins (program_view p) op g s.fields) (truth true) (operation_body (program_view p) op)) ≡
        refused_by_all (program_view p) (with_locals s (first_locals g (Some (method_view m)))) (truth true) (statements_view m.body.stmts.items)
    made_is =
        sym (refused_exactly (program_view p) (begins (program_view p) op g s.fields) (truth true) (operation_body (program_view p) op))
        ∙ ap₂ (λ t xs. refused_by_all (program_view p) t (truth true) xs) begins_is body_is

    -- a run's result has a term that is too heavy exactly where one is made or a field holds one behind it
    pub heavy_is :
        is_heavy_by (program_view p) op g s.fields ≡
        refused_by_all (program_view p) (with_locals s (first_locals g (Some (method_view m)))) (truth true) (statements_view m.body.stmts.items) ||
        list_any is_heavy (executed (program_view p) op g s.fields).fields
    heavy_is =
        list_any-append is_heavy (made_by (program_view p) (begins (program_view p) op g s.fields) (truth true) (operation_body (program_view p) op)) (executed (program_view p) op g s.fields).fields
        ∙ ap (λ b. b || list_any is_heavy (executed (program_view p) op g s.fields).fields) made_is
