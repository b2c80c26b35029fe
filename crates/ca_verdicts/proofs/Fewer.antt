-- Two operations without other loops have none where nothing is written.
use Rattle.std.proofs.Common.{◌≡◌, ℕ, List, [], Option, Some, None, sym, ap₂, ◌∙◌}
use Rattle.std.specs.Prelude.{slice_get, IfNone}
use Rattle.std.specs.Option.{option_or}
use Rattle.ca_program.specs.declared.program.FieldId.{FieldId}
use Rattle.ca_program.specs.declared.program.OpId.{OpId}
use Rattle.ca_program.specs.Plain.{PlainProgram}
use Rattle.ca_parallel.specs.Extents.{operation_body}
use Rattle.ca_symbolic.specs.Runs.{params_of, first_other_loop}
use Rattle.ca_symbolic.proofs.Fewer.{loops_are_fewer}
use Rattle.ca_verdicts.specs.declared.verdicts.Reason.{Reason}
use Rattle.ca_verdicts.specs.Verdicts.{BothSeparable, loop_of_both, CanExecute}
use Rattle.ca_verdicts.proofs.Sound.{no_loop}

pub none_of_one : (p : PlainProgram) (written : List FieldId) (op : OpId) → first_other_loop p written op ≡ None → first_other_loop p [] op ≡ None
none_of_one p written op e = loops_are_fewer (params_of (slice_get p.ops op.0)) written (operation_body p op) e

pub none_of_both : (p : PlainProgram) (written : List FieldId) (a b : OpId) → loop_of_both p written a b ≡ None → loop_of_both p [] a b ≡ None
none_of_both p written a b e =
    let each = no_loop _ _ e in
    ap₂ option_or (none_of_one p written a each.0) (none_of_one p written b each.1)

pub some_loop : (o : Option ℕ) (n : ℕ) → o ≡ Some n → o ≡ None → ⊥
some_loop o n e f = let no : None ≡ Some n = sym f ∙ e in cc

-- where no reason is told, separable operations can be executed
pub can_where : (p : PlainProgram) (written : List FieldId) (a b : OpId) (o : Option Reason) → BothSeparable p written a b → IfNone o (loop_of_both p written a b ≡ None) → IfNone o (CanExecute p written a b)
can_where p written a b None both none = record { separable = both; loops = none }
can_where p written a b (Some r) both none = tt
