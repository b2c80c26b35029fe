-- What came of a body that stopped.
use Rattle.std.proofs.Common.{◌≡◌, inl, inr, ℕ, zero, suc, List, [], ◌∷◌, Result, refl, sym, ap, ◌∙◌, subst}
use Rattle.std.specs.Prelude.{map, slice_get}
use Rattle.ca_program.specs.Instructions.{Placed}
use Rattle.ca_model.specs.declared.value.Object.{Object}
use Rattle.ca_meaning.specs.Expressions.{trap_at}
use Rattle.ca_meaning.specs.Sections.{Section}
use Rattle.ca_code.specs.declared.ins.Row.{Row}
use Rattle.ca_code.specs.declared.layout.Code.{Code as CodeHeld}
use Rattle.ca_code.specs.Codes.{code_seen}
use Rattle.ca_code.specs.Seen.{placed}
use Rattle.ca_code_laws.specs.Machine.{State, Ends, line_in}
use Rattle.ca_code_laws.specs.Machine as Stopped
use Rattle.ca_code_laws.specs.Runs.{section_access}
use Rattle.ca_steps.specs.declared.running.Halt.{Halt}
use Rattle.ca_steps.specs.declared.running.Halt.TheVariants as halt
use Rattle.ca_steps.specs.Here.{Halted}
use Rattle.ca_sections.specs.declared.stop.Stop.{Stop}
use Rattle.ca_sections.specs.Running.{IsEnd, Went, line_of_row}

-- the line that stands at a place
line_told : (rows : List Row) (at : ℕ) → line_in (slice_get (map (λ (r : Placed). r.line) (map placed rows)) at) ≡ line_of_row (slice_get rows at)
line_told [] at = refl
line_told (r ∷ rows) zero = refl
line_told (r ∷ rows) (suc at) = line_told rows at

pub went_so : (h : List Object) (c : CodeHeld) (rows : List Row) (s t : State Section) (x : Halt) (r : Result (Unit {0}) Stop) → rows ≡ c.rows.items → IsEnd rows t.at x r → Halted (section_access h) (code_seen c) s x t → Went h (code_seen c) s r t
went_so h c rows s t halt.Ends r same is halted = subst (λ r. Went h (code_seen c) s r t) (sym is.1) halted
went_so h c rows s t halt.Spends r same is halted = subst (λ r. Went h (code_seen c) s r t) (sym is) halted
went_so h c rows s t (halt.Traps kind) r same (inl is) halted =
    subst (λ r. Went h (code_seen c) s r t) (sym is) (subst (λ n. Ends (section_access h) (code_seen c) s (Stopped.Trapped (trap_at n kind) t.world)) (line_told c.rows.items t.at ∙ ap (λ rs. line_of_row (slice_get rs t.at)) (sym same)) halted)
went_so h c rows s t (halt.Traps kind) r same (inr is) halted = subst (λ r. Went h (code_seen c) s r t) (sym is) tt
went_so h c rows s t halt.Leaves r same is halted = subst (λ r. Went h (code_seen c) s r t) (sym is) tt
went_so h c rows s t halt.Fails r same is halted = subst (λ r. Went h (code_seen c) s r t) (sym is) tt
went_so h c rows s t halt.Memory r same is halted = subst (λ r. Went h (code_seen c) s r t) (sym is) tt
