use Rattle.std.proofs.Common.{◌≡◌, ◌<◌, ◌^◌, true≢false, sym, subst, arith}
use Rattle.ca_undo.specs.Hands.{IsTop}
use Rattle.ca_undo.proofs.old_sums.OldSums.is_last.Goals as goal

pub returns-then-hand-number : goal.returns-then-hand-number
returns-then-hand-number c = λ e. absurd (true≢false (sym e))

pub returns-then-hand-place : goal.returns-then-hand-place
returns-then-hand-place c = λ e. absurd (true≢false (sym e))

pub returns : goal.returns
returns c = λ e.
    let os = c.self.inside.puts in
    let d = c.self.inside.hand in
    let same : d.object ≡ c.args.n = c.if-hand-number.false in
    let small : d.object < 2 ^ 32 = omega (arith, same) in
    let top : IsTop os c.args.n d.field 0 = subst (λ k. IsTop os k d.field 0) same (c.self.invariant small) in
    subst (λ xs. IsTop xs c.args.n c.args.field 0) c.self.view_is (subst (λ k. IsTop os c.args.n k 0) c.if-hand-place.false top)
