use Rattle.std.proofs.Common.{◌++◌, List, append-nil, length, ap, sym, ◌∙◌, arith}
use Rattle.ca_logs.specs.declared.log.Task.{Task}
use Rattle.ca_workers.proofs.tasks.newest_of.Goals as goal

pub newest-requires : goal.newest-requires
newest-requires c = omega (arith, c.if-len-eq0.false, c.len.ensures)

pub returns-then-len-eq0-clause-all : goal.returns-then-len-eq0-clause-all
returns-then-len-eq0-clause-all c = let w = c.args.waiting.now.items in sym (ap (λ (ts : List Task). w ++ ts) c.new.ensures.items ∙ append-nil w)

pub returns-then-len-eq0-clause-count : goal.returns-then-len-eq0-clause-count
returns-then-len-eq0-clause-count c = let none = ap (λ (ts : List Task). length ts) c.new.ensures.items in let many = c.len.ensures in omega (arith, none, many, c.if-len-eq0.true)

pub returns-then-len-eq0-clause-some : goal.returns-then-len-eq0-clause-some
returns-then-len-eq0-clause-some c = λ lt. absurd (omega (arith, lt, c.if-len-eq0.true, c.len.ensures))

pub returns-clause-count : goal.returns-clause-count
returns-clause-count c = c.in_ok-first.ensures.count

pub returns-clause-some : goal.returns-clause-some
returns-clause-some c = λ lt. c.in_ok-first.ensures.some
