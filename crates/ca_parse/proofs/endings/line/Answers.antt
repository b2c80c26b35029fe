use Rattle.std.proofs.Common.{ap, subst}
use Rattle.std.proofs.lemmas.Result.{err_from_is_err_and}
use Rattle.ca_descent.specs.Exact.{Exact}
use Rattle.ca_descent.proofs.Exact.{no_memory}
use Rattle.ca_tree.specs.View.{statement_view}
use Rattle.ca_expressions.specs.Readers.{answer}
use Rattle.ca_parse.specs.clauses.Closed.{Ended, stmt_view}
use Rattle.ca_parse.proofs.Semicolons.{ended_answer, ended_join}
use Rattle.ca_parse.proofs.endings.line.Goals as goal

pub returns-in_err-made : goal.returns-in_err-made
returns-in_err-made c =
    let p = err_from_is_err_and c.from_residual.result c.from_residual.ensures.1 in record { answer = rw (p.1, p.2) no_memory }

pub returns : goal.returns
returns c =
    let e = ap statement_view c.in_ok-made.ensures in
    record {
      answer = subst (λ z. Exact (Ended z) (Ended z) c.args.tokens.now (answer stmt_view c.ended.result)) e
          (ended_join (ended_answer stmt_view c.ended.result c.ended.ensures.answer));
    }
