use Rattle.std.proofs.lemmas.Result.{err_from_is_err_and}
use Rattle.ca_verdicts.proofs.Comparing.{not_large, not_loop}
use Rattle.ca_verdicts.proofs.compare.orders.run_one.Goals as goal

pub returns-in_err-demands : goal.returns-in_err-demands
returns-in_err-demands c =
    let p = err_from_is_err_and c.from_residual.result c.from_residual.ensures.1 in
    record {
      state = rw p.1 tt;
      demands = rw p.1 tt;
      light = rw p.1 tt;
      large = λ told. absurd (not_large c.from_residual.result p.0 p.1 p.2 told);
      call_loops = λ n told. not_loop c.from_residual.result p.0 n p.1 p.2 told;
    }

pub returns-in_err-groups : goal.returns-in_err-groups
returns-in_err-groups c =
    let p = err_from_is_err_and c.from_residual-in_err-groups.result c.from_residual-in_err-groups.ensures.1 in
    record {
      state = rw p.1 tt;
      demands = rw p.1 tt;
      light = rw p.1 tt;
      large = λ told. absurd (not_large c.from_residual-in_err-groups.result p.0 p.1 p.2 told);
      call_loops = λ n told. not_loop c.from_residual-in_err-groups.result p.0 n p.1 p.2 told;
    }
