use Rattle.std.proofs.Common.{sym, ap}
use Rattle.ca_tree.specs.declared.tree.BinaryOp.{BinaryOp}
use Rattle.ca_folds.specs.declared.operator.FoldOp.TheVariants as fold_op
use Rattle.ca_norm.specs.Terms.{add, sub, mul, divide, remainder, less, less_equal, same, not, and, or, fold}
use Rattle.ca_symbolic.specs.Execution.{divided, operation}
use Rattle.ca_symbolic.proofs.Making.{makes}
use Rattle.ca_symbolic.proofs.evaluate.operation.Goals as goal

pub returns-in-Or : goal.returns-in-Or
returns-in-Or c =
    let a = c.args in
    let w = makes c.or.result (or a.a a.b) (operation a.op a.a a.b a.n) (sym (ap (λ (o : BinaryOp). operation o a.a a.b a.n) c.in-Or.is)) c.or.ensures.made c.or.ensures.light c.or.ensures.large in
    record { made = w.made; light = w.light; large = w.large }

pub returns-in-And : goal.returns-in-And
returns-in-And c =
    let a = c.args in
    let w = makes c.and.result (and a.a a.b) (operation a.op a.a a.b a.n) (sym (ap (λ (o : BinaryOp). operation o a.a a.b a.n) c.in-And.is)) c.and.ensures.made c.and.ensures.light c.and.ensures.large in
    record { made = w.made; light = w.light; large = w.large }

pub returns-in-Equal : goal.returns-in-Equal
returns-in-Equal c =
    let a = c.args in
    let w = makes c.same.result (same a.a a.b) (operation a.op a.a a.b a.n) (sym (ap (λ (o : BinaryOp). operation o a.a a.b a.n) c.in-Equal.is)) c.same.ensures.made c.same.ensures.light c.same.ensures.large in
    record { made = w.made; light = w.light; large = w.large }

pub returns-in-NotEqual : goal.returns-in-NotEqual
returns-in-NotEqual c =
    let a = c.args in
    let w = makes c.not_same.result (not (same a.a a.b)) (operation a.op a.a a.b a.n) (sym (ap (λ (o : BinaryOp). operation o a.a a.b a.n) c.in-NotEqual.is)) c.not_same.ensures.made c.not_same.ensures.light c.not_same.ensures.large in
    record { made = w.made; light = w.light; large = w.large }

pub returns-in-Less : goal.returns-in-Less
returns-in-Less c =
    let a = c.args in
    let w = makes c.less.result (less a.a a.b) (operation a.op a.a a.b a.n) (sym (ap (λ (o : BinaryOp). operation o a.a a.b a.n) c.in-Less.is)) c.less.ensures.made c.less.ensures.light c.less.ensures.large in
    record { made = w.made; light = w.light; large = w.large }

pub returns-in-Greater : goal.returns-in-Greater
returns-in-Greater c =
    let a = c.args in
    let w = makes c.less-in-Greater.result (less a.b a.a) (operation a.op a.a a.b a.n) (sym (ap (λ (o : BinaryOp). operation o a.a a.b a.n) c.in-Greater.is)) c.less-in-Greater.ensures.made c.less-in-Greater.ensures.light c.less-in-Greater.ensures.large in
    record { made = w.made; light = w.light; large = w.large }

pub returns-in-LessEqual : goal.returns-in-LessEqual
returns-in-LessEqual c =
    let a = c.args in
    let w = makes c.less_equal.result (less_equal a.a a.b) (operation a.op a.a a.b a.n) (sym (ap (λ (o : BinaryOp). operation o a.a a.b a.n) c.in-LessEqual.is)) c.less_equal.ensures.made c.less_equal.ensures.light c.less_equal.ensures.large in
    record { made = w.made; light = w.light; large = w.large }

pub returns-in-GreaterEqual : goal.returns-in-GreaterEqual
returns-in-GreaterEqual c =
    let a = c.args in
    let w = makes c.less_equal-in-GreaterEqual.result (less_equal a.b a.a) (operation a.op a.a a.b a.n) (sym (ap (λ (o : BinaryOp). operation o a.a a.b a.n) c.in-GreaterEqual.is)) c.less_equal-in-GreaterEqual.ensures.made c.less_equal-in-GreaterEqual.ensures.light c.less_equal-in-GreaterEqual.ensures.large in
    record { made = w.made; light = w.light; large = w.large }

pub returns-in-Plus : goal.returns-in-Plus
returns-in-Plus c =
    let a = c.args in
    let w = makes c.plus.result (add a.a a.b) (operation a.op a.a a.b a.n) (sym (ap (λ (o : BinaryOp). operation o a.a a.b a.n) c.in-Plus.is)) c.plus.ensures.made c.plus.ensures.light c.plus.ensures.large in
    record { made = w.made; light = w.light; large = w.large }

pub returns-in-Minus : goal.returns-in-Minus
returns-in-Minus c =
    let a = c.args in
    let w = makes c.minus.result (sub a.a a.b) (operation a.op a.a a.b a.n) (sym (ap (λ (o : BinaryOp). operation o a.a a.b a.n) c.in-Minus.is)) c.minus.ensures.made c.minus.ensures.light c.minus.ensures.large in
    record { made = w.made; light = w.light; large = w.large }

pub returns-in-Times : goal.returns-in-Times
returns-in-Times c =
    let a = c.args in
    let w = makes c.times.result (mul a.a a.b) (operation a.op a.a a.b a.n) (sym (ap (λ (o : BinaryOp). operation o a.a a.b a.n) c.in-Times.is)) c.times.ensures.made c.times.ensures.light c.times.ensures.large in
    record { made = w.made; light = w.light; large = w.large }

pub returns-in-Divide : goal.returns-in-Divide
returns-in-Divide c =
    let a = c.args in
    let w = makes c.divided.result (divided divide a.a a.b a.n) (operation a.op a.a a.b a.n) (sym (ap (λ (o : BinaryOp). operation o a.a a.b a.n) c.in-Divide.is)) c.divided.ensures.made c.divided.ensures.light c.divided.ensures.large in
    record { made = w.made; light = w.light; large = w.large }

pub returns-in-Remainder : goal.returns-in-Remainder
returns-in-Remainder c =
    let a = c.args in
    let w = makes c.left_over.result (divided remainder a.a a.b a.n) (operation a.op a.a a.b a.n) (sym (ap (λ (o : BinaryOp). operation o a.a a.b a.n) c.in-Remainder.is)) c.left_over.ensures.made c.left_over.ensures.light c.left_over.ensures.large in
    record { made = w.made; light = w.light; large = w.large }

pub returns-in-BitAnd : goal.returns-in-BitAnd
returns-in-BitAnd c =
    let a = c.args in
    let w = makes c.folded.result (fold fold_op.BitAnd a.a a.b) (operation a.op a.a a.b a.n) (sym (ap (λ (o : BinaryOp). operation o a.a a.b a.n) c.in-BitAnd.is)) c.folded.ensures.made c.folded.ensures.light c.folded.ensures.large in
    record { made = w.made; light = w.light; large = w.large }

pub returns-in-BitOr : goal.returns-in-BitOr
returns-in-BitOr c =
    let a = c.args in
    let w = makes c.folded-in-BitOr.result (fold fold_op.BitOr a.a a.b) (operation a.op a.a a.b a.n) (sym (ap (λ (o : BinaryOp). operation o a.a a.b a.n) c.in-BitOr.is)) c.folded-in-BitOr.ensures.made c.folded-in-BitOr.ensures.light c.folded-in-BitOr.ensures.large in
    record { made = w.made; light = w.light; large = w.large }

pub returns-in-BitXor : goal.returns-in-BitXor
returns-in-BitXor c =
    let a = c.args in
    let w = makes c.folded-in-BitXor.result (fold fold_op.BitXor a.a a.b) (operation a.op a.a a.b a.n) (sym (ap (λ (o : BinaryOp). operation o a.a a.b a.n) c.in-BitXor.is)) c.folded-in-BitXor.ensures.made c.folded-in-BitXor.ensures.light c.folded-in-BitXor.ensures.large in
    record { made = w.made; light = w.light; large = w.large }

pub returns-in-Max : goal.returns-in-Max
returns-in-Max c =
    let a = c.args in
    let w = makes c.folded-in-Max.result (fold fold_op.Max a.a a.b) (operation a.op a.a a.b a.n) (sym (ap (λ (o : BinaryOp). operation o a.a a.b a.n) c.in-Max.is)) c.folded-in-Max.ensures.made c.folded-in-Max.ensures.light c.folded-in-Max.ensures.large in
    record { made = w.made; light = w.light; large = w.large }

pub returns-in-Min : goal.returns-in-Min
returns-in-Min c =
    let a = c.args in
    let w = makes c.folded-in-Min.result (fold fold_op.Min a.a a.b) (operation a.op a.a a.b a.n) (sym (ap (λ (o : BinaryOp). operation o a.a a.b a.n) c.in-Min.is)) c.folded-in-Min.ensures.made c.folded-in-Min.ensures.light c.folded-in-Min.ensures.large in
    record { made = w.made; light = w.light; large = w.large }
