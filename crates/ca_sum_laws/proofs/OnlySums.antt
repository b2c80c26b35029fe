-- Separable bodies that only sum are summed.
use Rattle.std.proofs.Common.{List, Bool, true, false}
use Rattle.std.specs.Prelude.{◌||◌}
use Rattle.ca_tree.specs.declared.tree.AssignOp.{AssignOp}
use Rattle.ca_tree.specs.declared.tree.AssignOp.TheVariants.{Put, Add, Sub, Mul, BitAnd, BitOr, BitXor}
use Rattle.ca_program.specs.declared.program.FieldId.{FieldId}
use Rattle.ca_program.specs.Plain.{PlainProgram, Expression, Expressions, number, truth, null, this, local, own, own_item, read, read_item, value_call, unary, binary, no_expressions, expression_and, Statement, Statements, block, put_local, put_field, put_item, new_local, new_field, new_item, invoke, if_else, while_loop, for_loop, return_value, print_value, no_statements, statement_and}
use Rattle.ca_parallel.specs.Separable.{IsClean, AreClean, holds_call, IsSeparated, AreSeparated}
use Rattle.ca_sum_laws.specs.Summed.{IsSumWith, IsAdding, IsSummed, AreSummed, Untouched, AllUntouched, SumsWith, Adds, OnlySums, AllOnlySums, SeparableSumsAreSummed}

module _ (p : PlainProgram) (written : List FieldId) where
  mutual
    clean_of : (b : Bool) (e : Expression) → IsClean p written b e → Untouched written e → IsClean p written true e
    clean_of b (number n) a u = tt
    clean_of b (truth x) a u = tt
    clean_of b null a u = tt
    clean_of b this a u = tt
    clean_of b (local l) a u = tt
    clean_of b (own f) a u = u
    clean_of b (own_item f i) a u = (u.0, clean_of b i a.1 u.1)
    clean_of b (read e f) a u = (a.0, clean_of b e a.1 u.1)
    clean_of b (read_item e f i) a u = (a.0, clean_of b e a.1 u.1, clean_of b i a.2 u.2)
    clean_of b (value_call e m es) a u = (a.0, clean_of b e a.1 u.0, all_clean_of b es a.2 u.1)
    clean_of b (unary op e) a u = clean_of b e a u
    clean_of b (binary op x y) a u = (a.0, clean_of b x a.1 u.0, clean_of b y a.2 u.1)

    all_clean_of : (b : Bool) (es : Expressions) → AreClean p written b es → AllUntouched written es → AreClean p written true es
    all_clean_of b no_expressions a u = tt
    all_clean_of b (expression_and e es) a u = (clean_of b e a.0 u.0, all_clean_of b es a.1 u.1)

  with_of : (b : Bool) (f : FieldId) (e : Expression) → IsClean p written b e → SumsWith written f e → IsSumWith p written f e
  with_of b f (binary op (own g) e) a u = (u.0, u.1, clean_of b e a.2 u.2)
  with_of b f (binary op (number n) e) a u = absurd u
  with_of b f (binary op (truth c) e) a u = absurd u
  with_of b f (binary op null e) a u = absurd u
  with_of b f (binary op this e) a u = absurd u
  with_of b f (binary op (local i) e) a u = absurd u
  with_of b f (binary op (own_item i j) e) a u = absurd u
  with_of b f (binary op (read i j) e) a u = absurd u
  with_of b f (binary op (read_item i j m) e) a u = absurd u
  with_of b f (binary op (value_call i j m) e) a u = absurd u
  with_of b f (binary op (unary i j) e) a u = absurd u
  with_of b f (binary op (binary i j m) e) a u = absurd u
  with_of b f (number n) a u = absurd u
  with_of b f (truth c) a u = absurd u
  with_of b f null a u = absurd u
  with_of b f this a u = absurd u
  with_of b f (local i) a u = absurd u
  with_of b f (own i) a u = absurd u
  with_of b f (own_item i j) a u = absurd u
  with_of b f (read i j) a u = absurd u
  with_of b f (read_item i j m) a u = absurd u
  with_of b f (value_call i j m) a u = absurd u
  with_of b f (unary i j) a u = absurd u

  adding_of : (b : Bool) (f : FieldId) (op : AssignOp) (e : Expression) → IsClean p written b e → Adds written f op e → IsAdding p written f op e
  adding_of b f Add e a u = clean_of b e a u
  adding_of b f Sub e a u = clean_of b e a u
  adding_of b f Put e a u = with_of b f e a u
  adding_of b f Mul e a u = absurd u
  adding_of b f BitAnd e a u = absurd u
  adding_of b f BitOr e a u = absurd u
  adding_of b f BitXor e a u = absurd u

  mutual
    summed_of : (b : Bool) (s : Statement) → IsSeparated p written b s → OnlySums written s → IsSummed p written s
    summed_of b (block l ss) a u = all_summed_of b ss a u
    summed_of b (put_local l i op e) a u = clean_of b e a u
    summed_of b (put_field l f op e) a u = adding_of b f op e a.1 u
    summed_of b (put_item l f i op e) a u = absurd u
    summed_of b (new_local l i c) a u = absurd a
    summed_of b (new_field l f c) a u = absurd a
    summed_of b (new_item l f i c) a u = absurd a
    summed_of b (invoke l e op es) a u = (clean_of b e a.0 u.0, all_clean_of b es a.1 u.1)
    summed_of b (if_else l c x y) a u = (clean_of b c a.0 u.0, summed_of b x a.1 u.1, summed_of b y a.2 u.2)
    summed_of b (while_loop l c y) a u = (clean_of (b || holds_call y) c a.0 u.0, summed_of (b || holds_call y) y a.1 u.1)
    summed_of b (for_loop l site part first c next y) a u =
        let up : Bool = b || holds_call (for_loop l site part first c next y) in
        (summed_of up first a.0 u.0, clean_of up c a.1 u.1, summed_of up next a.2 u.2, summed_of up y a.3 u.3)
    summed_of b (return_value l e) a u = clean_of b e a u
    summed_of b (print_value l e) a u = absurd a

    all_summed_of : (b : Bool) (ss : Statements) → AreSeparated p written b ss → AllOnlySums written ss → AreSummed p written ss
    all_summed_of b no_statements a u = tt
    all_summed_of b (statement_and s ss) a u = (summed_of b s a.0 u.0, all_summed_of (b || holds_call s) ss a.1 u.1)

pub separable_summed : SeparableSumsAreSummed
separable_summed p written op a u = all_summed_of p written false _ a u
