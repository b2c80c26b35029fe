-- What the end of a block leaves of where its last statement ends.
use Rattle.std.proofs.Common.{◌≡◌, ℕ, ◌-◌, List, [], ◌∷◌, ◌++◌, Option, drop, length, refl, sym, subst, ◌∙◌, ap, arith, append_assoc}
use Rattle.std.proofs.Math.Seq.{drop-append_seam}
use Rattle.std.proofs.lemmas.List.{length-append}
use Rattle.ca_tree.specs.declared.name.Place.{Place}
use Rattle.ca_tree.specs.Plain.{Expression, Statement, Statements, empty, block, local, assign, call_statement, if_only, if_else, while_loop, for_loop, return_value, print_value, no_statements, statement_and}
use Rattle.ca_program.specs.declared.program.ClassId.{ClassId}
use Rattle.ca_program.specs.declared.program.ValueType.{ValueType}
use Rattle.ca_resolve.specs.Scopes.{Ty, VisibleLocal, Classes}
use Rattle.ca_types.specs.Statements.{Env, enter_block, leave_block, counted, declare, behind, behind_all}
use Rattle.ca_types.specs.clauses.View.{left}

-- two places in one block, the second behind the first: these locals are declared between them
pub record SameBlock (c d : Env) : Type 0 where
  pub classes : d.scope.classes ≡ c.scope.classes
  pub class : d.scope.class ≡ c.scope.class
  pub result : d.result ≡ c.result
  pub between : List VisibleLocal
  pub locals : d.scope.locals ≡ between ++ c.scope.locals

pub same_block : (c : Env) → SameBlock c c
same_block c = record { classes = refl; class = refl; result = refl; between = []; locals = refl }

pub then_same : (c d e : Env) → SameBlock c d → SameBlock d e → SameBlock c e
then_same c d e f g = record {
  classes = g.classes ∙ f.classes;
  class = g.class ∙ f.class;
  result = g.result ∙ f.result;
  between = g.between ++ f.between;
  locals = g.locals ∙ (ap (λ ls. g.between ++ ls) f.locals ∙ sym (append_assoc g.between f.between c.scope.locals));
}

pub declare_same : (c : Env) (s : Ty) (name : List ℕ) → SameBlock c (declare c s name)
declare_same c s name = record { classes = refl; class = refl; result = refl; between = record { name = name; id = record { 0 = length c.locals }; ty = s } ∷ []; locals = refl }

pub behind_same : (s : Statement) (c : Env) → SameBlock c (behind c s)
behind_same (empty at) c = same_block c
behind_same (block at ss) c = record { classes = refl; class = refl; result = refl; between = []; locals = refl }
behind_same (local at ty name name_at right) c = declare_same c _ name
behind_same (assign at target op right) c = same_block c
behind_same (call_statement at e) c = same_block c
behind_same (if_only at e s) c = record { classes = refl; class = refl; result = refl; between = []; locals = refl }
behind_same (if_else at e a b) c = record { classes = refl; class = refl; result = refl; between = []; locals = refl }
behind_same (while_loop at e s) c = record { classes = refl; class = refl; result = refl; between = []; locals = refl }
behind_same (for_loop at first e next s) c = record { classes = refl; class = refl; result = refl; between = []; locals = refl }
behind_same (return_value at e) c = same_block c
behind_same (print_value at e) c = same_block c

pub behind_all_same : (ss : Statements) (c : Env) → SameBlock c (behind_all c ss)
behind_all_same no_statements c = same_block c
behind_all_same (statement_and s ss) c = then_same c (behind c s) (behind_all (behind c s) ss) (behind_same s c) (behind_all_same ss (behind c s))

made : (a a' : Classes) (b b' : Option ClassId) (ls ls' : List VisibleLocal) (m : ℕ) (types : List ValueType) (loops : ℕ) (r r' : Option Ty) → a ≡ a' → b ≡ b' → ls ≡ ls' → r ≡ r'
    → (let one : Env = record { scope = record { classes = a; class = b; locals = ls }; first = m; locals = types; loops = loops; result = r } in one)
    ≡ (let other : Env = record { scope = record { classes = a'; class = b'; locals = ls' }; first = m; locals = types; loops = loops; result = r' } in other)
made a a' b b' ls ls' m types loops r r' p q t u = rw (p, q, t, u) refl

-- what is visible outside, of locals that are some and then these
outside : (ds new ls : List VisibleLocal) → ds ≡ new ++ ls → drop (length ds - length ls) ds ≡ ls
outside ds new ls e =
    let n : length ds - length ls ≡ length new = omega (arith, ap length e, length-append new ls) in
    ap (λ k. drop k ds) n ∙ (ap (drop (length new)) e ∙ drop-append_seam new ls)

left_is_leave_block : (c d : Env) → SameBlock (enter_block c) d → left d (length c.scope.locals) c.first ≡ leave_block c d
left_is_leave_block c d f =
    let visible = drop (length d.scope.locals - length c.scope.locals) d.scope.locals in
    made d.scope.classes c.scope.classes d.scope.class c.scope.class visible c.scope.locals c.first d.locals d.loops d.result c.result f.classes f.class
    (outside d.scope.locals f.between c.scope.locals f.locals) f.result

-- a block that began at c and whose last statement ends at d
block_ends : (c d f : Env) (n m : ℕ) → n ≡ length c.scope.locals → m ≡ c.first → SameBlock (enter_block c) d → f ≡ left d n m → f ≡ leave_block c d
block_ends c d f n m p q same e = e ∙ (ap (λ z. left d z m) p ∙ (ap (left d (length c.scope.locals)) q ∙ left_is_leave_block c d same))

pub inner_behind : (c o d f : Env) (n m : ℕ) (s : Statement) → o ≡ enter_block c → n ≡ length c.scope.locals → m ≡ c.first → d ≡ behind o s → f ≡ left d n m → f ≡ leave_block c (behind (enter_block c) s)
inner_behind c o d f n m s opens count first inside ends =
    let e : d ≡ behind (enter_block c) s = inside ∙ ap (λ z. behind z s) opens in
    block_ends c d f n m count first (subst (SameBlock (enter_block c)) (sym e) (behind_same s (enter_block c))) ends ∙ ap (leave_block c) e

pub block_behind : (c o d f : Env) (n m : ℕ) (ss : Statements) → o ≡ enter_block c → n ≡ length c.scope.locals → m ≡ c.first → d ≡ behind_all o ss → f ≡ left d n m → f ≡ leave_block c (behind_all (enter_block c) ss)
block_behind c o d f n m ss opens count first inside ends =
    let e : d ≡ behind_all (enter_block c) ss = inside ∙ ap (λ z. behind_all z ss) opens in
    block_ends c d f n m count first (subst (SameBlock (enter_block c)) (sym e) (behind_all_same ss (enter_block c))) ends ∙ ap (leave_block c) e

-- the block round a loop that stands at c: begun is behind its first part, turn behind its next part
pub loop_behind : (c begun turn : Env) (n m : ℕ) (at : Place) (first : Statement) (e : Expression) (next s : Statement) → n ≡ length c.scope.locals → m ≡ c.first
    → begun ≡ behind (enter_block (counted c)) first → turn ≡ leave_block begun (behind (enter_block begun) next)
    → left (leave_block turn (behind (enter_block turn) s)) n m ≡ behind c (for_loop at first e next s)
loop_behind c begun turn n m at first e next s count number begins turns =
    let front = behind (enter_block (counted c)) first in
    let round = leave_block front (behind (enter_block front) next) in
    let last = leave_block round (behind (enter_block round) s) in
    let is : turn ≡ round = turns ∙ ap (λ z. leave_block z (behind (enter_block z) next)) begins in
    let same = behind_same first (enter_block (counted c)) in
    let inside : SameBlock (enter_block c) last = record { classes = same.classes; class = same.class; result = same.result; between = same.between; locals = same.locals } in
    block_ends c last (left (leave_block turn (behind (enter_block turn) s)) n m) n m count number inside (ap (λ z. left (leave_block z (behind (enter_block z) s)) n m) is)
