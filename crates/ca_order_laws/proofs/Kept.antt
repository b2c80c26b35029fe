-- Statements that put into written fields alone, and call operations of the extent alone.
use Rattle.std.proofs.Common.{List, [], ◌++◌}
use Rattle.std.specs.Prelude.{Contains}
use Rattle.std.proofs.lemmas.List.Elements.{Contains-push, Contains-append_left, Contains-append_right}
use Rattle.ca_program.specs.declared.program.FieldId.{FieldId}
use Rattle.ca_program.specs.declared.program.OpId.{OpId}
use Rattle.ca_program.specs.Plain.{Statement, Statements, block, put_local, put_field, put_item, new_local, new_field, new_item, invoke, if_else, while_loop, for_loop, return_value, print_value, no_statements, statement_and}
use Rattle.ca_parallel.specs.Bodies.{targets_of, targets_of_all, calls_of, calls_of_all}

abbrev mutual
  pub IsKept : List FieldId → List OpId → Statement → Type 0
  IsKept written ops (block l ss) = AreKept written ops ss
  IsKept written ops (put_local l i op e) = Unit {0}
  IsKept written ops (put_field l f op e) = Contains written f
  IsKept written ops (put_item l f i op e) = Contains written f
  IsKept written ops (new_local l i c) = Unit {0}
  IsKept written ops (new_field l f c) = Contains written f
  IsKept written ops (new_item l f i c) = Contains written f
  IsKept written ops (invoke l e op es) = Contains ops op
  IsKept written ops (if_else l c a b) = IsKept written ops a × IsKept written ops b
  IsKept written ops (while_loop l c b) = IsKept written ops b
  IsKept written ops (for_loop l site part first c next b) = IsKept written ops first × IsKept written ops next × IsKept written ops b
  IsKept written ops (return_value l e) = Unit {0}
  IsKept written ops (print_value l e) = Unit {0}

  pub AreKept : List FieldId → List OpId → Statements → Type 0
  AreKept written ops no_statements = Unit {0}
  AreKept written ops (statement_and x rest) = IsKept written ops x × AreKept written ops rest

-- each item of the second list is one of the first
abbrev pub Within : {A : Type 0} → List A → List A → Type 0
Within {A} all some = (x : A) → Contains some x → Contains all x

pub within_left : {A : Type 0} (all xs ys : List A) → Within all (xs ++ ys) → Within all xs
within_left all xs ys w = λ x c. w x (Contains-append_left xs ys x c)

pub within_right : {A : Type 0} (all xs ys : List A) → Within all (xs ++ ys) → Within all ys
within_right all xs ys w = λ x c. w x (Contains-append_right xs ys x c)

module _ (written : List FieldId) (ops : List OpId) where
  mutual
    pub kept_of : (x : Statement) → Within written (targets_of x) → Within ops (calls_of x) → IsKept written ops x
    kept_of (block l ss) w c = all_kept_of ss w c
    kept_of (put_local l i op e) w c = tt
    kept_of (put_field l f op e) w c = w f (Contains-push [] f)
    kept_of (put_item l f i op e) w c = w f (Contains-push [] f)
    kept_of (new_local l i k) w c = tt
    kept_of (new_field l f k) w c = w f (Contains-push [] f)
    kept_of (new_item l f i k) w c = w f (Contains-push [] f)
    kept_of (invoke l e op es) w c = c op (Contains-push [] op)
    kept_of (if_else l k x y) w c = (
      kept_of x (within_left written (targets_of x) (targets_of y) w) (within_left ops (calls_of x) (calls_of y) c),
      kept_of y (within_right written (targets_of x) (targets_of y) w) (within_right ops (calls_of x) (calls_of y) c),
    )
    kept_of (while_loop l k x) w c = kept_of x w c
    kept_of (for_loop l site part first k next x) w c =
        let w2 : Within written (targets_of next ++ targets_of x) = within_right written (targets_of first) (targets_of next ++ targets_of x) w in
        let c2 : Within ops (calls_of next ++ calls_of x) = within_right ops (calls_of first) (calls_of next ++ calls_of x) c in (
          kept_of first (within_left written (targets_of first) (targets_of next ++ targets_of x) w) (within_left ops (calls_of first) (calls_of next ++ calls_of x) c),
          kept_of next (within_left written (targets_of next) (targets_of x) w2) (within_left ops (calls_of next) (calls_of x) c2),
          kept_of x (within_right written (targets_of next) (targets_of x) w2) (within_right ops (calls_of next) (calls_of x) c2),
        )
    kept_of (return_value l e) w c = tt
    kept_of (print_value l e) w c = tt

    pub all_kept_of : (xs : Statements) → Within written (targets_of_all xs) → Within ops (calls_of_all xs) → AreKept written ops xs
    all_kept_of no_statements w c = tt
    all_kept_of (statement_and x rest) w c = (
      kept_of x (within_left written (targets_of x) (targets_of_all rest) w) (within_left ops (calls_of x) (calls_of_all rest) c),
      all_kept_of rest (within_right written (targets_of x) (targets_of_all rest) w) (within_right ops (calls_of x) (calls_of_all rest) c),
    )
