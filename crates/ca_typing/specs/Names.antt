-- Names of classes and of operations.
use Rattle.std.specs.Prelude.{ℕ, ◌≡◌, true, List, Some, slice_get}
use Rattle.std.specs.List.{AllByRecursion}
use Rattle.ca_program.specs.Plain.{PlainProgram, PlainClass, PlainMethod}
use Rattle.ca_lex.specs.Bytes.{is_name_byte}

-- no two classes have one name, and no two operations of a class
pub record NamedOnce (p : PlainProgram) : Type 0 where
  pub classes : (i j : ℕ) (c d : PlainClass) → slice_get p.classes i ≡ Some c → slice_get p.classes j ≡ Some d → c.name ≡ d.name → i ≡ j
  pub ops : (i j : ℕ) (m n : PlainMethod) → slice_get p.ops i ≡ Some m → slice_get p.ops j ≡ Some n → m.class.0 ≡ n.class.0 → m.name ≡ n.name → i ≡ j

-- letters, digits and underscores alone
abbrev pub IsName : List ℕ → Type 0
IsName = AllByRecursion (λ b. is_name_byte b ≡ true)

-- each class and each operation is named so
pub record NamesSpelled (p : PlainProgram) : Type 0 where
  pub classes : (i : ℕ) (c : PlainClass) → slice_get p.classes i ≡ Some c → IsName c.name
  pub ops : (i : ℕ) (m : PlainMethod) → slice_get p.ops i ≡ Some m → IsName m.name
