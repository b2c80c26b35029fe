-- Whatever is evaluated or put where no call may have come before, or where constants alone are named, leaves the lock as it
-- stands.
use Rattle.std.proofs.Common.{◌≡◌, List, [], ◌∷◌, ◌++◌, Bool, true, refl, subst, map}
use Rattle.std.specs.Prelude.{Contains}
use Rattle.std.specs.List.{AllByRecursion}
use Rattle.ca_lists.proofs.Places.{all_append}
use Rattle.ca_tree.specs.Plain as tree
use Rattle.ca_program.specs.declared.program.FieldId.{FieldId}
use Rattle.ca_program.specs.declared.program.FunctionId.{FunctionId}
use Rattle.ca_program.specs.Plain as program
use Rattle.ca_program.specs.Plain.{PlainProgram, Expression, Expressions, number, truth, null, this, local, own, own_item, read, read_item, value_call, unary, binary, no_expressions, expression_and}
use Rattle.ca_parallel.specs.Bodies.{fields_in, fields_in_all, functions_in, functions_in_all, calls_of}
use Rattle.ca_parallel.specs.Separable.{ReadsWritten, MayAccess, IsClean, AreClean, IsSeparated}
use Rattle.ca_lock_laws.specs.Events.{Event, accesses, evaluates, evaluated, happens}
use Rattle.ca_lock_laws.specs.Paths.{IsPut, puts_local, puts_field, puts_item, creates_local, creates_field, creates_item, IsLine, declared, assigned, printed}
use Rattle.ca_lock_laws.specs.Discipline.{Lock, free, held, spawning, behind, Allows, access, access_constant, evaluate, evaluate_constant, Leads, nowhere, forgets, and_then}

-- a call may have come before, or the lock is held
abbrev pub Ready : Bool → Lock → Type 0
Ready after held = Unit {0}
Ready after free = after ≡ true
Ready after spawning = ⊥
Ready after behind = ⊥

-- a line calls no operation
put_calls : {x : program.Statement} → IsPut x → calls_of x ≡ []
put_calls (puts_local line n op e) = refl
put_calls (puts_field line f op e) = refl
put_calls (puts_item line f i op e) = refl
put_calls (creates_local line n c) = refl
put_calls (creates_field line f c) = refl
put_calls (creates_item line f i c) = refl

pub line_calls : {s : tree.Statement} {x : program.Statement} → IsLine s x → calls_of x ≡ []
line_calls (declared at ty name name_at v h) = put_calls h
line_calls (assigned at target op r h) = put_calls h
line_calls (printed at e line v) = refl

module _ (p : PlainProgram) (written : List FieldId) where
  pub chained : {l m n : Lock} {es fs : List Event} → Leads p written l es m → Leads p written m fs n → Leads p written l (es ++ fs) n
  chained nowhere t = t
  chained (and_then a s) t = and_then a (chained s t)
  chained (forgets s) t = forgets (chained s t)

  abbrev Constant : FieldId → Type 0
  Constant f = ¬ Contains written f

  abbrev Blind : FunctionId → Type 0
  Blind m = ¬ ReadsWritten p written m

  -- behind a call the fields and the value methods of an expression are as constants
  mutual
    fields_clean : (e : Expression) → IsClean p written true e → AllByRecursion Constant (fields_in e)
    fields_clean (number n) c = tt
    fields_clean (truth b) c = tt
    fields_clean null c = tt
    fields_clean this c = tt
    fields_clean (local n) c = tt
    fields_clean (own f) c = (c, tt)
    fields_clean (own_item f i) c = (c.0, fields_clean i c.1)
    fields_clean (read e f) c = all_append Constant (fields_in e) (f ∷ []) (fields_clean e c.1) (c.0, tt)
    fields_clean (read_item e f i) c = all_append Constant (fields_in e) (f ∷ fields_in i) (fields_clean e c.1) (c.0, fields_clean i c.2)
    fields_clean (value_call e m es) c = all_append Constant (fields_in e) (fields_in_all es) (fields_clean e c.1) (all_fields_clean es c.2)
    fields_clean (unary op e) c = fields_clean e c
    fields_clean (binary op a b) c = all_append Constant (fields_in a) (fields_in b) (fields_clean a c.1) (fields_clean b c.2)

    all_fields_clean : (es : Expressions) → AreClean p written true es → AllByRecursion Constant (fields_in_all es)
    all_fields_clean no_expressions c = tt
    all_fields_clean (expression_and e es) c = all_append Constant (fields_in e) (fields_in_all es) (fields_clean e c.0) (all_fields_clean es c.1)

  mutual
    functions_clean : (e : Expression) → IsClean p written true e → AllByRecursion Blind (functions_in e)
    functions_clean (number n) c = tt
    functions_clean (truth b) c = tt
    functions_clean null c = tt
    functions_clean this c = tt
    functions_clean (local n) c = tt
    functions_clean (own f) c = tt
    functions_clean (own_item f i) c = functions_clean i c.1
    functions_clean (read e f) c = functions_clean e c.1
    functions_clean (read_item e f i) c = all_append Blind (functions_in e) (functions_in i) (functions_clean e c.1) (functions_clean i c.2)
    functions_clean (value_call e m es) c =
        all_append Blind (functions_in e) (functions_in_all es ++ m ∷ []) (functions_clean e c.1)
        (all_append Blind (functions_in_all es) (m ∷ []) (all_functions_clean es c.2) (c.0, tt))
    functions_clean (unary op e) c = functions_clean e c
    functions_clean (binary op a b) c = all_append Blind (functions_in a) (functions_in b) (functions_clean a c.1) (functions_clean b c.2)

    all_functions_clean : (es : Expressions) → AreClean p written true es → AllByRecursion Blind (functions_in_all es)
    all_functions_clean no_expressions c = tt
    all_functions_clean (expression_and e es) c = all_append Blind (functions_in e) (functions_in_all es) (functions_clean e c.0) (all_functions_clean es c.1)

  held_fields : (fs : List FieldId) → Leads p written held (map accesses fs) held
  held_fields [] = nowhere
  held_fields (f ∷ fs) = and_then (access f) (held_fields fs)

  held_functions : (ms : List FunctionId) → Leads p written held (map evaluates ms) held
  held_functions [] = nowhere
  held_functions (m ∷ ms) = and_then (evaluate m) (held_functions ms)

  free_fields : (fs : List FieldId) → AllByRecursion Constant fs → Leads p written free (map accesses fs) free
  free_fields [] a = nowhere
  free_fields (f ∷ fs) a = and_then (access_constant f a.0) (free_fields fs a.1)

  free_functions : (ms : List FunctionId) → AllByRecursion Blind ms → Leads p written free (map evaluates ms) free
  free_functions [] a = nowhere
  free_functions (m ∷ ms) a = and_then (evaluate_constant m a.0) (free_functions ms a.1)

  pub evaluated_leads : (after : Bool) (l : Lock) (e : Expression) → IsClean p written after e → Ready after l → Leads p written l (evaluated e) l
  evaluated_leads after held e c r = chained (held_fields (fields_in e)) (held_functions (functions_in e))
  evaluated_leads after free e c r =
      let k = subst (λ b. IsClean p written b e) r c in
      chained (free_fields (fields_in e) (fields_clean e k)) (free_functions (functions_in e) (functions_clean e k))
  evaluated_leads after spawning e c r = absurd r
  evaluated_leads after behind e c r = absurd r

  access_leads : (after : Bool) (l : Lock) (f : FieldId) → MayAccess written after f → Ready after l → Allows p written l (accesses f) l
  access_leads after held f a r = access f
  access_leads after free f a r = access_constant f (subst (λ b. MayAccess written b f) r a)
  access_leads after spawning f a r = absurd r
  access_leads after behind f a r = absurd r

  put_leads : {x : program.Statement} → IsPut x → (after : Bool) (l : Lock) → IsSeparated p written after x → Ready after l → Leads p written l (happens x) l
  put_leads (puts_local line n op e) after l s r = evaluated_leads after l e s r
  put_leads (puts_field line f op e) after l s r = and_then (access_leads after l f s.0 r) (evaluated_leads after l e s.1 r)
  put_leads (puts_item line f i op e) after l s r = and_then (access_leads after l f s.0 r) (chained (evaluated_leads after l i s.1 r) (evaluated_leads after l e s.2 r))
  put_leads (creates_local line n c) after l s r = absurd s
  put_leads (creates_field line f c) after l s r = absurd s
  put_leads (creates_item line f i c) after l s r = absurd s

  pub line_leads : {s : tree.Statement} {x : program.Statement} → IsLine s x → (after : Bool) (l : Lock) → IsSeparated p written after x → Ready after l → Leads p written l (happens x) l
  line_leads (declared at ty name name_at v h) after l s r = put_leads h after l s r
  line_leads (assigned at target op right h) after l s r = put_leads h after l s r
  line_leads (printed at e line v) after l s r = absurd s
