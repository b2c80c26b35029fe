-- What a walk has gathered, and what an item adds to it.
use Rattle.std.specs.Prelude.{ℕ, List, [], ◌∷◌, ◌++◌, Option, Some, None}
use Rattle.ca_tree.specs.declared.tree.ParamNode.{ParamNode}
use Rattle.ca_tree.specs.Plain.{MemberTree, ClassTree, field_member, method_member}
use Rattle.ca_program.specs.declared.program.FieldInfo.{FieldInfo}
use Rattle.ca_program.specs.declared.program.ValueType.{ValueType}
use Rattle.ca_program.specs.Plain as program
use Rattle.ca_resolve.specs.Judged.{Judged, fine, both, within}
use Rattle.ca_types.specs.Statements.{Env}
use Rattle.ca_types.specs.Classes.{judge_parameter, MemberEnv, judge_field_member, judge_method, Members, ClassEnv, judge_class, Parts}

-- what the items of a list give behind `front`
abbrev pub gathered : {S T A : Type 0} → (S → T → S) → (S → Judged A → T → Judged A) → S → Judged A → List T → Judged A
gathered next add s front [] = front
gathered next add s front (x ∷ xs) = gathered next add (next s x) (add s front x) xs

abbrev pub add_parameter : Env → Judged (Unit {0}) → ParamNode → Judged (Unit {0})
add_parameter c front p = within (both front (judge_parameter c p)) (λ r. fine r.0)

abbrev pub with_field : Members → FieldInfo → Members
with_field p f = record { fields = p.fields ++ f ∷ []; ops = p.ops; functions = p.functions }

-- an operation has no result
abbrev pub with_method : Members → Option ValueType → program.PlainMethod → Members
with_method p None m = record { fields = p.fields; ops = p.ops ++ m ∷ []; functions = p.functions }
with_method p (Some t) m = record { fields = p.fields; ops = p.ops; functions = p.functions ++ m ∷ [] }

abbrev pub add_member : MemberEnv → Judged Members → MemberTree → Judged Members
add_member c front (field_member f) = within (both front (judge_field_member c f)) (λ p. fine (with_field p.0 p.1))
add_member c front (method_member m) = within (both front (judge_method c m)) (λ p. fine (with_method p.0 p.1.result p.1))

abbrev pub with_class : Parts → List ℕ → Members → Parts
with_class p name m = record { classes = p.classes ++ record { name = name; fields = m.fields } ∷ []; ops = p.ops ++ m.ops; functions = p.functions ++ m.functions }

abbrev pub add_class : ClassEnv → Judged Parts → ClassTree → Judged Parts
add_class c front t = within (both front (judge_class c t)) (λ p. fine (with_class p.0 t.name p.1))
