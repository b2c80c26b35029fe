-- What `pairs` and `plan` write of a plan.
use Rattle.std.specs.Prelude.{ℕ, ◌+◌, ◌||◌, nat_eq, List, [], ◌∷◌, ◌++◌, flat_map, Option, Some, None, slice_get, codes, decimal, Bool, true, false}
use Rattle.ca_program.specs.declared.program.FieldInfo.{FieldInfo}
use Rattle.ca_program.specs.declared.program.FieldId.{FieldId}
use Rattle.ca_program.specs.declared.program.LoopId.{LoopId}
use Rattle.ca_program.specs.declared.program.OpId.{OpId}
use Rattle.ca_program.specs.Plain.{PlainProgram, PlainMethod, PlainClass}
use Rattle.ca_model.specs.Heaps.{fields_of}
use Rattle.ca_model.specs.Lines.{in_a_row}
use Rattle.ca_parallel.specs.Lists.{op_in}
use Rattle.ca_section.specs.declared.offence.Why.{Why}
use Rattle.ca_section.specs.declared.offence.Why.TheVariants.{AccessAfterCall, ForeignRead, FunctionRead, Creates, Prints, DividesByVariable}
use Rattle.ca_verdicts.specs.declared.verdicts.Verdict.{Verdict}
use Rattle.ca_verdicts.specs.declared.verdicts.Verdict.TheVariants.{Commutes, Unproved}
use Rattle.ca_verdicts.specs.declared.verdicts.Reason.{Reason}
use Rattle.ca_verdicts.specs.declared.verdicts.Reason.TheVariants.{NotSeparable, LoopForm, Large, FieldDiffers, DemandsDiffer}
use Rattle.ca_plan.specs.Plans.{PairVerdict, PlainPlan, Judged, JudgedLoop}

-- Names

abbrev pub class_name : Option PlainClass → List ℕ
class_name None = []
class_name (Some c) = c.name

abbrev pub field_name : Option FieldInfo → List ℕ
field_name None = []
field_name (Some f) = f.name

abbrev pub field_text : PlainProgram → FieldId → List ℕ
field_text p f = field_name (slice_get (fields_of (slice_get p.classes f.class.0)) f.field)

-- the parts of the name of an operation: that of its class, the colons behind it, and its own
abbrev pub class_part : PlainProgram → Option PlainMethod → List ℕ
class_part p None = []
class_part p (Some m) = class_name (slice_get p.classes m.class.0)

abbrev pub colons_part : Option PlainMethod → List ℕ
colons_part None = []
colons_part (Some m) = codes "::"

abbrev pub name_part : Option PlainMethod → List ℕ
name_part None = []
name_part (Some m) = m.name

-- an operation is written C::m
abbrev pub method_text : PlainProgram → Option PlainMethod → List ℕ
method_text p m = in_a_row (class_part p m ∷ colons_part m ∷ name_part m ∷ [])

abbrev pub op_text : PlainProgram → OpId → List ℕ
op_text p op = method_text p (slice_get p.ops op.0)

-- Verdicts

abbrev pub why_text : Why → List ℕ
why_text AccessAfterCall = codes "AccessAfterCall"
why_text ForeignRead = codes "ForeignRead"
why_text FunctionRead = codes "FunctionRead"
why_text Creates = codes "Creates"
why_text Prints = codes "Prints"
why_text DividesByVariable = codes "DividesByVariable"

abbrev pub reason_text : PlainProgram → Reason → List ℕ
reason_text p (NotSeparable op line why) = in_a_row (codes "NotSeparable " ∷ op_text p op ∷ codes " " ∷ decimal line ∷ codes " " ∷ why_text why ∷ [])
reason_text p (LoopForm line) = in_a_row (codes "LoopForm " ∷ decimal line ∷ [])
reason_text p Large = codes "Large"
reason_text p (FieldDiffers f x y) = in_a_row (codes "FieldDiffers " ∷ field_text p f ∷ [])
reason_text p (DemandsDiffer kind parts x y) = codes "DemandsDiffer"

abbrev pub verdict_text : PlainProgram → Verdict → List ℕ
verdict_text p Commutes = codes "commutes"
verdict_text p (Unproved why) = codes "unproved " ++ reason_text p why

-- What `pairs` writes

abbrev pub names_text : PlainProgram → OpId → OpId → List ℕ
names_text p a b = in_a_row (op_text p a ∷ codes " " ∷ op_text p b ∷ codes " " ∷ [])

-- a pair in its line
abbrev pub pair_text : PlainProgram → PairVerdict → List ℕ
pair_text p x = names_text p x.a x.b ++ (verdict_text p x.verdict ++ codes "\n")

abbrev pub head_text : PlainProgram → ℕ → List ℕ
head_text p n = in_a_row (codes "extent " ∷ op_text p (record { 0 = n }) ∷ codes "\n" ∷ [])

-- operation n, and the pairs of its extent
abbrev pub extent_text : PlainProgram → ℕ → Judged → List ℕ
extent_text p n j = head_text p n ++ flat_map (pair_text p) j.pairs

-- the operations from number n on
abbrev pub extents_text : PlainProgram → ℕ → List Judged → List ℕ
extents_text p n [] = []
extents_text p n (j ∷ js) = extent_text p n j ++ extents_text p (n + 1) js

-- a call loop, and the pairs of its extent
abbrev pub loop_text : PlainProgram → JudgedLoop → List ℕ
loop_text p l = in_a_row (codes "loop " ∷ decimal l.line ∷ codes "\n" ∷ []) ++ flat_map (pair_text p) l.judged.pairs

abbrev pub pairs_text : PlainProgram → PlainPlan → List ℕ
pairs_text p plan = extents_text p 0 plan.ops ++ flat_map (loop_text p) plan.loops

-- What `plan` writes

abbrev pub mode_text : Bool → List ℕ
mode_text true = codes " parallel\n"
mode_text false = codes " serial\n"

abbrev pub loop_in : List LoopId → LoopId → Bool
loop_in [] site = false
loop_in (x ∷ xs) site = nat_eq x.0 site.0 || loop_in xs site

abbrev pub named_text : PlainProgram → ℕ → Bool → List ℕ
named_text p n parallel = in_a_row (codes "op " ∷ op_text p (record { 0 = n }) ∷ mode_text parallel ∷ [])

abbrev pub op_mode_text : PlainProgram → List OpId → ℕ → List ℕ
op_mode_text p marked n = named_text p n (op_in marked (record { 0 = n }))

-- the operations from number n on
abbrev pub modes_text : PlainProgram → List OpId → ℕ → List Judged → List ℕ
modes_text p marked n [] = []
modes_text p marked n (j ∷ js) = op_mode_text p marked n ++ modes_text p marked (n + 1) js

abbrev pub loop_mode_text : List LoopId → JudgedLoop → List ℕ
loop_mode_text marked l = in_a_row (codes "loop " ∷ decimal l.line ∷ mode_text (loop_in marked l.site) ∷ [])

abbrev pub plan_text : PlainProgram → PlainPlan → List ℕ
plan_text p plan = modes_text p plan.marks.ops 0 plan.ops ++ flat_map (loop_mode_text plan.marks.loops) plan.loops
