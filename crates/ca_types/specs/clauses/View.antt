-- What the walk keeps, as the definitions see it.
use Rattle.std.specs.Prelude.{ℕ, ◌-◌, List, map, length, drop}
use Rattle.std.specs.Option.{option_map}
use Rattle.ca_resolve.specs.LocalView.{ty_view}
use Rattle.ca_resolve.specs.View.{classes_view}
use Rattle.std.specs.Prelude.{Result, Ok, Err, Option}
use Rattle.ca_resolve.specs.declared.errors.CheckError.{CheckError}
use Rattle.ca_resolve.specs.declared.errors.CheckError.TheVariants.{Violation as Tells_violation, Limit as Tells_limit, Memory}
use Rattle.std.specs.declared.boxed.Box.{Box}
use Rattle.std.specs.declared.vec.Vec.{Vec}
use Rattle.std.specs.Global.{Global}
use Rattle.ca_program.specs.declared.program.Stmt.{Stmt}
use Rattle.ca_program.specs.declared.program.ValueType.{ValueType}
use Rattle.ca_program.specs.Plain.{Statement}
use Rattle.ca_program.specs.View.{expression_view, statement_view}
use Rattle.ca_types.specs.declared.puts.Source.{Source as CodeSource}
use Rattle.ca_types.specs.declared.puts.Source.TheVariants.{Value, New}
use Rattle.ca_types.specs.declared.members.Counts.{Counts}
use Rattle.ca_types.specs.declared.members.MemberWalk.{MemberWalk}
use Rattle.ca_resolve.specs.Scopes.{Numbers}
use Rattle.ca_types.specs.declared.classes.Members.{Members as CodeMembers}
use Rattle.ca_types.specs.declared.classes.Parts.{Parts as CodeParts}
use Rattle.ca_types.specs.declared.classes.ClassWalk.{ClassWalk}
use Rattle.ca_program.specs.View.{class_view, method_view}
use Rattle.ca_types.specs.Classes.{MemberEnv, ClassEnv, Members, Parts}
use Rattle.ca_types.specs.Statements.{Env, Source, of_value, of_new}
use Rattle.ca_types.specs.declared.walk.Walk.{Walk}

abbrev pub env_view : Walk → Env
env_view w = record {
  scope = record { classes = classes_view w.classes.now; class = w.class; locals = w.visible };
  first = w.first;
  locals = w.locals.items;
  loops = w.loops;
  result = option_map ty_view w.result;
}

-- what the walk leaves at the end of a block: so many locals are visible outside, and the first local of the block round it
-- has this number
abbrev pub left : Env → ℕ → ℕ → Env
left d visible first = record {
  scope = record { classes = d.scope.classes; class = d.scope.class; locals = drop (length d.scope.locals - visible) d.scope.locals };
  first = first;
  locals = d.locals;
  loops = d.loops;
  result = d.result;
}

abbrev pub source_view : CodeSource → Source
source_view (Value e) = of_value (expression_view e)
source_view (New c) = of_new c

-- the type and the first value of a local, where no limit is passed
abbrev pub local_parts_view : Unit {0} × (ValueType × CodeSource) → ValueType × Source
local_parts_view p = (p.1.0, source_view p.1.1)

-- a result other than out of memory
abbrev pub Tells_something : {T : Type 0} → Result T CheckError → Type 0
Tells_something (Ok t) = Unit {0}
Tells_something (Err (Tells_violation at code)) = Unit {0}
Tells_something (Err (Tells_limit at code)) = Unit {0}
Tells_something (Err Memory) = ⊥

abbrev pub all_view : Vec Stmt Global → List Statement
all_view v = map statement_view v.items

-- a statement in a box
abbrev pub boxed_view : Box Stmt Global → Statement
boxed_view b = statement_view b.value

abbrev pub counts_view : Counts → Numbers
counts_view n = record { field = n.fields; operation = n.operations; function = n.functions }

abbrev pub member_env : MemberWalk → MemberEnv
member_env w = record {
  classes = classes_view w.classes.now;
  class = w.class;
  names = w.names;
  number = w.number;
  numbers = counts_view w.counts;
  loops = w.loops;
}

abbrev pub class_env : ClassWalk → ClassEnv
class_env w = record {
  classes = classes_view w.classes.now;
  number = w.number;
  numbers = counts_view w.counts;
  loops = w.loops;
}

abbrev pub members_view : CodeMembers → Members
members_view m = record { fields = m.fields.items; ops = map method_view m.ops.items; functions = map method_view m.functions.items }

abbrev pub parts_view : CodeParts → Parts
parts_view p = record { classes = map class_view p.classes.items; ops = map method_view p.ops.items; functions = map method_view p.functions.items }

abbrev pub method_parts_view : Option ValueType × (Unit {0} × Vec Stmt Global) → Option ValueType × (Unit {0} × List Statement)
method_parts_view p = (p.0, (p.1.0, all_view p.1.1))
