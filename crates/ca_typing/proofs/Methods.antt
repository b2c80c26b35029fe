-- A method that is judged fine is well typed, and its parameters and its result have the types that calls are judged by.
use Rattle.std.proofs.Common.{◌≡◌, ℕ, List, [], ◌∷◌, ◌++◌, true, length, map, take, refl, sym, subst, ap, ◌∙◌, arith}
use Rattle.std.specs.Prelude.{Option, Some, None, is_some, not, ◌&&◌}
use Rattle.std.proofs.lemmas.List.{append_assoc, append-nil, length-map}
use Rattle.std.proofs.lemmas.Bool.{not-false}
use Rattle.ca_tree.specs.declared.tree.TypeNode.{TypeNode}
use Rattle.ca_tree.specs.declared.tree.ParamNode.{ParamNode}
use Rattle.ca_tree.specs.Plain.{MethodTree}
use Rattle.ca_program.specs.declared.program.ValueType.{ValueType}
use Rattle.ca_program.specs.Plain as program
use Rattle.ca_program.specs.Plain.{PlainProgram, PlainMethod}
use Rattle.ca_meaning.specs.WellTyped.{parameters_of}
use Rattle.ca_meaning.specs.ProgramTyped.{Scope as TypesOf, IsClass, MethodTyped, LastReturns, scope_of}
use Rattle.ca_resolve.specs.Judged.{Judged, fine, both, unless, beside}
use Rattle.ca_resolve.specs.Scopes.{Ty, ty_of, find_local}
use Rattle.ca_types.specs.Rules.{member_once, local_once, ends_with_return, parameter_limit, local_limit, last_returns}
use Rattle.ca_types.specs.Statements.{Env, judge_type, type_of, judge_statements}
use Rattle.ca_types.specs.Classes.{behind_parameter, behind_parameters, judge_parameter, judge_parameters, MemberEnv, judge_result_type, result_ty, method_limit, method_begin, body_begin, method_end, method_of, judge_method}
use Rattle.ca_types.specs.clauses.Adding.{gathered, add_parameter}
use Rattle.ca_types.proofs.Gathered.{parameters_gathered}
use Rattle.ca_typing.proofs.Fits.{StatementsFit}
use Rattle.ca_typing.proofs.Lists.{Begins, begins_itself, begins_through, begins_taken, begins_shorter, item_there}
use Rattle.ca_typing.proofs.Judging.{same_fine, within_fine, made_fine, both_fine, unless_fine, none_broken, beside_fine, not_broken, gathered_fine}
use Rattle.ca_typing.proofs.Types.{Declared, type_declared}
use Rattle.ca_typing.proofs.Values.{AllDeclared, ClassesTyped}
use Rattle.ca_typing.proofs.Statements.{ResultTyped, Stands, from_none, all_grow, in_order_typed, statements_typed}
use Rattle.ca_typing.proofs.Returning.{statements_return}

abbrev pub parameter_tys : List (List ℕ) → List ParamNode → List Ty
parameter_tys names ps = map (λ p. ty_of names p.ty) ps

parameters_strict : (s : Env) (j : Judged (Unit {0})) (p : ParamNode) (b : Unit {0}) → add_parameter s j p ≡ fine b → (a : Unit {0}) × (j ≡ fine a)
parameters_strict s j p b h =
    let w = made_fine (both j (judge_parameter s p)) (λ (r : Unit {0} × ValueType). r.0) b h in
    (w.0.0, (both_fine j (judge_parameter s p) w.0 w.1).0)

parameter_declared : (c : Env) (a b : Unit {0}) (p : ParamNode) → add_parameter c (fine a) p ≡ fine b → Declared (ty_of c.scope.classes.names p.ty)
parameter_declared c a b p h =
    let w = made_fine (both (fine a) (judge_parameter c p)) (λ (r : Unit {0} × ValueType). r.0) b h in
    let d = both_fine (fine a) (judge_parameter c p) w.0 w.1 in
    let typed = judge_type c.scope.classes.names p.ty in
    let parameters = parameter_limit (length c.locals) p.at in
    let locals = local_limit (length c.locals) p.at in
    let u = within_fine (beside parameters (beside locals typed)) (λ t. unless (local_once c.first (find_local c.scope.locals p.name) p.at) t) w.0.1 d.1 in
    let t = beside_fine locals typed u.0 (beside_fine parameters (beside locals typed) u.0 u.1).1 in
    (type_declared c.scope.classes.names p.ty u.0 t.1).0

-- what stands behind parameters has their types as its first locals
pub parameters_locals : (c : Env) (ps : List ParamNode) → (behind_parameters c ps).locals ≡ c.locals ++ map type_of (parameter_tys c.scope.classes.names ps)
parameters_locals c [] = sym (append-nil c.locals)
parameters_locals c (p ∷ ps) = parameters_locals (behind_parameter c p) ps ∙ append_assoc c.locals (type_of (ty_of c.scope.classes.names p.ty) ∷ []) (map type_of (parameter_tys c.scope.classes.names ps))

pub parameters_declared : (c : Env) (ps : List ParamNode) (a b : Unit {0}) → gathered behind_parameter add_parameter c (fine a) ps ≡ fine b → AllDeclared (parameter_tys c.scope.classes.names ps)
parameters_declared c [] a b h = tt
parameters_declared c (p ∷ ps) a b h =
    let w = gathered_fine behind_parameter add_parameter parameters_strict c a p ps b h in
    (parameter_declared c a w.0 p w.1, parameters_declared (behind_parameter c p) ps w.0 b w.2)

-- names of parameters have their types
parameters_stand : (p : PlainProgram) (q : TypesOf) (c : Env) (ps : List ParamNode) → Stands p q c → AllDeclared (parameter_tys c.scope.classes.names ps) → Begins (behind_parameters c ps).locals q.locals
    → Stands p q (behind_parameters c ps)
parameters_stand p q c [] here d g = here
parameters_stand p q c (x ∷ ps) here d g =
    let next = behind_parameter c x in
    let ty = ty_of c.scope.classes.names x.ty in
    let more : Begins next.locals (behind_parameters next ps).locals = (map type_of (parameter_tys c.scope.classes.names ps), sym (parameters_locals next ps)) in
    let there = item_there c.locals q.locals (type_of ty) (begins_through next.locals (behind_parameters next ps).locals q.locals more g) in
    parameters_stand p q next ps (record { scope = record { classes = here.scope.classes; class = here.scope.class; locals = ((d.0, there), here.scope.locals) }; result = here.result }) d.1 g

-- the parts of a method that is fine
pub record MethodFine (c : MemberEnv) (m : MethodTree) (method : PlainMethod) : Type 0 where
  pub result : Option ValueType
  pub statements : List program.Statement
  pub result_is : judge_result_type c.classes.names m.result ≡ fine result
  pub parameters_are : gathered behind_parameter add_parameter (method_begin c m) (fine tt) m.params ≡ fine tt
  pub statements_are : judge_statements (body_begin c m) m.body ≡ fine statements
  pub ends : ends_with_return (is_some m.result) m.body m.at ≡ None
  pub is : method_of c m result statements ≡ method

pub method_fine : (c : MemberEnv) (m : MethodTree) (method : PlainMethod) → judge_method c m ≡ fine method → MethodFine c m method
method_fine c m method h =
    let results = judge_result_type c.classes.names m.result in
    let parameters = judge_parameters (method_begin c m) m.params in
    let statements = judge_statements (body_begin c m) m.body in
    let parts = both results (both parameters statements) in
    let limit = method_limit c.numbers m.result m.at in
    let once = member_once c.names c.number m.name m.at in
    let ends = ends_with_return (is_some m.result) m.body m.at in
    let w = within_fine (beside limit parts) (λ (r : Option ValueType × (Unit {0} × List program.Statement)). beside once (unless ends (method_of c m r.0 r.1.1))) method h in
    let b = both_fine results (both parameters statements) w.0 (beside_fine limit parts w.0 w.1).1 in
    let d = both_fine parameters statements w.0.1 b.1 in
    let k = beside_fine once (unless ends (method_of c m w.0.0 w.0.1.1)) method w.2 in
    record {
      result = w.0.0;
      statements = w.0.1.1;
      result_is = b.0;
      parameters_are = sym (parameters_gathered (method_begin c m) m.params) ∙ d.0;
      statements_are = d.1;
      ends = none_broken ends (method_of c m w.0.0 w.0.1.1) method k.1;
      is = unless_fine ends (method_of c m w.0.0 w.0.1.1) method k.1;
    }

-- the result has the type that calls are judged by
pub result_typed : (names : List (List ℕ)) (ty : Option TypeNode) (r : Option ValueType) → judge_result_type names ty ≡ fine r → ResultTyped (result_ty names ty) r
result_typed names None r h = subst (ResultTyped None) (same_fine None r h) tt
result_typed names (Some ty) r h =
    let w = made_fine (judge_type names ty) (λ t. Some t) r h in
    subst (ResultTyped (Some (ty_of names ty))) w.2 (type_declared names ty w.0 w.1)

module _ (c : MemberEnv) (m : MethodTree) (method : PlainMethod) (f : MethodFine c m method) where
  body_locals : (body_begin c m).locals ≡ map type_of (parameter_tys c.classes.names m.params)
  body_locals = parameters_locals (method_begin c m) m.params

  as_many : length m.params ≡ length (body_begin c m).locals
  as_many =
      let a = length-map (parameter_tys c.classes.names m.params) type_of in
      let b = length-map m.params (λ (p : ParamNode). ty_of c.classes.names p.ty) in
      sym b ∙ (sym a ∙ ap length (sym body_locals))

  -- the parameters have the types that calls are judged by
  pub signature_typed : AllDeclared (parameter_tys c.classes.names m.params) × (parameters_of method ≡ map type_of (parameter_tys c.classes.names m.params)) × (method.class ≡ c.class)
  signature_typed =
      let made = method_of c m f.result f.statements in
      let taken : parameters_of made ≡ map type_of (parameter_tys c.classes.names m.params) =
      ap (λ n. take n (method_end c m).locals) as_many ∙ (begins_taken (body_begin c m).locals (method_end c m).locals (all_grow (body_begin c m) m.body) ∙ body_locals) in
      (parameters_declared (method_begin c m) m.params tt tt f.parameters_are, ap parameters_of (sym f.is) ∙ taken, ap (λ (x : PlainMethod). x.class) (sym f.is))

  pub result_is : method.result ≡ f.result
  result_is = ap (λ (x : PlainMethod). x.result) (sym f.is)

  pub method_typed : (p : PlainProgram) → ClassesTyped p c.classes → IsClass p c.class → StatementsFit m.body → MethodTyped p method
  method_typed p classes class fits =
      let made = method_of c m f.result f.statements in
      let q = scope_of made in
      let begin = method_begin c m in
      let grown = all_grow (body_begin c m) m.body in
      let start : Stands p q begin = record { scope = record { classes = classes; class = refl; locals = tt }; result = result_typed c.classes.names m.result f.result f.result_is } in
      let stands = parameters_stand p q begin m.params start (parameters_declared begin m.params tt tt f.parameters_are) grown in
      let body = (statements_typed p q (body_begin c m) m.body [] f.statements stands fits (begins_itself (method_end c m).locals) tt (from_none (body_begin c m) m.body f.statements f.statements_are)).0 in
      let few = begins_shorter (body_begin c m).locals (method_end c m).locals grown in
      let many = as_many in
      let typed : MethodTyped p made = record { class = class; parameters = omega (arith, few, many); body = in_order_typed p q f.statements body } in
      subst (MethodTyped p) f.is typed

  -- a value method can't end without a `return`
  pub method_returns : is_some m.result ≡ true → LastReturns method.body.statements
  method_returns some =
      let ends = not_broken (is_some m.result && not (last_returns m.body)) m.at 30 f.ends in
      let last : last_returns m.body ≡ true = not-false (last_returns m.body) (ap (λ b. b && not (last_returns m.body)) (sym some) ∙ ends) in
      subst (λ (x : PlainMethod). LastReturns x.body.statements) f.is (statements_return (body_begin c m) m.body f.statements f.statements_are last)
