-- The rules of types, locals and assignments as their parts.
use Rattle.std.proofs.Common.{◌≡◌, ℕ, pos, List, [], ◌∷◌, Bool, true, false, cond, Option, Some, None, refl, ◌∙◌, subst}
use Rattle.std.specs.Prelude.{is_some}
use Rattle.ca_descent.specs.Exact.{Answer, Exact, Sees, sees, head_of, Seen, Unseen, Before}
use Rattle.ca_descent.proofs.Exact.{seen, unseen, exact_map, sees_head}
use Rattle.ca_descent.proofs.Parts.{then, upto, done, Part, ◌⨾◌, finish, default_of}
use Rattle.ca_tree.specs.declared.name.Place.{Place}
use Rattle.ca_tree.specs.declared.token.Token.{Token}
use Rattle.ca_tree.specs.declared.token.Kind.TheVariants.{Key as KeyKind, Sign as SignKind}
use Rattle.ca_tree.specs.declared.token.Sign.{Sign}
use Rattle.ca_tree.specs.declared.token.Keyword.{Keyword}
use Rattle.ca_tree.specs.declared.token.Keyword.TheVariants.{Long as LongKey, Bool as BoolKey, New}
use Rattle.ca_tree.specs.declared.token.Sign.TheVariants.{OpenParenthesis, CloseParenthesis, Semicolon, Assign as AssignSign, Times, Increment, Decrement}
use Rattle.ca_tree.specs.declared.tree.TypeNode.{TypeNode}
use Rattle.ca_tree.specs.declared.tree.TypeNode.TheVariants.{Long, Bool as BoolType, Pointer}
use Rattle.ca_tree.specs.declared.tree.AssignOp.{AssignOp}
use Rattle.ca_tree.specs.declared.tree.AssignOp.TheVariants.{Put, Add, Sub}
use Rattle.ca_tree.specs.Operators.{unary_level, binary_of_word}
use Rattle.ca_tree.specs.Plain.{Expression, RightSide, Statement, number as number_tree, value, new, local, assign}
use Rattle.ca_expressions.specs.Terminals.{key, key_of, sign, sign_of, goes_on, goes_on_of}
use Rattle.ca_expressions.specs.Grammar.{OuterExpression, is_target}
use Rattle.ca_expressions.proofs.Outer.{an_expression, expression_begins}
use Rattle.ca_expressions.proofs.Terminals.{key_gives, sign_gives, name_gives, word, mark, a_name}
use Rattle.ca_parse.proofs.Uses.{a_picked}
use Rattle.ca_parse.proofs.Alone.{Alone, fewer_alone}
use Rattle.ca_parse.proofs.Compounds.{compound_none, a_compound}
use Rattle.ca_parse.specs.Grammar.{Deriving, TypeName, long, bool, pointer, Right, expression, creation, creation_call, Local, declares, begins, Change, puts, changes, increments, decrements, Assign, assigns, AssignLine, assign_line, first_place}
use Rattle.ca_parse.specs.clauses.Closed.{RightClosed, ChangeClosed, AssignClosed, AssignTo, assign_to, AssignToClosed, target_of}

-- behind the token stands nothing that goes on with an expression
pub ended_sign : (k : Sign) {s r : List Token} {p : Place} → Sees (sign k) s p r → ((at : Place) → goes_on_of 0 (SignKind k) at ≡ None) → head_of (goes_on 0) s ≡ None
ended_sign k d f = sign_gives (goes_on_of 0) k d ∙ f _

abbrev pub long_parts : Part Token (TypeNode × Place)
long_parts = word LongKey ⨾ λ l. finish (Long, l)

pub long_join : (free : ℕ) (s r : List Token) (x : (TypeNode × Place)) → long_parts.D free s x r → TypeName free s x r
long_join free s r x (then d done) = long d

long_split : (a0 : Place) (free : ℕ) (s r : List Token) (x : (TypeNode × Place)) → Seen (key LongKey) a0 TypeName free s x r → long_parts.C free s x r
long_split a0 free s r x c = at free s r x c.it c.seen
  where
    at : (free : ℕ) (s r : List Token) (x : (TypeNode × Place)) → TypeName free s x r → head_of (key LongKey) s ≡ Some a0 → long_parts.C free s x r
    at free s r x (long d) g0 = upto d done
    at free s r x (bool d) g0 = let f = key_gives (key_of LongKey) BoolKey d in absurd cc
    at free s r x (pointer n t) g0 = let f = name_gives (key_of LongKey) n in absurd cc

pub long_answer : {a0 : Place} {s : List Token} {o : Answer Token (TypeNode × Place)} → head_of (key LongKey) s ≡ Some a0 → Exact long_parts.D long_parts.C s o → Exact TypeName TypeName s o
long_answer {a0} h0 d = seen {want = key LongKey} h0 (exact_map (long_join) (long_split a0) d)

pub long_alone : {a0 : Place} {s r : List Token} {x : (TypeNode × Place)} → head_of (key LongKey) s ≡ Some a0 → Alone long_parts.C s x r → Alone TypeName s x r
long_alone {a0} {s = s} h0 d = fewer_alone (λ free q w c. long_split a0 free s q w (record { it = c; seen = h0 })) d

abbrev pub bool_parts : Part Token (TypeNode × Place)
bool_parts = word BoolKey ⨾ λ l. finish (BoolType, l)

pub bool_join : (free : ℕ) (s r : List Token) (x : (TypeNode × Place)) → bool_parts.D free s x r → TypeName free s x r
bool_join free s r x (then d done) = bool d

bool_split : (a0 : Place) (free : ℕ) (s r : List Token) (x : (TypeNode × Place)) → Seen (key BoolKey) a0 TypeName free s x r → bool_parts.C free s x r
bool_split a0 free s r x c = at free s r x c.it c.seen
  where
    at : (free : ℕ) (s r : List Token) (x : (TypeNode × Place)) → TypeName free s x r → head_of (key BoolKey) s ≡ Some a0 → bool_parts.C free s x r
    at free s r x (bool d) g0 = upto d done
    at free s r x (long d) g0 = let f = key_gives (key_of BoolKey) LongKey d in absurd cc
    at free s r x (pointer n t) g0 = let f = name_gives (key_of BoolKey) n in absurd cc

pub bool_answer : {a0 : Place} {s : List Token} {o : Answer Token (TypeNode × Place)} → head_of (key BoolKey) s ≡ Some a0 → Exact bool_parts.D bool_parts.C s o → Exact TypeName TypeName s o
bool_answer {a0} h0 d = seen {want = key BoolKey} h0 (exact_map (bool_join) (bool_split a0) d)

pub bool_alone : {a0 : Place} {s r : List Token} {x : (TypeNode × Place)} → head_of (key BoolKey) s ≡ Some a0 → Alone bool_parts.C s x r → Alone TypeName s x r
bool_alone {a0} {s = s} h0 d = fewer_alone (λ free q w c. bool_split a0 free s q w (record { it = c; seen = h0 })) d

abbrev pub pointer_parts : Part Token (TypeNode × Place)
pointer_parts = a_name ⨾ λ n. mark Times ⨾ λ t. finish (Pointer n.0 n.1, n.1)

pub pointer_join : (free : ℕ) (s r : List Token) (x : (TypeNode × Place)) → pointer_parts.D free s x r → TypeName free s x r
pointer_join free s r x (then n (then t done)) = pointer n t

pointer_split : (free : ℕ) (s r : List Token) (x : (TypeNode × Place)) → Unseen (key BoolKey) (Unseen (key LongKey) TypeName) free s x r → pointer_parts.C free s x r
pointer_split free s r x c = at free s r x c.it.it c.it.unseen c.unseen
  where
    at : (free : ℕ) (s r : List Token) (x : (TypeNode × Place)) → TypeName free s x r → head_of (key LongKey) s ≡ None → head_of (key BoolKey) s ≡ None → pointer_parts.C free s x r
    at free s r x (pointer n t) g0 g1 = upto n (upto t done)
    at free s r x (long d) g0 g1 = let f = sees_head (key LongKey) d in absurd cc
    at free s r x (bool d) g0 g1 = let f = sees_head (key BoolKey) d in absurd cc

pub pointer_answer : {s : List Token} {o : Answer Token (TypeNode × Place)} → head_of (key LongKey) s ≡ None → head_of (key BoolKey) s ≡ None → Exact pointer_parts.D pointer_parts.C s o → Exact TypeName TypeName s o
pointer_answer h0 h1 d = unseen {want = key LongKey} h0 (unseen {want = key BoolKey} h1 (exact_map (pointer_join) (pointer_split) d))

pub pointer_alone : {s r : List Token} {x : (TypeNode × Place)} → head_of (key LongKey) s ≡ None → head_of (key BoolKey) s ≡ None → Alone pointer_parts.C s x r → Alone TypeName s x r
pointer_alone {s = s} h0 h1 d = fewer_alone (λ free q w c. pointer_split free s q w (record { it = (record { it = c; unseen = h0 }); unseen = h1 })) d

abbrev pub a_type : Part Token (TypeNode × Place)
a_type = record { D = TypeName; C = TypeName; some = default_of long_parts.D TypeName long_join long_parts.some }

-- what stands behind `new` and a name
pub data Created (n : List ℕ × Place) : ℕ → List Token → RightSide → List Token → Type 0 where
  created : {free : ℕ} {s : List Token} → Created n free s (new n.0 n.1) s
  created_call : {free : ℕ} {s s1 r : List Token} {o c : Place} → Sees (sign OpenParenthesis) s o s1
      → Sees (sign CloseParenthesis) s1 c r → Created n free s (new n.0 n.1) r

abbrev pub CreatedClosed : List ℕ × Place → Deriving RightSide
CreatedClosed n = Before (sign OpenParenthesis) (Created n)

abbrev pub expression_parts : Part Token RightSide
expression_parts = an_expression ⨾ λ x. finish (value x)

pub expression_join : (free : ℕ) (s r : List Token) (x : RightSide) → expression_parts.D free s x r → Right free s x r
expression_join free s r x (then e done) = expression e

expression_split : (free : ℕ) (s r : List Token) (x : RightSide) → Unseen (key New) RightClosed free s x r → expression_parts.C free s x r
expression_split free s r x c = at free s r x c.it.it c.it.stop c.unseen
  where
    at : (free : ℕ) (s r : List Token) (x : RightSide) → Right free s x r → head_of (goes_on 0) r ≡ None → head_of (key New) s ≡ None → expression_parts.C free s x r
    at free s r x (expression e) h g0 = upto (record { it = e; stop = h }) done
    at free s r x (creation w n) h g0 = let f = sees_head (key New) w in absurd cc
    at free s r x (creation_call w n o c) h g0 = let f = sees_head (key New) w in absurd cc

pub expression_answer : {s : List Token} {o : Answer Token RightSide} → head_of (key New) s ≡ None → Exact expression_parts.D expression_parts.C s o → Exact Right RightClosed s o
expression_answer h0 d = unseen {want = key New} h0 (exact_map (expression_join) (expression_split) d)

pub expression_alone : {s r : List Token} {x : RightSide} → head_of (key New) s ≡ None → Alone expression_parts.C s x r → Alone RightClosed s x r
expression_alone {s = s} h0 d = fewer_alone (λ free q w c. expression_split free s q w (record { it = c; unseen = h0 })) d

-- nothing begins with a token that goes on with an expression and with `(`
pub no_bracket : (s : List Token) → head_of (goes_on 0) s ≡ None → head_of (sign OpenParenthesis) s ≡ None
no_bracket [] h = refl
no_bracket (t ∷ s) h = at (sign OpenParenthesis t) refl
  where
    at : (o : Option Place) → sign OpenParenthesis t ≡ o → sign OpenParenthesis t ≡ None
    at None e = e
    at (Some p) e = let d : Sees (sign OpenParenthesis) (t ∷ s) p s = sees e in
        let f = sign_gives (goes_on_of 0) OpenParenthesis d in let g : goes_on 0 t ≡ None = h in absurd cc

-- `new` writes no operator
no_new : (w : Keyword) (at : Place) → is_some (binary_of_word w) ≡ true → key_of New (KeyKind w) at ≡ None
no_new New at h = absurd cc
no_new other at h = refl

-- no expression begins with `new`
pub expression_not_new : (free : ℕ) (s r : List Token) (x : Expression) → OuterExpression free s x r → head_of (key New) s ≡ None
expression_not_new = expression_begins (key_of New) (record {
  number = λ n at. refl;
  word = λ n at. refl;
  truth = λ at. refl;
  falsehood = λ at. refl;
  null = λ at. refl;
  this = λ at. refl;
  minus = λ at. refl;
  negation = λ at. refl;
  bracket = λ at. refl;
  by_word = no_new;
})

abbrev pub creation_parts : Part Token RightSide
creation_parts = word New ⨾ λ w. a_name ⨾ λ n. record { D = Created n; C = CreatedClosed n; some = record { more = []; tree = new n.0 n.1; reads = λ free r h. created } }

pub creation_join : (free : ℕ) (s r : List Token) (x : RightSide) → creation_parts.D free s x r → Right free s x r
creation_join free s r x (then w (then n created)) = creation w n
creation_join free s r x (then w (then n (created_call o c))) = creation_call w n o c

creation_split : (a0 : Place) (free : ℕ) (s r : List Token) (x : RightSide) → Seen (key New) a0 RightClosed free s x r → creation_parts.C free s x r
creation_split a0 free s r x c = at free s r x c.it.it c.it.stop c.seen
  where
    at : (free : ℕ) (s r : List Token) (x : RightSide) → Right free s x r → head_of (goes_on 0) r ≡ None → head_of (key New) s ≡ Some a0 → creation_parts.C free s x r
    at free s r x (creation w n) h g0 = upto w (upto n (record { it = created; stop = no_bracket r h }))
    at free s r x (creation_call w n o c) h g0 = upto w (upto n (record { it = created_call o c; stop = no_bracket r h }))
    at free s r x (expression e) h g0 = let f = expression_not_new _ _ _ _ e in absurd cc

pub creation_answer : {a0 : Place} {s : List Token} {o : Answer Token RightSide} → head_of (key New) s ≡ Some a0 → Exact creation_parts.D creation_parts.C s o → Exact Right RightClosed s o
creation_answer {a0} h0 d = seen {want = key New} h0 (exact_map (creation_join) (creation_split a0) d)

pub creation_alone : {a0 : Place} {s r : List Token} {x : RightSide} → head_of (key New) s ≡ Some a0 → Alone creation_parts.C s x r → Alone RightClosed s x r
creation_alone {a0} {s = s} h0 d = fewer_alone (λ free q w c. creation_split a0 free s q w (record { it = c; seen = h0 })) d

abbrev pub created_parts : (n : List ℕ × Place) → Part Token RightSide
created_parts n = finish (new n.0 n.1)

pub created_join : (n : List ℕ × Place) (free : ℕ) (s r : List Token) (x : RightSide) → (created_parts n).D free s x r → Created n free s x r
created_join n free s r x done = created

created_split : (n : List ℕ × Place) (free : ℕ) (s r : List Token) (x : RightSide) → Unseen (sign OpenParenthesis) (CreatedClosed n) free s x r → (created_parts n).C free s x r
created_split n free s r x c = at free s r x c.it.it c.it.stop c.unseen
  where
    at : (free : ℕ) (s r : List Token) (x : RightSide) → Created n free s x r → head_of (sign OpenParenthesis) r ≡ None → head_of (sign OpenParenthesis) s ≡ None → (created_parts n).C free s x r
    at free s r x created h g0 = done
    at free s r x (created_call o c) h g0 = let f = sees_head (sign OpenParenthesis) o in absurd cc

pub created_answer : (n : List ℕ × Place) {s : List Token} {o : Answer Token RightSide} → head_of (sign OpenParenthesis) s ≡ None → Exact (created_parts n).D (created_parts n).C s o → Exact (Created n) (CreatedClosed n) s o
created_answer n h0 d = unseen {want = sign OpenParenthesis} h0 (exact_map (created_join n) (created_split n) d)

pub created_alone : (n : List ℕ × Place) {s r : List Token} {x : RightSide} → head_of (sign OpenParenthesis) s ≡ None → Alone (created_parts n).C s x r → Alone (CreatedClosed n) s x r
created_alone n {s = s} h0 d = fewer_alone (λ free q w c. created_split n free s q w (record { it = c; unseen = h0 })) d

abbrev pub created_call_parts : (n : List ℕ × Place) → Part Token RightSide
created_call_parts n = mark OpenParenthesis ⨾ λ o. mark CloseParenthesis ⨾ λ c. finish (new n.0 n.1)

pub created_call_join : (n : List ℕ × Place) (free : ℕ) (s r : List Token) (x : RightSide) → (created_call_parts n).D free s x r → Created n free s x r
created_call_join n free s r x (then o (then c done)) = created_call o c

created_call_split : (n : List ℕ × Place) (a0 : Place) (free : ℕ) (s r : List Token) (x : RightSide) → Seen (sign OpenParenthesis) a0 (CreatedClosed n) free s x r → (created_call_parts n).C free s x r
created_call_split n a0 free s r x c = at free s r x c.it.it c.it.stop c.seen
  where
    at : (free : ℕ) (s r : List Token) (x : RightSide) → Created n free s x r → head_of (sign OpenParenthesis) r ≡ None → head_of (sign OpenParenthesis) s ≡ Some a0 → (created_call_parts n).C free s x r
    at free s r x (created_call o c) h g0 = upto o (upto c done)
    at free s r x created h g0 = absurd cc

pub created_call_answer : (n : List ℕ × Place) {a0 : Place} {s : List Token} {o : Answer Token RightSide} → head_of (sign OpenParenthesis) s ≡ Some a0 → Exact (created_call_parts n).D (created_call_parts n).C s o → Exact (Created n) (CreatedClosed n) s o
created_call_answer n {a0} h0 d = seen {want = sign OpenParenthesis} h0 (exact_map (created_call_join n) (created_call_split n a0) d)

pub created_call_alone : (n : List ℕ × Place) {a0 : Place} {s r : List Token} {x : RightSide} → head_of (sign OpenParenthesis) s ≡ Some a0 → Alone (created_call_parts n).C s x r → Alone (CreatedClosed n) s x r
created_call_alone n {a0} {s = s} h0 d = fewer_alone (λ free q w c. created_call_split n a0 free s q w (record { it = c; seen = h0 })) d

abbrev pub a_right : Part Token RightSide
a_right = record { D = Right; C = RightClosed; some = default_of expression_parts.D Right expression_join expression_parts.some }

-- what stands behind the type and the name of a local
pub data Begun (ty : TypeNode × Place) (n : List ℕ × Place) : ℕ → List Token → Statement → List Token → Type 0 where
  bare : {free : ℕ} {s r : List Token} {e : Place} → Sees (sign Semicolon) s e r → Begun ty n free s (local ty.1 ty.0 n.0 n.1 None) r
  valued : {free : ℕ} {s s1 s2 r : List Token} {a e : Place} {x : RightSide} → Sees (sign AssignSign) s a s1 → Right free s1 x s2
      → Sees (sign Semicolon) s2 e r → Begun ty n free s (local ty.1 ty.0 n.0 n.1 (Some x)) r

abbrev pub bare_parts : (ty : TypeNode × Place) (n : List ℕ × Place) → Part Token Statement
bare_parts ty n = mark Semicolon ⨾ λ e. finish (local ty.1 ty.0 n.0 n.1 None)

pub bare_join : (ty : TypeNode × Place) (n : List ℕ × Place) (free : ℕ) (s r : List Token) (x : Statement) → (bare_parts ty n).D free s x r → Begun ty n free s x r
bare_join ty n free s r x (then e done) = bare e

bare_split : (ty : TypeNode × Place) (n : List ℕ × Place) (free : ℕ) (s r : List Token) (x : Statement) → Unseen (sign AssignSign) (Begun ty n) free s x r → (bare_parts ty n).C free s x r
bare_split ty n free s r x c = at free s r x c.it c.unseen
  where
    at : (free : ℕ) (s r : List Token) (x : Statement) → Begun ty n free s x r → head_of (sign AssignSign) s ≡ None → (bare_parts ty n).C free s x r
    at free s r x (bare e) g0 = upto e done
    at free s r x (valued a v e) g0 = let f = sees_head (sign AssignSign) a in absurd cc

pub bare_answer : (ty : TypeNode × Place) (n : List ℕ × Place) {s : List Token} {o : Answer Token Statement} → head_of (sign AssignSign) s ≡ None → Exact (bare_parts ty n).D (bare_parts ty n).C s o → Exact (Begun ty n) (Begun ty n) s o
bare_answer ty n h0 d = unseen {want = sign AssignSign} h0 (exact_map (bare_join ty n) (bare_split ty n) d)

pub bare_alone : (ty : TypeNode × Place) (n : List ℕ × Place) {s r : List Token} {x : Statement} → head_of (sign AssignSign) s ≡ None → Alone (bare_parts ty n).C s x r → Alone (Begun ty n) s x r
bare_alone ty n {s = s} h0 d = fewer_alone (λ free q w c. bare_split ty n free s q w (record { it = c; unseen = h0 })) d

abbrev pub valued_parts : (ty : TypeNode × Place) (n : List ℕ × Place) → Part Token Statement
valued_parts ty n = mark AssignSign ⨾ λ a. a_right ⨾ λ v. mark Semicolon ⨾ λ e. finish (local ty.1 ty.0 n.0 n.1 (Some v))

pub valued_join : (ty : TypeNode × Place) (n : List ℕ × Place) (free : ℕ) (s r : List Token) (x : Statement) → (valued_parts ty n).D free s x r → Begun ty n free s x r
valued_join ty n free s r x (then a (then v (then e done))) = valued a v e

valued_split : (ty : TypeNode × Place) (n : List ℕ × Place) (a0 : Place) (free : ℕ) (s r : List Token) (x : Statement) → Seen (sign AssignSign) a0 (Begun ty n) free s x r → (valued_parts ty n).C free s x r
valued_split ty n a0 free s r x c = at free s r x c.it c.seen
  where
    at : (free : ℕ) (s r : List Token) (x : Statement) → Begun ty n free s x r → head_of (sign AssignSign) s ≡ Some a0 → (valued_parts ty n).C free s x r
    at free s r x (valued a v e) g0 = upto a (upto (record { it = v; stop = ended_sign Semicolon e (λ at. refl) }) (upto e done))
    at free s r x (bare e) g0 = let f = sign_gives (sign_of AssignSign) Semicolon e in absurd cc

pub valued_answer : (ty : TypeNode × Place) (n : List ℕ × Place) {a0 : Place} {s : List Token} {o : Answer Token Statement} → head_of (sign AssignSign) s ≡ Some a0 → Exact (valued_parts ty n).D (valued_parts ty n).C s o → Exact (Begun ty n) (Begun ty n) s o
valued_answer ty n {a0} h0 d = seen {want = sign AssignSign} h0 (exact_map (valued_join ty n) (valued_split ty n a0) d)

pub valued_alone : (ty : TypeNode × Place) (n : List ℕ × Place) {a0 : Place} {s r : List Token} {x : Statement} → head_of (sign AssignSign) s ≡ Some a0 → Alone (valued_parts ty n).C s x r → Alone (Begun ty n) s x r
valued_alone ty n {a0} {s = s} h0 d = fewer_alone (λ free q w c. valued_split ty n a0 free s q w (record { it = c; seen = h0 })) d

abbrev pub begun_part : (ty : TypeNode × Place) (n : List ℕ × Place) → Part Token Statement
begun_part ty n = record { D = Begun ty n; C = Begun ty n; some = default_of (bare_parts ty n).D (Begun ty n) (bare_join ty n) (bare_parts ty n).some }

abbrev pub local_parts : Part Token Statement
local_parts = a_type ⨾ λ ty. a_name ⨾ λ n. begun_part ty n

pub local_join : (free : ℕ) (s r : List Token) (x : Statement) → local_parts.D free s x r → Local free s x r
local_join free s r x (then t (then n (bare e))) = declares t n e
local_join free s r x (then t (then n (valued a v e))) = begins t n a v e

local_split : (free : ℕ) (s r : List Token) (x : Statement) → Local free s x r → local_parts.C free s x r
local_split free s r x (declares t n e) = upto t (upto n (bare e))
local_split free s r x (begins t n a v e) = upto t (upto n (valued a v e))

pub local_answer : {s : List Token} {o : Answer Token Statement} → Exact local_parts.D local_parts.C s o → Exact Local Local s o
local_answer d = exact_map (local_join) (local_split) d

pub local_alone : {s r : List Token} {x : Statement} → Alone local_parts.C s x r → Alone Local s x r
local_alone {s = s} d = fewer_alone (λ free q w c. local_split free s q w c) d

abbrev pub puts_parts : Part Token (AssignOp × RightSide)
puts_parts = mark AssignSign ⨾ λ a. a_right ⨾ λ v. finish (Put, v)

pub puts_join : (free : ℕ) (s r : List Token) (x : (AssignOp × RightSide)) → puts_parts.D free s x r → Change free s x r
puts_join free s r x (then a (then v done)) = puts a v

puts_split : (a0 : Place) (free : ℕ) (s r : List Token) (x : (AssignOp × RightSide)) → Seen (sign AssignSign) a0 ChangeClosed free s x r → puts_parts.C free s x r
puts_split a0 free s r x c = at free s r x c.it.it c.it.stop c.seen
  where
    at : (free : ℕ) (s r : List Token) (x : (AssignOp × RightSide)) → Change free s x r → head_of (goes_on 0) r ≡ None → head_of (sign AssignSign) s ≡ Some a0 → puts_parts.C free s x r
    at free s r x (puts a v) h g0 = upto a (upto (record { it = v; stop = h }) done)
    at free s r x (changes o e) h g0 = let f = compound_none (sign_of AssignSign) (λ at. refl) o in absurd cc
    at free s r x (increments d) h g0 = let f = sign_gives (sign_of AssignSign) Increment d in absurd cc
    at free s r x (decrements d) h g0 = let f = sign_gives (sign_of AssignSign) Decrement d in absurd cc

pub puts_answer : {a0 : Place} {s : List Token} {o : Answer Token (AssignOp × RightSide)} → head_of (sign AssignSign) s ≡ Some a0 → Exact puts_parts.D puts_parts.C s o → Exact Change ChangeClosed s o
puts_answer {a0} h0 d = seen {want = sign AssignSign} h0 (exact_map (puts_join) (puts_split a0) d)

pub puts_alone : {a0 : Place} {s r : List Token} {x : (AssignOp × RightSide)} → head_of (sign AssignSign) s ≡ Some a0 → Alone puts_parts.C s x r → Alone ChangeClosed s x r
puts_alone {a0} {s = s} h0 d = fewer_alone (λ free q w c. puts_split a0 free s q w (record { it = c; seen = h0 })) d

abbrev pub increments_parts : Part Token (AssignOp × RightSide)
increments_parts = mark Increment ⨾ λ p. finish (Add, value (number_tree p (pos 1)))

pub increments_join : (free : ℕ) (s r : List Token) (x : (AssignOp × RightSide)) → increments_parts.D free s x r → Change free s x r
increments_join free s r x (then d done) = increments d

increments_split : (a0 : Place) (free : ℕ) (s r : List Token) (x : (AssignOp × RightSide)) → Seen (sign Increment) a0 ChangeClosed free s x r → increments_parts.C free s x r
increments_split a0 free s r x c = at free s r x c.it.it c.it.stop c.seen
  where
    at : (free : ℕ) (s r : List Token) (x : (AssignOp × RightSide)) → Change free s x r → head_of (goes_on 0) r ≡ None → head_of (sign Increment) s ≡ Some a0 → increments_parts.C free s x r
    at free s r x (increments d) h g0 = upto d done
    at free s r x (puts a v) h g0 = let f = sign_gives (sign_of Increment) AssignSign a in absurd cc
    at free s r x (changes o e) h g0 = let f = compound_none (sign_of Increment) (λ at. refl) o in absurd cc
    at free s r x (decrements d) h g0 = let f = sign_gives (sign_of Increment) Decrement d in absurd cc

pub increments_answer : {a0 : Place} {s : List Token} {o : Answer Token (AssignOp × RightSide)} → head_of (sign Increment) s ≡ Some a0 → Exact increments_parts.D increments_parts.C s o → Exact Change ChangeClosed s o
increments_answer {a0} h0 d = seen {want = sign Increment} h0 (exact_map (increments_join) (increments_split a0) d)

pub increments_alone : {a0 : Place} {s r : List Token} {x : (AssignOp × RightSide)} → head_of (sign Increment) s ≡ Some a0 → Alone increments_parts.C s x r → Alone ChangeClosed s x r
increments_alone {a0} {s = s} h0 d = fewer_alone (λ free q w c. increments_split a0 free s q w (record { it = c; seen = h0 })) d

abbrev pub decrements_parts : Part Token (AssignOp × RightSide)
decrements_parts = mark Decrement ⨾ λ p. finish (Sub, value (number_tree p (pos 1)))

pub decrements_join : (free : ℕ) (s r : List Token) (x : (AssignOp × RightSide)) → decrements_parts.D free s x r → Change free s x r
decrements_join free s r x (then d done) = decrements d

decrements_split : (a0 : Place) (free : ℕ) (s r : List Token) (x : (AssignOp × RightSide)) → Seen (sign Decrement) a0 ChangeClosed free s x r → decrements_parts.C free s x r
decrements_split a0 free s r x c = at free s r x c.it.it c.it.stop c.seen
  where
    at : (free : ℕ) (s r : List Token) (x : (AssignOp × RightSide)) → Change free s x r → head_of (goes_on 0) r ≡ None → head_of (sign Decrement) s ≡ Some a0 → decrements_parts.C free s x r
    at free s r x (decrements d) h g0 = upto d done
    at free s r x (puts a v) h g0 = let f = sign_gives (sign_of Decrement) AssignSign a in absurd cc
    at free s r x (changes o e) h g0 = let f = compound_none (sign_of Decrement) (λ at. refl) o in absurd cc
    at free s r x (increments d) h g0 = let f = sign_gives (sign_of Decrement) Increment d in absurd cc

pub decrements_answer : {a0 : Place} {s : List Token} {o : Answer Token (AssignOp × RightSide)} → head_of (sign Decrement) s ≡ Some a0 → Exact decrements_parts.D decrements_parts.C s o → Exact Change ChangeClosed s o
decrements_answer {a0} h0 d = seen {want = sign Decrement} h0 (exact_map (decrements_join) (decrements_split a0) d)

pub decrements_alone : {a0 : Place} {s r : List Token} {x : (AssignOp × RightSide)} → head_of (sign Decrement) s ≡ Some a0 → Alone decrements_parts.C s x r → Alone ChangeClosed s x r
decrements_alone {a0} {s = s} h0 d = fewer_alone (λ free q w c. decrements_split a0 free s q w (record { it = c; seen = h0 })) d

abbrev pub changes_parts : Part Token (AssignOp × RightSide)
changes_parts = a_compound ⨾ λ o. an_expression ⨾ λ x. finish (o, value x)

pub changes_join : (free : ℕ) (s r : List Token) (x : (AssignOp × RightSide)) → changes_parts.D free s x r → Change free s x r
changes_join free s r x (then o (then e done)) = changes o e

changes_split : (free : ℕ) (s r : List Token) (x : (AssignOp × RightSide)) → Unseen (sign Decrement) (Unseen (sign Increment) (Unseen (sign AssignSign) ChangeClosed)) free s x r → changes_parts.C free s x r
changes_split free s r x c = at free s r x c.it.it.it.it c.it.it.it.stop c.it.it.unseen c.it.unseen c.unseen
  where
    at : (free : ℕ) (s r : List Token) (x : (AssignOp × RightSide)) → Change free s x r → head_of (goes_on 0) r ≡ None → head_of (sign AssignSign) s ≡ None → head_of (sign Increment) s ≡ None → head_of (sign Decrement) s ≡ None → changes_parts.C free s x r
    at free s r x (changes o e) h g0 g1 g2 = upto o (upto (record { it = e; stop = h }) done)
    at free s r x (puts a v) h g0 g1 g2 = let f = sees_head (sign AssignSign) a in absurd cc
    at free s r x (increments d) h g0 g1 g2 = let f = sees_head (sign Increment) d in absurd cc
    at free s r x (decrements d) h g0 g1 g2 = let f = sees_head (sign Decrement) d in absurd cc

pub changes_answer : {s : List Token} {o : Answer Token (AssignOp × RightSide)} → head_of (sign AssignSign) s ≡ None → head_of (sign Increment) s ≡ None → head_of (sign Decrement) s ≡ None → Exact changes_parts.D changes_parts.C s o → Exact Change ChangeClosed s o
changes_answer h0 h1 h2 d = unseen {want = sign AssignSign} h0 (unseen {want = sign Increment} h1 (unseen {want = sign Decrement} h2 (exact_map (changes_join) (changes_split) d)))

pub changes_alone : {s r : List Token} {x : (AssignOp × RightSide)} → head_of (sign AssignSign) s ≡ None → head_of (sign Increment) s ≡ None → head_of (sign Decrement) s ≡ None → Alone changes_parts.C s x r → Alone ChangeClosed s x r
changes_alone {s = s} h0 h1 h2 d = fewer_alone (λ free q w c. changes_split free s q w (record { it = (record { it = (record { it = c; unseen = h0 }); unseen = h1 }); unseen = h2 })) d

abbrev pub a_change : Part Token (AssignOp × RightSide)
a_change = record { D = Change; C = ChangeClosed; some = default_of increments_parts.D Change increments_join increments_parts.some }

abbrev pub assign_to_parts : (y : Expression) → Part Token Statement
assign_to_parts y = a_change ⨾ λ c. finish (assign (first_place y) y c.0 c.1)

pub assign_to_join : (y : Expression) (free : ℕ) (s r : List Token) (x : Statement) → (assign_to_parts y).D free s x r → (AssignTo y) free s x r
assign_to_join y free s r x (then c done) = assign_to c

assign_to_split : (y : Expression) (free : ℕ) (s r : List Token) (x : Statement) → AssignToClosed y free s x r → (assign_to_parts y).C free s x r
assign_to_split y free s r x c = at free s r x c.it c.stop
  where
    at : (free : ℕ) (s r : List Token) (x : Statement) → (AssignTo y) free s x r → head_of (goes_on 0) r ≡ None → (assign_to_parts y).C free s x r
    at free s r x (assign_to c) h = upto (record { it = c; stop = h }) done

pub assign_to_answer : (y : Expression) {s : List Token} {o : Answer Token Statement} → Exact (assign_to_parts y).D (assign_to_parts y).C s o → Exact (AssignTo y) (AssignToClosed y) s o
assign_to_answer y d = exact_map (assign_to_join y) (assign_to_split y) d

pub assign_to_alone : (y : Expression) {s r : List Token} {x : Statement} → Alone (assign_to_parts y).C s x r → Alone (AssignToClosed y) s x r
assign_to_alone y {s = s} d = fewer_alone (λ free q w c. assign_to_split y free s q w c) d

abbrev pub put_to : Expression → Part Token Statement
put_to y = record { D = AssignTo y; C = AssignToClosed y; some = default_of (assign_to_parts y).D (AssignTo y) (assign_to_join y) (assign_to_parts y).some }

-- what stands behind a target does not go on with it
pub change_ended : (free : ℕ) (s r : List Token) (c : AssignOp × RightSide) → Change free s c r → head_of (goes_on unary_level) s ≡ None
change_ended free s r c (puts a v) = sign_gives (goes_on_of unary_level) AssignSign a
change_ended free s r c (increments d) = sign_gives (goes_on_of unary_level) Increment d
change_ended free s r c (decrements d) = sign_gives (goes_on_of unary_level) Decrement d
change_ended free s r c (changes o e) = compound_none (goes_on_of unary_level) (λ at. refl) o

-- a target
abbrev pub a_target : Part Token Expression
a_target = a_picked target_of refl

target_is : (x y : Expression) → target_of x ≡ Some y → (is_target x ≡ true) × (x ≡ y)
target_is x y h = at (is_target x) refl h
  where
    at : (b : Bool) → is_target x ≡ b → cond b (Some x) None ≡ Some y → (is_target x ≡ true) × (x ≡ y)
    at true e h = (e, cc)
    at false e h = absurd cc

pub is_targeted : (x : Expression) → is_target x ≡ true → target_of x ≡ Some x
is_targeted x h = rw h refl

pub no_target : (x : Expression) → is_target x ≡ false → target_of x ≡ None
no_target x h = rw h refl

abbrev pub assign_parts : Part Token Statement
assign_parts = a_target ⨾ λ y. put_to y

pub assign_join : (free : ℕ) (s r : List Token) (x : Statement) → assign_parts.D free s x r → Assign free s x r
assign_join free s r x (then c (assign_to d)) = let e = target_is c.tree _ c.picked in subst (λ z. Assign free s (assign (first_place z) z _ _) r) e.1 (assigns c.it e.0 d)

assign_split : (free : ℕ) (s r : List Token) (x : Statement) → AssignClosed free s x r → assign_parts.C free s x r
assign_split free s r x c = at free s r x c.it c.stop
  where
    at : (free : ℕ) (s r : List Token) (x : Statement) → Assign free s x r → head_of (goes_on 0) r ≡ None → assign_parts.C free s x r
    at free s r x (assigns c t d) h = upto (record { tree = _; it = record { it = c; stop = change_ended _ _ _ _ d }; picked = is_targeted _ t }) (record { it = assign_to d; stop = h })

pub assign_answer : {s : List Token} {o : Answer Token Statement} → Exact assign_parts.D assign_parts.C s o → Exact Assign AssignClosed s o
assign_answer d = exact_map (assign_join) (assign_split) d

pub assign_alone : {s r : List Token} {x : Statement} → Alone assign_parts.C s x r → Alone AssignClosed s x r
assign_alone {s = s} d = fewer_alone (λ free q w c. assign_split free s q w c) d

abbrev pub an_assign : Part Token Statement
an_assign = record { D = Assign; C = AssignClosed; some = default_of assign_parts.D Assign assign_join assign_parts.some }

abbrev pub assign_line_parts : Part Token Statement
assign_line_parts = an_assign ⨾ λ a. mark Semicolon ⨾ λ e. finish a

pub assign_line_join : (free : ℕ) (s r : List Token) (x : Statement) → assign_line_parts.D free s x r → AssignLine free s x r
assign_line_join free s r x (then a (then e done)) = assign_line a e

assign_line_split : (free : ℕ) (s r : List Token) (x : Statement) → AssignLine free s x r → assign_line_parts.C free s x r
assign_line_split free s r x (assign_line a e) = upto (record { it = a; stop = ended_sign Semicolon e (λ at. refl) }) (upto e done)

pub assign_line_answer : {s : List Token} {o : Answer Token Statement} → Exact assign_line_parts.D assign_line_parts.C s o → Exact AssignLine AssignLine s o
assign_line_answer d = exact_map (assign_line_join) (assign_line_split) d

pub assign_line_alone : {s r : List Token} {x : Statement} → Alone assign_line_parts.C s x r → Alone AssignLine s x r
assign_line_alone {s = s} d = fewer_alone (λ free q w c. assign_line_split free s q w c) d
