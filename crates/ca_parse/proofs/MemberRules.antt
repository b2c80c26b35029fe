-- The rules of members and classes as their parts.
use Rattle.std.proofs.Common.{◌≡◌, ℕ, ℤ, List, [], ◌∷◌, true, false, Option, Some, None, refl, ◌∙◌, subst}
use Rattle.ca_descent.specs.Exact.{Answer, Got, Failed, Exact, Sees, sees, head_of, Seen, Unseen, separated_none, Following, following_end, following, prefixed, image, Gathers}
use Rattle.ca_descent.proofs.Exact.{seen, unseen, exact_map, exact_image, sees_head, got_nothing}
use Rattle.ca_descent.proofs.Parts.{and_ok, then, upto, done, Part, ◌⨾◌, finish, default_of}
use Rattle.ca_descent.proofs.Separated.{Punctuated}
use Rattle.ca_tree.specs.declared.name.Place.{Place}
use Rattle.ca_tree.specs.declared.token.Token.{Token}
use Rattle.ca_tree.specs.declared.token.Kind.TheVariants.{Key as KeyKind, Sign as SignKind}
use Rattle.ca_tree.specs.declared.token.Keyword.TheVariants.{Class as ClassKey, Public, Int, Void}
use Rattle.ca_tree.specs.declared.token.Sign.{Sign}
use Rattle.ca_tree.specs.declared.token.Sign.TheVariants.{OpenBrace, CloseBrace, OpenParenthesis, CloseParenthesis, OpenBracket, CloseBracket, Semicolon, Comma, Colon, Times}
use Rattle.ca_tree.specs.declared.tree.TypeNode.{TypeNode}
use Rattle.ca_tree.specs.declared.tree.ParamNode.{ParamNode}
use Rattle.ca_tree.specs.Plain.{Statement, MemberTree, ClassTree, field_member, method_member}
use Rattle.ca_expressions.specs.Terminals.{key, key_of, sign, sign_of}
use Rattle.ca_expressions.proofs.Terminals.{token, start, key_gives, sign_gives, name_gives, word, mark, a_name, a_number, sign_sees}
use Rattle.ca_parse.specs.Grammar.{Lines, lines_end, Listed, Param, param, Signature, signature, Length, scalar, array, is_pointer, Further, further_plain, further_pointer, Member, fields, operation, value_method, Declaration, forward, a_class, statements}
use Rattle.ca_parse.specs.clauses.Closed.{LengthClosed, Named, named_field, NamedClosed, FurtherClosed, MethodOf, method_of, MemberRest, method_rest, field_rest, DeclarationRest, forward_rest, class_rest}
use Rattle.ca_parse.proofs.Alone.{Alone, fewer_alone}
use Rattle.ca_parse.proofs.Lines.{Closing}
use Rattle.ca_parse.proofs.AssignRules.{a_type}
use Rattle.ca_parse.proofs.StatementRules.{items_part}
use Rattle.ca_parse.proofs.StatementFronts.{type_front}
use Rattle.ca_parse.proofs.ChainStatements.{nothing_seen, no_type}

abbrev pub param_parts : Part Token ParamNode
param_parts = a_type ⨾ λ ty. a_name ⨾ λ n. finish (record { ty = ty.0; name = n.0; at = n.1 })

pub param_join : (free : ℕ) (s r : List Token) (x : ParamNode) → param_parts.D free s x r → Param free s x r
param_join free s r x (then t (then n done)) = param t n

param_split : (free : ℕ) (s r : List Token) (x : ParamNode) → Param free s x r → param_parts.C free s x r
param_split free s r x (param t n) = upto t (upto n done)

pub param_answer : {s : List Token} {o : Answer Token ParamNode} → Exact param_parts.D param_parts.C s o → Exact Param Param s o
param_answer d = exact_map (param_join) (param_split) d

pub param_alone : {s r : List Token} {x : ParamNode} → Alone param_parts.C s x r → Alone Param s x r
param_alone {s = s} d = fewer_alone (λ free q w c. param_split free s q w c) d

param_not_close : (free : ℕ) (s r : List Token) (x : ParamNode) → Param free s x r → head_of (sign CloseParenthesis) s ≡ None
param_not_close free s r x (param t n) = type_front (sign_of CloseParenthesis) (λ p. refl) (λ p. refl) (λ n p. refl) _ _ _ _ t

-- lists with commas between, up to and with a closing sign
comma_not : (k : Sign) → ((p : Place) → sign_of k (SignKind Comma) p ≡ None) → (t : Token) (e : Place) → sign Comma t ≡ Some e → sign k t ≡ None
comma_not k f t e h = at (t ∷ []) (sees h)
  where
    at : (s : List Token) → Sees (sign Comma) (t ∷ []) e [] → sign k t ≡ None
    at s d = sign_gives (sign_of k) Comma d ∙ f e

pub param_rule : Punctuated Param Param (sign Comma) (sign CloseParenthesis)
param_rule = record {
  before_comma = λ free s q x e d h. d;
  before_close = λ free s q x e d h. d;
  begins = param_not_close;
  apart = comma_not CloseParenthesis (λ p. refl);
  token = token (SignKind CloseParenthesis);
  carried = start;
  closes = sign_sees CloseParenthesis;
}

abbrev pub params_part : Part Token (List ParamNode)
params_part = record {
  D = Listed Param;
  C = Listed Param;
  some = record { more = token (SignKind CloseParenthesis) ∷ []; tree = []; reads = λ free r h. separated_none (sees refl) };
}

abbrev pub signature_parts : Part Token (List ParamNode × List Statement)
signature_parts = mark OpenParenthesis ⨾ λ o. params_part ⨾ λ ps. mark OpenBrace ⨾ λ b. items_part 1 ⨾ λ xs. finish (ps, xs)

pub signature_join : (free : ℕ) (s r : List Token) (x : (List ParamNode × List Statement)) → signature_parts.D free s x r → Signature free s x r
signature_join free s r x (then o (then p (then b (then i done)))) = signature o p b i

signature_split : (free : ℕ) (s r : List Token) (x : (List ParamNode × List Statement)) → Signature free s x r → signature_parts.C free s x r
signature_split free s r x (signature o p b i) = upto o (upto p (upto b (upto i done)))

pub signature_answer : {s : List Token} {o : Answer Token (List ParamNode × List Statement)} → Exact signature_parts.D signature_parts.C s o → Exact Signature Signature s o
signature_answer d = exact_map (signature_join) (signature_split) d

pub signature_alone : {s r : List Token} {x : (List ParamNode × List Statement)} → Alone signature_parts.C s x r → Alone Signature s x r
signature_alone {s = s} d = fewer_alone (λ free q w c. signature_split free s q w c) d

abbrev pub signature_part : Part Token (List ParamNode × List Statement)
signature_part = record { D = Signature; C = Signature; some = default_of signature_parts.D Signature signature_join signature_parts.some }

abbrev pub array_parts : Part Token (Option ℤ)
array_parts = mark OpenBracket ⨾ λ o. a_number ⨾ λ n. mark CloseBracket ⨾ λ c. finish (Some n.0)

pub array_join : (free : ℕ) (s r : List Token) (x : (Option ℤ)) → array_parts.D free s x r → Length free s x r
array_join free s r x (then o (then n (then c done))) = array o n c

array_split : (a0 : Place) (free : ℕ) (s r : List Token) (x : (Option ℤ)) → Seen (sign OpenBracket) a0 LengthClosed free s x r → array_parts.C free s x r
array_split a0 free s r x c = at free s r x c.it.it c.it.stop c.seen
  where
    at : (free : ℕ) (s r : List Token) (x : (Option ℤ)) → Length free s x r → head_of (sign OpenBracket) r ≡ None → head_of (sign OpenBracket) s ≡ Some a0 → array_parts.C free s x r
    at free s r x (array o n c) h g0 = upto o (upto n (upto c done))
    at free s r x scalar h g0 = absurd cc

pub array_answer : {a0 : Place} {s : List Token} {o : Answer Token (Option ℤ)} → head_of (sign OpenBracket) s ≡ Some a0 → Exact array_parts.D array_parts.C s o → Exact Length LengthClosed s o
array_answer {a0} h0 d = seen {want = sign OpenBracket} h0 (exact_map (array_join) (array_split a0) d)

pub array_alone : {a0 : Place} {s r : List Token} {x : (Option ℤ)} → head_of (sign OpenBracket) s ≡ Some a0 → Alone array_parts.C s x r → Alone LengthClosed s x r
array_alone {a0} {s = s} h0 d = fewer_alone (λ free q w c. array_split a0 free s q w (record { it = c; seen = h0 })) d

pub scalar_answer : {s : List Token} → head_of (sign OpenBracket) s ≡ None → Exact Length LengthClosed s (Got None s)
scalar_answer h = unseen {want = sign OpenBracket} h (got_nothing (λ free r. scalar) (λ free s' r z c. go s' r z c.it.it c.unseen))
  where
    go : {free : ℕ} (s r : List Token) (z : Option ℤ) → Length free s z r → head_of (sign OpenBracket) s ≡ None → (z ≡ None) × (r ≡ s)
    go s r z scalar g = (refl, refl)
    go s r z (array o n c) g = let f = sees_head (sign OpenBracket) o in absurd cc

abbrev pub length_part : Part Token (Option ℤ)
length_part = record { D = Length; C = LengthClosed; some = record { more = []; tree = None; reads = λ free r h. scalar } }

-- a further field of a line
abbrev pub named_parts : TypeNode → Part Token MemberTree
named_parts ty = a_name ⨾ λ n. length_part ⨾ λ l. finish (field_member (record { ty = ty; name = n.0; at = n.1; length = l }))

pub named_join : (ty : TypeNode) (free : ℕ) (s r : List Token) (x : MemberTree) → (named_parts ty).D free s x r → Named ty free s x r
named_join ty free s r x (then n (then l done)) = named_field n l

pub named_split : (ty : TypeNode) (free : ℕ) (s r : List Token) (x : MemberTree) → Named ty free s x r → head_of (sign OpenBracket) r ≡ None → (named_parts ty).C free s x r
named_split ty free s r x (named_field n l) e = upto n (upto (record { it = l; stop = e }) done)

pub named_answer : (ty : TypeNode) {s : List Token} {o : Answer Token MemberTree} → Exact (named_parts ty).D (named_parts ty).C s o
    → Exact (Named ty) (NamedClosed ty) s o
named_answer ty d = exact_map (named_join ty) (λ free s r x c. named_split ty free s r x c.it c.stop) d

abbrev pub named_part : TypeNode → Part Token MemberTree
named_part ty = record { D = Named ty; C = NamedClosed ty; some = default_of (named_parts ty).D (Named ty) (named_join ty) (named_parts ty).some }

abbrev pub starred_parts : TypeNode → Part Token MemberTree
starred_parts ty = mark Times ⨾ λ t. named_part ty

pub plain_answer : (ty : TypeNode) {s : List Token} {o : Answer Token MemberTree} → is_pointer ty ≡ false
    → Exact (Named ty) (NamedClosed ty) s o → Exact (Further ty) (FurtherClosed ty) s o
plain_answer ty k d = exact_map join (λ free s r x c. record { it = split free s r x c.it; stop = c.stop }) d
  where
    join : (free : ℕ) (s r : List Token) (x : MemberTree) → Named ty free s x r → Further ty free s x r
    join free s r x (named_field n l) = further_plain k n l

    split : (free : ℕ) (s r : List Token) (x : MemberTree) → Further ty free s x r → Named ty free s x r
    split free s r x (further_plain h n l) = named_field n l
    split free s r x (further_pointer h t n l) = absurd cc

pub starred_answer : (ty : TypeNode) {s : List Token} {o : Answer Token MemberTree} → is_pointer ty ≡ true
    → Exact (starred_parts ty).D (starred_parts ty).C s o → Exact (Further ty) (FurtherClosed ty) s o
starred_answer ty k d = exact_map join (λ free s r x c. split free s r x c.it c.stop) d
  where
    join : (free : ℕ) (s r : List Token) (x : MemberTree) → (starred_parts ty).D free s x r → Further ty free s x r
    join free s r x (then t (named_field n l)) = further_pointer k t n l

    split : (free : ℕ) (s r : List Token) (x : MemberTree) → Further ty free s x r → head_of (sign OpenBracket) r ≡ None → (starred_parts ty).C free s x r
    split free s r x (further_pointer h t n l) e = upto t (record { it = named_field n l; stop = e })
    split free s r x (further_plain h n l) e = absurd cc

further_not_close : (ty : TypeNode) (free : ℕ) (s r : List Token) (x : MemberTree) → Further ty free s x r → head_of (sign Semicolon) s ≡ None
further_not_close ty free s r x (further_plain h n l) = name_gives (sign_of Semicolon) n
further_not_close ty free s r x (further_pointer h t n l) = sign_gives (sign_of Semicolon) Times t

head_not : (j k : Sign) → ((p : Place) → sign_of k (SignKind j) p ≡ None) → (s : List Token) (e : Place) → head_of (sign j) s ≡ Some e → head_of (sign k) s ≡ None
head_not j k f [] e h = absurd cc
head_not j k f (t ∷ s) e h = let d : Sees (sign j) (t ∷ s) e s = sees h in sign_gives (sign_of k) j d ∙ f e

pub further_rule : (ty : TypeNode) → Punctuated (Further ty) (FurtherClosed ty) (sign Comma) (sign Semicolon)
further_rule ty = record {
  before_comma = λ free s q x e d h. record { it = d; stop = head_not Comma OpenBracket (λ p. refl) q e h };
  before_close = λ free s q x e d h. record { it = d; stop = head_not Semicolon OpenBracket (λ p. refl) q e h };
  begins = further_not_close ty;
  apart = comma_not Semicolon (λ p. refl);
  token = token (SignKind Semicolon);
  carried = start;
  closes = sign_sees Semicolon;
}

-- what stands behind the type and the name of a member
abbrev pub following_part : TypeNode → Part Token (List MemberTree)
following_part ty = record {
  D = Following (Further ty) (sign Comma) (sign Semicolon);
  C = Following (Further ty) (sign Comma) (sign Semicolon);
  some = record { more = token (SignKind Semicolon) ∷ []; tree = []; reads = λ free r h. following_end (sees refl) };
}

abbrev pub method_of_parts : (res : Option TypeNode) (n : List ℕ × Place) → Part Token (List MemberTree)
method_of_parts res n = signature_part ⨾ λ m. finish (method_member (record { result = res; name = n.0; at = n.1; params = m.0; body = statements m.1 }) ∷ [])

pub method_of_join : (res : Option TypeNode) (n : List ℕ × Place) (free : ℕ) (s r : List Token) (x : List MemberTree) → (method_of_parts res n).D free s x r → (MethodOf res n) free s x r
method_of_join res n free s r x (then m done) = method_of m

method_of_split : (res : Option TypeNode) (n : List ℕ × Place) (free : ℕ) (s r : List Token) (x : List MemberTree) → (MethodOf res n) free s x r → (method_of_parts res n).C free s x r
method_of_split res n free s r x (method_of m) = upto m done

pub method_of_answer : (res : Option TypeNode) (n : List ℕ × Place) {s : List Token} {o : Answer Token (List MemberTree)} → Exact (method_of_parts res n).D (method_of_parts res n).C s o → Exact (MethodOf res n) (MethodOf res n) s o
method_of_answer res n d = exact_map (method_of_join res n) (method_of_split res n) d

pub method_of_alone : (res : Option TypeNode) (n : List ℕ × Place) {s r : List Token} {x : List MemberTree} → Alone (method_of_parts res n).C s x r → Alone (MethodOf res n) s x r
method_of_alone res n {s = s} d = fewer_alone (λ free q w c. method_of_split res n free s q w c) d

abbrev pub method_part : (res : Option TypeNode) (n : List ℕ × Place) → Part Token (List MemberTree)
method_part res n = record { D = MethodOf res n; C = MethodOf res n; some = default_of (method_of_parts res n).D (MethodOf res n) (method_of_join res n) (method_of_parts res n).some }

pub following_not : (k : Sign) → ((p : Place) → sign_of k (SignKind Comma) p ≡ None) → ((p : Place) → sign_of k (SignKind Semicolon) p ≡ None) → {ty : TypeNode}
    (free : ℕ) (s r : List Token) (fs : List MemberTree) → Following (Further ty) (sign Comma) (sign Semicolon) free s fs r → head_of (sign k) s ≡ None
following_not k f g free s r fs (following_end c) = sign_gives (sign_of k) Semicolon c ∙ g _
following_not k f g free s r fs (following c d m) = sign_gives (sign_of k) Comma c ∙ f _

pub following_not_bracket : {ty : TypeNode} (free : ℕ) (s r : List Token) (fs : List MemberTree) → Following (Further ty) (sign Comma) (sign Semicolon) free s fs r
    → head_of (sign OpenBracket) s ≡ None
following_not_bracket = following_not OpenBracket (λ p. refl) (λ p. refl)

pub length_not_bracket : {ty : TypeNode} (free : ℕ) (s q r : List Token) (l : Option ℤ) {fs : List MemberTree} → Length free s l q
    → Following (Further ty) (sign Comma) (sign Semicolon) free q fs r → head_of (sign OpenParenthesis) s ≡ None
length_not_bracket free s q r l scalar f = following_not OpenParenthesis (λ p. refl) (λ p. refl) _ _ _ _ f
length_not_bracket free s q r l (array o n c) f = sign_gives (sign_of OpenParenthesis) OpenBracket o

pub method_rest_join : (ty : TypeNode) (n : List ℕ × Place) (free : ℕ) (s r : List Token) (x : (List MemberTree)) → MethodOf (Some ty) n free s x r → (MemberRest ty n) free s x r
method_rest_join ty n free s r x (method_of m) = method_rest m

method_rest_split : (ty : TypeNode) (n : List ℕ × Place) (a0 : Place) (free : ℕ) (s r : List Token) (x : (List MemberTree)) → Seen (sign OpenParenthesis) a0 (MemberRest ty n) free s x r → MethodOf (Some ty) n free s x r
method_rest_split ty n a0 free s r x c = at free s r x c.it c.seen
  where
    at : (free : ℕ) (s r : List Token) (x : (List MemberTree)) → (MemberRest ty n) free s x r → head_of (sign OpenParenthesis) s ≡ Some a0 → MethodOf (Some ty) n free s x r
    at free s r x (method_rest m) g0 = method_of m
    at free s r x (field_rest l f) g0 = let f = length_not_bracket _ _ _ _ _ l f in absurd cc

pub method_rest_answer : (ty : TypeNode) (n : List ℕ × Place) {a0 : Place} {s : List Token} {o : Answer Token (List MemberTree)} → head_of (sign OpenParenthesis) s ≡ Some a0 → Exact (MethodOf (Some ty) n) (MethodOf (Some ty) n) s o → Exact (MemberRest ty n) (MemberRest ty n) s o
method_rest_answer ty n {a0} h0 d = seen {want = sign OpenParenthesis} h0 (exact_map (method_rest_join ty n) (method_rest_split ty n a0) d)

pub method_rest_alone : (ty : TypeNode) (n : List ℕ × Place) {a0 : Place} {s r : List Token} {x : (List MemberTree)} → head_of (sign OpenParenthesis) s ≡ Some a0 → Alone (MethodOf (Some ty) n) s x r → Alone (MemberRest ty n) s x r
method_rest_alone ty n {a0} {s = s} h0 d = fewer_alone (λ free q w c. method_rest_split ty n a0 free s q w (record { it = c; seen = h0 })) d

abbrev pub field_rest_parts : (ty : TypeNode) (n : List ℕ × Place) → Part Token (List MemberTree)
field_rest_parts ty n = length_part ⨾ λ l. following_part ty ⨾ λ fs. finish (field_member (record { ty = ty; name = n.0; at = n.1; length = l }) ∷ fs)

pub field_rest_join : (ty : TypeNode) (n : List ℕ × Place) (free : ℕ) (s r : List Token) (x : (List MemberTree)) → (field_rest_parts ty n).D free s x r → (MemberRest ty n) free s x r
field_rest_join ty n free s r x (then l (then f done)) = field_rest l f

field_rest_split : (ty : TypeNode) (n : List ℕ × Place) (free : ℕ) (s r : List Token) (x : (List MemberTree)) → Unseen (sign OpenParenthesis) (MemberRest ty n) free s x r → (field_rest_parts ty n).C free s x r
field_rest_split ty n free s r x c = at free s r x c.it c.unseen
  where
    at : (free : ℕ) (s r : List Token) (x : (List MemberTree)) → (MemberRest ty n) free s x r → head_of (sign OpenParenthesis) s ≡ None → (field_rest_parts ty n).C free s x r
    at free s r x (field_rest l f) g0 = upto (record { it = l; stop = following_not_bracket _ _ _ _ f }) (upto f done)
    at free s r x (method_rest (signature o p b i)) g0 = let f = sees_head (sign OpenParenthesis) o in absurd cc

pub field_rest_answer : (ty : TypeNode) (n : List ℕ × Place) {s : List Token} {o : Answer Token (List MemberTree)} → head_of (sign OpenParenthesis) s ≡ None → Exact (field_rest_parts ty n).D (field_rest_parts ty n).C s o → Exact (MemberRest ty n) (MemberRest ty n) s o
field_rest_answer ty n h0 d = unseen {want = sign OpenParenthesis} h0 (exact_map (field_rest_join ty n) (field_rest_split ty n) d)

pub field_rest_alone : (ty : TypeNode) (n : List ℕ × Place) {s r : List Token} {x : (List MemberTree)} → head_of (sign OpenParenthesis) s ≡ None → Alone (field_rest_parts ty n).C s x r → Alone (MemberRest ty n) s x r
field_rest_alone ty n {s = s} h0 d = fewer_alone (λ free q w c. field_rest_split ty n free s q w (record { it = c; unseen = h0 })) d

abbrev pub member_rest_part : (ty : TypeNode) (n : List ℕ × Place) → Part Token (List MemberTree)
member_rest_part ty n = record { D = MemberRest ty n; C = MemberRest ty n; some = default_of (field_rest_parts ty n).D (MemberRest ty n) (field_rest_join ty n) (field_rest_parts ty n).some }

abbrev pub operation_parts : Part Token (List MemberTree)
operation_parts = word Void ⨾ λ v. a_name ⨾ λ n. method_part None n

pub operation_join : (free : ℕ) (s r : List Token) (x : (List MemberTree)) → operation_parts.D free s x r → Member free s x r
operation_join free s r x (then v (then n (method_of m))) = operation v n m

operation_split : (a0 : Place) (free : ℕ) (s r : List Token) (x : (List MemberTree)) → Seen (key Void) a0 Member free s x r → operation_parts.C free s x r
operation_split a0 free s r x c = at free s r x c.it c.seen
  where
    at : (free : ℕ) (s r : List Token) (x : (List MemberTree)) → Member free s x r → head_of (key Void) s ≡ Some a0 → operation_parts.C free s x r
    at free s r x (operation v n m) g0 = upto v (upto n (method_of m))
    at free s r x (fields t n l f) g0 = let f = type_front (key_of Void) (λ p. refl) (λ p. refl) (λ n p. refl) _ _ _ _ t in absurd cc
    at free s r x (value_method t n m) g0 = let f = type_front (key_of Void) (λ p. refl) (λ p. refl) (λ n p. refl) _ _ _ _ t in absurd cc

pub operation_answer : {a0 : Place} {s : List Token} {o : Answer Token (List MemberTree)} → head_of (key Void) s ≡ Some a0 → Exact operation_parts.D operation_parts.C s o → Exact Member Member s o
operation_answer {a0} h0 d = seen {want = key Void} h0 (exact_map (operation_join) (operation_split a0) d)

pub operation_alone : {a0 : Place} {s r : List Token} {x : (List MemberTree)} → head_of (key Void) s ≡ Some a0 → Alone operation_parts.C s x r → Alone Member s x r
operation_alone {a0} {s = s} h0 d = fewer_alone (λ free q w c. operation_split a0 free s q w (record { it = c; seen = h0 })) d

abbrev pub typed_parts : Part Token (List MemberTree)
typed_parts = a_type ⨾ λ ty. a_name ⨾ λ n. member_rest_part ty.0 n

pub typed_join : (free : ℕ) (s r : List Token) (x : (List MemberTree)) → typed_parts.D free s x r → Member free s x r
typed_join free s r x (then t (then n (field_rest l f))) = fields t n l f
typed_join free s r x (then t (then n (method_rest m))) = value_method t n m

typed_split : (free : ℕ) (s r : List Token) (x : (List MemberTree)) → Unseen (key Void) Member free s x r → typed_parts.C free s x r
typed_split free s r x c = at free s r x c.it c.unseen
  where
    at : (free : ℕ) (s r : List Token) (x : (List MemberTree)) → Member free s x r → head_of (key Void) s ≡ None → typed_parts.C free s x r
    at free s r x (fields t n l f) g0 = upto t (upto n (field_rest l f))
    at free s r x (value_method t n m) g0 = upto t (upto n (method_rest m))
    at free s r x (operation v n m) g0 = let f = sees_head (key Void) v in absurd cc

pub typed_answer : {s : List Token} {o : Answer Token (List MemberTree)} → head_of (key Void) s ≡ None → Exact typed_parts.D typed_parts.C s o → Exact Member Member s o
typed_answer h0 d = unseen {want = key Void} h0 (exact_map (typed_join) (typed_split) d)

pub typed_alone : {s r : List Token} {x : (List MemberTree)} → head_of (key Void) s ≡ None → Alone typed_parts.C s x r → Alone Member s x r
typed_alone {s = s} h0 d = fewer_alone (λ free q w c. typed_split free s q w (record { it = c; unseen = h0 })) d

member_not_close : (free : ℕ) (s r : List Token) (xs : List MemberTree) → Member free s xs r → head_of (sign CloseBrace) s ≡ None
member_not_close free s r xs (operation v n m) = key_gives (sign_of CloseBrace) Void v
member_not_close free s r xs (fields t n l f) = type_front (sign_of CloseBrace) (λ p. refl) (λ p. refl) (λ n p. refl) _ _ _ _ t
member_not_close free s r xs (value_method t n m) = type_front (sign_of CloseBrace) (λ p. refl) (λ p. refl) (λ n p. refl) _ _ _ _ t

pub member_lines : Closing Member Member (sign CloseBrace)
member_lines = record {
  before = λ free s q r xs ys d m. d;
  begins = member_not_close;
  token = token (SignKind CloseBrace);
  carried = start;
  closes = refl;
}

abbrev pub members_part : Part Token (List MemberTree)
members_part = record {
  D = Lines Member (sign CloseBrace);
  C = Lines Member (sign CloseBrace);
  some = record { more = token (SignKind CloseBrace) ∷ []; tree = []; reads = λ free r h. lines_end (sees refl) };
}

abbrev pub forward_rest_parts : (n : List ℕ × Place) → Part Token (List ClassTree)
forward_rest_parts n = mark Semicolon ⨾ λ e. finish []

pub forward_rest_join : (n : List ℕ × Place) (free : ℕ) (s r : List Token) (x : (List ClassTree)) → (forward_rest_parts n).D free s x r → (DeclarationRest n) free s x r
forward_rest_join n free s r x (then e done) = forward_rest e

forward_rest_split : (n : List ℕ × Place) (a0 : Place) (free : ℕ) (s r : List Token) (x : (List ClassTree)) → Seen (sign Semicolon) a0 (DeclarationRest n) free s x r → (forward_rest_parts n).C free s x r
forward_rest_split n a0 free s r x c = at free s r x c.it c.seen
  where
    at : (free : ℕ) (s r : List Token) (x : (List ClassTree)) → (DeclarationRest n) free s x r → head_of (sign Semicolon) s ≡ Some a0 → (forward_rest_parts n).C free s x r
    at free s r x (forward_rest e) g0 = upto e done
    at free s r x (class_rest o p d m e) g0 = let f = sign_gives (sign_of Semicolon) OpenBrace o in absurd cc

pub forward_rest_answer : (n : List ℕ × Place) {a0 : Place} {s : List Token} {o : Answer Token (List ClassTree)} → head_of (sign Semicolon) s ≡ Some a0 → Exact (forward_rest_parts n).D (forward_rest_parts n).C s o → Exact (DeclarationRest n) (DeclarationRest n) s o
forward_rest_answer n {a0} h0 d = seen {want = sign Semicolon} h0 (exact_map (forward_rest_join n) (forward_rest_split n a0) d)

pub forward_rest_alone : (n : List ℕ × Place) {a0 : Place} {s r : List Token} {x : (List ClassTree)} → head_of (sign Semicolon) s ≡ Some a0 → Alone (forward_rest_parts n).C s x r → Alone (DeclarationRest n) s x r
forward_rest_alone n {a0} {s = s} h0 d = fewer_alone (λ free q w c. forward_rest_split n a0 free s q w (record { it = c; seen = h0 })) d

abbrev pub class_rest_parts : (n : List ℕ × Place) → Part Token (List ClassTree)
class_rest_parts n = mark OpenBrace ⨾ λ o. word Public ⨾ λ p. mark Colon ⨾ λ d. members_part ⨾ λ ms. mark Semicolon ⨾ λ e. finish (record { name = n.0; at = n.1; members = ms } ∷ [])

pub class_rest_join : (n : List ℕ × Place) (free : ℕ) (s r : List Token) (x : (List ClassTree)) → (class_rest_parts n).D free s x r → (DeclarationRest n) free s x r
class_rest_join n free s r x (then o (then p (then d (then m (then e done))))) = class_rest o p d m e

class_rest_split : (n : List ℕ × Place) (free : ℕ) (s r : List Token) (x : (List ClassTree)) → Unseen (sign Semicolon) (DeclarationRest n) free s x r → (class_rest_parts n).C free s x r
class_rest_split n free s r x c = at free s r x c.it c.unseen
  where
    at : (free : ℕ) (s r : List Token) (x : (List ClassTree)) → (DeclarationRest n) free s x r → head_of (sign Semicolon) s ≡ None → (class_rest_parts n).C free s x r
    at free s r x (class_rest o p d m e) g0 = upto o (upto p (upto d (upto m (upto e done))))
    at free s r x (forward_rest e) g0 = let f = sees_head (sign Semicolon) e in absurd cc

pub class_rest_answer : (n : List ℕ × Place) {s : List Token} {o : Answer Token (List ClassTree)} → head_of (sign Semicolon) s ≡ None → Exact (class_rest_parts n).D (class_rest_parts n).C s o → Exact (DeclarationRest n) (DeclarationRest n) s o
class_rest_answer n h0 d = unseen {want = sign Semicolon} h0 (exact_map (class_rest_join n) (class_rest_split n) d)

pub class_rest_alone : (n : List ℕ × Place) {s r : List Token} {x : (List ClassTree)} → head_of (sign Semicolon) s ≡ None → Alone (class_rest_parts n).C s x r → Alone (DeclarationRest n) s x r
class_rest_alone n {s = s} h0 d = fewer_alone (λ free q w c. class_rest_split n free s q w (record { it = c; unseen = h0 })) d

abbrev pub declaration_rest_part : (n : List ℕ × Place) → Part Token (List ClassTree)
declaration_rest_part n = record { D = DeclarationRest n; C = DeclarationRest n; some = default_of (forward_rest_parts n).D (DeclarationRest n) (forward_rest_join n) (forward_rest_parts n).some }

abbrev pub declaration_parts : Part Token (List ClassTree)
declaration_parts = word ClassKey ⨾ λ c. a_name ⨾ λ n. declaration_rest_part n

pub declaration_join : (free : ℕ) (s r : List Token) (x : (List ClassTree)) → declaration_parts.D free s x r → Declaration free s x r
declaration_join free s r x (then c (then n (forward_rest e))) = forward c n e
declaration_join free s r x (then c (then n (class_rest o p d m e))) = a_class c n o p d m e

declaration_split : (free : ℕ) (s r : List Token) (x : (List ClassTree)) → Declaration free s x r → declaration_parts.C free s x r
declaration_split free s r x (forward c n e) = upto c (upto n (forward_rest e))
declaration_split free s r x (a_class c n o p d m e) = upto c (upto n (class_rest o p d m e))

pub declaration_answer : {s : List Token} {o : Answer Token (List ClassTree)} → Exact declaration_parts.D declaration_parts.C s o → Exact Declaration Declaration s o
declaration_answer d = exact_map (declaration_join) (declaration_split) d

pub declaration_alone : {s r : List Token} {x : (List ClassTree)} → Alone declaration_parts.C s x r → Alone Declaration s x r
declaration_alone {s = s} d = fewer_alone (λ free q w c. declaration_split free s q w c) d

declaration_not_int : (free : ℕ) (s r : List Token) (xs : List ClassTree) → Declaration free s xs r → head_of (key Int) s ≡ None
declaration_not_int free s r xs (forward c n e) = key_gives (key_of Int) ClassKey c
declaration_not_int free s r xs (a_class c n o p d m e) = key_gives (key_of Int) ClassKey c

pub declaration_lines : Closing Declaration Declaration (key Int)
declaration_lines = record {
  before = λ free s q r xs ys d m. d;
  begins = declaration_not_int;
  token = token (KeyKind Int);
  carried = start;
  closes = refl;
}

abbrev pub declarations_part : Part Token (List ClassTree)
declarations_part = record {
  D = Lines Declaration (key Int);
  C = Lines Declaration (key Int);
  some = record { more = token (KeyKind Int) ∷ []; tree = []; reads = λ free r h. lines_end (sees refl) };
}

-- members and declarations are no empty lists
pub no_member : (free : ℕ) (r : List Token) (xs : List MemberTree) → Member free [] xs r → ⊥
no_member free r xs (operation v n m) = nothing_seen [] refl v
no_member free r xs (fields t n l f) = no_type free [] _ _ refl t
no_member free r xs (value_method t n m) = no_type free [] _ _ refl t

pub no_declaration : (free : ℕ) (r : List Token) (xs : List ClassTree) → Declaration free [] xs r → ⊥
no_declaration free r xs (forward c n e) = nothing_seen [] refl c
no_declaration free r xs (a_class c n o p d m e) = nothing_seen [] refl c

abbrev field_in : TypeNode → List ℕ × Place → Option ℤ → MemberTree
field_in ty n l = field_member (record { ty = ty; name = n.0; at = n.1; length = l })

-- a line of fields behind its first one
pub fields_start : (ty : TypeNode) (n : List ℕ × Place) (s q : List Token) (l : Option ℤ) → head_of (sign OpenParenthesis) s ≡ None
    → Exact Length LengthClosed s (Got l q)
    → Gathers (MemberRest ty n) (MemberRest ty n) (Following (Further ty) (sign Comma) (sign Semicolon)) (Following (Further ty) (sign Comma) (sign Semicolon)) s
    (field_member (record { ty = ty; name = n.0; at = n.1; length = l }) ∷ []) q
fields_start ty n s q l h d = record { go = go }
  where
    seam : (o : Answer Token (List MemberTree)) → image (λ fs. field_in ty n l ∷ fs) o ≡ prefixed (field_in ty n l ∷ []) o
    seam (Got xs r) = refl
    seam (Failed f) = refl

    split : (free : ℕ) (s r : List Token) (y : List MemberTree) → (following_part ty ⨾ λ fs. finish (field_in ty n l ∷ fs)).C free s y r
        → (x : List MemberTree) × (y ≡ field_in ty n l ∷ x) × Following (Further ty) (sign Comma) (sign Semicolon) free s x r
    split free s r y (upto {x = x} f done) = (x, refl, f)

    go : (o : Answer Token (List MemberTree)) → Exact (Following (Further ty) (sign Comma) (sign Semicolon)) (Following (Further ty) (sign Comma) (sign Semicolon)) q o
        → Exact (MemberRest ty n) (MemberRest ty n) s (prefixed (field_in ty n l ∷ []) o)
    go o f = field_rest_answer ty n h (and_ok d (subst (λ z. Exact (following_part ty ⨾ λ fs. finish (field_in ty n l ∷ fs)).D (following_part ty ⨾ λ fs. finish (field_in ty n l ∷ fs)).C q z) (seam o)
        (exact_image (λ fs. field_in ty n l ∷ fs) (λ free s r x d. then d done) split f)))
