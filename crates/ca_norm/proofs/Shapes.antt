-- Terms in a list in memory, without their places.
use Rattle.std.proofs.Common.{◌≡◌, ℕ, ◌+◌, ◌<◌, List, [], ◌∷◌, ◌++◌, length, get_or, take, take-suc, add-one, map, max, refl, ap, ◌∙◌, arith, Box, Global}
use Rattle.std.specs.declared.vec.Vec.{Vec}
use Rattle.std.proofs.lemmas.List.{map-append}
use Rattle.ca_forms.specs.declared.sort.Sort.{Sort}
use Rattle.ca_norm.specs.declared.term.Term.{Term, Row_of-Term, end_of-Term, more_of-Term, items-the_row-Term, items_hidden-the_row-Term-0}
use Rattle.ca_norm.specs.declared.term.Term.TheBlock.{hidden-the_row-Term-0}
use Rattle.ca_norm.specs.declared.term.Term.TheVariants as term
use Rattle.ca_forms.specs.Plain.{scalar_and}
use Rattle.ca_forms.specs.Lists.{scalars_of}
use Rattle.ca_norm.specs.Forms.{scalar_of, arguments_of}
use Rattle.ca_norm.specs.Terms.{PlainTerm, result, term_and, shape, row_shape, terms_of}
use Rattle.ca_norm.specs.Weights.{spread, spreads, nodes, all_nodes, depth, most_depth}

row_is : {n : _} (k : Row_of-Term n) → row_shape k ≡ terms_of (map shape (items-the_row-Term n k))
row_is end_of-Term = refl
row_is (more_of-Term t rest) = ap (λ z. term_and (shape t) z) (row_is rest)

arguments_are : (v : Vec Term Global) → row_shape (hidden-the_row-Term-0 v) ≡ terms_of (map shape v.items)
arguments_are v = row_is (hidden-the_row-Term-0 v) ∙ ap (λ ts. terms_of (map shape ts)) (items_hidden-the_row-Term-0 v)

-- a call of a value method, by the list of its arguments
pub call_is : (sort : Sort) (m : ℕ) (p : Box Term Global) (v : Vec Term Global) → shape (term.Result sort m p v) ≡ result sort m (shape p.value) (terms_of (map shape v.items))
call_is sort m p v = ap (λ ts. result sort m (shape p.value) ts) (arguments_are v)

-- the terms up to an index, and one more
pub shapes_more : (ts : List Term) (i : ℕ) (t : Term) → t ≡ get_or ts i t → i < length ts → map shape (take (i + 1) ts) ≡ map shape (take i ts) ++ shape t ∷ []
shapes_more ts i t e h = rw (add-one, take-suc ts i t h, ← e) (map-append shape (take i ts) (t ∷ []))

pub spreads_more : (ts : List PlainTerm) (t : PlainTerm) → spreads (terms_of (ts ++ t ∷ [])) ≡ spreads (terms_of ts) + spread t
spreads_more [] t = omega arith
spreads_more (u ∷ ts) t = omega (arith, spreads_more ts t)

pub nodes_more : (ts : List PlainTerm) (t : PlainTerm) → all_nodes (terms_of (ts ++ t ∷ [])) ≡ all_nodes (terms_of ts) + nodes t
nodes_more [] t = omega arith
nodes_more (u ∷ ts) t = omega (arith, nodes_more ts t)

pub depth_more : (ts : List PlainTerm) (t : PlainTerm) → most_depth (terms_of (ts ++ t ∷ [])) ≡ max (most_depth (terms_of ts)) (depth t)
depth_more [] t = omega arith
depth_more (u ∷ ts) t = omega (arith, depth_more ts t)

pub arguments_forms : (ts : List PlainTerm) → scalars_of (map scalar_of ts) ≡ arguments_of (terms_of ts)
arguments_forms [] = refl
arguments_forms (t ∷ ts) = ap (scalar_and (scalar_of t)) (arguments_forms ts)
