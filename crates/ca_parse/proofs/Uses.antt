-- Chains that are used in a statement: a chain that is not what is wanted can go on to one that is.
use Rattle.std.proofs.Common.{◌≡◌, ◌+◌, ◌<◌, ◌≤◌, List, [], ◌∷◌, ◌++◌, length, Option, Some, None, refl, sym, ◌∙◌, ap, subst, append_assoc, length-append, arith, ◌⊎◌, inl, inr}
use Rattle.std.proofs.lemmas.List.{append-nil}
use Rattle.ca_descent.specs.Exact.{Failure, NoMemory, Wrong, TooDeep, Got, Failed, SameHead, Viable, Exact, sees}
use Rattle.ca_descent.proofs.Exact.{same_more}
use Rattle.ca_descent.proofs.Parts.{Part}
use Rattle.ca_tree.specs.declared.token.Token.{Token}
use Rattle.ca_tree.specs.declared.token.Kind.TheVariants.{Word}
use Rattle.ca_tree.specs.declared.token.Kind.TheVariants.{Sign as SignKind}
use Rattle.ca_tree.specs.declared.token.Sign.TheVariants.{Arrow}
use Rattle.ca_tree.specs.Plain.{Expression, named, field}
use Rattle.ca_expressions.specs.Grammar.{Chain, this_chain, name_chain, call_chain, Tails, tails_end, tails_more, Tail, field_tail, OuterChain, ChainEnded}
use Rattle.ca_expressions.proofs.Terminals.{token, start}
use Rattle.ca_parse.specs.clauses.Closed.{Picked}

-- a chain of which pick takes something, if it takes something of a name
abbrev pub a_picked : {B : Type 0} (pick : Expression → Option B) {b : B} → pick (named start []) ≡ Some b → Part Token B
a_picked pick {b} h = record {
  D = Picked pick OuterChain;
  C = Picked pick ChainEnded;
  some = record {
    more = token (Word []) ∷ [];
    tree = b;
    reads = λ free r k. record {
      tree = named start [];
      it = record { front = token (Word []) ∷ []; cut = refl; derives = λ r. name_chain (sees refl) tails_end; within = inl (omega arith) };
      picked = h;
    };
  };
}

-- one more tail behind a chain
tails_then : (a b y : Expression) (s q r : List Token) → Tails a s b q → Tail b q y r → Tails a s y r
tails_then a b y s q r tails_end t = tails_more t tails_end
tails_then a b y s q r (tails_more u d) t = tails_more u (tails_then _ b y _ q r d t)

chain_then : (b y : Expression) (s q r : List Token) → Chain s b q → Tail b q y r → Chain s y r
chain_then b y s q r (this_chain k d) t = this_chain k (tails_then _ b y _ q r d t)
chain_then b y s q r (name_chain n d) t = name_chain n (tails_then _ b y _ q r d t)
chain_then b y s q r (call_chain n a d) t = call_chain n a (tails_then _ b y _ q r d t)

-- `-> n`
abbrev ending : List Token
ending = token (SignKind Arrow) ∷ token (Word []) ∷ []

-- what begins a chain can go on to one whose last part is a name
pub grown : {B : Type 0} (pick : Expression → Option B) (made : Expression → B) → ((x : Expression) → pick (field start x []) ≡ Some (made x))
    → {s q : List Token} → (v : Viable OuterChain s q)
    → (g : Viable (Picked pick OuterChain) s q) × (0 < length q → SameHead q v.more → SameHead q g.more)
grown pick made picks {s} {q} v =
    let d = v.reads (length (v.more ++ [])) [] (omega arith) in
    let all : v.front ++ v.more ≡ d.front =
    ap (λ z. v.front ++ z) (sym (append-nil v.more)) ∙ (d.cut ∙ append-nil d.front) in
    let few : length v.front ≤ 1000 = bound d.within all in (
      record {
        front = v.front;
        more = v.more ++ ending;
        tree = made v.tree;
        cut = v.cut;
        reads = λ free r h. record {
          tree = field start v.tree [];
          it = record {
            front = v.front ++ (v.more ++ ending);
            cut = sym (append_assoc v.front (v.more ++ ending) r);
            derives = λ r. subst (λ z. Chain z (field start v.tree []) r) (seam all r)
                (chain_then v.tree (field start v.tree []) (d.front ++ (ending ++ r)) (ending ++ r) r (d.derives (ending ++ r))
                (field_tail (sees refl) (sees refl)));
            within = inr (omega (arith, few, h, length-append v.front ((v.more ++ ending) ++ r)));
          };
          picked = picks v.tree;
        };
      },
      λ h k. same_more q v.more ending h k,
    )
  where
    seam : {f : List Token} → v.front ++ v.more ≡ f → (r : List Token) → f ++ (ending ++ r) ≡ (v.front ++ (v.more ++ ending)) ++ r
    seam e r = ap (λ z. z ++ (ending ++ r)) (sym e)
        ∙ (sym (append_assoc (v.front ++ v.more) ending r) ∙ ap (λ z. z ++ r) (append_assoc v.front v.more ending))

    bound : {f : List Token} → (length f ≤ 1000) ⊎ (length (v.front ++ (v.more ++ [])) ≤ 1000 + length (v.more ++ []))
        → v.front ++ v.more ≡ f → length v.front ≤ 1000
    bound (inl h) e = omega (arith, h, ap length e, length-append v.front v.more)
    bound (inr h) e = omega (arith, h, length-append v.front (v.more ++ []))

module _ {B : Type 0} (pick : Expression → Option B) (made : Expression → B)
    (picks : (x : Expression) → pick (field start x []) ≡ Some (made x)) where
  -- a chain is read that is wanted
  pub picked_got : {s q : List Token} {x : Expression} {b : B} → pick x ≡ Some b → Exact OuterChain ChainEnded s (Got x q)
      → Exact (Picked pick OuterChain) (Picked pick ChainEnded) s (Got b q)
  picked_got {s} {q} {x} {b} h d = record {
    meets = let m = d.meets in record {
      front = m.front;
      cut = m.cut;
      reads = λ free r. record { tree = x; it = m.reads free r; picked = h };
    };
    along = λ free w s' q' r y e e' k c.
        let g = d.along free w s' q' r c.tree e e' k c.it in (same y c.tree c.picked g.0, g.1);
  }
    where
      same : (y : B) (z : Expression) → pick z ≡ Some y → z ≡ x → y ≡ b
      same y z k e = let f : Some y ≡ Some b = sym k ∙ (ap pick e ∙ h) in cc

  -- a chain is read that is not wanted: the token behind it is wrong
  pub picked_none : {s q : List Token} {x : Expression} → pick x ≡ None → Exact OuterChain ChainEnded s (Got x q)
      → Exact (Picked pick OuterChain) (Picked pick ChainEnded) s (Failed (Wrong q))
  picked_none {s} {q} {x} h d = record {
    meets = let m = d.meets in
        (grown pick made picks {s = s} {q = q} (record { front = m.front; more = []; tree = x; cut = m.cut; reads = λ free r k. m.reads free r })).0;
    along = λ free w s' q' r y e e' k c.
        let g = d.along free w s' q' r c.tree e e' k c.it in not_picked y c.tree c.picked g.0;
  }
    where
      not_picked : (y : B) (z : Expression) → pick z ≡ Some y → z ≡ x → ⊥
      not_picked y z k e = let f : Some y ≡ None = sym k ∙ (ap pick e ∙ h) in absurd cc

  -- no chain is read
  pub picked_failed : {s : List Token} (f : Failure Token) → Exact OuterChain ChainEnded s (Failed f)
      → Exact (Picked pick OuterChain) (Picked pick ChainEnded) s (Failed f)
  picked_failed NoMemory d = record { meets = tt; along = tt }
  picked_failed {s} (Wrong q) d = record {
    meets = (grown pick made picks {s = s} {q = q} d.meets).0;
    along = λ free w s' q' r y e e' k c. d.along free w s' q' r c.tree e e' k c.it;
  }
  picked_failed {s} (TooDeep q) d = let m = d.meets in record {
    meets = let g = grown pick made picks {s = s} {q = q} m.begun in record { begun = g.0; here = m.here; same = g.1 m.here m.same };
    along = λ free w s' q' r y e e' k n c. d.along free w s' q' r c.tree e e' k n c.it;
  }
