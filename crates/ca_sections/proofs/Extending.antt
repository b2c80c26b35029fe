-- What stood in a code stands in it with more rows behind.
use Rattle.std.proofs.Common.{◌≡◌, ℕ, zero, suc, ◌+◌, ◌<◌, List, [], ◌∷◌, ◌++◌, length, map, drop, get_or, true, false, Option, Some, None, refl, sym, ap, ◌∙◌, subst, arith, append-nil, append_assoc}
use Rattle.std.specs.Prelude.{slice_get}
use Rattle.std.proofs.Math.ListN.{get_or-append}
use Rattle.std.proofs.Math.Seq.{drop-cons}
use Rattle.std.proofs.lemmas.List.{map-append}
use Rattle.std.proofs.lemmas.Option.{get_or_from_slice_get}
use Rattle.ca_lists.proofs.Places.{get_in_front, get_map}
use Rattle.ca_program.specs.Plain.{PlainProgram}
use Rattle.ca_program.specs.Kinds.{as_pointer, kind_type}
use Rattle.ca_program.specs.Instructions.{Placed, IsAt, HasAt, StandsAt}
use Rattle.ca_program.specs.View.{statement_view}
use Rattle.ca_program.specs.Layout.{function_code, operation_code}
use Rattle.ca_code.specs.declared.layout.Code.{Code as CodeHeld}
use Rattle.ca_code.specs.Codes.{code_seen, kinds_seen}
use Rattle.ca_code.specs.declared.ins.Ins.{Ins}
use Rattle.ca_code.specs.declared.ins.Ins.TheVariants.{Begin}
use Rattle.ca_code.specs.declared.ins.Row.{Row}
use Rattle.ca_code.specs.Seen.{instruction, placed, row_of}
use Rattle.ca_code.specs.Laying.{Laying, Adds, laid}
use Rattle.ca_code.proofs.Places.{has_at}
use Rattle.ca_code_laws.specs.Fitting.{FitsStatement}
use Rattle.ca_code_laws.specs.Known.{loop_alone}
use Rattle.ca_code_laws.specs.Told.{IsLaidOut}
use Rattle.ca_sections.specs.declared.loop_code.LoopPlace.{LoopPlace}
use Rattle.ca_sections.specs.Extending.{Adding, AllStand, AllStood, Extended, Looked, StandsAlone, Stood, ats, begins_from, instructions_of, with_begin}

pub in_front : {A B : Type 0} (f : A → B) (xs ys : List A) (n : ℕ) (v : B) → slice_get (map f xs) n ≡ Some v → slice_get (map f (xs ++ ys)) n ≡ Some v
in_front f [] ys n v e = absurd (cc)
in_front f (x ∷ xs) ys zero v e = e
in_front f (x ∷ xs) ys (suc n) v e = in_front f xs ys n v e

-- a code with nothing behind it
pub unchanged : (c : CodeHeld) → Extended c c
unchanged c = record { more = []; rows = sym (append-nil (map placed c.rows.items)); same = refl }

-- rows that stand behind all others
pub last_there : (d : CodeHeld) (before code : List Placed) → map placed d.rows.items ≡ before ++ code → HasAt (code_seen d) (length before) code
last_there d before code e = has_at {c = code_seen d} before code [] (record { items = refl; lines = refl; loops = refl }) (e ∙ ap (λ xs. before ++ xs) (sym (append-nil code)))

module _ (c d : CodeHeld) (e : Extended c d) where
  at_place : {B : Type 0} (f : Placed → B) (n : ℕ) (v : B) → slice_get (map f (map placed c.rows.items)) n ≡ Some v → slice_get (map f (map placed d.rows.items)) n ≡ Some v
  at_place f n v h = ap (λ ps. slice_get (map f ps) n) e.rows ∙ in_front f (map placed c.rows.items) e.more n v h

  one_still : (n : ℕ) (x : Placed) → IsAt (code_seen c) n x → IsAt (code_seen d) n x
  one_still n x h = (at_place (λ (p : Placed). p.instruction) n x.instruction h.0, at_place (λ (p : Placed). p.line) n x.line h.1, at_place (λ (p : Placed). p.loop) n x.loop h.2)

  pub still_has : (at : ℕ) (xs : List Placed) → HasAt (code_seen c) at xs → HasAt (code_seen d) at xs
  still_has at [] h = tt
  still_has at (x ∷ xs) h = (one_still at x h.0, still_has (at + 1) xs h.1)

  pub still_stands : (o : Option ℕ) (xs : List Placed) → StandsAt (code_seen c) o xs → StandsAt (code_seen d) o xs
  still_stands None xs h = h
  still_stands (Some at) xs h = still_has at xs h

  -- a program that was laid out is
  pub still_laid : (p : PlainProgram) → IsLaidOut p (code_seen c) → IsLaidOut p (code_seen d)
  still_laid p h = record {
    functions = λ m f is. subst (λ xs. StandsAt (code_seen d) (slice_get xs m) (function_code p f)) (sym (ap (λ (c : CodeHeld). c.functions.items) e.same)) (still_stands (slice_get c.functions.items m) (function_code p f) (h.functions m f is));
    ops = λ m f is.
        let l = h.ops m f is in (
          subst (λ xs. StandsAt (code_seen d) (slice_get xs m) (operation_code p f)) (sym (ap (λ (c : CodeHeld). c.ops.items) e.same)) (still_stands (slice_get c.ops.items m) (operation_code p f) l.0),
          ap (λ (c : CodeHeld). slice_get (map kinds_seen c.params.items) m) e.same ∙ l.1,
        );
  }

all_more : (p : PlainProgram) (ps more : List Placed) (ls : List LoopPlace) → AllStood p ps ls → AllStood p (ps ++ more) ls
all_more p ps more [] h = tt
all_more p ps more (l ∷ ls) h = (stood_more h.0, all_more p ps more ls h.1)
  where
    stood_more : Stood p ps l → Stood p (ps ++ more) l
    stood_more s =
        let code = loop_alone p l.types.now l.line (statement_view l.s.now) in
        record {
          fits = s.fits;
          before = s.before;
          after = s.after ++ more;
          is = ap (λ ps. ps ++ more) s.is ∙ (append_assoc s.before (code ++ s.after) more ∙ ap (λ xs. s.before ++ xs) (append_assoc code s.after more));
          place = s.place;
          row = ((s.row).0, get_in_front ps more l.at _ (s.row).1);
        }

all_last : (p : PlainProgram) (ps : List Placed) (ls : List LoopPlace) (l : LoopPlace) → AllStood p ps ls → Stood p ps l → AllStood p ps (ls ++ l ∷ [])
all_last p ps [] l h s = (s, tt)
all_last p ps (x ∷ ls) l h s = (h.0, all_last p ps ls l h.1 s)

pub none_added : (p : PlainProgram) (old : List Placed) (now : Laying) (places : List LoopPlace) → laid now ≡ old → places ≡ [] → Adding p old now places
none_added p old now places e none = record {
  begun = λ ok. ([], e ∙ sym (append-nil old));
  each = λ ok. subst (λ ls. AllStood p (laid now) ls) (sym none) tt;
}

pub one_added : (p : PlainProgram) (old : List Placed) (now next : Laying) (places : List LoopPlace) (l : LoopPlace) (r : Row) (n : ℕ) → slice_get now.rows l.at ≡ Some r → r.ins ≡ Begin n l.s l.types → l.line ≡ r.line → l.place ≡ length (laid now)
    → Adds now next (loop_alone p l.types.now l.line (statement_view l.s.now)) → (next.failed ≡ false → FitsStatement p l.types.now true as_pointer (statement_view l.s.now)) → Adding p old now places → Adding p old next (places ++ l ∷ [])
one_added p old now next places l r n at is line place adds fits a = record {
  begun = λ ok.
      let b = a.begun (adds.lasted ok) in
      (b.0 ++ code, adds.says ok ∙ (ap (λ ps. ps ++ code) b.1 ∙ append_assoc old b.0 code));
  each = λ ok. subst (λ ps. AllStood p ps (places ++ l ∷ [])) (sym (adds.says ok)) (all_last p (laid now ++ code) places l (all_more p (laid now) code places (a.each (adds.lasted ok))) (here ok));
}
  where
    code : List Placed
    code = loop_alone p l.types.now l.line (statement_view l.s.now)

    row_is : placed r ≡ record { instruction = instruction (Begin n l.s l.types); line = l.line; loop = Some (record { loop = statement_view l.s.now; locals = map kind_type l.types.now }) }
    row_is = ap (λ i. row_of r.line i) is ∙ ap (λ k. row_of k (Begin n l.s l.types)) (sym line)

    here : next.failed ≡ false → Stood p (laid now ++ code) l
    here ok = record {
      fits = fits ok;
      before = laid now;
      after = [];
      is = ap (λ xs. laid now ++ xs) (sym (append-nil code));
      place = place;
      row = (instruction (Begin n l.s l.types), get_in_front (laid now) code l.at _ (get_map placed now.rows l.at r at ∙ ap Some row_is));
    }

-- the rows are looked at from the first on
pub none_looked : (p : PlainProgram) (old : List Placed) (now : Laying) (places : List LoopPlace) → laid now ≡ old → places ≡ [] → Looked p old 0 now places
none_looked p old now places e none = record {
  adding = none_added p old now places e none;
  told = λ ok. ap (λ ls. ats ls ++ begins_from 0 (instructions_of old)) none;
}

-- the row at a place, of those that stood there at first
first_row : (old more : List Placed) (at : ℕ) (x : Placed) → at < length old → slice_get (old ++ more) at ≡ Some x → drop at old ≡ x ∷ drop (at + 1) old
first_row old more at x lt is =
    let same : get_or old at x ≡ x = sym (get_or-append old more x at lt) ∙ get_or_from_slice_get (old ++ more) at x x is in
    let n : at + 1 ≡ suc at = omega arith in
    drop-cons old at x lt ∙ (ap (λ y. y ∷ drop (suc at) old) same ∙ ap (λ m. x ∷ drop m old) (sym n))

seen_there : (p : PlainProgram) (old : List Placed) (now : Laying) (places : List LoopPlace) (r : Row) (at : ℕ) → slice_get now.rows at ≡ Some r → at < length old → now.failed ≡ false → Adding p old now places → drop at old ≡ placed r ∷ drop (at + 1) old
seen_there p old now places r at is lt ok a =
    let b = a.begun ok in
    first_row old b.0 at (placed r) lt (ap (λ ps. slice_get ps at) (sym b.1) ∙ get_map placed now.rows at r is)

no_begin : (i : Ins) → ((n : _) (s : _) (tys : _) → i ≡ Begin n s tys → ⊥) → (at : ℕ) (ns : List ℕ) → with_begin (instruction i) at ns ≡ ns
no_begin (Begin n s tys) never at ns = absurd (never n s tys refl)
no_begin other never at ns = refl

-- a row more was looked at, which hands no loop on
pub none_begun : (p : PlainProgram) (old : List Placed) (now : Laying) (places : List LoopPlace) (r : Row) (at : ℕ) → slice_get now.rows at ≡ Some r → ((n : _) (s : _) (tys : _) → r.ins ≡ Begin n s tys → ⊥) → at < length old
    → Looked p old at now places → Looked p old (at + 1) now places
none_begun p old now places r at is never lt k = record {
  adding = k.adding;
  told = λ ok.
      let rest = instructions_of (drop (at + 1) old) in
      let here : begins_from at (instructions_of (drop at old)) ≡ begins_from (suc at) rest =
      ap (λ ps. begins_from at (instructions_of ps)) (seen_there p old now places r at is lt ok k.adding) ∙ no_begin r.ins never at (begins_from (suc at) rest) in
      let n : at + 1 ≡ suc at = omega arith in
      ap (λ m. ats places ++ begins_from m rest) n ∙ (ap (λ ns. ats places ++ ns) (sym here) ∙ k.told ok);
}

-- one that hands a loop on, whose code was added
pub one_begun : (p : PlainProgram) (old : List Placed) (now next : Laying) (places : List LoopPlace) (l : LoopPlace) (r : Row) (n : ℕ) → slice_get now.rows l.at ≡ Some r → r.ins ≡ Begin n l.s l.types → l.line ≡ r.line → l.place ≡ length (laid now)
    → Adds now next (loop_alone p l.types.now l.line (statement_view l.s.now)) → (next.failed ≡ false → FitsStatement p l.types.now true as_pointer (statement_view l.s.now)) → l.at < length old
    → Looked p old l.at now places → Looked p old (l.at + 1) next (places ++ l ∷ [])
one_begun p old now next places l r n at is line place adds fits lt k = record {
  adding = one_added p old now next places l r n at is line place adds fits k.adding;
  told = λ ok.
      let before = adds.lasted ok in
      let rest = instructions_of (drop (l.at + 1) old) in
      let here : begins_from l.at (instructions_of (drop l.at old)) ≡ l.at ∷ begins_from (suc l.at) rest =
      ap (λ ps. begins_from l.at (instructions_of ps)) (seen_there p old now places r l.at at lt before k.adding) ∙ ap (λ i. with_begin (instruction i) l.at (begins_from (suc l.at) rest)) is in
      let m : l.at + 1 ≡ suc l.at = omega arith in
      ap (λ ns. ns ++ begins_from (l.at + 1) rest) (map-append (λ (l : LoopPlace). l.at) places (l ∷ []))
      ∙ (append_assoc (ats places) (l.at ∷ []) (begins_from (l.at + 1) rest)
      ∙ (ap (λ m. ats places ++ l.at ∷ begins_from m rest) m
      ∙ (ap (λ ns. ats places ++ ns) (sym here) ∙ k.told before)));
}

-- all are
pub all_stand : (p : PlainProgram) (d : CodeHeld) (ps : List Placed) (ls : List LoopPlace) → map placed d.rows.items ≡ ps → AllStood p ps ls → AllStand p (code_seen d) ls
all_stand p d ps [] e h = tt
all_stand p d ps (l ∷ ls) e h = (stands (h.0), all_stand p d ps ls e h.1)
  where
    stands : Stood p ps l → StandsAlone p (code_seen d) l
    stands s = record {
      code = record {
        fits = s.fits;
        there = subst (λ n. HasAt (code_seen d) n (loop_alone p l.types.now l.line (statement_view l.s.now))) (sym s.place) (has_at {c = code_seen d} s.before (loop_alone p l.types.now l.line (statement_view l.s.now)) s.after (record { items = refl; lines = refl; loops = refl }) (e ∙ s.is));
      };
      line = get_map (λ (x : Placed). x.line) (map placed d.rows.items) l.at _ (ap (λ ps. slice_get ps l.at) e ∙ (s.row).1);
      loop = get_map (λ (x : Placed). x.loop) (map placed d.rows.items) l.at _ (ap (λ ps. slice_get ps l.at) e ∙ (s.row).1);
    }
