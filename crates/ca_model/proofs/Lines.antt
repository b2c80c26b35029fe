-- Texts that are added one after another.
use Rattle.std.proofs.Common.{◌≡◌, ℕ, List, [], ◌++◌, Option, Result, Ok, Err, ap, sym, subst, ◌∙◌, append_assoc, append-nil}
use Rattle.std.specs.Prelude.{IfOk}
use Rattle.ca_base.specs.Devices.{grown, Began, Writes}
use Rattle.ca_base.proofs.Writing.{grown_twice, grown_nothing, began_after, writes_after}
use Rattle.ca_model.specs.Lines.{Went, Adds}

-- what was told grew by one text and then by another
pub grown_after : (old mid now : Option (List ℕ)) (a b : List ℕ) → mid ≡ grown old a → now ≡ grown mid b → now ≡ grown old (a ++ b)
grown_after old mid now a b e f = f ∙ ap (λ m. grown m b) e ∙ grown_twice old a b

-- none of the text is left
pub went_whole : (old now : Option (List ℕ)) (text : List ℕ) → now ≡ grown old text → Went old now text []
went_whole old now text e = record { out = text; told = e; all = sym (append-nil text) }

-- more was added to what was left
pub went_after : (old mid now : Option (List ℕ)) (pending a left b last : List ℕ) → Went old mid (pending ++ a) left → Went mid now (left ++ b) last → Went old now (pending ++ (a ++ b)) last
went_after old mid now pending a left b last v w = record {
  out = v.out ++ w.out;
  told = grown_after old mid now v.out w.out v.told w.told;
  all = sym (append_assoc pending a b) ∙ ap (λ t. t ++ b) v.all ∙ append_assoc v.out left b ∙ ap (λ t. v.out ++ t) w.all ∙ sym (append_assoc v.out w.out last);
}

-- a beginning of what was left and more went out
pub began_in : (old mid now : Option (List ℕ)) (pending a left b : List ℕ) → Went old mid (pending ++ a) left → Began mid now (left ++ b) → Began old now (pending ++ (a ++ b))
began_in old mid now pending a left b v r = record {
  done = v.out ++ r.done;
  rest = r.rest;
  whole = sym (append_assoc pending a b) ∙ ap (λ t. t ++ b) v.all ∙ append_assoc v.out left b ∙ ap (λ t. v.out ++ t) r.whole ∙ sym (append_assoc v.out r.done r.rest);
  told = grown_after old mid now v.out r.done v.told r.told;
}

-- nothing was added
pub adds_nothing : {T E : Type 0} (old : Option (List ℕ)) (pending : List ℕ) (x : T) → Adds {E = E} old old pending pending (Ok x) []
adds_nothing old pending x = record { whole = record { out = []; told = sym (grown_nothing old); all = append-nil pending }; part = tt }

-- where one text was added, what is added after it is added after both
pub adds_after : {T E : Type 0} (old mid now : Option (List ℕ)) (pending a left b last : List ℕ) (r : Result T E) → Went old mid (pending ++ a) left → Adds mid now left last r b → Adds old now pending last r (a ++ b)
adds_after old mid now pending a left b last (Ok x) v w = record { whole = went_after old mid now pending a left b last v w.whole; part = tt }
adds_after old mid now pending a left b last (Err x) v w = record { whole = tt; part = began_in old mid now pending a left b v w.part }

-- where a text was not added, more behind it was not either
pub adds_more : {T E : Type 0} (old now : Option (List ℕ)) (pending left : List ℕ) (e : E) (a b : List ℕ) → Adds {T = T} old now pending left (Err e) a → Adds {T = T} old now pending left (Err e) (a ++ b)
adds_more old now pending left e a b w = record {
  whole = tt;
  part = record {
    done = w.part.done;
    rest = w.part.rest ++ b;
    whole = sym (append_assoc pending a b) ∙ ap (λ t. t ++ b) w.part.whole ∙ append_assoc w.part.done w.part.rest b;
    told = w.part.told;
  };
}

-- after the pending bytes went out, the text was written
pub went_flushed : (old mid now : Option (List ℕ)) (pending text : List ℕ) → mid ≡ grown old pending → now ≡ grown mid text → Went old now (pending ++ text) []
went_flushed old mid now pending text e f =
    went_whole old now (pending ++ text) (grown_after old mid now pending text e f)

-- the pending bytes were written, and then the text was
pub adds_written : {T E : Type 0} (old mid now : Option (List ℕ)) (pending text : List ℕ) (r : Result T E) → mid ≡ grown old pending → Writes mid now r text → Adds old now pending [] r text
adds_written old mid now pending text (Ok x) e w = record { whole = went_flushed old mid now pending text e w.whole; part = tt }
adds_written old mid now pending text (Err x) e w = record { whole = tt; part = began_after old mid now pending text e w.part }

-- the text is pending too
pub adds_pending : {T E : Type 0} (old : Option (List ℕ)) (pending left text : List ℕ) (x : T) → left ≡ pending ++ text → Adds {E = E} old old pending left (Ok x) text
adds_pending old pending left text x e = record { whole = record { out = []; told = sym (grown_nothing old); all = sym e }; part = tt }

-- the pending bytes were written, and the text is pending
pub adds_alone : {T E : Type 0} (old now : Option (List ℕ)) (pending left text : List ℕ) (x : T) → now ≡ grown old pending → left ≡ text → Adds {E = E} old now pending left (Ok x) text
adds_alone old now pending left text x e f = record { whole = record { out = pending; told = e; all = ap (λ t. pending ++ t) (sym f) }; part = tt }

-- the pending bytes were not written
pub not_flushed : {T E : Type 0} (old now : Option (List ℕ)) (pending left text : List ℕ) (e : E) → Writes {T = T} old now (Err e) pending → Adds {T = T} old now pending left (Err e) text
not_flushed old now pending left text e w = record {
  whole = tt;
  part = record {
    done = w.part.done;
    rest = w.part.rest ++ text;
    whole = ap (λ t. t ++ text) w.part.whole ∙ append_assoc w.part.done w.part.rest text;
    told = w.part.told;
  };
}

-- the pending bytes went out, and nothing was added
pub adds_flushed : {T E : Type 0} (old now : Option (List ℕ)) (pending left : List ℕ) (r : Result T E) → Writes old now r pending → IfOk r (λ _. left ≡ []) → Adds old now pending left r []
adds_flushed old now pending left (Ok x) w e = record { whole = record { out = pending; told = w.whole; all = ap (λ t. pending ++ t) (sym e) }; part = tt }
adds_flushed old now pending left (Err x) w e = record { whole = tt; part = record { done = w.part.done; rest = w.part.rest; whole = append-nil pending ∙ w.part.whole; told = w.part.told } }

-- a text was added, and then nothing more
pub went_still : (old mid now : Option (List ℕ)) (pending a left last : List ℕ) → Went old mid (pending ++ a) left → Went mid now (left ++ []) last → Went old now (pending ++ a) last
went_still old mid now pending a left last v w = subst (λ t. Went old now (pending ++ t) last) (append-nil a) (went_after old mid now pending a left [] last v w)

pub adds_still : {T E : Type 0} (old mid now : Option (List ℕ)) (pending a left last : List ℕ) (r : Result T E) → Went old mid (pending ++ a) left → Adds mid now left last r [] → Adds old now pending last r a
adds_still old mid now pending a left last r v w = subst (λ t. Adds old now pending last r t) (append-nil a) (adds_after old mid now pending a left [] last r v w)

-- of a text whose beginning is done, the next part is done too
pub further : (text done here item more : List ℕ) → text ≡ done ++ here → here ≡ item ++ more → text ≡ (done ++ item) ++ more
further text done here item more e f = e ∙ ap (λ t. done ++ t) f ∙ sym (append_assoc done item more)

-- behind the last part there is nothing
pub at_end : (text done here : List ℕ) → text ≡ done ++ here → here ≡ [] → text ≡ done
at_end text done here e f = e ∙ ap (λ t. done ++ t) f ∙ append-nil done

-- what is left of a text was written, so all of it was
pub flushed : {T E : Type 0} (old mid now : Option (List ℕ)) (text left : List ℕ) (r : Result T E) → Went old mid text left → Writes mid now r left → Writes old now r text
flushed old mid now text left r w f = rw w.all (writes_after old mid now r w.out left w.told f)

-- where a text was not added to an empty line, it was not written
pub not_added : {T E : Type 0} (old now : Option (List ℕ)) (left : List ℕ) (e : E) (text : List ℕ) → Adds {T = T} old now [] left (Err e) text → Writes {T = T} old now (Err e) text
not_added old now left e text w = record { whole = tt; part = w.part }
