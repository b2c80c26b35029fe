use Rattle.std.proofs.Common.{◌≡◌, refl, sym, ap, ◌∙◌, subst, rules, w64}
use Rattle.std.specs.Prelude.{pos, slice_get}
use Rattle.std.proofs.lemmas.Int.{to_z-of_z}
use mir.Val.{SFits, of_z, to_z}
use Rattle.ca_model.specs.declared.value.Value.TheVariants.{Long, Ref}
use Rattle.ca_meaning.specs.Expressions.{one_in}
use Rattle.ca_meaning.specs.Functions.{own_of}
use Rattle.ca_meaning.specs.Serial.{in_heap, put_own}
use Rattle.ca_code_laws.specs.Words.{pointer_of}
use Rattle.ca_steps.specs.Telling.{Adds}
use Rattle.ca_steps.proofs.run.InRunAccess.add.Goals as goal

pub returns-then-store : goal.returns-then-store
returns-then-store c =
    let h = c.args.self.now.heap in
    let me : pointer_of (pos c.args.this) ≡ Ref c.in-Ref.o = sym c.receiver_of-me.ensures ∙ c.in-Ref.is in
    let own : one_in (slice_get (own_of h (pointer_of (pos c.args.this))) c.args.f.field) ≡ Long c.in-Long.a =
    ap (λ v. one_in (slice_get (own_of h v) c.args.f.field)) me ∙ (sym c.field_of.ensures ∙ c.in-Long.is) in
    let had : SFits w64 c.in-Long.a = search rules in
    let more : SFits w64 c.args.n = search rules in
    let small : SFits w64 c.sum_of-sum.result = search rules in
    let total : Adds (Long c.in-Long.a) c.args.n c.sum_of-sum.result = rw (to_z-of_z w64 c.in-Long.a had, to_z-of_z w64 c.args.n more) at c.sum_of-sum.ensures in
    let m = to_z w64 (of_z w64 c.sum_of-sum.result) in
    record {
      adds = λ past bs fits. subst (λ v. Adds v c.args.n m) (sym own) (subst (Adds (Long c.in-Long.a) c.args.n) (sym (to_z-of_z w64 c.sum_of-sum.result small)) total);
      put = λ past bs fits. ap (in_heap past) (c.store.ensures.put c.if-store.true ∙ ap (λ v. put_own h v c.args.f 0 (Long m)) (sym me));
      fixed = refl;
      fits = λ bs h. h;
    }
