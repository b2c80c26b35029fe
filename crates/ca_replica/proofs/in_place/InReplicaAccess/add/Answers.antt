use Rattle.std.proofs.Common.{◌≡◌, sym, ap, ◌∙◌, subst, rules, w64}
use Rattle.std.specs.Prelude.{pos, slice_get}
use Rattle.std.proofs.lemmas.Int.{to_z-of_z}
use mir.Val.{SFits}
use Rattle.ca_model.specs.declared.value.Value.TheVariants.{Long, Ref}
use Rattle.ca_meaning.specs.Expressions.{one_in}
use Rattle.ca_meaning.specs.Functions.{own_of}
use Rattle.ca_meaning.specs.Serial.{in_heap, put_own}
use Rattle.ca_code_laws.specs.Words.{pointer_of}
use Rattle.ca_steps.proofs.Loading.{some_by}
use Rattle.ca_steps.specs.Telling.{Adds}
use Rattle.ca_replica.specs.Applied.{sums}
use Rattle.ca_replica.proofs.in_place.InReplicaAccess.add.Goals as goal

pub returns : goal.returns
returns g c =
    let s = c.args.self.now in
    let world = sums s.ground.extent.now.written s.ground.frozen.now s.copies.now in
    let me : pointer_of (pos c.args.this) ≡ Ref c.in-Ref.o = sym c.receiver_of.ensures ∙ c.in-Ref.is in
    let more : SFits w64 c.args.n = search rules in
    record {
      adds = some_by _ _ c.add_any.result
          (λ m e past bs fits. subst (λ v. Adds (one_in (slice_get (own_of world v) c.args.f.field)) c.args.n m) (sym me) (e fits))
          (rw (to_z-of_z w64 c.args.n more) at c.add_any.ensures.adds);
      put = some_by _ _ c.add_any.result
          (λ m e past bs fits. ap (in_heap past) (e ∙ ap (λ v. put_own world v c.args.f 0 (Long m)) (sym me)))
          c.add_any.ensures.put;
      fixed = λ i. record { program = s.program.now; written = s.ground.extent.now.written; frozen = s.ground.frozen.now; marks = s.ground.marks.now; before = c.add_any.ensures.before i; copies = s.copies.ghost_name; olds = s.olds.ghost_name };
      fits = λ bs k. c.add_any.ensures.keeps k;
    }
