use Rattle.std.proofs.Common.{◌≡◌, map, ◌∙◌, ap, sym, subst}
use Rattle.std.specs.Prelude.{Contains}
use Rattle.ca_parallel.specs.ExtentsOf.{Rises}
use Rattle.ca_plan.specs.Plans.{LoopBefore}
use Rattle.ca_plan.specs.Told.{loop_of}
use Rattle.ca_plan.proofs.Chosen.{loops_among, loops_rise}
use Rattle.ca_plan.proofs.marking.marked_loops.Goals as goal

pub returns-clause-marked : goal.returns-clause-marked
returns-clause-marked c = λ site.
    let is : c.in_ok-marked.marked.items ≡ map loop_of c.rise.new.numbers.items = c.in_ok-marked.ensures ∙ ap (map loop_of) c.deref.ensures.value in
    let among = loops_among c.rise.new.numbers.items site in (
      λ k. (c.in_ok-sites.ensures site.0).0 (c.rise.ensures.adds_none site.0 (among.0 (subst (λ z. Contains z site) is k))),
      λ k. subst (λ z. Contains z site) (sym is) (among.1 (c.rise.ensures.keeps site.0 ((c.in_ok-sites.ensures site.0).1 k))),
    )

pub returns-clause-rise : goal.returns-clause-rise
returns-clause-rise c =
    let is : c.in_ok-marked.marked.items ≡ map loop_of c.rise.new.numbers.items = c.in_ok-marked.ensures ∙ ap (map loop_of) c.deref.ensures.value in
    subst (λ z. Rises LoopBefore z) (sym is) (loops_rise c.rise.new.numbers.items c.rise.ensures.rises)
