use Rattle.std.proofs.Common.{◌≡◌, ◌++◌, [], ◌∷◌, length, ap, ◌∙◌, arith}
use Rattle.ca_steps.specs.Stands.{seen}
use Rattle.ca_sections.proofs.Few.{row_of_none}
use Rattle.ca_sections.proofs.listing.list_in.Goals as goal

pub returns-then-len-capacity : goal.returns-then-len-capacity
returns-then-len-capacity c = record { listed = c.list_many.ensures.listed; kept = c.list_many.ensures.kept }

pub list_none-requires : goal.list_none-requires
list_none-requires c = omega (arith, c.len.ensures, c.capacity.ensures)

pub returns-then-kinds-eq0 : goal.returns-then-kinds-eq0
returns-then-kinds-eq0 c =
    let none : length c.args.kinds.now ≡ 0 = omega arith in
    let args = row_of_none (seen c.args.slots.now) c.args.first c.args.kinds.now none in
    record {
      listed = c.list_none.ensures ∙ ap (λ args. c.args.listed.now.items ++ record { receiver = c.args.receiver; op = c.args.op; args = args } ∷ []) args;
      kept = tt;
    }

pub list_one-requires : goal.list_one-requires
list_one-requires c = record { room = omega (arith, c.len.ensures, c.capacity.ensures); many = omega arith }

pub returns-then-kinds-eq1 : goal.returns-then-kinds-eq1
returns-then-kinds-eq1 c = record { listed = c.list_one.ensures.listed; kept = c.list_one.ensures.kept }

pub list_two-requires : goal.list_two-requires
list_two-requires c = record { room = omega (arith, c.len.ensures, c.capacity.ensures); many = omega arith }

pub returns : goal.returns
returns c = record { listed = c.list_two.ensures.listed; kept = c.list_two.ensures.kept }
