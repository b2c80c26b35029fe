use Rattle.std.proofs.Common.{◌≤◌, [], ◌∷◌, drop, length, take, refl, sym, ap, ◌∙◌, arith}
use Rattle.std.specs.Prelude.{map}
use Rattle.std.proofs.lemmas.List.{drop-append-le, map-append, take-append-le}
use Rattle.ca_parallel.specs.declared.op.Op.{Op}
use Rattle.ca_parallel.specs.Calls.{invocation_of, invocations_of}
use Rattle.ca_undo.specs.Olds.{put_back}
use Rattle.ca_code.specs.Seen.{kind_seen}
use Rattle.ca_code_laws.specs.Machine.{listed, row}
use Rattle.ca_steps.specs.Stands.{seen}
use Rattle.ca_sections.specs.Running.{listed_in, own_slots}
use Rattle.ca_sections.proofs.access.InSectionAccess.list.Goals as goal

pub returns-then-self-len : goal.returns-then-self-len
returns-then-self-len c = record { listed = λ e. cc; fixed = refl; fits = λ bs f. record { stands = f.stands; there = f.there } }

pub returns-in-Ok : goal.returns-in-Ok
returns-in-Ok c =
    let s = c.args.self.now in
    let op : Op = record { receiver = c.args.receiver; op = c.args.op; args = row (seen c.args.slots.now) c.args.first (map kind_seen c.args.kinds.now) } in
    let items = s.listed.now.items in
    let within : s.first ≤ length items = omega arith in
    let more = c.in-Ok.ensures.listed in
    let behind = ap (drop s.first) more ∙ drop-append-le s.first items (op ∷ []) within in
    let before = ap (take s.first) more ∙ take-append-le s.first items (op ∷ []) within in
    record {
      listed = λ e past k. ap listed (λ i. record { own = own_slots s.own s.frozen.now s.this s.slots.now; listed = sym (ap invocations_of behind ∙ map-append invocation_of (listed_in s) (op ∷ [])) i });
      fixed = λ i. record { frozen = s.frozen.now; this = s.this; own = s.own; before = put_back s.olds.now s.slots.now; first = s.first; fore = before i; slots = s.slots.ghost_name; olds = s.olds.ghost_name; listed = s.listed.ghost_name; spare = s.spare.ghost_name };
      fits = λ bs f. record { stands = f.stands; there = f.there };
    }

pub returns-in-Err : goal.returns-in-Err
returns-in-Err c =
    let s = c.args.self.now in
    let before = ap (take s.first) c.in-Err.ensures.kept in
    record {
      listed = λ e. cc;
      fixed = λ i. record { frozen = s.frozen.now; this = s.this; own = s.own; before = put_back s.olds.now s.slots.now; first = s.first; fore = before i; slots = s.slots.ghost_name; olds = s.olds.ghost_name; listed = s.listed.ghost_name; spare = s.spare.ghost_name };
      fits = λ bs f. record { stands = f.stands; there = f.there };
    }
