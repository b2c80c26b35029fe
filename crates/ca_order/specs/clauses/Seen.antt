-- Orders under which two terms were found the same, and what the terms compare under them.
use Rattle.std.specs.Prelude.{◌≡◌, List, [], length, Contains}
use Rattle.ca_norm.specs.Terms.{PlainTerm}
use Rattle.ca_order.specs.declared.point.Point.{Point}
use Rattle.ca_order.specs.declared.classes.Class.{Class}
use Rattle.ca_order.specs.Rankings.{ranked}
use Rattle.ca_order.specs.Asked.{asked}
use Rattle.ca_order.specs.Answers.{SameUnder}

abbrev pub IsKnown : List Point → PlainTerm → PlainTerm → Class → Type 0
IsKnown ps t u c =
    (length c.ranks.items ≡ length ps) × (c.asked.items ≡ asked (ranked ps c.ranks.items) u (asked (ranked ps c.ranks.items) t [])) × SameUnder ps t u c.ranks.items

abbrev pub AllKnown : List Point → PlainTerm → PlainTerm → List Class → Type 0
AllKnown ps t u cs = (c : Class) → Contains cs c → IsKnown ps t u c
