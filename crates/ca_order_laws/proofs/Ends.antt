-- The diamond, and that all complete runs end alike.
use Rattle.std.proofs.Common.{◌∷◌, refl}
use Rattle.ca_order_laws.specs.Order.{Diamond, OneEnd, Finishes}
use Rattle.ca_order_laws.proofs.Diamond.{Fine, front, alike}
use Rattle.ca_order_laws.proofs.DepthFirst.{carry}
use Rattle.ca_order_laws.proofs.Setting.{setting, fine}

pub diamond : Diamond
diamond p program roots x is parallel frozen h heap stands i others typed inside last steps run =
    let z = setting p program roots x is parallel frozen heap in
    let f : Fine z h (i ∷ others) = fine p program roots x is parallel frozen heap h stands (i ∷ others) typed inside in
    let a = front z i others f (record { weighed = λ g. refl }) run.run in
    record { object = a.o; outcome = a.r; left = a.left; found = a.found; section = a.section; rest = record { order = a.es; run = a.run }; sum = a.steps }

pub one_end : OneEnd
one_end p program roots x is parallel frozen h heap stands ps typed inside last end s t one two =
    let z = setting p program roots x is parallel frozen heap in
    let f : Fine z h ps = fine p program roots x is parallel frozen heap h stands ps typed inside in
    let a = alike z two.run one.order s f one.run in
    (a.ending, a.steps)

pub finishes : Finishes
finishes p program roots x is parallel frozen h heap stands ps typed inside mid rest order s part last t run =
    let z = setting p program roots x is parallel frozen heap in
    let f : Fine z h ps = fine p program roots x is parallel frozen heap h stands ps typed inside in
    let c = carry z part run.order t f run.run in
    (c.left, record { order = c.es; run = c.run }, c.steps)
