use Rattle.ca_replica.proofs.replica.place_of.Goals as goal

pub new_place-requires : goal.new_place-requires
new_place-requires c = record { inside = c.requires; none = c.in-None.ensures }
