-- For proofs: what contracts see of the fields of a port.
use Rattle.data_port.specs.{Standing.{Standing}, declared.state.State.{State}}

-- the standing of a port, as contracts see it, has the values of its fields
abbrev pub standing_of : State → Standing
standing_of state = record { taken = state.taken; part = state.part.items; failed = state.failed }
