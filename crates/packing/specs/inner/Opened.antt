-- One name for every definition of the crates below and of this crate, so that a table of examples says `unfolding opened` and computes with them.
use Rattle.calls.specs.inner.Opened.{opened as calls}
use Rattle.reduce.specs.Reduced.{flat}
use Rattle.packing.specs.Packing.{packed_of, triangle_from, unpacked_room, pack_call, unpack_call}

unfoldable pub opened : Unit {0}
unfolding calls flat packed_of triangle_from unpacked_room pack_call unpack_call
opened = tt
