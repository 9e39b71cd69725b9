-- What the calls of a partition decide on, whichever call it is: an entry fits, and the reserve stands.
use Prim.Native.Nat.{ℕ}
use Rattle.partition.specs.Partition.{Action as PartitionAction}
use Rattle.partition.specs.declared.Partition.{Partition}
use Rattle.partition.proofs.Reserve.{Reserved as PartitionReserved, Keeps, marker-keeps}
use Rattle.server.proofs.Admitted.{produce-keeps}
use Rattle.runs.proofs.Changes.{Led, by_produce, by_marker}

pub led-keeps : (p : Partition) → PartitionReserved p → (n : ℕ) (a : PartitionAction) → Led p n a → Keeps p a
led-keeps p r n a (by_produce s name pid epoch position sequence payload e) = rw e (produce-keeps s p n name pid epoch position sequence payload r)
led-keeps p r n a (by_marker place pid epoch verdict coordinator e) = rw e (marker-keeps p r n place pid epoch verdict coordinator)
