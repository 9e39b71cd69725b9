-- The numbers of document 01, Listing: "catalogue scan 2, cert 1; … pids 1000..1999; coordinator epoch 1".
use Rattle.std.specs.Prelude.{ℕ, ℤ, pos}

-- how many partitions the catalogue has
abbrev pub partitions : ℕ
partitions = 3

abbrev pub first_pid : ℤ
first_pid = pos 1000

abbrev pub last_pid : ℤ
last_pid = pos 1999

abbrev pub first_epoch : ℤ
first_epoch = pos 1

-- the greatest coordinator epoch: "coordinator epochs are i32"
abbrev pub last_epoch : ℕ
last_epoch = 2147483647
