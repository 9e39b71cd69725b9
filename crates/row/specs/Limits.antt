-- The limits of an epoch.
use Rattle.std.specs.Prelude.{ℕ, ◌+◌}

-- document 01: "epoch at most 32766": the last epoch with which a transaction may begin
abbrev pub epoch_last : ℕ
epoch_last = 32766

-- the greatest epoch, which only an abort that fences its producer can give
abbrev pub epoch_max : ℕ
epoch_max = epoch_last + 1
