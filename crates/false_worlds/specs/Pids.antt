-- Worlds in which a pid is given twice, or two names hold one.
use Rattle.std.specs.Prelude.{ℕ, List, [], ◌∷◌, pos, negsuc}
use Rattle.numbers.specs.Ascii.{ascii}
use Rattle.numbers.specs.Padded.{padded}
use Rattle.record.specs.Limits.{name_max}
use Rattle.record.specs.declared.Record.{Record}
use Rattle.record.specs.declared.Status.TheVariants.{Empty}
use Rattle.runs.specs.History.{History, record_appended, log_opened}
use Rattle.false_worlds.specs.Histories.{name7}

pub data GivenAgain : Type 0 where
  -- to another name, or to the same
  to_another to_the_same : GivenAgain

-- `rig8`
abbrev pub name8 : List ℕ
name8 = padded name_max (ascii "rig8")

-- a record that gives pid 1000 to a name
abbrev pub gives : List ℕ → Record
gives name =
    record { name = name; pid = pos 1000; epoch = pos 0; timeout = pos 60000; status = Empty; joined = 0; updated = pos 120; start = negsuc 0 }

abbrev pub again_in : GivenAgain → History
again_in to_another = record_appended (gives name8) 106 ∷ record_appended (gives name7) 53 ∷ log_opened (pos 1) ∷ []
again_in to_the_same = record_appended (gives name7) 106 ∷ record_appended (gives name7) 53 ∷ log_opened (pos 1) ∷ []
