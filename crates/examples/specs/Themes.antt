-- The lines by theme: answers of the last call, and what is held after the calls.
use Rattle.std.specs.Prelude.{List, ◌++◌}
use Rattle.server.specs.Lines.{Line}
use Rattle.examples.specs.Held.{HeldLine}
use Rattle.examples.specs.EpochLines.{epoch_lines, epoch_held}
use Rattle.examples.specs.ClockLines.{clock_lines, clock_held}
use Rattle.examples.specs.SetLines.{set_lines, set_held}
use Rattle.examples.specs.PidLines.{pid_lines}
use Rattle.examples.specs.PartitionLines.{marker_places, entry_lines}
use Rattle.examples.specs.LimitLines.{catalogue_texts, last_position, rest_lengths, last_places}
use Rattle.examples.specs.NameLines.{name_lengths, alike_names, torn_names, longest_frames, name_held}
use Rattle.examples.specs.TimeoutLines.{timeout_held}

pub data Theme : Type 0 where
  epochs clock sets pids markers entries catalogues last_positions rests last_place names alike torn_name longest : Theme

abbrev pub lines_of : Theme → List Line
lines_of epochs = epoch_lines
lines_of clock = clock_lines
lines_of sets = set_lines
lines_of pids = pid_lines
lines_of markers = marker_places
lines_of entries = entry_lines
lines_of catalogues = catalogue_texts
lines_of last_positions = last_position
lines_of rests = rest_lengths
lines_of last_place = last_places
lines_of names = name_lengths
lines_of alike = alike_names
lines_of torn_name = torn_names
lines_of longest = longest_frames

abbrev pub held_lines : List HeldLine
held_lines = epoch_held ++ clock_held ++ set_held ++ name_held ++ timeout_held
