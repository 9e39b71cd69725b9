-- For each set flag of the table of status moves an accepted log and a record that may come next in it.
use mathlib.Core.Path.{◌≡◌, refl, ap}
use mathlib.Core.Bool.{true}
use lib.IntN.{pos}
use borrow.Author.Tests.{eqb-true}
use Rattle.numbers.proofs.Tests.{and_left, and_right}
use Rattle.record.specs.Record.{status_code}
use Rattle.record.specs.declared.Status.{Status}
use Rattle.record.proofs.Statuses.{each, every-pair}
use Rattle.succession.specs.Moves.{move_flag}
use Rattle.status_moves.specs.StatusMoves.{LetsFollow}
use Rattle.status_moves.proofs.Shown.{sample_text, sample, inactive, active, log_length, log_buffer, successor, opened_log, accepts, shows, set_is_shown, set-shown}

successor-status : (held new : Status) → (successor held new).status ≡ new
unfolding successor inactive active sample
successor-status held = each (λ new. (successor held new).status ≡ new) refl refl refl refl refl refl

-- a log that shows a move
shown-follows : (held new : Status) → shows held new ≡ true → LetsFollow (status_code held) (status_code new)
unfolding shows accepts opened_log
shown-follows held new e =
    record {
      text = sample_text;
      n = log_length held;
      log =
          record {
            log = log_buffer held;
            epoch = pos 0;
            first = pos 0;
            last = pos 0;
            typed = refl;
            accepted = eqb-true _ 0 (search (and_left, and_right) depth 8);
          };
      next = successor held new;
      name-held = search (and_left, and_right) depth 8;
      status-held = eqb-true _ (status_code held) (search (and_left, and_right) depth 8);
      status-new = ap status_code (successor-status held new);
      well-formed = search (and_left, and_right) depth 8;
      may-come = search (and_left, and_right) depth 8;
    }

pub set-follows : (held new : Status) → move_flag (status_code held) (status_code new) ≡ true → LetsFollow (status_code held) (status_code new)
set-follows held new e = shown-follows held new (rw e at (every-pair set_is_shown set-shown held new))
