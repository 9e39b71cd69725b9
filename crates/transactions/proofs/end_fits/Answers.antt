-- `transactions::end_fits_lem` meets its contract.
use mathlib.Core.Path.{sym, ap}
use Rattle.record.specs.declared.Status.{Status}
use Rattle.coordinator.specs.End.{end_fits}
use Rattle.transactions.proofs.end_fits.Goals as goal

pub returns-in-Empty : goal.returns-in-Empty
unfolding end_fits
returns-in-Empty c = sym (ap (λ (s : Status). end_fits s c.args.verdict) c.in-Empty.is)

pub returns-in-Begin : goal.returns-in-Begin
unfolding end_fits
returns-in-Begin c = sym (ap (λ (s : Status). end_fits s c.args.verdict) c.in-Begin.is)

pub returns-in-PrepareCommit : goal.returns-in-PrepareCommit
unfolding end_fits
returns-in-PrepareCommit c = sym (ap (λ (s : Status). end_fits s c.args.verdict) c.in-PrepareCommit.is)

pub returns-in-PrepareAbort : goal.returns-in-PrepareAbort
unfolding end_fits
returns-in-PrepareAbort c = sym (ap (λ (s : Status). end_fits s c.args.verdict) c.in-PrepareAbort.is)

pub returns-in-CompleteCommit : goal.returns-in-CompleteCommit
unfolding end_fits
returns-in-CompleteCommit c = sym (ap (λ (s : Status). end_fits s c.args.verdict) c.in-CompleteCommit.is)

pub returns-in-CompleteAbort : goal.returns-in-CompleteAbort
unfolding end_fits
returns-in-CompleteAbort c = sym (ap (λ (s : Status). end_fits s c.args.verdict) c.in-CompleteAbort.is)
