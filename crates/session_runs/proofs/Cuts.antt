-- An accepted `cut` is a cut and an opening; a refused one makes no item.
use Prim.Native.Nat.{ℕ, ◌+◌, ◌≤◌, ◌<◌}
use mathlib.Core.Path.{◌≡◌, refl, sym, subst, ◌∙◌}
use mathlib.Core.Bool.{Bool, true, false, cond}
use mathlib.Core.List.{List, [], ◌∷◌}
use native.Mathlib.Omega.{arith}
use lib.Dec.{eqb, ltb}
use lib.IntN.{ℤ, pos, negsuc}
use lib.ListN.{length}
use lib.Signed.{le_z}
use borrow.Author.Tests.{eqb-true, eqb-false, eq-eqb, ltb-true, ltb-false, le-leb, lt-ltb, le-ltb}
use Rattle.numbers.proofs.Tests.{not-both}
use Rattle.answers.specs.Answers.{refused, open_reply}
use Rattle.answers.specs.Refusals.{numbers_of, among}
use Rattle.answers.proofs.Laws.{NoneApplies, none-applies}
use Rattle.log_reader.specs.Read.{read_tests}
use Rattle.coordinator.specs.Coordinator.{log_end}
use Rattle.coordinator.specs.Open.{take_over_tests, open_tests, opening}
use Rattle.coordinator.specs.declared.Coordinator.{Coordinator}
use Rattle.coordinator.proofs.OpenCases.{open-number}
use Rattle.server.specs.Lines.{catalogue_text}
use Rattle.writable_logs.specs.Writer.{opening_typed}
use Rattle.runs.specs.History.{History, log_cut, log_opened}
use Rattle.runs.specs.World.{Leader, Carrying, nothing, Item, cut, reopen, run, down}
use Rattle.agreement.proofs.Invariant.{Invariant}
use Rattle.agreement.proofs.LogSteps.{down-restarts}
use Rattle.agreement.proofs.Steps.{run-reached}
use Rattle.session.specs.Limits.{first_pid, last_pid, last_epoch}
use Rattle.session.specs.Memory.{Memory}
use Rattle.session.specs.Commands.{stays, next_epoch, restarts, cuts}
use Rattle.session.proofs.CommandSteps.{other-coordinator}
use Rattle.session.proofs.CommandsRefused.{answered-number, cut-unchanged}
use Rattle.session_runs.proofs.Worlds.{world, Held, Shown}
use Rattle.session_runs.proofs.Steps.{as-shown}

-- an opening with the coordinator epoch −1 is refused
never-negative : (log : List ℕ) (n : ℕ) → (open_reply (opening catalogue_text log n (negsuc 0) first_pid last_pid).answer).number ≡ 0 → ⊥
unfolding open_tests read_tests take_over_tests numbers_of among
never-negative log n e = go (none-applies (open_tests catalogue_text log n (negsuc 0) first_pid last_pid) refl (sym (open-number catalogue_text log n (negsuc 0) first_pid last_pid) ∙ e))
  where
    go : NoneApplies (open_tests catalogue_text log n (negsuc 0) first_pid last_pid) → ⊥
    go (catalogue, (length, (whole, (numbers, (reserve, end))))) = not-both numbers refl

-- the next coordinator epoch is one of its type
epoch-typed : (epoch : ℕ) → opening_typed (next_epoch epoch) first_pid last_pid ≡ true
epoch-typed epoch = go (ltb epoch last_epoch) refl
  where
    go : (b : Bool) → ltb epoch last_epoch ≡ b → opening_typed (cond b (pos (epoch + 1)) (negsuc 0)) first_pid last_pid ≡ true
    go true e = let h = ltb-true epoch last_epoch e in rw (le-leb (epoch + 1) last_epoch (omega (arith, h)))
    go false e = refl

-- where the opening is accepted, it is no lower than the one before
epoch-rises : (log : List ℕ) (n epoch : ℕ) → (open_reply (opening catalogue_text log n (next_epoch epoch) first_pid last_pid).answer).number ≡ 0 → le_z (pos epoch) (next_epoch epoch) ≡ true
epoch-rises log n epoch = go (ltb epoch last_epoch)
  where
    go : (b : Bool) → (open_reply (opening catalogue_text log n (cond b (pos (epoch + 1)) (negsuc 0)) first_pid last_pid).answer).number ≡ 0 → le_z (pos epoch) (cond b (pos (epoch + 1)) (negsuc 0)) ≡ true
    go true e = le-leb epoch (epoch + 1) (omega arith)
    go false e = absurd (never-negative log n e)

module _ (m : Memory) (leaders : List Leader) (k : Carrying) (h : History) (held : Held m leaders) (kept : ℕ) where
  abbrev c : Coordinator
  c = m.session.coordinator

  abbrev n : ℕ
  n = c.flushed + kept

  abbrev cut_items : List Item
  cut_items = cut n ∷ reopen (next_epoch c.epoch) first_pid last_pid ∷ []

  abbrev number : ℕ
  number = (open_reply (opening catalogue_text m.log n (next_epoch c.epoch) first_pid last_pid).answer).number

  -- what an accepted cut has passed
  within : (cuts kept m).reply.number ≡ 0 → ltb (log_end c) n ≡ false
  within = go (ltb (log_end c) n)
    where
      go : (b : Bool) → (cond b (stays (refused 7) m) (restarts n m)).reply.number ≡ 0 → b ≡ false
      go true z = absurd (omega arith)
      go false z = refl

  opens : (cuts kept m).reply.number ≡ 0 → number ≡ 0
  opens z = sym (answered-number number []) ∙ (rw (within z) at z)

  accepted-cut : (cuts kept m).reply.number ≡ 0 → Shown (run cut_items (world m leaders k h)) (cuts kept m).memory
  unfolding run
  accepted-cut z =
      let low = ltb-false (log_end c) n (within z) in
      rw (le-leb c.flushed n (omega arith), le-leb n (log_end c) low, epoch-typed c.epoch, eq-eqb number 0 (opens z), epoch-rises m.log n c.epoch (opens z), within z)
      (subst (Shown _) (other-coordinator 0 m (opening catalogue_text m.log n (next_epoch c.epoch) first_pid last_pid).state)
      (record { leaders = leaders; carrying = nothing; history = log_opened (next_epoch c.epoch) ∷ log_cut n ∷ h; is = refl; held = record { count = held.count; three = held.three; at_position = held.at_position } }))

  pub cut-shown : (b : Bool) → eqb (cuts kept m).reply.number 0 ≡ b → Shown (run (cond b cut_items []) (world m leaders k h)) (cuts kept m).memory
  cut-shown true e = accepted-cut (eqb-true _ 0 e)
  cut-shown false e = subst (Shown _) (sym (refused-cut (eqb-false _ 0 e))) (as-shown m leaders k h held)
    where
      refused-cut : ((cuts kept m).reply.number ≡ 0 → ⊥) → (cuts kept m).memory ≡ m
      refused-cut d = cut-unchanged kept m d

  -- ---- in a run a cut that leaves no more than there is, is accepted until the coordinator epochs are spent

  module _ (inv : Invariant (world m leaders k h)) (low : n ≤ log_end c) (left : c.epoch < last_epoch) where
    cut-is : run (cut n ∷ []) (world m leaders k h) ≡ record { text = catalogue_text; log = m.log; phase = down n c.epoch; leaders = leaders; carrying = nothing; history = log_cut n ∷ h }
    unfolding run
    cut-is = rw (le-leb c.flushed n (omega arith), le-leb n (log_end c) low)

    next-is : next_epoch c.epoch ≡ pos (c.epoch + 1)
    next-is = rw (lt-ltb c.epoch last_epoch left)

    reopened : number ≡ 0
    reopened =
        let i = subst Invariant cut-is (run-reached (cut n ∷ []) (world m leaders k h) inv).invariant in
        subst (λ (z : ℤ). (open_reply (opening catalogue_text m.log n z first_pid last_pid).answer).number ≡ 0) (sym next-is)
        (down-restarts catalogue_text m.log i.parsed n (log_cut n ∷ h) i.log-side i.of-history (pos (c.epoch + 1)) first_pid last_pid (rw (le-ltb (c.epoch + 1) 0 (omega arith))))

    pub cut-accepted : (cuts kept m).reply.number ≡ 0
    cut-accepted = rw (le-ltb (log_end c) n low, answered-number number []) reopened
