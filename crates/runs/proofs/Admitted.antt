-- In every run refusal 8 is for a slice of another length and nothing else: the reserves stand, and what is lent keeps the length that was recorded.
use Prim.Native.Nat.{ℕ, zero, suc}
use mathlib.Core.Path.{◌≡◌, refl, sym, ap, subst, ◌∙◌}
use mathlib.Core.List.{List, [], ◌∷◌}
use lib.Dec.{eqb}
use lib.IntN.{ℤ, pos}
use lib.ListN.{length}
use lib.Signed.{le_z}
use borrow.Author.Tests.{eqb-true}
use Rattle.numbers.proofs.Tests.{and_left}
use Rattle.catalogue.specs.Limits.{positions}
use Rattle.search.specs.Search.{Each}
use Rattle.search.proofs.Each.{each_at, each_set, each-then}
use Rattle.answers.specs.Answers.{open_reply}
use Rattle.coordinator.specs.Coordinator.{Action, keep, advance, append, acknowledge, flush_to, appended, acknowledged, after}
use Rattle.coordinator.specs.Open.{opening}
use Rattle.coordinator.specs.declared.Coordinator.{Coordinator}
use Rattle.coordinator.proofs.OpenCases.{open-number}
use Rattle.coordinator.proofs.Reserve.{Reserved, admits-length, opening-reserved, opening-room, log-length}
use Rattle.partition.specs.Partition.{Action as PartitionAction, keep as keep_partition, note, write, after as partition_after, admits as partition_admits}
use Rattle.partition.specs.declared.Partition.{Partition}
use Rattle.partition.proofs.Reserve.{Reserved as PartitionReserved, admits-length as words-admits, opened-reserved, opened-room}
use Rattle.writable_logs.proofs.Decisions.{decided-reserved}
use Rattle.runs.specs.World.{Leader, open_leader, open_leaders, Phase, up, down, World, leader_at, FirstOpening, start, Accepted, Item, step, run}
use Rattle.runs.specs.InEveryRun.{AdmitsLog, AdmitsExactly}
use Rattle.runs.proofs.Run.{run-keeps}
use Rattle.runs.proofs.Changes.{step-changes}
use Rattle.runs.proofs.Decisions.{led-keeps}

-- ---- what every item keeps

-- the coordinator's reserve stands, and the log buffer has the length that was recorded
pub record OwnState (log : List ℕ) (s : Coordinator) : Type 0 where
  pub reserved : Reserved s
  pub room : length log ≡ s.room

abbrev pub OwnLog : List ℕ → Phase → Type 0
OwnLog log (up s) = OwnState log s
OwnLog log (down n epoch) = Unit {0}

-- the same of a partition and its words
pub record OwnWords (l : Leader) : Type 0 where
  pub reserved : PartitionReserved l.partition
  pub room : length l.words ≡ l.partition.room

pub record Own (w : World) : Type 0 where
  pub of-log : OwnLog w.log w.phase
  pub of_words : Each OwnWords w.leaders

-- no action changes the recorded length
same-room : (a : Action) (s : Coordinator) → (after a s).room ≡ s.room
unfolding appended acknowledged
same-room keep s = refl
same-room (advance clock) s = refl
same-room (append place row) s = refl
same-room (acknowledge place position) s = refl
same-room (flush_to n) s = refl

same-words-room : (a : PartitionAction) (p : Partition) → (partition_after a p).room ≡ p.room
same-words-room keep_partition p = refl
same-words-room (note coordinator place q) p = refl
same-words-room (write coordinator place q e) p = refl

opened-own : (words : List ℕ) → OwnWords (open_leader words)
opened-own words = record { reserved = opened-reserved (length words); room = opened-room (length words) }

opening-own : (text log : List ℕ) (n : ℕ) (epoch first last : ℤ) → (open_reply (opening text log n epoch first last).answer).number ≡ 0
    → OwnState log (opening text log n epoch first last).state
opening-own text log n epoch first last e =
    record {
      reserved = opening-reserved text log n epoch first last;
      room = sym (opening-room text log n epoch first last (sym (open-number text log n epoch first last) ∙ e));
    }

pub step-own : (x : Item) (w : World) → Own w → Own (step x w)
step-own x w o =
    step-changes Own w x
    (record {
      rests = λ c new. record { of-log = o.of-log; of_words = o.of_words };
      acts = λ l s u a d new. record {
        of-log = let k = mine s u in let r = decided-reserved s k.reserved _ a d in record { reserved = r; room = log-length a s w.log r k.room };
        of_words = o.of_words;
      };
      acts-elsewhere = λ l s u n h a d new. record {
        of-log = let k = mine s u in record { reserved = decided-reserved s k.reserved n a d; room = k.room ∙ sym (same-room a s) };
        of_words = o.of_words;
      };
      leads = λ y t a d c new. record {
        of-log = o.of-log;
        of_words = let k = led-keeps (leader_at w y).partition (theirs y).reserved _ a d in
            each_set OwnWords w.leaders y _ o.of_words (record { reserved = k.reserved; room = k.lengths (leader_at w y).words (theirs y).room });
      };
      leads-elsewhere = λ y t n h a d c. record {
        of-log = o.of-log;
        of_words = each_set OwnWords w.leaders y _ o.of_words
            (record {
              reserved = (led-keeps (leader_at w y).partition (theirs y).reserved n a d).reserved;
              room = (theirs y).room ∙ sym (same-words-room a (leader_at w y).partition);
            });
      };
      cuts = λ i s u n e. record { of-log = tt; of_words = o.of_words };
      reopens = λ i n before u epoch first last t e. record {
        of-log = opening-own w.text w.log n epoch first last (eqb-true _ 0 (and_left (eqb (open_reply (opening w.text w.log n epoch first last).answer).number 0) (le_z (pos before) epoch) e));
        of_words = o.of_words;
      };
    })
  where
    mine : (s : Coordinator) → w.phase ≡ up s → OwnState w.log s
    mine s u = subst (OwnLog w.log) u o.of-log

    theirs : (y : ℕ) → OwnWords (leader_at w y)
    theirs y = each_at OwnWords w.leaders (open_leader []) y o.of_words (opened-own [])

-- ---- the theorem

leaders-own : (n : ℕ) (words : List (List ℕ)) → Each OwnWords (open_leaders n words)
unfolding open_leaders
leaders-own zero words = tt
leaders-own (suc n) [] = (opened-own [], leaders-own n [])
leaders-own (suc n) (l ∷ words) = (opened-own l, leaders-own n words)

pub start-own : (o : FirstOpening) → Accepted o → Own (start o)
start-own o (accepted, fits) =
    record {
      of-log = opening-own o.text o.log o.length o.epoch o.first o.last accepted;
      of_words = leaders-own positions o.words;
    }

pub run-own : (o : FirstOpening) → Accepted o → (items : List Item) → Own (run items (start o))
run-own o accepted items = run-keeps Own step-own items (start o) (start-own o accepted)

own-admits : (w : World) → Own w → AdmitsExactly w
own-admits w o = record { log = go w.phase o.of-log; words = each-then OwnWords _ theirs w.leaders o.of_words }
  where
    go : (p : Phase) → OwnLog w.log p → AdmitsLog p w
    go (up s) k = λ n. admits-length s k.reserved n ∙ ap (eqb n) (sym k.room)
    go (down n epoch) k = tt

    theirs : (l : Leader) → OwnWords l → (n : ℕ) → partition_admits l.partition n ≡ eqb n (length l.words)
    theirs l k n = words-admits l.partition k.reserved n ∙ ap (eqb n) (sym k.room)

-- refusal 8, in every run
pub admits-exactly : (o : FirstOpening) → Accepted o → (items : List Item) → AdmitsExactly (run items (start o))
admits-exactly o accepted items = own-admits (run items (start o)) (run-own o accepted items)
