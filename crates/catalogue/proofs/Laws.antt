-- Laws of a catalogue that a text gave: its names, and the set of all positions.
use mathlib.Core.Path.{◌≡◌, sym, ap, subst, ◌∙◌}
use mathlib.Core.List.{List}
use Prim.Native.Nat.{ℕ, ◌+◌, ◌*◌, ◌^◌, ◌≤◌, ◌<◌}
use native.Mathlib.Nat.{lt_of_lt_of_le}
use native.Mathlib.Decide.{dec_lt}
use native.Mathlib.Omega.{arith}
use lib.ListN.{length, drop, get_or, length-take, get_or-eq_default}
use lib.Pow.{pow_mono}
use Rattle.numbers.proofs.Padded.{until-length, until-byte}
use lib.Dec.{ltb}
use borrow.Author.Tests.{le-ltb}
use Rattle.bits.specs.Bits.{member}
use Rattle.bits.proofs.Laws.{bit-of-none, member-is-not, member-first}
use Rattle.catalogue.specs.Limits.{topic_name_max, partitions_max}
use Rattle.catalogue.specs.declared.Catalogue.{Catalogue}
use Rattle.catalogue.specs.Catalogue.{name_field, topic_name, position, partitions_in, Distinct, accepted, parse}
use Rattle.catalogue.specs.Format.{TopicLine, no_line, Renders}
use Rattle.catalogue.proofs.Names.{field-byte}
use Rattle.catalogue.proofs.Positions.{partition-position, partitions-past}
use Rattle.catalogue.proofs.Topics.{catalogue_of, Good, Different, sets_of, sets_below, set_at, held-name, with-lines}
use Rattle.catalogue.proofs.Format.{accepted-is}

-- a topic that has partitions is a line's
within : (ls : List TopicLine) (u : ℕ) → Good ls → 0 < partitions_in (sets_of ls) u → u < length ls
within ls u g h = go (dec_lt u (length ls))
  where
    go : Dec (u < length ls) → u < length ls
    go (yes q) = q
    go (no q) = absurd (omega (arith, partitions-past (sets_of ls) (length ls) u (sets_below ls g) (omega arith)))

lines-distinct : (ls : List TopicLine) → Good ls → Different ls → Distinct (catalogue_of ls)
lines-distinct ls g d t u h m p q e =
    let l = within ls u g q in
    d t u h l (sym (held-name ls t g (omega arith)) ∙ e ∙ held-name ls u g l)

-- the positions of lines are those of their partitions, and no others; behind the last line there are none
lines-positions : (ls : List TopicLine) (t p : ℕ) → Good ls → p < partitions_max → member (sets_of ls) (position t p) ≡ ltb p (get_or ls t no_line).partitions
lines-positions ls t p g h = sym (partition-position (sets_of ls) t p h) ∙ go (dec_lt t (length ls))
  where
    go : Dec (t < length ls) → member (partitions_in (sets_of ls) t) p ≡ ltb p (get_or ls t no_line).partitions
    go (yes l) = rw (set_at ls t g l) (member-first (get_or ls t no_line).partitions p)
    go (no l) =
        let none : get_or ls t no_line ≡ no_line = get_or-eq_default ls no_line (omega arith) in
        rw (partitions-past (sets_of ls) (length ls) t (sets_below ls g) (omega arith), none, member-is-not 0 p (bit-of-none p)) (sym (le-ltb p 0 (omega arith)))

-- document 01: "Partition p of the t-th topic (both from 0) has position 8×t+p; a set is a u64 with those bits"
pub all-positions : (text : List ℕ) (c : Catalogue) (r : Renders text c) (t p : ℕ) → p < partitions_max → member c.all (position t p) ≡ ltb p (get_or r.lines t no_line).partitions
all-positions text c r t p h =
    ap (λ (x : Catalogue). member x.all (position t p)) (r.held ∙ with-lines r.lines r.good r.few) ∙ lines-positions r.lines t p r.good h

-- no premise: any catalogue's names are as short
pub name-short : (c : Catalogue) (t : ℕ) → length (topic_name c t) ≤ topic_name_max
name-short c t = omega (arith, until-length (name_field c t), length-take 16 (drop (16 * t) c.names))

pub name-byte : (c : Catalogue) (t i : ℕ) → i < length (topic_name c t) → get_or (topic_name c t) i 0 ≡ get_or c.names (topic_name_max * t + i) 0
name-byte c t i h = until-byte (name_field c t) i h ∙ field-byte c t i (omega (arith, name-short c t))

-- a text that is not refused gives its catalogue
pub not-refused : (text : List ℕ) → (parse text).refusal ≡ 0 → parse text ≡ accepted (parse text).catalogue
not-refused text e = ap (λ (k : ℕ). record { refusal = k; catalogue = (parse text).catalogue }) e

module _ (text : List ℕ) (c : Catalogue) (e : parse text ≡ accepted c) where
  held : c ≡ catalogue_of (accepted-is text c e).lines
  held = let r = accepted-is text c e in r.held ∙ with-lines r.lines r.good r.few

  pub distinct : Distinct c
  distinct =
      let r = accepted-is text c e in
      subst Distinct (sym held) (lines-distinct r.lines r.good r.different)

  pub all-bound : c.all < 2 ^ 64
  all-bound =
      let r = accepted-is text c e in
      let m : 2 ^ (8 * length r.lines) ≤ 2 ^ 64 = pow_mono {j = 64} (omega (arith, r.few)) in
      subst (λ (x : Catalogue). x.all < 2 ^ 64) (sym held) (lt_of_lt_of_le (sets_below r.lines r.good) m)

-- no two topics of a text that is not refused have one name
pub parsed-distinct : (text : List ℕ) → (parse text).refusal ≡ 0 → Distinct (parse text).catalogue
parsed-distinct text e = distinct text (parse text).catalogue (not-refused text e)
