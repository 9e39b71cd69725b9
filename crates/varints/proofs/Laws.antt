-- Laws of varints over the width: an integer is read back whatever follows it, from its shortest form and no other; its greatest length.
use mathlib.Core.Path.{◌≡◌, refl, sym, ap, ◌∙◌}
use mathlib.Core.Bool.{Bool, true, false, cond, ◌&&◌}
use mathlib.Core.List.{List, [], ◌∷◌, ◌++◌}
use Prim.Native.Nat.{ℕ, zero, suc, ◌+◌, ◌*◌, ◌/◌, ◌%◌, ◌^◌, ◌≤◌, ◌<◌}
use native.Mathlib.Nat.{div-lt_iff_lt-mul, lt_of_lt_of_le}
use native.Mathlib.Omega.{arith}
use lib.Dec.{ltb}
use lib.IntN.{ℤ, pos, negsuc}
use lib.ListN.{length, take}
use lib.Pow.{pow-add, pow_mono}
use lib.Seq.{take_at}
use mir.Syntax.{Width, w32, w64}
use mir.Val.{SFits, bits}
use mir.ValLaws.{pow-bits}
use borrow.Author.Tests.{lt-ltb, le-ltb, ltb-true, ltb-false}
use Rattle.numbers.specs.Signed.{fits}
use Rattle.numbers.specs.Bytes.{same}
use Rattle.numbers.proofs.Signed.{fits-is, fits-true}
use Rattle.numbers.proofs.Bytes.{same_refl, same_true}
use Rattle.numbers.proofs.Tests.{and_left, and_right}
use Rattle.varints.specs.Varints.{zigzag, unzigzag, base128, varint, from_base128, base128_length, is, none, value_in, varint_in}

-- ---- zigzag

pub unzigzag-zigzag : (z : ℤ) → unzigzag (zigzag z) ≡ z
unzigzag-zigzag (pos n) =
    let e : 2 * n % 2 ≡ 0 = omega arith in
    let h : 2 * n / 2 ≡ n = omega arith in
    rw (e, h)
unzigzag-zigzag (negsuc n) =
    let e : (2 * n + 1) % 2 ≡ 1 = omega arith in
    let h : (2 * n + 1) / 2 ≡ n = omega arith in
    rw (e, h)

pub zigzag-fits : (w : Width) (z : ℤ) → SFits w z → zigzag z < 2 ^ bits w
zigzag-fits w (pos n) f = omega (arith, pow-bits w, f.sfits)
zigzag-fits w (negsuc n) f = omega (arith, pow-bits w, f.sfits)

-- ---- groups of seven digits

base-128-short : (k n : ℕ) → n < 128 → base128 k n ≡ n ∷ []
unfolding base128
base-128-short zero n h = refl
base-128-short (suc k) n h = rw (lt-ltb n 128 h)

base-128-long : (k n : ℕ) → 128 ≤ n → base128 (suc k) n ≡ (128 + n % 128) ∷ base128 k (n / 128)
unfolding base128
base-128-long k n h = rw (le-ltb n 128 h)

from_cons : (b : ℕ) (bs : List ℕ) → from_base128 (b ∷ bs) ≡ b % 128 + 128 * from_base128 bs
unfolding from_base128
from_cons b bs = refl

from-none : from_base128 [] ≡ 0
unfolding from_base128
from-none = refl

last_byte : (b : ℕ) (bs : List ℕ) → b < 128 → base128_length (b ∷ bs) ≡ 1
unfolding base128_length
last_byte b bs h = rw (lt-ltb b 128 h)

other_byte : (b : ℕ) (bs : List ℕ) → 128 ≤ b → base128_length (b ∷ bs) ≡ suc (base128_length bs)
unfolding base128_length
other_byte b bs h = rw (le-ltb b 128 h)

-- a number below 128, or not
short-or-long : (n : ℕ) (P : Type 0) → (n < 128 → P) → (128 ≤ n → P) → P
short-or-long n P f g = go (ltb n 128) refl
  where
    go : (b : Bool) → ltb n 128 ≡ b → P
    go true e = f (ltb-true n 128 e)
    go false e = g (ltb-false n 128 e)

-- the number is read back, and the length, whatever follows
base-128-back : (k n : ℕ) (rest : List ℕ) → n ≤ k → (from_base128 (base128 k n) ≡ n) × (base128_length (base128 k n ++ rest) ≡ length (base128 k n))
base-128-back zero n rest h =
    let s = base-128-short 0 n (omega arith) in
    rw (s, from_cons n [], from-none) (omega arith, last_byte n rest (omega arith))
base-128-back (suc k) n rest h =
    short-or-long n ((from_base128 (base128 (suc k) n) ≡ n) × (base128_length (base128 (suc k) n ++ rest) ≡ length (base128 (suc k) n)))
    (λ l. rw (base-128-short (suc k) n l, from_cons n [], from-none) (omega arith, last_byte n rest l))
    (λ l.
    let i = base-128-back k (n / 128) rest (omega arith) in
    rw (base-128-long k n l, from_cons (128 + n % 128) (base128 k (n / 128)), i.0)
    (omega arith, other_byte (128 + n % 128) (base128 k (n / 128) ++ rest) (omega arith) ∙ ap suc i.1))

-- ---- varints

module _ (z : ℤ) (rest : List ℕ) where
  pub varint-length : base128_length (varint z ++ rest) ≡ length (varint z)
  unfolding varint
  varint-length = (base-128-back (zigzag z) (zigzag z) rest (omega arith)).1

  pub varint-front : take (base128_length (varint z ++ rest)) (varint z ++ rest) ≡ varint z
  varint-front = take_at (varint z) rest (base128_length (varint z ++ rest)) (sym varint-length)

  of-varint : from_base128 (varint z) ≡ zigzag z
  unfolding varint
  of-varint = (base-128-back (zigzag z) (zigzag z) rest (omega arith)).0

  pub varint-value_in : value_in (varint z ++ rest) ≡ z
  varint-value_in = ap (λ (x : List ℕ). unzigzag (from_base128 x)) varint-front ∙ ap unzigzag of-varint ∙ unzigzag-zigzag z

-- what is written at a width is read back at that width, whatever follows
pub varint-back : (w : Width) (z : ℤ) (rest : List ℕ) → SFits w z → varint_in w (varint z ++ rest) ≡ is z (length (varint z))
unfolding varint_in
varint-back w z rest f =
    rw (varint-value_in z rest, varint-front z rest, varint-length z rest, fits-is w z f, same_refl (varint z))

-- what is read is an integer of the width, written in its shortest form
pub varint-only : (w : Width) (s : List ℕ) (z : ℤ) (k : ℕ) → varint_in w s ≡ is z k → SFits w z × (take k s ≡ varint z)
unfolding varint_in
varint-only w s z k q = go (fits w (value_in s) && same (take (base128_length s) s) (varint (value_in s))) refl q
  where
    go : (b : Bool) → (fits w (value_in s) && same (take (base128_length s) s) (varint (value_in s))) ≡ b → cond b (is (value_in s) (base128_length s)) none ≡ is z k → SFits w z × (take k s ≡ varint z)
    go true p r =
        let m : value_in s ≡ z = cc in
        let l : base128_length s ≡ k = cc in
        let f = fits-true w (value_in s) (and_left (fits w (value_in s)) (same (take (base128_length s) s) (varint (value_in s))) p) in
        let t = same_true (take (base128_length s) s) (varint (value_in s)) (and_right (fits w (value_in s)) (same (take (base128_length s) s) (varint (value_in s))) p) in
        (rw m at f, rw (m, l) at t)
    go false p r = absurd (let x : ◌≡◌ {A = ℕ} 0 1 = cc in omega arith)

-- no varint is the beginning of another
pub varint-apart : (y z : ℤ) (a b : List ℕ) → varint y ++ a ≡ varint z ++ b → y ≡ z
varint-apart y z a b q = sym (varint-value_in y a) ∙ ap value_in q ∙ varint-value_in z b

-- ---- the greatest length

base-128-zero : (n : ℕ) → base128 0 n ≡ n ∷ []
unfolding base128
base-128-zero n = refl

-- j more groups than one
base-128-most : (j k n : ℕ) → n < 2 ^ (7 * suc j) → length (base128 k n) ≤ suc j
base-128-most j zero n h = rw (base-128-zero n) (omega arith)
base-128-most zero (suc k) n h = rw (base-128-short (suc k) n h) (omega arith)
base-128-most (suc j) (suc k) n h =
    let e : 7 * suc (suc j) ≡ 7 * suc j + 7 = omega arith in
    let p : n < 2 ^ (7 * suc j) * 128 = rw (e, pow-add) at h in
    let i : length (base128 k (n / 128)) ≤ suc j = base-128-most j k (n / 128) ((div-lt_iff_lt-mul (omega arith)).1 p) in
    short-or-long n (length (base128 (suc k) n) ≤ suc (suc j)) (λ l. rw (base-128-short (suc k) n l) (omega arith)) (λ l. rw (base-128-long k n l) (omega arith))

-- an integer of 32 bits has at most five bytes, one of 64 at most ten
pub varint-most : (w : Width) (j : ℕ) (z : ℤ) → SFits w z → bits w ≤ 7 * suc j → length (varint z) ≤ suc j
unfolding varint
varint-most w j z f h = base-128-most j (zigzag z) (zigzag z) (lt_of_lt_of_le (zigzag-fits w z f) (pow_mono h))

pub varint-most-32 : (z : ℤ) → SFits w32 z → length (varint z) ≤ 5
varint-most-32 z f = varint-most w32 4 z f (omega arith)

pub varint-most-64 : (z : ℤ) → SFits w64 z → length (varint z) ≤ 10
varint-most-64 z f = varint-most w64 9 z f (omega arith)
