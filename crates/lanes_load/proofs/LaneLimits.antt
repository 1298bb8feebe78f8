-- The limits of the lanes: two parts of infinities filled with TINY. Assumes nothing.
use Prim.Native.Nat.{ℕ, ◌+◌, ◌-◌, ◌<◌, ◌≤◌}
use mathlib.Core.Path.{◌≡◌, refl, ◌∙◌, ap}
use mathlib.Core.Bool.{false}
use mathlib.Core.List.{List, ◌++◌}
use native.Mathlib.Omega.{arith}
use borrow.Rule.Slice.PartMut.{mid_of, put_mid, mid_len}
use lib.ListN.{length, get_or, take, drop, replicate, length-replicate, get_or-replicate}
use lib.Seq.{length-take-le}
use lib.Ieee.{Float, nan, inf, binary32, of_bits, of_fields, odd}
use Rattle.definition.specs.Floats.{tiny}
use Rattle.lanes.specs.Between.{Between}
use Rattle.lanes.specs.Holds.{Limits}
use Rattle.lanes.proofs.Between.{between_put}

top_is : of_bits binary32 2139095040 ≡ inf false
unfolding of_bits of_fields odd
top_is = refl

-- `count` places from `from` on are filled
filled : (from e count : ℕ) (old part : List Float) → part ≡ replicate count tiny → count ≡ e - from → from ≤ e → e ≤ length old → Between (λ i. tiny) from e old (put_mid from count old part)
filled from e count old part p c b t =
    between_put (λ i. tiny) from e count old part (ap length p ∙ length-replicate count tiny) c b t (λ k l. rw p (get_or-replicate count k tiny nan l))

pub limits-are : (n front m : ℕ) (p q : List Float) → n ≤ 72 → front + m ≤ 72 → p ≡ replicate (length (take n (replicate 144 (of_bits binary32 2139095040)))) tiny
    → q ≡ replicate (length (mid_of (72 + front) (72 + front + m - (72 + front)) (p ++ drop n (replicate 144 (of_bits binary32 2139095040))))) tiny
    → let l = put_mid (72 + front) (72 + front + m - (72 + front)) (p ++ drop n (replicate 144 (of_bits binary32 2139095040))) q in Limits l 0 0 n × Limits l 72 front m
limits-are n front m p q a b e f =
    let none = replicate 144 (of_bits binary32 2139095040) in
    let long : length none ≡ 144 = length-replicate 144 (of_bits binary32 2139095040) in
    let top : (i : ℕ) → i < 144 → get_or none i nan ≡ inf false = λ i h. get_or-replicate 144 i (of_bits binary32 2139095040) nan h ∙ top_is in
    let s : Between (λ i. tiny) 0 n none (p ++ drop n none) = filled 0 n n none p (e ∙ ap (λ (k : ℕ). replicate k tiny) (length-take-le n none (omega (arith, long)))) (omega arith) (omega arith) (omega (arith, long)) in
    let t = filled (72 + front) (72 + front + m) (72 + front + m - (72 + front)) (p ++ drop n none) q (f ∙ ap (λ (k : ℕ). replicate k tiny) (mid_len (72 + front) (72 + front + m) (p ++ drop n none) (omega (arith, s.long, long)))) (omega arith) (omega arith) (omega (arith, s.long, long)) in (
      record {
        inside = λ j h. t.low (0 + (0 + j)) (omega arith) ∙ s.done (0 + (0 + j)) (omega arith) (omega arith);
        early = λ i h. absurd (omega arith);
        late = λ i h g. t.low (0 + i) (omega arith) ∙ s.high (0 + i) (omega arith) ∙ top (0 + i) (omega arith);
      },
      record {
        inside = λ j h. t.done (72 + (front + j)) (omega arith) (omega arith);
        early = λ i h. t.low (72 + i) (omega arith) ∙ s.high (72 + i) (omega arith) ∙ top (72 + i) (omega arith);
        late = λ i h g. t.high (72 + i) (omega arith) ∙ s.high (72 + i) (omega arith) ∙ top (72 + i) (omega arith);
      },
    )
