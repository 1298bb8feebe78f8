-- Sixteen sums side by side. Assumes nothing.
use Prim.Native.Nat.{ℕ, ◌+◌, ◌<◌}
use mathlib.Core.Path.{◌≡◌, refl, ◌∙◌}
use mathlib.Core.List.{List}
use native.Mathlib.Omega.{arith}
use native.Mathlib.Numerals.{add-one}
use lib.ListN.{length, get_or, take, drop, replicate, get_or-replicate}
use Rattle.std.proofs.lemmas.List.{get_or-take, get_or-drop}
use lib.Ieee.{Float, nan}
use Rattle.types.specs.Bits.{zero32}
use Rattle.dot.specs.Added.{Added}
use Rattle.lanes.specs.Powers.{chain_from, chain_of}

-- sixteen sums of n values each, side by side
pub record Chained (q : List Float) (j n : ℕ) (l : List Float) : Type 0 where
  pub long : length l ≡ 16
  pub sums : (k : ℕ) → k < 16 → get_or l k nan ≡ chain_of q (j + k) n

pub chained_none : (q : List Float) (j : ℕ) → Chained q j 0 (replicate 16 zero32)
unfolding chain_from
chained_none q j = record { long = refl; sums = λ k h. get_or-replicate 16 k zero32 nan h }

-- w: the first sixteen values of what is left of q
pub chained_more : (q w left : List Float) (j n : ℕ) {l l' : List Float} → Chained q j n l → left ≡ drop (j + n) q → w ≡ take 16 left → Added (λ i. get_or w i nan) 0 16 l l'
    → Chained q j (n + 1) l'
unfolding chain_from
chained_more q w left j n c r t a = record {
  long = a.long ∙ c.long;
  sums = λ k h.
      let e : j + n + k ≡ j + k + n = omega arith in
      let z : 0 + k ≡ k = omega arith in
      rw (add-one, a.done k h, c.sums k h, z, t, get_or-take 16 left k nan h, r, get_or-drop (j + n) q k nan, e);
}
