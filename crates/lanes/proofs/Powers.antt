-- The window's power from squares made ahead. Assumes nothing.
use Prim.Native.Nat.{ℕ, zero, suc, ◌+◌, ◌≤◌}
use mathlib.Core.Path.{◌≡◌, sym, ◌∙◌, ap}
use mathlib.Core.List.{List}
use native.Mathlib.Omega.{arith}
use native.Mathlib.Nat.{add-zero, add-suc}
use lib.Ieee.{Float}
use Rattle.definition.specs.Slices.{power}
use Rattle.lanes.specs.Powers.{chain_from, chain_of, square_at}
use Rattle.lanes.specs.Between.{Between}
use Rattle.lanes.specs.Holds.{Lies, Squares}

-- the power of base taps, then count squares of q, is the power of base + count
pub chain_power : (q : List Float) (from : ℕ) (h : List Float) (base count : ℕ) → Squares q from h base count
    → chain_from (power h base) q from count ≡ power h (base + count)
unfolding chain_from power
chain_power q from h base zero s = ap (power h) (sym (add-zero base))
chain_power q from h base (suc n) s =
    rw (chain_power q from h base n (record { is = λ j l. s.is j (omega arith) }), s.is n (omega arith)) (ap (power h) (sym (add-suc base n)))

-- the squares of a window that lies in the arrays
pub squares_lie : (xr xi q q₀ : List Float) (lo hi at : ℕ) (h : List Float) (base count : ℕ) → Between (square_at xr xi) lo hi q₀ q → lo ≤ at → at + count ≤ hi
    → Lies xr xi at h base count → Squares q at h base count
squares_lie xr xi q q₀ lo hi at h base count b l k x = record {
  is = λ j g. b.done (at + j) (omega arith) (omega arith) ∙ rw (x.re_is j g, x.im_is j g);
}

-- the power made ahead for the window at `at`
pub ahead_power : (q : List Float) (at n : ℕ) (h : List Float) → Squares q at h 0 n → chain_of q at n ≡ power h n
unfolding power
ahead_power q at n h s =
    let e : 0 + n ≡ n = omega arith in
    chain_power q at h 0 n s ∙ ap (power h) e
