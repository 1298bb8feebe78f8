-- The samples of a run go into the window. Assumes nothing.
use Prim.Native.Nat.{ℕ, ◌+◌, ◌-◌, ◌<◌}
use mathlib.Core.Path.{◌≡◌, sym}
use mathlib.Core.List.{List}
use native.Mathlib.Omega.{arith}
use lib.ListN.{length, set}
use lib.Ieee.{Float}
use Rattle.types.specs.declared.C32.{C32}
use Rattle.definition.specs.Sample.{sanitized}
use Rattle.definition.specs.Slices.{re_at, im_at}
use Rattle.lanes.specs.Between.{Between}
use Rattle.lanes_prepare.specs.Entered.{entered_at}
use Rattle.lanes.proofs.Between.{between_down}

pub record Entry (x xr₀ xi₀ : List Float) (k : ℕ) (xr xi : List Float) : Type 0 where
  pub re : Between (λ j. (entered_at x j).re) (64 - k) 64 xr₀ xr
  pub im : Between (λ j. (entered_at x j).im) (64 - k) 64 xi₀ xi

pub entry_more : (x xr₀ xi₀ : List Float) (k : ℕ) (xr xi : List Float) (c v : C32)
    → Entry x xr₀ xi₀ k xr xi → k < 64 → length xr ≡ 288 → length xi ≡ 288 → (c.re ≡ re_at x k) × (c.im ≡ im_at x k) → v ≡ sanitized c
    → Entry x xr₀ xi₀ (k + 1) (set xr (63 - k) v.re) (set xi (63 - k) v.im)
entry_more x xr₀ xi₀ k xr xi c v s h lr li r q =
    let e : 64 - (k + 1) ≡ 63 - k = omega arith in
    let f : 64 - k ≡ 63 - k + 1 = omega arith in
    let g : 63 - (63 - k) ≡ k = omega arith in
    let w : v ≡ entered_at x (63 - k) = rw (g, q, sym r.0, sym r.1) in
    record {
      re = rw e (between_down _ _ _ v.re (rw w) (omega arith) (omega (arith, lr)) (rw f at s.re));
      im = rw e (between_down _ _ _ v.im (rw w) (omega arith) (omega (arith, li)) (rw f at s.im));
    }
