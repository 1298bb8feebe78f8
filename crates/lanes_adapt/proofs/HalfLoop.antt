-- The loop of `update_half`. Assumes nothing.
use Prim.Native.Nat.{ℕ, ◌+◌, ◌<◌}
use mathlib.Core.Path.{◌≡◌, ◌∙◌}
use mathlib.Core.Bool.{Bool, false, ◌||◌}
use mathlib.Core.List.{List}
use native.Mathlib.Omega.{arith}
use lib.ListN.{length, get_or, set}
use lib.Ieee.{Float, nan}
use Rattle.lanes.specs.Between.{Replaced}
use Rattle.lanes.proofs.Between.{replaced_none, replaced_more}
use Rattle.lanes_adapt.specs.Steps.{lane_re, lane_im, step_re, step_im, uneven, any_of}
use Rattle.lanes_adapt.proofs.Loops.{any_none, any_more}

pub record HalfLoop (wr₀ wi₀ limit xr xi : List Float) (at o : ℕ) (gr gi : Float) (i : ℕ) (wr wi : List Float) (bad : Bool) : Type 0 where
  pub re : Replaced (step_re wr₀ limit xr xi at o gr gi) o i wr₀ wr
  pub im : Replaced (step_im wi₀ limit xr xi at o gr gi) o i wi₀ wi
  pub any : bad ≡ any_of i (λ k. uneven (step_re wr₀ limit xr xi at o gr gi k) (step_im wi₀ limit xr xi at o gr gi k))

pub half_none : (wr wi limit xr xi : List Float) (at o : ℕ) (gr gi : Float) → HalfLoop wr wi limit xr xi at o gr gi 0 wr wi false
half_none wr wi limit xr xi at o gr gi = record {
  re = replaced_none (step_re wr limit xr xi at o gr gi) o wr;
  im = replaced_none (step_im wi limit xr xi at o gr gi) o wi;
  any = any_none _;
}

pub half_more : (wr₀ wi₀ limit xr xi : List Float) (at o : ℕ) (gr gi : Float) (i : ℕ) (wr wi : List Float) (bad b : Bool) (r m : Float)
    → HalfLoop wr₀ wi₀ limit xr xi at o gr gi i wr wi bad → o + i < length wr → o + i < length wi
    → r ≡ lane_re (get_or wr (o + i) nan) (get_or limit (o + i) nan) (get_or xr (at + i) nan) (get_or xi (at + i) nan) gr gi
    → m ≡ lane_im (get_or wi (o + i) nan) (get_or limit (o + i) nan) (get_or xr (at + i) nan) (get_or xi (at + i) nan) gr gi
    → b ≡ uneven r m
    → HalfLoop wr₀ wi₀ limit xr xi at o gr gi (i + 1) (set wr (o + i) r) (set wi (o + i) m) (bad || b)
half_more wr₀ wi₀ limit xr xi at o gr gi i wr wi bad b r m s lr li er em eb =
    let kr = s.re.high (o + i) (omega arith) in
    let km = s.im.high (o + i) (omega arith) in
    let fr : r ≡ step_re wr₀ limit xr xi at o gr gi i = er ∙ rw kr in
    let fm : m ≡ step_im wi₀ limit xr xi at o gr gi i = em ∙ rw km in
    record {
      re = replaced_more (step_re wr₀ limit xr xi at o gr gi) o i r fr lr s.re;
      im = replaced_more (step_im wi₀ limit xr xi at o gr gi) o i m fm li s.im;
      any = any_more _ i bad b s.any (eb ∙ rw (fr, fm));
    }
