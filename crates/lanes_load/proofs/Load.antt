-- The slices into the arrays: zero arrays, filled from the slices of an accepted equalizer, hold it. Assumes nothing.
use Prim.Native.Nat.{ℕ, ◌+◌, ◌-◌, ◌*◌, ◌%◌, ◌<◌, ◌≤◌}
use mathlib.Core.Path.{◌≡◌, ◌∙◌}
use mathlib.Core.List.{List}
use native.Mathlib.Omega.{arith}
use lib.ListN.{length, get_or, replicate, length-replicate, get_or-replicate}
use lib.Ieee.{Float, nan}
use Rattle.types.specs.Bits.{zero32}
use Rattle.definition.specs.Slices.{re_at, im_at, every}
use Rattle.lanes.specs.Between.{Between}
use Rattle.lanes_load.specs.Load.{Loaded}
use Rattle.lanes.specs.Holds.{Lies, Half, Calm, Holds}
use lib.Dec.{T}
use lib.Ieee.Scale.{finite}
use Rattle.definition.specs.Sample.{Equalizer, all_taps, forward, feedback}
use Rattle.definition_laws.proofs.Accept.{Accepted, shape}
use Rattle.definition_laws.proofs.Every.{every-at}
use Rattle.definition_laws.proofs.Parts.{finite_zero}
use Rattle.lanes.specs.Powers.{square_at}
use Rattle.lanes.specs.Arrays.{arrays}
use Rattle.lanes.proofs.Between.{replaced_at, calm_between}
use Rattle.lanes.proofs.Places.{lies_kept, half_kept}
use Rattle.lanes.proofs.Powers.{squares_lie}

pub split_lies : (re im re' im' x : List Float) (at base count : ℕ) → Loaded x at base count re im re' im' → Lies re' im' at x base count
split_lies re im re' im' x at base count s = record {
  re_is = replaced_at (λ i. re_at x (base + i)) at count s.re;
  im_is = replaced_at (λ i. im_at x (base + i)) at count s.im;
}

-- a half of zero lanes that is loaded, and the other half's load before or after it
pub half_loaded : (re im re₀ im₀ x : List Float) (o from base count : ℕ) → from + count ≤ 72 → length re₀ ≡ 144 → length im₀ ≡ 144
    → ((i : ℕ) → i < 72 → get_or re₀ (o + i) nan ≡ zero32) → ((i : ℕ) → i < 72 → get_or im₀ (o + i) nan ≡ zero32)
    → Loaded x (o + from) base count re₀ im₀ re im → Half re im o from x base count
half_loaded re im re₀ im₀ x o from base count h a b zr zi s = record {
  long = s.re.long ∙ a;
  long' = s.im.long ∙ b;
  room = h;
  lies = split_lies _ _ re im x (o + from) base count s;
  early = record {
    re_zero = λ k p q. s.re.low (o + k) (omega arith) ∙ zr k (omega arith);
    im_zero = λ k p q. s.im.low (o + k) (omega arith) ∙ zi k (omega arith);
  };
  late = record {
    re_zero = λ k p q. s.re.high (o + k) (omega arith) ∙ zr k q;
    im_zero = λ k p q. s.im.high (o + k) (omega arith) ∙ zi k q;
  };
}

zero_calm : Calm (replicate 288 zero32) (replicate 288 zero32) 288
zero_calm = record { re_fine = λ k h. rw (get_or-replicate 288 k zero32 nan h) finite_zero; im_fine = λ k h. rw (get_or-replicate 288 k zero32 nan h) finite_zero }

split_calm : (re₀ im₀ re im x : List Float) (at base count : ℕ) → T (every finite x) → 2 * (base + count) ≤ length x → Calm re₀ im₀ 288
    → Loaded x at base count re₀ im₀ re im → Calm re im 288
split_calm re₀ im₀ re im x at base count f l c r =
    calm_between r.re r.im (λ k p q h. (every-at finite x (2 * (base + (k - at))) nan f (omega arith), every-at finite x (2 * (base + (k - at)) + 1) nan f (omega arith))) c

-- zero arrays, filled from the slices of an accepted equalizer, hold it at 64
pub load_holds : (n m : ℕ) (wr₁ wi₁ wr wi xr₁ xi₁ xr xi sq : List Float) (q : Equalizer) → Accepted q → forward q ≡ n → feedback q ≡ m
    → Loaded q.weights 0 0 n (replicate 144 zero32) (replicate 144 zero32) wr₁ wi₁ → Loaded q.weights (72 + n % 8) n m wr₁ wi₁ wr wi
    → Loaded q.window 64 0 n (replicate 288 zero32) (replicate 288 zero32) xr₁ xi₁ → Loaded q.window 216 n m xr₁ xi₁ xr xi
    → Between (square_at xr xi) 216 (216 + m) (replicate 288 zero32) sq
    → Holds n m 64 (arrays wr wi xr xi sq) q
load_holds n m wr₁ wi₁ wr wi xr₁ xi₁ xr xi sq q ok fn fm w v x d s =
    let z = shape q ok in
    let hn : n ≤ 63 = omega (arith, z.most, fn) in
    let hm : m ≤ 63 = omega (arith, z.back, fm) in
    let all : all_taps q ≡ n + m = omega (arith, z.sum, fn, fm) in
    let lw : length q.weights ≡ 2 * (n + m) = z.weights ∙ rw all in
    let lh : length q.window ≡ 2 * (n + m) = z.window ∙ rw all in
    let lies = split_lies _ _ xr xi q.window 216 n m d in
    let long : length (replicate 144 zero32) ≡ 144 = simp length-replicate in
    record {
      weights = record {
        forth = half_kept 0 0 0 n v.re.long v.im.long (λ i l. v.re.low (0 + i) (omega arith)) (λ i l. v.im.low (0 + i) (omega arith))
            (half_loaded wr₁ wi₁ _ _ q.weights 0 0 0 n (omega arith) long long (λ i l. get_or-replicate 144 (0 + i) zero32 nan (omega arith)) (λ i l. get_or-replicate 144 (0 + i) zero32 nan (omega arith)) w);
        back = half_loaded wr wi wr₁ wi₁ q.weights 72 (n % 8) n m (omega arith) (w.re.long ∙ long) (w.im.long ∙ long)
            (λ i l. w.re.high (72 + i) (omega arith) ∙ get_or-replicate 144 (72 + i) zero32 nan (omega arith)) (λ i l. w.im.high (72 + i) (omega arith) ∙ get_or-replicate 144 (72 + i) zero32 nan (omega arith)) v;
        taps = lw;
      };
      past = record {
        forth = lies_kept _ _ xr xi 64 q.window 0 n (λ j l. d.re.low (64 + j) (omega arith)) (λ j l. d.im.low (64 + j) (omega arith)) (split_lies _ _ xr₁ xi₁ q.window 64 0 n x);
        back = lies;
        calm = split_calm xr₁ xi₁ xr xi q.window 216 n m ok.window (omega arith) (split_calm _ _ xr₁ xi₁ q.window 64 0 n ok.window (omega arith) zero_calm x) d;
        taps = lh;
      };
      squares = squares_lie xr xi sq (replicate 288 zero32) 216 (216 + m) 216 q.window n m s (omega arith) (omega arith) lies;
      fed_back = fm;
      long = record { xr = d.re.long ∙ x.re.long ∙ simp length-replicate; xi = d.im.long ∙ x.im.long ∙ simp length-replicate; q = s.long ∙ simp length-replicate };
    }
