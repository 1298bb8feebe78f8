-- The bound of `no_spill` cannot be raised, at any k: with weights of 2 and -2 in turn and 2^(128 - k) in window and sample, 3 taps spill at k = 3,
-- and 2^(k - 2) taps at k = 4 to 8. Computed; assumes nothing.
use Prim.Native.Nat.{ℕ, zero, suc, ◌+◌, ◌-◌, ◌*◌, ◌^◌, ◌<◌}
use mathlib.Core.Path.{◌≡◌, refl}
use mathlib.Core.Bool.{true, false}
use mathlib.Core.List.{List, [], ◌∷◌}
use lib.Dec.{lit≤}
use lib.ListN.{replicate}
use lib.Ieee.{Float}
use Rattle.types.specs.declared.EqConstellation.TheVariants.{Qpsk}
use Rattle.types.specs.Bits.{f32}
use Rattle.definition.specs.Floats.{complex, finite_c}
use Rattle.definition.specs.Slices.{every}
use Rattle.definition.specs.Sample.{Equalizer, all_taps}
use Rattle.definition.specs.Rules.{accepted_def}
use Rattle.definition.specs.Rows.{settings_of}
use Rattle.definition.specs.Calls.{fresh_state}
use Rattle.definition.proofs.Computed.{computed}
use Rattle.demands.specs.NoSpill.{up_to, SharpAt, Sharp}
use Rattle.demands.specs.Marks.{sum_of}

unfoldable pairs : ℕ → Float → Float → List Float
pairs zero a b = []
pairs (suc n) a b = a ∷ b ∷ pairs n a b

-- 2^(128 - k), by its bits
unfoldable large : ℕ → Float
large k = f32 ((255 - k) * 2 ^ 23)

-- f forward and m feedback taps
unfoldable loud : ℕ → ℕ → ℕ → Equalizer
loud k f m = record {
  state = fresh_state (settings_of Qpsk m 0x3d4c_cccd 0x3ca3_d70a 1000 0);
  weights = pairs (f + m) (f32 0x4000_0000) (f32 0xc000_0000);
  window = replicate (2 * (f + m)) (large k);
}

sharp_at : (k f m : ℕ) → let q = loud k f m in let v = large k in accepted_def q ≡ true → 2 * all_taps q < 2 ^ k → 1 + (128 - k) + k ≡ 129
    → every (up_to 1) q.weights ≡ true → every (up_to (128 - k)) q.window ≡ true → up_to (128 - k) v ≡ true → finite_c (sum_of q (complex v v)) ≡ false → SharpAt k
sharp_at k f m acc t o w h x s = record {
  a = 1;
  b = 128 - k;
  equalizer = loud k f m;
  sample = complex (large k) (large k);
  accepted = acc;
  taps = t;
  one_more = o;
  weights = w;
  window = h;
  re = x;
  im = x;
  spills = s;
}

pub sharp : Sharp
unfolding computed settings_of pairs large loud up_to
sharp = record {
  at_3 = sharp_at 3 3 0 refl (lit≤ tt) refl refl refl refl refl;
  at_4 = sharp_at 4 3 1 refl (lit≤ tt) refl refl refl refl refl;
  at_5 = sharp_at 5 7 1 refl (lit≤ tt) refl refl refl refl refl;
  at_6 = sharp_at 6 15 1 refl (lit≤ tt) refl refl refl refl refl;
  at_7 = sharp_at 7 31 1 refl (lit≤ tt) refl refl refl refl refl;
  at_8 = sharp_at 8 63 1 refl (lit≤ tt) refl refl refl refl refl;
}
