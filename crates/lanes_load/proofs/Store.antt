-- The arrays back into the slices: they get what the arrays hold. Assumes nothing.
use Prim.Native.Nat.{ℕ, ◌+◌, ◌*◌, ◌%◌}
use mathlib.Core.Path.{◌≡◌, sym, ◌∙◌}
use mathlib.Core.List.{List}
use native.Mathlib.Omega.{arith}
use lib.ListN.{length, get_or}
use lib.Seq.{ext_get_or}
use lib.Ieee.{Float, nan}
use Rattle.lanes_load.specs.Load.{Joined}
use Rattle.lanes.specs.Holds.{Lies, Holds}
use Rattle.definition.specs.Sample.{Equalizer}
use Rattle.lanes.specs.Arrays.{Arrays}
use Rattle.lanes.proofs.Places.{each_place}

-- both halves stored: the slice is the list that the lanes hold
pub stored_back : (n m a b : ℕ) (re im w old mid x : List Float) → Lies re im a w 0 n → Lies re im b w n m → length w ≡ 2 * (n + m) → length old ≡ 2 * (n + m)
    → Joined re im a 0 n old mid → Joined re im b n m mid x → x ≡ w
stored_back n m a b re im w old mid x p q e f j k =
    ext_get_or nan x w (k.long ∙ j.long ∙ f ∙ sym e)
    (λ i l. each_place (λ i. get_or x i nan ≡ get_or w i nan) n m
    (λ i h. (k.low (2 * (0 + i)) (omega arith) ∙ j.re_is i h ∙ p.re_is i h, k.low (2 * (0 + i) + 1) (omega arith) ∙ j.im_is i h ∙ p.im_is i h))
    (λ i h. (k.re_is i h ∙ q.re_is i h, k.im_is i h ∙ q.im_is i h))
    i (omega (arith, k.long, j.long)))

-- ---- the slices get back what the arrays hold
pub weights_back : (n m p : ℕ) (a : Arrays) (q : Equalizer) (old mid w : List Float) → Holds n m p a q → length old ≡ length q.weights
    → Joined a.wr a.wi 0 0 n old mid → Joined a.wr a.wi (72 + n % 8) n m mid w → w ≡ q.weights
weights_back n m p a q old mid w s l j k =
    stored_back n m 0 (72 + n % 8) a.wr a.wi q.weights old mid w s.weights.forth.lies s.weights.back.lies s.weights.taps (l ∙ s.weights.taps) j k

pub window_back : (n m p : ℕ) (a : Arrays) (q : Equalizer) (old mid h : List Float) → Holds n m p a q → length old ≡ length q.window
    → Joined a.xr a.xi p 0 n old mid → Joined a.xr a.xi (p + 152) n m mid h → h ≡ q.window
window_back n m p a q old mid h s l j k =
    stored_back n m p (p + 152) a.xr a.xi q.window old mid h s.past.forth s.past.back s.past.taps (l ∙ s.past.taps) j k
