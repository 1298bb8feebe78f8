-- The end of a run: the windows move back to 64. Assumes nothing.
use Prim.Native.Nat.{ℕ, ◌+◌, ◌-◌, ◌≤◌}
use mathlib.Core.Path.{◌∙◌}
use mathlib.Core.List.{List}
use native.Mathlib.Omega.{arith}
use lib.ListN.{get_or}
use lib.Ieee.{Float, nan}
use Rattle.definition.specs.Sample.{Equalizer}
use Rattle.lanes.specs.Arrays.{Arrays, arrays}
use Rattle.lanes.specs.Holds.{Lies, Calm, Holds}
use Rattle.lanes_load.specs.Load.{Moved}
use Rattle.lanes.proofs.Between.{replaced_at, calm_between}
use Rattle.lanes.proofs.Places.{lies_kept}

-- what lay at `from` lies at `to`
pub moved_lies : (re im re' im' : List Float) (from to : ℕ) (x : List Float) (base count : ℕ) → Moved from to count re re' → Moved from to count im im'
    → Lies re im from x base count → Lies re' im' to x base count
moved_lies re im re' im' from to x base count a b l = record {
  re_is = λ j h. replaced_at (λ i. get_or re (from + i) nan) to count a j h ∙ l.re_is j h;
  im_is = λ j h. replaced_at (λ i. get_or im (from + i) nan) to count b j h ∙ l.im_is j h;
}

moved_calm : (re im re' im' : List Float) (from to count : ℕ) → Moved from to count re re' → Moved from to count im im' → from + count ≤ 288 → Calm re im 288 → Calm re' im' 288
moved_calm re im re' im' from to count a b r c = calm_between a b (λ k p q l. (c.re_fine (from + (k - to)) (omega arith), c.im_fine (from + (k - to)) (omega arith))) c

-- THE END OF A RUN: arrays that hold q at p hold it at 64, once the windows are moved there, the forward one first
pub end_holds : (n m p : ℕ) (a : Arrays) (xr₁ xi₁ xr' xi' q' : List Float) (q : Equalizer) → n ≤ 63 → m ≤ 63 → p ≤ 64 → Holds n m p a q
    → Moved p 64 n a.xr xr₁ → Moved p 64 n a.xi xi₁ → Moved (p + 152) 216 m xr₁ xr' → Moved (p + 152) 216 m xi₁ xi' → Moved (p + 152) 216 m a.q q'
    → Holds n m 64 (arrays a.wr a.wi xr' xi' q') q
end_holds n m p a xr₁ xi₁ xr' xi' q' q hn hm hp s mr mi br bi bq = record {
  weights = s.weights;
  past = record {
    forth = lies_kept xr₁ xi₁ xr' xi' 64 q.window 0 n (λ j l. br.low (64 + j) (omega arith)) (λ j l. bi.low (64 + j) (omega arith))
        (moved_lies a.xr a.xi xr₁ xi₁ p 64 q.window 0 n mr mi s.past.forth);
    back = moved_lies xr₁ xi₁ xr' xi' (p + 152) 216 q.window n m br bi
        (lies_kept a.xr a.xi xr₁ xi₁ (p + 152) q.window n m (λ j l. mr.high (p + 152 + j) (omega arith)) (λ j l. mi.high (p + 152 + j) (omega arith)) s.past.back);
    calm = moved_calm xr₁ xi₁ xr' xi' (p + 152) 216 m br bi (omega arith) (moved_calm a.xr a.xi xr₁ xi₁ p 64 n mr mi (omega arith) s.past.calm);
    taps = s.past.taps;
  };
  squares = record { is = λ j l. replaced_at (λ i. get_or a.q (p + 152 + i) nan) 216 m bq j l ∙ s.squares.is j l };
  fed_back = s.fed_back;
  long = record { xr = br.long ∙ mr.long ∙ s.long.xr; xi = bi.long ∙ mi.long ∙ s.long.xi; q = bq.long ∙ s.long.q };
}
