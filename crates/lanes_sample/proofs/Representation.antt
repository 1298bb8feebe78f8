-- The representation is kept by one sample. Assumes nothing.
use Prim.Native.Nat.{ℕ, suc, ◌+◌, ◌*◌, ◌<◌, ◌≤◌}
use mathlib.Core.Path.{◌≡◌, sym, ◌∙◌, ap}
use mathlib.Core.List.{List}
use native.Mathlib.Omega.{arith}
use lib.ListN.{length, get_or, set, length-set}
use lib.Seq.{get_or-set_same, get_or-set_other}
use lib.Dec.{T}
use lib.Ieee.{Float, nan}
use lib.Ieee.Scale.{finite}
use Rattle.types.specs.declared.C32.{C32}
use Rattle.types.specs.declared.EqualizeState.{EqualizeState}
use Rattle.definition.specs.Floats.{norm, complex}
use Rattle.definition.specs.Slices.{re_at, im_at}
use Rattle.definition.specs.Sample.{Equalizer, Stage, all_taps, forward, sanitized, step1, fed_in, step8}
use Rattle.definition_laws.proofs.Kept.{advance_keeps}
use Rattle.lanes.specs.Holds.{Weights, Window, Past, Squares, Holds, Put}
use Rattle.lanes.specs.Arrays.{Arrays, arrays}
use Rattle.lanes.proofs.Between.{between_one, calm_between}
use Rattle.lanes_sample.proofs.Windows.{window_in, in_front, after_head, after_first, after_more, after_long}

-- ---- the equalizer's own numbers
module _ {n m p : ℕ} {a : Arrays} {q : Equalizer} (s : Holds n m p a q) where
  pub holds-forward : forward q ≡ n
  holds-forward =
      let a = s.weights.taps in
      let b = s.fed_back in
      omega arith

  pub holds-taps : all_taps q ≡ n + m
  holds-taps = let a = s.weights.taps in omega arith

-- ---- step 1: the sample put in at `at` makes the definition's window
pub window_is : (n m at : ℕ) (a : Arrays) (q : Equalizer) (x : C32) → Holds n m (at + 1) a q → Put at x a.xr a.xi
    → Window n m at a.xr a.xi (step1 n x q.window)
unfolding step1
window_is n m at a q x s g = window_in n m at a.xr a.xi q.window (sanitized x) s.past g.re g.im

-- the squares of the feedback part are those of the new window
pub squares_in : (n m at : ℕ) (a : Arrays) (q : Equalizer) (x : C32) → Holds n m (at + 1) a q → Put at x a.xr a.xi → Squares a.q (at + 153) (step1 n x q.window) n m
squares_in n m at a q x s g =
    let w = window_is n m at a q x s g in
    let p : at + 153 ≡ at + 1 + 152 = omega arith in
    record {
      is = λ j l.
          let er = sym (s.past.back.re_is j l) ∙ (rw p at (w.back.re_is j l)) in
          let ei = sym (s.past.back.im_is j l) ∙ (rw p at (w.back.im_is j l)) in
          rw p (s.squares.is j l ∙ rw (er, ei));
    }

-- ---- step 8: the fed-back sample at at + 152
module _ (n m at : ℕ) (xr xi q h : List Float) (v : C32) (w : Window n m at xr xi h) (low : at ≤ 63) (most : n ≤ 63)
    (lr : length xr ≡ 288) (li : length xi ≡ 288) (lq : length q ≡ 288) (fr : T (finite v.re)) (fi : T (finite v.im)) where
  -- of a part, or of the squares: u in front of what stood from at + 153 on
  fed : (l : List Float) (u : Float) (x y : ℕ → Float) → length l ≡ 288 → ((j : ℕ) → j < m → get_or l (at + 153 + j) nan ≡ x j)
      → (0 < m → y 0 ≡ u) → ((j : ℕ) → suc j < m → y (suc j) ≡ x j) → (j : ℕ) → j < m → get_or (set l (at + 152) u) (at + 152 + j) nan ≡ y j
  fed l u x y long old =
      in_front (set l (at + 152) u) (at + 152) m u x y (get_or-set_same l (at + 152) u nan (omega arith))
      (λ j b. let e : at + 152 + 1 + j ≡ at + 153 + j = omega arith in rw e (get_or-set_other l (at + 152) (at + 153 + j) u nan (λ (z : at + 153 + j ≡ at + 152). omega arith) ∙ old j b))

  pub past_next : Past n m at (set xr (at + 152) v.re) (set xi (at + 152) v.im) (fed_in n m v h)
  past_next =
      let br = between_one (at + 152) v.re xr (omega arith) in
      let bi = between_one (at + 152) v.im xi (omega arith) in
      record {
        forth = record {
          re_is = λ j l. br.low (at + j) (omega arith) ∙ w.forth.re_is j l ∙ sym (after_head n m v h w.taps (2 * (0 + j)) (omega arith));
          im_is = λ j l. bi.low (at + j) (omega arith) ∙ w.forth.im_is j l ∙ sym (after_head n m v h w.taps (2 * (0 + j) + 1) (omega arith));
        };
        back = record {
          re_is = fed xr v.re (λ j. re_at h (n + j)) (λ j. re_at (fed_in n m v h) (n + j)) lr w.back.re_is (λ l. (after_first n m v h w.taps l).0) (λ j l. (after_more n m v h w.taps j l).0);
          im_is = fed xi v.im (λ j. im_at h (n + j)) (λ j. im_at (fed_in n m v h) (n + j)) li w.back.im_is (λ l. (after_first n m v h w.taps l).1) (λ j l. (after_more n m v h w.taps j l).1);
        };
        calm = calm_between br bi (λ k p q l. (fr, fi)) w.calm;
        taps = after_long n m v h w.taps;
      }

  pub squares_next : Squares q (at + 153) h n m → Squares (set q (at + 152) (norm v)) (at + 152) (fed_in n m v h) n m
  squares_next s = record {
    is = fed q (norm v) (λ j. norm (complex (re_at h (n + j)) (im_at h (n + j)))) (λ j. norm (complex (re_at (fed_in n m v h) (n + j)) (im_at (fed_in n m v h) (n + j)))) lq s.is
        (λ l. rw ((after_first n m v h w.taps l).0, (after_first n m v h w.taps l).1)) (λ j l. rw ((after_more n m v h w.taps j l).0, (after_more n m v h w.taps j l).1));
  }

-- ---- ONE SAMPLE: whatever stage t the steps 3 to 7 come to, arrays that hold its weights and get its fed-back sample hold the equalizer after step 8
pub holds_next : (n m at : ℕ) (a : Arrays) (q : Equalizer) (x : C32) (t : Stage) (wr' wi' : List Float)
    → at ≤ 63 → n ≤ 63 → Holds n m (at + 1) a q → Put at x a.xr a.xi
    → Weights n m wr' wi' t.weights → t.state.params ≡ q.state.params → T (finite t.fed.re) → T (finite t.fed.im)
    → Holds n m at (arrays wr' wi' (set a.xr (at + 152) t.fed.re) (set a.xi (at + 152) t.fed.im) (set a.q (at + 152) (norm t.fed)))
    (step8 n m (step1 n x q.window) t).equalizer
unfolding step8
holds_next n m at a q x t wr' wi' low most s g p e fr fi =
    let h = step1 n x q.window in
    let w = window_is n m at a q x s g in
    let z = squares_in n m at a q x s g in
    let l = s.long in
    let same = ap (λ (v : EqualizeState). v.params) (advance_keeps t.state) ∙ e in
    record {
      weights = p;
      past = past_next n m at a.xr a.xi a.q h t.fed w low most l.xr l.xi l.q fr fi;
      squares = squares_next n m at a.xr a.xi a.q h t.fed w low most l.xr l.xi l.q fr fi z;
      fed_back = rw same s.fed_back;
      long = record { xr = simp length-set l.xr; xi = simp length-set l.xi; q = simp length-set l.q };
    }
