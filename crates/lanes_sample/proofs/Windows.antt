-- The window: a sample goes in, a fed-back sample goes in. Assumes nothing.
use Prim.Native.Nat.{ℕ, zero, suc, ◌+◌, ◌-◌, ◌*◌, ◌<◌, ◌≤◌}
use mathlib.Core.Path.{◌≡◌, refl, sym, ◌∙◌}
use mathlib.Core.List.{List, ◌∷◌}
use native.Mathlib.Omega.{arith}
use Rattle.std.proofs.lemmas.List.{get_or-append_right}
use lib.ListN.{length, get_or, take, drop, length-take, length-append, length-drop, get_or-append}
use lib.Seq.{get_or-take, get_or-drop}
use lib.Ieee.{Float, nan}
use Rattle.types.specs.declared.C32.{C32}
use Rattle.definition.specs.Slices.{re_at, im_at, shifted}
use Rattle.definition.specs.Sample.{fed_in}
use Rattle.definition_laws.proofs.Every.{length_shifted}
use Rattle.lanes.specs.Holds.{Window, Past}

-- ---- `shifted`: a in front, then the numbers before the last, then what stands behind them
module _ (n : ℕ) (a : C32) (x : List Float) (long : 2 * n ≤ length x) where
  front_at : (k : ℕ) → k < 2 * n → get_or (shifted n a x) k nan ≡ get_or (a.re ∷ a.im ∷ x) k nan
  unfolding shifted
  front_at k h =
      get_or-append (take (2 * n) (a.re ∷ a.im ∷ x)) (drop (2 * n) x) nan k (simp length-take (omega arith))
      ∙ get_or-take (2 * n) (a.re ∷ a.im ∷ x) k nan h

  pub shifted_first : 0 < n → (re_at (shifted n a x) 0 ≡ a.re) × (im_at (shifted n a x) 0 ≡ a.im)
  shifted_first h = (front_at (2 * 0) (omega arith), front_at (2 * 0 + 1) (omega arith))

  pub shifted_more : (i j : ℕ) → i ≡ suc j → i < n → (re_at (shifted n a x) i ≡ re_at x j) × (im_at (shifted n a x) i ≡ im_at x j)
  shifted_more i j e h =
      let r : 2 * i ≡ suc (suc (2 * j)) = omega arith in
      let m : 2 * i + 1 ≡ suc (suc (2 * j + 1)) = omega arith in
      (front_at (2 * i) (omega arith) ∙ rw r, front_at (2 * i + 1) (omega arith) ∙ rw m)

  pub shifted_high : (k : ℕ) → 2 * n ≤ k → get_or (shifted n a x) k nan ≡ get_or x k nan
  unfolding shifted
  shifted_high k h =
      let j : 2 * n + (k - 2 * n) ≡ k = omega arith in
      get_or-append_right (take (2 * n) (a.re ∷ a.im ∷ x)) (drop (2 * n) x) (2 * n) k nan (simp length-take (omega arith)) h ∙ get_or-drop (2 * n) x (k - 2 * n) nan ∙ rw j

-- lanes of one part that get the number v in front: y has v first, then x
pub in_front : (l : List Float) (p count : ℕ) (v : Float) (x y : ℕ → Float) → get_or l p nan ≡ v → ((j : ℕ) → j < count → get_or l (p + 1 + j) nan ≡ x j)
    → (0 < count → y 0 ≡ v) → ((j : ℕ) → suc j < count → y (suc j) ≡ x j) → (j : ℕ) → j < count → get_or l (p + j) nan ≡ y j
in_front l p count v x y r old first more zero h = let e : p + 0 ≡ p = omega arith in rw e (r ∙ sym (first h))
in_front l p count v x y r old first more (suc j) h = let e : p + suc j ≡ p + 1 + j = omega arith in rw e (old j (omega arith) ∙ sym (more j h))

-- a sample, sanitized at `at`, makes the window of that place
pub window_in : (n m at : ℕ) (xr xi x : List Float) (a : C32) → Past n m (at + 1) xr xi x → get_or xr at nan ≡ a.re → get_or xi at nan ≡ a.im
    → Window n m at xr xi (shifted n a x)
window_in n m at xr xi x a s r i =
    let long : 2 * n ≤ length x = omega (arith, s.taps) in
    let first = shifted_first n a x long in
    let more = shifted_more n a x long in
    let p : at + 153 ≡ at + 1 + 152 = omega arith in
    record {
      forth = record {
        re_is = in_front xr at n a.re (λ j. re_at x (0 + j)) (λ j. re_at (shifted n a x) (0 + j)) r s.forth.re_is (λ h. (first h).0) (λ j h. (more (0 + suc j) (0 + j) (omega arith) (omega arith)).0);
        im_is = in_front xi at n a.im (λ j. im_at x (0 + j)) (λ j. im_at (shifted n a x) (0 + j)) i s.forth.im_is (λ h. (first h).1) (λ j h. (more (0 + suc j) (0 + j) (omega arith) (omega arith)).1);
      };
      back = record {
        re_is = λ j h. rw p (s.back.re_is j h ∙ sym (shifted_high n a x long (2 * (n + j)) (omega arith)));
        im_is = λ j h. rw p (s.back.im_is j h ∙ sym (shifted_high n a x long (2 * (n + j) + 1) (omega arith)));
      };
      calm = s.calm;
      taps = length_shifted n a x long ∙ s.taps;
    }

-- ---- the window after step 8
module _ (n m : ℕ) (v : C32) (h : List Float) (long : length h ≡ 2 * (n + m)) where
  pub after_head : (k : ℕ) → k < 2 * n → get_or (fed_in n m v h) k nan ≡ get_or h k nan
  unfolding fed_in
  after_head k l =
      get_or-append (take (2 * n) h) (shifted m v (drop (2 * n) h)) nan k (simp length-take (omega arith)) ∙ get_or-take (2 * n) h k nan l

  tail_at : (k j : ℕ) → k ≡ 2 * n + j → get_or (fed_in n m v h) k nan ≡ get_or (shifted m v (drop (2 * n) h)) j nan
  unfolding fed_in
  tail_at k j e =
      let i : k - 2 * n ≡ j = omega arith in
      get_or-append_right (take (2 * n) h) (shifted m v (drop (2 * n) h)) (2 * n) k nan (simp length-take (omega arith)) (omega arith) ∙ rw i

  drop_long : 2 * m ≤ length (drop (2 * n) h)
  drop_long = simp length-drop (omega arith)

  pub after_first : 0 < m → (re_at (fed_in n m v h) (n + 0) ≡ v.re) × (im_at (fed_in n m v h) (n + 0) ≡ v.im)
  after_first l =
      let f = shifted_first m v (drop (2 * n) h) drop_long l in
      (tail_at (2 * (n + 0)) (2 * 0) (omega arith) ∙ f.0, tail_at (2 * (n + 0) + 1) (2 * 0 + 1) (omega arith) ∙ f.1)

  pub after_more : (j : ℕ) → suc j < m → (re_at (fed_in n m v h) (n + suc j) ≡ re_at h (n + j)) × (im_at (fed_in n m v h) (n + suc j) ≡ im_at h (n + j))
  after_more j l =
      let f = shifted_more m v (drop (2 * n) h) drop_long (suc j) j refl l in
      let r : 2 * n + 2 * j ≡ 2 * (n + j) = omega arith in
      let i : 2 * n + (2 * j + 1) ≡ 2 * (n + j) + 1 = omega arith in (
        tail_at (2 * (n + suc j)) (2 * suc j) (omega arith) ∙ f.0 ∙ get_or-drop (2 * n) h (2 * j) nan ∙ rw r,
        tail_at (2 * (n + suc j) + 1) (2 * suc j + 1) (omega arith) ∙ f.1 ∙ get_or-drop (2 * n) h (2 * j + 1) nan ∙ rw i,
      )

  pub after_long : length (fed_in n m v h) ≡ 2 * (n + m)
  unfolding fed_in
  after_long = simp (length-append, length-take) (omega (arith, length_shifted m v (drop (2 * n) h) drop_long, length-drop (2 * n) h))
