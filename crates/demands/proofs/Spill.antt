-- No sum of bounded products leaves the float range. Assumes nothing.
use Prim.Native.Nat.{ℕ, zero, suc, ◌+◌, ◌-◌, ◌*◌, ◌/◌, ◌^◌, ◌<◌, ◌≤◌, zero-le}
use mathlib.Core.Path.{◌≡◌, refl, sym, ◌∙◌, ap, subst}
use mathlib.Core.Bool.{Bool, true, false, cond}
use mathlib.Core.List.{List}
use native.Mathlib.Nat.{le_trans, le_of_eq, lt_of_lt_of_le, lt_of_le_of_lt, mul-le-mul_right, add-mul, add-le-add, mul_assoc, mul_left_comm, mul_right_comm, one-mul, zero-mul}
use native.Mathlib.Omega.{arith}
use native.Mathlib.Numerals.{add-one}
use borrow.Author.Tests.{le-leb}
use lib.ListN.{length, get_or}
use lib.Dec.{T, leb→le, lit≤}
use lib.Pow.{pow-add, pow_mono, shl_lt}
use lib.Ieee.{Float, nan, inf, fin, binary32, up, down, of_bits, of_fields, odd}
use lib.Ieee.Fits.{and_i}
use lib.Ieee.Scale.{finite}
use lib.Ieee.Bits.{is_true}
use Rattle.std.specs.Bool.{passes}
use Rattle.laws.specs.Bound.{AtMost, Within, Held, add_at_most, at_most_finite, within_mul, within_add, within_sub}
use Rattle.types.specs.declared.C32.{C32}
use Rattle.types.specs.Bits.{zero32}
use Rattle.definition.specs.Floats.{◌+f◌, ◌*f◌, zero_c, finite_c}
use Rattle.definition.specs.Slices.{re_at, im_at, every, prod_re, prod_im, lane, lane_count, tree, sum8, filter_sum}
use Rattle.definition.specs.Sample.{all_taps, forward, sanitized, step1, step2}
use Rattle.definition_laws.proofs.Every.{every-at, every-shifted}
use Rattle.definition_laws.proofs.Accept.{accepted_is, shape}
use Rattle.definition_laws.proofs.Kept.{step1_length}
use Rattle.demands.specs.NoSpill.{up_to, NoSpill}

-- ---- the eight partials have n products in all, counted as the tree adds them: each pair has every fourth, each four every second
counts : (n : ℕ) → lane_count n 0 + lane_count n 4 + (lane_count n 2 + lane_count n 6) + (lane_count n 1 + lane_count n 5 + (lane_count n 3 + lane_count n 7)) ≤ n
counts n = le_trans (add-le-add (le_trans (add-le-add (pair 0 (lit≤ tt)) (pair 2 (lit≤ tt))) (four 0 (lit≤ tt))) (le_trans (add-le-add (pair 1 (lit≤ tt)) (pair 3 (lit≤ tt))) (four 1 (lit≤ tt)))) all
  where
    pair : (k : ℕ) → k < 4 → lane_count n k + lane_count n (k + 4) ≤ (n + 3 - k) / 4
    pair k h = omega arith

    four : (k : ℕ) → k < 2 → (n + 3 - k) / 4 + (n + 3 - (k + 2)) / 4 ≤ (n + 1 - k) / 2
    four k h = omega arith

    all : (n + 1 - 0) / 2 + (n + 1 - 1) / 2 ≤ n
    all = omega arith

-- ---- the sum of n products of at most 2 ^ m smallest values each is at most n * 2 ^ m of them, and finite where that is below 2 ^ 277
module _ (p : ℕ → Float) (n m : ℕ) (few : n ≤ 126) (fits : n * 2 ^ m < 2 ^ 277) (each : (i : ℕ) → i < n → AtMost binary32 (2 ^ m) (p i)) where
  held : (c : ℕ) → c ≤ n → Held binary32 (c * 2 ^ m)
  held c h = record { q = c; j = m; is = refl; short = le_trans h (le_trans few (lit≤ tt)); small = lt_of_le_of_lt (mul-le-mul_right (2 ^ m) h) fits }

  together : (c d : ℕ) (x y : Float) → c + d ≤ n → AtMost binary32 (c * 2 ^ m) x → AtMost binary32 (d * 2 ^ m) y → AtMost binary32 ((c + d) * 2 ^ m) (x +f y)
  together c d x y h v w = add_at_most binary32 (c * 2 ^ m) (d * 2 ^ m) ((c + d) * 2 ^ m) x y (held (c + d) h) (le_of_eq (sym (add-mul c d (2 ^ m)))) v w

  within-n : (b k : ℕ) → suc b ≤ lane_count n k → 8 * b + k < n
  within-n b k h = omega arith

  lane-at-most : (b k : ℕ) → b ≤ lane_count n k → AtMost binary32 (b * 2 ^ m) (lane p k b)
  unfolding lane
  lane-at-most zero k h = unfold AtMost of_bits of_fields odd in (le_trans (le_of_eq (zero-mul (2 ^ 149))) zero-le)
  lane-at-most (suc b) k h =
      let w = within-n b k h in
      subst (λ (c : ℕ). AtMost binary32 (c * 2 ^ m) (lane p k b +f p (8 * b + k))) (add-one b)
      (together b 1 (lane p k b) (p (8 * b + k)) (omega arith) (lane-at-most b k (omega arith)) (rw (one-mul (2 ^ m)) (each (8 * b + k) w)))

  -- c k products in partial k, and no more than n in all
  tree-finite : (c : ℕ → ℕ) (a : ℕ → Float) → c 0 + c 4 + (c 2 + c 6) + (c 1 + c 5 + (c 3 + c 7)) ≤ n → ((k : ℕ) → AtMost binary32 (c k * 2 ^ m) (a k)) → T (finite (tree a))
  tree-finite c a h v =
      at_most_finite binary32 ((c 0 + c 4 + (c 2 + c 6) + (c 1 + c 5 + (c 3 + c 7))) * 2 ^ m) (tree a)
      (together (c 0 + c 4 + (c 2 + c 6)) (c 1 + c 5 + (c 3 + c 7)) ((a 0 +f a 4) +f (a 2 +f a 6)) ((a 1 +f a 5) +f (a 3 +f a 7)) h (four 0 4 2 6 (omega arith)) (four 1 5 3 7 (omega arith)))
    where
      four : (i j k l : ℕ) → c i + c j + (c k + c l) ≤ n → AtMost binary32 ((c i + c j + (c k + c l)) * 2 ^ m) ((a i +f a j) +f (a k +f a l))
      four i j k l h =
          together (c i + c j) (c k + c l) (a i +f a j) (a k +f a l) h (together (c i) (c j) (a i) (a j) (omega arith) (v i) (v j)) (together (c k) (c l) (a k) (a l) (omega arith) (v k) (v l))

  sum-finite : T (finite (sum8 p n))
  unfolding sum8
  sum-finite = tree-finite (lane_count n) (λ k. lane p k (lane_count n k)) (counts n) (λ k. lane-at-most (lane_count n k) k (omega arith))

-- ---- what the bounds say, in smallest values

up_to_within : (a : ℕ) (x : Float) → T (up_to a x) → Within binary32 a x
unfolding up_to AtMost
up_to_within a nan h = h
up_to_within a (inf s) h = h
up_to_within a (fin s m e) h = scale (m * up e) (down e) (leb→le (m * up e) (2 ^ a * down e) h)
  where
    scale : (X d : ℕ) → X ≤ 2 ^ a * d → X * 2 ^ 149 ≤ 2 ^ (a + 149) * d
    scale X d h = le_trans (mul-le-mul_right (2 ^ 149) h) (le_of_eq (mul_right_comm (2 ^ a) d (2 ^ 149) ∙ ap (λ (n : ℕ). n * d) (sym (pow-add 2 a 149))))

zero_up_to : (a : ℕ) → T (up_to a zero32)
unfolding up_to of_bits of_fields odd
zero_up_to a = subst T (sym (le-leb 0 (2 ^ a * 1) zero-le)) tt

part_at : (a : ℕ) (x : List Float) → T (every (up_to a) x) → (i : ℕ) → i < length x → Within binary32 a (get_or x i nan)
part_at a x t i h = up_to_within a (get_or x i nan) (every-at (up_to a) x i nan t h)

-- ---- n terms, each of two products of at most 2^c: at most 2n · 2^c, which is below 2^128 where 2n is below 2^k and c + k at most 128

room : (n c k : ℕ) → 2 * n < 2 ^ k → c + k ≤ 128 → n * 2 ^ (c + 1 + 149) < 2 ^ 277
room n c k t h = lt_of_le_of_lt (le_of_eq double) (lt_of_lt_of_le (shl_lt k (c + 149) t) (pow_mono {i = k + (c + 149)} {j = 277} (omega arith)))
  where
    one_less : c + 1 + 149 ≡ 1 + (c + 149)
    one_less = omega arith

    double : n * 2 ^ (c + 1 + 149) ≡ 2 * n * 2 ^ (c + 149)
    double = ap (λ (e : ℕ). n * 2 ^ e) one_less ∙ ap (λ (u : ℕ). n * u) (pow-add 2 1 (c + 149)) ∙ mul_left_comm n 2 (2 ^ (c + 149)) ∙ sym (mul_assoc 2 n (2 ^ (c + 149)))

two_or_more : (n k : ℕ) → 1 ≤ n → 2 * n < 2 ^ k → 2 ≤ k
two_or_more n zero s h = omega arith
two_or_more n (suc zero) s h = omega arith
two_or_more n (suc (suc k)) s h = omega arith

module _ (h w : List Float) (n a b : ℕ) (few : n ≤ 126) (low_enough : b + a + 1 ≤ 127) (fits : n * 2 ^ (b + a + 1 + 149) < 2 ^ 277) (lh : 2 * n ≤ length h) (lw : 2 * n ≤ length w) (hb : (i : ℕ) → i < length h → Within binary32 b (get_or h i nan)) (wa : (i : ℕ) → i < length w → Within binary32 a (get_or w i nan)) where
  hRe : (i : ℕ) → i < n → Within binary32 b (re_at h i)
  hRe i l = hb (2 * i) (omega arith)

  hIm : (i : ℕ) → i < n → Within binary32 b (im_at h i)
  hIm i l = hb (2 * i + 1) (omega arith)

  wRe : (i : ℕ) → i < n → Within binary32 a (re_at w i)
  wRe i l = wa (2 * i) (omega arith)

  wIm : (i : ℕ) → i < n → Within binary32 a (im_at w i)
  wIm i l = wa (2 * i + 1) (omega arith)

  times : (x y : Float) → Within binary32 b x → Within binary32 a y → Within binary32 (b + a) (x *f y)
  times x y v u = within_mul binary32 b a x y (omega arith) v u

  re-finite : T (finite (sum8 (prod_re h w) n))
  re-finite =
      sum-finite (prod_re h w) n (b + a + 1 + 149) few fits
      (λ i l. within_sub binary32 (b + a) (re_at h i *f re_at w i) (im_at h i *f im_at w i) low_enough (times (re_at h i) (re_at w i) (hRe i l) (wRe i l)) (times (im_at h i) (im_at w i) (hIm i l) (wIm i l)))

  im-finite : T (finite (sum8 (prod_im h w) n))
  im-finite =
      sum-finite (prod_im h w) n (b + a + 1 + 149) few fits
      (λ i l. within_add binary32 (b + a) (re_at h i *f im_at w i) (im_at h i *f re_at w i) low_enough (times (re_at h i) (im_at w i) (hRe i l) (wIm i l)) (times (im_at h i) (re_at w i) (hIm i l) (wRe i l)))

-- ---- step 2 of step 1

sanitized_up_to : (b : ℕ) (x : C32) → T (up_to b x.re) → T (up_to b x.im) → T (up_to b (sanitized x).re) × T (up_to b (sanitized x).im)
unfolding sanitized
sanitized_up_to b x r i = go (finite_c x)
  where
    go : (c : Bool) → T (up_to b (cond c x zero_c).re) × T (up_to b (cond c x zero_c).im)
    go true = (r, i)
    go false = (zero_up_to b, zero_up_to b)

pub no_spill : NoSpill
unfolding step2 filter_sum finite_c
no_spill q x a b k acc taps bound w h r i =
    let z = shape q (accepted_is q acc) in
    let o = sanitized_up_to b x (passes _ r) (passes _ i) in
    let g = step1 (forward q) x q.window in
    let n = all_taps q in
    let e : T (every (up_to b) g) = unfold step1 in (every-shifted (up_to b) (forward q) (sanitized x) q.window o.0 o.1 (passes _ h)) in
    let lg : 2 * n ≤ length g = le_of_eq (sym (step1_length q z x ∙ z.window)) in
    let lw : 2 * n ≤ length q.weights = le_of_eq (sym z.weights) in
    let some : 1 ≤ n = omega (arith, z.sum, z.some) in
    let few : n ≤ 126 = omega (arith, z.sum, z.most, z.back) in
    let t : 2 * n < 2 ^ k = omega arith in
    let fits : n * 2 ^ (b + a + 1 + 149) < 2 ^ 277 = room n (b + a) k t (omega arith) in
    let low_enough : b + a + 1 ≤ 127 = omega (arith, two_or_more n k some t) in
    is_true _
    (and_i (finite (sum8 (prod_re g q.weights) n)) (finite (sum8 (prod_im g q.weights) n))
    (re-finite g q.weights n a b few low_enough fits lg lw (part_at b g e) (part_at a q.weights (passes _ w)))
    (im-finite g q.weights n a b few low_enough fits lg lw (part_at b g e) (part_at a q.weights (passes _ w))))
