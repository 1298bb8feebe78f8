-- Two runs of padded products in eight partials are the sum over both, by index functions alone.
-- P: the forward products, n of them, then zeros to N. Q: n % 8 zeros, m products, then zeros to M. Assumes nothing.
use Prim.Native.Nat.{ℕ, zero, suc, ◌+◌, ◌-◌, ◌*◌, ◌/◌, ◌%◌, ◌<◌, ◌≤◌}
use mathlib.Core.Path.{◌≡◌, refl, sym, ◌∙◌, ap}
use mathlib.Core.Bool.{cond}
use Rattle.std.proofs.lemmas.Bool.{cond_both}
use native.Mathlib.Omega.{arith}
use native.Mathlib.Decide.{dec_lt}
use native.Mathlib.Nat.{add-zero, add-suc}
use borrow.Author.Tests.{le-ltb, lt-ltb}
use lib.Dec.{T, ltb}
use lib.Ieee.{Float, binary32, fits}
use Rattle.laws.specs.Zero.{add_any_zero}
use Rattle.types.specs.Bits.{zero32}
use Rattle.definition.specs.Floats.{◌+f◌}
use Rattle.definition.specs.Slices.{lane, lane_count, sum8}
use Rattle.definition_laws.proofs.Padding.{Zero, lane-fits, lane-not-neg, lane-same}
use Rattle.lanes_filter.specs.Split.{lane_from, sum_two}
use Rattle.lanes_filter.proofs.Blocks.{tree_cong}

pub record Halves (P Q p : ℕ → Float) (n N m M : ℕ) : Type 0 where
  pub forth : (i : ℕ) → i < n → P i ≡ p i
  pub padded : (i : ℕ) → n ≤ i → i < N → Zero (P i)
  pub early : (i : ℕ) → i < n % 8 → i < M → Zero (Q i)
  pub back : (j : ℕ) → j < m → Q (n % 8 + j) ≡ p (n + j)
  pub late : (i : ℕ) → n % 8 + m ≤ i → i < M → Zero (Q i)
  pub fit_forth : (i : ℕ) → T (fits binary32 (P i))
  pub fit_back : (i : ℕ) → T (fits binary32 (Q i))
  pub wide : n ≤ N
  pub blocks : N % 8 ≡ 0
  pub back_blocks : M % 8 ≡ 0
  pub none : M ≡ 0 → m ≡ 0
  pub back_wide : 0 < M → n % 8 + m ≤ M

lane_from_lem : (p : ℕ → Float) (k b : ℕ) → lane_from zero32 p k b ≡ lane p k b
unfolding lane lane_from
lane_from_lem p k zero = refl
lane_from_lem p k (suc b) = ap (λ (x : Float). x +f p (8 * b + k)) (lane_from_lem p k b)

lane_cong : (p q : ℕ → Float) (k b : ℕ) → ((i : ℕ) → i < b → p (8 * i + k) ≡ q (8 * i + k)) → lane p k b ≡ lane q k b
unfolding lane
lane_cong p q k zero h = refl
lane_cong p q k (suc b) h = rw (lane_cong p q k b (λ i l. h i (omega arith)), h b (omega arith))

pub sum_cong : (p q : ℕ → Float) (n : ℕ) → ((i : ℕ) → i < n → p i ≡ q i) → sum8 p n ≡ sum8 q n
unfolding sum8
sum_cong p q n h =
    tree_cong (λ k. lane p k (lane_count n k)) (λ k. lane q k (lane_count n k)) (λ k l. lane_cong p q k (lane_count n k) (λ i b. h (8 * i + k) (omega arith)))

-- the forward lanes
forth_lane : (P p : ℕ → Float) (n N k : ℕ) → ((i : ℕ) → T (fits binary32 (P i))) → k < 8 → n ≤ N → N % 8 ≡ 0
    → ((i : ℕ) → n ≤ i → i < N → Zero (P i)) → ((i : ℕ) → i < n → P i ≡ p i)
    → lane_from zero32 P k (N / 8) ≡ lane p k (lane_count n k)
forth_lane P p n N k fit l w z pad eq =
    let e : N / 8 ≡ lane_count N k = omega arith in
    lane_from_lem P k (N / 8) ∙ ap (lane P k) e ∙ lane-same P fit n N k l w pad ∙ lane_cong P p k (lane_count n k) (λ i b. eq (8 * i + k) (omega arith))

-- more products from block c on
on_lane : (p Q : ℕ → Float) (k c b : ℕ) → ((i : ℕ) → i < b → Q (8 * i + k) ≡ p (8 * (c + i) + k)) → lane_from (lane p k c) Q k b ≡ lane p k (c + b)
unfolding lane lane_from
on_lane p Q k c zero h = ap (lane p k) (sym (add-zero c))
on_lane p Q k c (suc b) h =
    rw (on_lane p Q k c b (λ i l. h i (omega arith)), h b (omega arith)) (ap (lane p k) (sym (add-suc c b)))

-- the same, where block 0 of Q is a zero and block c of p is in already
skip_lane : (p Q : ℕ → Float) (k c b : ℕ) → ((i : ℕ) → T (fits binary32 (p i))) → Zero (Q k)
    → ((i : ℕ) → i < b → Q (8 * suc i + k) ≡ p (8 * (c + suc i) + k)) → lane_from (lane p k (suc c)) Q k (suc b) ≡ lane p k (c + suc b)
unfolding lane lane_from
skip_lane p Q k c zero fit z h =
    let e : 8 * 0 + k ≡ k = omega arith in
    ap (λ (x : Float). lane p k (suc c) +f x) (ap Q e ∙ z.is)
    ∙ add_any_zero binary32 (lane p k (suc c)) z.sign (lane-fits p fit k (suc c)) (lane-not-neg p fit k (suc c))
    ∙ ap (lane p k) (let f : suc c ≡ c + suc 0 = omega arith in f)
skip_lane p Q k c (suc b) fit z h =
    rw (skip_lane p Q k c b fit z (λ i l. h i (omega arith)), h b (omega arith)) (ap (lane p k) (sym (add-suc c (suc b))))

-- both in one sequence: zeros from n + m on
joined : (P Q : ℕ → Float) (n : ℕ) → ℕ → Float
joined P Q n i = cond (ltb i n) (P i) (Q (i - 8 * (n / 8)))

joined_forth : (P Q : ℕ → Float) (n i : ℕ) → i < n → joined P Q n i ≡ P i
unfolding joined
joined_forth P Q n i h = rw (lt-ltb i n h)

joined_back : (P Q : ℕ → Float) (n i : ℕ) → n ≤ i → joined P Q n i ≡ Q (i - 8 * (n / 8))
unfolding joined
joined_back P Q n i h = rw (le-ltb i n h)

module _ (P Q p : ℕ → Float) (n N m M : ℕ) (h : Halves P Q p n N m M) where
  joined-fits : (i : ℕ) → T (fits binary32 (joined P Q n i))
  unfolding joined
  joined-fits i = cond_both (ltb i n) (P i) (Q (i - 8 * (n / 8))) (λ x. T (fits binary32 x)) (λ e. h.fit_forth i) (λ e. h.fit_back (i - 8 * (n / 8)))

  joined-zero : (i : ℕ) → 0 < M → n + m ≤ i → i < 8 * (n / 8) + M → Zero (joined P Q n i)
  joined-zero i g a b = rw (joined_back P Q n i (omega arith)) (h.late (i - 8 * (n / 8)) (omega arith) (omega arith))

  -- the pads behind the last product
  tail-lane : (k : ℕ) → k < 8 → 0 < M → lane (joined P Q n) k (n / 8 + M / 8) ≡ lane (joined P Q n) k (lane_count (n + m) k)
  tail-lane k l g =
      let z = h.back_blocks in
      let w = h.back_wide g in
      let e : n / 8 + M / 8 ≡ lane_count (8 * (n / 8) + M) k = omega arith in
      ap (lane (joined P Q n) k) e ∙ lane-same (joined P Q n) joined-fits (n + m) (8 * (n / 8) + M) k l (omega arith) (λ i a b. joined-zero i g a b)

  back_some : (k : ℕ) → k < 8 → 0 < M → Dec (k < n % 8)
      → lane_from (lane (joined P Q n) k (lane_count n k)) Q k (M / 8) ≡ lane (joined P Q n) k (lane_count (n + m) k)
  back_some k l g (yes q) =
      let z = h.back_blocks in
      let c : lane_count n k ≡ suc (n / 8) = omega arith in
      let d : M / 8 ≡ suc (M / 8 - 1) = omega arith in
      let e : n / 8 + suc (M / 8 - 1) ≡ n / 8 + M / 8 = omega arith in
      ap (λ (x : ℕ). lane_from (lane (joined P Q n) k x) Q k (M / 8)) c
      ∙ ap (lane_from (lane (joined P Q n) k (suc (n / 8))) Q k) d
      ∙ skip_lane (joined P Q n) Q k (n / 8) (M / 8 - 1) joined-fits (h.early k q (omega arith))
      (λ i b.
      let f : 8 * (n / 8 + suc i) + k - 8 * (n / 8) ≡ 8 * suc i + k = omega arith in
      ap Q (sym f) ∙ sym (joined_back P Q n (8 * (n / 8 + suc i) + k) (omega arith)))
      ∙ ap (lane (joined P Q n) k) e ∙ tail-lane k l g
  back_some k l g (no q) =
      let z = h.back_blocks in
      let c : lane_count n k ≡ n / 8 = omega arith in
      ap (λ (x : ℕ). lane_from (lane (joined P Q n) k x) Q k (M / 8)) c
      ∙ on_lane (joined P Q n) Q k (n / 8) (M / 8)
      (λ i b.
      let f : 8 * (n / 8 + i) + k - 8 * (n / 8) ≡ 8 * i + k = omega arith in
      ap Q (sym f) ∙ sym (joined_back P Q n (8 * (n / 8 + i) + k) (omega arith)))
      ∙ tail-lane k l g

  back-lane : (k : ℕ) → k < 8 → Dec (0 < M)
      → lane_from (lane (joined P Q n) k (lane_count n k)) Q k (M / 8) ≡ lane (joined P Q n) k (lane_count (n + m) k)
  unfolding lane_from
  back-lane k l (yes g) = back_some k l g (dec_lt k (n % 8))
  back-lane k l (no g) =
      let d : M / 8 ≡ 0 = omega arith in
      let y : M ≡ 0 = omega arith in
      let x : m ≡ 0 = h.none y in
      let e : lane_count n k ≡ lane_count (n + m) k = omega arith in
      ap (lane_from (lane (joined P Q n) k (lane_count n k)) Q k) d ∙ ap (lane (joined P Q n) k) e

  joined_is : (i : ℕ) → i < n + m → Dec (i < n) → joined P Q n i ≡ p i
  joined_is i l (yes q) = joined_forth P Q n i q ∙ h.forth i q
  joined_is i l (no q) =
      let e : i - 8 * (n / 8) ≡ n % 8 + (i - n) = omega arith in
      let f : n + (i - n) ≡ i = omega arith in
      joined_back P Q n i (omega arith) ∙ ap Q e ∙ h.back (i - n) (omega arith) ∙ ap p f

  pub halves-sum : sum_two P N Q M ≡ sum8 p (n + m)
  unfolding sum_two sum8
  halves-sum =
      tree_cong (λ k. lane_from (lane_from zero32 P k (N / 8)) Q k (M / 8)) (λ k. lane (joined P Q n) k (lane_count (n + m) k))
      (λ k l.
      ap (λ (x : Float). lane_from x Q k (M / 8))
      (forth_lane P (joined P Q n) n N k h.fit_forth l h.wide h.blocks h.padded (λ i b. sym (joined_forth P Q n i b)))
      ∙ back-lane k l (dec_lt 0 M))
      ∙ sum_cong (joined P Q n) p (n + m) (λ i l. joined_is i l (dec_lt i n))
