-- `numeric::narrow` meets its contract: a NaN by `of_nan`, else one of the four cases of `narrows`. Assumes nothing.
-- By answers: the check alone proves none of the four goals.
use mathlib.Core.Path.{◌≡◌, sym, ap, subst, ◌∙◌}
use mathlib.Core.Bool.{not, cond}
use Prim.Native.Nat.{ℕ, ◌+◌, ◌-◌, ◌*◌, ◌/◌, ◌%◌, ◌^◌, ◌≤◌, ◌<◌}
use native.Mathlib.Nat.{zero-add, le_trans, le_of_eq}
use native.Mathlib.Omega.{arith}
use lib.Dec.{T, leb, lit≤}
use lib.Ieee.{Float, binary32, binary64, fits, is_nan, of_bits, to_bits}
use lib.Ieee.Nearest.{closest}
use lib.Bits.{bit_and, bit_or}
use Rattle.laws.specs.Units.{inf_is}
use Rattle.definition.specs.Floats.{narrow}
use Rattle.numeric.proofs.Narrowing.{narrows, normal_le, low_le, sig_lt}
use Rattle.numeric.proofs.Digits.{of_nan, no_nan_in, shift_is, sum-le, sum_fits}
use Rattle.numeric.proofs.narrow.Goals as goal
use Rattle.numeric.proofs.narrow.Goals.{Joined-e-lt872, in-0-to-871, in-872-to-896, in-897-to-1150, in_default}

abbrev sign : Float → ℕ
sign x = cond (leb (2 ^ 63) (to_bits binary64 x)) (2 ^ 31) 0

abbrev field : Float → ℕ
field x = bit_and (to_bits binary64 x / 2 ^ 52) (2 ^ 11 - 1)

abbrev digits : Float → ℕ
digits x = bit_or (bit_and (to_bits binary64 x) (2 ^ 52 - 1)) (2 ^ 52)

far : (e : ℕ) → 872 ≤ e → e < 897 → 30 ≤ 926 - e
far e a b = omega arith

-- the magnitude p, with the sign of x, is x narrowed
abbrev Good : Float → ℕ → Type 0
Good x p = (p ≤ 0x7f80_0000) × (of_bits binary32 (sign x + p) ≡ narrow x)

module _ (x : Float) (F : T (fits binary64 x)) (N : T (not (is_nan x))) where
  nought : field x < 872 → (p : ℕ) → p ≡ 0 → Good x p
  nought h p e = rw e (lit≤ tt, sym ((narrows x F N).0 h))

  subnormal : 872 ≤ field x → field x < 897 → (q p : ℕ) → q ≡ closest (digits x) (2 ^ (926 - field x)) → p ≡ q → Good x p
  subnormal a b q p d e =
      let i : p ≡ closest (digits x) (2 ^ (926 - field x)) = e ∙ d in
      rw i (le_trans (low_le _ _ (sig_lt (to_bits binary64 x)) (far _ a b)) (lit≤ tt), ap (λ (k : ℕ). of_bits binary32 (sign x + k)) (sym (zero-add _)) ∙ sym ((narrows x F N).1 a b))

  short : (q : ℕ) → q ≡ closest (digits x) (2 ^ 29) → q ≤ 2 ^ 24
  short q d = le_trans (le_of_eq d) (normal_le _ (sig_lt (to_bits binary64 x)))

  normal : 897 ≤ field x → field x < 1151 → (q p : ℕ) → q ≡ closest (digits x) (2 ^ 29) → p ≡ (field x - 897) * 2 ^ 23 % 2 ^ 64 + q → Good x p
  normal a b q p d e =
      rw e (
        sum-le _ _ b (short q d),
        ap (λ (k : ℕ). of_bits binary32 (sign x + (k + q))) (shift_is _ q b (short q d))
            ∙ ap (λ (k : ℕ). of_bits binary32 (sign x + ((field x - 897) * 2 ^ 23 + k))) d
            ∙ sym ((narrows x F N).2 a b),
      )

  infinite : 1151 ≤ field x → (p : ℕ) → p ≡ 0x7f80_0000 → Good x p
  infinite h p e = rw e (lit≤ tt, sym (inf_is binary32 (leb (2 ^ 63) (to_bits binary64 x))) ∙ sym ((narrows x F N).3 h))

  fits_in : field x < 1151 → (q : ℕ) → q ≡ closest (digits x) (2 ^ 29) → (field x - 897) * 2 ^ 23 % 2 ^ 64 + q < 2 ^ 64
  fits_in b q d = sum_fits _ _ b (short q d)

pub returns-then-is_nan : goal.returns-then-is_nan
returns-then-is_nan c = of_nan c.args.x _ c.is_nan.ensures.value c.if-is_nan.true

pub overflow_add-p : goal.overflow_add-p
overflow_add-p c =
    let F : T (fits binary64 c.args.x) = subst T (sym c.well_formed.0.1) tt in
    let N : T (not (is_nan c.args.x)) = no_nan_in _ _ c.is_nan.ensures.value c.if-is_nan.false in
    record { fits = fits_in c.args.x F N (omega arith) _ c.nearest.ensures }

-- each way to the magnitude gives a good one
good : (c : Joined-e-lt872) → Good c.args.x c.if-e-lt872.p
good c =
    let F : T (fits binary64 c.args.x) = subst T (sym c.well_formed.0.1) tt in
    let N : T (not (is_nan c.args.x)) = no_nan_in _ _ c.is_nan.ensures.value c.if-is_nan.false in
    elim c.if-e-lt872.branch [
      | in-0-to-871 w ↦ nought c.args.x F N (omega arith) _ w.p-is
      | in-872-to-896 w ↦ subnormal c.args.x F N (omega arith) (omega arith) _ _ w.nearest-p.ensures w.p-is
      | in-897-to-1150 w ↦ normal c.args.x F N (omega arith) (omega arith) _ _ w.nearest.ensures w.p-is
      | in_default w ↦ infinite c.args.x F N (omega arith) _ w.p-is
    ]

pub with_sign-requires : goal.with_sign-requires
with_sign-requires c = (good (goal.at.with_sign-requires c).Joined-e-lt872).0

pub returns : goal.returns
returns c = c.with_sign.ensures ∙ (good (goal.at.returns c).Joined-e-lt872).1
