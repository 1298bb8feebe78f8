-- Numbers: the operations of IEEE 754, document 01's constants by their exact bits, flush, clip, narrowing.
-- A float is `nan`, `inf sign` or `fin sign m e`, the number ±m·2^e in lowest terms. There is one NaN, so two floats are equal (`≡`) exactly when
-- they have the same bits, any two NaNs counting as equal. So a promise that gives a float back gives it back by its bits, but for the sign and
-- payload of a NaN, which no promise speaks of: an `mse` that came as a NaN, and what a refused call leaves of NaNs in a record or a slice.
use Rattle.std.specs.Prelude.{◌*◌, Bool, false, cond, ◌&&◌, Float}
use Rattle.std.specs.Float.{nan, inf, fin, binary32, binary64}
use Rattle.std.specs.Float.Ieee.{add, sub, mul, div, neg, lt, up, down, round}
use Rattle.std.specs.Float.Ieee.Scale.{finite}
use Rattle.types.specs.declared.C32.{C32}
use Rattle.types.specs.Bits.{f32, f64, zero32}

infixl 65 ◌+f◌
infixl 65 ◌-f◌
infixl 70 ◌*f◌
infixl 70 ◌/f◌
infixl 65 ◌+d◌
infixl 70 ◌*d◌
infixl 70 ◌/d◌
-- f32: each operation is rounded once, to the nearest, ties to even
abbrev pub ◌+f◌ : Float → Float → Float
a +f b = add binary32 a b

abbrev pub ◌-f◌ : Float → Float → Float
a -f b = sub binary32 a b

abbrev pub ◌*f◌ : Float → Float → Float
a *f b = mul binary32 a b

abbrev pub ◌/f◌ : Float → Float → Float
a /f b = div binary32 a b

-- f64
abbrev pub ◌+d◌ : Float → Float → Float
a +d b = add binary64 a b

abbrev pub ◌*d◌ : Float → Float → Float
a *d b = mul binary64 a b

abbrev pub ◌/d◌ : Float → Float → Float
a /d b = div binary64 a b

-- ---- constants: the nearest f32 (or f64), by bits (types: f32, f64, zero32, one32); Constants.antt holds each to its decimal

-- 1e-30, below which flush gives +0
abbrev pub tiny : Float
tiny = f32 0x0da2_4260

-- 1e-6, added to the window power in step 6
abbrev pub nlms_eps : Float
nlms_eps = f32 0x3586_37bd

-- 0.01, the weight of a new error in the mean error of step 4
abbrev pub mse_alpha : Float
mse_alpha = f32 0x3c23_d70a

-- 0.125, the largest freq
abbrev pub max_freq : Float
max_freq = f32 0x3e00_0000

-- 0.00001, the smallest step size; the largest is 1
abbrev pub mu_min : Float
mu_min = f32 0x3727_c5ac

-- the bandwidth's limits, the nearest f64 to 0.0001 and 0.2
abbrev pub bw_min : Float
bw_min = f64 0x3f1a_36e2_eb1c_432d

abbrev pub bw_max : Float
bw_max = f64 0x3fc9_9999_9999_999a

-- ---- small operations

-- the magnitude
abbrev pub abs : Float → Float
abs nan = nan
abs (inf s) = inf false
abs (fin s m e) = fin false m e

-- Flush turns magnitudes below 1e-30 into +0. It leaves a NaN a NaN.
unfoldable pub flush : Float → Float
flush x = cond (lt (abs x) tiny) zero32 x

-- Clip holds v to −l .. l. It leaves a NaN a NaN.
unfoldable pub clip : Float → Float → Float
clip v l = cond (lt l v) l (cond (lt v (neg l)) (neg l) v)

-- An f64 becomes the nearest f32, ties to even. fin s m e has the size m · up e / down e, and `round` rounds a fraction to the nearest.
unfoldable pub narrow : Float → Float
narrow nan = nan
narrow (inf s) = inf s
narrow (fin s m e) = round binary32 s (m * up e) (down e)

-- ---- complex numbers

abbrev pub complex : Float → Float → C32
complex a b = record { re = a; im = b }

-- (0, 0)
abbrev pub zero_c : C32
zero_c = complex zero32 zero32

-- A complex number is finite if both of its parts are.
unfoldable pub finite_c : C32 → Bool
finite_c v = finite v.re && finite v.im

-- |v|²
abbrev pub norm : C32 → Float
norm v = v.re *f v.re +f v.im *f v.im

-- z − d
unfoldable pub minus_c : C32 → C32 → C32
minus_c z d = complex (z.re -f d.re) (z.im -f d.im)

-- m·e by parts
unfoldable pub scaled_c : Float → C32 → C32
scaled_c m e = complex (m *f e.re) (m *f e.im)

-- both parts held to −l .. l
unfoldable pub clip_c : C32 → Float → C32
clip_c v l = complex (clip v.re l) (clip v.im l)

-- a·b: (a + bi)·(c + di) has the real part a·c − b·d and the imaginary part a·d + b·c; two products, one sum.
-- The turns, the filter sum and the weights' step write their products out, as their sentences do, so that each is read alone.
unfoldable pub times_c : C32 → C32 → C32
times_c a b = complex (a.re *f b.re -f a.im *f b.im) (a.re *f b.im +f a.im *f b.re)
