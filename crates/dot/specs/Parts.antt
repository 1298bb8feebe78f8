-- The two parts of a complex product (a + bi) (c + di), and a part of the product at one place of two slices.
use Rattle.std.specs.Prelude.{ℕ, List, Float}
use Rattle.definition.specs.Floats.{◌+f◌, ◌-f◌, ◌*f◌}
use Rattle.definition.specs.Slices.{re_at, im_at}

abbrev pub product_re : Float → Float → Float → Float → Float
product_re a b c d = a *f c -f b *f d

abbrev pub product_im : Float → Float → Float → Float → Float
product_im a b c d = a *f d +f b *f c

-- the part p of window value i times weight i
abbrev pub product_at : (Float → Float → Float → Float → Float) → List Float → List Float → ℕ → Float
product_at p h w i = p (re_at h i) (im_at h i) (re_at w i) (im_at w i)
