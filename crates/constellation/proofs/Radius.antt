-- Godard's R2 of each constellation, computed. Assumes nothing.
use mathlib.Core.Path.{◌≡◌}
use mathlib.Core.Logic.{◌⊎◌, inl, inr}
use lib.Count.{count_trailing_zeros}
use lib.Ieee.{of_bits, of_fields, odd, round, units, size, span, climb}
use Rattle.types.specs.declared.EqConstellation.{EqConstellation}
use Rattle.types.specs.declared.EqConstellation.TheVariants.{Bpsk, Qpsk, Psk8, Qam16, Qam64}
use Rattle.types.specs.Bits.{f32, one32}
use Rattle.definition.specs.Floats.{narrow}
use Rattle.definition.specs.Points.{radius}

module _ (k : EqConstellation) where
  pub one_is : ((k ≡ Bpsk) ⊎ ((k ≡ Qpsk) ⊎ (k ≡ Psk8))) → one32 ≡ radius k
  unfolding radius narrow round units size span climb of_bits of_fields odd count_trailing_zeros
  one_is (inl h) = rw h
  one_is (inr (inl h)) = rw h
  one_is (inr (inr h)) = rw h

  pub qam16_is : k ≡ Qam16 → f32 0x3fa8_f5c3 ≡ radius k
  unfolding radius narrow round units size span climb of_bits of_fields odd count_trailing_zeros
  qam16_is h = rw h

  pub qam64_is : k ≡ Qam64 → f32 0x3fb0_c30c ≡ radius k
  unfolding radius narrow round units size span climb of_bits of_fields odd count_trailing_zeros
  qam64_is h = rw h
