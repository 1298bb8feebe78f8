-- WHICH WEIGHTS THE RECORD CHECK TAKES. "One loop tests each part for both, finite and not tiny. Show that it says yes exactly where every weight
-- part meets R3." The loop is `record_rules::weights_fit`; it promises to answer `every weight_fits` of the weights. Here that is said part by part.
use Rattle.std.specs.Prelude.{ℕ, ◌<◌, ◌≡◌, ◌⊎◌, true, List, length, get_or, Float}
use Rattle.std.specs.Float.{nan, binary32}
use Rattle.std.specs.Float.Ieee.{to_bits, le}
use Rattle.std.specs.Float.Ieee.Scale.{finite}
use Rattle.definition.specs.Floats.{abs, tiny}
use Rattle.definition.specs.Slices.{every}
use Rattle.definition.specs.Sample.{Equalizer}
use Rattle.definition.specs.Rules.{weight_fits, accepted_def}

-- R3: "each weight part is +0 or finite with magnitude at least 1e-30". +0 is so by its bits, so that -0 is another.
abbrev pub PartMeetsR3 : Float → Type 0
PartMeetsR3 v = (to_bits binary32 v ≡ 0) ⊎ ((finite v ≡ true) × (le tiny (abs v) ≡ true))

-- "every weight part": part i of the weights w, for each i below their length
abbrev pub EachMeetsR3 : List Float → Type 0
EachMeetsR3 w = (i : ℕ) → i < length w → PartMeetsR3 (get_or w i nan)

pub record WeightsMeetR3 : Type 0 where
  -- "it says yes exactly where every weight part meets R3": only there, and wherever they do
  pub only : (w : List Float) → every weight_fits w ≡ true → EachMeetsR3 w
  pub wherever : (w : List Float) → EachMeetsR3 w → every weight_fits w ≡ true
  -- so every part of an accepted record's weights meets R3
  pub accepted : (q : Equalizer) → accepted_def q ≡ true → EachMeetsR3 q.weights
