-- Demand 3's premise is met by two lists of calls that are cut in different ways, one with a call of each refusal that an accepted record can get: by
-- the joint and the plain path, by the quick and the plain path, and with an empty stream. Computed; assumes nothing.
use Prim.Native.Nat.{ℕ, ◌+◌, ◌*◌}
use mathlib.Core.Path.{◌≡◌, refl}
use mathlib.Core.Bool.{false}
use mathlib.Core.List.{List, [], ◌∷◌, ◌++◌, map}
use lib.Dec.{lit≤}
use lib.ListN.{length, take, replicate}
use lib.Ieee.{Float, nan, inf}
use Rattle.types.specs.declared.EqMode.TheVariants.{Cma}
use Rattle.types.specs.declared.EqConstellation.TheVariants.{Qpsk}
use Rattle.types.specs.Bits.{f32, zero32}
use Rattle.definition.specs.Slices.{complex_length, samples_of}
use Rattle.definition.specs.Sample.{Equalizer}
use Rattle.definition.specs.Rows.{settings_of, state_of}
use Rattle.definition.proofs.Computed.{computed}
use Rattle.definition.specs.Paths.{Path, plain, quick, joint}
use Rattle.demands.specs.Traces.{Call, call_def, Observed, none, next, samples}
use Rattle.demands.specs.Blanks.{all_blank}
use Rattle.demands.specs.Demand3.{Dropout, Recovered}
use Rattle.demands.proofs.Dropout.{demand3}

-- ---- the equalizers and their calls

-- 3 forward taps and m feedback taps, 0 or 1; QPSK, mu 0.05 and 0.02, bandwidth 0, 1 of 2 symbols counted; v throughout the window, by its bits
unfoldable start : ℕ → ℕ → Equalizer
start m v = record {
  state = state_of (settings_of Qpsk m 0x3d4c_cccd 0x3ca3_d70a 2 0) 0 0 Cma 1 0 5 0;
  weights = take (2 * (3 + m)) (f32 0x3f80_0000 ∷ zero32 ∷ f32 0x3f00_0000 ∷ f32 0xbf00_0000 ∷ zero32 ∷ zero32 ∷ f32 0x3f80_0000 ∷ zero32 ∷ []);
  window = replicate (2 * (3 + m)) (f32 v);
}

-- an output of n f32, marks of b bytes, numbers of c
unfoldable handed : Path → List Float → ℕ → ℕ → ℕ → Call
handed p xs n b c = record { path = p; input = xs; output = replicate n nan; marks = replicate b 7; numbers = replicate c 8 }

unfoldable call : Path → List Float → Call
unfolding handed
call p xs = handed p xs (length xs) (complex_length xs) (complex_length xs)

-- what is seen of a list of calls that each keeps its promise
unfoldable observe : Equalizer → List Call → List Observed
observe q [] = []
observe q (c ∷ cs) = record { before = q; call = c; answer = call_def q c } ∷ observe (call_def q c).equalizer cs

-- three blanks for the one list, and three for the other
unfoldable blanks1 : List Float
blanks1 = nan ∷ zero32 ∷ f32 0x3f80_0000 ∷ inf false ∷ nan ∷ nan ∷ []

unfoldable blanks2 : List Float
blanks2 = inf false ∷ zero32 ∷ zero32 ∷ nan ∷ nan ∷ f32 0x4000_0000 ∷ []

-- its second sample is a blank too
unfoldable stream : List Float
stream = f32 0x3f00_0000 ∷ f32 0x3f80_0000 ∷ nan ∷ zero32 ∷ []

-- Refused are a call with an odd input, one with an output of 2 samples for 1, one with no mark for 1, and one with no number for 1. The call before
-- the last two takes the third blank and the stream.
unfoldable calls1 : Path → List Float → List Call
unfolding handed call blanks1
calls1 p xs =
    handed plain (zero32 ∷ []) 0 0 0
    ∷ call p (take 4 blanks1)
    ∷ handed p (zero32 ∷ zero32 ∷ []) 4 1 1
    ∷ call plain []
    ∷ call p (nan ∷ nan ∷ xs)
    ∷ handed p (zero32 ∷ zero32 ∷ []) 2 0 1
    ∷ handed p (zero32 ∷ zero32 ∷ []) 2 1 0
    ∷ []

unfoldable calls2 : List Float → List Call
unfolding call blanks2
calls2 xs = call plain (blanks2 ++ xs) ∷ []

unfoldable seen1 : Path → ℕ → List Float → List Observed
unfolding start observe calls1
seen1 p m xs = observe (start m 0x3f80_0000) (calls1 p xs)

unfoldable seen2 : ℕ → List Float → List Observed
unfolding start observe calls2
seen2 m xs = observe (start m 0xbf00_0000) (calls2 xs)

-- ---- what the calls of the first list reply: a refusal's number, and the lengths that 9 and 10 tell, expected and got

abbrev Replies : List Observed → Type 0
Replies os = map (λ o. o.answer.reply) os ≡ (1 ∷ []) ∷ [] ∷ (9 ∷ 1 ∷ 2 ∷ []) ∷ [] ∷ [] ∷ (10 ∷ 1 ∷ 0 ∷ []) ∷ (13 ∷ []) ∷ []

replies_joint : Replies (seen1 joint 1 stream)
unfolding computed settings_of state_of seen1 stream
replies_joint = refl

replies_quick : Replies (seen1 quick 0 stream)
unfolding computed settings_of state_of seen1 stream
replies_quick = refl

replies_empty : Replies (seen1 joint 1 [])
unfolding computed settings_of state_of seen1
replies_empty = refl

-- ---- the premise, and what follows

abbrev Meets : Path → ℕ → List Float → Type 0
Meets p m xs = Dropout (start m 0x3f80_0000) (start m 0xbf00_0000) (seen1 p m xs) (seen2 m xs) 3 (samples_of blanks1) (samples_of blanks2) (samples_of xs)

abbrev Recovers : Path → ℕ → List Float → Type 0
Recovers p m xs = Recovered (start m 0x3f80_0000) (start m 0xbf00_0000) (seen1 p m xs) (seen2 m xs) 3 (samples_of blanks1) (samples_of blanks2) (samples_of xs)

meets_joint : Meets joint 1 stream
unfolding computed settings_of state_of seen1 seen2 stream samples all_blank
meets_joint = record {
  accepted_p = refl;
  accepted_q = refl;
  states = refl;
  weights = refl;
  follow_p = next refl refl refl (next refl refl refl (next refl refl refl (next refl refl refl (next refl refl refl (next refl refl refl (next refl refl refl none))))));
  follow_q = next refl refl refl none;
  blanks_p = record { many = refl; each = refl };
  blanks_q = record { many = refl; each = refl };
  enough = lit≤ tt;
  samples_p = refl;
  samples_q = refl;
}

recovers_joint : Recovers joint 1 stream
recovers_joint = demand3 _ _ _ _ _ _ _ _ meets_joint

meets_quick : Meets quick 0 stream
unfolding computed settings_of state_of seen1 seen2 stream samples all_blank
meets_quick = record {
  accepted_p = refl;
  accepted_q = refl;
  states = refl;
  weights = refl;
  follow_p = next refl refl refl (next refl refl refl (next refl refl refl (next refl refl refl (next refl refl refl (next refl refl refl (next refl refl refl none))))));
  follow_q = next refl refl refl none;
  blanks_p = record { many = refl; each = refl };
  blanks_q = record { many = refl; each = refl };
  enough = lit≤ tt;
  samples_p = refl;
  samples_q = refl;
}

recovers_quick : Recovers quick 0 stream
recovers_quick = demand3 _ _ _ _ _ _ _ _ meets_quick

meets_empty : Meets joint 1 []
unfolding computed settings_of state_of seen1 seen2 stream samples all_blank
meets_empty = record {
  accepted_p = refl;
  accepted_q = refl;
  states = refl;
  weights = refl;
  follow_p = next refl refl refl (next refl refl refl (next refl refl refl (next refl refl refl (next refl refl refl (next refl refl refl (next refl refl refl none))))));
  follow_q = next refl refl refl none;
  blanks_p = record { many = refl; each = refl };
  blanks_q = record { many = refl; each = refl };
  enough = lit≤ tt;
  samples_p = refl;
  samples_q = refl;
}

recovers_empty : Recovers joint 1 []
recovers_empty = demand3 _ _ _ _ _ _ _ _ meets_empty
