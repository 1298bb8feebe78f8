-- Demand 3's premise is met by two lists of exported calls, one with refused calls, by either entry. Computed; assumes nothing.
use Prim.Native.Nat.{ℕ}
use mathlib.Core.Path.{◌≡◌, refl}
use mathlib.Core.Bool.{false}
use mathlib.Core.List.{List, [], ◌∷◌, ◌++◌, map}
use lib.Dec.{lit≤}
use lib.ListN.{take, drop, replicate}
use lib.Ieee.{Float, nan, inf}
use Rattle.types.specs.declared.EqMode.TheVariants.{Cma}
use Rattle.types.specs.declared.EqConstellation.TheVariants.{Qpsk}
use Rattle.types.specs.Bits.{f32, zero32}
use Rattle.definition.specs.Slices.{samples_of}
use Rattle.definition.specs.Rows.{settings_of, state_of}
use Rattle.definition.proofs.Computed.{computed}
use Rattle.demands.specs.Blanks.{all_blank}
use Rattle.capi_numbers.specs.RawRecord.{known_settings, known_record, settings_in, record_in, settings_out, record_out, replied}
use Rattle.capi.specs.Raw.{Entry, eq_reference, eq_equalize, equalize_raw}
use Rattle.capi_demands.specs.Traces.{Kept, equalizer_of, kept_of, accepted, leaves, Seen, none, next, number, samples}
use Rattle.capi_demands.specs.Demand3.{Dropout, Recovered}
use Rattle.capi_demands.proofs.Dropout.{demand_3}

-- 3 forward taps and 1 feedback tap, 1 of 2 symbols counted; v throughout the window, by its bits
unfoldable start : ℕ → Kept
start v = kept_of (record {
  state = state_of (settings_of Qpsk 1 0x3d4c_cccd 0x3ca3_d70a 2 0) 0 0 Cma 1 0 5 0;
  weights = replicate 8 (f32 0x3f00_0000);
  window = replicate 8 (f32 v);
})

-- a call that keeps its promise, with m marks and n numbers
unfoldable seen : Entry → Kept → List Float → ℕ → ℕ → Seen
seen e k xs m n = record {
  entry = e;
  before = k;
  input = xs;
  output = xs;
  marks = replicate m 7;
  numbers = replicate n 8;
  after = equalize_raw k.raw k.weights k.window xs xs (replicate m 7) (replicate n 8);
}

-- three blanks, and a stream of two samples, the second a blank too
unfoldable blanks : List Float
blanks = nan ∷ zero32 ∷ f32 0x3f80_0000 ∷ inf false ∷ nan ∷ nan ∷ []

unfoldable stream : List Float
stream = f32 0x3f00_0000 ∷ f32 0x3f80_0000 ∷ nan ∷ zero32 ∷ []

-- a served call, one with a mark too many, one with a number too many, and one that takes the third blank and the stream
unfoldable list1 : Kept → List Seen
unfolding seen blanks stream
list1 k =
    let a = seen eq_equalize k (take 4 blanks) 2 2 in
    let b = seen eq_reference (leaves a.after) stream 3 2 in
    let c = seen eq_equalize (leaves b.after) stream 2 3 in
    a ∷ b ∷ c ∷ seen eq_equalize (leaves c.after) (drop 4 blanks ++ stream) 3 3 ∷ []

unfoldable list2 : Kept → List Seen
unfolding seen blanks stream
list2 k = seen eq_reference k (blanks ++ stream) 5 5 ∷ []

replies : map number (list1 (start 0x3f80_0000)) ≡ 0 ∷ 10 ∷ 13 ∷ 0 ∷ []
unfolding computed settings_of state_of start list1 kept_of equalize_raw known_settings known_record settings_in record_in settings_out record_out replied
replies = refl

meets : Dropout (start 0x3f80_0000) (start 0xbf00_0000) (list1 (start 0x3f80_0000)) (list2 (start 0xbf00_0000)) 3 (samples_of blanks) (samples_of blanks) (samples_of stream)
unfolding computed settings_of state_of start list1 list2 kept_of equalizer_of accepted samples all_blank equalize_raw known_settings known_record settings_in record_in settings_out record_out replied
meets = record {
  accepted_j = refl;
  accepted_k = refl;
  raws = refl;
  weights = refl;
  follow_j = next refl refl (next refl refl (next refl refl (next refl refl none)));
  follow_k = next refl refl none;
  blanks_j = record { many = refl; each = refl };
  blanks_k = record { many = refl; each = refl };
  enough = lit≤ tt;
  samples_j = refl;
  samples_k = refl;
}

recovers : Recovered (start 0x3f80_0000) (start 0xbf00_0000) (list1 (start 0x3f80_0000)) (list2 (start 0xbf00_0000)) 3 (samples_of blanks) (samples_of blanks)
recovers = demand_3 _ _ _ _ _ _ _ _ meets
