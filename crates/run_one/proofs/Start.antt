-- One run: its start, its samples, its end. Assumes nothing.
use Prim.Native.Nat.{ℕ, ◌+◌, ◌*◌, ◌-◌, ◌/◌, ◌≤◌}
use mathlib.Core.Path.{◌≡◌, refl}
use mathlib.Core.Bool.{true}
use mathlib.Core.List.{List}
use native.Mathlib.Omega.{arith}
use borrow.Rule.Slice.PartMut.{mid_of, put_mid, mid_len}
use lib.ListN.{length}
use lib.Ieee.{Float}
use Rattle.types.specs.declared.EqualizeState.{EqualizeState}
use Rattle.definition.specs.Packed.{equalizer}
use Rattle.definition.specs.Rules.{accepted_def}
use Rattle.lanes.specs.Arrays.{Arrays, arrays}
use Rattle.lanes.specs.Holds.{Holds}
use Rattle.lanes.specs.Between.{Between}
use Rattle.lanes_prepare.specs.Entered.{Entered}
use Rattle.lanes.specs.Powers.{square_at, chain_of}
use Rattle.lanes_prepare.specs.Clock.{StepSizes}
use Rattle.lanes_prepare.proofs.Start.{entered-put, entered-holds, ahead_is}
use Rattle.lanes_load.proofs.End.{end_holds}
use Rattle.lanes.specs.declared.Shape.{Shape}
use Rattle.run_samples.specs.Sample.{Setting}
use Rattle.run_samples.specs.Run.{RunReady, After, Runs}
use Rattle.run_one.specs.WholeRun.{Prepared, Finished, WholeRun}

-- ---- `prepare_run`
sized_from : (s : EqualizeState) (ps ss : List Float) (from to : ℕ) → from ≤ to → StepSizes s ps from ss → StepSizes s ps to ss
sized_from s ps ss from to l z = record { cma = λ j f h g. z.cma j (omega arith) h g; decided = λ j f h g. z.decided j (omega arith) h g }

pub prepared : (s : EqualizeState) (n from : ℕ) (xs xr xi xr' xi' q₀ q p₀ ps ss : List Float) → from ≤ 64 - length xs / 2 → Entered xs xr xi xr' xi'
    → Between (square_at xr' xi') from (64 + n) q₀ q → Between (λ i. chain_of q i n) from 64 p₀ ps → StepSizes s ps from ss → Prepared s n xs xr xi q₀ xr' xi' q ps ss
prepared s n from xs xr xi xr' xi' q₀ q p₀ ps ss l e b p z = record {
  entered = e;
  from = from;
  squared = b;
  powers = record { is = λ at v f h x. ahead_is xr' xi' q₀ q p₀ ps v from n at b p (omega arith) h x };
  sizes = sized_from s ps ss from (64 - length xs / 2) l z;
}

module _ (s : EqualizeState) (g : Shape) (n : ℕ) (limit wr wi xr xi sq xr1 xi1 sq1 ps ss xs : List Float) (a' : Arrays) (ypart : List Float) (mpart npart : List ℕ) (r : EqualizeState)
    (begin : Prepared s n xs xr xi sq xr1 xi1 sq1 ps ss) (runs : Runs s g limit (arrays wr wi xr1 xi1 sq1) ps ss xs a' ypart mpart npart r) where
  ready : (w h : List Float) → n ≤ 63 → length xs ≤ 128 → Setting g n limit → Holds n g.m 64 (arrays wr wi xr xi sq) (equalizer s w h) → RunReady s g n limit (arrays wr wi xr1 xi1 sq1) ps ss xs w h
  ready w h ln most set hold = record {
    setting = set;
    holds = entered-holds xs xr xi xr1 xi1 begin.entered most n g.m wr wi sq sq1 _ _ (64 + n) (equalizer s w h) (omega arith) begin.squared hold;
    puts = λ k l. entered-put xs xr xi xr1 xi1 begin.entered most k l;
    powers = begin.powers;
    sizes = begin.sizes;
  }

  after : (w h : List Float) → n ≤ 63 → g.m ≤ 63 → length xs ≤ 128 → accepted_def (equalizer s w h) ≡ true → Setting g n limit → Holds n g.m 64 (arrays wr wi xr xi sq) (equalizer s w h)
      → (xr'' xi'' sq'' : List Float) → Finished n g.m (64 - length mpart) a'.xr a'.xi a'.q xr'' xi'' sq''
      → After n g.m 64 (equalizer s w h) xs ypart mpart npart (arrays a'.wr a'.wi xr'' xi'' sq'') r
  after w h ln lm most ok set hold xr'' xi'' sq'' e =
      let z = runs.after n w h ok (ready w h ln most set hold) in
      record {
        weights = z.weights;
        window = z.window;
        ran = z.ran;
        holds = end_holds n g.m (64 - length mpart) a' e.xr_mid e.xi_mid xr'' xi'' sq'' (equalizer r z.weights z.window) ln lm (omega arith) z.holds
            e.xr_forth e.xi_forth e.xr_back e.xi_back e.sq_back;
      }

pub whole_run : (s : EqualizeState) (g : Shape) (n : ℕ) (limit wr wi xr xi sq xr1 xi1 sq1 ps ss xs ys : List Float) (ms ns : List ℕ) (i e : ℕ) (a' : Arrays) (ypart : List Float) (mpart npart : List ℕ) (r : EqualizeState)
    (xr'' xi'' sq'' : List Float) → i ≤ e → e ≤ i + 64 → e ≤ length ms → length xs ≡ 2 * length ms → n ≤ 63
    → Prepared s n (mid_of (2 * i) (2 * e - 2 * i) xs) xr xi sq xr1 xi1 sq1 ps ss
    → Runs s g limit (arrays wr wi xr1 xi1 sq1) ps ss (mid_of (2 * i) (2 * e - 2 * i) xs) a' ypart mpart npart r
    → Finished n g.m (64 - (e - i)) a'.xr a'.xi a'.q xr'' xi'' sq''
    → WholeRun s g n limit (arrays wr wi xr xi sq) xs ys ms ns i e (arrays a'.wr a'.wi xr'' xi'' sq'') (put_mid (2 * i) (2 * e - 2 * i) ys ypart) (put_mid i (e - i) ms mpart) (put_mid i (e - i) ns npart) r
whole_run s g n limit wr wi xr xi sq xr1 xi1 sq1 ps ss xs ys ms ns i e a' ypart mpart npart r xr'' xi'' sq'' a b l input ln begin runs ends =
    let x = mid_of (2 * i) (2 * e - 2 * i) xs in
    let lx : length x ≡ 2 * e - 2 * i = mid_len (2 * i) (2 * e) xs (omega (arith, l, input)) in
    let len : length mpart ≡ e - i = omega (arith, runs.input, lx) in
    let ends' : Finished n g.m (64 - length mpart) a'.xr a'.xi a'.q xr'' xi'' sq'' = rw len ends in
    record {
      counts = runs.counts;
      part_done = λ w h ok set hold. record {
        part = ypart;
        part_marks = mpart;
        part_numbers = npart;
        after = after s g n limit wr wi xr xi sq xr1 xi1 sq1 ps ss x a' ypart mpart npart r begin runs w h ln g.fits.back (omega (arith, lx, a, b)) ok set hold xr'' xi'' sq'' ends';
        out = refl;
        marks = refl;
        numbers = refl;
      };
    }
