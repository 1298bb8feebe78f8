-- A call: the shape, the caller's slices into the arrays, all runs, and back. Assumes nothing.
use Prim.Native.Nat.{ℕ, ◌+◌, ◌*◌, ◌%◌, ◌≤◌}
use mathlib.Core.Path.{◌≡◌, sym, ◌∙◌, subst}
use mathlib.Core.Bool.{true}
use mathlib.Core.List.{List}
use lib.ListN.{length}
use lib.Ieee.{Float}
use Rattle.types.specs.declared.EqualizeState.{EqualizeState}
use Rattle.definition.specs.Slices.{samples_of}
use Rattle.definition.specs.Packed.{equalizer, Ran}
use Rattle.definition.specs.Rules.{rule_r4, TapCounts as Taps}
use Rattle.definition.specs.Run.{run_def}
use Rattle.definition_laws.proofs.Accept.{Accepted, accepted_is, accepted_r4, shape}
use Rattle.lanes.specs.Arrays.{Arrays, arrays}
use Rattle.lanes.specs.Holds.{Limits, LaneCounts}
use Rattle.lanes.specs.Between.{Between}
use Rattle.lanes.specs.Powers.{square_at}
use Rattle.lanes_load.specs.Load.{Loaded, Joined}
use Rattle.lanes_load.proofs.Load.{load_holds}
use Rattle.lanes_load.proofs.Store.{weights_back, window_back}
use Rattle.lanes.specs.declared.Shape.{Shape}
use Rattle.run_samples.specs.Sample.{Formed, Setting}
use Rattle.run_block.specs.Block.{AllRuns, Empty, Loads, Stores, Asked}

-- ---- `load_linear`
module _ (n m f : ℕ) (k : f ≡ n % 8) (w h : List Float) (a₀ : Arrays) (e : Empty a₀) (wr₁ wi₁ wr wi xr₁ xi₁ xr xi sq : List Float)
    (l1 : Loaded w 0 0 n a₀.wr a₀.wi wr₁ wi₁) (l2 : Loaded w (72 + f) n m wr₁ wi₁ wr wi) (l3 : Loaded h 64 0 n a₀.xr a₀.xi xr₁ xi₁) (l4 : Loaded h 216 n m xr₁ xi₁ xr xi)
    (l5 : Between (square_at xr xi) 216 (216 + m) a₀.q sq) where
  pub loads : Loads n m w h (arrays wr wi xr xi sq)
  loads = record {
    loaded = λ s ok t b.
        load_holds n m wr₁ wi₁ wr wi xr₁ xi₁ xr xi sq (equalizer s w h) (accepted_is (equalizer s w h) ok) t b
        (rw (e.wr, e.wi) at l1) (rw k at l2) (rw (e.xr, e.xi) at l3) l4 (rw e.q at l5);
  }

-- ---- `store_linear`
pub stores : (n m f : ℕ) (wr wi xr xi w₀ w₁ w h₀ h₁ h : List Float) → f ≡ n % 8 → Joined wr wi 0 0 n w₀ w₁ → Joined wr wi (72 + f) n m w₁ w → Joined xr xi 64 0 n h₀ h₁ → Joined xr xi 216 n m h₁ h
    → Stores n m wr wi xr xi w₀ h₀ w h
stores n m f wr wi xr xi w₀ w₁ w h₀ h₁ h e a b c d = record {
  stored = λ sq q o l k. (weights_back n m 64 (arrays wr wi xr xi sq) q w₀ w₁ w o l a (rw e at b), window_back n m 64 (arrays wr wi xr xi sq) q h₀ h₁ h o k c d);
}

-- ---- the call
module _ (s : EqualizeState) (w h xs ys : List Float) (ms ns : List ℕ) (n m : ℕ) (q : Asked s w h xs ys ms ns n m) where
  accepted : Accepted (equalizer s w h)
  accepted = accepted_is (equalizer s w h) q.shaped.accepted

  taps : Taps (equalizer s w h)
  taps = shape (equalizer s w h) accepted

  pub asked_shape : (3 ≤ n) × ((n ≤ 63) × (m ≤ 63))
  asked_shape = let t = taps in rw (q.forth, q.back) (t.some, (t.most, t.back))

  pub asked_long : (g : Shape) → Formed n m g → (length w ≡ 2 * (n + g.m)) × (length h ≡ 2 * (n + g.m))
  asked_long g f = let t = taps in rw (f.back_is, q.forth, q.back, t.sum) (t.weights, t.window)

  pub asked_r4 : rule_r4 s ≡ true
  asked_r4 = accepted_r4 (equalizer s w h) q.shaped.accepted

pub call_is : (s : EqualizeState) (w h xs ys₀ : List Float) (ms₀ ns₀ : List ℕ) (n m : ℕ) (g : Shape) (limit : List Float) (a : Arrays) (wr wi xr xi sq ys : List Float) (ms ns : List ℕ) (r : EqualizeState) (w' h' : List Float)
    → Asked s w h xs ys₀ ms₀ ns₀ n m → Formed n m g → Limits limit 0 0 n × Limits limit 72 g.front g.m → Loads n g.m w h a → AllRuns s g n limit a xs (arrays wr wi xr xi sq) ys ms ns r
    → Stores n g.m wr wi xr xi w h w' h' → Ran (run_def (equalizer s w h) (samples_of xs)) (equalizer r w' h') ys ms ns
call_is s w h xs ys₀ ms₀ ns₀ n m g limit a wr wi xr xi sq ys ms ns r w' h' q f l o c t =
    let e = f.back_is in
    let set : Setting g n limit = record {
      shaped = subst (λ (k : ℕ). LaneCounts n k g.lanes g.more g.quads g.mquads) (sym e) f.shaped;
      front_is = f.front_is;
      middle = f.middle;
      limits = l.0;
      limits' = subst (λ (k : ℕ). Limits limit 72 k g.m) f.front_is l.1;
    } in
    let ok = q.shaped.accepted in
    let hold = o.loaded s ok (sym q.forth) (sym q.back ∙ sym e) in
    let z = c.after w h ok set hold in
    let long = asked_long s w h xs ys₀ ms₀ ns₀ n m q g f in
    let back = t.stored sq (equalizer r z.weights z.window) z.holds (long.0 ∙ sym z.holds.weights.taps) (long.1 ∙ sym z.holds.past.taps) in
    record { left = rw (back.0, back.1) z.ran.left; out = z.ran.out; marks = z.ran.marks; numbers = z.ran.numbers }
