-- The three exits of `update_split`. Assumes nothing.
use Prim.Native.Nat.{ℕ, ◌+◌, ◌-◌, ◌*◌, ◌/◌, ◌%◌, ◌<◌, ◌≤◌}
use mathlib.Core.Path.{◌≡◌, refl, sym, ◌∙◌, subst}
use mathlib.Core.Bool.{Bool, true, false, ◌||◌}
use mathlib.Core.List.{List}
use native.Mathlib.Omega.{arith}
use native.Mathlib.Nat.{le_of_eq}
use native.Mathlib.Decide.{ℕ_discrete, dec_lt}
use Rattle.std.proofs.lemmas.Bool.{both_ways, false_from_ne_true, or_parts}
use lib.ListN.{length, get_or, set, replicate, length-set, length-replicate, get_or-replicate}
use lib.Seq.{get_or-set_same, get_or-set_other}
use lib.Dec.{T}
use lib.Ieee.{Float, nan}
use lib.Ieee.Scale.{finite}
use Rattle.types.specs.declared.Update.{Update}
use Rattle.types.specs.declared.Update.TheVariants.{Step, Hold}
use Rattle.types.specs.Bits.{zero32, one32}
use Rattle.definition.specs.Floats.{complex}
use Rattle.definition.specs.Slices.{updated, every, start_weights}
use Rattle.definition.specs.Sample.{adapted, reset_unless}
use Rattle.definition_laws.proofs.Every.{length_updated, length_start}
use Rattle.lanes.specs.Between.{Replaced}
use Rattle.lanes.specs.Holds.{Lies, Half, Weights}
use Rattle.lanes.specs.Adapts.{Ready, Adapts}
use Rattle.lanes.proofs.Places.{lies_kept, half_kept}
use Rattle.lanes_adapt.specs.Steps.{uneven, step_re, step_im, any_of, broken_at}
use Rattle.lanes_adapt.specs.Settled.{ruined, Settled}
use Rattle.lanes_adapt.proofs.Loops.{none_any}
use Rattle.lanes_adapt.proofs.Update.{every_fine, fine_every}
use Rattle.lanes_adapt.proofs.HalfStep.{Stepped, half_step, whole_fine, fine_whole, cleared_half}

-- ---- hold
pub adapt_hold : (u : Update) (wr wi limit xr xi : List Float) (at lanes bt more centre : ℕ) → u ≡ Hold → Adapts u wr wi limit xr xi at lanes bt more centre wr wi
unfolding adapted reset_unless
adapt_hold u wr wi limit xr xi at lanes bt more centre e = record { holds = λ n m w h r. rw e r.weights }

-- ---- the start weights, in lanes as in a slice all +0 but 1 in one place
one_at : (n c k n' c' k' : ℕ) → c < n → c' < n' → k < n → k' < n' → (k ≡ c → k' ≡ c') → (k' ≡ c' → k ≡ c) → Dec (k ≡ c)
    → get_or (set (replicate n zero32) c one32) k nan ≡ get_or (set (replicate n' zero32) c' one32) k' nan
one_at n c k n' c' k' a b g h p q (yes e) =
    rw (e, p e) (get_or-set_same (replicate n zero32) c one32 nan (simp length-replicate a) ∙ sym (get_or-set_same (replicate n' zero32) c' one32 nan (simp length-replicate b)))
one_at n c k n' c' k' a b g h p q (no d) =
    get_or-set_other (replicate n zero32) c k one32 nan d ∙ get_or-replicate n k zero32 nan g
    ∙ sym (get_or-set_other (replicate n' zero32) c' k' one32 nan (λ (e : k' ≡ c'). d (q e)) ∙ get_or-replicate n' k' zero32 nan h)

start_half : (N c o from base count : ℕ) → c < N → base + count ≤ N → o ≤ 72 → from + count ≤ 72 → c < 72 → ((i : ℕ) → o + i ≡ c → (from ≤ i) × ((i < from + count) × (base + (i - from) ≡ c)))
    → ((j : ℕ) → j < count → base + j ≡ c → o + (from + j) ≡ c) → Half (set (replicate 144 zero32) c one32) (replicate 144 zero32) o from (start_weights N c) base count
unfolding start_weights
start_half N c o from base count a b two room g p q = record {
  long = simp (length-set, length-replicate);
  long' = simp length-replicate;
  room = room;
  lies = record {
    re_is = λ j l. one_at 144 c (o + from + j) (2 * N) (2 * c) (2 * (base + j)) (omega arith) (omega arith) (omega arith) (omega arith)
        (λ e. let z = p (from + j) (omega arith) in omega arith) (λ e. let z = q j l (omega arith) in omega arith) (ℕ_discrete (o + from + j) c);
    im_is = λ j l. get_or-replicate 144 (o + from + j) zero32 nan (omega arith)
        ∙ sym (get_or-set_other (replicate (2 * N) zero32) (2 * c) (2 * (base + j) + 1) one32 nan (λ (e : 2 * (base + j) + 1 ≡ 2 * c). omega arith) ∙ get_or-replicate (2 * N) (2 * (base + j) + 1) zero32 nan (omega arith));
  };
  early = record { re_zero = λ i f l. off i (omega arith) (λ e. let z = p i e in omega arith); im_zero = λ i f l. get_or-replicate 144 (o + i) zero32 nan (omega arith) };
  late = record { re_zero = λ i f l. off i l (λ e. let z = p i e in omega arith); im_zero = λ i f l. get_or-replicate 144 (o + i) zero32 nan (omega arith) };
}
  where
    off : (i : ℕ) → i < 72 → (o + i ≡ c → ⊥) → get_or (set (replicate 144 zero32) c one32) (o + i) nan ≡ zero32
    off i l d = get_or-set_other (replicate 144 zero32) c (o + i) one32 nan d ∙ get_or-replicate 144 (o + i) zero32 nan (omega arith)

-- from wr, wi by the forward step to vr, vi, and by the feedback step to wr', wi'
module _ (wr wi limit xr xi : List Float) (at lanes bt more centre : ℕ) (gr gi : Float) (vr vi wr' wi' : List Float)
    (mr : Replaced (step_re wr limit xr xi at 0 gr gi) 0 lanes wr vr) (mi : Replaced (step_im wi limit xr xi at 0 gr gi) 0 lanes wi vi)
    (br : Replaced (step_re vr limit xr xi bt 72 gr gi) 72 more vr wr') (bi : Replaced (step_im vi limit xr xi bt 72 gr gi) 72 more vi wi') where
  module _ (n m : ℕ) (w h : List Float) (r : Ready n m wr wi limit xr xi at lanes bt more centre w h) where
    abbrev new : List Float
    new = updated (n + m) (complex gr gi) w h

    new_long : length (updated (n + m) (complex gr gi) w h) ≡ 2 * (n + m)
    new_long = length_updated (n + m) (complex gr gi) w h (le_of_eq (sym r.weights.taps)) ∙ r.weights.taps

    lies : Lies xr xi (at + 0) h 0 n
    lies = let e : at + 0 ≡ at = omega arith in rw e r.window.forth

    back_lies : Lies xr xi (bt + n % 8) h n m
    back_lies = rw r.early r.window.back

    forth : Stepped vr vi 0 0 new 0 n (any_of lanes (λ i. uneven (step_re wr limit xr xi at 0 gr gi i) (step_im wi limit xr xi at 0 gr gi i)))
    forth = half_step wr wi limit xr xi w h at 0 0 0 n lanes (n + m) gr gi vr vi r.weights.forth lies r.limits (λ q. omega (arith, r.wide)) (omega arith) mr mi

    back : Stepped wr' wi' 72 (n % 8) new n m (any_of more (λ i. uneven (step_re vr limit xr xi bt 72 gr gi i) (step_im vi limit xr xi bt 72 gr gi i)))
    back =
        let half = half_kept 72 (n % 8) n m mr.long mi.long (λ i l. mr.high (72 + i) (omega (arith, r.fit))) (λ i l. mi.high (72 + i) (omega (arith, r.fit))) r.weights.back in
        half_step vr vi limit xr xi w h bt 72 (n % 8) n m more (n + m) gr gi wr' wi' half back_lies r.limits' (λ q. grind (arith, r.none, r.wide')) (omega arith) br bi

    -- no flag
    calm_weights : any_of lanes (λ i. uneven (step_re wr limit xr xi at 0 gr gi i) (step_im wi limit xr xi at 0 gr gi i)) ≡ false
        → any_of more (λ i. uneven (step_re vr limit xr xi bt 72 gr gi i) (step_im vi limit xr xi bt 72 gr gi i)) ≡ false
        → Weights n m wr' wi' (adapted (Step gr gi) (n + m) n w h)
    unfolding adapted reset_unless
    calm_weights p q =
        let f = forth.calm p in
        let b = back.calm q in
        rw (every_fine new n m new_long f.1 b.1) (record {
          forth = half_kept 0 0 0 n br.long bi.long (λ i l. br.low (0 + i) (omega arith)) (λ i l. bi.low (0 + i) (omega arith)) f.0;
          back = b.0;
          taps = new_long;
        })

    module _ (wr'' wi'' : List Float) (s : Settled wr' wi' limit centre wr'' wi'') where
      forth_lies : Lies wr' wi' (0 + 0) new 0 n
      forth_lies = lies_kept vr vi wr' wi' (0 + 0) new 0 n (λ j l. br.low (0 + 0 + j) (omega (arith, r.most))) (λ j l. bi.low (0 + 0 + j) (omega (arith, r.most))) forth.lies

      room : n % 8 + m ≤ 72
      room = omega (arith, r.most')

      -- padding alone
      kept_weights : ruined wr' wi' limit ≡ false → Weights n m wr'' wi'' (adapted (Step gr gi) (n + m) n w h)
      unfolding adapted reset_unless
      kept_weights z =
          let f = whole_fine r.limits forth_lies r.weights.forth.room (omega arith) z in
          let b = whole_fine r.limits' back.lies room (omega arith) z in
          let c = s.cleared z in
          let lr : length wr' ≡ 144 = br.long ∙ mr.long ∙ r.weights.forth.long in
          let li : length wi' ≡ 144 = bi.long ∙ mi.long ∙ r.weights.forth.long' in
          rw (every_fine new n m new_long f b) (record {
            forth = cleared_half r.limits forth_lies r.weights.forth.room (omega arith) c.0 c.1 lr li;
            back = cleared_half r.limits' back.lies room (omega arith) c.0 c.1 lr li;
            taps = new_long;
          })

      -- a weight is not finite
      not_every : ruined wr' wi' limit ≡ true → every finite new ≡ false
      unfolding ruined
      not_every z = false_from_ne_true _ (λ e. both_ways _ (none_any _ 144 (λ k l. lane (subst T (sym e) tt) k l (dec_lt k 72))) z)
        where
          lane : T (every finite new) → (k : ℕ) → k < 144 → Dec (k < 72) → broken_at (get_or wr' k nan) (get_or wi' k nan) (get_or limit k nan) ≡ false
          lane t k l (yes q) =
              let e : 0 + k ≡ k = omega arith in
              rw e at (fine_whole r.limits forth_lies r.weights.forth.room (omega arith) (fine_every new 0 n (omega (arith, new_long)) t) k q)
          lane t k l (no q) =
              let e : 72 + (k - 72) ≡ k = omega arith in
              rw e at (fine_whole r.limits' back.lies room (omega arith) (fine_every new n m (omega (arith, new_long)) t) (k - 72) (omega arith))

      start_weights_held : ruined wr' wi' limit ≡ true → Weights n m wr'' wi'' (adapted (Step gr gi) (n + m) n w h)
      unfolding adapted reset_unless
      start_weights_held z =
          let c = s.started z in
          rw (not_every z, c.0, c.1, r.middle) (record {
            forth = start_half (n + m) (n / 2) 0 0 0 n (omega (arith, r.some)) (omega arith) (omega arith) (omega (arith, r.most)) (omega (arith, r.most)) (λ i e. (omega arith, (omega (arith, r.some), omega arith))) (λ j l e. omega arith);
            back = start_half (n + m) (n / 2) 72 (n % 8) n m (omega (arith, r.some)) (omega arith) (omega arith) room (omega (arith, r.most)) (λ i e. absurd (omega (arith, r.most))) (λ j l e. absurd (omega (arith, r.some)));
            taps = length_start (n + m) (n / 2);
          })

      settled_go : (z : Bool) → ruined wr' wi' limit ≡ z → Weights n m wr'' wi'' (adapted (Step gr gi) (n + m) n w h)
      settled_go true q = start_weights_held q
      settled_go false q = kept_weights q

  pub adapt_calm : (u : Update) (b1 b2 : Bool) → u ≡ Step gr gi
      → b1 ≡ any_of lanes (λ i. uneven (step_re wr limit xr xi at 0 gr gi i) (step_im wi limit xr xi at 0 gr gi i))
      → b2 ≡ any_of more (λ i. uneven (step_re vr limit xr xi bt 72 gr gi i) (step_im vi limit xr xi bt 72 gr gi i))
      → (b1 || b2) ≡ false → Adapts u wr wi limit xr xi at lanes bt more centre wr' wi'
  adapt_calm u b1 b2 e p q z = record {
    holds = λ n m w h r. let o = or_parts b1 b2 z in rw e (calm_weights n m w h r (sym p ∙ o.0) (sym q ∙ o.1));
  }

  pub adapt_settled : (u : Update) (wr'' wi'' : List Float) → u ≡ Step gr gi → Settled wr' wi' limit centre wr'' wi''
      → Adapts u wr wi limit xr xi at lanes bt more centre wr'' wi''
  adapt_settled u wr'' wi'' e s = record {
    holds = λ n m w h r. rw e (settled_go n m w h r wr'' wi'' s (ruined wr' wi' limit) refl);
  }
