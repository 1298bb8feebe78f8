-- A list of exported calls is one run over the samples of those that are served, so the cut into calls does not matter. Assumes nothing.
use mathlib.Core.Path.{sym, ◌∙◌, ap}
use mathlib.Core.List.{map}
use Rattle.definition.specs.Run.{Run, run_def, written, symbol_parts, mark_byte, number_byte}
use Rattle.demands.proofs.Cut as def
use Rattle.capi_demands.specs.Traces.{equalizer_of, kept_of}
use Rattle.capi_demands.specs.Cut.{CallsAreOneRun, AnyCut}
use Rattle.capi_demands.proofs.Told.{observed, told}

pub calls_are_one_run : CallsAreOneRun
calls_are_one_run k ss h f =
    let q = equalizer_of k in
    let t = told k ss h f in
    let r = def.calls_are_one_run q (map observed ss) t.follow in
    let e = ap (run_def q) (sym t.samples) in
    record {
      symbols = t.symbols ∙ r.symbols ∙ ap (λ (u : Run). written symbol_parts u.outs) e;
      marks = t.marks ∙ r.marks ∙ ap (λ (u : Run). written mark_byte u.outs) e;
      numbers = t.numbers ∙ r.numbers ∙ ap (λ (u : Run). written number_byte u.outs) e;
      left = t.left ∙ ap kept_of (r.left ∙ ap (λ (u : Run). u.equalizer) e);
    }

pub any_cut : AnyCut
any_cut k ss ts h f g e =
    let a = calls_are_one_run k ss h f in
    let b = calls_are_one_run k ts h g in
    let r = ap (run_def (equalizer_of k)) e in
    record {
      symbols = a.symbols ∙ ap (λ (u : Run). written symbol_parts u.outs) r ∙ sym b.symbols;
      marks = a.marks ∙ ap (λ (u : Run). written mark_byte u.outs) r ∙ sym b.marks;
      numbers = a.numbers ∙ ap (λ (u : Run). written number_byte u.outs) r ∙ sym b.numbers;
      left = a.left ∙ ap (λ (u : Run). kept_of u.equalizer) r ∙ sym b.left;
    }
