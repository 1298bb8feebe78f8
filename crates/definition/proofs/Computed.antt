-- `unfolding computed` opens the whole definition, so that antt computes what it gives at closed values.
use Prim.Native.Nat.{ℕ}
use lib.Count.{count_trailing_zeros}
use lib.Ieee.{is_nan, of_bits, of_fields, odd, to_bits, size, span, climb, round, units, sum, add, sub, neg, mul, div, lt, eq, le, of_int}
use Rattle.tables.specs.Table.{cos_bits, cos_at}
use Rattle.definition.specs.Refusals.{first_of}
use Rattle.definition.specs.Floats.{flush, clip, narrow, finite_c, minus_c, scaled_c, clip_c, times_c}
use Rattle.definition.specs.Slices.{samples_of, every, shifted, lane, sum8, filter_sum, dot_complex, power, part, tabulate, updated, start_weights}
use Rattle.definition.specs.Gains.{theta, divisor, gain_kp, gain_ki, loop_gains}
use Rattle.definition.specs.Phase.{low_part, line_at, interp_pair, cos_sin, step_int, phase_step}
use Rattle.definition.specs.Points.{side, points8, octant, octant_point, levels, held_to, level_of, level_at, qam_point, decide, symbol_of, number_of, decided, symbol_point, point_of, radius}
use Rattle.definition.specs.Turns.{derotated, rotated}
use Rattle.definition.specs.Sample.{sanitized, step1, step2, mse_after, godard_error, error_of, fed_of, step_size, live, update_of, reset_unless, adapted, phase_error, freq_after, phase_after, heard_mark, mark_by, numbered, hear, tracked, heard_as, step3, fed_in, advance_in, advance, step8, sample_def}
use Rattle.definition.specs.Rules.{taps_fit, feedback_fits, mu_fits, bw_fits, same_bits, plus_zero, rule_r1, rule_r2, weight_fits, freq_fits, rule_r3, count_fits, rule_r4, rules, accepted_def}
use Rattle.definition.specs.Run.{run_def, written}
use Rattle.types.specs.Start.{start_mode, start_state}
use Rattle.definition.specs.Calls.{start_over, new_tests, new_verdict, fresh_state, new_def, reset_verdict, reset_def, set_mu_cma_def, set_mu_dd_def, held_freq, set_frequency_def, equalize_tests, verdict_def, equalize_def}

unfoldable pub computed : ℕ
unfolding count_trailing_zeros is_nan of_bits of_fields odd to_bits size span climb round units sum add sub neg mul div lt eq le of_int cos_bits cos_at first_of flush clip narrow finite_c minus_c scaled_c clip_c times_c samples_of every shifted lane sum8 filter_sum dot_complex power part tabulate updated start_weights theta divisor gain_kp gain_ki loop_gains low_part line_at interp_pair cos_sin step_int phase_step side points8 octant octant_point levels held_to level_of level_at qam_point decide symbol_of number_of decided symbol_point point_of radius derotated rotated sanitized step1 step2 mse_after godard_error error_of fed_of step_size live update_of reset_unless adapted phase_error freq_after phase_after heard_mark mark_by numbered hear tracked heard_as step3 fed_in advance_in advance step8 sample_def taps_fit feedback_fits mu_fits bw_fits same_bits plus_zero rule_r1 rule_r2 weight_fits freq_fits rule_r3 count_fits rule_r4 rules accepted_def run_def written start_mode start_state start_over new_tests new_verdict fresh_state new_def reset_verdict reset_def set_mu_cma_def set_mu_dd_def held_freq set_frequency_def equalize_tests verdict_def equalize_def
computed = 0
