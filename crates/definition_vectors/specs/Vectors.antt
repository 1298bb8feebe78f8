-- Whole calls against the bits that the Rust gives for them: every constellation, Cma, Decision and the switch between them, feedback, blanks,
-- spills, silence. oracle/README.md says how they were made.
use Rattle.std.specs.Prelude.{ℕ, ◌*◌, Bool, true, ◌&&◌, List, [], ◌∷◌, map, length, replicate}
use Rattle.types.specs.declared.EqMode.{EqMode}
use Rattle.types.specs.declared.EqMode.TheVariants.{Cma, Decision}
use Rattle.types.specs.declared.EqConstellation.TheVariants.{Bpsk, Qpsk, Psk8, Qam16, Qam64}
use Rattle.types.specs.declared.EqParams.{EqParams}
use Rattle.types.specs.Bits.{f32, zero32}
use Rattle.definition.specs.Sample.{Equalizer}
use Rattle.definition.specs.Rows.{same, bits_of, same_equalizer, settings_of, state_of}
use Rattle.definition.specs.Calls.{equalize_def}

-- the running numbers, the weights and the window, floats by their bits
pub record Held : Type 0 where
  pub mode : EqMode
  pub count : ℕ
  pub mse : ℕ
  pub phase : ℕ
  pub freq : ℕ
  pub weights : List ℕ
  pub window : List ℕ

-- a call: the settings with their gains, what is held before and after, the input, and what is written to output, marks and numbers
pub record Vector : Type 0 where
  pub settings : EqParams
  pub kp : ℕ
  pub ki : ℕ
  pub before : Held
  pub input : List ℕ
  pub after : Held
  pub out : List ℕ
  pub marks : List ℕ
  pub numbers : List ℕ

unfoldable equalizer_of : Vector → Held → Equalizer
equalizer_of v h = record {
  state = state_of v.settings v.kp v.ki h.mode h.count h.mse h.phase h.freq;
  weights = map f32 h.weights;
  window = map f32 h.window;
}

unfoldable passes : Vector → Bool
passes v =
    let n = length v.marks in
    let a = equalize_def (equalizer_of v v.before) (map f32 v.input) (replicate (2 * n) zero32) (replicate n 0) (replicate n 0) in
    same a.reply [] && same_equalizer a.equalizer (equalizer_of v v.after) && same (bits_of a.out) v.out && same a.marks v.marks && same a.numbers v.numbers

unfoldable all_pass : List Vector → Bool
all_pass [] = true
all_pass (v ∷ vs) = passes v && all_pass vs

-- Cma, QPSK
abbrev cma_qpsk : Vector
cma_qpsk = record {
  settings = settings_of Qpsk 0 0x3d4c_cccd 0x3ca3_d70a 1000 0x3f94_7ae1_47ae_147b;
  kp = 0x3c07_6966;
  ki = 0x3967_1b0a;
  before = record {
    mode = Cma;
    count = 5;
    mse = 0x3f00_0000;
    phase = 0;
    freq = 0;
    weights = 0xbe42_233f ∷ 0xbe19_b3e6 ∷ 0x3e10_2540 ∷ 0x3e8a_fb71 ∷ 0x3eb2_7070 ∷ 0x3d80_6ca2 ∷ [];
    window = 0x3ec0_bae8 ∷ 0xbebd_93f3 ∷ 0x3e85_1487 ∷ 0x3da1_b003 ∷ 0xbf2b_f3e4 ∷ 0x3d66_67b5 ∷ [];
  };
  input = 0xbef4_bb25 ∷ 0xbd6e_eea6 ∷ 0x3f23_962a ∷ 0x3ec5_f31f ∷ 0x3e81_094a ∷ 0xbeb6_54e1 ∷ 0x3ef2_98c0 ∷ 0x3f2b_abbe ∷ [];
  after = record {
    mode = Cma;
    count = 9;
    mse = 0x3eff_be02;
    phase = 0xffd0_19e6;
    freq = 0xb771_e0b8;
    weights = 0xbe56_2147 ∷ 0xbe34_32cc ∷ 0x3e13_0dbe ∷ 0x3e9d_dfeb ∷ 0x3ebf_fb70 ∷ 0x3d46_096e ∷ [];
    window = 0x3ef2_98c0 ∷ 0x3f2b_abbe ∷ 0x3e81_094a ∷ 0xbeb6_54e1 ∷ 0x3f23_962a ∷ 0x3ec5_f31f ∷ [];
  };
  out = 0x3ea4_59fa ∷ 0x3e34_eb34 ∷ 0x3d1d_65f7 ∷ 0xbedb_b447 ∷ 0xbe9c_bf45 ∷ 0x3e61_53be ∷ 0x3ebd_88ac ∷ 0xbc61_ecde ∷ [];
  marks = 0 ∷ 0 ∷ 0 ∷ 0 ∷ [];
  numbers = 0 ∷ 1 ∷ 2 ∷ 1 ∷ [];
}

-- Decision, 16-QAM
abbrev decision_qam16 : Vector
decision_qam16 = record {
  settings = settings_of Qam16 0 0x3d4c_cccd 0x3ca3_d70a 2 0x3fa9_9999_9999_999a;
  kp = 0x3ca2_a286;
  ki = 0x3aad_7aba;
  before = record {
    mode = Decision;
    count = 2;
    mse = 0x3f00_0000;
    phase = 0x1234_5678;
    freq = 0x3c23_d70a;
    weights = 0xbe9a_73b1 ∷ 0x3e85_8b41 ∷ 0xbd05_6843 ∷ 0x3daf_32a3 ∷ 0xbe2a_f8c8 ∷ 0x3d6c_791a ∷ [];
    window = 0x3eaa_22e6 ∷ 0x3f5b_766a ∷ 0x3f11_0cc6 ∷ 0x3edd_352d ∷ 0xbe68_9842 ∷ 0xbf43_2713 ∷ [];
  };
  input = 0xbdea_86aa ∷ 0xbf3d_040d ∷ 0x3f89_d6db ∷ 0x3f97_33fa ∷ 0x3f68_a7b6 ∷ 0xbf1f_dc22 ∷ 0x3edf_8954 ∷ 0xbf57_0203 ∷ [];
  after = record {
    mode = Decision;
    count = 2;
    mse = 0x3ef7_9447;
    phase = 0x1e12_4584;
    freq = 0x3c29_f5d7;
    weights = 0xbe9b_a493 ∷ 0x3e87_516f ∷ 0xbcea_9b43 ∷ 0x3da9_b0a3 ∷ 0xbe27_9b7a ∷ 0x3d78_5e1d ∷ [];
    window = 0x3edf_8954 ∷ 0xbf57_0203 ∷ 0x3f68_a7b6 ∷ 0xbf1f_dc22 ∷ 0x3f89_d6db ∷ 0x3f97_33fa ∷ [];
  };
  out = 0x3db3_7b90 ∷ 0x3e03_ccca ∷ 0xbf2e_1dfd ∷ 0x3e2b_10d9 ∷ 0x3e37_43fa ∷ 0x3f1a_1620 ∷ 0x3dc7_d6fb ∷ 0x3eb1_b8e0 ∷ [];
  marks = 0 ∷ 0 ∷ 0 ∷ 0 ∷ [];
  numbers = 15 ∷ 3 ∷ 15 ∷ 15 ∷ [];
}

-- the switch from Cma to Decision inside the call, 8-PSK
abbrev switch_8psk : Vector
switch_8psk = record {
  settings = settings_of Psk8 0 0x3d4c_cccd 0x3ca3_d70a 2 0x3fb9_9999_9999_999a;
  kp = 0x3d18_3181;
  ki = 0x3ba2_5778;
  before = record {
    mode = Cma;
    count = 0;
    mse = 0x3f00_0000;
    phase = 0xfedc_ba98;
    freq = 0xbdcc_cccd;
    weights = 0xbeb5_f7d7 ∷ 0xbd35_18e9 ∷ 0xbe90_d5a7 ∷ 0xbe7f_1ded ∷ 0x3e93_0405 ∷ 0x3e69_7d14 ∷ [];
    window = 0x3f05_f5fd ∷ 0x3f44_a263 ∷ 0x3f73_42d9 ∷ 0x3f67_aadb ∷ 0xbee1_accf ∷ 0xbf1c_8b03 ∷ [];
  };
  input = 0x3dd7_1f84 ∷ 0xbc47_4003 ∷ 0x3f63_c7fd ∷ 0x3f47_c4d4 ∷ 0x3f05_ebf8 ∷ 0xbec8_e43a ∷ 0x3f58_224f ∷ 0x3f27_f418 ∷ [];
  after = record {
    mode = Decision;
    count = 2;
    mse = 0x3eff_b079;
    phase = 0x9c5a_9398;
    freq = 0xbdc9_648b;
    weights = 0xbeb9_7e68 ∷ 0xbd1e_d4ea ∷ 0xbe95_4864 ∷ 0xbe7c_be8e ∷ 0x3e93_2382 ∷ 0x3e74_13f6 ∷ [];
    window = 0x3f58_224f ∷ 0x3f27_f418 ∷ 0x3f05_ebf8 ∷ 0xbec8_e43a ∷ 0x3f63_c7fd ∷ 0x3f47_c4d4 ∷ [];
  };
  out = 0x3d8b_ff0f ∷ 0x3e05_a2df ∷ 0xbe8a_14d7 ∷ 0xbe51_029b ∷ 0x3e5d_a466 ∷ 0xbe9c_9f1b ∷ 0xba9f_bc80 ∷ 0xbef3_54de ∷ [];
  marks = 0 ∷ 0 ∷ 0 ∷ 0 ∷ [];
  numbers = 1 ∷ 4 ∷ 6 ∷ 5 ∷ [];
}

-- feedback taps, 64-QAM
abbrev feedback_qam64 : Vector
feedback_qam64 = record {
  settings = settings_of Qam64 2 0x3d4c_cccd 0x3ca3_d70a 3 0x3fc9_9999_9999_999a;
  kp = 0x3d85_7e70;
  ki = 0x3c8e_6533;
  before = record {
    mode = Decision;
    count = 3;
    mse = 0x3f00_0000;
    phase = 0x8000_0001;
    freq = 0x3dfd_f3b6;
    weights = 0xbda6_db2a ∷ 0x3e30_0df1 ∷ 0x3e8d_8743 ∷ 0x3d40_1e65 ∷ 0x3d1c_7c48 ∷ 0x3eb0_81ab ∷ 0x3dab_4bb3 ∷ 0x3daa_b69d ∷ 0xbe4b_72f2 ∷ 0xbd52_1794 ∷ [];
    window = 0x3f1e_bc69 ∷ 0xbe01_35e7 ∷ 0xbf4f_4e2e ∷ 0xbe46_b77c ∷ 0x3e6c_e7d0 ∷ 0xbf74_7eae ∷ 0xbf06_d29d ∷ 0x3ee6_7356 ∷ 0xbf71_b02d ∷ 0x3f72_8d75 ∷ [];
  };
  input = 0xbea6_01ff ∷ 0xbea3_fa5e ∷ 0x3e9e_4033 ∷ 0x3ddc_101c ∷ 0x3e88_0f1d ∷ 0xbf97_12d3 ∷ 0x3f82_b565 ∷ 0xbef6_8d0e ∷ 0x3f20_2d23 ∷ 0x3f73_10b1 ∷ [];
  after = record {
    mode = Decision;
    count = 3;
    mse = 0x3ef3_cf50;
    phase = 0x2021_10c1;
    freq = 0x3e00_0000;
    weights = 0xbda6_66c0 ∷ 0x3e2e_9e83 ∷ 0x3e8d_c4fc ∷ 0x3d44_f1a7 ∷ 0x3d24_3992 ∷ 0x3eaf_b973 ∷ 0x3dac_cc8c ∷ 0x3da9_a12d ∷ 0xbe4c_ca9a ∷ 0xbd53_bec5 ∷ [];
    window = 0x3f20_2d23 ∷ 0x3f73_10b1 ∷ 0x3f82_b565 ∷ 0xbef6_8d0e ∷ 0x3e88_0f1d ∷ 0xbf97_12d3 ∷ 0x3eea_e531 ∷ 0xbe2a_2b6b ∷ 0x3e5f_66da ∷ 0xbb9c_2e90 ∷ [];
  };
  out = 0xbee6_12e4 ∷ 0x3eef_aacb ∷ 0xbe2e_fef5 ∷ 0x3d3a_2ce8 ∷ 0xbe1a_6a1c ∷ 0x3e85_34fe ∷ 0x3cbd_7544 ∷ 0x3d79_cb9c ∷ 0x3f01_8a5a ∷ 0xbc83_261d ∷ [];
  marks = 0 ∷ 0 ∷ 0 ∷ 0 ∷ 0 ∷ [];
  numbers = 31 ∷ 22 ∷ 22 ∷ 54 ∷ 58 ∷ [];
}

-- feedback taps and the switch, BPSK
abbrev feedback_bpsk_switch : Vector
feedback_bpsk_switch = record {
  settings = settings_of Bpsk 3 0x3d4c_cccd 0x3ca3_d70a 2 0x3f94_7ae1_47ae_147b;
  kp = 0x3c07_6966;
  ki = 0x3967_1b0a;
  before = record {
    mode = Cma;
    count = 1;
    mse = 0x3f00_0000;
    phase = 0x4000_0000;
    freq = 0;
    weights = 0xbb66_e010 ∷ 0x3def_c2c3 ∷ 0x3cf1_d018 ∷ 0x3dc6_8361 ∷ 0x3e17_61c9 ∷ 0xbecc_65bc ∷ 0x3eb6_7523 ∷ 0x3d9b_5bd6 ∷ 0xbd97_7cf7 ∷ 0x3e5a_45f4 ∷ 0xbbb7_51af ∷ 0x3e50_9dc8 ∷ [];
    window = 0xbdd7_c9c3 ∷ 0x3ebc_88cd ∷ 0xbf65_a31f ∷ 0xbf04_5f4b ∷ 0x3ebf_57e8 ∷ 0xbf52_bf88 ∷ 0x3ec9_aaab ∷ 0x3f46_c9a3 ∷ 0xbecf_44fb ∷ 0x3f2a_80fb ∷ 0xbf21_faa7 ∷ 0x3f41_f66d ∷ [];
  };
  input = 0xbeb4_06ec ∷ 0x3f88_0456 ∷ 0x3f3d_a663 ∷ 0xbf7d_b22d ∷ 0xbf32_3586 ∷ 0x3f25_86ba ∷ 0xbf8f_09cc ∷ 0x3eab_2431 ∷ [];
  after = record {
    mode = Decision;
    count = 2;
    mse = 0x3f02_4422;
    phase = 0x3fff_88b3;
    freq = 0xb758_fca0;
    weights = 0xbbde_fb02 ∷ 0x3e00_1c42 ∷ 0x3cf0_df74 ∷ 0x3dc4_02ed ∷ 0x3e20_e52b ∷ 0xbecd_8348 ∷ 0x3eb5_bc18 ∷ 0x3d9e_0182 ∷ 0xbd90_b1d8 ∷ 0x3e5a_6829 ∷ 0x39e8_2e3e ∷ 0x3e51_345c ∷ [];
    window = 0xbf8f_09cc ∷ 0x3eab_2431 ∷ 0xbf32_3586 ∷ 0x3f25_86ba ∷ 0x3f3d_a663 ∷ 0xbf7d_b22d ∷ 0x3d1b_8335 ∷ 0xbf7f_d0bc ∷ 0xbd42_5d97 ∷ 0x3f7f_b62b ∷ 0xbd14_fbee ∷ 0x3f7f_d49e ∷ [];
  };
  out = 0x3e8c_f573 ∷ 0x3f2e_b0da ∷ 0x3e0b_a8db ∷ 0x3e42_d6c0 ∷ 0x3f2c_b12b ∷ 0xbe4d_90ca ∷ 0xbea8_e88b ∷ 0x3f3b_081c ∷ [];
  marks = 0 ∷ 0 ∷ 0 ∷ 0 ∷ [];
  numbers = 0 ∷ 0 ∷ 0 ∷ 1 ∷ [];
}

-- blanks among the samples, QPSK
abbrev blanks_qpsk : Vector
blanks_qpsk = record {
  settings = settings_of Qpsk 1 0x3d4c_cccd 0x3ca3_d70a 4 0;
  kp = 0;
  ki = 0;
  before = record {
    mode = Cma;
    count = 1;
    mse = 0x3f00_0000;
    phase = 0x0bad_cafe;
    freq = 0x3d4c_cccd;
    weights = 0xbe89_1ce8 ∷ 0xbeb2_0f72 ∷ 0xbe66_df84 ∷ 0xbc81_2134 ∷ 0x3ea8_cb86 ∷ 0x3d0b_979c ∷ 0xbd87_2367 ∷ 0xbc71_6c95 ∷ 0x3d92_ef08 ∷ 0x3ea9_4acf ∷ 0x3d19_886b ∷ 0xbe8a_9984 ∷ [];
    window = 0xbea0_9ec6 ∷ 0x3e14_d64d ∷ 0xbea1_06e8 ∷ 0x3eeb_bd4d ∷ 0x3f00_9b28 ∷ 0x3e3f_3421 ∷ 0x3ed1_dd2e ∷ 0x3e7f_7c4a ∷ 0xbf31_4d41 ∷ 0x3f28_9dff ∷ 0xbec6_65c0 ∷ 0x3f79_f6b6 ∷ [];
  };
  input = 0xbe07_877e ∷ 0x3f8e_63d8 ∷ 0x7fc0_0000 ∷ 0x3f80_0000 ∷ 0x3f00_0000 ∷ 0x7f80_0000 ∷ 0x3f8f_1dbe ∷ 0x3f14_60b8 ∷ 0xff80_0000 ∷ 0x7fc0_0000 ∷ 0x3f5c_7599 ∷ 0xbf22_9932 ∷ [];
  after = record {
    mode = Decision;
    count = 4;
    mse = 0x3eff_6b1c;
    phase = 0x3214_316e;
    freq = 0x3d4c_cccd;
    weights = 0xbe8b_9ec1 ∷ 0xbeb3_76d4 ∷ 0xbe68_78e9 ∷ 0xbc8b_7cf3 ∷ 0x3eaa_1838 ∷ 0x3d1d_c782 ∷ 0xbd84_e567 ∷ 0xbc6d_9084 ∷ 0x3d98_091f ∷ 0x3ea9_2fe5 ∷ 0x3d16_43c5 ∷ 0xbe8d_b2e4 ∷ [];
    window = 0x3f5c_7599 ∷ 0xbf22_9932 ∷ 0 ∷ 0 ∷ 0x3f8f_1dbe ∷ 0x3f14_60b8 ∷ 0 ∷ 0 ∷ 0 ∷ 0 ∷ 0xbe04_4d42 ∷ 0x3f7d_dab0 ∷ [];
  };
  out = 0x3f0f_0ab6 ∷ 0xbcb6_cdd0 ∷ 0 ∷ 0 ∷ 0 ∷ 0 ∷ 0xbf04_62a7 ∷ 0xbf02_0f76 ∷ 0 ∷ 0 ∷ 0x3b98_a9f0 ∷ 0x3e0f_1b87 ∷ [];
  marks = 0 ∷ 1 ∷ 1 ∷ 0 ∷ 1 ∷ 0 ∷ [];
  numbers = 1 ∷ 255 ∷ 255 ∷ 3 ∷ 255 ∷ 0 ∷ [];
}

-- sums that are not finite, 16-QAM
abbrev spilled_qam16 : Vector
spilled_qam16 = record {
  settings = settings_of Qam16 1 0x3d4c_cccd 0x3ca3_d70a 4294967295 0x3f94_7ae1_47ae_147b;
  kp = 0x3c07_6966;
  ki = 0x3967_1b0a;
  before = record {
    mode = Cma;
    count = 0;
    mse = 0x3f00_0000;
    phase = 0x0000_004d;
    freq = 0;
    weights = 0x3fc0_0000 ∷ 0xbfa0_0000 ∷ 0x3fe0_0000 ∷ 0x3f80_0000 ∷ 0x3dd2_b718 ∷ 0x3eab_fd0c ∷ 0xbd46_4a4f ∷ 0x3e26_6396 ∷ [];
    window = 0x3f13_6705 ∷ 0x3d7b_1451 ∷ 0xbf02_e46d ∷ 0xbf29_42aa ∷ 0xbf55_68ee ∷ 0x3eee_6c6d ∷ 0xbf6b_8817 ∷ 0x3f7f_7a5b ∷ [];
  };
  input = 0x7f61_b1e6 ∷ 0x7f61_b1e6 ∷ 0x7f61_b1e6 ∷ 0xff61_b1e6 ∷ 0xff61_b1e6 ∷ 0x3f80_0000 ∷ 0x60ad_78ec ∷ 0 ∷ 0 ∷ 0 ∷ 0x8000_0000 ∷ 0x0001_16c2 ∷ [];
  after = record {
    mode = Cma;
    count = 0;
    mse = 0x3f00_0000;
    phase = 0x0000_004b;
    freq = 0x3e00_0000;
    weights = 0x3fc0_0000 ∷ 0xbfa0_0000 ∷ 0x3fe0_0000 ∷ 0x3f80_0000 ∷ 0x3dd2_b718 ∷ 0x3eab_fd0c ∷ 0xbd46_4a4f ∷ 0x3e26_6396 ∷ [];
    window = 0x8000_0000 ∷ 0x0001_16c2 ∷ 0 ∷ 0 ∷ 0x60ad_78ec ∷ 0 ∷ 0 ∷ 0 ∷ [];
  };
  out = 0 ∷ 0 ∷ 0 ∷ 0 ∷ 0 ∷ 0 ∷ 0 ∷ 0 ∷ 0xfdb9_c55e ∷ 0xfe97_a0ec ∷ 0x5f0e_c946 ∷ 0x5fe9_167c ∷ [];
  marks = 2 ∷ 2 ∷ 2 ∷ 2 ∷ 0 ∷ 0 ∷ [];
  numbers = 255 ∷ 255 ∷ 255 ∷ 255 ∷ 0 ∷ 10 ∷ [];
}

-- a forward window of zeros, a sample whose square is 0, and a sample that is heard
abbrev silence_decision : Vector
silence_decision = record {
  settings = settings_of Qpsk 1 0x3d4c_cccd 0x3ca3_d70a 0 0x3f94_7ae1_47ae_147b;
  kp = 0x3c07_6966;
  ki = 0x3967_1b0a;
  before = record {
    mode = Decision;
    count = 0;
    mse = 0x3f00_0000;
    phase = 0x0000_0005;
    freq = 0;
    weights = 0xbe89_6d0c ∷ 0xbeba_6956 ∷ 0x3e9d_88b1 ∷ 0x3e46_b538 ∷ 0xbe14_5edf ∷ 0xbeb8_dfa0 ∷ 0xbe99_1d4c ∷ 0xbe73_25ea ∷ [];
    window = 0 ∷ 0 ∷ 0 ∷ 0 ∷ 0 ∷ 0 ∷ 0xbeed_10f1 ∷ 0x3f02_e78a ∷ [];
  };
  input = 0 ∷ 0 ∷ 0x8000_0000 ∷ 0 ∷ 0 ∷ 0x0da2_4260 ∷ 0x3f33_3333 ∷ 0xbf33_3333 ∷ 0 ∷ 0 ∷ [];
  after = record {
    mode = Decision;
    count = 0;
    mse = 0x3f02_335d;
    phase = 0xffa2_61ec;
    freq = 0xb823_e72a;
    weights = 0xbe86_96a6 ∷ 0xbec1_06dd ∷ 0x3e9d_3b48 ∷ 0x3e4b_f069 ∷ 0xbe14_5edf ∷ 0xbeb8_dfa0 ∷ 0xbe9b_c256 ∷ 0xbe73_b6a9 ∷ [];
    window = 0 ∷ 0 ∷ 0x3f33_3333 ∷ 0xbf33_3333 ∷ 0 ∷ 0x0da2_4260 ∷ 0x3f36_03df ∷ 0x3f34_0497 ∷ [];
  };
  out = 0x3e85_0fb6 ∷ 0xbd30_0683 ∷ 0 ∷ 0 ∷ 0x0cea_d5ae ∷ 0x8cb0_2f37 ∷ 0xbee2_f904 ∷ 0xbd81_5abc ∷ 0x3ec7_99f3 ∷ 0x3e9a_cbce ∷ [];
  marks = 3 ∷ 3 ∷ 3 ∷ 0 ∷ 0 ∷ [];
  numbers = 255 ∷ 255 ∷ 255 ∷ 3 ∷ 0 ∷ [];
}

-- nine forward taps, two feedback taps, 8-PSK
abbrev nine_taps : Vector
nine_taps = record {
  settings = settings_of Psk8 2 0x3d4c_cccd 0x3ca3_d70a 0 0x3f84_7ae1_47ae_147b;
  kp = 0x3b89_3a9a;
  ki = 0x386a_34ff;
  before = record {
    mode = Decision;
    count = 0;
    mse = 0x3f00_0000;
    phase = 0xffff_ffff;
    freq = 0xbe00_0000;
    weights = 0xbda1_0a5e ∷ 0xbdcf_33df ∷ 0x3ec8_5271 ∷ 0xbbcb_da24 ∷ 0x3d2f_db63 ∷ 0xbe10_4654 ∷ 0xbe98_6123 ∷ 0xbe55_0fdb ∷ 0xbd87_0b20 ∷ 0x3ea9_7515 ∷ 0x3de1_9e3b ∷ 0x3e67_894f ∷ 0x3eb1_b52a ∷ 0xbe8d_7839 ∷ 0xbd86_8d85 ∷ 0xbe9f_e487 ∷ 0xbea8_c773 ∷ 0xbe1c_d225 ∷ 0xbd2f_bf6f ∷ 0xbc87_5258 ∷ 0xbe4e_28d3 ∷ 0x3e91_2ed0 ∷ [];
    window = 0xbe9f_1c27 ∷ 0xbf74_e7fc ∷ 0xbf7b_0e75 ∷ 0x3f7e_2308 ∷ 0xbe1d_9b95 ∷ 0xbd83_c8f8 ∷ 0x3f01_4073 ∷ 0x3e4c_b277 ∷ 0x3f35_0bdd ∷ 0x3e9b_edc7 ∷ 0x3d12_1e5c ∷ 0xbf2c_5bd4 ∷ 0x3d34_4fd7 ∷ 0xbe9a_6a9b ∷ 0xbf34_c248 ∷ 0x3f6d_e593 ∷ 0xbf6a_cb72 ∷ 0x3f50_64c2 ∷ 0x3f5f_e4d0 ∷ 0x3f15_b03c ∷ 0xbefe_3058 ∷ 0x3f24_aca0 ∷ [];
  };
  input = 0xbf6d_cb7e ∷ 0xbeea_29ab ∷ 0x3e92_078d ∷ 0x3f39_5961 ∷ 0xbeb8_26ca ∷ 0xbf99_4b47 ∷ [];
  after = record {
    mode = Decision;
    count = 0;
    mse = 0x3efe_f5a2;
    phase = 0xa028_bc7f;
    freq = 0xbdff_fbc5;
    weights = 0xbda3_9f07 ∷ 0xbdca_c009 ∷ 0x3eca_7f78 ∷ 0xbbdc_aaf2 ∷ 0x3d2f_4857 ∷ 0xbe10_6abc ∷ 0xbe98_67c1 ∷ 0xbe52_0823 ∷ 0xbd86_dd01 ∷ 0x3ea8_6ee6 ∷ 0x3ddd_599c ∷ 0x3e66_b629 ∷ 0x3eb1_9a2e ∷ 0xbe8d_954d ∷ 0xbd83_5f93 ∷ 0xbea0_63b4 ∷ 0xbea9_51bd ∷ 0xbe1b_61c9 ∷ 0xbd33_2f0d ∷ 0xbc9c_6ca3 ∷ 0xbe51_cb60 ∷ 0x3e91_f8de ∷ [];
    window = 0xbeb8_26ca ∷ 0xbf99_4b47 ∷ 0x3e92_078d ∷ 0x3f39_5961 ∷ 0xbf6d_cb7e ∷ 0xbeea_29ab ∷ 0xbe9f_1c27 ∷ 0xbf74_e7fc ∷ 0xbf7b_0e75 ∷ 0x3f7e_2308 ∷ 0xbe1d_9b95 ∷ 0xbd83_c8f8 ∷ 0x3f01_4073 ∷ 0x3e4c_b277 ∷ 0x3f35_0bdd ∷ 0x3e9b_edc7 ∷ 0x3d12_1e5c ∷ 0xbf2c_5bd4 ∷ 0x3ec3_3aeb ∷ 0x3f6c_a899 ∷ 0xbf6c_43f8 ∷ 0xbec5_2000 ∷ [];
  };
  out = 0xbd89_22cc ∷ 0xbed1_2fc8 ∷ 0xbdef_2d69 ∷ 0xbe35_cdc3 ∷ 0xbeea_071d ∷ 0x3dbc_4d02 ∷ [];
  marks = 0 ∷ 0 ∷ 0 ∷ [];
  numbers = 5 ∷ 5 ∷ 3 ∷ [];
}

-- the table, whole
unfoldable pub vectors_pass : Bool
unfolding equalizer_of passes all_pass
vectors_pass = all_pass (cma_qpsk ∷ decision_qam16 ∷ switch_8psk ∷ feedback_qam64 ∷ feedback_bpsk_switch ∷ blanks_qpsk ∷ spilled_qam16 ∷ silence_decision ∷ nine_taps ∷ [])
