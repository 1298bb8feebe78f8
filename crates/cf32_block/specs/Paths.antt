-- The words of the paths.
use Rattle.std.specs.Prelude.{ℕ, bytes_eq, find, List, [], ◌∷◌, codes, ok_or, Result}
use Rattle.types.specs.declared.words.UnknownWord.{UnknownWord}
use Rattle.cf32_block.specs.declared.Path.{Path}
use Rattle.cf32_block.specs.declared.Path.TheVariants.{Plain, Fast}

abbrev pub path_word : Path → List ℕ
path_word Plain = codes "plain"
path_word Fast = codes "fast"

-- the path whose word w is, or that none has it
abbrev pub path_with : List ℕ → Result Path UnknownWord
path_with w = ok_or (find (λ p. bytes_eq w (path_word p)) (Plain ∷ Fast ∷ [])) (record {})
