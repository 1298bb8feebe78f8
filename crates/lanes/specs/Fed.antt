-- Where the feedback window lies of a sample whose forward window lies at `at`: `Window::BACK` places above it, and one more for the sample put in.
use Rattle.std.specs.Prelude.{ℕ, ◌+◌, ◌-◌}

-- the first place of the feedback window
abbrev pub back_at : ℕ → ℕ
back_at at = at + 153

-- where the feedback lanes begin, with `front` of padding before that window
abbrev pub fed_at : ℕ → ℕ → ℕ
fed_at at front = back_at at - front
