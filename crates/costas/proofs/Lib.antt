-- Sizes: |v| by a comparison, and the integrator. Octants: the 8-PSK decision.
pub mod Sizes
pub mod Octants
