pub mod HalfUp
