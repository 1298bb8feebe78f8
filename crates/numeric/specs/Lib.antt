-- Below: what is left of a number below a limit.
pub mod Below
