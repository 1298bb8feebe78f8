-- Tested: a rule of a table by one computed test. Rules: the rules of the cosine table, proved.
pub mod Tested
pub mod Rules
