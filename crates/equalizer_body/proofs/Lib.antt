-- Places: the option at a word's place in the list is the first of the table with that word. Counts: a whole number in a narrower type. Entries: what an option takes
-- and a refusal's words as entries of lists.
pub mod Places
pub mod Counts
pub mod Entries
