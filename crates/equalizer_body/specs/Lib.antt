-- Options: the words that name the options, what each takes, what the text of a value says. Entries: what they take, and the refusals, as lists of texts.
pub mod Options
pub mod Entries
