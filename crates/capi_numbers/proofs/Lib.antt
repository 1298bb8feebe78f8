-- The laws of the replies, and what the definitions give.
pub mod Replies
pub mod Facts
