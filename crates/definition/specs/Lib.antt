-- The definition of the equalizer, in the order of document 01: what every operation returns and leaves in every buffer.
--
-- How to read it. `f : A → B → C` says that f takes an A and a B and gives a C, and the line below says what it gives. `f a b` is f applied to a
-- and b. `cond t a b` is a where the test t is true, and b where it is false. `r.x` is field x of the record r. `a ∷ l` is the list l with a in
-- front, `[]` the empty list, `l ++ k` two lists joined; `take n l` is the first n of l, `drop n l` the rest; `get_or l i d` is what stands at i
-- in l, and d past its end; `replicate n a` is n times a, `set l i a` is l with a at i. ℕ are the whole numbers from 0, of which `-` stops at 0;
-- ℤ has `pos n`, which is n, and `negsuc n`, which is −(n + 1). `eqb`, `leb`, `ltb` test =, ≤, < of whole numbers; `eq`, `le`, `lt` those of
-- floats, where a NaN fails each of them. `a ≡ b` is the statement that a and b are equal, `⊎` is "or", `×` is "and". A Float is a number of IEEE
-- 754, with one NaN; `f32 0x..` and `f64 0x..` are the numbers with these bits. `unfoldable` and `abbrev` only say how proofs see through a name.
pub mod Refusals
pub mod Floats
pub mod Slices
pub mod Gains
pub mod Phase
pub mod Points
pub mod Turns
pub mod Sample
pub mod Rules
pub mod Run
pub mod Calls
pub mod Paths
pub mod Packed
pub mod Rows
pub mod Examples
pub mod Samples
pub mod Marks
pub mod Numbers
pub mod Refused
pub mod Constants
pub mod Edges
