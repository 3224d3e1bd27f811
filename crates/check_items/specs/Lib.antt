-- The items of lists. A line of comment for each file.

-- ---- definitions
-- Items: the items of the list that a field begins; the items of a sort before a row in its own list.
pub mod Items
