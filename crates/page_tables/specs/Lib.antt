-- The pages of legal kernel tables. A line of comment for each file.

-- ---- laws
-- Kinds of trees: in a structured table a row's kind is that of the tree decoded there.
pub mod TreeKinds
-- Items: a row that is an item of a list is a statement, a label or a definition.
pub mod Items
-- Alike rows: rows with the same tree have the same kind and numbers, and link rows with the same trees.
pub mod Alike
-- Renumbering: two structured kernel tables with the same tree are each other's rows under other numbers.
pub mod Renumbering
-- Programs: the lines of a kernel program whose calls are in order fit.
pub mod Programs
-- Parameters of a legal kernel table have words of their own.
pub mod Parameters
-- Laws of tables: the page of every legal kernel table has 80 columns, few lines, and gives back its rows, up to numbering.
pub mod TableLaws
