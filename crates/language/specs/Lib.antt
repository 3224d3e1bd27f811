-- The language of both forms: document 01's kinds as trees, and what they do. A line of comment for each file.

-- ---- definitions
-- Trees: expressions, places, arguments, statements, arms, items.
pub mod Trees
-- Decode: the tree that rows hold.
pub mod Decode
-- Meaning: what trees do, one clause a kind, under the sentence of the papers that it states.
pub mod Meaning
-- Functions: what a call does.
pub mod Functions
-- Calls: which functions a tree calls, and with how many arguments.
pub mod Calls
-- Programs: the items of a table of rows, and the run of a table.
pub mod Program
-- Rules: what a rule on the shelf is; document 01's starred rules; orders that surprise; rules that pin each clause, by subject; all as
-- one table, those in kernel form as another, those with declarations as a third, those with functions as a fourth.
pub mod Rule
pub mod StarredRules
pub mod SurprisingOrders
pub mod ArithmeticRules
pub mod ComparisonRules
pub mod ExpressionRules
pub mod StatementRules
pub mod LoopRules
pub mod GuardedRules
pub mod KernelRules
pub mod DeclarationRules
pub mod FunctionRules
pub mod Rules
-- Write sets: which variables an expression can write; which a statement and a function can.
pub mod Writes
pub mod FunctionWrites
-- Sizes: the rows and the depth of a tree.
pub mod Sizes
-- Well-formed trees: numbers in range; break, continue, case, default and return in place; calls in order.
pub mod WellFormed
-- Sound tables: what a run asks of a table.
pub mod Sound
-- Untouched words: computations that leave a word alone.
pub mod Untouched
-- What it is for every rule of the four tables to hold.
pub mod RulesHold
-- ---- laws
-- Laws of trees: one list of items behind another, the marks that a list has, the rows of a statement.
pub mod TreeLaws
-- Laws of decode: a row's tree by its kind.
pub mod DecodeLaws
-- Fields by role: where a field holds the same in each role of its kind.
pub mod FieldRoles
-- Laws of sound tables: what a row's field holds, by the row's kind.
pub mod SoundLaws
