-- What a translation is besides sharing its program's fate. A line of comment for each file.

-- ---- definitions
-- The sizes and levels of a translation in which every result goes through a temporary.
pub mod ThroughTemporaries
-- ---- laws
-- Every translation has kernel form: shapes and jumps.
pub mod TranslateForm
-- The variables and arrays that a translation names.
pub mod TranslateNames
-- What has names of a property has names of every weaker one.
pub mod MoreNames
-- At most twice the depth, plus 1.
pub mod TranslateDepth
-- No program gets more rows or temporaries by it.
pub mod Savings
-- Blind code: kernel code that reads no temporary before it has written it.
pub mod BlindCode
-- The code of every source tree is such code.
pub mod TranslateBlind
