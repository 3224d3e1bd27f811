-- The rules that stand in crate language are accepted by the checks, and so legal. A line of comment for each file.

-- ---- definitions
-- Declaration programs: the rules with declarations as source programs.
pub mod DeclarationPrograms
-- ---- laws
-- Rules accepted: every rule of the table, by the check.
pub mod RulesAccepted
-- Every rule in kernel form, by the kernel check.
pub mod KernelRulesAccepted
-- Every declaration program, by the check; and that it runs as its rule says.
pub mod DeclarationsAccepted
