-- The two roles of kind 58, parameter and declaration. A line of comment for each file.

-- ---- definitions
-- Roles: which rows are parameters, and what the fields of a row hold by its role.
pub mod Roles
-- Demands: what makes a row a parameter, as a relation in the request's words.
pub mod Demands
-- Passes: what the pass that marks the parameters computes.
pub mod Passes
