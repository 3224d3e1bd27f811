-- What the check's code says beside the definitions of crate flat.

-- ---- definitions
