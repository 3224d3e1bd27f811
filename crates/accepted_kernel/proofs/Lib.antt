-- Laws of this crate's definitions. A line of comment for each file.
-- Kernel: what a legal kernel program gives to its users.
pub mod Kernel
