-- Signed: signed words as the code tests them.
pub mod Signed
-- Lengths: headers and their array lengths, as the code sums and tests them.
pub mod Lengths
