-- Laws of this crate's definitions. A line of comment for each file.
-- Every translation is a kernel program's tree.
pub mod TranslateKernel
-- Two runs of a translation that start alike but for the temporaries show the same.
pub mod TemporariesHidden
-- The theorem: temporaries are hidden, under every limit.
pub mod HiddenTemporaries
-- The calls of a translation are in order.
pub mod TranslateCalls
