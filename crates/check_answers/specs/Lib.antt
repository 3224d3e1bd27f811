-- What the checks answer of small programs: accepted at each limit, refused beyond it. A line of comment for each file.

-- ---- definitions
-- Sample: a program as words, and what a check must answer of it.
pub mod Sample
-- The samples, worked out from documents 01 and 02: source programs, those with declarations apart; kernel programs; those with functions.
pub mod DeclarationSamples
pub mod SourceSamples
pub mod KernelSamples
pub mod FunctionSamples
pub mod KernelFunctionSamples
-- ---- laws
-- The theorems: the checks answer so; and the limits that are too large for a sample.
pub mod SourceAnswers
pub mod KernelAnswers
pub mod FunctionAnswers
pub mod LimitAnswers
