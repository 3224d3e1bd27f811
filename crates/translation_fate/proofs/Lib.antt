-- Laws of this crate's definitions. A line of comment for each file.
-- What the kernel form of an accepted program promises, promise by promise.
pub mod KernelFormLaws
-- The theorem: every accepted program has such a kernel form.
pub mod HasKernelForm
-- A legal kernel program that shows a temporary: the view hides them in translations, not in every kernel program.
pub mod ShownTemporary
