-- Laws of this crate's definitions. A line of comment for each file.
-- First bytes: numbers up to a limit, and words by their first byte.
pub mod FirstBytes
-- Parts: texts by where a separator parts them, or by what stands around them.
pub mod Parts
-- Sound: bytes that are read as an atom, an element or a value are its bytes, and it fits.
pub mod Sound
-- Sound lines: bytes that are read as a line are that line's, and it fits.
pub mod LineSound
-- Complete: the bytes of each atom, element or value that fits are read as it.
pub mod Complete
-- Complete lines: the bytes of each line that fits are read as it.
pub mod LineComplete
