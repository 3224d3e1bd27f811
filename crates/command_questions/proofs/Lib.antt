-- Laws that several functions use, then a folder for each function.
-- ToldLines: the lines of what a program can write.
pub mod ToldLines
-- Kernels: what the translator wrote is a kernel program whose text has room.
pub mod Kernels
-- Printed: what the printer wrote, or refused, is what is printed.
pub mod Printed
-- JoinedTexts: what was written by a join is a source program whose text has room.
pub mod JoinedTexts
