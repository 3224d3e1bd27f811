-- Laws that several functions use, then a folder for each function.
-- Readings: what is printed for a text that the reader refused or read.
pub mod Readings
-- Printing: tables that have room for a program, and that the text of a table has room.
pub mod Printing
