-- Laws that several functions use, then a folder for each function.
-- ListReadings: what is printed for the text of a list that the reader refused or read.
pub mod ListReadings
-- FlattenedTexts: that the text of a program's list has room, and what is refused.
pub mod FlattenedTexts
