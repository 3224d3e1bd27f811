-- Laws of this crate's definitions. A line of comment for each file.
-- Laws of the translation's answer: which of three it is; a translation that was made stands at the start of both tables.
pub mod TranslationLaws
-- Laws of room: where 20×n+20 rows are lent, an accepted program is translated.
pub mod RoomLaws
