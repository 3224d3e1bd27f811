-- Laws of this crate's definitions. A line of comment for each file.
-- Laws: every legal kernel program has its flat list; what the code leaves is what the definition says.
pub mod FlatteningLaws
