-- What the proofs of functions share.
-- Rooms: the bytes that words leave of a room.
pub mod Rooms
