-- Readers and writers of whole files: how their calls are counted, and what reading a piece and writing a whole text do
-- to the bytes that a reader has left and a writer holds.
pub mod Transfer
pub mod Watch
