-- What the promises speak of: `Seen`, `SeenSums`, `SeenSill` and `SeenBefore` name it, and `Cases` has the calls that are worked. The
-- promises themselves stand in proofs/, where `Promises` is the page to read: an edit of what they speak of, or of one of them, is then
-- refused for a theorem that no longer holds.
pub mod Seen
pub mod SeenSums
pub mod SeenSill
pub mod SeenBefore
pub mod First
pub mod ByChecks
pub mod Outcomes
pub mod SillTables
pub mod ToldAnswers
pub mod Cases
