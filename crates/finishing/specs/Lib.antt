-- When a table cannot be finished, the finished cell, and what the public function says of both. Then what the functions below it
-- speak by, and what follows.
pub mod Unfit
pub mod FinishedCell
pub mod FinishSays
pub mod InTable
pub mod UnfinishedTable
pub mod NumberOf
pub mod Depths
pub mod Laws
