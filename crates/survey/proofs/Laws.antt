-- That a call is answered alike from both ends: of one cell, of a stage, of a step, of its checks, and of the lent tables.
pub mod Signs
pub mod CellTwice
pub mod Cell
pub mod Surveys
pub mod Faces
pub mod Finishing
pub mod Step
pub mod Reversed
pub mod Checks
pub mod Twice
pub mod Both
pub mod Lent
