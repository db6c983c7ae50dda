-- Why the numbers of a stage fit, and why what its functions answer is the rule's.
pub mod Around
pub mod CellSizes
pub mod FrictionRange
pub mod UpdateSizes
pub mod Faces
pub mod RowsAreRules
pub mod StateSizes
pub mod FaceSpeeds
pub mod OneStage
pub mod EndOfStage
pub mod TwoStages
pub mod LentChecks
pub mod LentNumber
pub mod OnTables
pub mod OneAnswer
