-- What follows from the rules and from what the functions say.
pub mod PoolSizes
pub mod CrestSizes
pub mod FaceSizes
pub mod RowsAreRules
pub mod LentChecks
pub mod OneStage
pub mod OnTables
pub mod Answered
