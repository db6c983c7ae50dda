-- Laws of whole numbers that the prover lacks, each said once. Nothing here is about water.
pub mod Flags
pub mod Parts
pub mod Difference
pub mod Ring
pub mod Tests
pub mod Quotient
pub mod Choice
pub mod Largest
pub mod Root
pub mod Machine
pub mod Equal
pub mod Signs
