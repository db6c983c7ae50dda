-- The promises, each proved: `Promises` is the page to read, `Sums` the one of the water between two faces and `Sill` that of the reach
-- over a stepped bed; `FromC`, `SumsFromC` and `SillFromC` say them of the calls from C, `Changed` what each request changed, and `Cases`
-- that they are not empty. `Outcomes`, `OtherEnd` and `SillTables` lead from what a caller sees to the rules.
pub mod Outcomes
pub mod OtherEnd
pub mod Promises
pub mod Sums
pub mod SillTables
pub mod Sill
pub mod Changed
pub mod FromC
pub mod SumsFromC
pub mod SillFromC
pub mod Cases
