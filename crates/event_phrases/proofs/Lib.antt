pub mod Options
pub mod SetsBelow
pub mod Views
pub mod Rows
pub mod Beginnings
pub mod EventNumbers
pub mod EventSetLaws
pub mod TwoSets
pub mod Images
pub mod Scopes
pub mod Renamings
pub mod Unused
pub mod Passing
pub mod PrefixParts
pub mod FirstValues
mod NodeParts
mod CopiedInputs
mod FieldSteps
mod FieldForms
mod RowSteps
