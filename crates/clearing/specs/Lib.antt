pub mod Evenings
pub mod Kind
pub mod Matching
pub mod Rule
pub mod Statements
