pub mod Words
pub mod Following
pub mod Lines
pub mod Letters
pub mod Checks
pub mod Telling
pub mod Statements
