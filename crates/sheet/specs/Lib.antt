pub mod Words
pub mod Sheets
pub mod Writing
pub mod Sections
pub mod Standing
pub mod Verdicts
pub mod EntryFiles
pub mod Statements
