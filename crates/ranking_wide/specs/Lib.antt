pub mod Keys
pub mod Leaves
pub mod Trees
pub mod Sound
pub mod Books
pub mod Indexes
