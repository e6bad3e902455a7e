pub mod Keys
pub mod Gathering
pub mod Sizes
pub mod UsedNames
pub mod InOrder
pub mod Common
