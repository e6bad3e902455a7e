pub mod Units
pub mod Access
pub mod Events
pub mod WordPokes
pub mod Feeding
pub mod View
pub mod Locating
