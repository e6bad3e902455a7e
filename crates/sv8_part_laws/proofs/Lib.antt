pub mod Choice
pub mod Placing
pub mod ServedPlaces
pub mod OnLiterals
