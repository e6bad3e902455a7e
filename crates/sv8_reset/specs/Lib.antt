pub mod Loading
pub mod Reset
