pub mod WordLaws
pub mod Worked
pub mod StatementLaws
pub mod LayoutLaws
pub mod NameLaws
pub mod FaultLaws
