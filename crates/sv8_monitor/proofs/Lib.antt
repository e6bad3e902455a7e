pub mod QueryLemmas
pub mod MonitorLemmas
pub mod KeepLemmas
pub mod WorkbenchLemmas
pub mod ConditionLemmas
pub mod Poked
pub mod Counted
