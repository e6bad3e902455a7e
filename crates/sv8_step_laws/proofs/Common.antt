-- The lemmas that proofs of the crates above cite, passed on from one place. Declares nothing.
pub use Rattle.sv8_step_laws.proofs.Touched.{touched_is}
pub use Rattle.sv8_step_laws.proofs.Spared.{ram_stays_long}
pub use Rattle.sv8_step_laws.proofs.Data.{accesses_are_data, spared_bytes_stay}
pub use Rattle.sv8_step_laws.proofs.Fetched.{annulled_steps_pass, fetches_touch}
pub use Rattle.sv8_step_laws.proofs.Trapping.{traps_lead_there, trap_types_lead_there}
pub use Rattle.sv8_step_laws.proofs.Console.{consoles_grow}
pub use Rattle.sv8_step_laws.proofs.Windows.{other_windows_stay}
