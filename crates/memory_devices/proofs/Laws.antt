-- The law of the moments of a board in memory.
pub use Rattle.memory_devices.specs.MomentLaws.{counts_now}
