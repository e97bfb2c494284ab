-- Made by tools/make/imports: what several files of this crate bring in of its types and of crates below.
pub use Rattle.drive_text.specs.{Reading.{HasTaken, Reading}, declared.run.Run.{Run}}
