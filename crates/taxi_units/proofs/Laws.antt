-- The lemmas that are the laws of the crate's public functions.
pub use Rattle.taxi_units.proofs.{Amounts.{amounts_read_back}, Digits.{digits_in_front, numbers_grow_by_their_digits}}
pub use Rattle.taxi_units.proofs.{Appends.{appended_behind}, Form.{decimals_are_read_by_their_form}}
pub use Rattle.taxi_units.proofs.Figures.{figures_are_read_by_their_digits, figures_in_front_are_read_by_their_digits}
pub use Rattle.taxi_units.proofs.Figures.{numbers_are_written_as_figures, padded_numbers_are_written_as_figures}
pub use Rattle.taxi_units.proofs.{Front.{digits_are_counted}, Spelled.{padded_numbers_are_written_by_their_digits}}
pub use Rattle.taxi_units.proofs.{Halvings.{ends_after}, Numbers.{numbers_are_read_by_their_digits, numbers_read_back}}
pub use Rattle.taxi_units.proofs.Lengths.{amounts_are_short, numbers_are_short, padded_numbers_fill_the_width}
pub use Rattle.taxi_units.proofs.{Numbers.{wide_numbers_are_read_by_their_digits}, Words.{words_are_read_by_their_text}}
pub use Rattle.taxi_units.proofs.Places.{dates_have_places, dates_in_order, places_have_dates}
pub use Rattle.taxi_units.proofs.Spelled.{amounts_are_written_by_their_digits, numbers_are_written_by_their_digits}
pub use Rattle.taxi_units.proofs.StreamEnds.{bad_stream_ends, bad_stream_reached, endless_stream_ends}
pub use Rattle.taxi_units.proofs.StreamEnds.{endless_stream_reached, limits_fall_behind_what_was_taken}
pub use Rattle.taxi_units.proofs.StreamEnds.{limits_have_all_that_was_taken, unfinished_stream_ends}
pub use Rattle.taxi_units.proofs.StreamEnds.{unfinished_stream_reached, whole_stream_ends, whole_stream_reached}
