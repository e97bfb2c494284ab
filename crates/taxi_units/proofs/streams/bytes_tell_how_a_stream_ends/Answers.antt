use Rattle.taxi_units.proofs.StreamEnds.{bad_stream_ends, endless_stream_ends, unfinished_stream_ends}
use Rattle.taxi_units.proofs.StreamEnds.{whole_stream_ends}
use Rattle.taxi_units.proofs.streams.bytes_tell_how_a_stream_ends.Goals as goal

pub returns : goal.returns
returns c = record {
  whole = whole_stream_ends;
  unfinished = unfinished_stream_ends;
  bad = bad_stream_ends;
  endless = endless_stream_ends;
}
