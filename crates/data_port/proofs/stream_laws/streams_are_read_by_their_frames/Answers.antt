use Rattle.data_port.proofs.Laws as laws
use Rattle.data_port.proofs.stream_laws.streams_are_read_by_their_frames.Goals as goal

pub returns : goal.returns
returns c = record {
  so_far = laws.stream_so_far;
  at_end = laws.stream_at_end;
  bad = laws.bad_streams;
  unfinished = laws.unfinished_streams;
}
