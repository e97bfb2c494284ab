use Rattle.data_port.proofs.Laws as laws
use Rattle.data_port.proofs.stream_laws.more_bytes_add_requests.Goals as goal

pub returns : goal.returns
returns c = record {
  bad = laws.bad_stays;
  ended = laws.bad_ends_requests;
  requests = laws.requests_are_added;
}
