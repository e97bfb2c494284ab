use Rattle.data_port.proofs.Laws as laws
use Rattle.data_port.proofs.stream_laws.pieces_give_the_requests_of_all_bytes.Goals as goal

pub returns : goal.returns
returns c = record {
  requests = laws.pieces_give_requests;
  cuts = laws.pieces_give_the_same;
}
