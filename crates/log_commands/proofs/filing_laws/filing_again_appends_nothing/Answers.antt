use Rattle.log_commands.proofs.FiledLaws.{ends_again, files_again}
use Rattle.log_commands.proofs.filing_laws.filing_again_appends_nothing.Goals as goal

pub returns : goal.returns
returns c = record {
  files = files_again;
  ends = λ newest last roll filed place h. ends_again newest roll filed last place h;
  calls = λ image roll rest end found filed nothing up. nothing found filed rest up.stands up.of;
}
