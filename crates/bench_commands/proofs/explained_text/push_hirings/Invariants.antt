use Rattle.std.proofs.Common.{◌++◌, ◌+◌, ◌≡◌, ◌≤◌, drop, map}
use Rattle.bench_commands.specs.{Common.{explanation_of}, ExplainedText.{hiring_text, numbered_texts}}
use Rattle.bench_commands.proofs.explained_text.push_hirings.Given as goal

-- the hirings so far, and those that are left
abbrev pub invariant-loop-hiring : goal.invariant-loop-hiring
invariant-loop-hiring l = record {
  text : l.text.items
      ++ numbered_texts (hiring_text l.scale) (l.number + 1) (map explanation_of (drop l.hiring-index l.explained))
      ≡ l.fn.text.items ++ numbered_texts (hiring_text l.scale) 1 (map explanation_of l.explained);
  count : l.number ≤ l.hiring-index;
}
