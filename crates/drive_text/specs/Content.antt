-- For proofs: what a line of a drive has, as the list of its runs. `text_runs` says which text has which.
use Rattle.std.specs.Prelude.{[], ◌∷◌, List}
use Rattle.drive_text.specs.declared.{fields.Content.{Content, TheVariants.{Nothing, One}}, run.Run.{Run}}

-- a line with a run has that run alone, and a line with nothing has none
abbrev pub runs_of : Content → List Run
runs_of Nothing = []
runs_of (One run) = run ∷ []
