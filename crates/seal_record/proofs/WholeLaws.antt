-- A text that is read says its parameters.
use Rattle.std.proofs.Common.{[], ℕ, ◌+◌, ◌↔◌, ◌∷◌, ◌≡◌, Bool, Err, List, Ok, arith, false, if◌then◌else◌, length, ltb}
use Rattle.std.proofs.{Common.{refl, subst, true}, lemmas.Bool.{le-ltb, ltb-false}}
use Rattle.seal_record.{specs.{Common.{Params, TooLong}, Lines.{lines_of}}, proofs.PlainTexts.{whole_again}}
use Rattle.seal_record.specs.{ParamLineStages.{line_read}, ParamText.{AreAllParams, IsTextOfParams, LinesAddParams}}
use Rattle.seal_record.specs.{ParamText.LinesAddParams.{no_line, one_line}, ParamsSoFar.{ParamsSoFar, no_params_yet}}
use Rattle.seal_record.{specs.Reading.{and_then, lines_read, params_read, whole}, proofs.TextLaws.{lines_make_the_text}}
use Rattle.seal_record.proofs.{LineLaws.{lines_say_their_parameter}, ParamRanges.{went_on, whole_is}}

pub say_on : (said after : ParamsSoFar) (number : ℕ) (lines : List (List ℕ)) → lines_read said number lines ≡ Ok after
    → LinesAddParams said lines after
unfolding lines_read
say_on said after number [] e = let same : said ≡ after = cc in subst (LinesAddParams said []) same (no_line said)
say_on said after number (line ∷ lines) e =
    let on =
    went_on (line_read said number line) (λ (more : ParamsSoFar). lines_read more (number + 1) lines) after e in
    one_line said on.0 after line lines ((lines_say_their_parameter said on.0 number line).0 on.1)
    (say_on on.0 after (number + 1) lines on.2)

pub say_from : (said after : ParamsSoFar) (number : ℕ) (lines : List (List ℕ)) → LinesAddParams said lines after
    → lines_read said number lines ≡ Ok after
unfolding lines_read
say_from said after number lines (no_line s) = refl
say_from said after number lines (one_line s more a line ls says on) =
    rw ((lines_say_their_parameter s more number line).1 says) (say_from more a (number + 1) ls on)

whole_from : (said : ParamsSoFar) (params : Params) → AreAllParams said params → whole said ≡ Ok params
whole_from said params all =
    rw (all.taxi, all.constant, all.mode, all.hold_time, all.offsets, all.secured)
    (whole_again params params.secured params.offsets (omega (arith, all.some)))

text_by : (long : Bool) (text : List ℕ) (params : Params) → ltb 65536 (length text) ≡ long
    → (if long then Err TooLong else and_then (lines_read no_params_yet 1 (lines_of text)) whole) ≡ Ok params
    → IsTextOfParams text params
text_by true text params is e = absurd cc
text_by false text params is e =
    let on = went_on (lines_read no_params_yet 1 (lines_of text)) whole params e in
    let said = on.0 in
    record {
      few = ltb-false 65536 (length text) is;
      lines = lines_of text;
      said = said;
      are_lines = (lines_make_the_text text (lines_of text)).0 refl;
      say = say_on no_params_yet said 1 (lines_of text) on.1;
      all = whole_is said.taxi said.constant said.mode said.hold_time said.offsets said.secured params on.2;
    }

text_says : (text : List ℕ) (params : Params) → params_read text ≡ Ok params → IsTextOfParams text params
unfolding params_read
text_says text params e = text_by (ltb 65536 (length text)) text params refl e

text_from : (text : List ℕ) (params : Params) → IsTextOfParams text params → params_read text ≡ Ok params
unfolding params_read
text_from text params says =
    rw (
      le-ltb 65536 (length text) says.few,
      (lines_make_the_text text says.lines).1 says.are_lines,
      say_from no_params_yet says.said 1 says.lines says.say,
    )
    (whole_from says.said params says.all)

pub texts_say_their_parameters : (text : List ℕ) (params : Params) → (params_read text ≡ Ok params)
    ↔ IsTextOfParams text params
texts_say_their_parameters text params = (text_says text params, text_from text params)
