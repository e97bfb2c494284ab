use Rattle.std.proofs.Common.{[], ℕ, ◌++◌, ◌<◌, ◌∙◌, ◌≡◌, ◌≢◌, List, Ok, ap, arith, subst, sym, take}
use Rattle.drive_source.{specs.Common.{HasTaken, Reading}, proofs.SourceSteps.{stops_end, stops_fault, stops_long}}
use Rattle.drive_source.specs.Source.{Progress}
use Rattle.drive_source.proofs.source.Source.read_piece.Goals as goal

-- after a read of no bytes the same is left
nothing_left : (n : ℕ) (buf old new : List ℕ) → n ≡ 0 → old ≡ take n buf ++ new → old ≡ [] → new ≡ []
nothing_left n buf old new none e empty = sym (e ∙ ap (λ (k : ℕ). take k buf ++ new) none) ∙ empty

some_left : (place : Progress) (left : ℕ) → left ≡ place.left → left ≢ 0 → 0 < place.left
some_left place left same some = omega (arith, same, some)

pub returns-then-self-eq0-clause-stops : goal.returns-then-self-eq0-clause-stops
returns-then-self-eq0-clause-stops g c = λ given h.
    stops_long g.F.Files.tells c.args.self.now _ given c.requires.none
    (sym (ap (λ (p : Progress). p.left) c.self.view_is) ∙ c.if-self-eq0.true) h

pub returns-in-Err-clause-stops : goal.returns-in-Err-clause-stops
returns-in-Err-clause-stops g c = λ given h.
    stops_fault g.F.Files.tells c.args.self.now _ _ given c.requires.none (some_left c.args.self.now c.self.inside.left
    (ap (λ (p : Progress). p.left) c.self.view_is) c.if-self-eq0.false) c.in-Err.ensures.kept h

pub returns-in-Ok-eq0-clause-stops : goal.returns-in-Ok-eq0-clause-stops
returns-in-Ok-eq0-clause-stops g c = λ given h.
    let over : g.F.Files.tells → g.F.Files.rest c.args.files.now c.args.word ≡ [] =
    λ told. c.read.ensures.over told (c.in-Ok-eq0.is ∙ ap Ok c.in-Ok-eq0.field-0-test) in
    let same : c.self.inside.reader ≡ c.args.self.now.reading = ap (λ (p : Progress). p.reading) c.self.view_is in
    stops_end g.F.Files.tells c.args.self.now _ _ given _ c.requires.none (some_left c.args.self.now c.self.inside.left
    (ap (λ (p : Progress). p.left) c.self.view_is) c.if-self-eq0.false) over
    (λ told. nothing_left _ _ _ _ c.in-Ok-eq0.field-0-test (c.in-Ok-eq0.ensures.taken told) (over told))
    (λ is b taken. c.end.ensures.whole is b (subst (λ (r : Reading). HasTaken r b) (sym same) taken))
    (λ line is b taken. c.end.ensures.bad line is b (subst (λ (r : Reading). HasTaken r b) (sym same) taken))
    c.end.ensures.not_long c.end.ensures.not_fault h
