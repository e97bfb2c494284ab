-- Stories, moment by moment.
use Rattle.std.proofs.Common.{[], ◌++◌, ◌∙◌, ◌∷◌, ◌≡◌, List, None, Some, ap, append_assoc, map, refl, sym}
use Rattle.{std.proofs.lemmas.List.{map-append}, verify_bench.specs.Common.{Kind, Moment, Stories, Story}}
use Rattle.verify_bench.specs.{Story.{HiringStory, kind_in, parted_at, stories_from, story_of}, Told.{Adds}}

-- a moment that is no end
pub adds_moment : (moment : Moment) (old new : Stories) → kind_in moment.happening ≡ None
    → new.closed ≡ old.closed → new.begun.items ≡ old.begun.items ++ moment ∷ [] → Adds (moment ∷ []) old new
unfolding stories_from
adds_moment moment old new amid closed grown others = rw (closed, grown, amid) refl

-- the end of a hiring
pub adds_end : (moment : Moment) (kind : Kind) (old new : Stories) (story : Story)
    → kind_in moment.happening ≡ Some kind → new.closed.items ≡ old.closed.items ++ story ∷ []
    → story_of story ≡ record { kind = kind; moments = old.begun.items ++ moment ∷ [] } → new.begun.items ≡ []
    → Adds (moment ∷ []) old new
unfolding stories_from
adds_end moment kind old new story end grown is none others =
    let whole : HiringStory = record { kind = kind; moments = old.begun.items ++ moment ∷ [] } in
    rw (grown, none, end, map-append story_of old.closed.items (story ∷ []), is)
    (append_assoc (map story_of old.closed.items) (whole ∷ []) (stories_from [] others))
