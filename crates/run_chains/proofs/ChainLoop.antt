-- A chain with one run more, and the places that a loop has gone through.
use Rattle.std.proofs.Common.{[], ℕ, ◌++◌, ◌+◌, ◌<◌, ◌∙◌, ◌∷◌, ◌≡◌, ◌≤◌, List, Option, ap, arith, drop, get_or, length}
use Rattle.std.proofs.Common.{map, refl, set, subst, sym, take}
use Rattle.std.proofs.lemmas.List.{drop-drop, drop-set-lt, get_or-drop, take_all, take_more, take_more_set}
use Rattle.run_chains.specs.{Chain.{AreCalls, HasChain, IsChain, Ran, last_image, last_state}, ChainSteps.{HasLink}}
use Rattle.run_chains.specs.{Common.{Durable, FilesState, Fill, HasState, new_board}, Link.{IsLink, Link}}

-- ---- one run more

same_more : {T : Type 0} (xs ys : List T) (x y : T) → xs ≡ ys → x ≡ y → xs ++ x ∷ [] ≡ ys ++ y ∷ []
same_more xs ys x y e f = cc

map_more : {T : Type 0} (f : Link → T) (links : List Link) (link : Link)
    → map f (links ++ link ∷ []) ≡ map f links ++ f link ∷ []
map_more f [] link = refl
map_more f (first ∷ links) link = ap (λ l. f first ∷ l) (map_more f links link)

listed_more : {T : Type 0} (f : Link → T) (links : List Link) (link : Link) (xs : List T) (x : T) → map f links ≡ xs
    → f link ≡ x → map f (links ++ link ∷ []) ≡ xs ++ x ∷ []
listed_more f links link xs x e is = map_more f links link ∙ same_more (map f links) xs (f link) x e is

image_more : (image : List ℕ) (links : List Link) (link : Link) → last_image image (links ++ link ∷ []) ≡ link.image
image_more image [] link = refl
image_more image (first ∷ links) link = image_more first.image links link

state_more : (d : Durable) (links : List Link) (link : Link) → last_state d (links ++ link ∷ []) ≡ link.found
state_more d [] link = refl
state_more d (first ∷ links) link = state_more first.found links link

links_more : (d : Durable) (image : List ℕ) (links : List Link) (link : Link) → IsChain d image links
    → IsLink (last_state d links) (last_image image links) link
    → IsChain d image (links ++ link ∷ [])
links_more d image [] link chain is = (is, tt)
links_more d image (first ∷ links) link chain is = (chain.0, links_more first.found first.image links link chain.1 is)

calls_more : (ran : Ran) (image : List ℕ) (links : List Link) (link : Link) → AreCalls ran image links
    → ran link.files (new_board (last_image image links) []) link.files_left link.board link.status
    → AreCalls ran image (links ++ link ∷ [])
calls_more ran image [] link calls call = (call, tt)
calls_more ran image (first ∷ links) link calls call =
    (calls.0, calls_more ran first.image links link calls.1 call)

-- a chain of no runs
pub none_yet : {ran : Ran} (d : Durable) (image : List ℕ) (answers : List (ℕ × ℕ)) → answers ≡ [] → HasState image d
    → HasChain ran d image [] [] [] image answers
none_yet {ran} d image answers e has = record {
  links = [];
  chain = tt;
  calls = tt;
  files_are = refl;
  left_are = refl;
  cuts_are = refl;
  answers_are = sym e;
  last_is = refl;
  stands = has;
}

one_more : {ran : Ran} (d : Durable) (image : List ℕ) (files left : List FilesState) (cuts : List (Option (ℕ × Fill)))
    (last : List ℕ) (answers : List (ℕ × ℕ)) (h : HasChain ran d image files left cuts last answers)
    (file file' : FilesState) (cut : Option (ℕ × Fill)) (status : ℕ) (next : List ℕ) (number : ℕ)
    → HasLink ran (last_state d h.links) last file file' cut status next number
    → HasChain ran d image (files ++ file ∷ []) (left ++ file' ∷ []) (cuts ++ cut ∷ []) next
    (answers ++ (status, number) ∷ [])
one_more {ran} d image files left cuts last answers h file file' cut status next number one =
    let found : HasState next one.link.found =
    subst (λ (l : List ℕ). HasState l one.link.found) one.image_is one.is.stands in
    let answer : (ℕ × ℕ) = (status, number) in
    record {
      links = h.links ++ one.link ∷ [];
      chain = links_more d image h.links one.link h.chain
          (subst (λ (l : List ℕ). IsLink (last_state d h.links) l one.link) (sym h.last_is) one.is);
      calls = calls_more ran image h.links one.link h.calls
          (subst (λ (l : List ℕ). ran one.link.files (new_board l []) one.link.files_left one.link.board
          one.link.status) (sym h.last_is) one.call);
      files_are = listed_more (λ (link : Link). link.files) h.links one.link files file h.files_are one.files_are;
      left_are = listed_more (λ (link : Link). link.files_left) h.links one.link left file' h.left_are one.left_are;
      cuts_are = listed_more (λ (link : Link). link.cut) h.links one.link cuts cut h.cuts_are one.cut_is;
      answers_are =
          listed_more (λ (link : Link). (link.status, link.number)) h.links one.link answers answer h.answers_are cc;
      last_is = image_more image h.links one.link ∙ one.image_is;
      stands = subst (λ (e : Durable). HasState next e) (sym (state_more d h.links one.link)) found;
    }

-- ---- where a loop is

same_item : {T : Type 0} (xs ys : List T) (i : ℕ) (d : T) → drop i xs ≡ drop i ys → get_or xs i d ≡ get_or ys i d
same_item xs ys i d e =
    let none : i + 0 ≡ i = omega arith in
    ap (λ (n : ℕ). get_or xs n d) (sym none) ∙ sym (get_or-drop i xs 0 d) ∙ ap (λ l. get_or l 0 d) e
    ∙ get_or-drop i ys 0 d ∙ ap (λ (n : ℕ). get_or ys n d) none

-- what isn't reached yet stays
pub rest_more : {T : Type 0} (xs ys : List T) (i : ℕ) (y : T) → drop i xs ≡ drop i ys
    → drop (i + 1) (set xs i y) ≡ drop (i + 1) ys
rest_more xs ys i y e =
    drop-set-lt (i + 1) xs i y (omega arith) ∙ sym (drop-drop 1 i xs) ∙ ap (λ l. drop 1 l) e ∙ drop-drop 1 i ys

-- the run of the next place
pub next_run : {ran : Ran} (d : Durable) (image : List ℕ) (files now : List FilesState)
    (cuts : List (Option (ℕ × Fill))) (last : List ℕ) (answers : List (ℕ × ℕ)) (i : ℕ)
    (h : HasChain ran d image (take i files) (take i now) (take i cuts) last answers) → drop i now ≡ drop i files
    → i < length files → length now ≡ length files → length cuts ≡ length files
    → (file file' : FilesState) (cut : Option (ℕ × Fill)) (status : ℕ) (next : List ℕ) (number : ℕ)
    (answered : List (ℕ × ℕ)) → answered ≡ answers ++ (status, number) ∷ []
    → HasLink ran (last_state d h.links) last (get_or now i file) file' (get_or cuts i cut) status next number
    → HasChain ran d image (take (i + 1) files) (take (i + 1) (set now i file')) (take (i + 1) cuts) next answered
next_run {ran} d image files now cuts last answers i h rest lt long few file file' cut status next number
    answered pushed one =
    let longer = one_more d image (take i files) (take i now) (take i cuts) last answers h (get_or now i file) file'
    (get_or cuts i cut) status next number one in
    let fs : take i files ++ get_or now i file ∷ [] ≡ take (i + 1) files =
    ap (λ x. take i files ++ x ∷ []) (same_item now files i file rest) ∙ sym (take_more files i file lt) in
    let ls : take i now ++ file' ∷ [] ≡ take (i + 1) (set now i file') =
    sym (take_more_set now i file' (omega arith)) in
    let cs : take i cuts ++ get_or cuts i cut ∷ [] ≡ take (i + 1) cuts = sym (take_more cuts i cut (omega arith)) in
    subst (λ l. HasChain ran d image l (take (i + 1) (set now i file')) (take (i + 1) cuts) next answered) fs
    (subst (λ l. HasChain ran d image (take i files ++ get_or now i file ∷ []) l (take (i + 1) cuts) next answered) ls
    (subst (λ l. HasChain ran d image (take i files ++ get_or now i file ∷ []) (take i now ++ file' ∷ []) l next
    answered) cs
    (subst (λ l. HasChain ran d image (take i files ++ get_or now i file ∷ []) (take i now ++ file' ∷ [])
    (take i cuts ++ get_or cuts i cut ∷ []) next l) (sym pushed) longer)))

-- all places were gone through
pub all_run : {ran : Ran} (d : Durable) (image : List ℕ) (files now : List FilesState)
    (cuts : List (Option (ℕ × Fill))) (last : List ℕ) (answers : List (ℕ × ℕ)) (i : ℕ)
    → length files ≤ i → length now ≡ length files → length cuts ≡ length files
    → HasChain ran d image (take i files) (take i now) (take i cuts) last answers
    → HasChain ran d image files now cuts last answers
all_run {ran} d image files now cuts last answers i end long few h =
    subst (λ l. HasChain ran d image l now cuts last answers) (take_all i files end)
    (subst (λ l. HasChain ran d image (take i files) l cuts last answers) (take_all i now (omega arith))
    (subst (λ l. HasChain ran d image (take i files) (take i now) l last answers) (take_all i cuts (omega arith)) h))
