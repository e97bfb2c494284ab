-- Sums over the prefixes of a chain.
use Rattle.std.proofs.Common.{[], ℕ, ◌∙◌, ◌∷◌, ◌≡◌, List, Option, ap, arith, drop, refl, subst, take}
use Rattle.{outside.proofs.Laws.{same_slice}, slot_store.{specs.Scan.{verdict_on}, proofs.Laws.{body_found}}}
use Rattle.{totals_record.proofs.Laws.{changes_add_up, states_follow_in_turn}, run_chains.specs.Link.{Link, prefix_of}}
use Rattle.{seal_record.specs.Decoding.{reads, seal_number_of}, drive_commands.proofs.Laws.{outside_then, same_outside}}
use Rattle.run_chains.specs.Chain.{HasChain, IsChain, Ran, last_image, last_state, prefixes_of}
use Rattle.run_chains.specs.Common.{Durable, FilesState, Fill, GrowsBy, HasSeal, IsOfTotals, SameBut, Seal}
use Rattle.run_chains.proofs.ChainScan.{seal_at}

pub chain-state : (d : Durable) (image : List ℕ) (links : List Link) → IsChain d image links
    → GrowsBy d (last_state d links) (prefixes_of d image links)
chain-state d image [] chain = changes_add_up d []
chain-state d image (link ∷ links) chain =
    states_follow_in_turn d link.found (last_state link.found links) (prefix_of d image link)
    (prefixes_of link.found link.image links) chain.0.follows
    (chain-state link.found link.image links chain.1)

-- the bytes of the seal stay
pub chain-bytes : (d : Durable) (image : List ℕ) (links : List Link) → IsChain d image links
    → SameBut IsOfTotals image (last_image image links)
chain-bytes d image [] chain = same_outside image image refl
chain-bytes d image (link ∷ links) chain =
    outside_then image link.image (last_image link.image links) chain.0.seal_stays
    (chain-bytes link.found link.image links chain.1)

pub chain-last : {ran : Ran} (d : Durable) (image : List ℕ) (files left : List FilesState)
    (cuts : List (Option (ℕ × Fill))) (last : List ℕ) (answers : List (ℕ × ℕ))
    → HasChain ran d image files left cuts last answers → SameBut IsOfTotals image last
chain-last d image files left cuts last answers h =
    subst (λ (l : List ℕ). SameBut IsOfTotals image l) h.last_is (chain-bytes d image h.links h.chain)

-- and so the seal does
pub chain-seal : (image last : List ℕ) (seal : Seal) → HasSeal image seal → SameBut IsOfTotals image last
    → HasSeal last seal
chain-seal image last seal has same =
    let first : take 512 (drop 1024 last) ≡ take 512 (drop 1024 image) =
    same_slice IsOfTotals image last 1024 512 same (λ byte within touched. omega (arith, within.low, touched.high)) in
    let second : take 512 (drop 1536 last) ≡ take 512 (drop 1536 image) =
    same_slice IsOfTotals image last 1536 512 same (λ byte within touched. omega (arith, within.low, touched.high)) in
    let found = body_found reads seal_number_of 1024 image seal has in
    seal_at last found.0 seal
    (ap (λ (x : List ℕ). verdict_on reads seal_number_of x (take 512 (drop 1536 last))) first
    ∙ ap (λ (x : List ℕ). verdict_on reads seal_number_of (take 512 (drop 1024 image)) x) second ∙ found.1)
