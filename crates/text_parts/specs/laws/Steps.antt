-- The listing's lists step by step: item k, block b, region r, and what follows.
use Rattle.std.specs.Prelude.{◌≡◌, refl, List, [], ◌∷◌, ◌++◌, ℕ, zero, suc, ◌+◌, ◌≤◌, ◌<◌, length, get_or, drop}
use Rattle.std.proofs.Common.{sym, ap, ◌∙◌, add-zero, suc-add, add-suc, le_of_suc-le-suc, add-one, arith, drop_of_length-le, drop-cons}
use Rattle.meaning.specs.Graph.{Instr, Region, nowhere}
use Rattle.format.specs.References.{no_instr}
use Rattle.text.specs.Buffer.{Buffer, Wrote}
use Rattle.text.specs.laws.BufferLaws.{◌▸◌, of_text, wrote_none}
use Rattle.text_parts.specs.Listing.{item_listing, items_text, block_text, blocks_text, region_text, regions_text}

pub items_text_length : (r k : ℕ) (b : List Instr) → length (items_text r k b) ≡ length b
unfolding items_text
items_text_length r k [] = refl
items_text_length r k (i ∷ b) = ap suc (items_text_length r (suc k) b)

pub items_at : (r k : ℕ) (b : List Instr) (j : ℕ) → j < length b → item_listing r (k + j) (get_or b j no_instr) ≡ get_or (items_text r k b) j []
unfolding items_text
items_at r k [] j h = absurd (omega arith)
items_at r k (i ∷ b) zero h = ap (λ n. item_listing r n i) (add-zero k)
items_at r k (i ∷ b) (suc j) h =
    ap (λ n. item_listing r n (get_or b j no_instr)) (add-suc k j ∙ sym (suc-add k j)) ∙ items_at r (suc k) b j (le_of_suc-le-suc h)

pub wrote_block : {o p q : Buffer} (r k : ℕ) (bs : List (List Instr)) (b : ℕ) → b < length bs → Wrote o (block_text r k (get_or bs b [])) p
    → Wrote p (blocks_text r (k + length (get_or bs b [])) (drop (b + 1) bs)) q → Wrote o (blocks_text r k (drop b bs)) q
unfolding blocks_text
wrote_block r k bs b h x y =
    let next : blocks_text r k (drop b bs) ≡ block_text r k (get_or bs b []) ++ blocks_text r (k + length (get_or bs b [])) (drop (b + 1) bs) =
    rw add-one (ap (blocks_text r k) (drop-cons bs b [] h)) in
    of_text (sym next) (x ▸ y)

pub wrote_blocks : {o : Buffer} (r k : ℕ) (bs : List (List Instr)) (b : ℕ) → length bs ≤ b → Wrote o (blocks_text r k (drop b bs)) o
unfolding blocks_text
wrote_blocks r k bs b h = of_text (sym (ap (blocks_text r k) (drop_of_length-le bs {i = b} h))) wrote_none

pub wrote_region : {o p q : Buffer} (xs : List Region) (r : ℕ) → r < length xs → Wrote o (region_text r (get_or xs r nowhere)) p
    → Wrote p (regions_text (r + 1) (drop (r + 1) xs)) q → Wrote o (regions_text r (drop r xs)) q
unfolding regions_text
wrote_region xs r h x y =
    let next : regions_text r (drop r xs) ≡ region_text r (get_or xs r nowhere) ++ regions_text (r + 1) (drop (r + 1) xs) =
    rw add-one (ap (regions_text r) (drop-cons xs r nowhere h)) in
    of_text (sym next) (x ▸ y)

pub wrote_regions : {o : Buffer} (xs : List Region) (r : ℕ) → length xs ≤ r → Wrote o (regions_text r (drop r xs)) o
unfolding regions_text
wrote_regions xs r h = of_text (sym (ap (regions_text r) (drop_of_length-le xs {i = r} h))) wrote_none
