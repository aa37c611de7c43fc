-- Which vectors agree: those whose listed answer is what is shown of their store, or its sheet with the sheet's words.
use Rattle.std.specs.Prelude.{◌≡◌, Bool, true, false, ◌&&◌, List, ℕ, ◌-◌, ◌≤◌, ◌<◌, length, get_or, eqb, ltb}
use Rattle.std.proofs.Common.{sym, ap, ◌∙◌, lt-ltb, le-ltb}
use Rattle.format.specs.Accept.{accept}
use Rattle.text_parts.specs.Listing.{shown_text}
use Rattle.vectors.specs.Same.{same_list}
use Rattle.vectors.specs.Parts.{behind, listed_store, answer_of}
use Rattle.replay_sheets.specs.Sheets.{is_nested}

abbrev pub is_shown : List ℕ → List ℕ → Bool
is_shown store listed = same_list (shown_text (accept store)) listed

-- The word before the store ends in t, as in `nest`, and not in `store`: the answer is a sheet's or its refusal's, with words.
abbrev pub of_sheet : List ℕ → Bool
of_sheet v = ltb 1 (behind 32 v) && eqb (get_or v (behind 32 v - 2) 0) 116

abbrev pub is_right : Bool → List ℕ → List ℕ → Bool
is_right true store listed = is_nested store listed
is_right false store listed = is_shown store listed

-- A longer vector is not kept whole.
abbrev pub agrees : List ℕ → Bool
agrees v = ltb (length v) 65536 && is_right (of_sheet v) (listed_store v) (answer_of v)

pub answer_too_long : (v : List ℕ) → 65536 ≤ length v → false ≡ agrees v
answer_too_long v h = rw (agrees, le-ltb (length v) 65536 h)

pub kept_whole : (v : List ℕ) → length v < 65536 → {s l : List ℕ} → s ≡ listed_store v → l ≡ answer_of v
    → {b : Bool} → of_sheet v ≡ b → {r : Bool} → r ≡ is_right b s l → r ≡ agrees v
kept_whole v h {s} {l} p q {b} kind is =
    is
    ∙ ap (λ x. is_right b x l) p
    ∙ ap (is_right b (listed_store v)) q
    ∙ ap (λ x. is_right x (listed_store v) (answer_of v)) (sym kind)
    ∙ rw (agrees, lt-ltb (length v) 65536 h)
