-- Document 01's case A as its record's words, and its listing, computed.
use Rattle.std.specs.Prelude.{◌≡◌, refl, List, [], ◌∷◌, ◌++◌, ℕ}
use Rattle.meaning.specs.Text.{ascii}
use Rattle.format.specs.Read.{read_record}
use Rattle.text_parts.specs.Listing.{listing_of, shown_text}

-- W; four regions, entry 0, test cost 2, two constants of type 2; then the regions.
abbrev words : List ℕ
words = 71 ∷ 4 ∷ 0 ∷ 2 ∷ 2 ∷ 2 ∷ 2 ∷ 0 ∷ 1 ∷ 1 ∷ 7 ∷ 1 ∷ 5 ∷ 0 ∷ 1 ∷ 4 ∷ 1 ∷ 2 ∷ 0 ∷ 0 ∷ 2 ∷ 1 ∷ 2 ∷ 0 ∷ 0 ∷ 0 ∷ 0 ∷ 1 ∷ 1 ∷ 8 ∷ 0 ∷ 3 ∷ 0
    ∷ 1 ∷ 3 ∷ 0 ∷ 1 ∷ 3 ∷ 1 ∷ 0 ∷ 0 ∷ 0 ∷ 0 ∷ 0 ∷ 1 ∷ 1 ∷ 9 ∷ 0 ∷ 4 ∷ 0 ∷ 1 ∷ 3 ∷ 0 ∷ 1 ∷ 3 ∷ 1 ∷ 0 ∷ 0 ∷ 1 ∷ 0 ∷ 1 ∷ 2 ∷ 0 ∷ 1 ∷ 1 ∷ 1 ∷ 1
    ∷ 3 ∷ 0 ∷ 0 ∷ 0 ∷ []

pub case_a : shown_text (read_record words)
    ≡ ascii "record regions 4 entry 0 test 2 constants 2,2\nregion 0 in - limit 1\nblock 0.0/7/1/5/-\n"
    ++ ascii "select bool d0.0 to 1,2\npass 1 in -\npass 2 in -\nexits -\nregion 1 in - limit 1\n"
    ++ ascii "block 1.0/8/0/3/-\nbranch to 3\npass 3 in c0\nexits -\nregion 2 in - limit 1\nblock 2.0/9/0/4/-\n"
    ++ ascii "branch to 3\npass 3 in c1\nexits -\nregion 3 in 2 limit 1\nreturn i3.0\nexits -\n"
unfolding read_record listing_of
case_a = refl
