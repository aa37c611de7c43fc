-- Lists of words and of values that a reader has read, by place.
use Rattle.std.specs.Prelude.{◌≡◌, refl, Bool, true, false, List, [], ◌∷◌, length, ltb}
use Rattle.std.proofs.Common.{sym, ◌∙◌, one-mul, length-take, get_or-take, lt-ltb, ltb-true, ltb-false}
use Rattle.std.proofs.Math.Path.{ap}
use Prim.Native.Nat.{ℕ, zero, suc, ◌+◌, ◌*◌, ◌≤◌, ◌<◌}
use native.Mathlib.Omega.{arith}
use Rattle.std.proofs.Math.ListN.{get_or, get_or-eq_default}
use Rattle.meaning.specs.Graph.{Value, no_value}
use Rattle.format.specs.Read.{got, Reader, read_then, many, counted, word, type, read_value}
use Rattle.format.specs.laws.Readers.{part}
use Rattle.store.specs.Layout.{beyond}
use Rattle.record.specs.laws.Parts.{word_parts, within_parts, counted_parts}
use Rattle.record.specs.laws.PartsWithin.{ValueParts, value_parts}
use Rattle.record.specs.Stands.{words_of_record}
use Rattle.fields.specs.ByNumber.{ValuesAt}
use Rattle.fields.specs.ItemsAndPlaces.{placed, value_at, word_item, value_item, behind_words, behind_values}
use Rattle.meaning.specs.Lists.{pick}

-- A reader of items of one width, by what stands at their places.
pub record Fixed {A : Type 0} (read : Reader A) (ws : List ℕ) (width : ℕ) (item : ℕ → A) : Type 0 where
  pub is : (at : ℕ) {x : A} {e : ℕ} → read ws at ≡ got x e → x ≡ item at
  pub end : (at : ℕ) {x : A} {e : ℕ} → read ws at ≡ got x e → e ≡ at + width

-- A list whose count stands at p, with its items behind it.
pub record ListAt {A : Type 0} (w : List ℕ) (width : ℕ) (item : ℕ → A) (p : ℕ) (xs : List A) : Type 0 where
  pub count : get_or w p 0 ≡ length xs
  pub items : (d : A) (k : ℕ) → k < length xs → get_or xs k d ≡ item (p + 1 + width * k)

module _ {A : Type 0} (read : Reader A) (ws : List ℕ) (width : ℕ) (item : ℕ → A) (f : Fixed read ws width item) where
  pub many_items : (n at : ℕ) {xs : List A} {e : ℕ} → many n read ws at ≡ got xs e → (d : A) (k : ℕ) → k < n
      → get_or xs k d ≡ item (at + width * k)
  unfolding many
  many_items zero at h d k l = absurd (omega arith)
  many_items (suc n) at {xs} {e} h d zero l =
      let a = part (read ws at) (λ x i. read_then (many n read ws i) λ ys j. got (x ∷ ys) j) xs e h in
      let b = part (many n read ws a.place) (λ ys j. got (a.value ∷ ys) j) xs e a.second in
      let same : xs ≡ a.value ∷ b.value = cc in
      let here : at ≡ at + width * 0 = omega arith in
      ap (λ l. get_or l 0 d) same ∙ f.is at a.first ∙ ap item here
  many_items (suc n) at {xs} {e} h d (suc k) l =
      let a = part (read ws at) (λ x i. read_then (many n read ws i) λ ys j. got (x ∷ ys) j) xs e h in
      let b = part (many n read ws a.place) (λ ys j. got (a.value ∷ ys) j) xs e a.second in
      let same : xs ≡ a.value ∷ b.value = cc in
      let there : a.place + width * k ≡ at + width * suc k = omega (arith, f.end at a.first) in
      ap (λ l. get_or l (suc k) d) same ∙ many_items n a.place b.first d k (omega arith) ∙ ap item there

  pub many_width : (n at : ℕ) {xs : List A} {e : ℕ} → many n read ws at ≡ got xs e → e ≡ at + width * n
  unfolding many
  many_width zero at {e = e} h = let same : at ≡ e = cc in omega arith
  many_width (suc n) at {xs} {e} h =
      let a = part (read ws at) (λ x i. read_then (many n read ws i) λ ys j. got (x ∷ ys) j) xs e h in
      let b = part (many n read ws a.place) (λ ys j. got (a.value ∷ ys) j) xs e a.second in
      let same : b.place ≡ e = cc in
      omega (arith, f.end at a.first, many_width n a.place b.first)

-- What a list that was read says of the words: its list, and where it ends.
pub record ReadAt {A : Type 0} (w ws : List ℕ) (width : ℕ) (item : ℕ → A) (p : ℕ) (xs : List A) (e : ℕ) : Type 0 where
  pub list : ListAt w width item p xs
  pub end : e ≡ p + 1 + width * length xs
  pub inside : p < length ws

-- The record's words are the words in front.
module _ (w : List ℕ) where
  pub front : (i : ℕ) → i < length (words_of_record w) → get_or (words_of_record w) i 0 ≡ get_or w i 0
  front i l = get_or-take (get_or w 0 0) w i 0 (omega (arith, length-take (get_or w 0 0) w))

  pub word_fixed : Fixed word (words_of_record w) 1 (λ at. get_or w at 0)
  word_fixed =
      record {
        is = λ at h. let a = word_parts (words_of_record w) at h in a.is ∙ front at a.inside;
        end = λ at h. (word_parts (words_of_record w) at h).end;
      }

  pub type_fixed : Fixed type (words_of_record w) 1 (λ at. get_or w at 0)
  unfolding type
  type_fixed =
      record {
        is = λ at h. let a = within_parts 1 255 (words_of_record w) at h in a.is ∙ front at a.inside;
        end = λ at h. (within_parts 1 255 (words_of_record w) at h).end;
      }

  pub value_fixed : Fixed read_value (words_of_record w) 3 (value_at w)
  unfolding value_at
  value_fixed =
      record { is = λ at h. is at (value_parts (words_of_record w) at h); end = λ at h. (value_parts (words_of_record w) at h).end }
    where
      is : (at : ℕ) {v : Value} {e : ℕ} → ValueParts (words_of_record w) at v e → v ≡ value_at w at
      is at a =
          let i = a.inside in
          let first = front at (omega arith) in
          let second = front (at + 1) (omega arith) in
          let third = front (at + 2) (omega arith) in
          a.is ∙ rw (first, second, third)

  pub counted_at : {A : Type 0} (read : Reader A) (width : ℕ) (item : ℕ → A) → Fixed read (words_of_record w) width item
      → (low high p : ℕ) {xs : List A} {e : ℕ} → counted low high read (words_of_record w) p ≡ got xs e
      → ReadAt w (words_of_record w) width item p xs e
  counted_at read width item f low high p {xs} h =
      let a = counted_parts low high read (words_of_record w) p h in
      record {
        list =
            record {
              count = sym (front p a.inside) ∙ a.count;
              items =
                  many_items read (words_of_record w) width item f (length xs) (p + 1) a.items;
            };
        end = many_width read (words_of_record w) width item f (length xs) (p + 1) a.items;
        inside = a.inside;
      }

-- Item k of a list, also where it has none.
pub item_of : {A : Type 0} (w : List ℕ) (width : ℕ) (item : ℕ → A) {p : ℕ} {xs : List A} → ListAt w width item p xs → (d : A) (k : ℕ)
    → pick (ltb k (get_or w p 0)) (item (p + 1 + width * k)) d ≡ get_or xs k d
item_of w width item {p} {xs} l d k = by_test (ltb k (length xs)) refl
  where
    by_test : (t : Bool) → ltb k (length xs) ≡ t → pick (ltb k (get_or w p 0)) (item (p + 1 + width * k)) d ≡ get_or xs k d
    by_test true q = let below = ltb-true k (length xs) q in rw (l.count, q, l.items d k below)
    by_test false q = let above = ltb-false k (length xs) q in rw (l.count, q, get_or-eq_default xs d above)

module _ (w : List ℕ) {p : ℕ} where
  pub word_item_is : {xs : List ℕ} → ListAt w 1 (λ at. get_or w at 0) p xs → (k : ℕ) → word_item w p k ≡ get_or xs k 0
  unfolding word_item
  word_item_is l k = rw (one-mul k) at (item_of w 1 (λ at. get_or w at 0) l 0 k)

  pub value_item_is : {xs : List Value} → ListAt w 3 (value_at w) p xs → (k : ℕ) → value_item w p k ≡ get_or xs k no_value
  unfolding value_item
  value_item_is l k = item_of w 3 (value_at w) l no_value k

  pub values_listed : {xs : List Value} → ListAt w 3 (value_at w) p xs → ValuesAt w p xs
  values_listed l = record { count = l.count; item = value_item_is l }

-- A list that is not there has no items.
pub no_list : {A : Type 0} (w : List ℕ) (width : ℕ) (item : ℕ → A) (p : ℕ) → length w ≤ p → ListAt w width item p []
no_list w width item p past = record { count = get_or-eq_default w 0 past; items = λ d k l. absurd (omega arith) }

-- The place behind a list.
pub placed_small : (p : ℕ) → p < beyond → placed p ≡ p
unfolding placed
placed_small p l = rw (lt-ltb p beyond l)

module _ {A : Type 0} {w ws : List ℕ} {item : ℕ → A} {p : ℕ} {xs : List A} {e : ℕ} where
  pub behind_words_is : ReadAt w ws 1 item p xs e → e < beyond → behind_words w p ≡ e
  unfolding behind_words
  behind_words_is a l = let there : p + 1 + get_or w p 0 ≡ e = omega (arith, a.end, a.list.count) in ap placed there ∙ placed_small e l

  pub behind_values_is : ReadAt w ws 3 item p xs e → e < beyond → behind_values w p ≡ e
  unfolding behind_values
  behind_values_is a l =
      let there : p + 1 + 3 * get_or w p 0 ≡ e = omega (arith, a.end, a.list.count) in ap placed there ∙ placed_small e l
