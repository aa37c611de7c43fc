-- The parts of a sheet, one after another: nodes, lists with their count, rows that are put from the last to the first.
-- Looking up changes no number of a node or of a region.
use Rattle.std.specs.Prelude.{◌≡◌, false, ℕ, suc, ◌+◌, ◌-◌, ◌≤◌, ◌<◌, length, get_or}
use Rattle.std.proofs.Math.Path.{refl}
use Rattle.std.proofs.Common.{sym, ap, ◌∙◌, arith, zero-add}
use Rattle.std.proofs.Math.Bool.{or_assoc, or-false}
use mathlib.Core.List.{List, [], ◌∷◌, map, append_assoc, append-nil}
use Rattle.std.proofs.Math.Nat.{add-zero}
use Rattle.std.proofs.Math.ListN.{length-map}
use Rattle.meaning.specs.Lists.{any, concat}
use Rattle.meaning.specs.Graph.{Value}
use Rattle.meaning.specs.Runs.{Node, Nodes, ⟨⟩, ◌▸◌, Cases, ∅, case, block, select, loop, exit}
use Rattle.meaning.specs.facts.Numbers.{one_further}
use Rattle.nesting.specs.Nesting.{NestState, NodeOutput, LookUp, plain, join, look_up_node, look_up_nodes, look_up_cases}
use Rattle.nesting.specs.Sheet as sheet
use Rattle.sheet_words.specs.declared.place.Place.{Place}
use Rattle.sheet_words.specs.PutInFront.{Part, Puts}
use Rattle.sheet_words.specs.laws.PutInFrontLaws.{◌⊕◌, puts_then, puts_as}
use Rattle.sheet_words.specs.laws.Rows.{run, run_all, run_list}
use Rattle.sheet_words.specs.Parts.{each, output_nodes, look_up_at_end, value_part, values_part, node_part, nodes_part}
use Rattle.sheet_words.specs.Parts.{node_words}

-- ---- Parts in a row.
pub parts_assoc : (a b c : Part) → (a ⊕ b) ⊕ c ≡ a ⊕ b ⊕ c
parts_assoc a b c = rw (append_assoc a.value b.value c.value, or_assoc a.twice b.twice c.twice)

pub part_last : (a : Part) → a ⊕ plain [] ≡ a
part_last a = rw (append-nil a.value, or-false a.twice)

pub each_map : {A B : Type 0} (f : B → Part) (g : A → B) (xs : List A) → each f (map g xs) ≡ each (λ x. f (g x)) xs
each_map f g [] = refl
each_map f g (x ∷ xs) = ap (λ z. f (g x) ⊕ z) (each_map f g xs)

-- ---- Nodes.
module _ (s : NestState) where
  pub no_nodes_part : nodes_part s ⟨⟩ ≡ plain []
  unfolding nodes_part look_up_node node_words
  no_nodes_part = refl

  pub first_node_part : (k : Node) (ks : Nodes) → nodes_part s (k ▸ ks) ≡ node_part s k ⊕ nodes_part s ks
  unfolding nodes_part node_part look_up_node node_words
  first_node_part k ks = refl

  pub one_node_part : (k : Node) → nodes_part s (k ▸ ⟨⟩) ≡ node_part s k
  one_node_part k = first_node_part k ⟨⟩ ∙ rw no_nodes_part (part_last (node_part s k))

  pub joined_part : (a b : Nodes) → nodes_part s (join a b) ≡ nodes_part s a ⊕ nodes_part s b
  joined_part ⟨⟩ b = rw no_nodes_part
  joined_part (k ▸ a) b =
      rw (first_node_part k (join a b), joined_part a b, first_node_part k a)
      (sym (parts_assoc (node_part s k) (nodes_part s a) (nodes_part s b)))

-- ---- Numbers that looking up leaves as they are.
module _ (ρ : Value → LookUp Value) (os : List NodeOutput) where
  pub kids_looked_up : (ks : Nodes) → sheet.kids (look_up_nodes ρ os ks).value ≡ sheet.kids ks
  unfolding look_up_node
  kids_looked_up ⟨⟩ = refl
  kids_looked_up (block n r k is ▸ ks) = rw (kids_looked_up ks)
  kids_looked_up (select x cs ▸ ks) = rw (kids_looked_up ks)
  kids_looked_up (loop x body ▸ ks) = rw (kids_looked_up ks)
  kids_looked_up (exit n op vs ▸ ks) = rw (kids_looked_up ks)

  pub cases_looked_up : (cs : Cases) (n j : ℕ) → sheet.case_numbers (look_up_cases ρ os cs n j).value ≡ sheet.case_numbers cs
  unfolding look_up_node
  cases_looked_up ∅ n j = refl
  cases_looked_up (case c ks cs) n j = rw (cases_looked_up cs n (suc j))

-- ---- Lists of numbers and of values, with their count in front.
pub numbers_words : (ns : List ℕ) → (sheet.numbers ns).words ≡ length ns ∷ ns
numbers_words ns = rw (length-map ns sheet.a_number, go ns)
  where
    go : (ns : List ℕ) → concat (map (λ f. f.words) (map sheet.a_number ns)) ≡ ns
    go [] = refl
    go (n ∷ ns) = rw (go ns)

module _ (s : NestState) where
  pub values_counted : (vs : List Value) → values_part s vs ≡ plain (length vs ∷ []) ⊕ each (value_part s) vs
  unfolding values_part value_part
  values_counted vs = rw (
    length-map (map (λ v. (look_up_at_end s v).value) vs) (sheet.value (output_nodes s)),
    length-map vs (λ v. (look_up_at_end s v).value),
    words vs,
    notes vs,
  )
    where
      words : (vs : List Value)
          → concat (map (λ f. f.words) (map (sheet.value (output_nodes s)) (map (λ v. (look_up_at_end s v).value) vs)))
          ≡ concat (map (λ v. (value_part s v).value) vs)
      words [] = refl
      words (v ∷ vs) = rw (words vs)

      notes : (vs : List Value) → any (λ v. (look_up_at_end s v).twice) vs ≡ any (λ v. (value_part s v).twice) vs
      notes [] = refl
      notes (v ∷ vs) = rw (notes vs)

-- ---- Parts without a note.
pub each_plain : {A : Type 0} (f : A → List ℕ) (xs : List A) → each (λ x. plain (f x)) xs ≡ plain (concat (map f xs))
each_plain f xs = rw (none_met xs)
  where
    none_met : {A : Type 0} (xs : List A) → any (λ x. false) xs ≡ false
    none_met [] = refl
    none_met (x ∷ xs) = none_met xs

-- ---- A list of numbers, with its count in front.
words_alone : (ns : List ℕ) → each (λ n. plain (n ∷ [])) ns ≡ plain ns
words_alone [] = refl
words_alone (n ∷ ns) = let e = words_alone ns in rw (ap (λ p. p.value) e, ap (λ p. p.twice) e)

pub numbers_listed : (ns : List ℕ) → plain (length ns ∷ []) ⊕ each (λ n. plain (n ∷ [])) ns ≡ plain (length ns ∷ ns)
numbers_listed ns = ap (λ p. plain (length ns ∷ []) ⊕ p) (words_alone ns)

-- ---- A row that is put from the last to the first, and then its count.
module _ {A : Type 0} (f : A → Part) (d : A) (xs : List A) where
  pub puts_each : {n k : ℕ} {out out₁ : List ℕ} {at at₁ : Place} → n ≡ length xs → k ≤ 0
      → Puts out at (run (λ j. f (get_or xs j d)) k (n - k)) out₁ at₁ → Puts out at (each f xs) out₁ at₁
  puts_each {n} {k} size none p = puts_as (run_all _ n k none p) (run_list (λ j. f (get_or xs j d)) f d n xs size (λ j h. refl))

  pub puts_listed : {n k : ℕ} {out out₁ out₂ : List ℕ} {at at₁ at₂ : Place} → n ≡ length xs → k ≤ 0
      → Puts out at (run (λ j. f (get_or xs j d)) k (n - k)) out₁ at₁ → Puts out₁ at₁ (plain (n ∷ [])) out₂ at₂
      → Puts out at (plain (length xs ∷ []) ⊕ each f xs) out₂ at₂
  puts_listed size none p q = puts_then (puts_each size none p) (rw size at q)

-- ---- A list whose items have numbers, from k on.
unfoldable pub each_from : {A : Type 0} → (ℕ → A → Part) → ℕ → List A → Part
each_from f k [] = plain []
each_from f k (x ∷ xs) = f k x ⊕ each_from f (suc k) xs

module _ {A : Type 0} (f : ℕ → A → Part) (d : A) where
  run_from : (h : ℕ → Part) (m k : ℕ) (xs : List A) → ((j : ℕ) → j < length xs → h (m + j) ≡ f (k + j) (get_or xs j d))
      → run h m (length xs) ≡ each_from f k xs
  unfolding run each_from
  run_from h m k [] e = refl
  run_from h m k (x ∷ xs) e =
      let first : h m ≡ f k x = rw (add-zero m, add-zero k) at (e 0 (omega arith)) in
      let rest = run_from h (suc m) (suc k) xs (λ j l. rw (one_further m j, one_further k j) at (e (suc j) (omega arith))) in
      rw (first, rest)

  pub puts_from : (k₀ : ℕ) (xs : List A) {n k : ℕ} {out out₁ : List ℕ} {at at₁ : Place} → n ≡ length xs → k ≤ 0
      → Puts out at (run (λ j. f (k₀ + j) (get_or xs j d)) k (n - k)) out₁ at₁ → Puts out at (each_from f k₀ xs) out₁ at₁
  puts_from k₀ xs {n} {k} size none p =
      puts_as (run_all _ n k none p) (rw size (run_from (λ j. f (k₀ + j) (get_or xs j d)) 0 k₀ xs (λ j l. rw (zero-add j))))
