-- The visit behind `reachable`: it takes what the entry reaches, nothing else, and nothing twice.
use Rattle.std.specs.Prelude.{◌≡◌, ◌⊎◌, Bool, ◌||◌, length, get_or, eqb}
use Rattle.std.proofs.Math.Path.{refl}
use Rattle.std.proofs.Common.{ap, arith, length-append, eq-eqb}
use Rattle.std.proofs.Math.Logic.{inl, inr}
use Rattle.std.proofs.Math.Bool.{true, false}
use mathlib.Core.List.{List, [], ◌∷◌, ◌++◌}
use Prim.Native.Nat.{ℕ, zero, suc, ◌+◌, ◌≤◌}
use Rattle.std.proofs.lemmas.List.{length-map}
use Rattle.meaning.specs.Graph.{Region, Graph, region, nowhere, edges_of, targets_of}
use Rattle.meaning.specs.Lists.{is_in, Distinct, total, pick}
use Rattle.meaning.specs.facts.Tests.{clash}
use Rattle.nesting.specs.Nesting.{visit, reachable}
use Rattle.follows.specs.Reaches.{Reaches, entry, target}
use Rattle.meaning.specs.facts.Members.{in_front, in_rest, FirstOrRest, first, rest, first_or_rest, in_left, in_right, left_or_right}

module _ (g : Graph) where
  -- ---- one visit for each edge is enough
  abbrev outs : Region → ℕ
  outs x = length (edges_of x.terminator)

  -- the edges that lead from the regions from number k on that are not in `seen`
  abbrev unseen : ℕ → List Region → List ℕ → ℕ
  unseen k [] seen = 0
  unseen k (x ∷ xs) seen = pick (is_in k seen) 0 (outs x) + unseen (suc k) xs seen

  pick_less : (n : ℕ) (a b : Bool) → pick (a || b) 0 n ≤ pick b 0 n
  pick_less n true b = omega arith
  pick_less n false b = omega arith

  unseen_less : (k : ℕ) (xs : List Region) (r : ℕ) (seen : List ℕ) → unseen k xs (r ∷ seen) ≤ unseen k xs seen
  unseen_less k [] r seen = omega arith
  unseen_less k (x ∷ xs) r seen = omega (arith, unseen_less (suc k) xs r seen, pick_less (outs x) (eqb k r) (is_in k seen))

  -- seeing region r takes its edges away
  unseen_takes : (k : ℕ) (xs : List Region) (i r : ℕ) (seen : List ℕ) → r ≡ k + i → is_in r seen ≡ false
      → outs (get_or xs i nowhere) + unseen k xs (r ∷ seen) ≤ unseen k xs seen
  unseen_takes k [] i r seen e h = omega arith
  unseen_takes k (x ∷ xs) zero r seen e h =
      let k_r : k ≡ r = omega arith in
      let now : is_in k (r ∷ seen) ≡ true = rw (eq-eqb k r k_r) in
      let before : is_in k seen ≡ false = rw k_r h in
      rw (now, before) (omega (arith, unseen_less (suc k) xs r seen))
  unseen_takes k (x ∷ xs) (suc i) r seen e h =
      omega (arith, unseen_takes (suc k) xs i r seen (omega arith) h, pick_less (outs x) (eqb k r) (is_in k seen))

  unseen_all : (k : ℕ) (xs : List Region) → unseen k xs [] ≡ total (λ r. length (edges_of r.terminator)) xs
  unseen_all k [] = refl
  unseen_all k (x ∷ xs) = ap (λ n. outs x + n) (unseen_all (suc k) xs)

  -- ---- complete: what was to be visited was, and the targets of what was visited
  Closed : List ℕ → List ℕ → Type 0
  Closed seen todo = (r x : ℕ) → is_in r seen ≡ true → is_in x (targets_of g r) ≡ true → (is_in x seen ≡ true) ⊎ (is_in x todo ≡ true)

  record Visited (todo seen out : List ℕ) : Type 0 where
    keeps : (x : ℕ) → is_in x seen ≡ true → is_in x out ≡ true
    takes : (x : ℕ) → is_in x todo ≡ true → is_in x out ≡ true
    closed : Closed out []

  visited_all : (todo seen : List ℕ) → length todo ≡ 0 → Closed seen todo → Visited todo seen seen
  unfolding Closed
  visited_all [] seen e c = record { keeps = λ x i. i; takes = λ x i. cc; closed = c }
  visited_all (x ∷ todo) seen e c = absurd (omega arith)

  -- region r, next to be visited, was seen already
  closed_without : (r : ℕ) (seen todo : List ℕ) → is_in r seen ≡ true → Closed seen (r ∷ todo) → Closed seen todo
  unfolding Closed
  closed_without r seen todo h c q x i j = elim (c q x i j) [ inl k ↦ inl k | inr k ↦ go (first_or_rest x r todo k) ]
    where
      go : FirstOrRest x r todo → (is_in x seen ≡ true) ⊎ (is_in x todo ≡ true)
      go (first e) = inl (rw e h)
      go (rest k) = inr k

  visited_without : (r : ℕ) (seen todo out : List ℕ) → is_in r seen ≡ true → Visited todo seen out → Visited (r ∷ todo) seen out
  visited_without r seen todo out h v = record { keeps = v.keeps; takes = λ x i. go x (first_or_rest x r todo i); closed = v.closed }
    where
      go : (x : ℕ) → FirstOrRest x r todo → is_in x out ≡ true
      go x (first e) = v.keeps x (rw e h)
      go x (rest k) = v.takes x k

  -- region r is seen now, and its targets are to be visited
  closed_with : (r : ℕ) (seen todo : List ℕ) → Closed seen (r ∷ todo) → Closed (r ∷ seen) (targets_of g r ++ todo)
  unfolding Closed
  closed_with r seen todo c q x i j = go (first_or_rest q r seen i)
    where
      Found : Type 0
      Found = (is_in x (r ∷ seen) ≡ true) ⊎ (is_in x (targets_of g r ++ todo) ≡ true)

      waited : FirstOrRest x r todo → Found
      waited (first e) = inl (rw (eq-eqb x r e))
      waited (rest k) = inr (in_right x (targets_of g r) todo k)

      go : FirstOrRest q r seen → Found
      go (first e) = inr (in_left x (targets_of g r) todo (rw e at j))
      go (rest k) = elim (c q x k j) [ inl l ↦ inl (in_rest x r seen l) | inr l ↦ waited (first_or_rest x r todo l) ]

  visited_with : (r : ℕ) (seen todo out : List ℕ) → Visited (targets_of g r ++ todo) (r ∷ seen) out → Visited (r ∷ todo) seen out
  visited_with r seen todo out v =
      record { keeps = λ x i. v.keeps x (in_rest x r seen i); takes = λ x i. go x (first_or_rest x r todo i); closed = v.closed }
    where
      go : (x : ℕ) → FirstOrRest x r todo → is_in x out ≡ true
      go x (first e) = v.keeps x (rw (eq-eqb x r e))
      go x (rest k) = v.takes x (in_right x (targets_of g r) todo k)

  abbrev enough : ℕ → List ℕ → List ℕ → Type 0
  enough fuel todo seen = length todo + unseen 0 g.regions seen ≤ fuel

  enough_with : (fuel r : ℕ) (todo seen : List ℕ) → is_in r seen ≡ false → enough (suc fuel) (r ∷ todo) seen
      → enough fuel (targets_of g r ++ todo) (r ∷ seen)
  enough_with fuel r todo seen h l =
      let many : length (targets_of g r ++ todo) ≡ outs (region g r) + length todo = simp (length-append, length-map) in
      omega (arith, unseen_takes 0 g.regions r r seen (omega arith) h)

  visited : (fuel : ℕ) (todo seen : List ℕ) → enough fuel todo seen → Closed seen todo → Visited todo seen (visit g fuel todo seen)
  unfolding visit
  visited zero todo seen l c = visited_all todo seen (omega arith) c
  visited (suc fuel) [] seen l c = visited_all [] seen refl c
  visited (suc fuel) (r ∷ todo) seen l c = go (is_in r seen) refl (λ t s. visited fuel t s)
    where
      go : (b : Bool) → is_in r seen ≡ b → ((t s : List ℕ) → enough fuel t s → Closed s t → Visited t s (visit g fuel t s))
          → Visited (r ∷ todo) seen (elim b [ true ↦ visit g fuel todo seen | false ↦ visit g fuel (targets_of g r ++ todo) (r ∷ seen) ])
      go true h ih = visited_without r seen todo _ h (ih todo seen (omega arith) (closed_without r seen todo h c))
      go false h ih = visited_with r seen todo _
          (ih (targets_of g r ++ todo) (r ∷ seen) (enough_with fuel r todo seen h l) (closed_with r seen todo c))

  all_visited : Visited (g.entry ∷ []) [] (reachable g)
  unfolding Closed
  all_visited = visited _ (g.entry ∷ []) [] (omega (arith, unseen_all 0 g.regions)) (λ r x i j. absurd (clash (cc)))

  pub entry_reachable : is_in g.entry (reachable g) ≡ true
  entry_reachable = all_visited.takes g.entry (in_front g.entry [])

  pub target_reachable : (r x : ℕ) → is_in r (reachable g) ≡ true → is_in x (targets_of g r) ≡ true → is_in x (reachable g) ≡ true
  unfolding Closed
  target_reachable r x i j = elim (all_visited.closed r x i j) [ inl k ↦ k | inr k ↦ cc ]

  pub reachable_complete : (x : ℕ) → Reaches g x → is_in x (reachable g) ≡ true
  reachable_complete x entry = entry_reachable
  reachable_complete x (target {r = r} y h i) = target_reachable r y (reachable_complete r h) i

  -- ---- sound: only what the entry reaches is visited
  abbrev AllReached : List ℕ → Type 0
  AllReached xs = (x : ℕ) → is_in x xs ≡ true → Reaches g x

  reached_now : (r : ℕ) (todo : List ℕ) → AllReached (r ∷ todo) → AllReached (targets_of g r ++ todo)
  reached_now r todo h x i =
      elim (left_or_right x (targets_of g r) todo i) [ inl k ↦ target x (h r (in_front r todo)) k | inr k ↦ h x (in_rest x r todo k) ]

  reached_with : (r : ℕ) (seen todo : List ℕ) → AllReached (r ∷ todo) → AllReached seen → AllReached (r ∷ seen)
  reached_with r seen todo t s x i = elim (first_or_rest x r seen i) [ first e ↦ rw e (t r (in_front r todo)) | rest k ↦ s x k ]

  visit_reached : (fuel : ℕ) (todo seen : List ℕ) → AllReached todo → AllReached seen → AllReached (visit g fuel todo seen)
  unfolding visit
  visit_reached zero todo seen t s = s
  visit_reached (suc fuel) [] seen t s = s
  visit_reached (suc fuel) (r ∷ todo) seen t s = go (is_in r seen) (λ todo' seen'. visit_reached fuel todo' seen')
    where
      go : (b : Bool) → ((todo' seen' : List ℕ) → AllReached todo' → AllReached seen' → AllReached (visit g fuel todo' seen'))
          → AllReached (elim b [ true ↦ visit g fuel todo seen | false ↦ visit g fuel (targets_of g r ++ todo) (r ∷ seen) ])
      go true ih = ih todo seen (λ x i. t x (in_rest x r todo i)) s
      go false ih = ih (targets_of g r ++ todo) (r ∷ seen) (reached_now r todo t) (reached_with r seen todo t s)

  pub reachable_sound : (x : ℕ) → is_in x (reachable g) ≡ true → Reaches g x
  reachable_sound = visit_reached _ (g.entry ∷ []) []
      (λ x i. elim (first_or_rest x g.entry [] i) [ first e ↦ rw e entry | rest k ↦ absurd (clash (cc)) ]) (λ x i. absurd (clash (cc)))

  -- ---- each once
  visit_once : (fuel : ℕ) (todo seen : List ℕ) → Distinct seen → Distinct (visit g fuel todo seen)
  unfolding visit
  visit_once zero todo seen h = h
  visit_once (suc fuel) [] seen h = h
  visit_once (suc fuel) (r ∷ todo) seen h = go (is_in r seen) refl (λ t s. visit_once fuel t s)
    where
      go : (b : Bool) → is_in r seen ≡ b → ((t s : List ℕ) → Distinct s → Distinct (visit g fuel t s))
          → Distinct (elim b [ true ↦ visit g fuel todo seen | false ↦ visit g fuel (targets_of g r ++ todo) (r ∷ seen) ])
      go true p ih = ih todo seen h
      go false p ih = ih (targets_of g r ++ todo) (r ∷ seen) (p, h)

  pub reachable_once : Distinct (reachable g)
  reachable_once = visit_once _ (g.entry ∷ []) [] tt
