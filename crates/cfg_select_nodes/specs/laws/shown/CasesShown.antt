-- For every state that the words show: which case converges, and whether one has children, as the definition has it.
use Rattle.std.specs.Prelude.{◌≡◌, Bool, not, ◌||◌, length, get_or, set, eqb}
use Rattle.std.proofs.Math.Path.{refl}
use Rattle.std.proofs.Common.{ap, ◌∙◌, arith, eq-eqb, ne_eqb}
use Rattle.std.proofs.Math.Bool.{true, false}
use mathlib.Core.List.{List, [], ◌∷◌}
use Prim.Native.Nat.{ℕ, suc, ◌+◌, ◌≤◌, ◌<◌}
use Rattle.meaning.specs.Lists.{pick, empty}
use Rattle.meaning.specs.Graph.{Graph}
use Rattle.meaning.specs.Runs.{⟨⟩}
use Rattle.nesting.specs.Nesting as nesting
use Rattle.nesting.specs.Nesting.{MaybeClaimedRegion, ok, err, deferred_of, DeferredEdgeBundleSet, convergent_cases, without_convergent}
use Rattle.nesting.specs.Nesting.{has_children}
use Rattle.state_words.specs.Sections.{word, head}
use Rattle.state_shown.specs.States.{ShowsCase, shows_ok, shows_nothing, shows_edge, shows_others, ShowsCases, no_case}
use Rattle.state_shown.specs.Cells.{ShowsChildren, no_nodes}
use Rattle.state_shown.specs.laws.CellSteps.{has_list}
use Rattle.cfg_select_nodes.specs.Cases.{convergent_from, convergent_case, children_of, any_from, any_non_empty_case}
use Rattle.cfg_select_nodes.specs.laws.paths.CasesLaws.{children_none, children_some}
use Rattle.cfg_select_nodes.specs.laws.shown.Places.{From, first_of, rest_of, from_start}
use Rattle.nesting.specs.steps.TargetsAndCases.{children_in}
use Rattle.state_words.specs.Rows.{case_claimed, case_kind, case_set_length, cells_at}

-- ---- The convergent case.
-- What is found among cases from place j on.
pub data ConvergesFrom (j : ℕ) (cs : List MaybeClaimedRegion) (a : ℕ) : Type 0 where
  none_converges : a ≡ 8 → convergent_cases cs ≡ [] → ConvergesFrom j cs a
  one_converges : {i : ℕ} → a ≡ j + i → i < length cs → convergent_cases cs ≡ get_or cs i no_case ∷ []
      → without_convergent cs ≡ set cs i no_case → ConvergesFrom j cs a
  more_converge : {c d : MaybeClaimedRegion} {ds : List MaybeClaimedRegion} → a ≡ 8 → convergent_cases cs ≡ c ∷ d ∷ ds
      → ConvergesFrom j cs a

-- What follows a case that was found.
data FollowedBy (cs : List MaybeClaimedRegion) (found a : ℕ) : Type 0 where
  by_none : a ≡ found → convergent_cases cs ≡ [] → without_convergent cs ≡ cs → FollowedBy cs found a
  by_another : {c : MaybeClaimedRegion} {ds : List MaybeClaimedRegion} → a ≡ 8 → convergent_cases cs ≡ c ∷ ds → FollowedBy cs found a

-- One of two cases, by whether the set of c is empty.
data EmptyOrNot (l : List ℕ) (j : ℕ) (c : MaybeClaimedRegion) : Type 0 where
  is_empty : empty (deferred_of c) ≡ true → case_set_length l j ≡ 0 → EmptyOrNot l j c
  is_not : empty (deferred_of c) ≡ false → (case_set_length l j ≡ 0 → ⊥) → EmptyOrNot l j c

abbrev Sized : List ℕ → ℕ → MaybeClaimedRegion → Type 0
Sized l j c = case_set_length l j ≡ length (deferred_of c)

empty_or_not : (l : List ℕ) (j : ℕ) (c : MaybeClaimedRegion) → Sized l j c → EmptyOrNot l j c
empty_or_not l j c e = go (deferred_of c) refl
  where
    go : (d : DeferredEdgeBundleSet) → deferred_of c ≡ d → EmptyOrNot l j c
    go [] p = is_empty (rw p) (e ∙ rw p)
    go (x ∷ xs) p = is_not (rw p) (λ z. let n : length (deferred_of c) ≡ suc (length xs) = rw p in omega arith)

module _ (l : List ℕ) where
  followed : (cs : List MaybeClaimedRegion) (j found : ℕ) → From no_case (Sized l) j cs → found < 8
      → FollowedBy cs found (convergent_from l (length cs) j found)
  unfolding convergent_from
  followed [] j found f h = by_none refl refl refl
  followed (c ∷ cs) j found f h =
      go (followed cs (suc j) found (rest_of no_case (Sized l) j c cs f) h) (empty_or_not l j c (first_of no_case (Sized l) j c cs f))
    where
      on : empty (deferred_of c) ≡ true → {a : ℕ} → FollowedBy cs found a → FollowedBy (c ∷ cs) found a
      on e (by_none p q r) = by_none p (rw e q) (rw e (ap (λ ds. c ∷ ds) r))
      on e (by_another {c = d} {ds} p q) = by_another {c = d} {ds = ds} p (rw e q)

      go : FollowedBy cs found (convergent_from l (length cs) (suc j) found) → EmptyOrNot l j c
          → FollowedBy (c ∷ cs) found (convergent_from l (length (c ∷ cs)) j found)
      go rest (is_empty e z) = rw (eq-eqb _ _ z) (on e rest)
      go rest (is_not e z) =
          rw (ne_eqb _ _ z, ne_eqb found 8 (omega arith)) (by_another {c = c} {ds = convergent_cases cs} refl (rw e refl))

  converges : (cs : List MaybeClaimedRegion) (j : ℕ) → From no_case (Sized l) j cs → j + length cs ≤ 8
      → ConvergesFrom j cs (convergent_from l (length cs) j 8)
  unfolding convergent_from
  converges [] j f h = none_converges refl refl
  converges (c ∷ cs) j f h =
      let rest = rest_of no_case (Sized l) j c cs f in
      go rest (converges cs (suc j) rest (omega arith)) (empty_or_not l j c (first_of no_case (Sized l) j c cs f))
    where
      on : empty (deferred_of c) ≡ true → {a : ℕ} → ConvergesFrom (suc j) cs a → ConvergesFrom j (c ∷ cs) a
      on e (none_converges p q) = none_converges p (rw e q)
      on e (one_converges {i} p k q r) = one_converges {i = suc i} (omega arith) (omega arith) (rw e q) (rw e (ap (λ ds. c ∷ ds) r))
      on e (more_converge {c = a} {d} {ds} p q) = more_converge {c = a} {d = d} {ds = ds} p (rw e q)

      found : empty (deferred_of c) ≡ false → {a : ℕ} → FollowedBy cs j a → ConvergesFrom j (c ∷ cs) a
      found e (by_none p q r) =
          one_converges {i = 0} (omega arith) (omega arith) (rw e (ap (λ ds. c ∷ ds) q)) (rw e (ap (λ ds. no_case ∷ ds) r))
      found e (by_another {c = d} {ds} p q) = more_converge {c = c} {d = d} {ds = ds} p (rw e (ap (λ ds. c ∷ ds) q))

      go : From no_case (Sized l) (suc j) cs → ConvergesFrom (suc j) cs (convergent_from l (length cs) (suc j) 8) → EmptyOrNot l j c
          → ConvergesFrom j (c ∷ cs) (convergent_from l (length (c ∷ cs)) j 8)
      go sized rest (is_empty e z) = rw (eq-eqb _ _ z) (on e rest)
      go sized rest (is_not e z) = rw (ne_eqb _ _ z) (found e (followed cs (suc j) j sized (omega arith)))

-- ---- Children of the cases.
no_children : {g : Graph} {w : List ℕ} (j : ℕ) → 1 ≤ word w head cells_at → (case_kind w j ≡ case_claimed → ⊥)
    → ShowsChildren g w (children_of w j) ⟨⟩
no_children {w} j one d = rw (← children_none w j d) (record { nodes = no_nodes refl; made = one })

module _ {g : Graph} {w : List ℕ} {r : ℕ} where
  -- Where there is a cell: cell 0 is none.
  pub children_shown : 1 ≤ word w head cells_at → (j : ℕ) (c : MaybeClaimedRegion) → ShowsCase g w r j c
      → ShowsChildren g w (children_of w j) (children_in c)
  children_shown one j (ok c) (shows_ok k o b s t n a z i) = rw (← children_some w j k) n
  children_shown one j (err d) (shows_nothing k z) = no_children j one (λ e. omega arith)
  children_shown one j (err d) (shows_edge k a z) = no_children j one (λ e. omega arith)
  children_shown one j (err d) (shows_others k a) = no_children j one (λ e. omega arith)

  any_shown : 1 ≤ word w head cells_at → (cs : List MaybeClaimedRegion) (j : ℕ) → From no_case (ShowsCase g w r) j cs
      → any_from w (length cs) j ≡ nesting.any_non_empty_case cs
  unfolding any_from
  any_shown one [] j f = refl
  any_shown one (c ∷ cs) j f =
      let n = children_shown one j c (first_of no_case (ShowsCase g w r) j c cs f) in
      go c (has_list n) (any_shown one cs (suc j) (rest_of no_case (ShowsCase g w r) j c cs f))
    where
      by : (b : Bool) {x y : Bool} → x ≡ y → pick b x true ≡ (not b || y)
      by true e = e
      by false e = refl

      go : (c : MaybeClaimedRegion) → has_children (children_in c) ≡ not (eqb (children_of w j) 0)
          → {x : Bool} → x ≡ nesting.any_non_empty_case cs
          → pick (eqb (children_of w j) 0) x true ≡ nesting.any_non_empty_case (c ∷ cs)
      go (ok c) e q = rw e (by (eqb (children_of w j) 0) q)
      go (err d) e q = by (eqb (children_of w j) 0) q ∙ rw (← e)

  module _ {cs : List MaybeClaimedRegion} (shown : ShowsCases g w r cs) where
    pub convergent_shown : ConvergesFrom 0 cs (convergent_case w)
    convergent_shown =
        let few = shown.few in
        rw shown.size (converges w cs 0 (from_start no_case (Sized w) cs (λ j h. (shown.sets j h).size)) (omega arith))

    pub any_non_empty_shown : 1 ≤ word w head cells_at → any_non_empty_case w ≡ nesting.any_non_empty_case cs
    any_non_empty_shown one = rw shown.size (any_shown one cs 0 (from_start no_case (ShowsCase g w r) cs shown.each))
