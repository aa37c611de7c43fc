-- A region's state changes: it begins, it is ready, it is claimed.
use Rattle.std.specs.Prelude.{false, true, List, [], ◌∷◌, ◌⊎◌, ◌≡◌, ◌+◌, ◌<◌, ◌≤◌, suc, ℕ, eqb, length}
use Rattle.std.proofs.Common.{inl, inr, ◌∙◌, sym, arith, length-set, get_or-set_other, get_or-set_same, ne_eqb}
use Rattle.std.proofs.lemmas.Bool.{eqb-false}
use Rattle.meaning.specs.Runs.{Nodes}
use Rattle.meaning.specs.Graph.{Instr}
use Rattle.meaning.specs.facts.Tests.{clash, at_or_else, or_either}
use Rattle.nesting.specs.Nesting.{blocks_from, DeferredEdgeBundleSet, NestState, StructurizeRegionState, in_progress, not_begun, ready}
use Rattle.nesting.specs.steps.RegionsLeft.{state_of, with_state}
use Rattle.follows.specs.simulation.Key.{Key, instr_key, is_instr, of_input, of_instr, of_node, of_none, owns_nodes}
use Rattle.follows.specs.simulation.World.{World, size}
use Rattle.follows.specs.simulation.Tables.{gains_refl, tables}
use Rattle.follows.specs.simulation.Invariant.{Free, Inv, LaterState, New, Owned, Rewritable, idle, new, old, owned_by, unborn}
use Rattle.follows.specs.simulation.Invariant.{waiting}

module _ (W : World) (s : NestState) (r : ℕ) (x : StructurizeRegionState) (h : Inv W s) (r_in : r < size W) where
  abbrev pub changed : NestState
  changed = with_state s r x

  pub now : state_of changed r ≡ x
  now = get_or-set_same s.region_states r x not_begun (omega (arith, h.sized))

  pub else : (q : ℕ) → eqb q r ≡ false → state_of changed q ≡ state_of s q
  else q ne = get_or-set_other s.region_states r q x not_begun (eqb-false q r ne)

  pub r_born : s.region_count ≤ r → ⊥
  r_born p = omega (arith, h.room)

  -- ---- to a state that is not idle, from one that is
  module _ (was : idle (state_of s r) ≡ true) (is : idle x ≡ false) where
    pub not_r : (q b : ℕ) (ks : Nodes) (d : DeferredEdgeBundleSet) → state_of changed q ≡ ready b ks d → eqb q r ≡ false
    not_r q b ks d p = ne_eqb q r λ e. let z : x ≡ ready b ks d = sym now ∙ (rw e at p) in let z' : true ≡ false = rw z at is in clash (cc)

    pub still : (q b : ℕ) (ks : Nodes) (d : DeferredEdgeBundleSet) → state_of changed q ≡ ready b ks d → state_of s q ≡ ready b ks d
    still q b ks d p = sym (else q (not_r q b ks d p)) ∙ p

    pub owned_was : (κ : Key) → Owned changed κ → Owned s κ
    owned_was κ o = owned_by o (still o.region o.back o.children o.deferred_edges o.is)

    unbegun_was : (q : ℕ) → state_of changed q ≡ not_begun → state_of s q ≡ not_begun
    unbegun_was q p = at_or_else (state_of s q ≡ not_begun) q r
        (λ e. let z : x ≡ not_begun = sym now ∙ (rw e at p) in absurd (let z' : true ≡ false = rw z at is in clash (cc)))
        (λ ne. sym (else q ne) ∙ p)

    pub new_was : (κ : Key) → New changed κ → New s κ
    new_was (of_instr q) n = unbegun_was q n
    new_was (of_input q) n = n
    new_was (of_node a) n = n
    new_was of_none n = n

    pub free_was : (κ : Key) → Free changed κ → Free s κ
    free_was κ (old o) = old (owned_was κ o)
    free_was κ (new n) = new (new_was κ n)

    pub rewritable_was : (q : ℕ) → Rewritable W changed q → Rewritable W s q
    rewritable_was q (unborn le) = unborn le
    rewritable_was q (waiting lt p) = at_or_else (Rewritable W s q) q r
        (λ e. let z : idle x ≡ true = rw (e, now) at p in absurd (let z' : true ≡ false = sym z ∙ is in clash (cc)))
        (λ ne. waiting lt (rw (else q ne) at p))

    pub not_rewritable : Rewritable W changed r → ⊥
    not_rewritable (unborn le) = r_born le
    not_rewritable (waiting lt p) = let z : idle x ≡ true = rw now at p in let z' : true ≡ false = sym z ∙ is in clash (cc)

    pub inv_busy : Inv W changed
    inv_busy = record {
      rooted = h.rooted;
      sized = length-set s.region_states r x ∙ h.sized;
      room = h.room;
      sims = λ q b ks d p. h.sims q b ks d (still q b ks d p);
      sets = λ q b ks d p. h.sets q b ks d (still q b ks d p);
      disjoint = λ q q' b b' ks ks' d d' p p' ne. h.disjoint q q' b b' ks ks' d d' (still q b ks d p) (still q' b' ks' d' p') ne;
      fresh = λ v o n. h.fresh v (owned_was v o) (new_was v n);
      unrewritten = λ q l. h.unrewritten q (rewritable_was q l);
    }

    pub later_busy : LaterState W s changed
    later_busy = record {
      gains = gains_refl (tables s);
      free = free_was;
      rewritable = rewritable_was;
      kept = λ q n p. p;
      busy = λ q p. else q (not_busy q p) ∙ p;
    }
      where
        not_busy : (q : ℕ) → state_of s q ≡ in_progress → eqb q r ≡ false
        not_busy q p = ne_eqb q r λ e. let p' : state_of s r ≡ in_progress = rw e at p in let z : idle in_progress ≡ true = rw p' at was in
            clash (cc)

-- ---- who owns a region's blocks
pub blocks_own : (n r k : ℕ) (bs : List (List Instr)) (κ : Key) → owns_nodes (blocks_from n r k bs) κ ≡ true → κ ≡ of_instr r
unfolding owns_nodes
blocks_own n r k [] κ p = absurd (clash (cc))
blocks_own n r k (b ∷ bs) κ p = go (λ q. blocks_own (suc n) r (k + length b) bs κ q) (or_either (is_instr r κ) _ p)
  where
    go : (owns_nodes (blocks_from (suc n) r (k + length b) bs) κ ≡ true → κ ≡ of_instr r)
        → (is_instr r κ ≡ true) ⊎ (owns_nodes (blocks_from (suc n) r (k + length b) bs) κ ≡ true) → κ ≡ of_instr r
    go ih (inl q) = instr_key r κ q
    go ih (inr q) = ih q
