-- Steps one after another, and what stays shown over them: sets, bodies, regions.
use Rattle.std.specs.Prelude.{◌≡◌, refl, List, ℕ, ◌+◌, ◌<◌}
use Rattle.std.proofs.Common.{sym, subst, ◌∙◌, arith}
use Rattle.meaning.specs.Graph.{Graph}
use Rattle.meaning.specs.Runs.{Nodes}
use Rattle.nesting.specs.Nesting.{DeferredEdgeBundle, DeferredEdgeBundleSet, Body, StructurizeRegionState}
use Rattle.nesting.specs.Nesting.{ClaimedRegion}
use Rattle.state_words.specs.Sections.{word, set_starts, children}
use Rattle.state_shown.specs.laws.FrontKept.{front_same, front_then}
use Rattle.state_shown.specs.Sets.{ShowsBundle, ShowsSet, SameBundle}
use Rattle.state_shown.specs.Cells.{ShowsChildren}
use Rattle.state_shown.specs.States.{ShowsOwnSet, ShowsRegion, is_not_begun, is_in_progress, is_ready, is_claimed, ShowsBody}
use Rattle.state_shown.specs.States.{ShowsClaimed}
use Rattle.state_shown.specs.Kept.{PreservesMade, KeptRegion}
use Rattle.state_words.specs.Rows.{region_kind, bundle_condition_field, bundle_count_field, bundle_target_field}

pub preserves_same : (g : Graph) (w : List ℕ) → PreservesMade g w w
preserves_same g w = record { front = front_same w; conditions_stay = λ c. c; nodes_stay = λ n. n }

pub preserves_then : {g : Graph} {w w₁ w₂ : List ℕ} → PreservesMade g w w₁ → PreservesMade g w₁ w₂ → PreservesMade g w w₂
preserves_then a b =
    record {
      front = front_then a.front b.front;
      conditions_stay = λ c. b.conditions_stay (a.conditions_stay c);
      nodes_stay = λ n. b.nodes_stay (a.nodes_stay n);
    }

pub same_bundle : (w : List ℕ) (p : ℕ) → SameBundle w w p
same_bundle w p = record { words = λ i h. refl }

pub same_bundle_then : {w w₁ w₂ : List ℕ} {p : ℕ} → SameBundle w w₁ p → SameBundle w₁ w₂ p → SameBundle w w₂ p
same_bundle_then a b = record { words = λ i h. b.words i h ∙ a.words i h }

-- ---- Bundles and sets.
module _ {g : Graph} {w w' : List ℕ} (made_stays : PreservesMade g w w') where
  pub bundle_stays : {p : ℕ} {e : DeferredEdgeBundle} → SameBundle w w' p → ShowsBundle g w p e → ShowsBundle g w' p e
  bundle_stays same x =
      let four = x.few in
      record {
        target = rw (same.words bundle_target_field (omega arith)) x.target;
        count = same.words bundle_count_field (omega arith) ∙ x.count;
        condition = rw (same.words bundle_condition_field (omega arith)) (made_stays.conditions_stay x.condition);
        size = x.size;
        few = x.few;
        inputs = λ k h. rw (same.words (3 + k) (omega arith)) (x.inputs k h);
      }

  pub set_stays : {start n : ℕ} {d : DeferredEdgeBundleSet} → ((i : ℕ) → i < n → SameBundle w w' (start + i)) → ShowsSet g w start n d
      → ShowsSet g w' start n d
  set_stays same x =
      record {
        size = x.size;
        few = x.few;
        room = x.room;
        each = λ i h. bundle_stays (same i h) (x.each i h);
        apart = λ i j a b e. x.apart i j a b
            (sym ((same i (omega arith)).words bundle_target_field (omega arith)) ∙ e ∙ (same j b).words bundle_target_field (omega arith));
      }

pub kept_same : (w : List ℕ) (q : ℕ) → KeptRegion w w q
kept_same w q =
    record {
      set_start = refl;
      set_length = refl;
      handle = refl;
      body = refl;
      backedge = refl;
      target_answers = λ j h. refl;
      slot = λ i h. same_bundle w (word w set_starts q + i);
    }

pub kept_then : {w w₁ w₂ : List ℕ} {q : ℕ} → KeptRegion w w₁ q → KeptRegion w₁ w₂ q → KeptRegion w w₂ q
kept_then {w₁} {w₂} a b =
    record {
      set_start = b.set_start ∙ a.set_start;
      set_length = b.set_length ∙ a.set_length;
      handle = b.handle ∙ a.handle;
      body = b.body ∙ a.body;
      backedge = b.backedge ∙ a.backedge;
      target_answers = λ j h. b.target_answers j h ∙ a.target_answers j h;
      slot = λ i h. same_bundle_then (a.slot i h) (subst (λ p. SameBundle w₁ w₂ (p + i)) a.set_start (b.slot i h));
    }

module _ {g : Graph} {w w' : List ℕ} (made_stays : PreservesMade g w w') {q : ℕ} (kept : KeptRegion w w' q) where
  pub own_set_stays : {d : DeferredEdgeBundleSet} → ShowsOwnSet g w q d → ShowsOwnSet g w' q d
  own_set_stays x =
      let few = x.few in
      rw (kept.set_start, kept.set_length) (set_stays made_stays (λ i h. kept.slot i (omega arith)) x)

  pub children_stay : {ks : Nodes} → ShowsChildren g w (word w children q) ks → ShowsChildren g w' (word w' children q) ks
  children_stay x = rw kept.handle (made_stays.nodes_stay x)

  pub body_stays : {x : Body} → ShowsBody g w q x → ShowsBody g w' q x
  body_stays y = record { nodes = children_stay y.nodes; set = own_set_stays y.set }

  pub region_stays : region_kind w' q ≡ region_kind w q → {x : StructurizeRegionState} → ShowsRegion g w q x → ShowsRegion g w' q x
  region_stays e (is_not_begun a) = is_not_begun (e ∙ a)
  region_stays e (is_in_progress a) = is_in_progress (e ∙ a)
  region_stays e (is_ready a b n d) = is_ready (e ∙ a) (kept.backedge ∙ b) (children_stay n) (own_set_stays d)
  region_stays e (is_claimed a) = is_claimed (e ∙ a)

pub claimed_stays : {g : Graph} {w w' : List ℕ} → PreservesMade g w w' → {c : ClaimedRegion} → KeptRegion w w' c.origin
    → region_kind w' c.origin ≡ region_kind w c.origin → ShowsClaimed g w c → ShowsClaimed g w' c
claimed_stays made_stays kept e x =
    record {
      in_graph = x.in_graph;
      kind = e ∙ x.kind;
      body = kept.body ∙ x.body;
      body_below = x.body_below;
      nodes = children_stay made_stays kept x.nodes;
      set = own_set_stays made_stays kept x.set;
      size = x.size;
    }
